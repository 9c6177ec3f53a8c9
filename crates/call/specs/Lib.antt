pub mod Outcome
pub mod Reasons
pub mod Calls
pub mod Read
pub mod Ended
