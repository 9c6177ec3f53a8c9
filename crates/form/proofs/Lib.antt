pub mod Groups
pub mod Names
pub mod Pairs
pub mod Pending
pub mod Fine
