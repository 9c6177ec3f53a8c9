pub mod Rows
pub mod Tables
pub mod Entries
pub mod Effects
pub mod Judge
pub mod Step
pub mod Compare
pub mod Hunt
