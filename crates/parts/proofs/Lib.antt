pub mod Turn
pub mod Stores
