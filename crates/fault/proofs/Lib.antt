pub mod First
pub mod Groups
