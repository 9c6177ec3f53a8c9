pub mod Arms
pub mod Rows
