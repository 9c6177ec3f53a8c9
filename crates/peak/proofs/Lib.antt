pub mod Patterns
pub mod PairLaws
pub mod Order
