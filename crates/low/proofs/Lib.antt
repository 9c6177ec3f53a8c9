pub mod LowLaws
pub mod ZeroWords
