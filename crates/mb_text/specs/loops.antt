-- What the reading of tokens keeps: numbers cut past every limit.
pub mod Capped
