pub mod OptionsSoFar
pub mod SquareEntries
