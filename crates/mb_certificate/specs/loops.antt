-- What the reading of a text keeps.
pub mod Counted
