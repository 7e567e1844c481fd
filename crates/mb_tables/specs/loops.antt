pub mod Cell
pub mod Parts
pub mod Turn
