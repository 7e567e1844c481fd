pub mod Pathless
pub mod Tree
