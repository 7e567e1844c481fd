pub mod Beside
pub mod Between
pub mod loops
