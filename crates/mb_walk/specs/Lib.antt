pub mod Owned
pub mod loops
