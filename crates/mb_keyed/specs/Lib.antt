pub mod loops
