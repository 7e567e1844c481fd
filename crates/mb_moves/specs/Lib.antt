pub mod Grid
pub mod GridText
pub mod FirstFault
pub mod Written
pub mod Testing
pub mod TableText
pub mod Laws
pub mod loops
