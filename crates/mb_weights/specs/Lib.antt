pub mod Binomial
pub mod Decimals
pub mod Laws
pub mod PValue
pub mod Weight
pub mod loops
