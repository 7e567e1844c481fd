pub mod Finds
pub mod Laws
pub mod Premises
pub mod Samples
pub mod Verdict
pub mod loops
