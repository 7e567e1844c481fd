pub mod Classes
pub mod Elimination
pub mod Laws
pub mod Limits
pub mod NormalForm
pub mod ReducedBasis
pub mod RuleList
pub mod Sides
