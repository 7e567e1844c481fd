pub mod Factors
pub mod Parts
pub mod SmallWays
