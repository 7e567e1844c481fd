-- What the loops keep and their steps answer; no public contract speaks of it.
pub mod Reads
pub mod RowTests
pub mod Support
