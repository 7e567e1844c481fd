pub mod Cached
pub mod Graph
pub mod Keyed
pub mod Needs
pub mod ReadRing
pub mod Rounds
pub mod Worked
