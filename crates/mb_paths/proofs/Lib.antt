pub mod Explored
pub mod GivenPaths
pub mod GrownTrees
pub mod TreePaths
pub mod TreeSteps
pub mod WayBack
