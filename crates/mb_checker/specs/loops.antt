pub mod Joined
pub mod Lines
pub mod Taken
pub mod Walked
