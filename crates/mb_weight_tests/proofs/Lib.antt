pub mod OwnRings
