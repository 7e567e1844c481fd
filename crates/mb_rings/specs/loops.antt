pub mod Before
pub mod Found
pub mod InTurn
pub mod RingList
