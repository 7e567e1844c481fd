-- What only loops need: no part of what the contracts say.
pub mod CappedEntries
pub mod Commas
pub mod Fills
pub mod Gathers
pub mod Headers
pub mod Index
pub mod Keys
pub mod NewLevels
pub mod Totals
