pub mod Going
pub mod Keeping
pub mod Kept
pub mod Looking
pub mod Making
