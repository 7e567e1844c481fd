pub mod RecordTable
pub mod RowsInTable
pub mod Known
pub mod Effects
pub mod Kept
