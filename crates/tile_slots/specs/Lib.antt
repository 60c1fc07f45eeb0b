pub mod RowPart
pub mod FillError
pub mod Slot
