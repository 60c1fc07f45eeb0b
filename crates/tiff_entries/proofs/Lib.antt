pub mod Products
pub mod Entries
pub mod Covering
pub mod Parts
pub mod FieldValues
pub mod Finding
pub mod Shown
pub mod Saying
