pub mod PlainLevel
pub mod Fault
