pub mod Stamp
pub mod Version
