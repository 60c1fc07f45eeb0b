pub mod Caller
pub mod Invalid
pub mod Passes
