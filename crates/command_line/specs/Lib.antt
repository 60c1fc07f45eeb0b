pub mod Range
pub mod Command
pub mod RunOptions
pub mod Invocation
