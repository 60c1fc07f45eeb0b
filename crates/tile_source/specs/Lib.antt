pub mod Pass
pub mod Texel
pub mod Call
pub mod Cause
pub mod Making
pub mod Source
pub mod Uncached
