pub mod Draw
pub mod SampleLookup
pub mod MadeList
pub mod Size
pub mod Summary
pub mod Sample
