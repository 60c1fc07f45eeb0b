pub mod Stored
pub mod Pixels
pub mod Masks
pub mod PlaneSamples
