pub mod Sample
pub mod Passes
pub mod Plane
