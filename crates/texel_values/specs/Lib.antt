pub mod Values
pub mod Square
pub mod Overlap
pub mod Region
pub mod RegionShape
pub mod Met
pub mod Area
