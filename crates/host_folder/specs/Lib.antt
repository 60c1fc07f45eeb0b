pub mod RealWorld
pub mod Listing
pub mod RealHandle
pub mod RealTap
pub mod RealFolder
