pub mod Record
pub mod Files
pub mod Calls
pub mod Idle
pub mod Aheads
pub mod Picture
