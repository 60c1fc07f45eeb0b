pub mod Pinned
pub mod Cell
