pub mod Recent
pub mod Items
pub mod Runs
