pub mod Reader
pub mod Header
pub mod Entries
pub mod Calls
