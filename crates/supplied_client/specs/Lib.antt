pub mod Client
pub mod Code
pub mod Answer
pub mod Request
pub mod Unanswered
pub mod Calls
pub mod Batch
pub mod Supplies
