pub mod AsBox
pub mod AsRoom
