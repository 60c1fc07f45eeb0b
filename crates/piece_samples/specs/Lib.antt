pub mod Unpacked
pub mod Places
pub mod Beyond
pub mod LayoutOf
pub mod TexelRow
