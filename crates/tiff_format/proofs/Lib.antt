pub mod BytesOfParts
pub mod LongNumbers
pub mod Planes
pub mod FewBlocks
pub mod Sizes
pub mod FirstFault
