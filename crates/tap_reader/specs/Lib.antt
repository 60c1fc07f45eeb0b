pub mod TapReader
pub mod TapReaderLaws
pub mod ReadAhead
