-- The sizes of the images of the tests, and the files of whole runs.
pub mod Names
pub mod Sides
pub mod Tiles
