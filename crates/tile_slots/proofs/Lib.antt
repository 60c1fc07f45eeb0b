pub mod PartTexels
