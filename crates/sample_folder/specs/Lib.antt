pub mod Sample
pub mod SampleFolder
pub mod SampleLaws
