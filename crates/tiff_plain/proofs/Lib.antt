pub mod FieldLemmas
pub mod FindLemmas
pub mod ShapeLemmas
pub mod LevelLemmas
