pub mod Rests
pub mod Relation
pub mod Walks
