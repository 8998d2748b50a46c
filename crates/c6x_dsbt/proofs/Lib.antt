pub mod FewNeeds
pub mod Folded
pub mod Listed
