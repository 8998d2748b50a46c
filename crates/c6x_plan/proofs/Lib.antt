pub mod LinesLeft
pub mod Drafting
pub mod Places
pub mod LinkDrafting
pub mod Within
pub mod RunDrafting
pub mod RunWithin
