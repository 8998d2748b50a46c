pub mod File
pub mod Hash
pub mod FilePlaces
pub mod FileSizes
pub mod Tables
pub mod Text
pub mod Alignments
pub mod Codes
pub mod Dynamics
pub mod Groups
pub mod Layouts
pub mod Places
pub mod RegionRows
pub mod Regions
pub mod Shared
pub mod Sizes
pub use Rattle.c6x_layout.specs.declared.limits.TheConstants as Limits
pub mod Apart
