pub mod Each
pub mod Within
mod Lines
mod Texts
mod Words
mod Steps
mod Read
mod Small
mod Alone
mod Openings
mod Grown
mod Apart
mod Library
mod LibraryEnd
mod LibraryNames
mod App
mod AppEnd
mod LibraryObject
mod Pushed
mod Callees
mod AppObject
mod AssembledSources
pub mod Below
mod Prefixes
mod Readable
mod Linking
pub mod LibraryFile
mod Libraries
pub mod AppFile
pub mod AppNames
pub mod AppSizes
pub mod Reach
pub mod AppEntries
pub mod AppCounts
pub mod AppPasses
pub mod LinkedCallees
pub mod LinkedAppObject
pub mod AppLinked
mod LinkedSources
mod Bytes
mod Filing
mod ModuleTexts
mod Linkable
mod Reading
mod LibraryParts
mod LibraryModules
mod AppStubs
mod AppOrders
mod AppNeeds
mod AppFields
mod AppEntry
mod AppModule
mod Executables
mod Shapes
mod Members
mod Lists
mod Found
mod Bound
