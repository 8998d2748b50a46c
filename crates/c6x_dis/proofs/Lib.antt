mod Bytes
pub mod Numbers
pub mod Valid
mod Reading
pub mod Words
pub mod Behind
pub mod Signs
pub mod Cuts
pub mod Lexed
pub mod ShownNumbers
pub mod Names
pub mod ShownOperands
pub mod Forms
pub mod Spelled
pub mod ShownValid
pub mod TextCuts
pub mod Found
pub mod Read
mod Even
mod First
mod Sections
mod Steps
mod Assembled
pub mod Shown
