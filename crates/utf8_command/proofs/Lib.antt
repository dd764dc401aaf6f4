pub mod Choices
pub mod Running
pub mod Turns
