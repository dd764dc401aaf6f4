pub mod Answering
pub mod Looked
pub mod Parting
pub mod Reading
pub mod Running
pub mod Turns
pub mod Written
