pub mod Copying
pub mod Edits
mod Written
