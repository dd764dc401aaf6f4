mod Heard
pub mod HeardText
pub mod Held
pub mod Pieces
mod RequestLines
mod Runs
mod Steps
mod Texts
