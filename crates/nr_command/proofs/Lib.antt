pub mod Openings
pub mod Telling
