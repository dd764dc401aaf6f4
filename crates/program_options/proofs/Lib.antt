pub mod Parting
pub mod Telling
