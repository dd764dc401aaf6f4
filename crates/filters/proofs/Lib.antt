pub mod After
pub mod Joining
pub mod Opening
pub mod Runs
pub mod Telling
pub mod Words
