pub mod Reporting
pub mod Running
pub mod Turns
pub mod TwoStages
