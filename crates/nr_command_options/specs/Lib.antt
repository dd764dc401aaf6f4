pub mod Chained
pub mod Files
pub mod Inputs
pub mod Settings
pub mod Job
pub mod Usage
pub mod Arguments
