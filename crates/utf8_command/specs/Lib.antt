pub mod Arguments
pub mod Choosing
pub mod Converting
