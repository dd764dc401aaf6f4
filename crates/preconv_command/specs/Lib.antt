pub mod Arguments
pub mod Converting
pub mod Through
pub mod Unshown
