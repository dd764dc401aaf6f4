pub mod Complaints
pub mod Converting
pub mod Lines
pub mod Names
pub mod Naming
pub mod Telling
pub mod Watching
pub mod Wording
