pub mod Joining
pub mod Names
pub mod Places
