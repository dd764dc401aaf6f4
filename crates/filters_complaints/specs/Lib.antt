pub mod Blocks
pub mod Complaints
pub mod Lines
pub mod Names
