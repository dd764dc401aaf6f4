pub mod AfterMacros
pub mod Carried
pub mod Prefixes
pub mod Reached
pub mod Whole
