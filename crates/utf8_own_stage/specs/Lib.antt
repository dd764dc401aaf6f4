pub mod Coding
pub mod Laws
pub mod Letters
pub mod Plain
pub mod Points
