pub mod Given
pub mod Hyphenation
pub mod Laws
pub mod Rows
pub mod Table
pub mod Trap
pub mod Traps
pub mod Word
