pub mod Columns
pub mod HeldRows
pub mod Lines
pub mod OutsideText
pub mod Rows
pub mod Texts
