pub mod Cells
pub mod Letters
pub mod Reading
pub mod Showing
