pub mod Complaints
pub mod Filled
pub mod Pages
pub mod Parts
pub mod Pens
pub mod Staying
pub mod Texts
pub mod Turns
