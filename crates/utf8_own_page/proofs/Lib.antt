mod Looks
pub mod Left
pub mod PagesCovered
pub mod Plain
