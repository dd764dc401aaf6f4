pub mod Keeping
pub mod Travelling
