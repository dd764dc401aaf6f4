pub mod Giving
pub mod Named
pub mod Unchanged
pub mod Units
