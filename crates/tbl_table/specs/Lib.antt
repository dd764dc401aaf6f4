pub mod Formats
pub mod Held
pub mod Lists
pub mod Requests
pub mod Rows
pub mod Signs
pub mod Sums
pub mod Table
