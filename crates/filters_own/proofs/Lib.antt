pub mod FirstBytes
pub mod Naming
pub mod Owning
