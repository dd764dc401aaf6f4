pub mod Places
pub mod Spares
pub mod Rotation
pub mod Removal
pub mod Changes
pub mod Exchange
pub mod Rooms
mod Rotating
pub mod Giving
pub mod Shared
