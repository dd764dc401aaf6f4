pub mod Texts
pub mod Slot
pub mod Spares
pub mod Rooms
pub mod Laws
pub mod Exchange
pub mod Removal
pub mod Sharing
