pub mod Filling
pub mod Holding
pub mod Laws
pub mod Memory
pub mod Rooms
pub mod Staged
pub mod Steps
pub mod Text
