pub mod Documents
pub mod Lines
pub mod OwnLines
pub mod Rooms
