pub mod Levels
pub mod Frame
pub mod Further
pub mod Gathering
pub mod Laws
pub mod Moving
pub mod Windows
