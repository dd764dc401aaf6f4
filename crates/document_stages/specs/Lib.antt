pub mod Buffer
pub mod Counted
pub mod Joined
pub mod Pulling
pub mod Running
pub mod Stepping
pub mod Switch
