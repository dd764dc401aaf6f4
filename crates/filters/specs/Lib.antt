pub mod Arguments
pub mod Disk
pub mod Endings
pub mod Lines
pub mod Program
pub mod Turning
