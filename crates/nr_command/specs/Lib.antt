pub mod Disk
pub mod Faults
pub mod Memory
pub mod Program
pub mod Opening
pub mod Running
