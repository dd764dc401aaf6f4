pub mod Arguments
pub mod Complaints
pub mod Converting
pub mod Looking
