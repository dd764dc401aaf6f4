pub mod Looking
pub mod Names
