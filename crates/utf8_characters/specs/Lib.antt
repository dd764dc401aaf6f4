pub mod OneCell
pub mod Tables
