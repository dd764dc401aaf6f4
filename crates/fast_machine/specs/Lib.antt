pub mod EmptyLines
pub mod Escapes
pub mod LineBeginnings
pub mod NextEscapes
pub mod Rereading
pub mod Running
