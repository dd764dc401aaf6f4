pub mod Finishing
pub mod Going
pub mod Passing
pub mod Plain
pub mod Moving
