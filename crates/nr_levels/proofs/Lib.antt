mod Going
pub mod Stacked
pub mod Pushing
pub mod Cutting
mod Reversed
