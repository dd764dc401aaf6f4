pub mod Bursts
mod Choices
pub mod FirstBytes
pub mod Going
mod Hearing
mod Lightening
pub mod LimitsStay
pub mod Measured
mod Moving
pub mod NextMoves
mod Selected
pub mod Spending
pub mod Standing
pub mod Working
