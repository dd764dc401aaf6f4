pub mod Asking
pub mod Chaining
pub mod Completing
pub mod FirstBad
pub mod InOrder
pub mod Letters
pub mod Parting
pub mod Telling
