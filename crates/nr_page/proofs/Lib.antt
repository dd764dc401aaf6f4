mod Covering
mod Prefixes
mod Gapped
mod Keeping
mod Laying
mod PageText
mod Showing
pub mod DecimalText
pub mod ItemText
pub mod ListText
mod Beginning
