pub mod Endings
pub mod Own
pub mod Plan
pub mod Printing
pub mod Program
pub mod Running
pub mod Warnings
