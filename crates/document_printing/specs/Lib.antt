pub mod Document
pub mod Laws
pub mod Showing
pub mod Tables
