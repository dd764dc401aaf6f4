pub mod Cell
pub mod Items
pub mod Lends
