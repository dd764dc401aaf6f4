pub mod PlainNumbers
pub mod TabStops
