pub mod Itself
pub mod Long
pub mod MarksRead
pub mod OpeningTable
pub mod SentWhole
pub mod Tests
