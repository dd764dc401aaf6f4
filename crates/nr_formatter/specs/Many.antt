-- For speed: many moves at once: words, cells, empty lines, requests that only set.
pub mod Runs
pub mod CellBytes
pub mod EmptyLines
pub mod Obeying
pub mod LineEnds
pub mod LineBeginnings
