-- For speed: many items at once: stretches of bytes, and what a stretch may be passed by.
pub mod Runs
pub mod Stretch
pub mod Passing
pub mod ControlNames
pub mod Interpolations
pub mod RequestLines
pub mod Braces
pub mod ConditionStretches
pub mod StringStretches
pub mod InText
pub mod InArgument
pub mod InDefinition
pub mod Rereading
pub mod LineBeginnings
