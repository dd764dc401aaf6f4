pub mod Nexts
pub mod RuleLines
