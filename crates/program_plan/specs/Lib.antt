pub mod Kinds
pub mod Macros
pub mod Others
pub mod Prefix
pub mod Before
pub mod Texts
