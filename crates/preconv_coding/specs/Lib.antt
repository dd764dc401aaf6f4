pub mod Laws
pub mod Names
pub mod Part
pub mod Sets
pub mod Tag
pub mod UnderCoding
pub mod Wide
