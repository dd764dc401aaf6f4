pub mod Faces
pub mod FilledText
pub mod Laws
pub mod Limited
pub mod Moves
pub mod PlainText
pub mod Printed
