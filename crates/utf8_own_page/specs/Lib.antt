pub mod Lacking
pub mod Laws
pub mod Looking
pub mod Needing
pub mod Signs
