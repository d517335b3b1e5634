pub mod Numbers
pub mod Pictures
pub mod Pieces
pub mod Planes
pub mod Readings
pub mod Thinnings
