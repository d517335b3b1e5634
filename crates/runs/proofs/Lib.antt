pub mod Beating
pub mod Checked
pub mod Passed
pub mod Playing
pub mod RunPins
pub mod Scripts
pub mod Shapes
pub mod Timelines
