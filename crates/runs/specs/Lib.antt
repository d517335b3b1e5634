pub mod Bytes
pub mod RunCall
pub mod RunFaults
pub mod RunPins
pub mod Runs
pub mod Script
