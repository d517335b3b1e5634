pub mod Fault
pub mod Input
pub mod InputCalls
pub mod Lines
pub mod Picture
pub mod Trace
pub mod Words
