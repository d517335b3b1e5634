pub mod Agreement
pub mod Count
pub mod KeptFile
