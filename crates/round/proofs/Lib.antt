pub mod Answering
pub mod Elsewhere
pub mod Filling
pub mod Pinning
pub mod Playing
pub mod Replying
