pub mod Beavers
pub mod Examples
pub mod FileMachines
pub mod FileRules
pub mod Ones
pub mod Places
