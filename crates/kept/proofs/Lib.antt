pub mod Comparing
pub mod Counting
pub mod Pairs
pub mod Strings
