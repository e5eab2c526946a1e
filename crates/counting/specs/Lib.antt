pub mod Tallied
pub mod Counted
