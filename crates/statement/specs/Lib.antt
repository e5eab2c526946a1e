pub mod Kinds
pub mod Parting
pub mod Reading
pub mod Writing
