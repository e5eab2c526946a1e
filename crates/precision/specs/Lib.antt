pub mod Claims
pub mod Texts
