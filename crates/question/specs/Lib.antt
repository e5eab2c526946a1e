pub mod Asked
pub mod Asking
