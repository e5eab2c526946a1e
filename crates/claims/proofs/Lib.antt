pub mod Lists
pub mod Claiming
pub mod Views
