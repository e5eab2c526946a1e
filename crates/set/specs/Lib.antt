pub mod Viewed
pub mod Written
