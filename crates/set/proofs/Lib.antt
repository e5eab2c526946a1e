pub mod Properly
mod Written
