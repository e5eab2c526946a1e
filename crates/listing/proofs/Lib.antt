pub mod Listings
pub mod Copies
