pub mod Book
pub mod Chains
pub mod Law
pub mod Sound
pub mod Replies
pub mod State
pub mod Keeps
pub mod Runs
