pub mod Column
pub mod Rows
pub mod Claims
pub mod Truth
pub mod Sets
pub mod Merging
pub mod Combining
pub mod Counting
