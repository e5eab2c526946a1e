pub mod Even
pub mod Running
pub mod Filling
pub mod Telling
