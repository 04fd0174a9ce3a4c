pub mod Tested
pub mod Placed
pub mod Obeyed
