pub mod Overwrite
pub mod Digits
pub mod Filled
