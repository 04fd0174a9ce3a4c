pub mod Measures
pub mod Settings
pub mod Products
pub mod Filing
pub mod Why
pub mod Examples
pub mod Piled
