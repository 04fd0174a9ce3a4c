pub mod Order
pub mod Told
pub mod Format
pub mod Passing
pub mod Fills
pub mod Headings
pub mod Examples
