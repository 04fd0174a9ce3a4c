pub mod Sound
pub mod Pieces
pub mod Puts
pub mod Tables
pub mod Amends
pub mod Lifts
pub mod Rules
pub mod Examples
