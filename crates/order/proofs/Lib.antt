pub mod Due
pub mod Follows
pub mod Outcomes
pub mod Orders
pub mod Settles
pub mod Filed
