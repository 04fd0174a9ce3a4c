pub mod Layouts
pub mod Entries
pub mod Sets
pub mod Codes
pub mod CodeExamples
pub mod Texts
pub mod Readings
pub mod Examples
