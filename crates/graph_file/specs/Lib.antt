pub mod Words
pub mod Layout
pub mod ParentWords
pub mod Encoding
pub mod Writing
pub mod Placing
pub mod Outputs
