pub mod Refusals
pub mod Described
pub mod Waiting
pub mod Filling
pub mod Loads
