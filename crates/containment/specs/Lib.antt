pub mod Trails
pub mod Refusing
pub mod Visits
pub mod Settling
pub mod Questions
pub mod Waiting
