pub mod Ancestry
pub mod Paints
pub mod Painting
pub mod Refusing
