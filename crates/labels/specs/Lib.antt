pub mod Formulas
pub mod Kinds
pub mod Laws
pub mod Lawful
