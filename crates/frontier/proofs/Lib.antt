pub mod Few
pub mod Fronts
pub mod Members
pub mod Ranks
pub mod Sifts
