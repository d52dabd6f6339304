pub mod Records
pub mod Comparison
pub mod Places
pub mod Choosing
pub mod Admitting
pub mod Holding
pub mod Inner
