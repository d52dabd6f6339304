pub mod Ticking
pub mod Inner
