pub mod Measure
pub mod Inner
