pub mod Median
pub mod Delays
