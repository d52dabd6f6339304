-- Laws of a measurement: that i64 holds it exactly, and that what lies too far away changes no verdict.
pub mod Exact
pub mod Far
