pub mod Halves
pub mod Said
pub mod Table
pub mod Events
pub mod Inner
