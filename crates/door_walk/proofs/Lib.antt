-- Laws of walks by hand, of any type and any crate.
pub mod Plain
pub mod Walk
pub mod Rows
pub mod Fields
pub mod Again
pub mod Called
pub mod Locals
pub mod Pieces
