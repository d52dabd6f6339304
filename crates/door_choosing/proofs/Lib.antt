-- Laws that the proofs of this crate share.
mod Five
pub mod Seating
