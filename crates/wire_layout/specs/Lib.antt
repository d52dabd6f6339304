-- Messages as they lie in octets, and what reading and writing answer.
pub mod Kinds
pub mod Positions
pub mod Suffix
pub mod Reading
pub mod Writing
