-- Big-endian numbers in octets.
pub mod Octets
