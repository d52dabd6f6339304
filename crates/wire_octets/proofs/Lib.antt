-- Laws of octets: numbers of any width written and read, and as std reads and writes them; two's complement.
pub mod Digits
pub mod Complement
