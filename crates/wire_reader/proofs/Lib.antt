-- What a ruling of reading tells of what is read.
pub mod Rulings
