-- What a line asks of the unit.
pub mod Asking
