pub mod Receiving
pub mod Calls
pub mod Machine
