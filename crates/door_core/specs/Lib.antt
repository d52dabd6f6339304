-- What the steps of the door promise: what each call is to store, by the rules of the unit.
pub mod Wiping
pub mod Receiving
pub mod Ticking
pub mod Showing
pub mod Making
