-- What the steps that choose promise: what an Announce and the bare time call are to store, by the rules of the unit.
pub mod Choosing
