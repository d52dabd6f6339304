-- What is proved of a second pulse.
pub mod Pulses
