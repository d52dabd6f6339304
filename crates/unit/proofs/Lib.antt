-- What is proved of the unit. What is demanded of it stands in the crate demands.
pub mod Fair
pub mod Lasting
pub mod Fairly
pub mod Refusals
pub mod Faults
pub mod Wipes
pub mod Simulation
