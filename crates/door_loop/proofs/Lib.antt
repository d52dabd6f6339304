-- The loop over the door's calls is the unit; and the ways through the calls, which proofs of door_leaving and door cite.
pub mod Ways
pub mod Calls
pub mod Choosing
pub mod Loop
