-- Laws of the masters. For callers: Times, Comparing, Choices, Admissions, Keys; for calls that read the records one by one: Standings, Candidates; the
-- example of rule 5.15: Examples. The rest serves these and the proofs of the code.
pub mod Times
pub mod Smaller
pub mod Comparing
pub mod Examples
pub mod Placing
pub mod Keys
pub mod Barring
pub mod Order
pub mod Standings
pub mod Seating
pub mod Admissions
pub mod Keeping
pub mod Choices
pub mod Candidates
