-- What is proved of the servo. `Theorems` has what its readers want to know.
pub mod Elements
pub mod Tens
pub mod Limits
pub mod Steering
pub mod Spreads
pub mod Theorems
