-- Laws of the layout that reading and writing cite, and the two round trips.
pub mod Known
pub mod Walk
pub mod Sizes
pub mod Cases
pub mod Stores
pub mod Ranges
pub mod Trips
