-- The theorems: Demands states them, and the files before it prove what it cites. Numbers has examples of each formula, worked out by hand.
mod Refusing
mod Requests
mod Lines
mod Staying
mod Waiting
mod Keeping
mod Wiping
mod Limiting
mod Samples
mod Parts
pub mod Demands
pub mod Numbers
