pub mod Wipe
pub mod Effects
pub mod Answers
pub mod Showing
