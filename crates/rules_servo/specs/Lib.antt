-- What is to be believed of the servo.
pub mod Offsets
pub mod Ten
pub mod Steps
pub mod Shows
