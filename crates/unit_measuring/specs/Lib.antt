pub mod Measuring
pub mod Barring
pub mod Hearing
pub mod Asking
pub mod Frame
pub mod Inner
