-- What is proved of the calls of the exchange.
pub mod Barring
pub mod Unheard
pub mod Stamps
pub mod Room
