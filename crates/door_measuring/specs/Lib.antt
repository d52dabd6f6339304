-- What the steps of the exchange promise: what each of its calls is to store, by the rules of the unit.
pub mod Measuring
pub mod Asking
