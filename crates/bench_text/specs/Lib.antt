-- What the buffer promises.
pub mod Out
