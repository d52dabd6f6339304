-- Laws of the exchange. Promises says what holds of every event in every state; the others lead there, or serve a proof of the code.
pub mod Judged
pub mod Told
pub mod Every
pub mod Promises
pub mod Examples
