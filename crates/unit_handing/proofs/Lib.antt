-- What is proved of calls as they are handed over.
pub mod Served
