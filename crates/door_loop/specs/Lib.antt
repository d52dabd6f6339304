-- What the door promises: the parts after each call, and the main loop over them.
pub mod Lending
pub mod Loop
