-- What is proved of the settings: in their ranges they are held as given, and nothing that clamps them is ever felt.
pub mod Narrowing
pub mod Accepting
