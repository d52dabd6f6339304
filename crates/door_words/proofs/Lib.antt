-- Laws of the words that their reader cites.
pub mod ByKind
