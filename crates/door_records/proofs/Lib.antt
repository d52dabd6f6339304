-- Laws of the records: Backs, what was made tells it again; Fresh, zeros tell what is fresh.
pub mod Backs
pub mod Fresh
