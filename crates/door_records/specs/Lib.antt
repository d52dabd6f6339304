-- What each record of C tells, and how it is made.
pub mod Parts
pub mod Unit
pub mod Masters
