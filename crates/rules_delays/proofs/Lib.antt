-- Laws of the delays: how the lower middle is counted out, what it is, and what the five hold.
pub mod Tests
pub mod Counts
pub mod Newest
pub mod Middle
