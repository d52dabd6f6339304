-- Frames, the own Delay_Req and the round trips.
pub mod Frames
