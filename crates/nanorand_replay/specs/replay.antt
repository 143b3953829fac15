pub mod Replay
pub mod Asked
pub mod Unbroken
