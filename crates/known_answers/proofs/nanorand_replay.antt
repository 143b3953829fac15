pub mod BufferedRequests
pub mod Replays
