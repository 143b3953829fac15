pub mod Card
pub mod Cases
pub mod Choice
pub mod Deals
pub mod Retry
pub mod SplitMix
