pub mod WordCountLemmas
pub mod HandLemmas
pub mod PlaceLemmas
pub mod ResultLemmas
pub mod RetryLemmas
pub mod SplitMixLemmas
