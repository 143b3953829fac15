pub mod LineLemmas
pub mod DrawLemmas
pub mod PlaceLemmas
