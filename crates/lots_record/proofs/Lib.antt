pub mod QuotedLemmas
pub mod RecordLemmas
pub mod ClaimLemmas
pub mod SpellingLemmas
pub mod PlainLemmas
pub mod CheckLemmas
pub mod Utf8Lemmas
pub mod SumLemmas
mod CommandLemmas
