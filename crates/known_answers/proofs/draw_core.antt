pub mod ArgumentsAndLines
pub mod SeedAnswers
pub mod WholeTexts
pub mod RangeRequests
pub mod CommandLines
pub mod ShuffleTexts
pub mod BadRequests
pub mod BadArguments
