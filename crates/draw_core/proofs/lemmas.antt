pub mod ReadArguments
pub mod RangeText
