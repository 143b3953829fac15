pub mod QuotedTexts
pub mod Documents
