pub mod Traced
pub mod TraceTexts
