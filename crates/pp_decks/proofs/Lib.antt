pub mod CutTexts
pub mod LineLengths
pub mod LineTexts
