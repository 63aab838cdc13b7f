pub mod Fewer
pub mod OneText
pub mod CutTexts
