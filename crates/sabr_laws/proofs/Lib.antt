pub mod SameListing
pub mod Alike
pub mod FewerContacts
pub mod Limited
pub mod PlanTexts
pub mod OneText
pub mod CutTexts
