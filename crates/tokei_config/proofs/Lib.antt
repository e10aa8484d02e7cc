pub mod FileTexts
pub mod Founds
pub mod InOrder
pub mod Lists
pub mod SettingReads
