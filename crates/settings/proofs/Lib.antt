pub mod SettingsLaws
pub mod CommandLaws
pub mod DataLaws
pub mod SettleLaws
