pub mod Searches
pub mod ScriptRules
pub mod ItemLists
pub mod WithinLimits
pub mod ScriptLists
pub mod ScheduleWords
pub mod SoundText
