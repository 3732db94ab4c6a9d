pub mod RecordCodecs
pub mod GrammarLaws
pub mod ReadingLaws
pub mod TakenLaws
pub mod ViewLaws
pub mod AheadLaws
pub mod CheckLaws
pub mod TextLaws
