pub mod RowsThere
pub mod ToldLaws
pub mod Refusals
pub mod RecoveredLaws
pub mod SummaryLaws
