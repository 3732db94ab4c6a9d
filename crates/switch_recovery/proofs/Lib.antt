pub mod RestoringLaws
pub mod RecoveringLaws
