pub mod Plan
pub mod Items
pub mod PlanOf
pub mod Sound
pub mod ActorWord
pub mod LoadPlans
