-- A pipeline that shows a state of the switch's model goes on as the model does.
pub use Rattle.pipeline.proofs.Answered.{post_shown, answer_shown, vacant_seen}
pub use Rattle.pipeline.proofs.Entering.{enter_shown}
pub use Rattle.pipeline.proofs.Advancing.{advance_shown}
pub use Rattle.pipeline.proofs.Restoring.{fresh_shown, restored_shown}
