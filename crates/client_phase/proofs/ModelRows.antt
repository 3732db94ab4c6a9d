-- The rows of the model's step make what the actions make.
use Rattle.std.proofs.Common.{◌≡◌, ◌-◌, List, take, length, refl, ap, ◌∙◌, arith}
use Rattle.std.proofs.lemmas.List.{length-take-le}
use Rattle.txn_model.specs.declared.stamp.Seen.{Seen}
use Rattle.host_store.specs.Store.{seen_at}
use Rattle.warm_split.specs.Joined.{joined}
use Rattle.core_model.specs.State.{script_now}
use Rattle.core_model.proofs.Moves.{moved_client}
use Rattle.fabric_model.specs.Intents.{values_of}
use Rattle.fabric_model.specs.Step.{lost, granted, refused, released, decided, logged, posted, taken, installed}
use Rattle.client_phase.specs.Laws.{RowsAreStepped, LossesAreStepped}
use Rattle.client_phase.specs.Shown.{shown_now}
use Rattle.client_phase.proofs.Rows.{next_shown, aborting_shown, granted_shown, decided_shown, logged_shown, posted_shown, taken_shown, installed_shown}

length-front : (noted : List Seen) → length (take (length noted - 1) noted) ≡ length noted - 1
length-front noted = length-take-le (length noted - 1) noted (omega arith)

pub rows_are_stepped : RowsAreStepped
unfolding granted refused released decided logged posted taken installed
rows_are_stepped plan s c x parts lt here =
    record {
      granted = λ op asks next. ap (shown_now plan c) (moved_client s.clients c _ lt) ∙ granted_shown plan c x parts here op (seen_at s.store op.tuple) asks next;
      refused = λ op k by. ap (shown_now plan c) (moved_client s.clients c _ lt) ∙ aborting_shown plan c x x.noted (length x.noted) refl;
      released = λ k. ap (shown_now plan c) (moved_client s.clients c _ lt) ∙ aborting_shown plan c x (take (length x.noted - 1) x.noted) (length x.noted - 1) (length-front x.noted);
      decided = λ asks next cold some. ap (shown_now plan c) (moved_client s.clients c _ lt) ∙ decided_shown plan c x parts here asks next cold some;
      logged = λ asks next. ap (shown_now plan c) (moved_client s.clients c _ lt) ∙ logged_shown plan c x parts here asks next;
      posted = λ after is. ap (shown_now plan c) (moved_client s.clients c _ lt) ∙ posted_shown plan c x parts here is;
      taken = λ answer after is. ap (shown_now plan c) (moved_client s.clients c _ lt) ∙ taken_shown plan c x parts here answer.number (joined plan.layout (script_now plan c x) (values_of x.noted) answer.pairs) is;
      installed = λ step k is. ap (shown_now plan c) (moved_client s.clients c _ lt) ∙ installed_shown plan c x parts here k is;
    }

pub losses_are_stepped : LossesAreStepped
unfolding lost
losses_are_stepped plan s c x parts lt = ap (shown_now plan c) (moved_client s.clients c _ lt) ∙ next_shown plan c x
