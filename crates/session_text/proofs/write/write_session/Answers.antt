use Rattle.std.proofs.Common.{ℕ, List, ◌++◌, ap, ◌∙◌}
use Rattle.serde_json.specs.Written.{compact_text}
use Rattle.catalogue.specs.PlanOf.{plan_of}
use Rattle.session_draft.specs.Json.{json_of}
use Rattle.session_text.specs.SessionData.{data_of}
use Rattle.session_text.specs.Canonical.{canonical}
use Rattle.session_text.proofs.SessionBack.{session_back}
use Rattle.session_text.proofs.SessionJson.{canonical_json}
use Rattle.session_text.proofs.WholeReadsBack.{draft_read}
use Rattle.session_text.proofs.write.write_session.Goals as goal

pub returns-clause-text : goal.returns-clause-text
unfolding canonical
returns-clause-text c =
    let value : List ℕ = compact_text (data_of (plan_of c.args.session.now)) in
    ap (λ v. v.items) c.into_bytes.ensures.value ∙ c.in_ok-push_session.ensures.text ∙ ap (λ (l : List ℕ). l ++ value) c.new-text.ensures.bytes

pub returns-clause-json : goal.returns-clause-json
returns-clause-json c =
    let kept = c.in_ok-push_session.ensures in
    ap json_of (returns-clause-text c) ∙ canonical_json (plan_of c.args.session.now) kept.typed kept.actors

pub returns-clause-draft : goal.returns-clause-draft
returns-clause-draft c sound = draft_read (plan_of c.args.session.now) c.into_bytes.result.items (returns-clause-json c) sound c.in_ok-push_session.ensures.typed

pub returns-clause-session : goal.returns-clause-session
returns-clause-session c sound = session_back (plan_of c.args.session.now) c.into_bytes.result.items sound (returns-clause-draft c sound)
