use Rattle.std.proofs.Common.{◌≡◌, ℕ, List, [], ◌∷◌, ◌++◌, string_bytes, sym, ap, ◌∙◌, subst}
use Rattle.std.specs.List.{AllByRecursion}
use Rattle.session_text.specs.SessionData.{schedule_text}
use Rattle.session_text.specs.Typed.{IsTypedActor}
use Rattle.session_text.proofs.Escapes.{schedule_plain}
use Rattle.session_text.proofs.Joined.{joined}
use Rattle.session_text.proofs.section.push_schedule.Goals as goal

pub returns-clause-text : goal.returns-clause-text
returns-clause-text c =
    let start : List ℕ = string_bytes c.args.text.now in
    let opened : List ℕ = string_bytes c.push_str.new.self in
    let worded : List ℕ = string_bytes c.push_words.new.text in
    let closed : List ℕ = string_bytes c.push_str-2.new.self in
    let words : List ℕ = schedule_text c.args.actors.now.items in
    let kept = c.in_ok-push_words.ensures in
    let typed : AllByRecursion IsTypedActor c.args.actors.now.items = subst (AllByRecursion IsTypedActor) c.as_slice.ensures kept.typed in
    let said : worded ≡ opened ++ words = kept.text ∙ ap (λ l. opened ++ schedule_text l) c.as_slice.ensures in
    joined start opened closed (34 ∷ []) (words ++ 34 ∷ []) c.in_ok-push_str.ensures.bytes (joined opened worded closed words (34 ∷ []) said c.in_ok-push_str-2.ensures.bytes)
    ∙ ap (λ (l : List ℕ). start ++ 34 ∷ (l ++ 34 ∷ [])) (sym (schedule_plain c.args.actors.now.items typed))
