use Rattle.std.proofs.Common.{◌≡◌, ℕ, List, [], ◌∷◌, ◌++◌, codes, string_bytes, rules}
use Rattle.std.proofs.lemmas.Result.{on_ok_weaker}
use Rattle.serde_json.specs.Written.{compact_text}
use Rattle.session_text.specs.SessionData.{natural, integer, needs_data}
use Rattle.session_text.proofs.Joined.{joined}
use Rattle.session_text.proofs.item.push_choice.Goals as goal

pub returns-clause-text : goal.returns-clause-text
returns-clause-text c =
    let start : List ℕ = string_bytes c.args.text.now in
    let named : List ℕ = string_bytes c.push_natural.new.text in
    let limited : List ℕ = string_bytes c.push_integer.new.text in
    let ended : List ℕ = string_bytes c.push_outcomes.new.text in
    let name : List ℕ = codes "[\"choose\"," ++ compact_text (natural c.args.tuple.0) in
    let limit : List ℕ = 44 ∷ compact_text (integer c.args.limit) in
    let rest : List ℕ = 44 ∷ (compact_text (integer c.args.above) ++ 44 ∷ (compact_text (integer c.args.below) ++ 44 ∷ (compact_text (needs_data c.args.needs.now) ++ 93 ∷ []))) in
    let first : named ≡ start ++ name = search rules in
    let second : limited ≡ named ++ limit = search rules in
    on_ok_weaker c.push_outcomes.result (λ third. joined start named ended name (limit ++ rest) first (joined named limited ended limit rest second third)) (search rules)
