-- What is shown of a client at a script behind each of its moves.
use Rattle.std.proofs.Common.{◌≡◌, ℕ, zero, suc, ◌+◌, ◌<◌, ◌≤◌, ◌==◌, nat_le, Bool, true, false, pos, List, [], ◌∷◌, ◌++◌, set, replicate, length, slice_get, None, Some, inl, inr, refl, sym, ap, ap₂, subst, ◌∙◌, arith, if◌then◌else◌, length-append}
use Rattle.std.proofs.lemmas.Bool.Decides.{nat_tests}
use Rattle.std.proofs.lemmas.Option.{slice_get_within}
use Rattle.txn_model.specs.declared.op.Op.{Op}
use Rattle.txn_model.specs.declared.pairs.Pair.{Pair}
use Rattle.txn_model.specs.declared.stamp.Seen.{Seen}
use Rattle.txn_model.specs.declared.stamp.Stamp.{Stamp}
use Rattle.stage_layout.specs.Late.{is_hot}
use Rattle.stage_layout.specs.declared.layout.LayoutRow.{LayoutRow}
use Rattle.history_model.specs.History.{greater}
use Rattle.warm_split.specs.Filled.{executed}
use Rattle.warm_split.specs.Joined.{joined}
use Rattle.warm_split.specs.Parts.{IsParts}
use Rattle.warm_split.specs.declared.parts.Parts.{Parts}
use Rattle.catalogue.specs.Plan.{Plan, items_of}
use Rattle.core_model.specs.Asking.{IsAsking}
use Rattle.core_model.specs.Decision.{greatest, decision_stamp, next_sub}
use Rattle.core_model.specs.Facts.{steps_now}
use Rattle.core_model.specs.Locks.{cold_ops}
use Rattle.core_model.specs.State.{ClientState, at_item, script_now, zero_stamp}
use Rattle.core_model.specs.Step.{next_item, try_ended, aborting, installed_one}
use Rattle.core_model.specs.declared.phase.Phase.TheVariants.{Ready, Locking, Aborting, Logged, Waiting, Installing, Finished}
use Rattle.fabric_model.specs.ColdFacts.{FitsPhase}
use Rattle.fabric_model.specs.Intents.{values_of}
use Rattle.fabric_model.specs.Step as model
use Rattle.client_phase.specs.declared.action.Action.TheVariants.{Decide, LogIntent, Post, LogOutcome, Install}
use Rattle.client_phase.specs.declared.action.Met.TheVariants.{Answered, Done}
use Rattle.client_phase.specs.ColdNumbers.{cold_count, cold_number}
use Rattle.client_phase.specs.Laws.{IsAtScript}
use Rattle.client_phase.specs.Shown.{PlainClient, zero_pair, found_pairs, filled, taking_pairs, shown, shown_pairs, shown_met, shown_now}
use Rattle.client_phase.specs.Stepped as to
use Rattle.client_phase.specs.Stepped.{stepped}
use Rattle.client_phase.proofs.Chosen.{hot_chosen, count-unchosen}
use Rattle.client_phase.proofs.Found.{found-none, found-at, executed-filled, filled_hot, filled_cold, length-found, taking-some, taking-all}
use Rattle.client_phase.proofs.Stamps.{greatest_more, greatest-from_zero}

above : (a : ℕ) → 0 < a → (a == 0) ≡ false
above a lt = grind (arith, nat_tests)

-- a client at the beginning of an item
pub begins_shown : (rows : List LayoutRow) (ops : List Op) (items seq : ℕ) (last : Stamp) → shown rows ops (at_item items seq last) ≡ to.begins items seq last
begins_shown rows ops items seq last = by (nat_le seq items)
  where
    x : Bool → ClientState
    x b = record { phase = if b then Ready else Finished; seq = seq; refused = 0; noted = []; installed = 0; last = last; reply = [] }

    by : (b : Bool) → shown rows ops (x b) ≡ record { phase = if b then Ready else Finished; seq = seq; refused = 0; locked = 0; installed = 0; last = last; met = zero_stamp; pairs = [] }
    by true = refl
    by false = refl

pub next_shown : (plan : Plan) (c : ℕ) (x : ClientState) → shown_now plan c (next_item plan c x) ≡ to.begins (length (items_of plan c)) (x.seq + 1) x.last
next_shown plan c x = begins_shown plan.layout (script_now plan c (next_item plan c x)) (length (items_of plan c)) (x.seq + 1) x.last

-- what is shown by a test
shown_if : (plan : Plan) (c : ℕ) (b : Bool) (y z : ClientState) → shown_now plan c (if b then y else z) ≡ (if b then shown_now plan c y else shown_now plan c z)
shown_if plan c true y z = refl
shown_if plan c false y z = refl

try_shown : (plan : Plan) (c : ℕ) (x : ClientState) → shown_now plan c (try_ended plan c x) ≡ to.try_ended (length (items_of plan c)) plan.tries (shown_now plan c x)
try_shown plan c x =
    let again : ClientState = record { phase = Ready; seq = x.seq; refused = x.refused + 1; noted = []; installed = 0; last = x.last; reply = [] } in
    shown_if plan c (x.refused + 1 == plan.tries) (next_item plan c x) again
    ∙ ap (λ (p : PlainClient). if x.refused + 1 == plan.tries then p else shown_now plan c again) (next_shown plan c x)

-- it aborts
pub aborting_shown : (plan : Plan) (c : ℕ) (x : ClientState) (left : List Seen) (locked : ℕ) → length left ≡ locked → shown_now plan c (aborting plan c x left) ≡ to.aborted (length (items_of plan c)) plan.tries locked (shown_now plan c x)
aborting_shown plan c x [] locked e = try_shown plan c x ∙ ap (λ (n : ℕ). to.aborted (length (items_of plan c)) plan.tries n (shown_now plan c x)) {x = 0} e
aborting_shown plan c x (seen ∷ left) locked e =
    let p = shown_now plan c x in
    let y : PlainClient = record p { phase = Aborting; locked = suc (length left); met = zero_stamp; pairs = [] } in
    sym (ap (λ (b : Bool). if b then to.try_ended (length (items_of plan c)) plan.tries p else y) (above (suc (length left)) (omega arith)))
    ∙ ap (λ (n : ℕ). to.aborted (length (items_of plan c)) plan.tries n p) {x = suc (length left)} e

none_noted : (noted : List Seen) → (length noted == 0) ≡ true → noted ≡ []
none_noted [] e = refl
none_noted (seen ∷ noted) e = let clash : true ≡ false = sym e ∙ above (suc (length noted)) (omega arith) in cc

some_noted : (a : ℕ) → (a == 0) ≡ false → 0 < a
some_noted a e = grind (arith, nat_tests)

none_past : {X : Type 0} (xs : List X) (i : ℕ) → slice_get xs i ≡ None → length xs ≤ i
none_past [] i e = omega arith
none_past (x ∷ xs) zero e = cc
none_past (x ∷ xs) (suc i) e = omega (arith, none_past xs i e)

-- there are as many locks to take as numbers
pub count_is : (rows : List LayoutRow) (ops : List Op) (parts : Parts) → IsParts rows ops parts → cold_count parts ops ≡ length (cold_ops rows ops)
count_is rows ops parts sets = count-unchosen (λ op. is_hot rows op.tuple) parts.hot 0 ops ops refl (hot_chosen rows ops parts sets)

module _ (plan : Plan) (c : ℕ) (x : ClientState) (parts : Parts) (here : IsAtScript plan c x parts) where
  abbrev ops : List Op
  ops = script_now plan c x

  abbrev rows : List LayoutRow
  rows = plan.layout

  -- a client that asks for locks and has none is ready or takes them, and has met nothing
  asking_met : IsAsking x → shown_met x x.phase ≡ greatest zero_stamp x.noted
  asking_met (inl ready) = ap (shown_met x) ready ∙ sym (ap (greatest zero_stamp) (subst (FitsPhase plan c x) ready here.fits).0)
  asking_met (inr locking) = ap (shown_met x) locking

  asking_pairs : IsAsking x → (length x.noted == 0) ≡ false → shown_pairs rows ops x x.phase ≡ taking_pairs rows ops x.noted
  asking_pairs (inl ready) some = absurd (let none = ap length (subst (FitsPhase plan c x) ready here.fits).0 in omega (arith, none, some_noted (length x.noted) some))
  asking_pairs (inr locking) some = ap (shown_pairs rows ops x) locking

  -- the pairs into which the next lock's are put
  to_fill : IsAsking x → length x.noted < length (cold_ops rows ops) → to.pairs_to_fill (length ops) (shown_now plan c x) ≡ found_pairs rows ops x.noted
  to_fill asks lt = by (length x.noted == 0) refl
    where
      by : (b : Bool) → (length x.noted == 0) ≡ b → (if b then replicate (length ops) zero_pair else shown_pairs rows ops x x.phase) ≡ found_pairs rows ops x.noted
      by true e = found-none rows ops ∙ ap (found_pairs rows ops) (sym (none_noted x.noted e))
      by false e = asking_pairs asks e ∙ taking-some rows ops x.noted lt

  -- with no lock left it has them all
  all_noted : IsAsking x → model.next_op plan c x ≡ None → length x.noted ≡ length (cold_ops rows ops)
  all_noted (inl ready) next = omega (arith, none_past (cold_ops rows ops) (length x.noted) next, ap length (subst (FitsPhase plan c x) ready here.fits).0)
  all_noted (inr locking) next = omega (arith, none_past (cold_ops rows ops) (length x.noted) next, (subst (FitsPhase plan c x) locking here.fits).0)

  -- the pairs of a client whose intent is logged
  logged_pairs : IsAsking x → length x.noted ≡ length (cold_ops rows ops) → taking_pairs rows ops x.noted ≡ to.pairs_to_fill (length ops) (shown_now plan c x)
  logged_pairs asks all = by (length x.noted == 0) refl
    where
      by : (b : Bool) → (length x.noted == 0) ≡ b → taking_pairs rows ops x.noted ≡ (if b then replicate (length ops) zero_pair else shown_pairs rows ops x x.phase)
      by true e =
          taking-all rows ops x.noted all
          ∙ ap (λ (l : List Seen). filled rows ops (found_pairs rows ops l)) (none_noted x.noted e)
          ∙ filled_hot rows ops (found_pairs rows ops []) (sym all ∙ ap length (none_noted x.noted e)) (length-found rows ops [])
          ∙ sym (found-none rows ops)
      by false e = sym (asking_pairs asks e)

  pub granted_shown : (op : Op) (seen : Seen) → IsAsking x → model.next_op plan c x ≡ Some op
      → shown_now plan c (record x { phase = Locking; noted = x.noted ++ seen ∷ [] }) ≡ to.granted parts ops (cold_number parts ops (length x.noted)) seen (shown_now plan c x)
  granted_shown op seen asks next =
      let lt : length x.noted < length (cold_ops rows ops) = slice_get_within (cold_ops rows ops) (length x.noted) op next in
      let count = count_is rows ops parts here.sets in
      let more = found_pairs rows ops (x.noted ++ seen ∷ []) in
      let one : length (x.noted ++ seen ∷ []) ≡ length x.noted + 1 = length-append x.noted (seen ∷ []) in
      let found : set (to.pairs_to_fill (length ops) (shown_now plan c x)) (cold_number parts ops (length x.noted)) (record { was = seen.value; now = pos 0 }) ≡ more =
      ap (λ (l : List Pair). set l (cold_number parts ops (length x.noted)) (record { was = seen.value; now = pos 0 })) (to_fill asks lt)
      ∙ found-at rows parts.hot ops x.noted seen (hot_chosen rows ops parts here.sets) (omega (arith, lt, count)) in
      let e_pairs : taking_pairs rows ops (x.noted ++ seen ∷ []) ≡ (to.granted parts ops (cold_number parts ops (length x.noted)) seen (shown_now plan c x)).pairs =
      ap₂ (λ (a b : ℕ). if a == b then filled rows ops more else more) one (sym count)
      ∙ ap (λ (l : List Pair). if length x.noted + 1 == cold_count parts ops then l else more) (sym (executed-filled rows ops parts more here.sets))
      ∙ ap (λ (l : List Pair). if length x.noted + 1 == cold_count parts ops then executed parts.before ops l else l) (sym found) in
      let e_met : greatest zero_stamp (x.noted ++ seen ∷ []) ≡ greater (shown_met x x.phase) seen.stamp = greatest_more x.noted seen zero_stamp ∙ ap (λ (s : Stamp). greater s seen.stamp) (sym (asking_met asks)) in
      λ i. record { phase = Locking; seq = x.seq; refused = x.refused; locked = one i; installed = x.installed; last = x.last; met = e_met i; pairs = e_pairs i }

  pub decided_shown : IsAsking x → model.next_op plan c x ≡ None → model.has_hot plan ops ≡ false → 0 < length x.noted
      → shown_now plan c (record x { phase = Installing; last = decision_stamp x.last x.noted; reply = joined rows ops (values_of x.noted) [] }) ≡ stepped parts ops (length (items_of plan c)) plan.tries Decide Done (shown_now plan c x)
  decided_shown asks next cold some =
      let all : length x.noted ≡ length (cold_ops rows ops) = all_noted asks next in
      let e_pairs : joined rows ops (values_of x.noted) [] ≡ shown_pairs rows ops x x.phase =
      sym (asking_pairs asks (above (length x.noted) some) ∙ taking-all rows ops x.noted all ∙ filled_cold rows ops x.noted cold all) in
      let e_last : decision_stamp x.last x.noted ≡ next_sub (greater x.last (shown_met x x.phase)) =
      ap next_sub (greatest-from_zero x.noted x.last ∙ ap (greater x.last) (sym (asking_met asks))) in
      cc

  pub logged_shown : IsAsking x → model.next_op plan c x ≡ None → shown_now plan c (record x { phase = Logged }) ≡ stepped parts ops (length (items_of plan c)) plan.tries LogIntent Done (shown_now plan c x)
  logged_shown asks next =
      let all : length x.noted ≡ length (cold_ops rows ops) = all_noted asks next in
      let e_met : greatest zero_stamp x.noted ≡ shown_met x x.phase = sym (asking_met asks) in
      let e_pairs : taking_pairs rows ops x.noted ≡ to.pairs_to_fill (length ops) (shown_now plan c x) = logged_pairs asks all in
      cc

  pub posted_shown : x.phase ≡ Logged → shown_now plan c (record x { phase = Waiting }) ≡ stepped parts ops (length (items_of plan c)) plan.tries Post Done (shown_now plan c x)
  posted_shown logged =
      let e_met : greatest zero_stamp x.noted ≡ shown_met x x.phase = sym (ap (shown_met x) logged) in
      let e_pairs : taking_pairs rows ops x.noted ≡ shown_pairs rows ops x x.phase = sym (ap (shown_pairs rows ops x) logged) in
      cc

  -- the answer to its packet, whose pairs are joined into these
  pub taken_shown : (number : ℕ) (reply : List Pair) → x.phase ≡ Waiting
      → shown_now plan c (model.replied plan c x (to.packet_stamp number) reply) ≡ stepped parts ops (length (items_of plan c)) plan.tries LogOutcome (Answered number) (record (shown_now plan c x) { pairs = reply })
  taken_shown number reply waiting =
      let y : ClientState = record x { phase = Installing; last = to.packet_stamp number; reply = reply } in
      let all : length x.noted ≡ cold_count parts ops = (subst (FitsPhase plan c x) waiting here.fits).0 ∙ sym (count_is rows ops parts here.sets) in
      shown_if plan c (length x.noted == 0) (next_item plan c y) y
      ∙ ap (λ (p : PlainClient). if length x.noted == 0 then p else shown_now plan c y) (next_shown plan c y)
      ∙ ap (λ (n : ℕ). if n == 0 then to.begins (length (items_of plan c)) (x.seq + 1) (to.packet_stamp number) else shown_now plan c y) all

  pub installed_shown : (k : ℕ) → x.phase ≡ Installing
      → shown_now plan c (installed_one plan c x (length (steps_now plan c x))) ≡ stepped parts ops (length (items_of plan c)) plan.tries (Install k) Done (shown_now plan c x)
  installed_shown k installing =
      let y : ClientState = record x { installed = x.installed + 1 } in
      let fits = subst (FitsPhase plan c x) installing here.fits in
      let all : length (steps_now plan c x) ≡ cold_count parts ops = fits.1 ∙ fits.0 ∙ sym (count_is rows ops parts here.sets) in
      let e_met : shown_met y y.phase ≡ shown_met x x.phase = ap (shown_met y) installing ∙ sym (ap (shown_met x) installing) in
      let e_pairs : shown_pairs rows ops y y.phase ≡ shown_pairs rows ops x x.phase = ap (shown_pairs rows ops y) installing ∙ sym (ap (shown_pairs rows ops x) installing) in
      let e_next : shown_now plan c y ≡ record (shown_now plan c x) { installed = x.installed + 1 } = cc in
      shown_if plan c (x.installed + 1 == length (steps_now plan c x)) (next_item plan c x) y
      ∙ ap₂ (λ (p q : PlainClient). if x.installed + 1 == length (steps_now plan c x) then p else q) (next_shown plan c x) e_next
      ∙ ap (λ (n : ℕ). if x.installed + 1 == n then to.begins (length (items_of plan c)) (x.seq + 1) x.last else record (shown_now plan c x) { installed = x.installed + 1 }) all
