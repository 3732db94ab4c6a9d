-- An answered packet can have its number exactly where its pairs are local and each finds its number: its changes are then all that it does.
use Rattle.std.proofs.Common.{◌≡◌, ℕ, ℤ, Bool, true, false, ◌&&◌, List, [], ◌∷◌, ◌++◌, length, Option, None, Some, nat_lt, if◌then◌else◌, refl, sym, ap, ◌∙◌, arith, append_assoc, append-nil, length-append}
use Rattle.std.specs.FinMap as fin
use Rattle.std.specs.Option.{option_map, option_and_then}
use Rattle.std.specs.Ordering.{int_eq}
use Rattle.std.proofs.lemmas.Bool.Decides.{Decides-int_eq, Decides-eqb}
use Rattle.std.proofs.lemmas.List.{append_cancel_left}
use Rattle.txn_model.specs.Needs.{needs_list}
use Rattle.txn_model.specs.Places.{Places}
use Rattle.txn_model.specs.Serial.{operand, effect}
use Rattle.txn_model.specs.declared.pairs.Pair.{Pair}
use Rattle.switch_packet.specs.Packets.{PlainOutcome}
use Rattle.switch_packet.specs.Replay.{Replayed, register_at, packet_pair, always, execute, replay}
use Rattle.switch_packet.specs.declared.packet.PacketOp.{PacketOp}
use Rattle.switch_packet.proofs.ExecuteLaws.{made, pairs-execute}
use Rattle.placement_model.specs.FirstOrder.{same_pairs, has_answer, follow}
use Rattle.placement_model.specs.Placements.{Task}
use Rattle.placement_model.proofs.Having.{pairs_same, same_itself}
use Rattle.gap_placement.specs.Changes.{walk, changes_from, changes_answered, changes_of}
use Rattle.gap_placement.specs.declared.change.Change.{Change}

not_true : (b : Bool) → (b ≡ true → ⊥) → b ≡ false
not_true true n = absurd (n refl)
not_true false n = refl

differ : (xs ys : List Pair) → (xs ≡ ys → ⊥) → same_pairs xs ys ≡ false
differ xs ys n = not_true (same_pairs xs ys) (λ e. n (pairs_same xs ys e))

equal : (xs ys : List Pair) → xs ≡ ys → same_pairs xs ys ≡ true
equal xs ys e = ap (same_pairs xs) (sym e) ∙ same_itself xs

first_is : (done : List Pair) (p q : Pair) (ps qs : List Pair) → done ++ p ∷ ps ≡ done ++ q ∷ qs → p ≡ q
first_is done p q ps qs e = let rest : p ∷ ps ≡ q ∷ qs = append_cancel_left done (p ∷ ps) (q ∷ qs) e in cc

-- the map behind the packet where its pairs are these
abbrev answered : Bool → Places → Option Places
answered b after = if b then Some after else None

answered_no : (b : Bool) (after : Places) → b ≡ false → answered b after ≡ None
answered_no b after e = ap (λ (x : Bool). answered x after) e

no_changes : (b : Bool) (c : Change) (m : Places) (o : Option (List Change)) → int_eq (register_at m c.place) c.was ≡ false
    → option_and_then (λ (cs : List Change). walk cs m) (if b then option_map (λ cs. c ∷ cs) o else None) ≡ None
no_changes true c m (Some cs) e = ap (λ (t : Bool). if t then walk cs (fin.insert m c.place c.now) else None) e
no_changes true c m None e = refl
no_changes false c m o e = refl

one_change : (c : Change) (m : Places) (o : Option (List Change)) → int_eq (register_at m c.place) c.was ≡ true
    → option_and_then (λ (cs : List Change). walk cs m) (option_map (λ cs. c ∷ cs) o) ≡ option_and_then (λ (cs : List Change). walk cs (fin.insert m c.place c.now)) o
one_change c m (Some cs) e = ap (λ (t : Bool). if t then walk cs (fin.insert m c.place c.now) else None) e
one_change c m None e = refl

-- one operation with its logged pair, where what is behind it is so
module _ (op : PacketOp) (p : Pair) (ops : List PacketOp) (ps done : List Pair) (m : Places) where
  abbrev pair : Pair
  pair = packet_pair op done (register_at m op.place)

  abbrev next : Places
  next = fin.insert m op.place pair.now

  abbrev run : Replayed
  run = execute always ops (done ++ pair ∷ []) [] next

  abbrev change : Change
  change = record { place = op.place; was = p.was; now = p.now }

  abbrev is_local : Bool
  is_local = int_eq p.now (effect op.act p.was (operand (needs_list op.needs) op.bias done))

  abbrev finds : Bool
  finds = int_eq (register_at m op.place) p.was

  abbrev rest : List Pair → Option (List Change)
  rest behind = changes_from behind ops ps

  abbrev whole : Bool → Option Places
  whole b = option_and_then (λ (cs : List Change). walk cs m) (if b then option_map (λ cs. change ∷ cs) (rest (done ++ p ∷ [])) else None)

  same_then : done ++ p ∷ ps ≡ run.pairs → p ≡ pair
  same_then e =
      let more = made always ops (done ++ pair ∷ []) [] next in
      first_is done p pair ps more (e ∙ pairs-execute always ops (done ++ pair ∷ []) [] next ∙ append_assoc done (pair ∷ []) more)

  none_found : finds ≡ false → answered (same_pairs (done ++ p ∷ ps) run.pairs) run.after ≡ whole is_local
  none_found e =
      answered_no (same_pairs (done ++ p ∷ ps) run.pairs) run.after
      (differ (done ++ p ∷ ps) run.pairs (λ f. let was : p.was ≡ register_at m op.place = ap (λ (x : Pair). x.was) (same_then f) in let yes = (Decides-int_eq (register_at m op.place) p.was).1 (sym was) in cc))
      ∙ sym (no_changes is_local change m (rest (done ++ p ∷ [])) e)

  not_local : is_local ≡ false → finds ≡ true → answered (same_pairs (done ++ p ∷ ps) run.pairs) run.after ≡ whole is_local
  not_local e found =
      answered_no (same_pairs (done ++ p ∷ ps) run.pairs) run.after
      (differ (done ++ p ∷ ps) run.pairs (λ f.
      let was : register_at m op.place ≡ p.was = (Decides-int_eq (register_at m op.place) p.was).0 found in
      let now : p.now ≡ pair.now = ap (λ (x : Pair). x.now) (same_then f) in
      let yes = (Decides-int_eq p.now (effect op.act p.was (operand (needs_list op.needs) op.bias done))).1 (now ∙ ap (λ (v : ℤ). effect op.act v (operand (needs_list op.needs) op.bias done)) was) in
      cc))
      ∙ sym (ap whole e)

  goes_on : is_local ≡ true → finds ≡ true → answered (same_pairs ((done ++ pair ∷ []) ++ ps) run.pairs) run.after ≡ option_and_then (λ (cs : List Change). walk cs next) (rest (done ++ pair ∷ [])) → answered (same_pairs (done ++ p ∷ ps) run.pairs) run.after ≡ whole is_local
  goes_on e found later =
      let was : register_at m op.place ≡ p.was = (Decides-int_eq (register_at m op.place) p.was).0 found in
      let local : p.now ≡ effect op.act p.was (operand (needs_list op.needs) op.bias done) = (Decides-int_eq p.now (effect op.act p.was (operand (needs_list op.needs) op.bias done))).0 e in
      let now : p.now ≡ pair.now = local ∙ ap (λ (v : ℤ). effect op.act v (operand (needs_list op.needs) op.bias done)) (sym was) in
      let same : pair ≡ p = λ i. record { was = was i; now = sym now i } in
      ap (λ (l : List Pair). answered (same_pairs l run.pairs) run.after) (ap (λ (x : Pair). done ++ x ∷ ps) (sym same) ∙ sym (append_assoc done (pair ∷ []) ps))
      ∙ later
      ∙ ap (λ (x : Pair). option_and_then (λ (cs : List Change). walk cs (fin.insert m op.place x.now)) (rest (done ++ x ∷ []))) same
      ∙ sym (one_change change m (rest (done ++ p ∷ [])) found)
      ∙ sym (ap whole e)

  pub one_operation : answered (same_pairs ((done ++ pair ∷ []) ++ ps) run.pairs) run.after ≡ option_and_then (λ (cs : List Change). walk cs next) (rest (done ++ pair ∷ [])) → answered (same_pairs (done ++ p ∷ ps) run.pairs) run.after ≡ whole is_local
  one_operation later = by is_local refl finds refl
    where
      by : (b : Bool) → is_local ≡ b → (c : Bool) → finds ≡ c → answered (same_pairs (done ++ p ∷ ps) run.pairs) run.after ≡ whole is_local
      by b e false f = none_found f
      by false e true f = not_local e f
      by true e true f = goes_on e f later

pub changes_are : (ops : List PacketOp) (ps done : List Pair) (m : Places) → answered (same_pairs (done ++ ps) (execute always ops done [] m).pairs) (execute always ops done [] m).after ≡ option_and_then (λ (cs : List Change). walk cs m) (changes_from done ops ps)
unfolding execute
changes_are [] [] done m = ap (λ (b : Bool). answered b m) (equal (done ++ []) done (append-nil done))
changes_are [] (p ∷ ps) done m =
    answered_no (same_pairs (done ++ p ∷ ps) done) m (differ (done ++ p ∷ ps) done (λ e. let n = ap length e in absurd (omega (arith, n, length-append done (p ∷ ps)))))
changes_are (op ∷ ops) [] done m =
    let pair = packet_pair op done (register_at m op.place) in
    let next = fin.insert m op.place pair.now in
    let run = execute always ops (done ++ pair ∷ []) [] next in
    let more = made always ops (done ++ pair ∷ []) [] next in
    answered_no (same_pairs (done ++ []) run.pairs) run.after (differ (done ++ []) run.pairs (λ e.
    let n = ap length (sym (append-nil done) ∙ e ∙ pairs-execute always ops (done ++ pair ∷ []) [] next) in
    absurd (omega (arith, n, length-append (done ++ pair ∷ []) more, length-append done (pair ∷ [])))))
changes_are (op ∷ ops) (p ∷ ps) done m =
    let pair = packet_pair op done (register_at m op.place) in
    one_operation op p ops ps done m (changes_are ops ps (done ++ pair ∷ []) (fin.insert m op.place pair.now))

-- an answered task at its number: what follows it goes on from where its changes lead
pub follow_is : (t : Task) (number : ℕ) (o : PlainOutcome) (m : Places) (rest : Places → Option (List Task)) → t.outcome ≡ Some o → o.number ≡ number
    → follow t number (replay t.intent.packet m) rest ≡ option_map (λ tasks. t ∷ tasks) (option_and_then rest (option_and_then (λ (cs : List Change). walk cs m) (changes_of t number)))
follow_is t number o m rest is at =
    let made = replay t.intent.packet m in
    ap (λ (x : Option PlainOutcome). (if nat_lt t.intent.floor number && has_answer x number made.pairs then option_map (λ tasks. t ∷ tasks) (rest made.after) else None)) is
    ∙ ap (λ (b : Bool). (if nat_lt t.intent.floor number && (b && same_pairs o.pairs made.pairs) then option_map (λ tasks. t ∷ tasks) (rest made.after) else None)) ((Decides-eqb o.number number).1 at)
    ∙ by (nat_lt t.intent.floor number) (same_pairs o.pairs made.pairs) (changes_are t.intent.packet.ops o.pairs [] m)
    ∙ ap (λ (x : Option PlainOutcome). option_map (λ tasks. t ∷ tasks) (option_and_then rest (option_and_then (λ (cs : List Change). walk cs m) (changes_answered t number x)))) (sym is)
  where
    by : (b c : Bool) → answered c (replay t.intent.packet m).after ≡ option_and_then (λ (cs : List Change). walk cs m) (changes_from [] t.intent.packet.ops o.pairs)
        → (if b && (true && c) then option_map (λ tasks. t ∷ tasks) (rest (replay t.intent.packet m).after) else None)
        ≡ option_map (λ tasks. t ∷ tasks) (option_and_then rest (option_and_then (λ (cs : List Change). walk cs m) (if b then changes_from [] t.intent.packet.ops o.pairs else None)))
    by false c e = refl
    by true true e = ap (λ (x : Option Places). option_map (λ tasks. t ∷ tasks) (option_and_then rest x)) e
    by true false e = ap (λ (x : Option Places). option_map (λ tasks. t ∷ tasks) (option_and_then rest x)) e
