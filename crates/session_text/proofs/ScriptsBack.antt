-- In a sound session no search of its scripts finds a fault.
use Rattle.std.proofs.Common.{◌≡◌, ℕ, ◌+◌, ◌==◌, length, List, [], ◌∷◌, Bool, true, false, ℤ, Option, Some, None, IsSome, is_none, nat_lt, if◌then◌else◌, Ok, refl, sym, ◌∙◌, arith}
use Rattle.std.specs.FinMap.{get}
use Rattle.std.specs.List.{All, AllByRecursion, position_from}
use Rattle.std.proofs.lemmas.Bool.Decides.{nat_tests}
use Rattle.std.proofs.lemmas.List.Elements.{recursion_from_All}
use Rattle.txn_model.specs.ScriptCheck.{first_repeat, first_bad_use, first_of, script_fault}
use Rattle.txn_model.specs.Tuples.{Tuples}
use Rattle.txn_model.specs.declared.op.Op.{Op}
use Rattle.txn_model.specs.declared.script.ScriptFault.{ScriptFault}
use Rattle.txn_model.specs.declared.script.ScriptFault.TheVariants.{Empty, TooLong, TupleTwice, BadUse}
use Rattle.txn_model.proofs.FirstPlaces.{first_counted}
use Rattle.stage_layout.specs.Late.{first_bad_turn}
use Rattle.catalogue.specs.Plan.{Plan, PlainItem, Run, Lose}
use Rattle.catalogue.specs.Sound.{IsFit, IsFitItem, IsSound}
use Rattle.session_reader.specs.FirstPlace.{first_place}
use Rattle.session_reader.specs.Rules.{first_unknown, HasOps}
use Rattle.session_reader.specs.SessionOf.{scripts_fit, parts_fit, with_schedule}
use Rattle.session_reader.proofs.Searches.{first_in_items, first_in_clients, first_of_client, first_place_counted}

-- what a script without a fault keeps
pub record Keeps (ops : List Op) : Type 0 where
  pub size : HasOps ops
  pub once : first_repeat ops ≡ None
  pub earlier : first_bad_use ops ≡ None

no_fault_in : (empty long : Bool) (e f : ScriptFault) (repeat bad : Option ℕ)
    → (if empty then Some e else (if long then Some f else first_of repeat TupleTwice (first_of bad BadUse None))) ≡ None
    → (empty ≡ false) × (long ≡ false) × (repeat ≡ None) × (bad ≡ None)
no_fault_in true long e f repeat bad h = cc h
no_fault_in false true e f repeat bad h = cc h
no_fault_in false false e f (Some k) bad h = cc h
no_fault_in false false e f None (Some k) h = cc h
no_fault_in false false e f None None h = (refl, refl, refl, refl)

pub keeps : (ops : List Op) → script_fault ops ≡ None → Keeps ops
unfolding script_fault
keeps ops h =
    let parts = no_fault_in (length ops == 0) (nat_lt 16 (length ops)) Empty (TooLong (length ops)) (first_repeat ops) (first_bad_use ops) h in
    let some = parts.0 in
    let few = parts.1 in
    record { size = record { some = grind (arith, nat_tests, some); few = grind (arith, nat_tests, few) }; once = parts.2; earlier = parts.3 }

there : (found : Option ℤ) → IsSome found → is_none found ≡ false
there (Some value) h = refl
there None h = cc

known_from : (tuples : Tuples) (k : ℕ) (ops : List Op) → AllByRecursion (λ op. IsSome (get tuples op.tuple)) ops → position_from (λ op. is_none (get tuples op.tuple)) k ops ≡ None
known_from tuples k [] h = refl
known_from tuples k (op ∷ ops) h = rw (there (get tuples op.tuple) h.0) (known_from tuples (k + 1) ops h.1)

all_known : (tuples : Tuples) (ops : List Op) → AllByRecursion (λ op. IsSome (get tuples op.tuple)) ops → first_unknown tuples ops ≡ None
all_known tuples ops h = sym (first_counted (λ (op : Op). is_none (get tuples op.tuple)) ops) ∙ known_from tuples 0 ops h

-- a search that finds nothing in a script that fits
abbrev IsQuiet : Plan → (List Op → Option ℕ) → Type 0
IsQuiet plan find = (ops : List Op) → IsFit plan ops → find ops ≡ None

quiet_items : (plan : Plan) (find : List Op → Option ℕ) (client seq : ℕ) (items : List PlainItem) → IsQuiet plan find → AllByRecursion (IsFitItem plan) items → first_in_items find client seq items ≡ None
quiet_items plan find client seq [] quiet fit = refl
quiet_items plan find client seq (Run ops ∷ items) quiet fit = rw (quiet ops fit.0) (quiet_items plan find client (seq + 1) items quiet fit.1)
quiet_items plan find client seq (Lose ∷ items) quiet fit = quiet_items plan find client (seq + 1) items quiet fit.1

quiet_clients : (plan : Plan) (find : List Op → Option ℕ) (client : ℕ) (clients : List (List PlainItem)) → IsQuiet plan find → AllByRecursion (All (IsFitItem plan)) clients
    → first_in_clients find client clients ≡ None
quiet_clients plan find client [] quiet fit = refl
quiet_clients plan find client (items ∷ clients) quiet fit =
    rw (sym (first_of_client find client items) ∙ quiet_items plan find client 1 items quiet (recursion_from_All (IsFitItem plan) items fit.0)) (quiet_clients plan find (client + 1) clients quiet fit.1)

quiet_place : (plan : Plan) (find : List Op → Option ℕ) → All (All (IsFitItem plan)) plan.clients → IsQuiet plan find → first_place find plan.clients ≡ None
quiet_place plan find fit quiet = sym (first_place_counted find plan.clients) ∙ quiet_clients plan find 0 plan.clients quiet (recursion_from_All (All (IsFitItem plan)) plan.clients fit)

-- the parts of a sound session fit together
pub parts_back : (plan : Plan) → IsSound plan → parts_fit (with_schedule plan []) ≡ Ok tt
unfolding parts_fit scripts_fit
parts_back plan sound =
    let known = quiet_place plan (first_unknown plan.tuples) sound.items (λ ops fit. all_known plan.tuples ops (recursion_from_All (λ (op : Op). IsSome (get plan.tuples op.tuple)) ops fit.tuples)) in
    let once = quiet_place plan first_repeat sound.items (λ ops fit. (keeps ops fit.script).once) in
    let earlier = quiet_place plan first_bad_use sound.items (λ ops fit. (keeps ops fit.script).earlier) in
    let turns = quiet_place plan (first_bad_turn plan.layout) sound.items (λ ops fit. fit.turns) in
    rw (known, sound.layout, once, earlier, turns) refl
