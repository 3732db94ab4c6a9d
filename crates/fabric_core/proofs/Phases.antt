-- What is kept of the clients' phases and items, and what the model has of them.
use Rattle.std.proofs.Common.{◌≡◌, ℕ, zero, suc, ◌-◌, ◌<◌, ◌==◌, ◌&&◌, ◌↔◌, nat_lt, Bool, true, false, IsTrue, slice_get, Option, Some, None, IsSome, is_some, if◌then◌else◌, List, [], ◌∷◌, length, get_or, refl, sym, ap, ◌∙◌, arith}
use Rattle.std.specs.List.{list_all}
use Rattle.txn_model.specs.declared.op.Op.{Op}
use Rattle.history_model.specs.History.{History}
use Rattle.switch_model.specs.Switch.{Switch}
use Rattle.catalogue.specs.Plan.{Plan, PlainItem, Run, Lose, item_of}
use Rattle.client_phase.specs.Shown.{PlainClient}
use Rattle.core_model.specs.declared.item_end.ItemEnd.TheVariants.{Pending, Lost}
use Rattle.core_model.specs.declared.phase.Phase.{Phase}
use Rattle.core_model.specs.Ends.{answered_entry, script_end}
use Rattle.core_model.specs.Rota.{is_finished, has_finished}
use Rattle.core_model.specs.State.{ClientState}
use Rattle.fabric_model.specs.Driven.{IsFinished}
use Rattle.fabric_model.specs.Ends.{end_of, item_end}
use Rattle.fabric_model.specs.Laws.{IsReached}
use Rattle.fabric_model.specs.Rota.{all_finished}
use Rattle.fabric_model.specs.State.{State, client_at}
use Rattle.fabric_model.proofs.Driven.{finished_by_test}
use Rattle.fabric_model.proofs.Present.{clients_stay}
use Rattle.fabric_core.specs.Standing.{AreRunners, StandsFor, client_in}
use Rattle.fabric_core.specs.declared.core_state.CoreState.{CoreState}
use Rattle.fabric_core.specs.declared.runner.Runner.{Runner}

-- the clients are kept in these phases
record HavePhases (clients : List ClientState) (runners : List Runner) : Type 0 where
  count : length runners ≡ length clients
  each : (c : ℕ) (other : Runner) → c < length clients → (get_or runners c other).state.phase ≡ (client_in clients c).phase

have_phases : (plan : Plan) (clients : List ClientState) (runners : List Runner) → AreRunners plan clients runners → HavePhases clients runners
have_phases plan clients runners are = record { count = are.count; each = λ c other lt. ap (λ (p : PlainClient). p.phase) (are.each c other lt).kept }

same_test : (clients : List ClientState) (runners : List Runner) → HavePhases clients runners → list_all (λ runner. is_finished runner.state.phase) runners ≡ list_all has_finished clients
same_test [] [] have = refl
same_test [] (r ∷ runners) have = absurd (omega (arith, have.count))
same_test (x ∷ clients) [] have = absurd (omega (arith, have.count))
same_test (x ∷ clients) (r ∷ runners) have =
    ap (λ (p : Phase). is_finished p && list_all (λ runner. is_finished runner.state.phase) runners) (have.each 0 r (omega arith))
    ∙ ap (λ (b : Bool). is_finished x.phase && b) (same_test clients runners (record { count = omega (arith, have.count); each = λ c other lt. have.each (suc c) other (omega (arith, lt)) }))

-- the switch is up where the code says so
up_test : (plan : Plan) (s : State) (core : CoreState) (b : Bool) → core.is_up ≡ b → StandsFor plan s core → is_some s.switch ≡ b
up_test plan s core true is stands = ap (λ (o : Option Switch). is_some o) (stands.switch.up is).up
up_test plan s core false is stands = ap (λ (o : Option Switch). is_some o) (stands.switch.lost is).lost

both_ways : (a b : Bool) → (a && b) ≡ (b && a)
both_ways true true = refl
both_ways true false = refl
both_ways false true = refl
both_ways false false = refl

-- the switch is up, and all clients that are kept have finished, where all of the model have
pub finished_same : (plan : Plan) (s : State) (core : CoreState) → StandsFor plan s core → (core.is_up && list_all (λ runner. is_finished runner.state.phase) core.runners.items) ≡ all_finished s
finished_same plan s core stands =
    ap (λ (b : Bool). core.is_up && b) (same_test s.clients core.runners.items (have_phases plan s.clients core.runners.items stands.runners))
    ∙ both_ways core.is_up (list_all has_finished s.clients)
    ∙ sym (ap (λ (b : Bool). list_all has_finished s.clients && b) (up_test plan s core core.is_up refl stands))

pub finished_exact : (plan : Plan) (s : State) (core : CoreState) (b : Bool) → StandsFor plan s core → b ≡ (core.is_up && list_all (λ runner. is_finished runner.state.phase) core.runners.items) → IsTrue b ↔ IsFinished s
finished_exact plan s core b stands is = (λ t. (finished_by_test s).0 (sym (finished_same plan s core stands) ∙ sym is ∙ t), λ f. is ∙ finished_same plan s core stands ∙ (finished_by_test s).1 f)

-- each client of the session is kept
pub is_kept : (plan : Plan) (s : State) (core : CoreState) (c : ℕ) → IsReached plan s → StandsFor plan s core → c < length plan.clients → c < length core.runners.items
is_kept plan s core c reached stands lt = omega (arith, lt, clients_stay plan s reached, stands.runners.count)

-- with its phase and the number of its item
pub phase_kept : (plan : Plan) (s : State) (core : CoreState) (c : ℕ) (d : Runner) → IsReached plan s → StandsFor plan s core → c < length plan.clients → (get_or core.runners.items c d).state.phase ≡ (client_at s c).phase
phase_kept plan s core c d reached stands lt = ap (λ (p : PlainClient). p.phase) (stands.runners.each c d (omega (arith, lt, clients_stay plan s reached))).kept

pub seq_kept : (plan : Plan) (s : State) (core : CoreState) (c : ℕ) (d : Runner) → IsReached plan s → StandsFor plan s core → c < length plan.clients → (get_or core.runners.items c d).state.seq ≡ (client_at s c).seq
seq_kept plan s core c d reached stands lt = ap (λ (p : PlainClient). p.seq) (stands.runners.each c d (omega (arith, lt, clients_stay plan s reached))).kept

-- whoever has an item is a client
pub is_client : (lists : List (List PlainItem)) (c seq : ℕ) → IsSome (if seq == 0 then None else slice_get (get_or lists c []) (seq - 1)) → c < length lists
is_client [] c seq some = by (seq == 0) some
  where
    none : List PlainItem
    none = []

    by : (b : Bool) → IsSome (if b then None else slice_get none (seq - 1)) → c < 0
    by true e = cc
    by false e = cc
is_client (items ∷ lists) zero seq some = omega arith
is_client (items ∷ lists) (suc c) seq some = omega (arith, is_client lists c seq some)

-- the end of an item that is a transaction, and of a loss
pub run_end : (plan : Plan) (s : State) (c seq present : ℕ) (ops : List Op) (h : History) → item_of plan c seq ≡ Some (Run ops) → h ≡ s.history → present ≡ (client_at s c).seq
    → script_end (answered_entry c seq h) seq present ≡ item_end plan s c seq
run_end plan s c seq present ops h is same now =
    ap (λ (k : History). script_end (answered_entry c seq k) seq present) same ∙ ap (script_end (answered_entry c seq s.history) seq) now ∙ sym (ap (end_of s c seq) is)

pub loss_end : (plan : Plan) (s : State) (c seq present : ℕ) → item_of plan c seq ≡ Some Lose → present ≡ (client_at s c).seq → (if nat_lt seq present then Lost else Pending) ≡ item_end plan s c seq
loss_end plan s c seq present is now = ap (λ (n : ℕ). if nat_lt seq n then Lost else Pending) now ∙ sym (ap (end_of s c seq) is)
