-- The switch as the code's pipeline shows it, and moves of the switch.
use Rattle.std.proofs.Common.{◌≡◌, ◌≢◌, ℕ, ◌+◌, ◌^◌, ◌<◌, ◌≤◌, ◌&&◌, ◌==◌, eqb, nat_le, Bool, true, false, length, get_or, Option, Some, None, option_map, IsSome, refl, sym, ap, subst, ◌∙◌, arith, if◌then◌else◌}
use Rattle.std.specs.Option.{option_eq}
use Rattle.std.proofs.Math.ListN as list
use Rattle.std.proofs.lemmas.Bool.Decides.{nat_tests}
use Rattle.history_model.specs.History.{HistoryEntry, with_entry}
use Rattle.history_core.specs.Answers.{IsAboveOwn}
use Rattle.history_core.specs.Recorded.{Recorded}
use Rattle.history_core.specs.Runs.{Runs, ops_at, runs_of}
use Rattle.switch_packet.specs.Packets.{PlainPacket}
use Rattle.switch_model.specs.Event.{advance, enter}
use Rattle.switch_model.specs.Flight.{flight_at, is_waiting}
use Rattle.switch_model.specs.Reached as machine
use Rattle.switch_model.specs.Switch.{Switch, Desk, Vacant, Posted, Entered, desk_at, next_number}
use Rattle.pipeline.specs.ModelLaws.{GoesAlong}
use Rattle.pipeline.specs.Plain.{PlainFlight, PlainPipeline}
use Rattle.pipeline.specs.Rows as rows
use Rattle.pipeline.specs.Rows.{waiting_of, advanced, IsStep}
use Rattle.pipeline.specs.declared.step.Step.{Step}
use Rattle.pipeline.specs.declared.step.Step.TheVariants.{Moved, Idle}
use Rattle.pipeline.specs.Seen.{seen_of, seen_flight, waiting_on}
use Rattle.pipeline.specs.Shows.{Shows}
use Rattle.catalogue.specs.Plan.{Plan, hot_cells}
use Rattle.catalogue.specs.declared.actor.Actor.TheVariants.{Port, Stage}
use Rattle.fabric_model.specs.Laws.{IsReached}
use Rattle.client_phase.specs.Shown.{PlainClient}
use Rattle.fabric_model.specs.State.{State, client_at}
use Rattle.fabric_model.proofs.Present.{clients_stay}
use Rattle.fabric_model.specs.Step as model
use Rattle.fabric_model.specs.Step.{step, switched, behind_entry}
use Rattle.fabric_model.proofs.Legal.{holds_up}
use Rattle.fabric_core.specs.Standing.{StandsFor, IsRunner, Follows}
use Rattle.fabric_core.specs.declared.runner.Runner.{Runner}
use Rattle.fabric_core.specs.declared.core_state.CoreState.{CoreState}
use Rattle.fabric_core.proofs.Enters as enters
use Rattle.fabric_core.proofs.Held.{locks_switched, locks_entered}
use Rattle.fabric_model.proofs.SmallStamps.{fits_room}
use Rattle.pipeline.proofs.Events.{advance_shown, enter_shown}
use Rattle.fabric_core.proofs.PacketMoves.{enters_move, stage_moves}
use Rattle.fabric_core.proofs.Switches.{is_switch}

same_some : {T : Type 0} {a b : T} → Some a ≡ Some b → a ≡ b
same_some e = cc

some_none : {T : Type 0} {a : T} → Some a ≡ None → ⊥
some_none e = cc

-- what was made by a step of the pipeline
pub was_made : (made : Option PlainPipeline) (old new : PlainPipeline) (step : Step) → IsStep made old new step → step ≡ Moved → made ≡ Some new
was_made made old new Moved did is = did
was_made made old new Idle did is = cc

pub was_idle : (made : Option PlainPipeline) (old new : PlainPipeline) (step : Step) → IsStep made old new step → (step ≡ Moved → ⊥) → (made ≡ None) × (new ≡ old)
was_idle made old new Moved did not = absurd (not refl)
was_idle made old new Idle did not = did

pub idle_is_not : (step : Step) → step ≡ Idle → step ≡ Moved → ⊥
idle_is_not step idle moved = let clash : Idle ≡ Moved = sym idle ∙ moved in cc

-- the test for a first pass
pub pass_is_one : (pass waits : Option ℕ) (b : Bool) → pass ≡ waits → b ≡ option_eq eqb pass (Some 1) → b ≡ true → waits ≡ Some 1
pass_is_one pass waits b same test is = sym same ∙ by pass (sym test ∙ is)
  where
    equal : (a b : ℕ) → (a == b) ≡ true → a ≡ b
    equal a b is = grind (arith, nat_tests)

    by : (o : Option ℕ) → option_eq eqb o (Some 1) ≡ true → o ≡ Some 1
    by None e = cc
    by (Some n) e = ap (λ (k : ℕ). Some k) (equal n 1 e)

pub pass_is_not_one : (pass waits : Option ℕ) (b : Bool) → pass ≡ waits → b ≡ option_eq eqb pass (Some 1) → b ≡ false → waits ≢ Some 1
pass_is_not_one pass waits b same test is one = let clash : false ≡ true = sym is ∙ test ∙ ap (λ (o : Option ℕ). option_eq eqb o (Some 1)) (same ∙ one) in cc

-- a reached state's switch is one that its machine reaches
pub switch_reached : (plan : Plan) (s : State) → IsReached plan s → (now : Switch) → s.switch ≡ Some now → machine.IsReached plan.shape (hot_cells plan) now
switch_reached plan s reached now up = subst (machine.IsReached plan.shape (hot_cells plan)) (same_some (sym (holds_up plan s reached now up).up ∙ up)) (holds_up plan s reached now up).reached

-- no more packets have entered it than there are items
pub few_packets : (plan : Plan) (s : State) → IsReached plan s → (now : Switch) → s.switch ≡ Some now → length now.flights ≤ 4096
few_packets plan s reached now up = omega (arith, (fits_room plan s reached).packets now up, reached.sound.limits.items)

-- what waits at the port is what is on the client's desk
pub waits_shown : (plan : Plan) (seen : PlainPipeline) (now : Switch) (c : ℕ) → Shows plan.shape seen now → waiting_of seen c ≡ waiting_on now.flights (desk_at now c)
unfolding seen_of
waits_shown plan seen now c shows = ap (λ (p : PlainPipeline). waiting_of p c) shows.is ∙ list.get_or-map (waiting_on now.flights) now.desks c Vacant

pub next_shown : (plan : Plan) (seen : PlainPipeline) (now : Switch) → Shows plan.shape seen now → seen.next ≡ next_number now
unfolding seen_of
next_shown plan seen now shows = ap (λ (p : PlainPipeline). p.next) shows.is

abbrev new_entry : ℕ → ℕ → ℕ → HistoryEntry
new_entry c number seq = record { entry = record { stamp = record { number = number; sub = 0 }; client = c; seq = seq }; pairs = None }

module _ (plan : Plan) (s : State) (core : CoreState) (is_up : core.is_up ≡ true) (stands : StandsFor plan s core) (reached : IsReached plan s) where
  abbrev now : Switch
  now = (stands.switch.up is_up).now

  machine_now : machine.IsReached plan.shape (hot_cells plan) now
  machine_now = switch_reached plan s reached now (stands.switch.up is_up).up

  -- ---- a stage

  -- the code stands for the state when only the switch has changed
  pub stands_switched : (next : Switch) (after : PlainPipeline) → Shows plan.shape after next → StandsFor plan (switched s next) (record core { pipeline = after })
  unfolding switched
  stands_switched next after shows = record {
    runners = stands.runners;
    logs = stands.logs;
    switch = is_switch is_up (record { now = next; up = refl; shows = shows });
    locks = locks_switched plan s core.locks next stands.locks;
    tuples = stands.tuples;
    store = stands.store;
    history = stands.history;
    runs = stands.runs;
    refusals = stands.refusals;
    refused = stands.refused;
    draft = stands.draft;
  }

  pub advances : (x : ℕ) (after : PlainPipeline) → advanced core.pipeline x ≡ Some after → Follows plan s (Stage x) (record core { pipeline = after })
  advances x after made = by (advance plan.shape now x) refl (advance_shown plan.shape (hot_cells plan) now core.pipeline x machine_now (stands.switch.up is_up).shows)
    where
      by : (o : Option Switch) → advance plan.shape now x ≡ o → GoesAlong plan.shape (advanced core.pipeline x) o → Follows plan s (Stage x) (record core { pipeline = after })
      by None is none = absurd (some_none (sym made ∙ none))
      by (Some next) is goes = record {
        next = switched s next;
        step = stage_moves plan s 0 now (stands.switch.up is_up).up x ∙ ap (option_map (switched s)) is;
        stands = stands_switched next after (subst (λ (p : PlainPipeline). Shows plan.shape p next) (same_some (sym goes.1 ∙ made)) goes.2);
      }

  pub stays : (x : ℕ) → advanced core.pipeline x ≡ None → step plan s (Stage x) ≡ None
  stays x none = stage_moves plan s 0 now (stands.switch.up is_up).up x ∙ ap (option_map (switched s)) (by (advance plan.shape now x) (advance_shown plan.shape (hot_cells plan) now core.pipeline x machine_now (stands.switch.up is_up).shows))
    where
      by : (o : Option Switch) → GoesAlong plan.shape (advanced core.pipeline x) o → o ≡ None
      by None goes = refl
      by (Some next) goes = absurd (some_none (sym goes.1 ∙ none))

  -- ---- the port

  numbers_left : core.pipeline.next + 1 < 2 ^ 64
  numbers_left = let few = few_packets plan s reached now (stands.switch.up is_up).up in let next = next_shown plan core.pipeline now (stands.switch.up is_up).shows in omega (arith, few, next)

  pub keeps_out : (c : ℕ) → rows.entered core.pipeline c ≡ None → step plan s (Port c) ≡ None
  keeps_out c none =
      enters_move plan s c now (stands.switch.up is_up).up
      ∙ ap (option_map (behind_entry s c (desk_at now c) (next_number now))) (by (enter plan.shape now c) (enter_shown plan.shape (hot_cells plan) now core.pipeline c machine_now (stands.switch.up is_up).shows numbers_left))
    where
      by : (o : Option Switch) → GoesAlong plan.shape (rows.entered core.pipeline c) o → o ≡ None
      by None goes = refl
      by (Some next) goes = absurd (some_none (sym goes.1 ∙ none))

  -- where it enters in the code it does in the model
  pub record Enters (c : ℕ) (after : PlainPipeline) : Type 0 where
    pub next : Switch
    pub step : step plan s (Port c) ≡ Some (behind_entry s c (desk_at now c) (next_number now) next)
    pub shows : Shows plan.shape after next

  pub lets_in : (c : ℕ) (after : PlainPipeline) → rows.entered core.pipeline c ≡ Some after → Enters c after
  lets_in c after made = by (enter plan.shape now c) refl (enter_shown plan.shape (hot_cells plan) now core.pipeline c machine_now (stands.switch.up is_up).shows numbers_left)
    where
      by : (o : Option Switch) → enter plan.shape now c ≡ o → GoesAlong plan.shape (rows.entered core.pipeline c) o → Enters c after
      by None is none = absurd (some_none (sym made ∙ none))
      by (Some next) is goes = record {
        next = next;
        step = enters_move plan s c now (stands.switch.up is_up).up ∙ ap (option_map (behind_entry s c (desk_at now c) (next_number now))) is;
        shows = subst (λ (p : PlainPipeline). Shows plan.shape p next) (same_some (sym goes.1 ∙ made)) goes.2;
      }

  -- the pass for which the client's packet waits, by what is on its desk
  abbrev pass_at : ℕ → Option ℕ
  pass_at c = option_map (λ flight. flight.pass) (waiting_of core.pipeline c)

  pass_is : (c : ℕ) → pass_at c ≡ option_map (λ flight. flight.pass) (waiting_on now.flights (desk_at now c))
  pass_is c = ap (option_map (λ (flight : PlainFlight). flight.pass)) (waits_shown plan core.pipeline now c (stands.switch.up is_up).shows)

  -- a packet that waits for its first pass was posted
  pub first_is_posted : (c : ℕ) → pass_at c ≡ Some 1 → (p : PlainPacket) × (desk_at now c ≡ Posted p)
  first_is_posted c first = by (desk_at now c) refl (sym (pass_is c) ∙ first)
    where
      later : (k : ℕ) (b : Bool) → is_waiting (flight_at now.flights k) ≡ b → option_map (λ (flight : PlainFlight). flight.pass) (if b then Some (seen_flight now.flights k) else None) ≡ Some 1 → ⊥
      later k true is e = two ((flight_at now.flights k).depth == 0) (flight_at now.flights k).pass (flight_at now.flights k).packet.passes is (same_some e)
        where
          two : (a : Bool) (pass passes : ℕ) → (a && (nat_le 2 pass && nat_le pass passes)) ≡ true → pass ≡ 1 → ⊥
          two true pass passes t one = let no : nat_le 2 pass ≡ false = grind (arith, nat_tests) in no_pass (nat_le pass passes) (ap (λ (a : Bool). a && nat_le pass passes) (sym no) ∙ t)
            where
              no_pass : (b : Bool) → (false && b) ≡ true → ⊥
              no_pass b e = cc
          two false pass passes t one = cc
      later k false is e = some_none (sym e)

      by : (desk : Desk) → desk_at now c ≡ desk → option_map (λ flight. flight.pass) (waiting_on now.flights desk) ≡ Some 1 → (p : PlainPacket) × (desk_at now c ≡ Posted p)
      by Vacant is e = absurd (some_none (sym e))
      by (Posted p) is e = (p, is)
      by (Entered k) is e = absurd (later k (is_waiting (flight_at now.flights k)) refl e)

  -- one that was posted waits for its first pass
  pub not_first : (c : ℕ) → pass_at c ≢ Some 1 → (p : PlainPacket) → desk_at now c ≢ Posted p
  not_first c other p posted = other (pass_is c ∙ ap (λ (desk : Desk). option_map (λ (flight : PlainFlight). flight.pass) (waiting_on now.flights desk)) posted)

  -- behind a later entry only the switch has changed
  pub enters_later : (c : ℕ) (after : PlainPipeline) → rows.entered core.pipeline c ≡ Some after → pass_at c ≢ Some 1 → Follows plan s (Port c) (record core { pipeline = after })
  enters_later c after made other =
      let e = lets_in c after made in
      record {
        next = switched s e.next;
        step = e.step ∙ ap (λ (z : State). Some z) (by (desk_at now c) refl);
        stands = stands_switched e.next after e.shows;
      }
    where
      by : (desk : Desk) → desk_at now c ≡ desk → behind_entry s c desk (next_number now) (lets_in c after made).next ≡ switched s (lets_in c after made).next
      by Vacant is = refl
      by (Posted p) is = absurd (not_first c other p is)
      by (Entered k) is = refl

  -- behind a first entry the history has its entry too
  entered_first : (c : ℕ) (after : PlainPipeline) (history : Recorded) (p : PlainPacket) → desk_at now c ≡ Posted p → rows.entered core.pipeline c ≡ Some after
      → history ≡ record core.history { items = with_entry (new_entry c (next_number now) p.seq) core.history.items }
      → Follows plan s (Port c) (record core { pipeline = after; history = history })
  unfolding model.entered switched
  entered_first c after history p posted made put =
      let e = lets_in c after made in
      record {
        next = model.entered s c p (next_number now) e.next;
        step = e.step ∙ ap (λ (desk : Desk). Some (behind_entry s c desk (next_number now) e.next)) posted;
        stands = record {
          runners = stands.runners;
          logs = stands.logs;
          switch = is_switch is_up (record { now = e.next; up = refl; shows = e.shows });
          locks = locks_entered plan s core.locks c p (next_number now) e.next stands.locks;
          tuples = stands.tuples;
          store = stands.store;
          history = ap (λ (h : Recorded). h.items) put ∙ ap (with_entry (new_entry c (next_number now) p.seq)) stands.history;
          runs = ap (λ (h : Recorded). h.runs) put ∙ stands.runs;
          refusals = stands.refusals;
          refused = stands.refused;
          draft = stands.draft;
        };
      }

  within_clients : (c : ℕ) → c < length plan.clients → c < length s.clients
  within_clients c lt = omega (arith, lt, clients_stay plan s reached)

  pub within_runners : (c : ℕ) → c < length plan.clients → c < length core.runners.items
  within_runners c lt = omega (arith, within_clients c lt, stands.runners.count)

  -- what is kept of a client
  pub runner_is : (c : ℕ) → c < length plan.clients → (k : Runner) → k ≡ get_or core.runners.items c k → IsRunner plan c (client_at s c) k
  runner_is c lt k here = subst (IsRunner plan c (client_at s c)) (sym here) (stands.runners.each c k (within_clients c lt))

  seq_kept : (c : ℕ) → c < length plan.clients → (k : Runner) → k ≡ get_or core.runners.items c k → k.state.seq ≡ (client_at s c).seq
  seq_kept c lt k here = ap (λ (p : PlainClient). p.seq) (runner_is c lt k here).kept

  -- the entry of a packet that waits for its first pass
  module _ (c : ℕ) (lt : c < length plan.clients) (first : pass_at c ≡ Some 1) (k : Runner) (here : k ≡ get_or core.runners.items c k) where
    posted : (p : PlainPacket) × (desk_at now c ≡ Posted p)
    posted = first_is_posted c first

    pub is_transaction : IsSome (ops_at core.history.runs c k.state.seq)
    is_transaction =
        subst (λ (runs : Runs). IsSome (ops_at runs c k.state.seq)) (sym stands.runs)
        (subst (λ (q : ℕ). IsSome (ops_at (runs_of plan) c q)) (sym (seq_kept c lt k here)) (enters.is_transaction plan s reached c now (stands.switch.up is_up).up posted.0 posted.1))

    module _ (number : ℕ) (next_is : number ≡ core.pipeline.next) where
      number_is : number ≡ next_number now
      number_is = next_is ∙ next_shown plan core.pipeline now (stands.switch.up is_up).shows

      pub is_above : IsAboveOwn (record { stamp = record { number = number; sub = 0 }; client = c; seq = k.state.seq }) core.history.items
      is_above =
          subst (IsAboveOwn (record { stamp = record { number = number; sub = 0 }; client = c; seq = k.state.seq })) (sym stands.history)
          (subst (λ (n : ℕ). IsAboveOwn (record { stamp = record { number = n; sub = 0 }; client = c; seq = k.state.seq }) s.history) (sym number_is)
          (subst (λ (q : ℕ). IsAboveOwn (record { stamp = record { number = next_number now; sub = 0 }; client = c; seq = q }) s.history) (sym (seq_kept c lt k here)) (enters.is_above plan s reached c now (stands.switch.up is_up).up posted.0 posted.1)))

      new_is : record { entry = record { stamp = record { number = number; sub = 0 }; client = c; seq = k.state.seq }; pairs = None } ≡ new_entry c (next_number now) posted.0.seq
      new_is =
          ap (λ (n : ℕ). new_entry c n k.state.seq) number_is
          ∙ ap (new_entry c (next_number now)) (seq_kept c lt k here ∙ sym (enters.seq_is plan s reached c now (stands.switch.up is_up).up posted.0 posted.1))

      pub enters_first : (after : PlainPipeline) → rows.entered core.pipeline c ≡ Some after → (history : Recorded)
          → history ≡ record core.history { items = with_entry (record { entry = record { stamp = record { number = number; sub = 0 }; client = c; seq = k.state.seq }; pairs = None }) core.history.items }
          → Follows plan s (Port c) (record core { pipeline = after; history = history })
      enters_first after made history put = entered_first c after history posted.0 posted.1 made (put ∙ ap (λ (e : HistoryEntry). record core.history { items = with_entry e core.history.items }) new_is)
