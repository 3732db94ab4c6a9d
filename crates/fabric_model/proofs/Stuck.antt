-- While clients are unfinished, one of the session's actors can move.
use Rattle.std.proofs.Common.{◌≡◌, ◌≢◌, ℕ, ◌-◌, ◌<◌, ◌≤◌, ◌==◌, ◌&&◌, nat_lt, not, Bool, true, false, List, [], ◌∷◌, length, slice_get, is_some, unwrap_or, Option, Some, None, IsSome, option_map, refl, sym, ap, subst, ◌∙◌, arith, if◌then◌else◌}
use Rattle.std.specs.List.{list_all}
use Rattle.std.specs.Option.{option_and_then}
use Rattle.std.proofs.lemmas.Bool.Decides.{nat_tests}
use Rattle.txn_model.specs.declared.op.Op.{Op}
use Rattle.history_model.specs.Chain.{Step}
use Rattle.history_model.specs.History.{History}
use Rattle.stage_layout.specs.Late.{is_hot}
use Rattle.placement_model.specs.FirstOrder.{first_order}
use Rattle.placement_model.specs.Placements.{Task}
use Rattle.placement_model.proofs.First.{no_order_is_no_placement}
use Rattle.catalogue.specs.Plan.{Plan, PlainItem, Run, Lose, items_of, item_of, script_in, script_of, hot_cells}
use Rattle.catalogue.specs.Sound.{IsSound}
use Rattle.catalogue.specs.declared.actor.Actor.TheVariants.{Client, Port, Stage, Recover}
use Rattle.catalogue.proofs.SoundLaws.{sound_script}
use Rattle.txn_model.specs.ScriptCheck.{script_fault}
use Rattle.switch_model.specs.Event as switch
use Rattle.switch_model.specs.Laws.{CanGoOn, AtStage, AtPort, AtDesk}
use Rattle.switch_model.specs.Switch.{Switch, Answer, Desk, Vacant, Posted, Entered, desk_at, next_number, answer_on, answer_of}
use Rattle.switch_model.proofs.Effects.{can_post, take_effect}
use Rattle.switch_model.proofs.NotStuck.{not_stuck}
use Rattle.core_model.specs.declared.phase.Phase.{Phase}
use Rattle.core_model.specs.declared.phase.Phase.TheVariants.{Ready, Locking, Aborting, Logged, Waiting, Installing, Finished}
use Rattle.core_model.specs.Facts.{steps_now}
use Rattle.core_model.specs.Locks.{cold_ops}
use Rattle.core_model.specs.Rota.{has_finished}
use Rattle.core_model.specs.State.{ClientState, script_now}
use Rattle.core_model.proofs.Decide.{item_at_place}
use Rattle.core_model.proofs.Decided.{or_false}
use Rattle.core_model.proofs.Kept.{past_none}
use Rattle.fabric_model.specs.Carried.{FitsDesk}
use Rattle.fabric_model.specs.ColdFacts.{FitsPhase}
use Rattle.fabric_model.specs.Holds.{Holds, HoldsLost, HoldsNow, WhileUp, WhileLost}
use Rattle.fabric_model.specs.Intents.{packet_now}
use Rattle.fabric_model.specs.Laws.{IsReached, SomeoneCanMove}
use Rattle.fabric_model.specs.Recovery.{plain_logs}
use Rattle.fabric_model.specs.Rota.{all_finished}
use Rattle.fabric_model.specs.State.{State, client_at}
use Rattle.fabric_model.specs.Step.{lost, decided, logged, posted, taken, installed, switched, has_hot, logs_or_decides, asks_or_goes_on, next_op, takes, begins, client_step, behind_entry, enters, recovered, order_now, recovers, step}
use Rattle.fabric_model.proofs.AnsweredButOne.{counted_of, answered_but_one}
use Rattle.fabric_model.proofs.FromCore.{lt_true, some_unfinished}
use Rattle.fabric_model.proofs.MovesLeft.{busy_waits}
use Rattle.fabric_model.proofs.Present.{present_of, clients_stay}

-- ---- items

-- a script without a fault has an operation
not_empty : (ops : List Op) → script_fault ops ≡ None → 1 ≤ length ops
unfolding script_fault
not_empty [] e = cc
not_empty (op ∷ ops) e = omega arith

-- a client that is present has an item
item_here : (plan : Plan) (c seq : ℕ) → 1 ≤ seq → seq ≤ length (items_of plan c) → IsSome (item_of plan c seq)
item_here plan c seq one within = by (seq == 0) refl
  where
    positive : (n : ℕ) → 1 ≤ n → (n == 0) ≡ true → ⊥
    positive n le e = grind (arith, nat_tests)

    by : (b : Bool) → (seq == 0) ≡ b → IsSome (if b then None else slice_get (items_of plan c) (seq - 1))
    by true e = absurd (positive seq one e)
    by false e = let found = item_at_place (items_of plan c) (seq - 1) (omega (arith, one, within)) in subst IsSome (sym found.1) refl

-- where that is a script, it has an operation
runs_some : (plan : Plan) (c : ℕ) (x : ClientState) (ops : List Op) → IsSound plan → item_of plan c x.seq ≡ Some (Run ops) → 1 ≤ length (script_now plan c x)
runs_some plan c x ops sound is =
    let script : script_of plan c x.seq ≡ Some ops = ap (option_and_then script_in) is in
    subst (λ (o : Option (List Op)). 1 ≤ length (unwrap_or o [])) (sym script) (not_empty ops (sound_script plan c x.seq ops sound script).script)

-- and a loss has none
loses_none : (plan : Plan) (c : ℕ) (x : ClientState) → item_of plan c x.seq ≡ Some Lose → script_now plan c x ≡ []
loses_none plan c x is = ap (λ (o : Option PlainItem). unwrap_or (option_and_then script_in o) []) is

-- ---- clients

-- a script without an operation in the switch has one on a host
some_cold : (plan : Plan) (ops : List Op) → has_hot plan ops ≡ false → 1 ≤ length ops → 1 ≤ length (cold_ops plan.layout ops)
some_cold plan [] cold one = absurd (omega (arith, one))
some_cold plan (op ∷ ops) cold one =
    subst (λ (b : Bool). 1 ≤ length (if not b then op ∷ cold_ops plan.layout ops else cold_ops plan.layout ops)) (sym (or_false (is_hot plan.layout op.tuple) (has_hot plan ops) cold).0) (omega arith)

-- a script with a lock has an operation
some_of_cold : (plan : Plan) (ops : List Op) (n : ℕ) → 1 ≤ n → n ≤ length (cold_ops plan.layout ops) → 1 ≤ length ops
some_of_cold plan [] n one few = absurd (omega (arith, one, few))
some_of_cold plan (op ∷ ops) n one few = omega arith

goes_on : (plan : Plan) (s : State) (c : ℕ) (x : ClientState) → next_op plan c x ≡ None → 1 ≤ length (script_now plan c x) → IsSome (logs_or_decides plan s c x)
goes_on plan s c x is some = by (has_hot plan (script_now plan c x)) refl
  where
    by : (b : Bool) → has_hot plan (script_now plan c x) ≡ b → IsSome (if b then Some (logged plan s c x) else (if nat_lt 0 (length x.noted) then Some (decided plan s c x) else None))
    by true hot = refl
    by false cold =
        subst (λ (b : Bool). IsSome (if b then Some (decided plan s c x) else None))
        (sym (lt_true 0 (length x.noted) (omega (arith, some_cold plan (script_now plan c x) cold some, past_none (cold_ops plan.layout (script_now plan c x)) (length x.noted) is)))) refl

asks_can_move : (plan : Plan) (s : State) (c : ℕ) (x : ClientState) (o : Option Op) → next_op plan c x ≡ o → 1 ≤ length (script_now plan c x) → IsSome (asks_or_goes_on plan s c x o)
asks_can_move plan s c x (Some op) is some = refl
asks_can_move plan s c x None is some = goes_on plan s c x is some

mapped_some : {X Y : Type 0} (f : X → Y) (o : Option X) → IsSome o → IsSome (option_map f o)
mapped_some f (Some x) is = refl
mapped_some f None is = cc

vacant_of : (plan : Plan) (h : History) (c : ℕ) (x : ClientState) (desk : Desk) → FitsDesk plan h c x desk → x.phase ≢ Waiting → desk ≡ Vacant
vacant_of plan h c x Vacant fits n = refl
vacant_of plan h c x (Posted p) fits n = absurd (n fits.0)
vacant_of plan h c x (Entered k) fits n = absurd (n fits.0)

busy_of : (plan : Plan) (h : History) (c : ℕ) (x : ClientState) (desk : Desk) → FitsDesk plan h c x desk → x.phase ≡ Waiting → desk ≢ Vacant
busy_of plan h c x Vacant fits is = absurd (fits is)
busy_of plan h c x (Posted p) fits is = λ e. cc
busy_of plan h c x (Entered k) fits is = λ e. cc

-- ---- clients that move whether the switch is up or not

module _ (plan : Plan) (s : State) (reached : IsReached plan s) where
  client_moves : (c : ℕ) → c < length s.clients → IsSome (client_step plan s c (client_at s c) (client_at s c).phase) → IsSome (step plan s (Client c))
  unfolding step
  client_moves c lt is = subst (λ (b : Bool). IsSome (if b then client_step plan s c (client_at s c) (client_at s c).phase else None)) (sym (lt_true c (length s.clients) lt)) is

  this_moves : (c : ℕ) → c < length s.clients → (q : Phase) → (client_at s c).phase ≡ q → IsSome (client_step plan s c (client_at s c) q) → SomeoneCanMove plan s
  this_moves c lt q is can = record {
    actor = Client c;
    is = omega (arith, lt, clients_stay plan s reached);
    moves = client_moves c lt (subst (λ (p : Phase). IsSome (client_step plan s c (client_at s c) p)) (sym is) can);
  }

module _ (plan : Plan) (s : State) (reached : IsReached plan s) (h : Holds plan s) where
  port_moves : (c : ℕ) → IsSome (switch.enter plan.shape h.now c) → IsSome (step plan s (Port c))
  unfolding step
  port_moves c can = subst (λ (o : Option Switch). IsSome (option_and_then (enters plan s c) o)) (sym h.up) (mapped_some (behind_entry s c (desk_at h.now c) (next_number h.now)) (switch.enter plan.shape h.now c) can)

  stage_moves : (x : ℕ) → IsSome (switch.advance plan.shape h.now x) → IsSome (step plan s (Stage x))
  unfolding step
  stage_moves x can = subst (λ (o : Option Switch). IsSome (option_map (switched s) (option_and_then (λ now. switch.advance plan.shape now x) o))) (sym h.up) (mapped_some (switched s) (switch.advance plan.shape h.now x) can)

  takes_some : (c : ℕ) → IsSome (switch.take_answer h.now c) → IsSome (client_step plan s c (client_at s c) Waiting)
  takes_some c can = by (switch.take_answer h.now c) refl can
    where
      by : (o : Option Switch) → switch.take_answer h.now c ≡ o → IsSome o → IsSome (client_step plan s c (client_at s c) Waiting)
      by (Some next) to is =
          let effect = take_effect h.now next c to in
          subst (λ (o : Option Switch). IsSome (option_and_then (λ now. takes plan s c (client_at s c) now (answer_of now c)) o)) (sym h.up)
          (subst (λ (o : Option Answer). IsSome (takes plan s c (client_at s c) h.now o)) (sym effect.given) (mapped_some (taken plan s c (client_at s c) effect.answer) (switch.take_answer h.now c) can))
      by None to is = cc

  -- a client whose answer can be taken waits for it
  taker_waits : (c : ℕ) → IsSome (switch.take_answer h.now c) → (client_at s c).phase ≡ Waiting
  taker_waits c can = busy_waits plan s.history c (client_at s c) (desk_at h.now c) (by (switch.take_answer h.now c) refl can) (h.ties.under_way c)
    where
      by : (o : Option Switch) → switch.take_answer h.now c ≡ o → IsSome o → desk_at h.now c ≢ Vacant
      by (Some next) to is vacant = let effect = take_effect h.now next c to in let none : answer_of h.now c ≡ None = ap (answer_on h.now.flights) vacant in clash (sym none ∙ effect.given)
        where
          clash : {a : Answer} → None ≡ Some a → ⊥
          clash e = cc
      by None to is vacant = cc

  packet_moves : CanGoOn plan.shape h.now → SomeoneCanMove plan s
  packet_moves (AtStage x lt can) = record { actor = Stage x; is = lt; moves = stage_moves x can }
  packet_moves (AtPort c lt can) = record { actor = Port c; is = omega (arith, lt, h.desks, clients_stay plan s reached); moves = port_moves c can }
  packet_moves (AtDesk c lt can) = this_moves plan s reached c (omega (arith, lt, h.desks)) Waiting (taker_waits c can) (takes_some c can)

  -- a client that is ready begins its script, or loses the switch
  begins_some : (c : ℕ) → (client_at s c).phase ≢ Finished → IsSome (client_step plan s c (client_at s c) Ready)
  begins_some c active = let at = present_of plan s reached c active in by (item_of plan c (client_at s c).seq) refl (item_here plan c (client_at s c).seq at.0 at.1)
    where
      by : (o : Option PlainItem) → item_of plan c (client_at s c).seq ≡ o → IsSome o → IsSome (begins plan s c (client_at s c) o)
      by None is some = cc
      by (Some (Run ops)) is some = asks_can_move plan s c (client_at s c) (next_op plan c (client_at s c)) refl (runs_some plan c (client_at s c) ops reached.sound is)
      by (Some Lose) is some = subst (λ (o : Option Switch). IsSome (option_map (λ now. lost plan s c (client_at s c)) o)) (sym h.up) refl

  moves_in : (c : ℕ) → c < length s.clients → (client_at s c).phase ≢ Finished → (q : Phase) → (client_at s c).phase ≡ q → FitsPhase plan c (client_at s c) q → SomeoneCanMove plan s
  moves_in c lt active q is fit = by q is fit
    where
      apart : Logged ≡ Waiting → ⊥
      apart e = cc

      -- a client that locks has a script
      script : (client_at s c).phase ≡ Locking → FitsPhase plan c (client_at s c) Locking → 1 ≤ length (script_now plan c (client_at s c))
      script e f = some_of_cold plan (script_now plan c (client_at s c)) (length (client_at s c).noted) ((counted_of plan s reached c).locks e) f.0

      by : (p : Phase) → (client_at s c).phase ≡ p → FitsPhase plan c (client_at s c) p → SomeoneCanMove plan s
      by Ready e f = this_moves plan s reached c lt Ready e (begins_some c active)
      by Locking e f = this_moves plan s reached c lt Locking e (asks_can_move plan s c (client_at s c) (next_op plan c (client_at s c)) refl (script e f))
      by Aborting e f = this_moves plan s reached c lt Aborting e refl
      by Logged e f =
          let vacant = vacant_of plan s.history c (client_at s c) (desk_at h.now c) (h.ties.under_way c) (λ w. apart (sym e ∙ w)) in
          this_moves plan s reached c lt Logged e (subst (λ (o : Option Switch). IsSome (option_map (posted s c (client_at s c)) (option_and_then (λ now. switch.post now c (packet_now plan c (client_at s c))) o))) (sym h.up)
          (mapped_some (posted s c (client_at s c)) (switch.post h.now c (packet_now plan c (client_at s c))) (can_post h.now c (packet_now plan c (client_at s c)) vacant (omega (arith, lt, h.desks)))))
      by Waiting e f = packet_moves (not_stuck plan.shape (hot_cells plan) h.now c h.reached (busy_of plan s.history c (client_at s c) (desk_at h.now c) (h.ties.under_way c) e))
      by Installing e f =
          let here = item_at_place (steps_now plan c (client_at s c)) (client_at s c).installed (omega (arith, h.ties.installs c e, f.1)) in
          this_moves plan s reached c lt Installing e (subst (λ (o : Option Step). IsSome (option_map (installed plan s c (client_at s c)) o)) (sym here.1) refl)
      by Finished e f = absurd (active e)

  someone_moves : all_finished s ≡ false → SomeoneCanMove plan s
  someone_moves more =
      let open_client = some_unfinished s.clients (clients_open (list_all has_finished s.clients) (subst (λ (o : Option Switch). (list_all has_finished s.clients && is_some o) ≡ false) h.up more)) in
      let c = open_client.client in
      moves_in c open_client.within open_client.active (client_at s c).phase refl (h.ties.cold.fits c)
    where
      clients_open : (b : Bool) → (b && true) ≡ false → b ≡ false
      clients_open true e = cc
      clients_open false e = refl

-- ---- a lost switch

-- it can be rebuilt: the logs have a placement, and so a first one
order_there : (plan : Plan) (s : State) → IsReached plan s → HoldsLost plan s → IsSome (order_now plan s)
unfolding order_now
order_there plan s reached h = by (first_order (plain_logs s.logs) (hot_cells plan)) refl
  where
    by : (o : Option (List Task)) → first_order (plain_logs s.logs) (hot_cells plan) ≡ o → IsSome o
    by (Some order) is = refl
    by None is = absurd (no_order_is_no_placement (plain_logs s.logs) (hot_cells plan) h.order (answered_but_one plan s reached) is h.placed)

recovery_moves : (plan : Plan) (s : State) → IsReached plan s → HoldsLost plan s → SomeoneCanMove plan s
unfolding step
recovery_moves plan s reached h = record {
  actor = Recover;
  is = tt;
  moves = subst (λ (o : Option Switch). IsSome (recovers plan s o)) (sym h.lost) (mapped_some (recovered plan s) (order_now plan s) (order_there plan s reached h));
}

pub someone_can_move : (plan : Plan) (s : State) → IsReached plan s → HoldsNow plan s → all_finished s ≡ false → SomeoneCanMove plan s
someone_can_move plan s reached (WhileUp h) more = someone_moves plan s reached h more
someone_can_move plan s reached (WhileLost h) more = recovery_moves plan s reached h
