-- What holds between any two moves is kept by every move while the switch is up.
use Rattle.std.proofs.Common.{◌≡◌, ℕ, ◌+◌, ◌<◌, ◌≤◌, Bool, true, false, List, [], ◌∷◌, length, slice_get, unwrap_or, Option, Some, None, inl, inr, refl, sym, ap, subst, ◌∙◌, arith, if◌then◌else◌}
use Rattle.txn_model.specs.declared.op.Op.{Op}
use Rattle.switch_packet.specs.Replay.{replay_all}
use Rattle.switch_model.specs.Event as switch
use Rattle.switch_model.specs.Reached.{FitsEvent}
use Rattle.switch_model.specs.Event.{Event, Post, Enter, Advance, Take, post, enter, advance, take_answer}
use Rattle.switch_model.specs.Fitting.{FitsSwitch}
use Rattle.switch_model.specs.Flight.{flight_at, is_done}
use Rattle.switch_model.specs.Laws.{GoesOnBy}
use Rattle.switch_model.specs.Switch.{Switch, Answer, Desk, Vacant, Posted, Entered, desk_at, entered, answer_of, answer_on, next_number}
use Rattle.switch_model.proofs.Effects.{post_effect, enter_effect, advance_effect, take_effect}
use Rattle.warm_split.specs.Laws.{IsOneVisit}
use Rattle.catalogue.proofs.SoundLaws.{sound_script}
use Rattle.catalogue.specs.Plan.{Plan, script_of, script_at, hot_cells}
use Rattle.catalogue.specs.Sound.{IsSound}
use Rattle.catalogue.specs.declared.actor.Actor.{Actor}
use Rattle.core_model.specs.State.{ClientState, script_now}
use Rattle.core_model.proofs.Legal.{all_distinct}
use Rattle.fabric_model.specs.Intents.{packet_now}
use Rattle.fabric_model.specs.Fits.{PacketsFit}
use Rattle.fabric_model.specs.Holds.{HostFacts, Holds, HoldsLost, HoldsNow, WhileUp, WhileLost}
use Rattle.fabric_model.specs.State.{State, client_at}
use Rattle.fabric_model.specs.Step as fabric
use Rattle.fabric_model.specs.Step.{lost, has_hot, behind_entry}
use Rattle.fabric_model.specs.Intents.{values_of}
use Rattle.fabric_model.proofs.KeptByClients.{IsMoveOf, holds_moved, granted_moves, refused_moves, released_moves, logged_moves, installed_moves}
use Rattle.fabric_model.proofs.KeptByDecision.{decided_holds}
use Rattle.fabric_model.proofs.KeptByEntry.{entered_holds}
use Rattle.fabric_model.proofs.KeptByReply.{taken_holds}
use Rattle.fabric_model.proofs.KeptByStages.{switched_holds, posted_holds}
use Rattle.fabric_model.proofs.TiesKept.{host_facts}
use Rattle.fabric_model.proofs.MoveKinds.{Move, Loses, Grants, Refuses, Releases, Decides, Logs, Posts, Takes, Installs, Moved, ByClient, AtPort, AtStage, Recovers}
use Rattle.fabric_model.specs.ColdFacts.{FitsPhase}
use Rattle.core_model.specs.Asking.{IsAsking}
use Rattle.core_model.specs.Locks.{cold_ops}
use Rattle.core_model.specs.declared.phase.Phase.{Phase}
use Rattle.core_model.specs.declared.phase.Phase.TheVariants.{Ready, Locking}
use Rattle.switch_model.proofs.Replayed.{answers_replayed, goes_on}
use Rattle.std.proofs.lemmas.List.{length-map}
use Rattle.switch_model.specs.Flight.{Flight}
use Rattle.warm_split.specs.Resolved.{packet_from}

-- a script of a sound session that has an operation needs one visit of the switch
pub visit_of : (plan : Plan) (c seq : ℕ) → IsSound plan → 1 ≤ length (script_at plan c seq) → IsOneVisit plan.layout (script_at plan c seq)
visit_of plan c seq sound some = by (script_of plan c seq) refl some
  where
    by : (o : Option (List Op)) → script_of plan c seq ≡ o → 1 ≤ length (unwrap_or o []) → IsOneVisit plan.layout (unwrap_or o [])
    by None is h = absurd (omega arith)
    by (Some ops) is h = let fit = sound_script plan c seq ops sound is in record { script = fit.script; turns = fit.turns }

pub some_hot : (plan : Plan) (ops : List Op) → has_hot plan ops ≡ true → 1 ≤ length ops
some_hot plan [] e = cc
some_hot plan (op ∷ ops) e = omega arith

pub some_cold : (plan : Plan) (ops : List Op) → 1 ≤ length (cold_ops plan.layout ops) → 1 ≤ length ops
some_cold plan [] e = absurd (omega arith)
some_cold plan (op ∷ ops) e = omega arith

client_of_packet : (plan : Plan) (c : ℕ) (x : ClientState) → (packet_now plan c x).client ≡ c
unfolding packet_from
client_of_packet plan c x = refl

same_some : {T : Type 0} {a b : T} → Some a ≡ Some b → a ≡ b
same_some e = cc

-- where an answer comes from
pub record Answered (now : Switch) (c : ℕ) (answer : Answer) : Type 0 where
  pub k : ℕ
  pub desk : desk_at now c ≡ Entered k
  pub number : answer.number ≡ k + 1

pub answered_desk : (now : Switch) (c : ℕ) (answer : Answer) → answer_of now c ≡ Some answer → Answered now c answer
answered_desk now c answer has = by (desk_at now c) refl has
  where
    done : (k : ℕ) (b : Bool) → desk_at now c ≡ Entered k → (if b then Some (record { number = k + 1; pairs = (flight_at now.flights k).pairs }) else None) ≡ Some answer → Answered now c answer
    done k true is e = record { k = k; desk = is; number = ap (λ (a : Answer). a.number) (sym (same_some e)) }
    done k false is e = cc

    by : (desk : Desk) → desk_at now c ≡ desk → answer_on now.flights desk ≡ Some answer → Answered now c answer
    by Vacant is e = cc
    by (Posted p) is e = cc
    by (Entered k) is e = done k (is_done (flight_at now.flights k)) is e

module _ (plan : Plan) (sound : IsSound plan) (fits : PacketsFit plan) (s : State) (holds : Holds plan s)
    (loses : (c : ℕ) → c < length s.clients → (client_at s c).phase ≡ Ready → HoldsLost plan (lost plan s c (client_at s c))) where
  same_switch : (now : Switch) → s.switch ≡ Some now → now ≡ holds.now
  same_switch now up = same_some (sym up ∙ holds.up)

  on : (now next : Switch) (event : Event) → s.switch ≡ Some now → FitsEvent plan.shape event → switch.step plan.shape now event ≡ Some next → GoesOnBy plan.shape (hot_cells plan) holds.now next event
  on now next event up fit to = goes_on plan.shape (hot_cells plan) holds.now next event holds.reached fit (ap (λ (w : Switch). switch.step plan.shape w event) (sym (same_switch now up)) ∙ to)

  asks_fit : (c : ℕ) → IsAsking (client_at s c) → length (client_at s c).noted ≤ length (cold_ops plan.layout (script_now plan c (client_at s c)))
  asks_fit c (inl is) = let fit : FitsPhase plan c (client_at s c) Ready = subst (λ (p : Phase). FitsPhase plan c (client_at s c) p) is (holds.ties.cold.fits c) in omega (arith, ap length fit.0)
  asks_fit c (inr is) = let fit : FitsPhase plan c (client_at s c) Locking = subst (λ (p : Phase). FitsPhase plan c (client_at s c) p) is (holds.ties.cold.fits c) in fit.0

  abbrev count : ℕ
  count = length (entered holds.now)

  facts : HostFacts plan count (client_at s) s.store s.history
  facts = host_facts plan (client_at s) s.store s.history (desk_at holds.now) (entered holds.now) holds.ties

  by_move : (c : ℕ) (after z : State) → c < length s.clients → after ≡ z → IsMoveOf plan s count c z → HoldsNow plan after
  by_move c after z lt is move = WhileUp (subst (Holds plan) (sym is) (holds_moved plan s count c lt z move holds refl))

  kept_by_client : (c : ℕ) (after : State) → c < length s.clients → Move plan s c after → HoldsNow plan after
  kept_by_client c after lt (Loses now phase item up is) = WhileLost (subst (HoldsLost plan) (sym is) (loses c lt phase))
  kept_by_client c after lt (Grants op asks next free is) = by_move c after _ lt is (granted_moves plan (all_distinct plan sound) s c lt count facts op asks next free)
  kept_by_client c after lt (Refuses op by asks next held is) = by_move c after _ lt is (refused_moves plan (all_distinct plan sound) s c lt count facts op by asks)
  kept_by_client c after lt (Releases phase is) = by_move c after _ lt is (released_moves plan (all_distinct plan sound) s c lt count facts phase)
  kept_by_client c after lt (Decides asks next cold some is) = WhileUp (subst (Holds plan) (sym is)
      (decided_holds plan (all_distinct plan sound) s c lt holds (visit_of plan c (client_at s c).seq sound (some_cold plan (script_now plan c (client_at s c)) (omega (arith, some, asks_fit c asks)))) asks next cold some))
  kept_by_client c after lt (Logs asks next hot is) = by_move c after _ lt is (logged_moves plan (all_distinct plan sound) s c lt count facts asks next hot)
  kept_by_client c after lt (Posts now next phase up to is) =
      let x = client_at s c in
      let fit : FitsSwitch plan.shape (packet_now plan c x) = fits c x.seq (values_of x.noted) (holds.ties.hot_ones c (inl phase)) in
      let by = on now next (Post c (packet_now plan c x)) up (fit, client_of_packet plan c x) to in
      WhileUp (subst (Holds plan) (sym is) (posted_holds plan s c lt holds next phase by.reached by.desks (post_effect holds.now next c (packet_now plan c x) (ap (λ (w : Switch). post w c (packet_now plan c x)) (sym (same_switch now up)) ∙ to))))
  kept_by_client c after lt (Takes now next answer phase up has to is) =
      let x = client_at s c in
      let here = same_switch now up in
      let has_now : answer_of holds.now c ≡ Some answer = ap (λ (w : Switch). answer_of w c) (sym here) ∙ has in
      let to_now : take_answer holds.now c ≡ Some next = ap (λ (w : Switch). take_answer w c) (sym here) ∙ to in
      let from = answered_desk holds.now c answer has_now in
      let by = on now next (Take c) up tt to in
      let replayed = answers_replayed plan.shape (hot_cells plan) holds.now c answer holds.reached has_now in
      let place : replayed.place ≡ from.k = omega (arith, replayed.number, from.number) in
      WhileUp (subst (Holds plan) (sym is) (taken_holds plan (all_distinct plan sound) s c lt holds from.k from.desk
      (visit_of plan c x.seq sound (some_hot plan (script_now plan c x) (holds.ties.hot_ones c (inr phase)))) answer.pairs
      (ap (slice_get (replay_all (entered holds.now) (hot_cells plan)).pairs) (sym place) ∙ replayed.pairs) next by.reached by.desks (take_effect holds.now next c to_now) answer.number from.number))
  kept_by_client c after lt (Installs p phase at is) = by_move c after _ lt is (installed_moves plan (all_distinct plan sound) s c lt count facts p phase at)

  kept_at_port : (c : ℕ) (now next : Switch) → s.switch ≡ Some now → enter plan.shape now c ≡ Some next → Holds plan (behind_entry s c (desk_at now c) (next_number now) next)
  kept_at_port c now next up to =
      let by = on now next (Enter c) up tt to in
      let here = same_switch now up in
      subst (λ (w : Switch). Holds plan (behind_entry s c (desk_at w c) (next_number w) next)) (sym here)
      (elim (enter_effect plan.shape holds.now next c (ap (λ (w : Switch). enter plan.shape w c) (sym here) ∙ to)) [
        | inl f ↦
            let size : length (entered holds.now) ≡ length holds.now.flights = length-map holds.now.flights (λ (g : Flight). g.packet) in
            subst (λ (d : Desk). Holds plan (behind_entry s c d (next_number holds.now) next)) (sym f.posted)
            (subst (λ (n : ℕ). Holds plan (fabric.entered s c f.packet (n + 1) next)) size (entered_holds plan s c holds next by.reached by.desks f))
        | inr l ↦ subst (λ (d : Desk). Holds plan (behind_entry s c d (next_number holds.now) next)) (sym l.desk) (switched_holds plan s holds next by.reached by.desks l.desks l.entered)
      ])

  never : s.switch ≡ None → ⊥
  never down = let clash : None ≡ Some holds.now = sym down ∙ holds.up in cc

  pub kept_up : (after : State) (actor : Actor) → Moved plan s after actor → HoldsNow plan after
  kept_up after actor (ByClient c within move) = kept_by_client c after within move
  kept_up after actor (AtPort c now next up to is) = WhileUp (subst (Holds plan) (sym is) (kept_at_port c now next up to))
  kept_up after actor (AtStage x now next up to is) =
      let by = on now next (Advance x) up tt to in
      let effect = advance_effect plan.shape holds.now next x (ap (λ (w : Switch). advance plan.shape w x) (sym (same_switch now up)) ∙ to) in
      WhileUp (subst (Holds plan) (sym is) (switched_holds plan s holds next by.reached by.desks effect.desks effect.entered))
  kept_up after actor (Recovers order down found is) = absurd (never down)
