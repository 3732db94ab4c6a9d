-- Runs of sessions that have no tuple in the switch: no packet is ever under way, so that neither ports nor stages move.
use Rattle.std.proofs.Common.{◌≡◌, ◌⊎◌, ℕ, ◌+◌, ◌<◌, ◌≤◌, Bool, true, false, List, [], ◌∷◌, ◌++◌, length, map, option_map, unwrap_or, Option, Some, None, is_some, if◌then◌else◌, inl, inr, refl, sym, ap, ◌∙◌, arith}
use Rattle.std.specs.List.{position}
use Rattle.std.specs.Option.{option_and_then}
use Rattle.std.proofs.lemmas.Bool.{cases_lt}
use Rattle.stage_layout.specs.declared.layout.LayoutRow.{LayoutRow}
use Rattle.switch_model.specs.Event as switch
use Rattle.switch_model.specs.Flight.{Flight, flight_at, is_in_slot}
use Rattle.switch_model.specs.Switch.{Switch, Desk, Vacant, Posted, Entered, desk_at, next_number}
use Rattle.switch_model.proofs.Facts as facts
use Rattle.switch_model.proofs.Kept.{holds, in_slot}
use Rattle.catalogue.specs.Plan.{Plan, hot_cells}
use Rattle.catalogue.specs.declared.actor.Actor.{Actor}
use Rattle.catalogue.specs.declared.actor.Actor.TheVariants.{Port, Stage}
use Rattle.core_model.specs.declared.phase.Phase.TheVariants.{Waiting}
use Rattle.core_model.specs.State.{script_now}
use Rattle.fabric_model.specs.Carried.{FitsDesk}
use Rattle.fabric_model.specs.Holds.{Holds}
use Rattle.fabric_model.specs.Laws.{IsReached}
use Rattle.fabric_model.specs.Rota.{all_finished, movers}
use Rattle.fabric_model.specs.State.{State, client_at}
use Rattle.fabric_model.specs.Step.{behind_entry, enters, has_hot, step, switched}
use Rattle.fabric_model.proofs.Legal.{holds_up}
use Rattle.fabric_core.proofs.Logs.{none_hot}

module _ (plan : Plan) (unused : plan.layout ≡ []) (s : State) (reached : IsReached plan s) where
  module _ (now : Switch) (is_up : s.switch ≡ Some now) where
    h : Holds plan s
    h = holds_up plan s reached now is_up

    -- no client waits for a packet
    waits_not : (c : ℕ) → (client_at s c).phase ≡ Waiting → ⊥
    waits_not c waits =
        let script = script_now plan c (client_at s c) in
        let clash : true ≡ false = sym (h.ties.hot_ones c (inr waits)) ∙ ap (λ (rows : List LayoutRow). has_hot (record plan { layout = rows }) script) unused ∙ none_hot script in
        cc

    vacant_in : (c : ℕ) (desk : Desk) → FitsDesk plan s.history c (client_at s c) desk → desk ≡ Vacant
    vacant_in c Vacant fits = refl
    vacant_in c (Posted p) fits = absurd (waits_not c fits.0)
    vacant_in c (Entered k) fits = absurd (waits_not c fits.0)

    vacant : (c : ℕ) → desk_at h.now c ≡ Vacant
    vacant c = vacant_in c (desk_at h.now c) (h.ties.under_way c)

    same_now : h.now ≡ now
    same_now = same (sym h.up ∙ is_up)
      where
        same : {a b : Switch} → Some a ≡ Some b → a ≡ b
        same e = cc

    enters_none : (c : ℕ) → switch.enter plan.shape now c ≡ None
    unfolding switch.enter
    enters_none c = ap (switch.entered_from plan.shape now c) (ap (λ (w : Switch). desk_at w c) (sym same_now) ∙ vacant c)

    kept : facts.Holds plan.shape (hot_cells plan) h.now
    kept = holds plan.shape (hot_cells plan) h.now h.reached

    -- a packet in a slot is on its client's desk
    module _ (x k : ℕ) (is : position (is_in_slot x) h.now.flights ≡ Some k) where
      abbrev f : Flight
      f = flight_at h.now.flights k

      there : k < length h.now.flights
      there = (in_slot h.now x k is).there

      depth : f.depth ≡ x + 1
      depth = (in_slot h.now x k is).slot

      not_there : (f.packet.passes < f.pass) ⊎ (f.pass ≤ f.packet.passes) → ⊥
      not_there (inl done) = let none : f.depth ≡ 0 = (kept.positions.spot k there).done done in omega (arith, none, depth)
      not_there (inr going) = let clash : Entered k ≡ Vacant = sym (kept.desks.under_way k there going) ∙ vacant f.packet.client in cc

    no_slot : (x : ℕ) (found : Option ℕ) → position (is_in_slot x) h.now.flights ≡ found → found ≡ None
    no_slot x None is = refl
    no_slot x (Some k) is = absurd (not_there x k is (cases_lt (f x k is).packet.passes (f x k is).pass))

    advances_none : (x : ℕ) → switch.advance plan.shape now x ≡ None
    unfolding switch.advance
    advances_none x = ap (λ (w : Switch). switch.advance plan.shape w x) (sym same_now) ∙ ap (switch.advanced_from plan.shape h.now x) (no_slot x (position (is_in_slot x) h.now.flights) refl)

  port_rests : (c : ℕ) → step plan s (Port c) ≡ None
  unfolding step
  port_rests c = by s.switch refl
    where
      by : (o : Option Switch) → s.switch ≡ o → option_and_then (enters plan s c) o ≡ None
      by None is = refl
      by (Some now) is = ap (option_map (behind_entry s c (desk_at now c) (next_number now))) (enters_none now is c)

  stage_rests : (x : ℕ) → step plan s (Stage x) ≡ None
  unfolding step
  stage_rests x = ap (option_map (switched s)) (by s.switch refl)
    where
      by : (o : Option Switch) → s.switch ≡ o → option_and_then (λ now. switch.advance plan.shape now x) o ≡ None
      by None is = refl
      by (Some now) is = advances_none now is x

  rests_first : (actor : Actor) (actors : List Actor) → step plan s actor ≡ None → movers plan s actors ≡ [] → movers plan s (actor ∷ actors) ≡ []
  rests_first actor actors none rest =
      ap (λ (o : Option State). if all_finished s then [] else (if is_some o then actor ∷ [] else []) ++ movers plan (unwrap_or o s) actors) none ∙ by (all_finished s)
    where
      by : (b : Bool) → (if b then [] else movers plan s actors) ≡ []
      by true = refl
      by false = rest

  stages_rest : (stages : List ℕ) → movers plan s (map Stage stages) ≡ []
  stages_rest [] = refl
  stages_rest (x ∷ stages) = rests_first (Stage x) (map Stage stages) (stage_rests x) (stages_rest stages)

  -- neither ports nor stages move
  pub switch_rests : (clients stages : List ℕ) → movers plan s (map Port clients ++ map Stage stages) ≡ []
  switch_rests [] stages = stages_rest stages
  switch_rests (c ∷ clients) stages = rests_first (Port c) (map Port clients ++ map Stage stages) (port_rests c) (switch_rests clients stages)
