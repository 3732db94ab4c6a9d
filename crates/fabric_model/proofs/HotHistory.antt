-- An answered history and the packets that carry it: at a tuple in the switch they have the same pairs.
use Rattle.std.proofs.Common.{◌≡◌, ℕ, ℤ, ◌+◌, Bool, true, false, List, [], ◌∷◌, ◌++◌, map, filter, length, unwrap_or, Option, Some, None, IsSome, refl, sym, ap, ◌∙◌, arith, if◌then◌else◌}
use Rattle.std.specs.List.{AllByRecursion, zip, list_any}
use Rattle.txn_model.specs.Places.{Places}
use Rattle.txn_model.specs.declared.op.Op.{Op}
use Rattle.txn_model.specs.declared.op.TupleId.{TupleId}
use Rattle.txn_model.specs.declared.pairs.Pair.{Pair}
use Rattle.txn_model.specs.declared.place.Place.{Place}
use Rattle.stage_layout.specs.Late.{is_hot}
use Rattle.stage_layout.specs.Layout.{place_of}
use Rattle.stage_layout.specs.Passes.{plan_of}
use Rattle.stage_layout.specs.declared.layout.LayoutRow.{LayoutRow}
use Rattle.stage_layout.specs.declared.shape.Shape.{Shape}
use Rattle.history_model.specs.Chain.{Step, steps_of, all_steps, names_tuple}
use Rattle.history_model.specs.History.{HistoryEntry, History, AllAnswered}
use Rattle.switch_packet.specs.Packets.{PlainPacket}
use Rattle.switch_packet.specs.PlaceChain.{packet_steps, all_packet_steps, with_pairs}
use Rattle.switch_packet.specs.Replay.{replay, replay_all}
use Rattle.switch_packet.specs.declared.packet.PacketOp.{PacketOp}
use Rattle.switch_packet.proofs.ReplayLaws.{length-replay}
use Rattle.switch_model.specs.Switch.{Desk}
use Rattle.warm_split.specs.Laws.{HavePlacesOfTheirOwn}
use Rattle.warm_split.specs.Resolved.{packet_of, planned_ops}
use Rattle.warm_split.specs.Sides.{hot_ops, hot_place}
use Rattle.warm_split.proofs.JoinedLaws.{packet_ops, length-plan}
use Rattle.catalogue.specs.Plan.{Plan}
use Rattle.core_model.specs.Facts.{Clients, script_of_entry, answered}
use Rattle.core_model.proofs.Decided.{or_false}
use Rattle.fabric_model.specs.Carried.{is_carried, carried, IsCarriedBy, AreCarriedBy}
use Rattle.fabric_model.specs.Step.{has_hot}
use Rattle.fabric_model.proofs.HotChains.{tuple_pairs, place_pairs, tuple_pairs-append, place_pairs-append, same_pairs, other_tuple}

places_of_zip : (rows : List LayoutRow) (f : ℕ → Op → PacketOp) → ((n : ℕ) (op : Op) → (f n op).place ≡ hot_place rows op.tuple) → (passes : List ℕ) (ops : List Op) → length passes ≡ length ops
    → map (λ op. op.place) (map (λ step. f step.0 step.1) (zip passes ops)) ≡ map (λ op. hot_place rows op.tuple) ops
places_of_zip rows f at [] [] e = refl
places_of_zip rows f at [] (op ∷ ops) e = absurd (omega (arith, e))
places_of_zip rows f at (n ∷ passes) [] e = refl
places_of_zip rows f at (n ∷ passes) (op ∷ ops) e =
    ap (λ (p : Place). p ∷ map (λ (o : PacketOp). o.place) (map (λ (step : ℕ × Op). f step.0 step.1) (zip passes ops))) (at n op)
    ∙ ap (λ (l : List Place). hot_place rows op.tuple ∷ l) (places_of_zip rows f at passes ops (omega (arith, e)))

-- the places of a packet are those of the script's operations in the switch
pub places-packet : (shape : Shape) (rows : List LayoutRow) (client seq : ℕ) (ops : List Op) (values : List ℤ) → map (λ op. op.place) (packet_of shape rows client seq ops values).ops ≡ map (λ op. hot_place rows op.tuple) (hot_ops rows ops)
places-packet shape rows client seq ops values =
    ap (map (λ (o : PacketOp). o.place)) (packet_ops shape rows client seq ops values) ∙ places_of_zip rows _ (λ n op. refl) (plan_of shape (planned_ops rows ops)).passes (hot_ops rows ops) (length-plan shape rows ops)

-- the script names no tuple in the switch
abbrev pub OnHostsAlone : Plan → HistoryEntry → Type 0
OnHostsAlone plan e = has_hot plan (script_of_entry plan e) ≡ false

module _ (plan : Plan) (own : HavePlacesOfTheirOwn plan.layout) (t : TupleId) (place : Place) (hot_t : place_of plan.layout t ≡ Some place) (at : Clients) (desks : ℕ → Desk) where
  none_on : (ops : List Op) (pairs : List Pair) → list_any (λ op. is_hot plan.layout op.tuple) ops ≡ false → tuple_pairs t (steps_of ops pairs) ≡ []
  none_on [] pairs none = refl
  none_on (op ∷ ops) [] none = refl
  none_on (op ∷ ops) (p ∷ pairs) none =
      let parts = or_false (is_hot plan.layout op.tuple) (list_any (λ (o : Op). is_hot plan.layout o.tuple) ops) none in
      ap (λ (b : Bool). map (λ (s : Step). s.1) (if b then (op, p) ∷ filter (names_tuple t) (steps_of ops pairs) else filter (names_tuple t) (steps_of ops pairs))) (other_tuple plan.layout own t place hot_t op parts.0)
      ∙ none_on ops pairs parts.1

  of_entry : (k : ℕ) (m : Places) (e : HistoryEntry) (p : PlainPacket) → IsSome e.pairs → IsCarriedBy plan at desks k m e p
      → tuple_pairs t (steps_of (script_of_entry plan e) (unwrap_or e.pairs [])) ≡ place_pairs place (packet_steps p.ops (replay p m).pairs)
  of_entry k m e p some by = go e.pairs refl some
    where
      go : (o : Option (List Pair)) → e.pairs ≡ o → IsSome o → tuple_pairs t (steps_of (script_of_entry plan e) (unwrap_or o [])) ≡ place_pairs place (packet_steps p.ops (replay p m).pairs)
      go (Some pairs) is h =
          let ops = script_of_entry plan e in
          ap (λ (l : List Pair). tuple_pairs t (steps_of ops l)) (by.reply pairs is)
          ∙ same_pairs plan.layout own t place hot_t [] ops by.values (replay p m).pairs p.ops
          (ap (λ (q : PlainPacket). map (λ (o : PacketOp). o.place) q.ops) by.packet ∙ places-packet plan.shape plan.layout e.entry.client e.entry.seq ops by.values) (length-replay p m)
      go None is h = cc

  pub same_on : (k : ℕ) (m : Places) (h : History) (ps : List PlainPacket) → AllAnswered h → AllByRecursion (λ e. is_carried e ≡ false → OnHostsAlone plan e) h → AreCarriedBy plan at desks k m (carried h) ps
      → tuple_pairs t (all_steps (answered plan h)) ≡ place_pairs place (all_packet_steps (with_pairs ps (replay_all ps m).pairs))
  unfolding replay_all
  same_on k m [] [] all hosts by = refl
  same_on k m [] (p ∷ ps) all hosts by = absurd by
  same_on k m (e ∷ h) ps all hosts by = go (is_carried e) refl ps by (λ j n qs. same_on j n h qs all.1 hosts.1)
    where
      Rest : Type 0
      Rest = (j : ℕ) (n : Places) (qs : List PlainPacket) → AreCarriedBy plan at desks j n (carried h) qs → tuple_pairs t (all_steps (answered plan h)) ≡ place_pairs place (all_packet_steps (with_pairs qs (replay_all qs n).pairs))

      whole : tuple_pairs t (steps_of (script_of_entry plan e) (unwrap_or e.pairs []) ++ all_steps (answered plan h)) ≡ tuple_pairs t (steps_of (script_of_entry plan e) (unwrap_or e.pairs [])) ++ tuple_pairs t (all_steps (answered plan h))
      whole = tuple_pairs-append t (steps_of (script_of_entry plan e) (unwrap_or e.pairs [])) (all_steps (answered plan h))

      go : (b : Bool) → is_carried e ≡ b → (qs : List PlainPacket) → AreCarriedBy plan at desks k m (if b then e ∷ carried h else carried h) qs → Rest
          → tuple_pairs t (steps_of (script_of_entry plan e) (unwrap_or e.pairs []) ++ all_steps (answered plan h)) ≡ place_pairs place (all_packet_steps (with_pairs qs (replay_all qs m).pairs))
      go false is qs c rest = whole ∙ ap (λ (l : List Pair). l ++ tuple_pairs t (all_steps (answered plan h))) (none_on (script_of_entry plan e) (unwrap_or e.pairs []) (hosts.0 is)) ∙ rest k m qs c
      go true is [] c rest = absurd c
      go true is (p ∷ qs) c rest =
          whole ∙ ap (λ (l : List Pair). l ++ tuple_pairs t (all_steps (answered plan h))) (of_entry k m e p all.0 c.0)
          ∙ ap (λ (l : List Pair). place_pairs place (packet_steps p.ops (replay p m).pairs) ++ l) (rest (k + 1) (replay p m).after qs c.1)
          ∙ sym (place_pairs-append place (packet_steps p.ops (replay p m).pairs) (all_packet_steps (with_pairs qs (replay_all qs (replay p m).after).pairs)))
