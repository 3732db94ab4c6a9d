-- The packets of the tests have the plans of their operations.
use Rattle.std.proofs.Common.{◌≡◌, ℕ, ℤ, pos, cond, true, false, Bool, [], ◌∷◌, Some, None, IsSome, is_some, refl, sym, ap, subst, ◌∙◌}
use Rattle.std.specs.Prelude.{IsTrue}
use Rattle.std.specs.FinMap as fin
use Rattle.std.specs.FinMap.{get-from_sorted, find}
use Rattle.std.specs.Ordering.{eq_by_cmp}
use Rattle.txn_model.specs.Needs.{needs_of}
use Rattle.txn_model.specs.Places.{Places, place_cmp}
use Rattle.txn_model.specs.declared.op.Act.TheVariants.{Add}
use Rattle.txn_model.specs.declared.place.Place.{Place}
use Rattle.stage_layout.specs.Passes.{plan_of, least_pass}
use Rattle.stage_layout.specs.Shape.{has_place}
use Rattle.stage_layout.specs.declared.shape.Shape.{Shape}
use Rattle.switch_packet.specs.Packets.{PlainPacket}
use Rattle.switch_packet.specs.declared.packet.PacketOp.{PacketOp}
use Rattle.register_stage.proofs.FullMap.{same_by_cmp, same_is}
use Rattle.pipeline.specs.Planned.{HasPlan}

abbrev pub shape : Shape
shape = record { stages = 2; arrays = 1; cells = 2; split = 1; hosts = 1 }

abbrev place : ℕ → ℕ → Place
place stage cell = record { stage = stage; array = 0; cell = cell }

abbrev add : ℕ → ℕ → ℕ → PacketOp
add pass stage cell = record { pass = pass; place = place stage cell; act = Add (pos 1); bias = pos 0; needs = needs_of [] }

abbrev pub crossing : ℕ → PlainPacket
crossing client = record { client = client; seq = 1; passes = 2; halves = 3; ops = add 1 0 0 ∷ add 1 1 0 ∷ add 2 0 1 ∷ [] }

abbrev pub single : ℕ → PlainPacket
single client = record { client = client; seq = 1; passes = 1; halves = 2; ops = add 1 1 0 ∷ [] }

crossing_plan : (client : ℕ) → HasPlan shape (crossing client)
unfolding plan_of least_pass
crossing_plan client = record { places = (refl, (refl, (refl, tt))); each = refl; passes = refl; halves = refl }

single_plan : (client : ℕ) → HasPlan shape (single client)
unfolding plan_of least_pass
single_plan client = record { places = (refl, tt); each = refl; passes = refl; halves = refl }

pub crossing_has_plan : (client : ℕ) (s : Shape) (p : PlainPacket) → s ≡ shape → p ≡ crossing client → HasPlan s p
crossing_has_plan client s p e is = subst (λ (x : Shape). HasPlan x p) (sym e) (subst (HasPlan shape) (sym is) (crossing_plan client))

pub single_has_plan : (client : ℕ) (s : Shape) (p : PlainPacket) → s ≡ shape → p ≡ single client → HasPlan s p
single_has_plan client s p e is = subst (λ (x : Shape). HasPlan x p) (sym e) (subst (HasPlan shape) (sym is) (single_plan client))

-- the one place of a map of one row
one_place : (v : ℤ) (q : Place) → IsSome (find place_cmp q ((place 0 1, v) ∷ [])) → IsTrue (has_place shape q)
one_place v q h = by (eq_by_cmp place_cmp q (place 0 1)) refl h
  where
    by : (b : Bool) → eq_by_cmp place_cmp q (place 0 1) ≡ b → is_some (cond b (Some v) None) ≡ true → IsTrue (has_place shape q)
    by true e some = ap (has_place shape) (same_is q (place 0 1) (sym (same_by_cmp (place 0 1) q) ∙ e))
    by false e some = cc

pub places_are_there : (s : Shape) (m : Places) (v : ℤ) → s ≡ shape → m ≡ fin.from_sorted ((place 0 1, v) ∷ []) → (q : Place) → IsSome (fin.get m q) → IsTrue (has_place s q)
places_are_there s m v e is q h =
    subst (λ (x : Shape). IsTrue (has_place x q)) (sym e)
    (one_place v q (subst IsSome (ap (λ (n : Places). fin.get n q) is ∙ get-from_sorted place_cmp ((place 0 1, v) ∷ []) q tt) h))
