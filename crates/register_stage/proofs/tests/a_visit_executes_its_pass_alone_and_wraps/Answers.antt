use Rattle.std.proofs.Common.{◌≡◌, ℕ, zero, suc, ◌==◌, ◌&&◌, ◌<◌, false, true, List, [], ◌∷◌, ◌++◌, length, is_some, slice_get, Some, IsSome, refl, sym, ap, subst, ◌∙◌, pos}
use Rattle.std.specs.FinMap as fin
use Rattle.switch_packet.specs.Packets.{PlainPacket}
use Rattle.switch_packet.specs.declared.packet.PacketOp.{PacketOp}
use Rattle.txn_model.specs.Needs.{needs_list}
use Rattle.txn_model.specs.declared.op.Need.{Need}
use Rattle.txn_model.specs.declared.place.Place.{Place}
use Rattle.std.specs.List.{AllByRecursion}
use Rattle.register_stage.specs.Registers.{Registers, place_in, full_map, is_due}
use Rattle.register_stage.specs.Visits.{CanExecute}
use Rattle.register_stage.proofs.FullMap.{full_map_at}
use Rattle.register_stage.proofs.Steps.{there-insert}
use Rattle.register_stage.proofs.tests.a_visit_executes_its_pass_alone_and_wraps.Goals as goal

ready : (r : Registers) (ops : List PacketOp) (first second : PacketOp) → r.stage ≡ 3 → ops ≡ first ∷ second ∷ [] → IsSome (fin.get r.numbers first.place) → needs_list first.needs ≡ [] → second.pass ≡ 2
    → (i : ℕ) (op : PacketOp) → slice_get ops i ≡ Some op → is_due r.stage 1 op ≡ true → CanExecute r.numbers i op
ready r ops first second stage are there needs pass i op at due = go i op (ap (λ (l : List PacketOp). slice_get l i) (sym are) ∙ at) due
  where
    go : (i : ℕ) (op : PacketOp) → slice_get (first ∷ second ∷ []) i ≡ Some op → is_due r.stage 1 op ≡ true → CanExecute r.numbers i op
    go zero op at due =
        let is : first ≡ op = cc in
        subst (λ (o : PacketOp). CanExecute r.numbers zero o) is (record { place = there; earlier = subst (λ (l : List Need). AllByRecursion (λ need. need.from < 0) l) (sym needs) tt })
    go (suc zero) op at due =
        let is : second ≡ op = cc in
        let never : false ≡ true = ap (λ (n : ℕ). n == 1 && second.place.stage == r.stage) (sym pass) ∙ ap (is_due r.stage 1) is ∙ due in
        cc
    go (suc (suc i)) op at due = cc

-- the cell is there in a stage that is made
made_there : (r : Registers) → r ≡ record { stage = 3; numbers = full_map 3 (λ _. pos 0) 2 4 } → is_some (fin.get r.numbers (place_in r.stage 0 1)) ≡ true
made_there r is = ap (λ (s : Registers). is_some (fin.get s.numbers (place_in s.stage 0 1))) is ∙ ap is_some (full_map_at 3 (λ _. pos 0) 2 4 (place_in 3 0 1) refl)

pub set_cell-requires : goal.set_cell-requires
set_cell-requires g c = record { there = made_there c.in_ok-stage.stage c.in_ok-stage.ensures }

pub visit-requires : goal.visit-requires
visit-requires g c =
    let made = c.in_ok-stage.stage in
    let is = c.in_ok-stage.ensures in
    let stage : made.stage ≡ 3 = ap (λ (r : Registers). r.stage) is in
    let ops = c.push-2.ensures.items ∙ ap (λ (l : List PacketOp). l ++ c.add-second.result ∷ []) (c.push.ensures.items ∙ ap (λ (l : List PacketOp). l ++ c.add-first.result ∷ []) (ap (λ (p : PlainPacket). p.ops) c.in_ok-packet.ensures.blank)) in
    let there = made_there made is in
    let place : is_some (fin.get c.set_cell.new.self.numbers c.add-first.result.place) ≡ true =
    ap (λ (r : Registers). is_some (fin.get r.numbers c.add-first.result.place)) c.set_cell.ensures
    ∙ there-insert made.numbers (place_in made.stage 0 1) _ c.add-first.result.place there
    ∙ ap (λ (p : Place). is_some (fin.get made.numbers p)) c.add-first.ensures.place
    ∙ ap (λ (s : ℕ). is_some (fin.get made.numbers (place_in s 0 1))) (sym stage)
    ∙ there in
    record {
      paired = ap length c.in_ok-zeros.ensures ∙ sym (ap length ops);
      due = ready c.set_cell.new.self c.push-2.new.self.items c.add-first.result c.add-second.result (ap (λ (r : Registers). r.stage) c.set_cell.ensures ∙ stage) ops place c.add-first.ensures.needs c.add-second.ensures.pass;
    }
