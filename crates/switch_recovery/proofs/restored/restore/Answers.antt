use Rattle.std.proofs.Common.{◌≡◌, ◌+◌, List, length, map, Some, None, refl, sym, ap, subst}
use Rattle.std.specs.Prelude.{Option}
use Rattle.std.specs.Option.{option_map}
use Rattle.txn_model.specs.Places.{Places}
use Rattle.catalogue.specs.PlanOf.{plan_of}
use Rattle.switch_packet.specs.Packets.{plain_log}
use Rattle.gap_placement.specs.declared.placement.Placed.{Placed}
use Rattle.gap_placement.specs.declared.placement.Slotted.{Slotted}
use Rattle.gap_placement.specs.Answers.{plain_rows, first_rows, first_registers}
use Rattle.switch_recovery.specs.Restoring.{bad_from}
use Rattle.switch_recovery.proofs.RestoringLaws.{readable, all_there, restored_is}
use Rattle.switch_recovery.proofs.restored.restore.Goals as goal

pub place_all-requires-clause-read : goal.place_all-requires-clause-read
place_all-requires-clause-read c = readable 0 (map plain_log c.args.views.now) c.requires.read

pub place_all-requires-clause-there : goal.place_all-requires-clause-there
place_all-requires-clause-there c = all_there c.in_ok-first.first 0 (map plain_log c.args.views.now) (sym c.in_default.ensures)

pub returns-in-Some-2 : goal.returns-in-Some-2
returns-in-Some-2 c =
    let logs = map plain_log c.args.views.now in
    let plan = plan_of c.args.session.now in
    let placed = c.in-Some-2.placed in
    let rows = subst (λ (f : Option Placed). option_map (λ placed. plain_rows placed.placement) f ≡ first_rows logs c.in_ok-first.first) c.in-Some-2.is c.in_ok-placed.ensures.rows in
    let registers = subst (λ (f : Option Placed). option_map (λ placed. placed.registers) f ≡ first_registers logs c.in_ok-first.first) c.in-Some-2.is c.in_ok-placed.ensures.registers in (
      subst (λ (m : Places). bad_from m 0 logs ≡ None) c.in_ok-first.ensures (sym c.in_default.ensures),
      restored_is plan logs placed _ (readable 0 logs c.requires.read) (subst (λ (m : Places). Some (plain_rows placed.placement) ≡ first_rows logs m) c.in_ok-first.ensures rows)
          (subst (λ (m : Places). Some placed.registers ≡ first_registers logs m) c.in_ok-first.ensures registers) refl refl (ap (λ (l : List Slotted). length l + 1) c.as_slice.ensures),
    )
