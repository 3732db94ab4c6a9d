use Rattle.std.proofs.Common.{arith, ◌∙◌}
use Rattle.std.proofs.lemmas.List.{length-take, length-drop}
use Rattle.port_io.proofs.Causes.{ok_is_no_failure}
use Rattle.port_io.proofs.Known.{Appends-front}
use Rattle.port_io.proofs.whole.write_all.Goals as goal

pub loop-at-preserved : goal.loop-at-preserved
loop-at-preserved g c =
    let before = c.loop-at.invariant in
    let wrote = c.in_ok-at.ensures in
    record {
      within = omega (arith, simp (length-take, length-drop) at wrote.bound);
      taken = Appends-front _ _ _ _ _ _ before.taken wrote.bytes;
      still = wrote.cause.still (ok_is_no_failure _ _) ∙ before.still;
    }
