use Rattle.std.proofs.Common.{arith, ◌++◌, take, refl, ◌∙◌}
use Rattle.std.proofs.lemmas.List.{length-append, length-take}
use Rattle.std.proofs.lemmas.Result.{err_from_is_err_and}
use Rattle.std.proofs.KnownBytes.{Consumes-kept, Consumes-trans}
use Rattle.port_io.proofs.Causes.{HasCause-ends, HasCause-quiet, ok_is_no_failure, too_long_is_no_failure, no_memory_is_no_failure, false_is_not_true}
use Rattle.port_io.proofs.Known.{Consumes-take_0, take-written}
use Rattle.port_io.proofs.whole.read_all.Goals as goal

pub returns-in_default-clause-stopped : goal.returns-in_default-clause-stopped
returns-in_default-clause-stopped g c =
    (c.loop-count.bytes.items, omega (arith, c.loop-count.bytes.ok.0), Consumes-kept _ _ _ _ c.loop-count.invariant.taken c.in_default.ensures.bytes)

pub returns-in_default-clause-cause : goal.returns-in_default-clause-cause
returns-in_default-clause-cause g c = HasCause-ends _ _ _ _ _ c.loop-count.invariant.still c.in_default.ensures.cause (λ _. refl) (λ _. refl)

pub returns-then-count-eq0-clause-ok : goal.returns-then-count-eq0-clause-ok
returns-then-count-eq0-clause-ok g c = record {
  taken = Consumes-take_0 _ _ _ _ _ _ c.loop-count.invariant.taken c.in-Ok.ensures.bytes.0 c.if-count-eq0.true;
  within = omega (arith, c.loop-count.bytes.ok.0);
  ended = c.in-Ok.ensures.bytes.1 c.if-count-eq0.true (omega arith);
}

pub returns-then-count-eq0-clause-cause : goal.returns-then-count-eq0-clause-cause
returns-then-count-eq0-clause-cause g c = HasCause-quiet _ _ _ _ _ c.loop-count.invariant.still c.in-Ok.ensures.cause false_is_not_true (ok_is_no_failure _ _)

pub returns-then-count-most-clause-stopped : goal.returns-then-count-most-clause-stopped
returns-then-count-most-clause-stopped g c =
    let gave = take c.in-Ok.count c.read_some.new.buf in (
      c.loop-count.bytes.items ++ gave,
      omega (arith, length-append c.loop-count.bytes.items gave, length-take c.in-Ok.count c.read_some.new.buf, c.loop-count.bytes.ok.0, c.in-Ok.ensures.bound),
      Consumes-trans _ _ _ _ _ c.loop-count.invariant.taken c.in-Ok.ensures.bytes.0,
    )

pub returns-then-count-most-clause-cause : goal.returns-then-count-most-clause-cause
returns-then-count-most-clause-cause g c = HasCause-quiet _ _ _ _ _ c.loop-count.invariant.still c.in-Ok.ensures.cause false_is_not_true (too_long_is_no_failure _ refl)

pub loop-count-preserved : goal.loop-count-preserved
loop-count-preserved g c =
    let count = c.in-Ok.count in
    let read = c.read_some.new.buf in
    let same = take-written _ read _ _ count c.deref.ensures.value (omega (arith, c.in-Ok.ensures.bound)) (omega (arith, c.in-Ok.ensures.bound)) in
    record {
      room = omega arith;
      within = omega (arith, c.in_ok-extend_from_slice.ensures.len, length-take count c.deref.result.now);
      taken = rw (c.in_ok-extend_from_slice.ensures.items, same) (Consumes-trans _ _ _ _ _ c.loop-count.invariant.taken c.in-Ok.ensures.bytes.0);
      still = c.in-Ok.ensures.cause.still false_is_not_true ∙ c.loop-count.invariant.still;
    }

pub returns-in_err-extend_from_slice-clause-stopped : goal.returns-in_err-extend_from_slice-clause-stopped
returns-in_err-extend_from_slice-clause-stopped g c =
    let p = err_from_is_err_and c.from_residual-in_err-extend_from_slice.result c.from_residual-in_err-extend_from_slice.ensures.1 in
    rw (p.1, p.2) (
      c.loop-count.bytes.items ++ take c.in-Ok.count c.read_some.new.buf,
      omega (arith, length-append c.loop-count.bytes.items (take c.in-Ok.count c.read_some.new.buf), length-take c.in-Ok.count c.read_some.new.buf, c.loop-count.bytes.ok.0),
      Consumes-trans _ _ _ _ _ c.loop-count.invariant.taken c.in-Ok.ensures.bytes.0,
    )

pub returns-in_err-extend_from_slice-clause-cause :
    goal.returns-in_err-extend_from_slice-clause-cause
returns-in_err-extend_from_slice-clause-cause g c =
    let p = err_from_is_err_and c.from_residual-in_err-extend_from_slice.result c.from_residual-in_err-extend_from_slice.ensures.1 in
    HasCause-quiet _ _ _ _ _ c.loop-count.invariant.still c.in-Ok.ensures.cause false_is_not_true (no_memory_is_no_failure _ (rw (← p.2) p.1))
