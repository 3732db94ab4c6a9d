use Rattle.std.proofs.Common.{◌≡◌, ◌<◌, ◌≤◌, ℕ, Bool, true, false, nat_lt, Bor, Option, List, length, get_or, option_map, sym, ap, ◌∙◌, arith}
use Rattle.std.proofs.lemmas.Bool.Decides.{nat_tests}
use Rattle.history_core.specs.Own.{plain_kept}
use Rattle.history_core.specs.Plain.{Own}
use Rattle.history_core.specs.declared.own_entries.Kept.{Kept}
use Rattle.history_core.proofs.Changes.{no_entry, rising_at, found_in}
use Rattle.history_core.proofs.history.History.find.Goals as goal

above : (n m : ℕ) → false ≡ nat_lt n m → m ≤ n
above n m e = grind (arith, nat_tests)

below : (n m : ℕ) → true ≡ nat_lt n m → n < m
below n m e = grind (arith, nat_tests)

pub returns-in_err-own : goal.returns-in_err-own
returns-in_err-own c =
    ap (option_map (λ (kept : Bor Kept). plain_kept kept.now)) c.from_residual.ensures
    ∙ sym (no_entry c.self.inside.owns.items c.self.invariant _ c.self.view_is c.args.client c.args.seq
    (omega (arith, above c.from.result (length c.deref.result.now) c.in_err-own.ensures.lookup.0, c.from.ensures, ap length c.deref.ensures.value)))

pub find-requires : goal.find-requires
find-requires c =
    rising_at c.self.inside.owns.items c.self.invariant _ c.self.view_is c.args.client c.in_ok-own.own.now
    (omega (arith, below c.from.result (length c.deref.result.now) c.in_ok-own.ensures.lookup.0, c.from.ensures, ap length c.deref.ensures.value))
    (c.in_ok-own.ensures.lookup.1 ∙ ap (λ (l : List Own). get_or l c.from.result c.in_ok-own.own.now) c.deref.ensures.value ∙ ap (λ (n : ℕ). get_or c.self.inside.owns.items n c.in_ok-own.own.now) c.from.ensures)

pub returns : goal.returns
returns c =
    c.find.ensures
    ∙ found_in c.self.inside.owns.items c.self.invariant _ c.self.view_is c.args.client c.args.seq c.in_ok-own.own.now
    (omega (arith, below c.from.result (length c.deref.result.now) c.in_ok-own.ensures.lookup.0, c.from.ensures, ap length c.deref.ensures.value))
    (c.in_ok-own.ensures.lookup.1 ∙ ap (λ (l : List Own). get_or l c.from.result c.in_ok-own.own.now) c.deref.ensures.value ∙ ap (λ (n : ℕ). get_or c.self.inside.owns.items n c.in_ok-own.own.now) c.from.ensures)
