use Rattle.std.proofs.Common.{◌≡◌, ◌++◌, ◌∷◌, [], ◌||◌, Bool, ℤ, pos, Option, unwrap_or, if◌then◌else◌, w64, of_z, SFits, rules, sym, ap, ◌∙◌}
use Rattle.std.specs.Ordering.{int_eq}
use Rattle.switch_packet.specs.Replay.{register_at}
use Rattle.gap_placement.proofs.Steps.{same_held, is_same, not_same}
use Rattle.gap_placement.proofs.short.note.Goals as goal

pub returns-then-is_first : goal.returns-then-is_first
returns-then-is_first c =
    let this = c.args.change in
    let first = sym c.in_ok-is_first.ensures.first ∙ c.if-is_first.true in
    record {
      demands = c.in_ok-push.ensures.items ∙ sym (ap (λ (b : Bool). if b then c.args.demands.now.items ++ this ∷ [] else c.args.demands.now.items) first);
      touched = c.in_ok-is_first.ensures.touched;
      fits = sym (ap (λ (b : Bool). b || int_eq (register_at c.args.known.now this.place) this.was) first);
    }

pub returns-then-unwrap_or-change : goal.returns-then-unwrap_or-change
returns-then-unwrap_or-change c =
    let this = c.args.change in
    let first = sym c.in_ok-is_first.ensures.first ∙ c.if-is_first.false in
    let other = not_same (register_at c.args.known.now this.place) this.was (λ e. c.if-unwrap_or-change.true (ap (of_z w64) (c.unwrap_or.ensures ∙ ap (λ (o : Option ℤ). unwrap_or o (pos 0)) c.get.ensures ∙ e))) in
    record {
      demands = sym (ap (λ (b : Bool). if b then c.args.demands.now.items ++ this ∷ [] else c.args.demands.now.items) first);
      touched = c.in_ok-is_first.ensures.touched;
      fits = sym (ap (λ (b : Bool). b || int_eq (register_at c.args.known.now this.place) this.was) first ∙ other);
    }

pub returns : goal.returns
returns c =
    let this = c.args.change in
    let first = sym c.in_ok-is_first.ensures.first ∙ c.if-is_first.false in
    let was_fits : SFits w64 c.unwrap_or.result = search rules in
    let this_fits : SFits w64 this.was = search rules in
    let found : register_at c.args.known.now this.place ≡ this.was = sym (c.unwrap_or.ensures ∙ ap (λ (o : Option ℤ). unwrap_or o (pos 0)) c.get.ensures) ∙ same_held c.unwrap_or.result this.was was_fits this_fits c.if-unwrap_or-change.false in
    record {
      demands = sym (ap (λ (b : Bool). if b then c.args.demands.now.items ++ this ∷ [] else c.args.demands.now.items) first);
      touched = c.in_ok-is_first.ensures.touched;
      fits = sym (ap (λ (b : Bool). b || int_eq (register_at c.args.known.now this.place) this.was) first ∙ is_same (register_at c.args.known.now this.place) this.was found);
    }
