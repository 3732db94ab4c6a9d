use Rattle.std.proofs.Common.{◌≡◌, ◌↔◌, ◌&&◌, Bool, true, false, List, Option, Decides, IsTrue, option_map, refl, sym, ap, subst, ◌∙◌}
use Rattle.std.specs.Ordering.{int_eq}
use Rattle.std.proofs.lemmas.Bool.Decides.{Decides-int_eq}
use Rattle.std.proofs.lemmas.Slice.Eq.{slice_eq-Decides}
use Rattle.txn_model.specs.declared.pairs.Pair.{Pair}
use Rattle.history_model.specs.Legal.{HasReply}
use Rattle.history_core.proofs.legal.agrees.Goals as goal

pair_eq : (a b : Pair) → Decides (int_eq a.was b.was && int_eq a.now b.now) (a ≡ b)
pair_eq a b = (λ t. both (int_eq a.was b.was) (int_eq a.now b.now) t (Decides-int_eq a.was b.was).0 (Decides-int_eq a.now b.now).0, λ e. joined _ _ ((Decides-int_eq a.was b.was).1 (ap (λ p. p.was) e)) ((Decides-int_eq a.now b.now).1 (ap (λ p. p.now) e)))
  where
    both : (x y : Bool) → (x && y) ≡ true → (x ≡ true → a.was ≡ b.was) → (y ≡ true → a.now ≡ b.now) → a ≡ b
    both true true t f g = λ i. record { was = f refl i; now = g refl i }
    both true false t f g = cc
    both false y t f g = cc

    joined : (x y : Bool) → x ≡ true → y ≡ true → (x && y) ≡ true
    joined true y p q = q
    joined false y p q = cc

pub returns-in-Some : goal.returns-in-Some
returns-in-Some c =
    subst (λ (o : Option (List Pair)). IsTrue c.eq.result ↔ HasReply o c.args.pairs.now) (sym (sym c.reply.ensures ∙ ap (option_map (λ pairs. pairs.now.items)) c.in-Some.is))
    (subst (λ (xs : List Pair). Decides c.eq.result (xs ≡ c.args.pairs.now)) c.as_slice.ensures.items (slice_eq-Decides pair_eq c.as_slice.result.now c.args.pairs.now c.eq.result c.eq.ensures))
