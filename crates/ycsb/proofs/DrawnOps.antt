-- Drawn scripts can be run.
use Rattle.std.proofs.Common.{◌≡◌, ℕ, zero, suc, ◌+◌, ◌-◌, ◌<◌, ◌≤◌, ◌||◌, Bool, true, false, cond, List, [], ◌∷◌, ◌++◌, length, nat_eq, nat_lt, refl, sym, ap, ◌∙◌, arith}
use Rattle.std.proofs.Math.Nat.{mod-lt}
use Rattle.std.proofs.lemmas.Bool.Decides.{nat_tests}
use Rattle.std.proofs.lemmas.List.{length_push}
use Rattle.txn_model.specs.declared.op.Op.{Op}
use Rattle.catalogue.specs.LoadPlans.{IsYcsbPlan}
use Rattle.catalogue.specs.declared.load.YcsbPlan.{YcsbPlan}
use Rattle.schedule.specs.Dice.{Words, draw, draw_between, key, key_by}
use Rattle.load_base.specs.Load.{hot_rows, IsFitFor}
use Rattle.ycsb.specs.Ycsb.{ycsb_size, ycsb_script, drawn_act, drawn_op, drawn_ops, free_key}
use Rattle.ycsb.proofs.FreeKeys.{is_below}
use Rattle.ycsb.proofs.FitOps.{AreApart, none_apart, one_more_apart, no_fault, no_bad_turn}

draw_is_below : (n : ℕ) (words : Words) → 1 ≤ n → (draw n words).0 < n
draw_is_below n words some = mod-lt _ (omega arith)

key_by_is_below : (d n hot share : ℕ) (words : Words) → 1 ≤ n → hot ≤ n → (key_by d n hot share words).0 < n
key_by_is_below d n hot share words some le = all (nat_eq hot 0) (nat_eq hot n) (nat_lt d share) refl refl
  where
    all : (none every low : Bool) → nat_eq hot 0 ≡ none → nat_eq hot n ≡ every → (cond (none || every) (draw n words) (cond low (draw hot words) (draw_between hot n words))).0 < n
    all true every low e f = draw_is_below n words some
    all false true low e f = draw_is_below n words some
    all false false true e f = let some_hot : 1 ≤ hot = grind (arith, nat_tests) in omega (arith, draw_is_below hot words some_hot)
    all false false false e f = let some_cold : 1 ≤ n - hot = grind (arith, nat_tests) in omega (arith, draw_is_below (n - hot) words some_cold)

key_is_below : (n hot share : ℕ) (words : Words) → 1 ≤ n → hot ≤ n → (key n hot share words).0 < n
unfolding key
key_is_below n hot share words some le = key_by_is_below (draw 100 words).0 n hot share (draw 100 words).1 some le

-- the operation behind these ones is drawn next
pub one_more : (plan : YcsbPlan) (left whole : ℕ) (ops more : List Op) (op : Op) (words next : Words) → more ≡ ops ++ op ∷ [] → (op, next) ≡ drawn_op plan ops words → left + 1 ≡ whole → drawn_ops plan left more next ≡ drawn_ops plan whole ops words
one_more plan left whole ops more op words next pushed drew count =
    let steps : suc left ≡ whole = omega arith in
    ap (λ ops. drawn_ops plan left ops next) pushed
    ∙ ap (λ p. drawn_ops plan left (ops ++ p.0 ∷ []) p.1) drew
    ∙ ap (λ n. drawn_ops plan n ops words) steps

pub all_drawn : (plan : YcsbPlan) (left : ℕ) (ops : List Op) (words : Words) → left ≡ 0 → (ops, words) ≡ drawn_ops plan left ops words
all_drawn plan left ops words none = ap (λ n. drawn_ops plan n ops words) (sym none)

module _ (plan : YcsbPlan) (within : IsYcsbPlan plan) where
  op_apart : (ops : List Op) (words : Words) → AreApart plan.records ops → length ops < 16 → AreApart plan.records (ops ++ (drawn_op plan ops words).0 ∷ [])
  op_apart ops words so few =
      let drawn = key plan.records plan.hot plan.share words in
      let free = is_below plan.records ops drawn.0 (key_is_below plan.records plan.hot plan.share words (omega (arith, within.some)) (omega (arith, within.within))) (omega (arith, within.some)) in
      one_more_apart plan.records ops (free_key plan.records ops drawn.0) (drawn_act plan.mix drawn.1).0 so free.0 free.1

  are_apart : (n : ℕ) (ops : List Op) (words : Words) → AreApart plan.records ops → length ops + n ≤ 16 → AreApart plan.records (drawn_ops plan n ops words).0 × (length (drawn_ops plan n ops words).0 ≡ length ops + n)
  are_apart zero ops words so few = (so, omega arith)
  are_apart (suc n) ops words so few =
      let op = drawn_op plan ops words in
      let long = length_push ops op.0 in
      let rest = are_apart n (ops ++ op.0 ∷ []) op.1 (op_apart ops words so (omega arith)) (omega arith) in
      (rest.0, omega (arith, rest.1))

  pub is_fit : (words : Words) → IsFitFor (ycsb_size plan) (ycsb_script plan words).0
  is_fit words =
      let all = are_apart plan.ops [] words (none_apart plan.records) (omega (arith, within.most_ops)) in
      let ops = (ycsb_script plan words).0 in
      record {
        tuples = all.0.below;
        script = no_fault plan.records ops all.0 (omega (arith, all.1, within.some_ops)) (omega (arith, all.1, within.most_ops));
        turns = no_bad_turn plan.records ops all.0 (hot_rows plan.hot);
      }
