-- Operations on different records, with no needs, can be run.
use Rattle.std.proofs.Common.{◌≡◌, ℕ, ◌<◌, ◌≤◌, Bool, true, false, not, ◌||◌, ◌&&◌, List, [], ◌∷◌, ◌++◌, length, get_or, take, None, refl, ap, ◌∙◌, inl, inr, arith, nat_eq, nat_lt}
use Rattle.std.specs.List.{All, list_any}
use Rattle.std.proofs.lemmas.Bool.{cases_lt}
use Rattle.std.proofs.lemmas.Bool.Decides.{nat_tests}
use Rattle.std.proofs.lemmas.List.{get_or_append_left, get_or_push, length_push, take-append-le, take_all}
use Rattle.std.proofs.lemmas.List.Elements.{All-nil, All-push}
use Rattle.txn_model.specs.Needs.{needs_list, needs_of}
use Rattle.txn_model.specs.ScriptCheck.{names, first_repeat, first_bad_use, uses_badly, is_read, script_fault}
use Rattle.txn_model.specs.declared.op.Act.{Act}
use Rattle.txn_model.specs.declared.op.Act.TheVariants.{Read}
use Rattle.txn_model.specs.declared.op.Op.{Op}
use Rattle.stage_layout.specs.Late.{first_bad_turn, turns_badly, parts_of, part_at, is_after, is_hot}
use Rattle.stage_layout.specs.declared.layout.LayoutRow.{LayoutRow}
use Rattle.stage_layout.proofs.Firsts.{first_none}
use Rattle.load_base.specs.Load.{tuple}
use Rattle.ycsb.specs.Ycsb.{on_key}

pub record AreApart (records : ℕ) (ops : List Op) : Type 0 where
  pub below : All (λ op. op.tuple.0 < records) ops
  pub apart : (k : ℕ) (d : Op) → k < length ops → names (take k ops) (get_or ops k d).tuple ≡ false
  pub bare : All (λ op. op.needs ≡ needs_of []) ops

pub none_apart : (records : ℕ) → AreApart records []
none_apart records = record { below = All-nil (λ op. op.tuple.0 < records); apart = λ k d lt. absurd (omega arith); bare = All-nil (λ op. op.needs ≡ needs_of []) }

pub one_more_apart : (records : ℕ) (ops : List Op) (key : ℕ) (act : Act) → AreApart records ops → key < records → names ops (tuple key) ≡ false → AreApart records (ops ++ on_key key act ∷ [])
one_more_apart records ops key act so low free =
    let op = on_key key act in
    let more = ops ++ op ∷ [] in
    let long = length_push ops op in
    record {
      below = All-push (λ op. op.tuple.0 < records) ops op so.below low;
      apart = λ k d lt. elim (cases_lt k (length ops)) [
        | inl less ↦ ap (λ earlier. names earlier (get_or more k d).tuple) (take-append-le k ops (op ∷ []) (omega arith)) ∙ ap (λ o. names (take k ops) o.tuple) (get_or_append_left ops (op ∷ []) d k less) ∙ so.apart k d less
        | inr last ↦ (let here : length ops ≡ k = omega arith in
            ap (λ earlier. names earlier (get_or more k d).tuple) (take-append-le k ops (op ∷ []) (omega arith) ∙ take_all k ops (omega arith)) ∙ ap (λ o. names ops o.tuple) (get_or_push ops op d k here) ∙ free)
      ];
      bare = All-push (λ op. op.needs ≡ needs_of []) ops op so.bare refl;
    }

and_false : (b : Bool) → (b && false) ≡ false
and_false true = refl
and_false false = refl

module _ (records : ℕ) (ops : List Op) (so : AreApart records ops) where
  d : Op
  d = on_key 0 Read

  -- no test of the needs of an operation passes
  pub no_fault : 1 ≤ length ops → length ops ≤ 16 → script_fault ops ≡ None
  unfolding script_fault
  no_fault some few =
      let empty : nat_eq (length ops) 0 ≡ false = grind (arith, nat_tests) in
      let long : nat_lt 16 (length ops) ≡ false = grind (arith, nat_tests) in
      let repeat : first_repeat ops ≡ None = first_none (λ k op. names (take k ops) op.tuple) d ops (λ k lt. so.apart k d lt) in
      let use_ : first_bad_use ops ≡ None = first_none uses_badly d ops (λ k lt. ap (λ needs. list_any (λ n. is_read (get_or ops k d).act || not (nat_lt n.from k)) (needs_list needs)) (so.bare k d lt)) in
      rw (empty, long, repeat, use_) refl

  pub no_bad_turn : (rows : List LayoutRow) → first_bad_turn rows ops ≡ None
  no_bad_turn rows = first_none (λ k op. turns_badly rows (parts_of rows (take k ops)) op) d ops (λ k lt.
      ap (λ needs. is_hot rows (get_or ops k d).tuple && list_any (λ n. is_after (part_at (parts_of rows (take k ops)) n.from)) (needs_list needs)) (so.bare k d lt) ∙ and_false (is_hot rows (get_or ops k d).tuple))
