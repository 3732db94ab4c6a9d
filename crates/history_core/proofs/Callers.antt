-- What callers know of the entries that they put in.
use Rattle.std.proofs.Common.{◌≡◌, ℕ, zero, suc, ◌-◌, ◌<◌, ◌==◌, Bool, true, false, List, [], ◌∷◌, ◌++◌, length, map, filter, get_or, slice_get, Option, Some, None, option_and_then, option_map, if◌then◌else◌, refl, sym, ap, subst, ◌∙◌, arith, Less, is_lt}
use Rattle.std.specs.List.{AllByRecursion}
use Rattle.std.specs.Ordering.{ordering_reverse}
use Rattle.std.proofs.Math.ListN as list
use Rattle.std.proofs.lemmas.Bool.Decides.{nat_tests}
use Rattle.txn_model.specs.declared.op.Op.{Op}
use Rattle.catalogue.specs.Plan.{Plan, PlainItem, Run, Lose, item_of, items_of, script_in, script_of}
use Rattle.history_model.specs.History.{HistoryEntry, History, IsInStampOrder, entry_cmp, stamp_cmp, with_entry}
use Rattle.history_model.specs.declared.entry.Entry.{Entry}
use Rattle.history_core.specs.Answers.{entries_of, IsAboveOwn, IsOpenLast}
use Rattle.history_core.specs.Runs.{ops_of, ops_in, ops_at, runs_of}
use Rattle.history_core.proofs.Merged.{stamp_first}
use Rattle.history_core.proofs.WithEntry.{entry_cmp_total, with_later, filter-with_entry}

get-map : (items : List PlainItem) (i : ℕ) → slice_get (map ops_of items) i ≡ option_map ops_of (slice_get items i)
get-map [] zero = refl
get-map [] (suc i) = refl
get-map (item ∷ items) zero = refl
get-map (item ∷ items) (suc i) = get-map items i

-- the number of operations of a session's transaction
pub ops_known : (plan : Plan) (client seq : ℕ) (ops : List Op) → script_of plan client seq ≡ Some ops → ops_at (runs_of plan) client seq ≡ Some (length ops)
ops_known plan client seq ops is =
    ap (λ (l : List (Option ℕ)). ops_in l seq) (list.get_or-map (map ops_of) plan.clients client []) ∙ by (seq == 0) is
  where
    one : (o : Option PlainItem) → option_and_then script_in o ≡ Some ops → option_and_then (λ n. n) (option_map ops_of o) ≡ Some (length ops)
    one None is = cc
    one (Some Lose) is = cc
    one (Some (Run script)) is = let same : script ≡ ops = cc in ap (λ (l : List Op). Some (length l)) same

    by : (b : Bool) → option_and_then script_in (if b then None else slice_get (items_of plan client) (seq - 1)) ≡ Some ops
        → (if b then None else option_and_then (λ n. n) (slice_get (map ops_of (items_of plan client)) (seq - 1))) ≡ Some (length ops)
    by true is = cc
    by false is = ap (option_and_then (λ n. n)) (get-map (items_of plan client) (seq - 1)) ∙ one (slice_get (items_of plan client) (seq - 1)) is

after_all : (e : HistoryEntry) (h : History) → AllByRecursion (λ f. entry_cmp f.entry e.entry ≡ Less) h → with_entry e h ≡ h ++ e ∷ []
after_all e [] all = refl
after_all e (f ∷ h) all =
    with_later e f h (ap is_lt (entry_cmp_total.antisymm e.entry f.entry ∙ ap ordering_reverse all.0)) ∙ ap (λ (l : History). f ∷ l) (after_all e h all.1)

-- an entry that was put in above its client's others is its last one
pub open_last : (entry : Entry) (h : History) → IsInStampOrder h → IsAboveOwn entry h → IsOpenLast entry.client entry.seq (with_entry (record { entry = entry; pairs = None }) h)
open_last entry h sorted above = record {
  before = entries_of entry.client h;
  stamp = entry.stamp;
  is =
      filter-with_entry own new h sorted
      ∙ ap (λ (b : Bool). if b then with_entry new (filter own h) else filter own h) (itself entry.client)
      ∙ after_all new (filter own h) (own_below h above);
}
  where
    new : HistoryEntry
    new = record { entry = entry; pairs = None }

    own : HistoryEntry → Bool
    own f = f.entry.client == entry.client

    itself : (n : ℕ) → (n == n) ≡ true
    itself n = grind arith

    equal : (a b : ℕ) → (a == b) ≡ true → a ≡ b
    equal a b is = grind (arith, nat_tests)

    own_below : (h : History) → IsAboveOwn entry h → AllByRecursion (λ f. entry_cmp f.entry entry ≡ Less) (filter own h)
    own_below [] above = tt
    own_below (f ∷ h) above = by (f.entry.client == entry.client) refl (own_below h above.1)
      where
        by : (b : Bool) → (f.entry.client == entry.client) ≡ b → AllByRecursion (λ g. entry_cmp g.entry entry ≡ Less) (filter own h) → AllByRecursion (λ g. entry_cmp g.entry entry ≡ Less) (if b then f ∷ filter own h else filter own h)
        by true is rest = (stamp_first f.entry entry (above.0 (equal f.entry.client entry.client is)).1, rest)
        by false is rest = rest
