-- Of two entries of one client the one with the lower seq has the lower stamp.
use Rattle.std.proofs.Common.{◌≡◌, ℕ, ◌<◌, ◌==◌, Bool, true, false, [], ◌∷◌, map, filter, refl, arith, if◌then◌else◌, Ordering, Less, Equal, Greater, nat_cmp}
use Rattle.std.specs.List.{AllByRecursion}
use Rattle.std.specs.Ordering.{ordering_then}
use Rattle.std.proofs.lemmas.Bool.Decides.{nat_tests}
use Rattle.history_model.specs.History.{HistoryEntry, History, IsInStampOrder, entry_cmp, stamp_cmp}
use Rattle.history_model.specs.InOrder.{seqs_of}
use Rattle.catalogue.specs.Plan.{Plan}
use Rattle.core_model.specs.Laws.{IsAscending}
use Rattle.core_model.specs.StampOrder.{Below}
use Rattle.fabric_model.specs.Laws.{IsReached, HasRisingStamps}
use Rattle.fabric_model.specs.State.{State}
use Rattle.fabric_model.proofs.Either.{facts_of}
use Rattle.fabric_model.proofs.FromCore.{each_seq}
use Rattle.fabric_model.proofs.InOrder.{items_in_order}
use Rattle.fabric_model.proofs.Legal.{holds_now}

abbrev Rises : HistoryEntry → HistoryEntry → Type 0
Rises e f = e.entry.client ≡ f.entry.client → e.entry.seq < f.entry.seq → Below e.entry.stamp f.entry.stamp

-- an entry that stands before another one of its client has the lower stamp
lower : (e f : HistoryEntry) → entry_cmp e.entry f.entry ≡ Less → e.entry.client ≡ f.entry.client → Below e.entry.stamp f.entry.stamp
lower e f before same = by (stamp_cmp e.entry.stamp f.entry.stamp) refl before
  where
    equal : (a b : ℕ) → a ≡ b → nat_cmp a b ≡ Less → ⊥
    equal a b e less = grind (arith, nat_tests)

    by : (r : Ordering) → stamp_cmp e.entry.stamp f.entry.stamp ≡ r → ordering_then r (nat_cmp e.entry.client f.entry.client) ≡ Less → stamp_cmp e.entry.stamp f.entry.stamp ≡ Less
    by Less is b = is
    by Equal is b = absurd (equal e.entry.client f.entry.client same b)
    by Greater is b = cc

all_rise : (h : History) → IsInStampOrder h → ((c : ℕ) → IsAscending (seqs_of c h)) → AllByRecursion (λ e. AllByRecursion (Rises e) h) h
all_rise [] sorted up = tt
all_rise (e ∷ h) sorted up =
    let later = each_seq (λ q. e.entry.seq < q) e.entry.client h (front (e.entry.client == e.entry.client) (itself e.entry.client) (up e.entry.client)).0 in
    ((itself_rises e, before h sorted.0), behind h later (all_rise h sorted.1 (λ c. rest c (e.entry.client == c) (up c))))
  where
    itself : (n : ℕ) → (n == n) ≡ true
    itself n = grind arith

    itself_rises : (a : HistoryEntry) → Rises a a
    itself_rises a same low = absurd (omega arith)

    front : (b : Bool) → b ≡ true → IsAscending (map (λ f. f.entry.seq) (if b then e ∷ filter (λ f. f.entry.client == e.entry.client) h else filter (λ f. f.entry.client == e.entry.client) h))
        → AllByRecursion (λ q. e.entry.seq < q) (seqs_of e.entry.client h) × IsAscending (seqs_of e.entry.client h)
    front true is a = a
    front false is a = cc

    rest : (c : ℕ) (b : Bool) → IsAscending (map (λ f. f.entry.seq) (if b then e ∷ filter (λ f. f.entry.client == c) h else filter (λ f. f.entry.client == c) h)) → IsAscending (seqs_of c h)
    rest c true a = a.1
    rest c false a = a

    before : (l : History) → AllByRecursion (λ f. entry_cmp e.entry f.entry ≡ Less) l → AllByRecursion (Rises e) l
    before [] above = tt
    before (f ∷ l) above = ((λ same low. lower e f above.0 same), before l above.1)

    not_later : (f : HistoryEntry) → (f.entry.client ≡ e.entry.client → e.entry.seq < f.entry.seq) → Rises f e
    not_later f later same low = absurd (omega (arith, later same, low))

    behind : (l : History) → AllByRecursion (λ f. f.entry.client ≡ e.entry.client → e.entry.seq < f.entry.seq) l → AllByRecursion (λ f. AllByRecursion (Rises f) h) l → AllByRecursion (λ f. AllByRecursion (Rises f) (e ∷ h)) l
    behind [] later all = tt
    behind (f ∷ l) later all = ((not_later f later.0, all.0), behind l later.1 all.1)

pub rising_stamps : (plan : Plan) (s : State) → IsReached plan s → HasRisingStamps s
rising_stamps plan s reached = all_rise s.history (facts_of plan s (holds_now plan s reached)).facts.sorted (items_in_order plan (holds_now plan) s reached).ascending
