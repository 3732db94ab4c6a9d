-- What holds of the entries of a history, when one is put in.
use Rattle.std.proofs.Common.{◌≡◌, ◌≢◌, ◌⊎◌, ℕ, ◌+◌, Bool, true, false, List, [], ◌∷◌, Option, Some, None, is_some, inl, inr, refl, sym, ap, subst, ◌∙◌, if◌then◌else◌, Ordering, Less, Equal, Greater, is_lt}
use Rattle.std.specs.List.{AllByRecursion}
use Rattle.txn_model.specs.Places.{Places}
use Rattle.txn_model.specs.declared.pairs.Pair.{Pair}
use Rattle.history_model.specs.History.{HistoryEntry, History, IsInStampOrder, entry_cmp, with_entry}
use Rattle.switch_packet.specs.Packets.{PlainPacket}
use Rattle.switch_packet.specs.Replay.{replay}
use Rattle.switch_model.specs.Switch.{Desk}
use Rattle.catalogue.specs.Plan.{Plan}
use Rattle.core_model.specs.declared.phase.Phase.TheVariants.{Waiting}
use Rattle.core_model.specs.Facts.{Clients}
use Rattle.core_model.specs.StampOrder.{AtMost}
use Rattle.core_model.proofs.Entries.{entry_cmp_total}
use Rattle.fabric_model.specs.Carried.{is_carried, carried, AreCarriedBy}
use Rattle.fabric_model.specs.State.{is_answered, answered_ones}
use Rattle.fabric_model.proofs.CarriedLaws.{with_entry-between}

-- the answered entries, when an answered one is put in
less : (r : Ordering) → is_lt r ≡ true → r ≡ Less
less Less h = refl
less Equal h = cc
less Greater h = cc

above_all : (e f : HistoryEntry) (h : History) → entry_cmp e.entry f.entry ≡ Less → AllByRecursion (λ g. entry_cmp f.entry g.entry ≡ Less) h → AllByRecursion (λ g. entry_cmp e.entry g.entry ≡ Less) h
above_all e f [] lt all = tt
above_all e f (g ∷ h) lt all = (entry_cmp_total.trans e.entry f.entry g.entry lt all.0, above_all e f h lt all.1)

kept_above : (P : HistoryEntry → Type 0) (h : History) → AllByRecursion P h → AllByRecursion P (answered_ones h)
kept_above P [] all = tt
kept_above P (e ∷ h) all = by (is_answered e) (kept_above P h all.1)
  where
    by : (t : Bool) → AllByRecursion P (answered_ones h) → AllByRecursion P (if t then e ∷ answered_ones h else answered_ones h)
    by true rest = (all.0, rest)
    by false rest = rest

pub answered_ones-with_entry : (e : HistoryEntry) (h : History) → is_answered e ≡ true → IsInStampOrder h → answered_ones (with_entry e h) ≡ with_entry e (answered_ones h)
answered_ones-with_entry e [] yes_answered sorted = ap (λ (b : Bool). if b then e ∷ [] else []) yes_answered
answered_ones-with_entry e (f ∷ h) yes_answered sorted = by (is_lt (entry_cmp e.entry f.entry)) refl (answered_ones-with_entry e h yes_answered sorted.1)
  where
    front : is_lt (entry_cmp e.entry f.entry) ≡ true → answered_ones (e ∷ f ∷ h) ≡ with_entry e (answered_ones (f ∷ h))
    front before =
        ap (λ (b : Bool). if b then e ∷ answered_ones (f ∷ h) else answered_ones (f ∷ h)) yes_answered
        ∙ sym (with_entry-between e [] (answered_ones (f ∷ h)) tt (kept_above (λ g. entry_cmp e.entry g.entry ≡ Less) (f ∷ h) (less (entry_cmp e.entry f.entry) before, above_all e f h (less (entry_cmp e.entry f.entry) before) sorted.0)))

    behind : is_lt (entry_cmp e.entry f.entry) ≡ false → answered_ones (with_entry e h) ≡ with_entry e (answered_ones h) → (t : Bool)
        → (if t then f ∷ answered_ones (with_entry e h) else answered_ones (with_entry e h)) ≡ with_entry e (if t then f ∷ answered_ones h else answered_ones h)
    behind after rest true = ap (λ (l : History). f ∷ l) rest ∙ sym (ap (λ (b : Bool). if b then e ∷ f ∷ answered_ones h else f ∷ with_entry e (answered_ones h)) after)
    behind after rest false = rest

    by : (b : Bool) → is_lt (entry_cmp e.entry f.entry) ≡ b → answered_ones (with_entry e h) ≡ with_entry e (answered_ones h) → answered_ones (if b then e ∷ f ∷ h else f ∷ with_entry e h) ≡ with_entry e (answered_ones (f ∷ h))
    by true before rest = front before
    by false after rest = behind after rest (is_answered f)

-- and when an unanswered one is
pub answered_ones-pending : (e : HistoryEntry) (h : History) → is_answered e ≡ false → answered_ones (with_entry e h) ≡ answered_ones h
answered_ones-pending e [] no_answer = ap (λ (b : Bool). if b then e ∷ [] else []) no_answer
answered_ones-pending e (f ∷ h) no_answer = by (is_lt (entry_cmp e.entry f.entry)) (answered_ones-pending e h no_answer)
  where
    by : (b : Bool) → answered_ones (with_entry e h) ≡ answered_ones h → answered_ones (if b then e ∷ f ∷ h else f ∷ with_entry e h) ≡ answered_ones (f ∷ h)
    by true rest = ap (λ (b : Bool). if b then e ∷ answered_ones (f ∷ h) else answered_ones (f ∷ h)) no_answer
    by false rest = ap (λ (l : History). if is_answered f then f ∷ l else l) rest

-- a pending entry's client waits
pub pending_wait : (plan : Plan) (at : Clients) (desks : ℕ → Desk) (k : ℕ) (m : Places) (es : History) (ps : List PlainPacket) → AreCarriedBy plan at desks k m es ps → AllByRecursion (λ e. e.pairs ≡ None → (at e.entry.client).phase ≡ Waiting) es
pending_wait plan at desks k m [] ps all = tt
pending_wait plan at desks k m (e ∷ es) [] all = absurd all
pending_wait plan at desks k m (e ∷ es) (p ∷ ps) all = (λ none. (all.0.pending none).phase, pending_wait plan at desks (k + 1) (replay p m).after es ps all.1)

-- what holds of each carried entry holds of each that is carried
of_carried : (P : HistoryEntry → Type 0) (h : History) → AllByRecursion P (carried h) → AllByRecursion (λ e. is_carried e ≡ true → P e) h
of_carried P [] all = tt
of_carried P (e ∷ h) all = by (is_carried e) refl all (of_carried P h)
  where
    by : (b : Bool) → is_carried e ≡ b → AllByRecursion P (if b then e ∷ carried h else carried h) → (AllByRecursion P (carried h) → AllByRecursion (λ f. is_carried f ≡ true → P f) h) → (is_carried e ≡ true → P e) × AllByRecursion (λ f. is_carried f ≡ true → P f) h
    by true is l rest = (λ _. l.0, rest l.1)
    by false is l rest = (λ t. let clash : true ≡ false = sym t ∙ is in cc, rest l)

-- each unanswered entry's client waits
pub unanswered_wait : (plan : Plan) (at : Clients) (desks : ℕ → Desk) (m : Places) (h : History) (ps : List PlainPacket) → AllByRecursion (λ e. e.pairs ≡ None → is_carried e ≡ true) h → AreCarriedBy plan at desks 0 m (carried h) ps
    → AllByRecursion (λ e. e.pairs ≡ None → (at e.entry.client).phase ≡ Waiting) h
unanswered_wait plan at desks m h ps hosts all = both h hosts (of_carried (λ e. e.pairs ≡ None → (at e.entry.client).phase ≡ Waiting) h (pending_wait plan at desks 0 m (carried h) ps all))
  where
    both : (l : History) → AllByRecursion (λ e. e.pairs ≡ None → is_carried e ≡ true) l → AllByRecursion (λ e. is_carried e ≡ true → e.pairs ≡ None → (at e.entry.client).phase ≡ Waiting) l → AllByRecursion (λ e. e.pairs ≡ None → (at e.entry.client).phase ≡ Waiting) l
    both [] a b = tt
    both (e ∷ l) a b = (λ none. b.0 (a.0 none) none, both l a.1 b.1)

-- what holds of the answered entries holds of all that are
pub of_answered : (P : HistoryEntry → Type 0) (h : History) → AllByRecursion P (answered_ones h) → AllByRecursion (λ e. (e.pairs ≡ None) ⊎ P e) h
of_answered P [] all = tt
of_answered P (e ∷ h) all = by e.pairs refl all (of_answered P h)
  where
    by : (o : Option (List Pair)) → e.pairs ≡ o → AllByRecursion P (if is_some o then e ∷ answered_ones h else answered_ones h) → (AllByRecursion P (answered_ones h) → AllByRecursion (λ f. (f.pairs ≡ None) ⊎ P f) h) → ((e.pairs ≡ None) ⊎ P e) × AllByRecursion (λ f. (f.pairs ≡ None) ⊎ P f) h
    by (Some pairs) is l rest = (inr l.0, rest l.1)
    by None is l rest = (inl is, rest l)

-- a client that doesn't wait has stamps at most its last one
pub own_of_all : (plan : Plan) (at : Clients) (desks : ℕ → Desk) (m : Places) (h : History) (ps : List PlainPacket) (c : ℕ) → (at c).phase ≢ Waiting → AllByRecursion (λ e. e.pairs ≡ None → is_carried e ≡ true) h → AreCarriedBy plan at desks 0 m (carried h) ps
    → AllByRecursion (λ e. e.entry.client ≡ c → AtMost e.entry.stamp (at c).last) (answered_ones h) → AllByRecursion (λ e. e.entry.client ≡ c → AtMost e.entry.stamp (at c).last) h
own_of_all plan at desks m h ps c not hosts all own =
    both h (unanswered_wait plan at desks m h ps hosts all) (of_answered (λ e. e.entry.client ≡ c → AtMost e.entry.stamp (at c).last) h own)
  where
    both : (l : History) → AllByRecursion (λ e. e.pairs ≡ None → (at e.entry.client).phase ≡ Waiting) l → AllByRecursion (λ e. (e.pairs ≡ None) ⊎ (e.entry.client ≡ c → AtMost e.entry.stamp (at c).last)) l → AllByRecursion (λ e. e.entry.client ≡ c → AtMost e.entry.stamp (at c).last) l
    both [] a b = tt
    both (e ∷ l) a b = (one b.0, both l a.1 b.1)
      where
        one : (e.pairs ≡ None) ⊎ (e.entry.client ≡ c → AtMost e.entry.stamp (at c).last) → e.entry.client ≡ c → AtMost e.entry.stamp (at c).last
        one (inl none) mine = absurd (not (subst (λ (x : ℕ). (at x).phase ≡ Waiting) mine (a.0 none)))
        one (inr low) mine = low mine
