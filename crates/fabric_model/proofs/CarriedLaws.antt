-- Entries and packets that carry them, when one is added or answered.
use Rattle.std.proofs.Common.{◌≡◌, ◌≢◌, ℕ, ℤ, suc, ◌+◌, ◌==◌, ◌&&◌, Bool, true, false, List, [], ◌∷◌, ◌++◌, map, length, slice_get, Option, Some, None, refl, sym, ap, subst, ◌∙◌, arith, if◌then◌else◌, Ordering, Less, Equal, Greater, is_lt, is_some}
use Rattle.std.specs.List.{AllByRecursion}
use Rattle.std.specs.Ordering.{ordering_reverse}
use Rattle.std.proofs.lemmas.Bool.Decides.{nat_tests}
use Rattle.txn_model.specs.Places.{Places}
use Rattle.txn_model.specs.declared.pairs.Pair.{Pair}
use Rattle.txn_model.specs.declared.stamp.Stamp.{Stamp}
use Rattle.history_model.specs.History.{HistoryEntry, History, IsInStampOrder, entry_cmp, with_entry}
use Rattle.switch_packet.specs.Packets.{PlainPacket}
use Rattle.switch_packet.specs.Replay.{replay, replay_all}
use Rattle.switch_model.specs.Switch.{Desk}
use Rattle.catalogue.specs.Plan.{Plan}
use Rattle.core_model.proofs.Entries.{entry_cmp_total}
use Rattle.core_model.proofs.StepsOf.{all_behind}
use Rattle.core_model.specs.Facts.{Clients}
use Rattle.fabric_model.specs.Carried.{is_carried, carried, IsPending, IsCarriedBy, AreCarriedBy}
use Rattle.fabric_model.specs.State.{is_answered, answered_ones}
use Rattle.fabric_model.specs.Step.{answered_entry, with_reply}

-- each entry changes in a way that keeps it carried by its packet, which knows the replay at its place
pub carried_by_each : (plan : Plan) (at new : Clients) (desks desks_new : ℕ → Desk) (f : HistoryEntry → HistoryEntry) (k : ℕ) (m : Places) (es : History) (ps : List PlainPacket)
    → ((i : ℕ) (n : Places) (e : HistoryEntry) (p : PlainPacket) → slice_get es i ≡ Some e → slice_get ps i ≡ Some p → slice_get (replay_all ps m).pairs i ≡ Some (replay p n).pairs → IsCarriedBy plan at desks (k + i) n e p → IsCarriedBy plan new desks_new (k + i) n (f e) p)
    → AreCarriedBy plan at desks k m es ps → AreCarriedBy plan new desks_new k m (map f es) ps
unfolding replay_all
carried_by_each plan at new desks desks_new f k m [] [] each all = tt
carried_by_each plan at new desks desks_new f k m [] (p ∷ ps) each all = all
carried_by_each plan at new desks desks_new f k m (e ∷ es) [] each all = all
carried_by_each plan at new desks desks_new f k m (e ∷ es) (p ∷ ps) each all =
    let here : k + 0 ≡ k = omega arith in (
      subst (λ (j : ℕ). IsCarriedBy plan new desks_new j m (f e) p) here (each 0 m e p refl refl refl (subst (λ (j : ℕ). IsCarriedBy plan at desks j m e p) (sym here) all.0)),
      carried_by_each plan at new desks desks_new f (k + 1) (replay p m).after es ps
          (λ i n g q entry is pairs by.
          let next : k + suc i ≡ (k + 1) + i = omega arith in
          subst (λ (j : ℕ). IsCarriedBy plan new desks_new j n (f g) q) next (each (suc i) n g q entry is pairs (subst (λ (j : ℕ). IsCarriedBy plan at desks j n g q) (sym next) by))) all.1,
    )

-- so do entries that stay, where pending ones stay pending
pub carried_stays : (plan : Plan) (at new : Clients) (desks desks_new : ℕ → Desk) (k : ℕ) (m : Places) (es : History) (ps : List PlainPacket)
    → ((j : ℕ) (e : HistoryEntry) (values : List ℤ) → IsPending plan at desks j e values → IsPending plan new desks_new j e values)
    → AreCarriedBy plan at desks k m es ps → AreCarriedBy plan new desks_new k m es ps
carried_stays plan at new desks desks_new k m [] [] stays all = tt
carried_stays plan at new desks desks_new k m [] (p ∷ ps) stays all = all
carried_stays plan at new desks desks_new k m (e ∷ es) [] stays all = all
carried_stays plan at new desks desks_new k m (e ∷ es) (p ∷ ps) stays all = (
  record { stamp = all.0.stamp; values = all.0.values; packet = all.0.packet; reply = all.0.reply; pending = λ none. stays k e all.0.values (all.0.pending none) },
  carried_stays plan at new desks desks_new (k + 1) (replay p m).after es ps stays all.1,
)

-- one more entry and packet at the end
pub carried_append : (plan : Plan) (at : Clients) (desks : ℕ → Desk) (k : ℕ) (m : Places) (es : History) (ps : List PlainPacket) (e : HistoryEntry) (p : PlainPacket)
    → AreCarriedBy plan at desks k m es ps → IsCarriedBy plan at desks (k + length ps) (replay_all ps m).after e p → AreCarriedBy plan at desks k m (es ++ e ∷ []) (ps ++ p ∷ [])
unfolding replay_all
carried_append plan at desks k m [] [] e p all new = let here : k + 0 ≡ k = omega arith in (subst (λ (j : ℕ). IsCarriedBy plan at desks j m e p) here new, tt)
carried_append plan at desks k m [] (q ∷ ps) e p all new = absurd all
carried_append plan at desks k m (g ∷ es) [] e p all new = absurd all
carried_append plan at desks k m (g ∷ es) (q ∷ ps) e p all new =
    let next : k + suc (length ps) ≡ (k + 1) + length ps = omega arith in
    (all.0, carried_append plan at desks (k + 1) (replay q m).after es ps e p all.1 (subst (λ (j : ℕ). IsCarriedBy plan at desks j (replay_all ps (replay q m).after).after e p) next new))

-- as many entries as packets
pub as_many_carried : (plan : Plan) (at : Clients) (desks : ℕ → Desk) (k : ℕ) (m : Places) (es : History) (ps : List PlainPacket) → AreCarriedBy plan at desks k m es ps → length es ≡ length ps
as_many_carried plan at desks k m [] [] all = refl
as_many_carried plan at desks k m [] (q ∷ ps) all = absurd all
as_many_carried plan at desks k m (g ∷ es) [] all = absurd all
as_many_carried plan at desks k m (g ∷ es) (q ∷ ps) all = ap suc (as_many_carried plan at desks (k + 1) (replay q m).after es ps all.1)

-- an entry that isn't carried by a packet
pub carried-with_entry : (e : HistoryEntry) (h : History) → is_carried e ≡ false → carried (with_entry e h) ≡ carried h
carried-with_entry e [] not = ap (λ (b : Bool). if b then e ∷ [] else []) not
carried-with_entry e (f ∷ h) not = by (is_lt (entry_cmp e.entry f.entry)) (carried-with_entry e h not)
  where
    by : (b : Bool) → carried (with_entry e h) ≡ carried h → carried (if b then e ∷ f ∷ h else f ∷ with_entry e h) ≡ carried (f ∷ h)
    by true rest = ap (λ (b : Bool). if b then e ∷ carried (f ∷ h) else carried (f ∷ h)) not
    by false rest = ap (λ (l : History). if is_carried f then f ∷ l else l) rest

not_less : (r : Ordering) → r ≢ Less → is_lt r ≡ false
not_less Less n = absurd (n refl)
not_less Equal n = refl
not_less Greater n = refl

-- an entry behind all others comes at the end
pub with_entry-last : (e : HistoryEntry) (h : History) → AllByRecursion (λ f. entry_cmp e.entry f.entry ≢ Less) h → with_entry e h ≡ h ++ e ∷ []
with_entry-last e [] all = refl
with_entry-last e (f ∷ h) all = ap (λ (b : Bool). if b then e ∷ f ∷ h else f ∷ with_entry e h) (not_less (entry_cmp e.entry f.entry) all.0) ∙ ap (λ (l : History). f ∷ l) (with_entry-last e h all.1)

-- an entry between those before it and those behind
pub with_entry-between : (e : HistoryEntry) (a b : History) → AllByRecursion (λ f. entry_cmp e.entry f.entry ≢ Less) a → AllByRecursion (λ f. entry_cmp e.entry f.entry ≡ Less) b → with_entry e (a ++ b) ≡ a ++ e ∷ b
with_entry-between e [] [] before behind = refl
with_entry-between e [] (f ∷ b) before behind = ap (λ (r : Ordering). if is_lt r then e ∷ f ∷ b else f ∷ with_entry e b) behind.0
with_entry-between e (f ∷ a) b before behind = ap (λ (t : Bool). if t then e ∷ f ∷ (a ++ b) else f ∷ with_entry e (a ++ b)) (not_less (entry_cmp e.entry f.entry) before.0) ∙ ap (λ (l : History). f ∷ l) (with_entry-between e a b before.1 behind)

-- entries keep their stamps when they are answered
carried_as_before : (number : ℕ) (reply : List Pair) (e : HistoryEntry) → is_carried (answered_entry number reply e) ≡ is_carried e
carried_as_before number reply e = by (e.entry.stamp.number == number && e.entry.stamp.sub == 0)
  where
    by : (b : Bool) → is_carried (if b then record e { pairs = Some reply } else e) ≡ is_carried e
    by true = refl
    by false = refl

pub carried-with_reply : (number : ℕ) (reply : List Pair) (h : History) → carried (with_reply number reply h) ≡ with_reply number reply (carried h)
carried-with_reply number reply [] = refl
carried-with_reply number reply (e ∷ h) = ap (λ (b : Bool). if b then answered_entry number reply e ∷ carried (with_reply number reply h) else carried (with_reply number reply h)) (carried_as_before number reply e) ∙ by (is_carried e) (carried-with_reply number reply h)
  where
    by : (b : Bool) → carried (with_reply number reply h) ≡ with_reply number reply (carried h) → (if b then answered_entry number reply e ∷ carried (with_reply number reply h) else carried (with_reply number reply h)) ≡ with_reply number reply (if b then e ∷ carried h else carried h)
    by true rest = ap (λ (l : History). answered_entry number reply e ∷ l) rest
    by false rest = rest

-- entries with another number, or of transactions on hosts, stay
abbrev pub IsOther : ℕ → HistoryEntry → Type 0
IsOther number e = (e.entry.stamp.number == number && e.entry.stamp.sub == 0) ≡ false

pub with_reply-others : (number : ℕ) (reply : List Pair) (h : History) → AllByRecursion (IsOther number) h → with_reply number reply h ≡ h
with_reply-others number reply [] all = refl
with_reply-others number reply (e ∷ h) all =
    ap (λ (b : Bool). (if b then record e { pairs = Some reply } else e) ∷ with_reply number reply h) all.0 ∙ ap (λ (l : History). e ∷ l) (with_reply-others number reply h all.1)

-- the unanswered entry of a number, where no other has it: the entries before and behind
pub record Unanswered (number : ℕ) (h : History) : Type 0 where
  pub before : History
  pub entry : HistoryEntry
  pub behind : History
  pub whole : h ≡ before ++ entry ∷ behind
  pub number_is : entry.entry.stamp ≡ record { number = number; sub = 0 }
  pub none : entry.pairs ≡ None
  pub others_before : AllByRecursion (IsOther number) before
  pub others_behind : AllByRecursion (IsOther number) behind

pub with_reply-append : (number : ℕ) (reply : List Pair) (a b : History) → with_reply number reply (a ++ b) ≡ with_reply number reply a ++ with_reply number reply b
with_reply-append number reply [] b = refl
with_reply-append number reply (e ∷ a) b = ap (λ (l : History). answered_entry number reply e ∷ l) (with_reply-append number reply a b)

pub answered_ones-append : (a b : History) → answered_ones (a ++ b) ≡ answered_ones a ++ answered_ones b
answered_ones-append [] b = refl
answered_ones-append (e ∷ a) b = by (is_answered e) (answered_ones-append a b)
  where
    by : (t : Bool) → answered_ones (a ++ b) ≡ answered_ones a ++ answered_ones b → (if t then e ∷ answered_ones (a ++ b) else answered_ones (a ++ b)) ≡ (if t then e ∷ answered_ones a else answered_ones a) ++ answered_ones b
    by true rest = ap (λ (l : History). e ∷ l) rest
    by false rest = rest

-- where an entry isn't before one of the second list it isn't before it among those that are kept
kept_all : (P : HistoryEntry → Type 0) (h : History) → AllByRecursion P h → AllByRecursion P (answered_ones h)
kept_all P [] all = tt
kept_all P (e ∷ h) all = by (is_answered e) (kept_all P h all.1)
  where
    by : (t : Bool) → AllByRecursion P (answered_ones h) → AllByRecursion P (if t then e ∷ answered_ones h else answered_ones h)
    by true rest = (all.0, rest)
    by false rest = rest

-- in a history in order, the entries before one of them aren't behind it, and those behind it are
pub in_between : (a : History) (e : HistoryEntry) (b : History) → IsInStampOrder (a ++ e ∷ b) → AllByRecursion (λ f. entry_cmp e.entry f.entry ≢ Less) a × AllByRecursion (λ f. entry_cmp e.entry f.entry ≡ Less) b
in_between [] e b sorted = (tt, sorted.0)
in_between (f ∷ a) e b sorted = let rest = in_between a e b sorted.1 in ((λ less. not_both f e (first_of a e b sorted.0) less, rest.0), rest.1)
  where
    first_of : (l : History) (x : HistoryEntry) (r : History) → AllByRecursion (λ g. entry_cmp f.entry g.entry ≡ Less) (l ++ x ∷ r) → entry_cmp f.entry x.entry ≡ Less
    first_of l x r all = (all_behind (λ g. entry_cmp f.entry g.entry ≡ Less) l (x ∷ r) all).0

    not_both : (x y : HistoryEntry) → entry_cmp x.entry y.entry ≡ Less → entry_cmp y.entry x.entry ≡ Less → ⊥
    not_both x y xy yx = let turned = entry_cmp_total.antisymm y.entry x.entry ∙ ap ordering_reverse xy in cc

itself : (n m : ℕ) → n ≡ m → (n == m && 0 == 0) ≡ true
itself n m e = grind (arith, nat_tests)

-- the history in which a pending entry is answered: the entries before and behind stay
pub with_reply-split : (number : ℕ) (reply : List Pair) (h : History) (at : Unanswered number h) → with_reply number reply h ≡ at.before ++ record at.entry { pairs = Some reply } ∷ at.behind
with_reply-split number reply h at =
    ap (with_reply number reply) at.whole ∙ with_reply-append number reply at.before (at.entry ∷ at.behind)
    ∙ ap (λ (l : History). l ++ with_reply number reply (at.entry ∷ at.behind)) (with_reply-others number reply at.before at.others_before)
    ∙ ap (λ (l : History). at.before ++ answered_entry number reply at.entry ∷ l) (with_reply-others number reply at.behind at.others_behind)
    ∙ ap (λ (e : HistoryEntry). at.before ++ e ∷ at.behind) answers
  where
    new : HistoryEntry
    new = record at.entry { pairs = Some reply }

    answers : answered_entry number reply at.entry ≡ new
    answers =
        ap (λ (s : Stamp). if s.number == number && s.sub == 0 then new else at.entry) at.number_is
        ∙ ap (λ (b : Bool). if b then new else at.entry) (itself number number refl)

-- the answered entries, when one more is answered: it is put at its place among them
pub answered_ones-with_reply : (number : ℕ) (reply : List Pair) (h : History) (at : Unanswered number h) → IsInStampOrder h
    → answered_ones (with_reply number reply h) ≡ with_entry (record at.entry { pairs = Some reply }) (answered_ones h)
answered_ones-with_reply number reply h at sorted =
    let ordered = in_between at.before at.entry at.behind (subst IsInStampOrder at.whole sorted) in
    ap answered_ones (with_reply-split number reply h at)
    ∙ answered_ones-append at.before (new ∷ at.behind)
    ∙ sym (ap (with_entry new) (ap answered_ones at.whole ∙ answered_ones-append at.before (at.entry ∷ at.behind) ∙ ap (λ (l : History). answered_ones at.before ++ l) (skipped at.entry at.behind at.none))
    ∙ with_entry-between new (answered_ones at.before) (answered_ones at.behind) (kept_all (λ f. entry_cmp at.entry.entry f.entry ≢ Less) at.before ordered.0) (kept_all (λ f. entry_cmp at.entry.entry f.entry ≡ Less) at.behind ordered.1))
  where
    new : HistoryEntry
    new = record at.entry { pairs = Some reply }

    skipped : (e : HistoryEntry) (b : History) → e.pairs ≡ None → answered_ones (e ∷ b) ≡ answered_ones b
    skipped e b none = ap (λ (o : Option (List Pair)). if is_some o then e ∷ answered_ones b else answered_ones b) none
