-- A client's entries while the switch is up: the answered ones, and behind them that of its present item, where its packet has its number.
use Rattle.std.proofs.Common.{◌≡◌, ◌⊎◌, ℕ, zero, suc, ◌+◌, ◌<◌, ◌==◌, Bool, true, false, List, [], ◌∷◌, ◌++◌, map, filter, length, get_or, is_some, Option, Some, None, IsSome, Contains, inl, inr, refl, sym, ap, subst, ◌∙◌, arith, if◌then◌else◌, Ordering, Less, Equal, Greater, nat_cmp}
use Rattle.std.specs.List.{AllByRecursion}
use Rattle.std.specs.Ordering.{ordering_then}
use Rattle.std.proofs.lemmas.Bool.Decides.{nat_tests}
use Rattle.txn_model.specs.Places.{Places}
use Rattle.txn_model.specs.declared.pairs.Pair.{Pair}
use Rattle.txn_model.specs.declared.stamp.Stamp.{Stamp}
use Rattle.history_model.specs.History.{HistoryEntry, History, IsInStampOrder, AllAnswered, entry_cmp, stamp_cmp}
use Rattle.history_model.specs.InOrder.{seqs_of}
use Rattle.switch_packet.specs.Packets.{PlainPacket}
use Rattle.switch_packet.specs.Replay.{replay}
use Rattle.placement_model.specs.Placements.{Task}
use Rattle.switch_model.specs.Switch as machine
use Rattle.switch_model.specs.Switch.{Desk, Vacant, Posted, Entered, desk_at}
use Rattle.catalogue.specs.Plan.{Plan, hot_cells}
use Rattle.core_model.specs.declared.phase.Phase.TheVariants.{Waiting}
use Rattle.core_model.specs.Facts.{Clients}
use Rattle.core_model.specs.StampOrder.{Below, AtMost}
use Rattle.core_model.specs.State.{ClientState}
use Rattle.core_model.proofs.Entries.{not_behind}
use Rattle.core_model.proofs.Stamps.{Below-from_AtMost, below_of}
use Rattle.fabric_model.specs.Carried.{is_carried, carried, AreCarriedBy, FitsDesk, pending_entry}
use Rattle.fabric_model.specs.Holds.{Holds}
use Rattle.fabric_model.specs.State.{State, client_at, is_answered, answered_ones}
use Rattle.fabric_model.specs.Step.{recovered}
use Rattle.fabric_model.proofs.Assembled.{answered_filled}

-- what holds of the filtered entries holds of those that pass the filter
pub from_filter : (f : HistoryEntry → Bool) (P : HistoryEntry → Type 0) (h : History) → AllByRecursion P (filter f h) → AllByRecursion (λ e. f e ≡ true → P e) h
from_filter f P [] all = tt
from_filter f P (e ∷ h) all = by (f e) refl all (from_filter f P h)
  where
    by : (b : Bool) → f e ≡ b → AllByRecursion P (if b then e ∷ filter f h else filter f h) → (AllByRecursion P (filter f h) → AllByRecursion (λ g. f g ≡ true → P g) h) → (f e ≡ true → P e) × AllByRecursion (λ g. f g ≡ true → P g) h
    by true holds all rest = (λ _. all.0, rest all.1)
    by false fails all rest = (λ holds. let clash : true ≡ false = sym holds ∙ fails in cc, rest all)

-- the packet on the desk has its number
abbrev pub IsNumbered : Desk → Type 0
IsNumbered Vacant = ⊥
IsNumbered (Posted p) = ⊥
IsNumbered (Entered k) = Unit {0}

-- the entry of the packet on a client's desk
pub record IsOpenEntry (x : ClientState) (desk : Desk) (e : HistoryEntry) : Type 0 where
  pub none : e.pairs ≡ None
  pub phase : x.phase ≡ Waiting
  pub seq : e.entry.seq ≡ x.seq
  pub k : ℕ
  pub desk_is : desk ≡ Entered k
  pub stamp : e.entry.stamp ≡ record { number = k + 1; sub = 0 }
  pub above : Below x.last e.entry.stamp

-- a client's entry is an answered one, which isn't above its last stamp, or that one
abbrev pub OwnEntry : ClientState → Desk → HistoryEntry → Type 0
OwnEntry x desk e = (IsSome e.pairs × AtMost e.entry.stamp x.last) ⊎ IsOpenEntry x desk e

open_ones : (plan : Plan) (at : Clients) (desks : ℕ → Desk) (k : ℕ) (m : Places) (es : History) (ps : List PlainPacket) → AreCarriedBy plan at desks k m es ps → AllByRecursion (λ e. e.pairs ≡ None → IsOpenEntry (at e.entry.client) (desks e.entry.client) e) es
open_ones plan at desks k m [] ps all = tt
open_ones plan at desks k m (e ∷ es) [] all = absurd all
open_ones plan at desks k m (e ∷ es) (p ∷ ps) all = (λ none. one none, open_ones plan at desks (k + 1) (replay p m).after es ps all.1)
  where
    one : e.pairs ≡ None → IsOpenEntry (at e.entry.client) (desks e.entry.client) e
    one none =
        let p = all.0.pending none in
        record {
          none = none;
          phase = p.phase;
          seq = sym p.seq;
          k = k;
          desk_is = p.desk;
          stamp = all.0.stamp;
          above = subst (λ (t : Stamp). Below (at e.entry.client).last t) (sym all.0.stamp) (below_of (at e.entry.client).last (record { number = k + 1; sub = 0 }) (inl p.last));
        }

own_ones : (at : Clients) (desks : ℕ → Desk) (c : ℕ) (h : History) → AllByRecursion (λ e. is_answered e ≡ true → e.entry.client ≡ c → AtMost e.entry.stamp (at c).last) h
    → AllByRecursion (λ e. is_carried e ≡ true → e.pairs ≡ None → IsOpenEntry (at e.entry.client) (desks e.entry.client) e) h → AllByRecursion (λ e. e.pairs ≡ None → is_carried e ≡ true) h
    → AllByRecursion (λ e. e.entry.client ≡ c → OwnEntry (at c) (desks c) e) h
own_ones at desks c [] answered open_entries unanswered = tt
own_ones at desks c (e ∷ h) answered open_entries unanswered = (λ own. by own e.pairs refl, own_ones at desks c h answered.1 open_entries.1 unanswered.1)
  where
    some : (o : Option (List Pair)) (p : List Pair) → o ≡ Some p → IsSome o
    some o p is = subst IsSome (sym is) refl

    by : e.entry.client ≡ c → (o : Option (List Pair)) → e.pairs ≡ o → OwnEntry (at c) (desks c) e
    by own (Some p) is = inl (some e.pairs p is, answered.0 (ap is_some is) own)
    by own None is = inr (subst (λ (d : ℕ). IsOpenEntry (at d) (desks d) e) own (open_entries.0 (unanswered.0 is) is))

pub own_entries : (plan : Plan) (s : State) (h : Holds plan s) (c : ℕ) → AllByRecursion (λ e. e.entry.client ≡ c → OwnEntry (client_at s c) (desk_at h.now c) e) s.history
own_entries plan s h c =
    own_ones (client_at s) (desk_at h.now) c s.history
    (from_filter is_answered (λ e. e.entry.client ≡ c → AtMost e.entry.stamp (client_at s c).last) s.history (h.ties.cold.own c))
    (from_filter is_carried (λ e. e.pairs ≡ None → IsOpenEntry (client_at s e.entry.client) (desk_at h.now e.entry.client) e) s.history (open_ones plan (client_at s) (desk_at h.now) 0 (hot_cells plan) (carried s.history) (machine.entered h.now) h.ties.carried_ones))
    h.ties.unanswered

module _ (x : ClientState) (desk : Desk) (c : ℕ) where
  abbrev AreOwn : History → Type 0
  AreOwn h = AllByRecursion (λ e. e.entry.client ≡ c → OwnEntry x desk e) h

  -- behind its open entry a client has none
  same_stamps : (e g : HistoryEntry) → e.entry.stamp ≡ g.entry.stamp → e.entry.client ≡ g.entry.client → entry_cmp e.entry g.entry ≡ Less → ⊥
  same_stamps e g stamp client less = equal e.entry.client g.entry.client client (by (stamp_cmp e.entry.stamp g.entry.stamp) refl less)
    where
      equal : (a b : ℕ) → a ≡ b → nat_cmp a b ≡ Less → ⊥
      equal a b is lt = grind (arith, nat_tests)

      itself : (a b : ℕ) → a ≡ b → nat_cmp a b ≡ Less → ⊥
      itself a b is lt = grind (arith, nat_tests)

      first : (a b : Ordering) → ordering_then a b ≡ Less → (a ≡ Less → ⊥) → b ≡ Less
      first Less b is n = absurd (n refl)
      first Equal b is n = is
      first Greater b is n = cc

      not_less : stamp_cmp e.entry.stamp g.entry.stamp ≡ Less → ⊥
      not_less is =
          let number : e.entry.stamp.number ≡ g.entry.stamp.number = ap (λ (t : Stamp). t.number) stamp in
          let sub : e.entry.stamp.sub ≡ g.entry.stamp.sub = ap (λ (t : Stamp). t.sub) stamp in
          itself e.entry.stamp.sub g.entry.stamp.sub sub (first (nat_cmp e.entry.stamp.number g.entry.stamp.number) (nat_cmp e.entry.stamp.sub g.entry.stamp.sub) is (itself e.entry.stamp.number g.entry.stamp.number number))

      by : (r : Ordering) → stamp_cmp e.entry.stamp g.entry.stamp ≡ r → ordering_then r (nat_cmp e.entry.client g.entry.client) ≡ Less → nat_cmp e.entry.client g.entry.client ≡ Less
      by Less is b = absurd (not_less is)
      by Equal is b = b
      by Greater is b = cc

  same_desk : {a b : ℕ} → desk ≡ Entered a → desk ≡ Entered b → a ≡ b
  same_desk p q = let same : Entered _ ≡ Entered _ = sym p ∙ q in cc

  none_behind : (e g : HistoryEntry) → e.entry.client ≡ c → IsOpenEntry x desk e → (g.entry.client ≡ c → OwnEntry x desk g) → entry_cmp e.entry g.entry ≡ Less → g.entry.client ≡ c → ⊥
  none_behind e g own o known less mine = by (known mine)
    where
      by : OwnEntry x desk g → ⊥
      by (inl a) = not_behind e.entry g.entry (Below-from_AtMost g.entry.stamp x.last e.entry.stamp a.1 o.above) less
      by (inr p) = same_stamps e g (o.stamp ∙ ap {B = Stamp} (λ (k : ℕ). record { number = k + 1; sub = 0 }) (same_desk o.desk_is p.desk_is) ∙ sym p.stamp) (own ∙ sym mine) less

  differs : (a b : ℕ) → (a ≡ b → ⊥) → (a == b) ≡ false
  differs a b n = grind arith

  equal : (a b : ℕ) → (a == b) ≡ true → a ≡ b
  equal a b e = grind (arith, nat_tests)

  no_own : (h : History) → AllByRecursion (λ g. g.entry.client ≡ c → ⊥) h → seqs_of c h ≡ []
  no_own [] all = refl
  no_own (g ∷ h) all = ap (λ (b : Bool). map (λ (e : HistoryEntry). e.entry.seq) (if b then g ∷ filter (λ e. e.entry.client == c) h else filter (λ e. e.entry.client == c) h)) (differs g.entry.client c all.0) ∙ no_own h all.1

  no_own_ones : (h : History) → AllByRecursion (λ g. g.entry.client ≡ c → ⊥) h → seqs_of c (answered_ones h) ≡ []
  no_own_ones [] all = refl
  no_own_ones (g ∷ h) all = by (is_answered g) (no_own_ones h all.1)
    where
      by : (b : Bool) → seqs_of c (answered_ones h) ≡ [] → seqs_of c (if b then g ∷ answered_ones h else answered_ones h) ≡ []
      by true rest = ap (λ (b : Bool). map (λ (e : HistoryEntry). e.entry.seq) (if b then g ∷ filter (λ e. e.entry.client == c) (answered_ones h) else filter (λ e. e.entry.client == c) (answered_ones h))) (differs g.entry.client c all.0) ∙ rest
      by false rest = rest

  all_behind_open : (e : HistoryEntry) (h : History) → e.entry.client ≡ c → IsOpenEntry x desk e → AreOwn h → AllByRecursion (λ g. entry_cmp e.entry g.entry ≡ Less) h → AllByRecursion (λ g. g.entry.client ≡ c → ⊥) h
  all_behind_open e [] own o known less = tt
  all_behind_open e (g ∷ h) own o known less = (none_behind e g own o known.0 less.0, all_behind_open e h own o known.1 less.1)

  -- the answered ones are all, or all but the open one, which comes behind them
  abbrev pub Parted : History → Type 0
  Parted h = ((seqs_of c h ≡ seqs_of c (answered_ones h)) × AllByRecursion (λ e. e.entry.client ≡ c → IsSome e.pairs) h) ⊎ ((seqs_of c h ≡ seqs_of c (answered_ones h) ++ x.seq ∷ []) × (x.phase ≡ Waiting) × IsNumbered desk)

  parted : (h : History) → IsInStampOrder h → AreOwn h → Parted h
  parted [] sorted own = inl (refl, tt)
  parted (e ∷ h) sorted own = by (e.entry.client == c) refl (parted h sorted.1 own.1)
    where
      whole : (b : Bool) → (e.entry.client == c) ≡ b → seqs_of c (e ∷ h) ≡ map (λ (g : HistoryEntry). g.entry.seq) (if b then e ∷ filter (λ g. g.entry.client == c) h else filter (λ g. g.entry.client == c) h)
      whole b is = ap (λ (t : Bool). map (λ (g : HistoryEntry). g.entry.seq) (if t then e ∷ filter (λ g. g.entry.client == c) h else filter (λ g. g.entry.client == c) h)) is

      ones_other : (e.entry.client == c) ≡ false → seqs_of c (answered_ones (e ∷ h)) ≡ seqs_of c (answered_ones h)
      ones_other is = test (is_answered e)
        where
          test : (t : Bool) → seqs_of c (if t then e ∷ answered_ones h else answered_ones h) ≡ seqs_of c (answered_ones h)
          test true = ap (λ (b : Bool). map (λ (g : HistoryEntry). g.entry.seq) (if b then e ∷ filter (λ g. g.entry.client == c) (answered_ones h) else filter (λ g. g.entry.client == c) (answered_ones h))) is
          test false = refl

      ones_own : (e.entry.client == c) ≡ true → is_answered e ≡ true → seqs_of c (answered_ones (e ∷ h)) ≡ e.entry.seq ∷ seqs_of c (answered_ones h)
      ones_own is some =
          ap (λ (t : Bool). seqs_of c (if t then e ∷ answered_ones h else answered_ones h)) some
          ∙ ap (λ (b : Bool). map (λ (g : HistoryEntry). g.entry.seq) (if b then e ∷ filter (λ g. g.entry.client == c) (answered_ones h) else filter (λ g. g.entry.client == c) (answered_ones h))) is

      ones_open : is_answered e ≡ false → seqs_of c (answered_ones (e ∷ h)) ≡ seqs_of c (answered_ones h)
      ones_open none = ap (λ (t : Bool). seqs_of c (if t then e ∷ answered_ones h else answered_ones h)) none

      tested : (o : Option (List Pair)) → IsSome o → is_some o ≡ true
      tested (Some p) i = refl
      tested None i = cc

      not_own : (e.entry.client == c) ≡ false → e.entry.client ≡ c → ⊥
      not_own n is = clash e.entry.client c n is
        where
          clash : (a b : ℕ) → (a == b) ≡ false → a ≡ b → ⊥
          clash a b m i = grind arith

      with_own : (e.entry.client == c) ≡ true → OwnEntry x desk e → Parted h → Parted (e ∷ h)
      with_own is (inl a) (inl p) = inl (whole true is ∙ ap (λ (l : List ℕ). e.entry.seq ∷ l) p.0 ∙ sym (ones_own is (tested e.pairs a.0)), (λ _. a.0, p.1))
      with_own is (inl a) (inr p) = inr (whole true is ∙ ap (λ (l : List ℕ). e.entry.seq ∷ l) p.0 ∙ ap (λ (l : List ℕ). l ++ x.seq ∷ []) (sym (ones_own is (tested e.pairs a.0))), p.1, p.2)
      with_own is (inr o) rest =
          let others = all_behind_open e h (equal e.entry.client c is) o own.1 sorted.0 in
          inr (whole true is ∙ ap (λ (l : List ℕ). e.entry.seq ∷ l) (no_own h others) ∙ ap (λ (q : ℕ). q ∷ []) o.seq ∙ ap (λ (l : List ℕ). l ++ x.seq ∷ []) (sym (ones_open (ap is_some o.none) ∙ no_own_ones h others)), o.phase, subst IsNumbered (sym o.desk_is) tt)

      without : (e.entry.client == c) ≡ false → Parted h → Parted (e ∷ h)
      without is (inl p) = inl (whole false is ∙ p.0 ∙ sym (ones_other is), (λ mine. absurd (not_own is mine), p.1))
      without is (inr p) = inr (whole false is ∙ p.0 ∙ ap (λ (l : List ℕ). l ++ x.seq ∷ []) (sym (ones_other is)), p.1, p.2)

      by : (b : Bool) → (e.entry.client == c) ≡ b → Parted h → Parted (e ∷ h)
      by true is rest = with_own is (own.0 (equal e.entry.client c is)) rest
      by false is rest = without is rest

-- where its packet has its number, the client has an entry of its present item behind its answered ones
pub record OnesOf (plan : Plan) (s : State) (h : Holds plan s) (c : ℕ) : Type 0 where
  pub waits : (client_at s c).phase ≡ Waiting → IsNumbered (desk_at h.now c) → seqs_of c s.history ≡ seqs_of c (answered_ones s.history) ++ (client_at s c).seq ∷ []
  pub others : ((client_at s c).phase ≡ Waiting → IsNumbered (desk_at h.now c) → ⊥) → seqs_of c s.history ≡ seqs_of c (answered_ones s.history)

pub ones_of : (plan : Plan) (s : State) (h : Holds plan s) (c : ℕ) → OnesOf plan s h c
ones_of plan s h c = by (parted x (desk_at h.now c) c s.history h.ties.sorted (own_entries plan s h c))
  where
    x : ClientState
    x = client_at s c

    there : (desk : Desk) → desk_at h.now c ≡ desk → IsNumbered desk → FitsDesk plan s.history c x desk → AllByRecursion (λ e. e.entry.client ≡ c → IsSome e.pairs) s.history → ⊥
    there Vacant is n fits all = n
    there (Posted p) is n fits all = n
    there (Entered k) is n fits all = contains s.history all fits.1
      where
        contains : (l : History) → AllByRecursion (λ e. e.entry.client ≡ c → IsSome e.pairs) l → Contains l (pending_entry c x (k + 1)) → ⊥
        contains l every at = found l at.0 every at.1 at.2
          where
            found : (l : History) (i : ℕ) → AllByRecursion (λ e. e.entry.client ≡ c → IsSome e.pairs) l → i < length l → get_or l i (pending_entry c x (k + 1)) ≡ pending_entry c x (k + 1) → ⊥
            found [] i every lt e = absurd (omega (arith, lt))
            found (g ∷ l) zero every lt e = nothing (ap (λ (f : HistoryEntry). f.pairs) e) (every.0 (ap (λ (f : HistoryEntry). f.entry.client) e))
              where
                nothing : {o : Option (List Pair)} → o ≡ None → IsSome o → ⊥
                nothing n i = let wrong = subst IsSome n i in cc
            found (g ∷ l) (suc i) every lt e = found l i every.1 (omega (arith, lt)) e

    by : Parted x (desk_at h.now c) c s.history → OnesOf plan s h c
    by (inl p) = record { waits = λ w n. absurd (there (desk_at h.now c) refl n (h.ties.under_way c) p.1); others = λ _. p.0 }
    by (inr p) = record { waits = λ _ _. p.0; others = λ n. absurd (n p.1 p.2) }

-- the desk has a number, or not
pub numbered_or_not : (desk : Desk) → IsNumbered desk ⊎ (IsNumbered desk → ⊥)
numbered_or_not Vacant = inr (λ n. n)
numbered_or_not (Posted p) = inr (λ n. n)
numbered_or_not (Entered k) = inl tt

-- where all are answered, the answered ones are all
pub all_answered : (h : History) → AllAnswered h → answered_ones h ≡ h
all_answered [] all = refl
all_answered (e ∷ h) all = by e.pairs refl all.0 (all_answered h all.1)
  where
    by : (o : Option (List Pair)) → e.pairs ≡ o → IsSome o → answered_ones h ≡ h → answered_ones (e ∷ h) ≡ e ∷ h
    by (Some p) is some rest = ap (λ (b : Bool). if b then e ∷ answered_ones h else answered_ones h) (ap is_some is) ∙ ap (λ (l : History). e ∷ l) rest
    by None is some rest = cc

-- the answered ones of the answered ones
pub ones_alone : (h : History) → answered_ones (answered_ones h) ≡ answered_ones h
ones_alone [] = refl
ones_alone (e ∷ h) = by (is_answered e) refl (ones_alone h)
  where
    by : (b : Bool) → is_answered e ≡ b → answered_ones (answered_ones h) ≡ answered_ones h → answered_ones (if b then e ∷ answered_ones h else answered_ones h) ≡ (if b then e ∷ answered_ones h else answered_ones h)
    by true is rest = ap (λ (t : Bool). if t then e ∷ answered_ones (answered_ones h) else answered_ones (answered_ones h)) is ∙ ap (λ (l : History). e ∷ l) rest
    by false is rest = rest

-- recovery answers nothing
pub ones_recovered : (plan : Plan) (s : State) (order : List Task) → answered_ones (recovered plan s order).history ≡ answered_ones s.history
unfolding recovered
ones_recovered plan s order = answered_filled 1 order s.history
