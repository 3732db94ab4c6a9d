-- The numbers of carried entries are those of their places, so no two entries have one.
use Rattle.std.proofs.Common.{◌≡◌, ◌≢◌, ℕ, suc, ◌+◌, ◌<◌, ◌==◌, ◌&&◌, Bool, true, false, List, [], ◌∷◌, ◌++◌, length, slice_get, Some, None, refl, ap, subst, ◌∙◌, arith, if◌then◌else◌}
use Rattle.std.specs.List.{AllByRecursion}
use Rattle.std.proofs.lemmas.Bool.Decides.{nat_tests}
use Rattle.std.proofs.lemmas.List.Elements.{filter-append}
use Rattle.txn_model.specs.Places.{Places}
use Rattle.txn_model.specs.declared.stamp.Stamp.{Stamp}
use Rattle.history_model.specs.History.{HistoryEntry, History}
use Rattle.switch_packet.specs.Packets.{PlainPacket}
use Rattle.switch_packet.specs.Replay.{replay, replay_all}
use Rattle.switch_model.specs.Switch.{Desk}
use Rattle.catalogue.specs.Plan.{Plan}
use Rattle.core_model.specs.Facts.{Clients}
use Rattle.fabric_model.specs.Carried.{is_carried, carried, IsCarriedBy, AreCarriedBy}
use Rattle.fabric_model.proofs.CarriedLaws.{IsOther, Unanswered}

differs : (n : ℕ) (s : Stamp) (k : ℕ) → s ≡ record { number = k; sub = 0 } → k ≢ n → (s.number == n && s.sub == 0) ≡ false
differs n s k is apart = ap (λ (t : Stamp). t.number == n && t.sub == 0) is ∙ by k n apart
  where
    by : (a b : ℕ) → a ≢ b → (a == b && 0 == 0) ≡ false
    by a b ne = grind (arith, nat_tests)

-- entries at the places from k on have other numbers than those before
pub others_from : (plan : Plan) (at : Clients) (desks : ℕ → Desk) (n k : ℕ) (m : Places) (es : History) (ps : List PlainPacket) → n < k + 1 → AreCarriedBy plan at desks k m es ps → AllByRecursion (IsOther n) es
others_from plan at desks n k m [] ps low all = tt
others_from plan at desks n k m (e ∷ es) [] low all = absurd all
others_from plan at desks n k m (e ∷ es) (p ∷ ps) low all =
    (differs n e.entry.stamp (k + 1) all.0.stamp (λ same. absurd (omega (arith, same))), others_from plan at desks n (k + 1) (replay p m).after es ps (omega arith) all.1)

-- one of the carried entries: its packet, the replay at its place, and that no other one has its number
pub record Found (plan : Plan) (at : Clients) (desks : ℕ → Desk) (k : ℕ) (m : Places) (before : History) (e : HistoryEntry) (behind : History) (ps : List PlainPacket) : Type 0 where
  pub packet : PlainPacket
  pub registers : Places
  pub there : slice_get ps (length before) ≡ Some packet
  pub pairs : slice_get (replay_all ps m).pairs (length before) ≡ Some (replay packet registers).pairs
  pub by : IsCarriedBy plan at desks (k + length before) registers e packet
  pub others_before : AllByRecursion (IsOther (k + length before + 1)) before
  pub others_behind : AllByRecursion (IsOther (k + length before + 1)) behind

pub found : (plan : Plan) (at : Clients) (desks : ℕ → Desk) (k : ℕ) (m : Places) (before : History) (e : HistoryEntry) (behind : History) (ps : List PlainPacket)
    → AreCarriedBy plan at desks k m (before ++ e ∷ behind) ps → Found plan at desks k m before e behind ps
unfolding replay_all
found plan at desks k m [] e behind [] all = absurd all
found plan at desks k m [] e behind (p ∷ ps) all =
    let here : k ≡ k + 0 = omega arith in
    record {
      packet = p;
      registers = m;
      there = refl;
      pairs = refl;
      by = subst (λ (j : ℕ). IsCarriedBy plan at desks j m e p) here all.0;
      others_before = tt;
      others_behind = others_from plan at desks (k + 0 + 1) (k + 1) (replay p m).after behind ps (omega arith) all.1;
    }
found plan at desks k m (f ∷ before) e behind [] all = absurd all
found plan at desks k m (f ∷ before) e behind (p ∷ ps) all =
    let rest = found plan at desks (k + 1) (replay p m).after before e behind ps all.1 in
    let next : (k + 1) + length before ≡ k + suc (length before) = omega arith in
    record {
      packet = rest.packet;
      registers = rest.registers;
      there = rest.there;
      pairs = rest.pairs;
      by = subst (λ (j : ℕ). IsCarriedBy plan at desks j rest.registers e rest.packet) next rest.by;
      others_before = (differs (k + suc (length before) + 1) f.entry.stamp (k + 1) all.0.stamp (λ same. absurd (omega (arith, same))), subst (λ (j : ℕ). AllByRecursion (IsOther (j + 1)) before) next rest.others_before);
      others_behind = subst (λ (j : ℕ). AllByRecursion (IsOther (j + 1)) behind) next rest.others_behind;
    }

-- what holds of the carried entries of a list holds of all, where the others have it anyway
pub all_others : (n : ℕ) (h : History) → AllByRecursion (IsOther n) (carried h) → AllByRecursion (IsOther n) h
all_others n [] all = tt
all_others n (e ∷ h) all = by (is_carried e) refl all (all_others n h)
  where
    host : (a : ℕ) → (a == 0) ≡ false → (e.entry.stamp.number == n && a == 0) ≡ false
    host a not = ap (λ (b : Bool). e.entry.stamp.number == n && b) not ∙ never (e.entry.stamp.number == n)
      where
        never : (b : Bool) → (b && false) ≡ false
        never true = refl
        never false = refl

    by : (b : Bool) → is_carried e ≡ b → AllByRecursion (IsOther n) (if b then e ∷ carried h else carried h) → (AllByRecursion (IsOther n) (carried h) → AllByRecursion (IsOther n) h) → IsOther n e × AllByRecursion (IsOther n) h
    by true is l rest = (l.0, rest l.1)
    by false is l rest = (host e.entry.stamp.sub is, rest l)

pub front : (a : History) (x : HistoryEntry) (b : History) → slice_get (a ++ x ∷ b) (length a) ≡ Some x
front [] x b = refl
front (y ∷ a) x b = front a x b

-- an unanswered entry of a history whose carried entries have their packets
pub record Pending (plan : Plan) (at : Clients) (desks : ℕ → Desk) (m : Places) (h : History) (ps : List PlainPacket) : Type 0 where
  pub k : ℕ
  pub split : Unanswered (k + 1) h
  pub entry_there : slice_get (carried h) k ≡ Some split.entry
  pub packet : PlainPacket
  pub registers : Places
  pub there : slice_get ps k ≡ Some packet
  pub pairs : slice_get (replay_all ps m).pairs k ≡ Some (replay packet registers).pairs
  pub by : IsCarriedBy plan at desks k registers split.entry packet

abbrev pub pending_at : (plan : Plan) (at : Clients) (desks : ℕ → Desk) (m : Places) (before : History) (e : HistoryEntry) (behind : History) (ps : List PlainPacket)
    → is_carried e ≡ true → e.pairs ≡ None → AreCarriedBy plan at desks 0 m (carried (before ++ e ∷ behind)) ps → Pending plan at desks m (before ++ e ∷ behind) ps
pending_at plan at desks m before e behind ps is none all =
    let parts : carried (before ++ e ∷ behind) ≡ carried before ++ e ∷ carried behind =
    filter-append is_carried before (e ∷ behind) ∙ ap (λ (b : Bool). carried before ++ (if b then e ∷ carried behind else carried behind)) is in
    let f = found plan at desks 0 m (carried before) e (carried behind) ps (subst (λ (l : History). AreCarriedBy plan at desks 0 m l ps) parts all) in
    let here : 0 + length (carried before) ≡ length (carried before) = omega arith in
    let by = subst (λ (j : ℕ). IsCarriedBy plan at desks j f.registers e f.packet) here f.by in
    record {
      k = length (carried before);
      split = record {
        before = before;
        entry = e;
        behind = behind;
        whole = refl;
        number_is = by.stamp;
        none = none;
        others_before = all_others (length (carried before) + 1) before (subst (λ (j : ℕ). AllByRecursion (IsOther (j + 1)) (carried before)) here f.others_before);
        others_behind = all_others (length (carried before) + 1) behind (subst (λ (j : ℕ). AllByRecursion (IsOther (j + 1)) (carried behind)) here f.others_behind);
      };
      entry_there = ap (λ (l : History). slice_get l (length (carried before))) parts ∙ front (carried before) e (carried behind);
      packet = f.packet;
      registers = f.registers;
      there = f.there;
      pairs = f.pairs;
      by = by;
    }
