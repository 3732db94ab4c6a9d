-- Every pending entry can become answered by the pairs of its packet's replay: then the history is answered as a whole.
use Rattle.std.proofs.Common.{◌≡◌, ◌≢◌, ◌⊎◌, ℕ, ◌+◌, ◌==◌, Bool, true, false, List, [], ◌∷◌, ◌++◌, append_assoc, Option, Some, None, IsSome, inl, inr, refl, sym, ap, subst, ◌∙◌, arith, if◌then◌else◌}
use Rattle.std.specs.List.{AllByRecursion}
use Rattle.txn_model.specs.Places.{Places}
use Rattle.txn_model.specs.declared.pairs.Pair.{Pair}
use Rattle.history_model.specs.History.{HistoryEntry, History, IsInStampOrder, AllAnswered}
use Rattle.switch_packet.specs.Packets.{PlainPacket}
use Rattle.switch_packet.specs.Replay.{replay}
use Rattle.switch_model.specs.Switch.{Desk}
use Rattle.warm_split.specs.Joined.{joined}
use Rattle.warm_split.specs.Laws.{IsOneVisit}
use Rattle.catalogue.specs.Plan.{Plan, script_at}
use Rattle.core_model.specs.declared.phase.Phase.TheVariants.{Installing}
use Rattle.core_model.specs.Facts.{Clients, script_of_entry}
use Rattle.core_model.specs.State.{ClientState, Store}
use Rattle.core_model.proofs.Decided.{IsDistinct}
use Rattle.core_model.proofs.Fewer.{OthersStay}
use Rattle.core_model.proofs.StepsOf.{all_append}
use Rattle.fabric_model.specs.Carried.{is_carried, carried, AreCarriedBy}
use Rattle.fabric_model.specs.ColdFacts.{ColdFacts}
use Rattle.fabric_model.specs.Intents.{values_of}
use Rattle.fabric_model.specs.State.{answered_ones}
use Rattle.fabric_model.proofs.AnswerOne.{sorted-with_reply, cold_now, carried_now}
use Rattle.fabric_model.proofs.CarriedLaws.{with_reply-split}
use Rattle.fabric_model.proofs.Numbers.{pending_at}

-- the same entries, and the pairs of those that are answered
abbrev pub Fills : History → History → Type 0
Fills [] [] = Unit {0}
Fills [] (f ∷ whole) = ⊥
Fills (e ∷ h) [] = ⊥
Fills (e ∷ h) (f ∷ whole) = (f.entry ≡ e.entry) × ((e.pairs ≡ None) ⊎ (f.pairs ≡ e.pairs)) × Fills h whole

fills_itself : (h : History) → Fills h h
fills_itself [] = tt
fills_itself (e ∷ h) = (refl, inr refl, fills_itself h)

fills_trans : (a b c : History) → Fills a b → Fills b c → Fills a c
fills_trans [] [] [] p q = tt
fills_trans [] [] (z ∷ c) p q = absurd q
fills_trans [] (y ∷ b) c p q = absurd p
fills_trans (x ∷ a) [] c p q = absurd p
fills_trans (x ∷ a) (y ∷ b) [] p q = absurd q
fills_trans (x ∷ a) (y ∷ b) (z ∷ c) p q = (q.0 ∙ p.0, by p.1 q.1, fills_trans a b c p.2 q.2)
  where
    by : (x.pairs ≡ None) ⊎ (y.pairs ≡ x.pairs) → (y.pairs ≡ None) ⊎ (z.pairs ≡ y.pairs) → (x.pairs ≡ None) ⊎ (z.pairs ≡ x.pairs)
    by (inl none) r = inl none
    by (inr same) (inl none) = inl (sym same ∙ none)
    by (inr same) (inr again) = inr (again ∙ same)

fills_one : (before : History) (e : HistoryEntry) (pairs : Option (List Pair)) (behind : History) → e.pairs ≡ None → Fills (before ++ e ∷ behind) (before ++ record e { pairs = pairs } ∷ behind)
fills_one [] e pairs behind none = (refl, inl none, fills_itself behind)
fills_one (f ∷ before) e pairs behind none = (refl, inr refl, fills_one before e pairs behind none)

pub record Completed (plan : Plan) (store : Store) (ps : List PlainPacket) (first : Places) (h : History) : Type 0 where
  pub whole : History
  pub fills : Fills h whole
  pub answered : AllAnswered whole
  pub at : Clients
  pub desks : ℕ → Desk
  pub cold : ColdFacts plan at store (answered_ones whole)
  pub all_carried : AreCarriedBy plan at desks 0 first (carried whole) ps

-- an unanswered entry is that of a transaction with a packet, whose script needs one visit of the switch
abbrev pub IsOpenWell : Plan → HistoryEntry → Type 0
IsOpenWell plan e = e.pairs ≡ None → (is_carried e ≡ true) × IsOneVisit plan.layout (script_of_entry plan e)

abbrev pub AreOpenWell : Plan → History → Type 0
AreOpenWell plan h = AllByRecursion (IsOpenWell plan) h

some_none : {T : Type 0} {a : T} → Some a ≡ None → ⊥
some_none w = cc

module _ (plan : Plan) (store : Store) (ps : List PlainPacket) (first : Places) (distinct : (c seq : ℕ) → IsDistinct (script_at plan c seq)) where
  -- the client that is answered
  abbrev answered_client : Clients → HistoryEntry → ℕ → List Pair → ClientState
  answered_client at e k hot = record (at e.entry.client) {
    phase = Installing;
    last = record { number = k + 1; sub = 0 };
    reply = joined plan.layout (script_of_entry plan e) (values_of (at e.entry.client).noted) hot;
  }

  abbrev changed : Clients → ℕ → ClientState → Clients
  changed at c y d = if d == c then y else at d

  itself : (c : ℕ) → (c == c) ≡ true
  itself c = grind arith

  another : (d c : ℕ) → d ≢ c → (d == c) ≡ false
  another d c n = grind arith

  pub complete : (before behind : History) (at : Clients) (desks : ℕ → Desk) → AllAnswered before → AreOpenWell plan behind → ColdFacts plan at store (answered_ones (before ++ behind)) → IsInStampOrder (before ++ behind)
      → AreCarriedBy plan at desks 0 first (carried (before ++ behind)) ps → Completed plan store ps first (before ++ behind)
  complete before [] at desks answered hosts cold sorted all =
      record { whole = before ++ []; fills = fills_itself (before ++ []); answered = all_append (λ e. IsSome e.pairs) before [] answered tt; at = at; desks = desks; cold = cold; all_carried = all }
  complete before (e ∷ behind) at desks answered hosts cold sorted all = by e.pairs refl (complete (before ++ e ∷ []) behind) (λ f. complete (before ++ f ∷ []) behind)
    where
      longer : (f : HistoryEntry) → (before ++ f ∷ []) ++ behind ≡ before ++ f ∷ behind
      longer f = append_assoc before (f ∷ []) behind

      Rest : HistoryEntry → Type 0
      Rest f = (at : Clients) (desks : ℕ → Desk) → AllAnswered (before ++ f ∷ []) → AreOpenWell plan behind → ColdFacts plan at store (answered_ones ((before ++ f ∷ []) ++ behind)) → IsInStampOrder ((before ++ f ∷ []) ++ behind)
          → AreCarriedBy plan at desks 0 first (carried ((before ++ f ∷ []) ++ behind)) ps → Completed plan store ps first ((before ++ f ∷ []) ++ behind)

      with_answered : (f : HistoryEntry) → IsSome f.pairs → AllAnswered (before ++ f ∷ [])
      with_answered f is = all_append (λ g. IsSome g.pairs) before (f ∷ []) answered (is, tt)

      go_on : (f : HistoryEntry) → IsSome f.pairs → (new : Clients) (desks_new : ℕ → Desk) → ColdFacts plan new store (answered_ones (before ++ f ∷ behind)) → IsInStampOrder (before ++ f ∷ behind)
          → AreCarriedBy plan new desks_new 0 first (carried (before ++ f ∷ behind)) ps → Rest f → Completed plan store ps first (before ++ f ∷ behind)
      go_on f is new desks_new c s a rest = subst (Completed plan store ps first) (longer f)
          (rest new desks_new (with_answered f is) hosts.1 (subst (λ (l : History). ColdFacts plan new store (answered_ones l)) (sym (longer f)) c) (subst IsInStampOrder (sym (longer f)) s)
          (subst (λ (l : History). AreCarriedBy plan new desks_new 0 first (carried l) ps) (sym (longer f)) a))

      answering : e.pairs ≡ None → ((f : HistoryEntry) → Rest f) → Completed plan store ps first (before ++ e ∷ behind)
      answering none rest =
          let pend = pending_at plan at desks first before e behind ps (hosts.0 none).0 none all in
          let hot = (replay pend.packet pend.registers).pairs in
          let y = answered_client at e pend.k hot in
          let new = changed at e.entry.client y in
          let others : OthersStay e.entry.client at new = λ d n. ap (λ (b : Bool). if b then y else at d) (another d e.entry.client n) in
          let mine : new e.entry.client ≡ y = ap (λ (b : Bool). if b then y else at e.entry.client) (itself e.entry.client) in
          let visit = (hosts.0 none).1 in
          let now = with_reply-split (pend.k + 1) y.reply (before ++ e ∷ behind) pend.split in
          let f = record e { pairs = Some y.reply } in
          let c = subst (λ (l : History). ColdFacts plan new store (answered_ones l)) now
          (cold_now plan at new desks desks store (before ++ e ∷ behind) ps first (λ d. distinct d (at d).seq) cold sorted all pend visit hot pend.pairs others (λ d n. refl) mine) in
          let a = subst (λ (l : History). AreCarriedBy plan new desks 0 first (carried l) ps) now
          (carried_now plan at new desks desks store (before ++ e ∷ behind) ps first (λ d. distinct d (at d).seq) cold sorted all pend visit hot pend.pairs others (λ d n. refl) mine) in
          let s = subst IsInStampOrder now (sorted-with_reply (pend.k + 1) y.reply (before ++ e ∷ behind) sorted) in
          let done = go_on f refl new desks c s a (rest f) in
          record {
            whole = done.whole;
            fills = fills_trans (before ++ e ∷ behind) (before ++ f ∷ behind) done.whole (fills_one before e (Some y.reply) behind none) done.fills;
            answered = done.answered;
            at = done.at;
            desks = done.desks;
            cold = done.cold;
            all_carried = done.all_carried;
          }

      by : (o : Option (List Pair)) → e.pairs ≡ o → Rest e → ((f : HistoryEntry) → Rest f) → Completed plan store ps first (before ++ e ∷ behind)
      by (Some pairs) is rest more = go_on e (subst IsSome (sym is) refl) at desks cold sorted all rest
      by None is rest more = answering is more
