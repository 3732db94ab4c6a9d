-- Answered entries stand as they are.
use Rattle.std.proofs.Common.{◌≡◌, ℕ, zero, suc, ◌+◌, ◌<◌, Bool, true, false, List, [], ◌∷◌, ◌++◌, length, get_or, slice_get, is_some, Option, Some, None, IsSome, Contains, refl, sym, ap, subst, ◌∙◌, arith, if◌then◌else◌, is_lt}
use Rattle.txn_model.specs.declared.pairs.Pair.{Pair}
use Rattle.txn_model.specs.declared.stamp.Stamp.{Stamp}
use Rattle.history_model.specs.History.{HistoryEntry, History, entry_cmp, with_entry}
use Rattle.placement_model.specs.Placements.{Task}
use Rattle.switch_model.specs.Flight.{flight_at, is_done}
use Rattle.switch_model.specs.Switch as machine
use Rattle.switch_model.specs.Switch.{Switch, Answer, Desk, Vacant, Posted, Entered, desk_at, next_number, answer_on, answer_of}
use Rattle.catalogue.specs.Plan.{Plan, hot_cells}
use Rattle.catalogue.specs.declared.actor.Actor.{Actor}
use Rattle.fabric_model.specs.Carried.{carried, AreCarriedBy, pending_entry, FitsDesk}
use Rattle.fabric_model.specs.Holds.{Holds}
use Rattle.fabric_model.specs.Laws.{HasEntry, AnswersStand}
use Rattle.fabric_model.specs.Recovery.{filled}
use Rattle.fabric_model.specs.State.{State, client_at, answered_ones}
use Rattle.fabric_model.specs.Step.{lost, granted, refused, released, decided, logged, posted, taken, installed, switched, entered, behind_entry, recovered, with_reply, step}
use Rattle.fabric_model.proofs.Among.{in_at, at_in}
use Rattle.fabric_model.proofs.Assembled.{filled_keeps}
use Rattle.fabric_model.proofs.CarriedLaws.{Unanswered, with_reply-split}
use Rattle.fabric_model.proofs.MoveKinds.{Move, Loses, Grants, Refuses, Releases, Decides, Logs, Posts, Takes, Installs, Moved, ByClient, AtPort, AtStage, Recovers, move_of}
use Rattle.fabric_model.proofs.MovesLeft.{same_switch}
use Rattle.fabric_model.proofs.Numbers.{pending_at}
use Rattle.fabric_model.proofs.Present.{reply_to}

pub all_stand : (before after : History) → ((k : ℕ) (e : HistoryEntry) → slice_get before k ≡ Some e → IsSome e.pairs → HasEntry after e) → AnswersStand before after
all_stand [] after each = tt
all_stand (e ∷ h) after each = (each 0 e refl, all_stand h after (λ k f is some. each (suc k) f is some))

-- where the history stays
same_stands : (before after : History) → after ≡ before → AnswersStand before after
same_stands before after same = all_stand before after (λ k e is some. (k, ap (λ (h : History). slice_get h k) same ∙ is))

-- where an entry comes in
pub still_there : (e f : HistoryEntry) (h : History) (k : ℕ) → slice_get h k ≡ Some f → HasEntry (with_entry e h) f
still_there e f [] k is = cc
still_there e f (g ∷ h) k is = by (is_lt (entry_cmp e.entry g.entry)) k is (λ i at. still_there e f h i at)
  where
    by : (b : Bool) (j : ℕ) → slice_get (g ∷ h) j ≡ Some f → ((i : ℕ) → slice_get h i ≡ Some f → HasEntry (with_entry e h) f) → HasEntry (if b then e ∷ g ∷ h else g ∷ with_entry e h) f
    by true j at rest = (suc j, at)
    by false zero at rest = (0, at)
    by false (suc j) at rest = let r = rest j at in (suc r.0, r.1)

more_stands : (e : HistoryEntry) (before after : History) → after ≡ with_entry e before → AnswersStand before after
more_stands e before after is = all_stand before after (λ k f at some. subst (λ (h : History). HasEntry h f) (sym is) (still_there e f before k at))

-- where an unanswered one is answered
others_there : (a : History) (x y : HistoryEntry) (b : History) (k : ℕ) (e : HistoryEntry) → x.pairs ≡ None → slice_get (a ++ x ∷ b) k ≡ Some e → IsSome e.pairs → HasEntry (a ++ y ∷ b) e
others_there [] x y b zero e none is some = let same : x ≡ e = cc in absurd (clash (sym (ap (λ (f : HistoryEntry). f.pairs) same) ∙ none) some)
  where
    clash : {o : Option (List Pair)} → o ≡ None → IsSome o → ⊥
    clash n h = let wrong = subst IsSome n h in cc
others_there [] x y b (suc k) e none is some = (suc k, is)
others_there (f ∷ a) x y b zero e none is some = (0, is)
others_there (f ∷ a) x y b (suc k) e none is some = let r = others_there a x y b k e none is some in (suc r.0, r.1)

reply_stands : (number : ℕ) (reply : List Pair) (before after : History) → Unanswered number before → after ≡ with_reply number reply before → AnswersStand before after
reply_stands number reply before after at is = all_stand before after (λ k e there some.
    subst (λ (h : History). HasEntry h e) (sym (is ∙ with_reply-split number reply before at))
    (others_there at.before at.entry (record at.entry { pairs = Some reply }) at.behind k e at.none (ap (λ (h : History). slice_get h k) (sym at.whole) ∙ there) some))

-- the parts before and behind an element
pub record Parts (h : History) (e : HistoryEntry) : Type 0 where
  pub before : History
  pub behind : History
  pub whole : h ≡ before ++ e ∷ behind

pub parts_at : (h : History) (e : HistoryEntry) (k : ℕ) → k < length h → get_or h k e ≡ e → Parts h e
parts_at [] e k lt is = absurd (omega (arith, lt))
parts_at (f ∷ h) e zero lt is = record { before = []; behind = h; whole = ap (λ (g : HistoryEntry). g ∷ h) is }
parts_at (f ∷ h) e (suc k) lt is = let rest = parts_at h e k (omega (arith, lt)) is in record { before = f ∷ rest.before; behind = rest.behind; whole = ap (λ (l : History). f ∷ l) rest.whole }

-- an answer is for the packet on the desk, whose entry is unanswered
answer_number : (plan : Plan) (s : State) (h : Holds plan s) (c : ℕ) (answer : Answer) → answer_of h.now c ≡ Some answer → Unanswered answer.number s.history
answer_number plan s h c answer has = by (desk_at h.now c) refl has (h.ties.under_way c)
  where
    from_some : {a b : Answer} → Some a ≡ Some b → a ≡ b
    from_some e = cc

    number_of : (k : ℕ) (b : Bool) → (if b then Some (record { number = k + 1; pairs = (flight_at h.now.flights k).pairs }) else None) ≡ Some answer → k + 1 ≡ answer.number
    number_of k true e = ap (λ (a : Answer). a.number) (from_some e)
    number_of k false e = cc

    split : (k : ℕ) → Contains s.history (pending_entry c (client_at s c) (k + 1)) → Unanswered (k + 1) s.history
    split k there =
        let e = pending_entry c (client_at s c) (k + 1) in
        let parts = parts_at s.history e there.0 there.1 there.2 in
        let found = pending_at plan (client_at s) (desk_at h.now) (hot_cells plan) parts.before e parts.behind (machine.entered h.now) refl refl
        (subst (λ (l : History). AreCarriedBy plan (client_at s) (desk_at h.now) 0 (hot_cells plan) (carried l) (machine.entered h.now)) parts.whole h.ties.carried_ones) in
        subst (λ (l : History). Unanswered (k + 1) l) (sym parts.whole)
        (subst (λ (n : ℕ). Unanswered n (parts.before ++ e ∷ parts.behind)) (sym (ap (λ (t : Stamp). t.number) found.split.number_is)) found.split)

    by : (desk : Desk) → desk_at h.now c ≡ desk → answer_on h.now.flights desk ≡ Some answer → FitsDesk plan s.history c (client_at s c) desk → Unanswered answer.number s.history
    by Vacant at e fits = cc
    by (Posted p) at e fits = cc
    by (Entered k) at e fits = subst (λ (n : ℕ). Unanswered n s.history) (number_of k (is_done (flight_at h.now.flights k)) e) (split k fits.1)

-- where the unanswered ones leave
pub ones_stand : (h : History) (k : ℕ) (e : HistoryEntry) → slice_get h k ≡ Some e → IsSome e.pairs → HasEntry (answered_ones h) e
ones_stand [] k e is some = cc
ones_stand (f ∷ h) zero e is some = let same : f ≡ e = cc in subst (λ (b : Bool). HasEntry (if b then f ∷ answered_ones h else answered_ones h) e) (sym (ap (λ (g : HistoryEntry). is_some g.pairs) same ∙ tested e.pairs some)) (0, is)
  where
    tested : (o : Option (List Pair)) → IsSome o → is_some o ≡ true
    tested (Some p) i = refl
    tested None i = cc
ones_stand (f ∷ h) (suc k) e is some = by (is_some f.pairs) (ones_stand h k e is some)
  where
    by : (b : Bool) → HasEntry (answered_ones h) e → HasEntry (if b then f ∷ answered_ones h else answered_ones h) e
    by true there = (suc there.0, there.1)
    by false there = there

-- where entries come in for open intents
filled_stand : (order : List Task) (h : History) → AnswersStand h (filled order h)
filled_stand order h = all_stand h (filled order h) (λ k e is some. at_in (filled order h) e (filled_keeps 1 order h e (in_at h k e is)))

stands_by_client : (plan : Plan) (s : State) (c : ℕ) (after : State) → ((now : Switch) → s.switch ≡ Some now → Holds plan s) → Move plan s c after → AnswersStand s.history after.history
unfolding lost granted refused released decided logged posted taken installed
stands_by_client plan s c after h (Loses now phase item up is) = subst (AnswersStand s.history) (sym (ap (λ (z : State). z.history) is)) (all_stand s.history (answered_ones s.history) (ones_stand s.history))
stands_by_client plan s c after h (Grants op asks next free is) = same_stands s.history after.history (ap (λ (z : State). z.history) is)
stands_by_client plan s c after h (Refuses op by asks next held is) = same_stands s.history after.history (ap (λ (z : State). z.history) is)
stands_by_client plan s c after h (Releases phase is) = same_stands s.history after.history (ap (λ (z : State). z.history) is)
stands_by_client plan s c after h (Decides asks next cold some is) = more_stands _ s.history after.history (ap (λ (z : State). z.history) is)
stands_by_client plan s c after h (Logs asks next hot is) = same_stands s.history after.history (ap (λ (z : State). z.history) is)
stands_by_client plan s c after h (Posts now next phase up to is) = same_stands s.history after.history (ap (λ (z : State). z.history) is)
stands_by_client plan s c after h (Takes now next answer phase up has to is) =
    let here = h now up in
    reply_stands answer.number (reply_to plan c (client_at s c) answer) s.history after.history (answer_number plan s here c answer (subst (λ (n : Switch). answer_of n c ≡ Some answer) (same_switch up here.up) has)) (ap (λ (z : State). z.history) is)
stands_by_client plan s c after h (Installs p phase at is) = same_stands s.history after.history (ap (λ (z : State). z.history) is)

stands_at_port : (s : State) (c : ℕ) (desk : Desk) (number : ℕ) (next : Switch) → AnswersStand s.history (behind_entry s c desk number next).history
unfolding entered switched
stands_at_port s c Vacant number next = same_stands s.history s.history refl
stands_at_port s c (Posted p) number next = more_stands _ s.history _ refl
stands_at_port s c (Entered k) number next = same_stands s.history s.history refl

stands_at_stage : (s : State) (next : Switch) → AnswersStand s.history (switched s next).history
unfolding switched
stands_at_stage s next = same_stands s.history s.history refl

stands_by_recovery : (plan : Plan) (s : State) (order : List Task) → AnswersStand s.history (recovered plan s order).history
unfolding recovered
stands_by_recovery plan s order = filled_stand order s.history

stands_behind : (plan : Plan) (s after : State) (actor : Actor) → ((now : Switch) → s.switch ≡ Some now → Holds plan s) → Moved plan s after actor → AnswersStand s.history after.history
stands_behind plan s after actor h (ByClient c within move) = stands_by_client plan s c after h move
stands_behind plan s after actor h (AtPort c now next up to same) = subst (λ (z : State). AnswersStand s.history z.history) (sym same) (stands_at_port s c (desk_at now c) (next_number now) next)
stands_behind plan s after actor h (AtStage x now next up to same) = subst (λ (z : State). AnswersStand s.history z.history) (sym same) (stands_at_stage s next)
stands_behind plan s after actor h (Recovers order down found same) = subst (λ (z : State). AnswersStand s.history z.history) (sym same) (stands_by_recovery plan s order)

pub answers_stand : (plan : Plan) (s after : State) (actor : Actor) → ((now : Switch) → s.switch ≡ Some now → Holds plan s) → step plan s actor ≡ Some after → AnswersStand s.history after.history
answers_stand plan s after actor h is = stands_behind plan s after actor h (move_of plan s actor after is)
