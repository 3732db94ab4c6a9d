-- What a client's move leaves of its moves, and what moves at the switch leave.
use Rattle.std.proofs.Common.{◌≡◌, ◌≢◌, ℕ, zero, suc, ◌+◌, ◌-◌, ◌*◌, ◌<◌, ◌≤◌, ◌==◌, nat_le, Bool, true, false, List, [], ◌∷◌, ◌++◌, length, length-append, length-take, take, drop, set, slice_get, unwrap_or, Option, Some, None, inl, inr, refl, sym, ap, subst, ◌∙◌, arith, if◌then◌else◌}
use Rattle.std.specs.Option.{option_and_then}
use Rattle.std.proofs.lemmas.Bool.Decides.{nat_tests}
use Rattle.std.proofs.lemmas.Option.{slice_get_within}
use Rattle.txn_model.specs.declared.op.Op.{Op}
use Rattle.txn_model.specs.declared.pairs.Pair.{Pair}
use Rattle.txn_model.specs.declared.stamp.Seen.{Seen}
use Rattle.txn_model.specs.declared.stamp.Stamp.{Stamp}
use Rattle.host_store.specs.Store.{seen_at}
use Rattle.history_model.specs.Chain.{Step}
use Rattle.switch_model.specs.Event as switch
use Rattle.switch_model.specs.Flight.{Flight}
use Rattle.switch_model.specs.Laws.{left, left_on}
use Rattle.switch_model.specs.Switch.{Switch, Desk, Vacant, Posted, Answer, desk_at}
use Rattle.switch_model.proofs.Effects.{DeskBecomes, post_effect, take_effect}
use Rattle.warm_split.specs.Resolved.{packet_from}
use Rattle.catalogue.specs.Plan.{Plan, PlainItem, Run, Lose, items_of, item_of, script_in}
use Rattle.core_model.specs.declared.phase.Phase.{Phase}
use Rattle.core_model.specs.declared.phase.Phase.TheVariants.{Ready, Locking, Aborting, Logged, Waiting, Installing, Finished}
use Rattle.core_model.specs.Asking.{IsAsking}
use Rattle.core_model.specs.Facts.{steps_now}
use Rattle.core_model.specs.Locks.{cold_ops}
use Rattle.core_model.specs.State.{ClientState, script_now}
use Rattle.core_model.specs.Step.{aborting, try_ended, next_item, installed_one}
use Rattle.core_model.proofs.Stuck.{IsPresent, asking_open}
use Rattle.fabric_model.specs.Bound.{lock_count, pass_count, way_of, commit_bound, script_bound, item_bound, items_bound, tries_left, recovery_of, way_left, item_left, client_left, recovery_left}
use Rattle.fabric_model.specs.ColdFacts.{FitsPhase}
use Rattle.fabric_model.specs.Intents.{packet_now}
use Rattle.fabric_model.specs.State.{State, client_at}
use Rattle.fabric_model.specs.Step.{lost, granted, refused, released, decided, logged, posted, taken, installed, has_hot, next_op, replied}
use Rattle.fabric_model.proofs.FromCore.{fewer_tries, last_try, dropped}
use Rattle.fabric_model.proofs.MoveKinds.{Move, Loses, Grants, Refuses, Releases, Decides, Logs, Posts, Takes, Installs}
use Rattle.fabric_model.proofs.Present.{reply_to, stamp_of}

-- ---- tries

-- behind the last lock there is a move at least
commits : (plan : Plan) (ops : List Op) → 1 ≤ commit_bound plan ops
commits plan ops = by (has_hot plan ops)
  where
    by : (b : Bool) → 1 ≤ (if b then 3 + way_of plan ops else 1)
    by true = omega arith
    by false = omega arith

-- a try with m locks, so many more behind it, and a commit of so many moves: the last try takes as many as it does
whole_try : (n m commit t : ℕ) → t ≡ n * (2 * m - 1) + (2 * m + commit) → 2 * m + commit ≤ t
whole_try n m commit t is = omega (arith, is, last_try n (2 * m - 1) (2 * m + commit))

last_refused : (n m k commit t : ℕ) → k < m → 1 ≤ commit → t ≡ n * (2 * m - 1) + (2 * m + commit) → suc (k + 0) ≤ t - k
last_refused n m k commit t lt one is = omega (arith, is, last_try n (2 * m - 1) (2 * m + commit), lt, one)

one_refused : (n m k commit t : ℕ) → k < m → t ≡ suc n * (2 * m - 1) + (2 * m + commit) → suc (k + (n * (2 * m - 1) + (2 * m + commit))) ≤ t - k
one_refused n m k commit t lt is = omega (arith, is, fewer_tries n (2 * m - 1) (2 * m + commit), lt)

some_left : (plan : Plan) (r : ℕ) (ops : List Op) → r < plan.tries → tries_left plan r ops ≡ script_bound plan (plan.tries - 1 - r) ops
some_left plan r ops lt = ap (λ (b : Bool). if b then 0 else script_bound plan (plan.tries - 1 - r) ops) (less r plan.tries lt)
  where
    less : (a n : ℕ) → a < n → (a == n) ≡ false
    less a n l = grind (arith, nat_tests)

one_try : (plan : Plan) (r : ℕ) (ops : List Op) → r < plan.tries → 2 * lock_count plan ops + commit_bound plan ops ≤ tries_left plan r ops
one_try plan r ops lt = whole_try (plan.tries - 1 - r) (lock_count plan ops) (commit_bound plan ops) (tries_left plan r ops) (some_left plan r ops lt)

-- with a lock left to ask for, the tries that are left take more moves than the locks and the tries behind
refused_left : (plan : Plan) (r : ℕ) (ops : List Op) (k : ℕ) → r < plan.tries → k < lock_count plan ops → suc (k + tries_left plan (r + 1) ops) ≤ tries_left plan r ops - k
refused_left plan r ops k lt room = by (r + 1 == plan.tries) refl
  where
    below : (a n : ℕ) → a < n → (a + 1 == n) ≡ false → a + 1 < n
    below a n l e = grind (arith, nat_tests)

    by : (b : Bool) → (r + 1 == plan.tries) ≡ b → suc (k + (if b then 0 else script_bound plan (plan.tries - 1 - (r + 1)) ops)) ≤ tries_left plan r ops - k
    by true e = last_refused (plan.tries - 1 - r) (lock_count plan ops) k (commit_bound plan ops) (tries_left plan r ops) room (commits plan ops) (some_left plan r ops lt)
    by false e =
        let more : r + 1 < plan.tries = below r plan.tries lt e in
        one_refused (plan.tries - 1 - (r + 1)) (lock_count plan ops) k (commit_bound plan ops) (tries_left plan r ops) room
        (some_left plan r ops lt ∙ ap (λ (n : ℕ). script_bound plan n ops) {x = plan.tries - 1 - r} {y = suc (plan.tries - 1 - (r + 1))} (omega (arith, more)))

-- ---- items

-- the next item, when it begins, leaves no more than its bound and those behind
pub next_left : (plan : Plan) (now : Option Switch) (c : ℕ) (x : ClientState) → 1 ≤ plan.tries → client_left plan now c (next_item plan c x) ≤ items_bound plan (drop x.seq (items_of plan c))
next_left plan now c x tries = by (nat_le (x.seq + 1) (length (items_of plan c))) refl
  where
    y : ClientState
    y = next_item plan c x

    within : (a b : ℕ) → nat_le (a + 1) b ≡ true → a < b
    within a b t = grind (arith, nat_tests)

    here : (item : PlainItem) → slice_get (items_of plan c) x.seq ≡ Some item → item_of plan c y.seq ≡ Some item
    here item is =
        ap (λ (b : Bool). if b then None else slice_get (items_of plan c) ((x.seq + 1) - 1)) {x = x.seq + 1 == 0} {y = false} (grind (arith, nat_tests))
        ∙ ap (λ (n : ℕ). slice_get (items_of plan c) n) {x = (x.seq + 1) - 1} {y = x.seq} (omega arith)
        ∙ is

    nothing : (n t : ℕ) → t ≡ n * (2 * 0 - 1) + (2 * 0 + 1) → 1 + t ≤ 2
    nothing n t is = omega (arith, is, zeros n)
      where
        zeros : (a : ℕ) → a * (2 * 0 - 1) + (2 * 0 + 1) ≡ 1
        zeros a = grind arith

    begun : (item : PlainItem) → recovery_of (Some item) + tries_left plan 0 (unwrap_or (script_in item) []) ≤ item_bound plan item
    begun (Run ops) = at_most (some_left plan 0 ops (omega (arith, tries)) ∙ ap (λ (n : ℕ). script_bound plan n ops) {x = plan.tries - 1 - 0} {y = plan.tries - 1} (omega arith))
      where
        at_most : {a b : ℕ} → a ≡ b → 0 + a ≤ b
        at_most e = omega (arith, e)
    begun Lose = nothing (plan.tries - 1 - 0) (tries_left plan 0 []) (some_left plan 0 [] (omega (arith, tries)))

    by : (b : Bool) → nat_le (x.seq + 1) (length (items_of plan c)) ≡ b → item_left plan now c y (script_now plan c y) (if b then Ready else Finished) + items_bound plan (drop (x.seq + 1) (items_of plan c)) ≤ items_bound plan (drop x.seq (items_of plan c))
    by true is =
        let at = dropped (items_of plan c) x.seq (within x.seq (length (items_of plan c)) is) in
        let same : drop (suc x.seq) (items_of plan c) ≡ drop (x.seq + 1) (items_of plan c) = ap (λ (n : ℕ). drop n (items_of plan c)) {x = suc x.seq} (omega arith) in
        first (recovery_of (item_of plan c y.seq)) (tries_left plan 0 (script_now plan c y)) (ap (λ (o : Option PlainItem). recovery_of o + tries_left plan 0 (unwrap_or (option_and_then script_in o) [])) (here at.0 at.1)) (begun at.0) (ap (items_bound plan) at.2) (ap (items_bound plan) same)
      where
        first : (d a : ℕ) {b i r p q : ℕ} → d + a ≡ b → b ≤ i → p ≡ i + r → r ≡ q → (d + (a - 0)) + q ≤ p
        first d a e le f g = omega (arith, e, le, f, g)
    by false is = omega (arith, past (items_of plan c) x.seq, ap (λ (n : ℕ). items_bound plan (drop n (items_of plan c))) {x = suc x.seq} {y = x.seq + 1} (omega arith))
      where
        past : (items : List PlainItem) (k : ℕ) → items_bound plan (drop (suc k) items) ≤ items_bound plan (drop k items)
        past [] zero = omega arith
        past [] (suc k) = omega arith
        past (item ∷ items) zero = omega arith
        past (item ∷ items) (suc k) = past items k

-- a script with a lock to take loses no switch
script_runs : (plan : Plan) (c : ℕ) (x : ClientState) → 1 ≤ lock_count plan (script_now plan c x) → recovery_of (item_of plan c x.seq) ≡ 0
script_runs plan c x some = by (item_of plan c x.seq) some
  where
    by : (o : Option PlainItem) → 1 ≤ lock_count plan (unwrap_or (option_and_then script_in o) []) → recovery_of o ≡ 0
    by None one = refl
    by (Some (Run ops)) one = refl
    by (Some Lose) one = absurd (omega (arith, one))

-- a client that ends a try leaves the tries that are left and the items behind
ended_left : (plan : Plan) (now : Option Switch) (c : ℕ) (x : ClientState) → 1 ≤ plan.tries → recovery_of (item_of plan c x.seq) ≡ 0 → client_left plan now c (try_ended plan c x) ≤ tries_left plan (x.refused + 1) (script_now plan c x) + items_bound plan (drop x.seq (items_of plan c))
ended_left plan now c x tries runs = by (x.refused + 1 == plan.tries)
  where
    by : (b : Bool) → client_left plan now c (if b then next_item plan c x else record { phase = Ready; seq = x.seq; refused = x.refused + 1; noted = []; installed = 0; last = x.last; reply = [] })
        ≤ tries_left plan (x.refused + 1) (script_now plan c x) + items_bound plan (drop x.seq (items_of plan c))
    by true = omega (arith, next_left plan now c x tries)
    by false = omega (arith, runs)

aborted_left : (plan : Plan) (now : Option Switch) (c : ℕ) (x : ClientState) (front : List Seen) → 1 ≤ plan.tries → recovery_of (item_of plan c x.seq) ≡ 0
    → client_left plan now c (aborting plan c x front) ≤ length front + tries_left plan (x.refused + 1) (script_now plan c x) + items_bound plan (drop x.seq (items_of plan c))
aborted_left plan now c x [] tries runs = omega (arith, ended_left plan now c x tries runs)
aborted_left plan now c x (seen ∷ others) tries runs = omega arith

asking_left : (plan : Plan) (now : Option Switch) (c : ℕ) (x : ClientState) (ops : List Op) → IsAsking x → tries_left plan x.refused ops - length x.noted ≤ item_left plan now c x ops x.phase
asking_left plan now c x ops (inl is) = subst (λ (p : Phase). tries_left plan x.refused ops - length x.noted ≤ item_left plan now c x ops p) (sym is) (omega arith)
asking_left plan now c x ops (inr is) = subst (λ (p : Phase). tries_left plan x.refused ops - length x.noted ≤ item_left plan now c x ops p) (sym is) (omega arith)

-- ---- the way through the switch

-- the packet of a client's present item has its passes
passes_now : (plan : Plan) (c : ℕ) (x : ClientState) → (packet_now plan c x).passes ≡ pass_count plan (script_now plan c x)
unfolding packet_from
passes_now plan c x = refl

posted_way : (passes count stages : ℕ) → passes ≡ count → passes * (stages + 1) ≡ count * (1 + stages)
posted_way passes count stages is = ap (λ (n : ℕ). n * (stages + 1)) is ∙ ap (λ (n : ℕ). count * n) {x = stages + 1} {y = 1 + stages} (omega arith)

-- a client that changes its desk changes no other's way
others_way : (plan : Plan) (now next : Switch) (c : ℕ) (desk : Desk) → DeskBecomes now next c desk → next.flights ≡ now.flights → (d : ℕ) → d ≢ c → left plan.shape next d ≤ left plan.shape now d
others_way plan now next c desk becomes flights d n =
    let same : left plan.shape next d ≡ left plan.shape now d = ap (left_on plan.shape next.flights) (becomes.others d n) ∙ ap (λ (l : List Flight). left_on plan.shape l (desk_at now d)) flights in
    omega (arith, same)

-- ---- a client's move

pub record Lessens (plan : Plan) (s : State) (c : ℕ) (after : State) : Type 0 where
  pub y : ClientState
  pub clients : after.clients ≡ set s.clients c y
  pub fewer : ℕ
  pub less : fewer + client_left plan after.switch c y ≤ client_left plan s.switch c (client_at s c)
  pub enough : suc (recovery_left after.switch) ≤ fewer + recovery_left s.switch
  pub others : (d : ℕ) → d ≢ c → way_left plan after.switch d ≤ way_left plan s.switch d

module _ (plan : Plan) (s : State) (c : ℕ) (fits : FitsPhase plan c (client_at s c) (client_at s c).phase) (here : IsPresent plan c (client_at s c)) where
  abbrev x : ClientState
  x = client_at s c

  abbrev ops : List Op
  ops = script_now plan c x

  abbrev m : ℕ
  m = lock_count plan ops

  abbrev behind : ℕ
  behind = items_bound plan (drop x.seq (items_of plan c))

  room_of : (op : Op) → next_op plan c x ≡ Some op → length x.noted < m
  room_of op next = omega (arith, slice_get_within (cold_ops plan.layout ops) (length x.noted) op next)

  tries_of : x.phase ≢ Finished → 1 ≤ plan.tries
  tries_of active = omega (arith, (here active).2)

  few : IsAsking x → length x.noted ≤ m
  few (inl e) = omega (arith, ap length (subst (λ (p : Phase). FitsPhase plan c x p) e fits).0)
  few (inr e) = (subst (λ (p : Phase). FitsPhase plan c x p) e fits).0

  -- at an item that loses the switch two moves are left
  loses : (now : Switch) → x.phase ≡ Ready → item_of plan c x.seq ≡ Some Lose → s.switch ≡ Some now → Lessens plan s c (lost plan s c x)
  unfolding lost
  loses now phase item up =
      let active : x.phase ≢ Finished = λ i. clash (sym phase ∙ i) in
      let none : script_now plan c x ≡ [] = ap (λ (o : Option PlainItem). unwrap_or (option_and_then script_in o) []) item in
      let fit : FitsPhase plan c x Ready = subst (λ (p : Phase). FitsPhase plan c x p) phase fits in
      record {
        y = next_item plan c x;
        clients = refl;
        fewer = 2;
        less = two_left (tries_left plan x.refused []) (plan.tries - 1 - x.refused) (some_left plan x.refused [] (here active).2)
            (next_left plan None c x (tries_of active))
            (ap (item_left plan s.switch c x ops) phase ∙ ap (λ (o : Option PlainItem). recovery_of o + (tries_left plan x.refused (unwrap_or (option_and_then script_in o) []) - length x.noted)) item ∙ ap (λ (l : List Seen). 1 + (tries_left plan x.refused [] - length l)) fit.0);
        enough = omega (arith, ap recovery_left up);
        others = λ d n. omega arith;
      }
    where
      clash : Ready ≡ Finished → ⊥
      clash e = cc

      zeros : (a : ℕ) → a * (2 * 0 - 1) + (2 * 0 + 1) ≡ 1
      zeros a = grind arith

      two_left : {a i r : ℕ} (t n : ℕ) → t ≡ n * (2 * 0 - 1) + (2 * 0 + 1) → a ≤ r → i ≡ 1 + (t - 0) → 2 + a ≤ i + r
      two_left t n is le e = omega (arith, is, zeros n, le, e)

  grants : (op : Op) → IsAsking x → next_op plan c x ≡ Some op → Lessens plan s c (granted s c x op)
  unfolding granted
  grants op asks next = record {
    y = record x { phase = Locking; noted = x.noted ++ seen_at s.store op.tuple ∷ [] };
    clients = refl;
    fewer = 1;
    enough = omega arith;
    less = omega (arith, asking_left plan s.switch c x ops asks, one_try plan x.refused ops (here (asking_open x asks)).2, room_of op next, length-append x.noted (seen_at s.store op.tuple ∷ []));
    others = λ d n. omega arith;
  }

  refuses : (op : Op) (by : ℕ) → IsAsking x → next_op plan c x ≡ Some op → Lessens plan s c (refused plan s c x op by)
  unfolding refused
  refuses op by asks next =
      let active : x.phase ≢ Finished = asking_open x asks in
      record {
        y = aborting plan c x x.noted;
        clients = refl;
        fewer = 1;
        enough = omega arith;
        less = omega (arith, aborted_left plan s.switch c x x.noted (tries_of active) (script_runs plan c x (omega (arith, room_of op next))), asking_left plan s.switch c x ops asks, refused_left plan x.refused ops (length x.noted) (here active).2 (room_of op next));
        others = λ d n. omega arith;
      }

  releases : x.phase ≡ Aborting → Lessens plan s c (released plan s c x)
  unfolding released
  releases phase =
      let fit : FitsPhase plan c x Aborting = subst (λ (p : Phase). FitsPhase plan c x p) phase fits in
      record {
        y = aborting plan c x (take (length x.noted - 1) x.noted);
        clients = refl;
        fewer = 1;
        enough = omega arith;
        less = omega (arith, aborted_left plan s.switch c x (take (length x.noted - 1) x.noted) (tries_of (λ i. clash (sym phase ∙ i))) (script_runs plan c x (omega (arith, fit.1, fit.2))), ap (item_left plan s.switch c x ops) phase, length-take (length x.noted - 1) x.noted, fit.1);
        others = λ d n. omega arith;
      }
    where
      clash : Aborting ≡ Finished → ⊥
      clash e = cc

  decides : IsAsking x → next_op plan c x ≡ None → Lessens plan s c (decided plan s c x)
  unfolding decided
  decides asks next = record {
    y = _;
    clients = refl;
    fewer = 1;
    enough = omega arith;
    less = omega (arith, asking_left plan s.switch c x ops asks, one_try plan x.refused ops (here (asking_open x asks)).2, commits plan ops, few asks);
    others = λ d n. omega arith;
  }

  logs : IsAsking x → has_hot plan ops ≡ true → Lessens plan s c (logged plan s c x)
  unfolding logged
  logs asks hot = record {
    y = _;
    clients = refl;
    fewer = 1;
    enough = omega arith;
    less = omega (arith, asking_left plan s.switch c x ops asks, one_try plan x.refused ops (here (asking_open x asks)).2, ap (λ (b : Bool). if b then 3 + way_of plan ops else 1) hot, few asks);
    others = λ d n. omega arith;
  }

  posts : (now next : Switch) → x.phase ≡ Logged → s.switch ≡ Some now → switch.post now c (packet_now plan c x) ≡ Some next → Lessens plan s c (posted s c x next)
  unfolding posted
  posts now next phase up to =
      let effect = post_effect now next c (packet_now plan c x) to in
      let way : left plan.shape next c ≡ way_of plan ops = ap (left_on plan.shape next.flights) effect.desk.this ∙ posted_way (packet_now plan c x).passes (pass_count plan ops) plan.shape.stages (passes_now plan c x) in
      record {
        y = _;
        clients = refl;
        fewer = 1;
        enough = omega arith;
        less = omega (arith, way, ap (item_left plan s.switch c x ops) phase);
        others = λ d n. subst (λ (o : Option Switch). left plan.shape next d ≤ way_left plan o d) (sym up) (others_way plan now next c (Posted (packet_now plan c x)) effect.desk effect.flights d n);
      }

  takes_answer : (now next : Switch) (answer : Answer) → x.phase ≡ Waiting → s.switch ≡ Some now → switch.take_answer now c ≡ Some next → Lessens plan s c (taken plan s c x answer next)
  unfolding taken
  takes_answer now next answer phase up to =
      let effect = take_effect now next c to in
      record {
        y = replied plan c x (stamp_of answer) (reply_to plan c x answer);
        clients = refl;
        fewer = 1;
        enough = omega arith;
        less = omega (arith, answered (stamp_of answer) (reply_to plan c x answer), ap (item_left plan s.switch c x ops) phase);
        others = λ d n. subst (λ (o : Option Switch). left plan.shape next d ≤ way_left plan o d) (sym up) (others_way plan now next c Vacant effect.desk effect.flights d n);
      }
    where
      clash : Waiting ≡ Finished → ⊥
      clash e = cc

      answered : (stamp : Stamp) (reply : List Pair) → client_left plan (Some next) c (replied plan c x stamp reply) ≤ m + behind
      answered stamp reply = by (length x.noted == 0)
        where
          by : (b : Bool) → client_left plan (Some next) c (if b then next_item plan c (record x { phase = Installing; last = stamp; reply = reply }) else record x { phase = Installing; last = stamp; reply = reply }) ≤ m + behind
          by true = omega (arith, next_left plan (Some next) c (record x { phase = Installing; last = stamp; reply = reply }) (tries_of (λ i. clash (sym phase ∙ i))))
          by false = omega arith

  installs : (p : Step) → x.phase ≡ Installing → slice_get (steps_now plan c x) x.installed ≡ Some p → Lessens plan s c (installed plan s c x p)
  unfolding installed
  installs p phase at =
      let fit : FitsPhase plan c x Installing = subst (λ (q : Phase). FitsPhase plan c x q) phase fits in
      record {
        y = installed_one plan c x (length (steps_now plan c x));
        clients = refl;
        fewer = 1;
        enough = omega arith;
        less = omega (arith, step_less (length (steps_now plan c x)), ap (item_left plan s.switch c x ops) phase, fit.0, fit.1, slice_get_within (steps_now plan c x) x.installed p at);
        others = λ d n. omega arith;
      }
    where
      clash : Installing ≡ Finished → ⊥
      clash e = cc

      step_less : (all : ℕ) → client_left plan s.switch c (installed_one plan c x all) ≤ (m - (x.installed + 1)) + behind
      step_less all = by (x.installed + 1 == all)
        where
          by : (b : Bool) → client_left plan s.switch c (if b then next_item plan c x else record x { installed = x.installed + 1 }) ≤ (m - (x.installed + 1)) + behind
          by true = omega (arith, next_left plan s.switch c x (tries_of (λ i. clash (sym phase ∙ i))))
          by false = omega (arith, ap (item_left plan s.switch c (record x { installed = x.installed + 1 }) ops) phase)

  pub lessens : (after : State) → Move plan s c after → Lessens plan s c after
  lessens after (Loses now phase item up is) = subst (Lessens plan s c) (sym is) (loses now phase item up)
  lessens after (Grants op asks next free is) = subst (Lessens plan s c) (sym is) (grants op asks next)
  lessens after (Refuses op by asks next held is) = subst (Lessens plan s c) (sym is) (refuses op by asks next)
  lessens after (Releases phase is) = subst (Lessens plan s c) (sym is) (releases phase)
  lessens after (Decides asks next cold some is) = subst (Lessens plan s c) (sym is) (decides asks next)
  lessens after (Logs asks next hot is) = subst (Lessens plan s c) (sym is) (logs asks hot)
  lessens after (Posts now next phase up to is) = subst (Lessens plan s c) (sym is) (posts now next phase up to)
  lessens after (Takes now next answer phase up has to is) = subst (Lessens plan s c) (sym is) (takes_answer now next answer phase up to)
  lessens after (Installs p phase at is) = subst (Lessens plan s c) (sym is) (installs p phase at)
