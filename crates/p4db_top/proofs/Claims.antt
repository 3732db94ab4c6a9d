-- A finished run of a session is serial, has each item once, its aborts have causes, and its answers stand.
use Rattle.std.proofs.Common.{◌≡◌, ◌≢◌, ℕ, zero, suc, ◌+◌, ◌-◌, ◌<◌, ◌≤◌, ◌==◌, ◌&&◌, Bool, true, false, cond, if◌then◌else◌, List, [], ◌∷◌, ◌++◌, map, filter, find, length, reverse, slice_get, get_or, Option, Some, None, IsSome, unwrap_or, refl, sym, ap, subst, ◌∙◌, arith}
use Rattle.std.specs.List.{flat_map, range_with_len, list_all, list_any, AllByRecursion}
use Rattle.std.specs.Option.{option_and_then, option_map}
use Rattle.std.proofs.lemmas.Bool.Decides.{nat_tests}
use Rattle.std.proofs.lemmas.List.{reverse-append}
use Rattle.std.proofs.lemmas.List.Concat.{flat_map_single}
use Rattle.txn_model.specs.declared.op.Op.{Op}
use Rattle.catalogue.specs.Plan.{Plan, PlainItem, items_of, item_of, script_in, script_at, kind_of}
use Rattle.catalogue.specs.Sound.{IsSound}
use Rattle.catalogue.specs.declared.actor.Actor.{Actor}
use Rattle.catalogue.specs.declared.kind.Kind.TheVariants.{Hot, Warm, Cold}
use Rattle.stage_layout.specs.Late.{is_hot}
use Rattle.stage_layout.specs.declared.layout.LayoutRow.{LayoutRow}
use Rattle.core_model.specs.declared.phase.Phase.TheVariants.{Finished}
use Rattle.core_model.specs.declared.refusal.Refusal.{Refusal}
use Rattle.core_model.specs.Ends.{refused_times}
use Rattle.core_model.specs.Rota.{numbers_below}
use Rattle.core_model.specs.State.{ClientState, at_item, zero_stamp}
use Rattle.core_model.specs.declared.item_end.ItemEnd.{ItemEnd}
use Rattle.core_model.specs.declared.item_end.ItemEnd.TheVariants.{Pending, Committed, Aborted, Lost}
use Rattle.core_model.proofs.Decide.{item_at_place}
use Rattle.fabric_model.specs.Driven.{IsFinished}
use Rattle.fabric_model.specs.Ends.{item_end, IsEnded}
use Rattle.fabric_model.specs.Laws.{IsReached}
use Rattle.fabric_model.specs.Run.{state_of}
use Rattle.fabric_model.specs.State.{State, client_at}
use Rattle.fabric_model.proofs.Either.{up_of}
use Rattle.fabric_model.proofs.Ended.{items_end}
use Rattle.fabric_model.proofs.InOrder.{items_in_order}
use Rattle.fabric_model.proofs.Legal.{holds_now, legal_when_up, values_when_up}
use Rattle.fabric_model.proofs.Refusals.{refusals_of_run}
use Rattle.fabric_model.proofs.Refused.{hot_are_not_refused}
use Rattle.fabric_model.proofs.Rising.{rising_stamps}
use Rattle.fabric_model.proofs.Stand.{answers_stand}
use Rattle.fabric_model.proofs.StampsAbove.{stamps_above}
use Rattle.report_text.specs.Report.{PlainEnd, EndedItem}
use Rattle.report_text.specs.RunReport.{last_refusal, given_up, told_by, reply_to, end_told, with_end, item_told, client_told}
use Rattle.p4db_top.specs.Serial.{IsSerial, name_of, IsOnceEach, HaveCauses, KeepsAnswers}
use Rattle.p4db_top.proofs.Placed.{are_placed}
use Rattle.p4db_top.proofs.Transactions.{are_transactions}

-- the item with a number from 1 to the number of items
item_there : (plan : Plan) (c seq : ℕ) → 1 ≤ seq → seq ≤ length (items_of plan c) → (item : PlainItem) × (item_of plan c seq ≡ Some item)
item_there plan c seq one within =
    let found = item_at_place (items_of plan c) (seq - 1) (omega (arith, one, within)) in
    (found.0, ap (λ (b : Bool). if b then None else slice_get (items_of plan c) (seq - 1)) (positive seq one) ∙ found.1)
  where
    positive : (n : ℕ) → 1 ≤ n → (n == 0) ≡ false
    positive n one = grind (arith, nat_tests)

-- the number of an item that is there
place_of_item : (plan : Plan) (c seq : ℕ) → IsSome (item_of plan c seq) → (1 ≤ seq) × (seq ≤ length (items_of plan c))
place_of_item plan c seq some = by (seq == 0) refl some
  where
    nothing : (n : ℕ) → (n == 0) ≡ false → 1 ≤ n
    nothing n e = grind (arith, nat_tests)

    within : (l : List PlainItem) (k : ℕ) → IsSome (slice_get l k) → k < length l
    within [] k h = cc
    within (x ∷ l) zero h = omega arith
    within (x ∷ l) (suc k) h = omega (arith, within l k h)

    by : (b : Bool) → (seq == 0) ≡ b → IsSome (if b then None else slice_get (items_of plan c) (seq - 1)) → (1 ≤ seq) × (seq ≤ length (items_of plan c))
    by true e h = cc
    by false e h = (nothing seq e, omega (arith, nothing seq e, within (items_of plan c) (seq - 1) h))

-- each client has finished
finished_at : (clients : List ClientState) (d : ℕ) → AllByRecursion (λ client. client.phase ≡ Finished) clients → (get_or clients d (at_item 0 1 zero_stamp)).phase ≡ Finished
finished_at [] d all = refl
finished_at (x ∷ clients) zero all = all.0
finished_at (x ∷ clients) (suc d) all = finished_at clients d all.1

module _ (plan : Plan) (s : State) (reached : IsReached plan s) (finished : IsFinished s) where
  -- each client is behind each of its items
  all_past : (c seq : ℕ) → seq ≤ length (items_of plan c) → seq < (client_at s c).seq
  all_past c seq within = omega (arith, within, (are_placed plan s reached c).behind (finished_at s.clients c finished.clients))

  ended : (c seq : ℕ) → IsSome (item_of plan c seq) → IsEnded plan s c seq
  ended c seq some = items_end plan (holds_now plan) s reached c seq some (all_past c seq (place_of_item plan c seq some).1)

-- what is found in front of others, or behind them
found_before : (test : Refusal → Bool) (a b : List Refusal) → IsSome (find test a) → IsSome (find test (a ++ b))
found_before test [] b h = cc
found_before test (r ∷ a) b h = by (test r) (found_before test a b) h
  where
    by : (t : Bool) → (IsSome (find test a) → IsSome (find test (a ++ b))) → IsSome (cond t (Some r) (find test a)) → IsSome (cond t (Some r) (find test (a ++ b)))
    by true rest h = refl
    by false rest h = rest h

found_last : (test : Refusal → Bool) (a : List Refusal) (r : Refusal) → test r ≡ true → IsSome (find test (a ++ r ∷ []))
found_last test [] r t = subst (λ (b : Bool). IsSome (cond b (Some r) None)) (sym t) refl
found_last test (x ∷ a) r t = by (test x) (found_last test a r t)
  where
    by : (b : Bool) → IsSome (find test (a ++ r ∷ [])) → IsSome (cond b (Some x) (find test (a ++ r ∷ [])))
    by true rest = refl
    by false rest = rest

-- what some pass is found from the end
found_in : (test : Refusal → Bool) (l : List Refusal) → 1 ≤ length (filter test l) → IsSome (find test (reverse l))
found_in test [] h = absurd (omega arith)
found_in test (r ∷ l) h = subst (λ (x : List Refusal). IsSome (find test x)) (sym (reverse-append (r ∷ []) l)) (by (test r) refl (found_in test l) h)
  where
    by : (t : Bool) → test r ≡ t → (1 ≤ length (filter test l) → IsSome (find test (reverse l))) → 1 ≤ length (cond t (r ∷ filter test l) (filter test l)) → IsSome (find test (reverse l ++ r ∷ []))
    by true t rest h = found_last test (reverse l) r t
    by false t rest h = found_before test (reverse l) (r ∷ []) (rest h)

refused_found : (c seq : ℕ) (rs : List Refusal) → 1 ≤ refused_times c seq rs → IsSome (last_refusal c seq rs)
refused_found c seq rs some = found_in (λ r. (r.client == c) && (r.seq == seq)) rs some

module _ (plan : Plan) (s : State) (reached : IsReached plan s) (finished : IsFinished s) where
  -- each item's end is told
  end_is_told : (c seq : ℕ) → IsSome (item_of plan c seq) → IsSome (end_told plan s c seq)
  end_is_told c seq some = let end = ended plan s reached finished c seq some in told (item_end plan s c seq) end.ended (λ is. refused_found c seq s.refusals (omega (arith, end.tries is, reached.sound.limits.tries.0)))
    where
      refused : (o : Option Refusal) → IsSome o → IsSome (option_map given_up o)
      refused (Some r) h = refl
      refused None h = cc

      told : (end : ItemEnd) → end ≢ Pending → (end ≡ Aborted → IsSome (last_refusal c seq s.refusals)) → IsSome (told_by (kind_of plan.layout (script_at plan c seq)) (reply_to c seq s.history) (last_refusal c seq s.refusals) end)
      told Pending n r = absurd (n refl)
      told (Committed stamp) n r = refl
      told Aborted n r = refused (last_refusal c seq s.refusals) (r refl)
      told Lost n r = refl

  -- the name on the line of each item
  line_of_item : (c seq : ℕ) → 1 ≤ seq → seq ≤ length (items_of plan c) → map name_of (item_told plan s c seq) ≡ (c, seq) ∷ []
  line_of_item c seq one within =
      let found = item_there plan c seq one within in
      named (end_told plan s c seq) (end_is_told c seq (subst IsSome (sym found.1) refl))
    where
      named : (o : Option PlainEnd) → IsSome o → map name_of (with_end c seq o) ≡ (c, seq) ∷ []
      named (Some end) h = refl
      named None h = cc

-- lists that are made of alike parts
alike_from : {X : Type 0} (f g : ℕ → List X) (a n : ℕ) → ((i : ℕ) → a ≤ i → i < a + n → f i ≡ g i) → flat_map f (range_with_len a n) ≡ flat_map g (range_with_len a n)
alike_from f g a zero alike = refl
alike_from f g a (suc n) alike =
    ap (λ l. l ++ flat_map f (range_with_len (a + 1) n)) (alike a (omega arith) (omega arith))
    ∙ ap (λ l. g a ++ l) (alike_from f g (a + 1) n (λ i from to. alike i (omega arith) (omega arith)))

map-flat_map : (f : ℕ → List EndedItem) (l : List ℕ) → map name_of (flat_map f l) ≡ flat_map (λ i. map name_of (f i)) l
map-flat_map f [] = refl
map-flat_map f (i ∷ l) = split (f i) (flat_map f l) ∙ ap (λ (r : List (ℕ × ℕ)). map name_of (f i) ++ r) (map-flat_map f l)
  where
    split : (a b : List EndedItem) → map name_of (a ++ b) ≡ map name_of a ++ map name_of b
    split [] b = refl
    split (x ∷ a) b = ap (λ (r : List (ℕ × ℕ)). (x.client, x.seq) ∷ r) (split a b)

-- a transaction of that kind has all its tuples in the switch
all_hot : (rows : List LayoutRow) (ops : List Op) → kind_of rows ops ≡ Hot → list_all (λ op. is_hot rows op.tuple) ops ≡ true
all_hot rows ops = by (list_all (λ op. is_hot rows op.tuple) ops) (list_any (λ op. is_hot rows op.tuple) ops)
  where
    by : (a b : Bool) → (if a then Hot else (if b then Warm else Cold)) ≡ Hot → a ≡ true
    by true b e = refl
    by false true e = cc
    by false false e = cc

pub run_is_serial : (plan : Plan) (s : State) → IsReached plan s → IsFinished s → IsSerial plan s
run_is_serial plan s reached finished = record { history = legal_when_up plan s reached finished.up; values = values_when_up plan s reached finished.up finished.clients }

pub run_is_once_each : (plan : Plan) (trace : List Actor) (s : State) → state_of plan trace ≡ Some s → IsReached plan s → IsFinished s → IsOnceEach plan trace s
run_is_once_each plan trace s run reached finished = record {
  finished = finished;
  ended = ended plan s reached finished;
  lines =
      map-flat_map (client_told plan s) (numbers_below (length plan.clients))
      ∙ alike_from (λ c. map name_of (client_told plan s c)) (λ c. map (λ seq. (c, seq)) (range_with_len 1 (length (items_of plan c)))) 0 (length plan.clients) (λ c _ _. client_lines c);
  entries = are_transactions plan s reached;
  in_order = (items_in_order plan (holds_now plan) s reached).ascending;
  rising = rising_stamps plan s reached;
  stamps = stamps_above plan s (record { sound = reached.sound; trace = trace; run = run });
}
  where
    client_lines : (c : ℕ) → map name_of (client_told plan s c) ≡ map (λ seq. (c, seq)) (range_with_len 1 (length (items_of plan c)))
    client_lines c =
        map-flat_map (item_told plan s c) (range_with_len 1 (length (items_of plan c)))
        ∙ alike_from (λ seq. map name_of (item_told plan s c seq)) (λ seq. (c, seq) ∷ []) 1 (length (items_of plan c)) (λ seq one to. line_of_item plan s reached finished c seq one (omega (arith, to)))
        ∙ flat_map_single (λ seq. (c, seq)) (range_with_len 1 (length (items_of plan c)))

pub aborts_have_causes : (plan : Plan) (trace : List Actor) (s : State) → state_of plan trace ≡ Some s → IsReached plan s → IsFinished s → HaveCauses plan trace s
aborts_have_causes plan trace s run reached finished = record {
  refusals = refusals_of_run plan trace s run;
  tries = λ c seq ops is aborted. (ended plan s reached finished c seq (there (item_of plan c seq) ops is)).tries aborted;
  hot = λ c seq ops is hot aborted. absurd (omega (
    arith,
    (ended plan s reached finished c seq (there (item_of plan c seq) ops is)).tries aborted,
    reached.sound.limits.tries.0,
    hot_are_not_refused plan trace s run c seq (subst (λ (o : Option (List Op)). list_all (λ op. is_hot plan.layout op.tuple) (unwrap_or o []) ≡ true) (sym is) (all_hot plan.layout ops hot)),
  ));
}
  where
    there : (o : Option PlainItem) (ops : List Op) → option_and_then script_in o ≡ Some ops → IsSome o
    there (Some item) ops is = refl
    there None ops is = cc

pub keeps_answers : (plan : Plan) (trace : List Actor) → IsSound plan → KeepsAnswers plan trace
keeps_answers plan trace sound made left actor before after parts run makes =
    answers_stand plan before after actor (λ now up. up_of plan before (holds_now plan before (record { sound = sound; trace = made; run = run })) now up) makes
