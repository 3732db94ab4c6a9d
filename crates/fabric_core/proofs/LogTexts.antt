-- The texts of logs, and what an append makes of them.
use Rattle.std.proofs.Common.{◌≡◌, ◌≢◌, ℕ, suc, ◌+◌, ◌*◌, ◌<◌, ◌≤◌, true, false, Bool, List, [], ◌∷◌, ◌++◌, append-nil, append_assoc, length, length-append, get_or, Option, Some, None, Result, Ok, Err, inl, inr, refl, sym, ap, ap₂, subst, ◌∙◌, arith, if◌then◌else◌}
use Rattle.std.specs.Prelude.{IsTrue, MatchBool, OnOk, IsErrOf}
use Rattle.std.specs.Io.KnownBytes.{Appends}
use Rattle.std.specs.List.{flat_map}
use Rattle.port_io.specs.Cause.{HasCause}
use Rattle.port_io.specs.LogRack.{AllStay, OthersStay}
use Rattle.port_io.specs.WriteAll.{AppendsFront}
use Rattle.port_io.specs.declared.log_rack.RackFault.{RackFault}
use Rattle.port_io.specs.declared.log_rack.RackFault.TheVariants as racks
use Rattle.txn_model.specs.declared.pairs.Pair.{Pair}
use Rattle.history_model.specs.History.{History}
use Rattle.switch_packet.specs.Packets.{PlainIntent, PlainOutcome}
use Rattle.switch_packet.specs.Ranges.{Fits}
use Rattle.switch_packet.proofs.LengthLaws.{length-packet_text-le}
use Rattle.switch_model.specs.Switch.{Switch}
use Rattle.intent_log.specs.LogText.{intent_text, outcome_text, pair_text, records_text}
use Rattle.log_records.specs.Records.{PlainRecords}
use Rattle.catalogue.specs.Plan.{Plan}
use Rattle.catalogue.specs.declared.actor.Actor.{Actor}
use Rattle.catalogue.specs.declared.actor.Actor.TheVariants.{Client, Recover}
use Rattle.core_model.proofs.Fewer.{same_or_not}
use Rattle.fabric_model.specs.Intents.{with_intent, with_outcome, intent_now}
use Rattle.fabric_model.specs.Laws.{IsReached}
use Rattle.fabric_model.specs.Recorded.{AreAnswers, HasRecords, has_open}
use Rattle.fabric_model.specs.State.{Records, State, client_at, log_at}
use Rattle.fabric_model.specs.Step.{recovers, step}
use Rattle.fabric_model.proofs.Legal.{records_answer}
use Rattle.fabric_model.proofs.PerClient.{logs_stay}
use Rattle.fabric_model.proofs.Present.{clients_stay}
use Rattle.fabric_core.specs.CoreTurns.{IsTurnOf, Moves, turn_after}
use Rattle.fabric_core.specs.Racks.{Rack, StaysFrom}
use Rattle.fabric_core.specs.RecordTexts.{AddsRecord, TellsRecords, text_of}
use Rattle.fabric_core.specs.Standing.{StandsFor, Follows, IsLog}
use Rattle.fabric_core.specs.declared.core_state.CoreState.{CoreState}
use Rattle.fabric_core.specs.declared.turn.Turn.{Turn}
use Rattle.fabric_core.specs.declared.turn.Turn.TheVariants.{Moved, Idle}

-- ---- lengths

pub intent_short : (i : PlainIntent) → Fits i.packet → length (intent_text i) ≤ 784
unfolding intent_text
intent_short i fits = omega (arith, length-packet_text-le i.packet fits)

pairs_short : (pairs : List Pair) → length (flat_map pair_text pairs) ≡ 16 * length pairs
unfolding pair_text
pairs_short [] = refl
pairs_short (p ∷ pairs) = omega (arith, length-append (pair_text p) (flat_map pair_text pairs), pairs_short pairs)

pub outcome_short : (o : PlainOutcome) → length o.pairs ≤ 16 → length (outcome_text o) ≤ 784
unfolding outcome_text
outcome_short o few = omega (arith, pairs_short o.pairs, few)

-- ---- one more record

more_intent : (intents : List PlainIntent) (outcomes : List PlainOutcome) (i : PlainIntent) → length intents ≡ length outcomes → records_text (intents ++ i ∷ []) outcomes ≡ records_text intents outcomes ++ intent_text i
more_intent [] [] i same = append-nil (intent_text i)
more_intent [] (o ∷ outcomes) i same = absurd (omega (arith, same))
more_intent (j ∷ intents) [] i same = absurd (omega (arith, same))
more_intent (j ∷ intents) (o ∷ outcomes) i same =
    ap (λ (l : List ℕ). intent_text j ++ (outcome_text o ++ l)) (more_intent intents outcomes i (omega (arith, same)))
    ∙ ap (λ (l : List ℕ). intent_text j ++ l) (sym (append_assoc (outcome_text o) (records_text intents outcomes) (intent_text i)))
    ∙ sym (append_assoc (intent_text j) (outcome_text o ++ records_text intents outcomes) (intent_text i))

more_outcome : (intents : List PlainIntent) (outcomes : List PlainOutcome) (o : PlainOutcome) → length intents ≡ suc (length outcomes) → records_text intents (outcomes ++ o ∷ []) ≡ records_text intents outcomes ++ outcome_text o
more_outcome [] outcomes o same = absurd (omega (arith, same))
more_outcome (j ∷ []) [] o same = ap (λ (l : List ℕ). intent_text j ++ l) (append-nil (outcome_text o)) ∙ ap (λ (l : List ℕ). l ++ outcome_text o) (sym (append-nil (intent_text j)))
more_outcome (j ∷ k ∷ intents) [] o same = absurd (omega (arith, same))
more_outcome (j ∷ intents) (p ∷ outcomes) o same =
    ap (λ (l : List ℕ). intent_text j ++ (outcome_text p ++ l)) (more_outcome intents outcomes o (omega (arith, same)))
    ∙ ap (λ (l : List ℕ). intent_text j ++ l) (sym (append_assoc (outcome_text p) (records_text intents outcomes) (outcome_text o)))
    ∙ sym (append_assoc (intent_text j) (outcome_text p ++ records_text intents outcomes) (outcome_text o))

-- as many outcomes as answered intents
as_many : (plan : Plan) (h : History) (switch : Option Switch) (c : ℕ) (intents : List PlainIntent) (outcomes : List PlainOutcome) → AreAnswers plan h switch c intents outcomes → length intents ≡ length outcomes
as_many plan h switch c [] [] are = refl
as_many plan h switch c [] (o ∷ outcomes) are = absurd are
as_many plan h switch c (i ∷ intents) [] are = absurd are
as_many plan h switch c (i ∷ intents) (o ∷ outcomes) are = ap suc (as_many plan h switch c intents outcomes are.1)

module _ (plan : Plan) (s : State) (reached : IsReached plan s) (c : ℕ) where
  records : HasRecords plan s c
  records = records_answer plan s reached c

  open_ones : (b : Bool) → has_open (client_at s c).phase ≡ b → length (log_at s c).intents ≡ length (log_at s c).outcomes + length (if b then intent_now plan c (client_at s c) ∷ [] else [])
  open_ones b is = omega (
    arith,
    ap length records.intents,
    length-append records.answered (if has_open (client_at s c).phase then intent_now plan c (client_at s c) ∷ [] else []),
    ap (λ (f : Bool). length (if f then intent_now plan c (client_at s c) ∷ [] else [])) is,
    as_many plan s.history s.switch c records.answered (log_at s c).outcomes records.outcomes,
  )

  pub text_with_intent : (i : PlainIntent) → has_open (client_at s c).phase ≡ false → text_of (with_intent i (log_at s c)) ≡ text_of (log_at s c) ++ intent_text i
  text_with_intent i none = more_intent (log_at s c).intents (log_at s c).outcomes i (omega (arith, open_ones false none))

  pub text_with_outcome : (o : PlainOutcome) → has_open (client_at s c).phase ≡ true → text_of (with_outcome o (log_at s c)) ≡ text_of (log_at s c) ++ outcome_text o
  text_with_outcome o some = more_outcome (log_at s c).intents (log_at s c).outcomes o (omega (arith, open_ones true some))

-- ---- one append

same_some : {T : Type 0} {a b : T} → Some a ≡ Some b → a ≡ b
same_some e = cc

appended_is : (a b : Option (List ℕ)) (xs text : List ℕ) → a ≡ Some xs → Appends a b text → b ≡ Some (xs ++ text)
appended_is None b xs text is adds = cc
appended_is (Some ys) None xs text is adds = absurd adds
appended_is (Some ys) (Some zs) xs text is adds = ap Some (adds ∙ ap (λ (l : List ℕ). l ++ text) (same_some is))

-- what one append of a text to a client's log answered, and what it made of the rack
pub record IsAppend (c : ℕ) (text : List ℕ) (old new : Rack) (r : Result (Unit {0}) RackFault) : Type 0 where
  pub appended : IsTrue old.keeps → OnOk r (Appends (old.told c) (new.told c) text)
  pub front : IsTrue old.keeps → IsErrOf r racks.Failed → AppendsFront (old.told c) (new.told c) text
  pub keeps_on : IsTrue old.keeps → IsTrue new.keeps
  pub no_memory : IsErrOf r racks.NoMemory → AllStay old.told new.told
  pub others : OthersStay c old.told new.told
  pub cause : HasCause old.faults new.faults (IsErrOf r racks.Failed)

beyond_from : (clients c : ℕ) (old new : Rack) → c < clients → OthersStay c old.told new.told → StaysFrom clients old new
beyond_from clients c old new within stay d le = stay d (λ (e : d ≡ c). omega (arith, e, le, within))

fault_not_ok : {T E : Type 0} (r : Result T E) (e : E) (x : T) → r ≡ Ok x → r ≡ Err e → ⊥
fault_not_ok r e x ok err = let clash : Ok x ≡ Err e = sym ok ∙ err in cc

two_faults : {T : Type 0} (r : Result T RackFault) → r ≡ Err racks.NoMemory → r ≡ Err racks.Failed → ⊥
two_faults r a b = let clash : Err racks.NoMemory ≡ Err racks.Failed = sym a ∙ b in cc

module _ (plan : Plan) (s : State) (c : ℕ) (text : List ℕ) (old new : Rack) (r : Result (Unit {0}) RackFault) (is : IsAppend c text old new r) (within : c < length plan.clients) (adds : AddsRecord plan s c text) where
  -- it had a fault
  pub failed_turn : (before after : CoreState) (fault : RackFault) → r ≡ Err fault → StandsFor plan s after → IsTurnOf plan s (Client c) before after old new (turn_after c fault)
  failed_turn before after racks.Failed err stands = inl (
    refl,
    record {
      stands = stands;
      within = within;
      text = text;
      adds = adds;
      keeps = is.keeps_on;
      logs = λ keeps all.
          let front = is.front keeps err in
          record {
            others = λ d lt other. is.others d other ∙ all d lt;
            text = text;
            adds = adds;
            many = front.0;
            within = front.1;
            front = appended_is (old.told c) (new.told c) (text_of (log_at s c)) _ (all c within) front.2;
          };
      beyond = beyond_from (length plan.clients) c old new within is.others;
      rose = is.cause.rose err;
    },
  )
  failed_turn before after racks.NoMemory err stands = record {
    stands = stands;
    takes = inl (c, refl, record { text = text; adds = adds });
    keeps = is.keeps_on;
    stays = record {
      told = is.no_memory err;
      faults = is.cause.still (two_faults r err);
    };
  }

  -- it was made, and the state went on to this one
  pub appended_turn : (next : State) (after : CoreState) (done : Unit {0}) → r ≡ Ok done → step plan s (Client c) ≡ Some next → StandsFor plan next after → ((d : ℕ) → d ≢ c → log_at next d ≡ log_at s d)
      → text_of (log_at next c) ≡ text_of (log_at s c) ++ text → Moves plan s (Client c) after old new
  appended_turn next after done ok moves stands others longer = record {
    follows = record { next = next; step = moves; stands = stands };
    compared = λ e. cc;
    keeps = is.keeps_on;
    logs = λ keeps all d lt. elim (same_or_not d c) [
      | inl e ↦ subst (TellsRecords next new) (sym e) (appended_is (old.told c) (new.told c) (text_of (log_at s c)) text (all c within) (now keeps) ∙ ap Some (sym longer))
      | inr n ↦ is.others d n ∙ all d lt ∙ ap (λ (l : Records). Some (text_of l)) (sym (others d n))
    ];
    beyond = beyond_from (length plan.clients) c old new within is.others;
    faults = is.cause.still (fault_not_ok r racks.Failed done ok);
  }
    where
      now : IsTrue old.keeps → Appends (old.told c) (new.told c) text
      now keeps = by r ok (is.appended keeps)
        where
          by : (q : Result (Unit {0}) RackFault) → q ≡ Ok done → OnOk q (Appends (old.told c) (new.told c) text) → Appends (old.told c) (new.told c) text
          by (Ok u) e a = a
          by (Err f) e a = cc

-- ---- moves without an append

no_log : PlainRecords
no_log = record { intents = []; outcomes = []; room = 0 }

-- logs that were not touched have the same text
same_text : (plan : Plan) (s next : State) (before after : CoreState) → StandsFor plan s before → StandsFor plan next after → after.logs ≡ before.logs → (c : ℕ) → c < length s.logs → text_of (log_at next c) ≡ text_of (log_at s c)
same_text plan s next before after stands stands_next same c lt =
    let kept : after.logs.items ≡ before.logs.items = ap (λ logs. logs.items) same in
    let log : get_or after.logs.items c no_log ≡ get_or before.logs.items c no_log = ap (λ (l : List PlainRecords). get_or l c no_log) kept in
    let is_now : IsLog plan c (log_at s c) (get_or before.logs.items c no_log) = stands.logs.each c no_log lt in
    let is_next : IsLog plan c (log_at next c) (get_or after.logs.items c no_log) = stands_next.logs.each c no_log (omega (arith, lt, stands.logs.count, stands_next.logs.count, ap length kept)) in
    ap₂ records_text (sym is_next.intents ∙ ap (λ (l : PlainRecords). l.intents) log ∙ is_now.intents) (sym is_next.outcomes ∙ ap (λ (l : PlainRecords). l.outcomes) log ∙ is_now.outcomes)

-- the rack stays, and so do the records
pub moved_beside : (plan : Plan) (s : State) (actor : Actor) (before after : CoreState) (rack : Rack) → actor ≢ Recover → IsReached plan s → StandsFor plan s before → Follows plan s actor after → after.logs ≡ before.logs → Moves plan s actor after rack rack
moved_beside plan s actor before after rack other reached stands follows same = record {
  follows = record { next = follows.next; step = follows.step; stands = follows.stands };
  compared = λ e. absurd (other e);
  keeps = λ keeps. keeps;
  logs = λ keeps all c lt. all c lt ∙ ap Some (sym (same_text plan s follows.next before after stands follows.stands same c (omega (arith, lt, logs_stay plan s reached, clients_stay plan s reached))));
  beyond = λ d le. refl;
  faults = refl;
}

-- an actor that moved without an append, or couldn't move
pub turned_beside : (plan : Plan) (s : State) (actor same_actor : Actor) (before after : CoreState) (rack : Rack) (b : Bool) (turn : Turn) → actor ≡ same_actor → same_actor ≢ Recover → IsReached plan s → StandsFor plan s before → after.logs ≡ before.logs
    → MatchBool b (Follows plan s same_actor after) ((step plan s same_actor ≡ None) × (after ≡ before)) → MatchBool b (turn ≡ Moved) (turn ≡ Idle) → IsTurnOf plan s actor before after rack rack turn
turned_beside plan s actor same_actor before after rack true turn whose other reached stands same follows is = subst (λ (a : Actor). IsTurnOf plan s a before after rack rack turn) (sym whose)
    (subst (IsTurnOf plan s same_actor before after rack rack) (sym is) (moved_beside plan s same_actor before after rack other reached stands follows same))
turned_beside plan s actor same_actor before after rack false turn whose other reached stands same rests is = subst (λ (a : Actor). IsTurnOf plan s a before after rack rack turn) (sym whose)
    (subst (IsTurnOf plan s same_actor before after rack rack) (sym is) rests)

-- the switch isn't lost
pub recover_rests : (plan : Plan) (s : State) (now : Switch) → s.switch ≡ Some now → step plan s Recover ≡ None
unfolding step
recover_rests plan s now up = ap (recovers plan s) up
