-- What the records of a log are like.
use Rattle.std.proofs.Common.{◌≡◌, ℕ, ◌+◌, ◌-◌, ◌*◌, ◌<◌, ◌≤◌, ◌^◌, List, [], ◌∷◌, ◌++◌, length, Some, None, refl, sym, ap, subst, ◌∙◌, arith}
use Rattle.std.specs.Prelude.{Option, slice_get}
use Rattle.std.specs.List.{AllByRecursion, flat_map}
use Rattle.std.proofs.lemmas.List.{length-append}
use Rattle.switch_packet.specs.Packets.{PlainIntent, PlainOutcome, PlainLog}
use Rattle.switch_packet.specs.PacketText.{packet_text}
use Rattle.switch_packet.specs.Ranges.{Fits}
use Rattle.switch_packet.proofs.LongestText.{longest_text}
use Rattle.txn_model.specs.declared.pairs.Pair.{Pair}
use Rattle.intent_log.specs.Laws.{ViewsCanBeWritten}
use Rattle.intent_log.specs.LogText.{intent_text, pair_text, outcome_text, records_text}
use Rattle.intent_log.specs.Records.{HasPairs, IsIntent, IsOutcome}
use Rattle.intent_log.specs.Told.{CanBeWritten, TextsFit}
use Rattle.intent_log.specs.Grammar.{Record, Intended, Answered, IsRecord, no_records, with_record, with_records, last_intent, IsAbove, FitsBehind, FitInTurn, IsView}

-- there are no more intents than items up to that of the last one
abbrev pub IsCounted : ℕ → Option PlainIntent → Type 0
IsCounted count None = count ≡ 0
IsCounted count (Some last) = (count ≤ last.packet.seq + 1) × (last.packet.seq < 2 ^ 32)

pub record ViewIs (client : ℕ) (log : PlainLog) : Type 0 where
  pub most : length log.outcomes ≤ length log.intents
  pub least : length log.intents ≤ length log.outcomes + 1
  pub intents : AllByRecursion (λ i. IsIntent i × (i.packet.client ≡ client)) log.intents
  pub outcomes : AllByRecursion IsOutcome log.outcomes
  pub count : IsCounted (length log.intents) (last_intent log)

all_more : {X : Type 0} (P : X → Type 0) (xs : List X) (x : X) → AllByRecursion P xs → P x → AllByRecursion P (xs ++ x ∷ [])
all_more P [] x a p = (p, tt)
all_more P (y ∷ xs) x a p = (a.0, all_more P xs x a.1 p)

get_seam : {X : Type 0} (xs : List X) (x : X) → slice_get (xs ++ x ∷ []) (length xs) ≡ Some x
get_seam [] x = refl
get_seam (y ∷ xs) x = get_seam xs x

last_more : (xs : List PlainIntent) (i : PlainIntent) → slice_get (xs ++ i ∷ []) (length (xs ++ i ∷ []) - 1) ≡ Some i
last_more xs i =
    let at : length (xs ++ i ∷ []) - 1 ≡ length xs = omega (arith, length-append xs (i ∷ [])) in
    ap (slice_get (xs ++ i ∷ [])) at ∙ get_seam xs i

counted_above : (count seq : ℕ) (last : Option PlainIntent) → IsCounted count last → IsAbove last seq → count ≤ seq
counted_above count seq None c a = omega (arith, c)
counted_above count seq (Some last) c a = omega (arith, c.0, a)

more : (client : ℕ) (log : PlainLog) (r : Record) → ViewIs client log → IsRecord r → FitsBehind client log r → ViewIs client (with_record log r)
more client log (Intended i) v is f =
    let len = length-append log.intents (i ∷ []) in
    let below = counted_above (length log.intents) i.packet.seq (last_intent log) v.count f.2 in
    record {
      most = omega (arith, len, f.1);
      least = omega (arith, len, f.1);
      intents = all_more (λ i. IsIntent i × (i.packet.client ≡ client)) log.intents i v.intents (is, f.0);
      outcomes = v.outcomes;
      count = subst (IsCounted (length (log.intents ++ i ∷ []))) (sym (last_more log.intents i)) (omega (arith, len, below), is.packet.typed.seq);
    }
more client log (Answered o) v is f =
    let len = length-append log.outcomes (o ∷ []) in
    record {
      most = omega (arith, len, f.0);
      least = omega (arith, len, f.0);
      intents = v.intents;
      outcomes = all_more IsOutcome log.outcomes o v.outcomes is;
      count = v.count;
    }

all_of : (client : ℕ) (log : PlainLog) (rs : List Record) → ViewIs client log → FitInTurn client log rs → ViewIs client (with_records log rs)
all_of client log [] v f = v
all_of client log (r ∷ rs) v f = all_of client (with_record log r) rs (more client log r v f.0 f.1) f.2

none_yet : (client : ℕ) → ViewIs client no_records
none_yet client = record { most = omega arith; least = omega arith; intents = tt; outcomes = tt; count = refl }

pub view_is : (client : ℕ) (log : PlainLog) → IsView client log → ViewIs client log
view_is client log v =
    let whole = all_of client no_records v.1.records (none_yet client) v.1.fit in
    let says = v.1.says in
    subst (ViewIs client) (sym says) (record { most = whole.most; least = whole.least; intents = whole.intents; outcomes = whole.outcomes; count = whole.count })

few : (count : ℕ) (last : Option PlainIntent) → IsCounted count last → count ≤ 2 ^ 32
few count None c = omega (arith, c)
few count (Some last) c = omega (arith, c.0, c.1)

pub few_intents : (client : ℕ) (log : PlainLog) → ViewIs client log → length log.intents ≤ 2 ^ 32
few_intents client log v = few (length log.intents) (last_intent log) v.count

-- ---- how long the texts are

fitting_length : (i : PlainIntent) → Fits i.packet → length (intent_text i) ≤ 784
unfolding intent_text
fitting_length i fits = let most : length (packet_text i.packet) ≤ 772 = longest_text.0 i.packet fits in omega arith

pair_length : (p : Pair) → length (pair_text p) ≡ 16
unfolding pair_text
pair_length p = refl

pairs_length : (ps : List Pair) → length (flat_map pair_text ps) ≡ 16 * length ps
pairs_length [] = refl
pairs_length (p ∷ ps) = omega (arith, pairs_length ps, pair_length p, length-append (pair_text p) (flat_map pair_text ps))

paired_length : (o : PlainOutcome) → HasPairs o → length (outcome_text o) ≤ 272
unfolding outcome_text
paired_length o few = omega (arith, few.1, pairs_length o.pairs)

-- ---- what can be written

intents_within : (room : ℕ) → 784 ≤ room → (is : List PlainIntent) → AllByRecursion (λ i. Fits i.packet) is → AllByRecursion (λ i. length (intent_text i) ≤ room) is
intents_within room le [] a = tt
intents_within room le (i ∷ is) a = (omega (arith, fitting_length i a.0), intents_within room le is a.1)

outcomes_within : (room : ℕ) → 784 ≤ room → (os : List PlainOutcome) → AllByRecursion HasPairs os → AllByRecursion (λ o. length (outcome_text o) ≤ room) os
outcomes_within room le [] a = tt
outcomes_within room le (o ∷ os) a = (omega (arith, paired_length o a.0), outcomes_within room le os a.1)

-- the longest record that can be written has 784 bytes
pub texts_fit : (log : PlainLog) (room : ℕ) → CanBeWritten log → 784 ≤ room → TextsFit log room
texts_fit log room w le = record { intents = intents_within room le log.intents w.intents; outcomes = outcomes_within room le log.outcomes w.outcomes }

-- a text has no more than 1056 bytes for each of its intents
pub few_bytes : (is : List PlainIntent) (os : List PlainOutcome) → AllByRecursion (λ i. Fits i.packet) is → AllByRecursion HasPairs os → length (records_text is os) ≤ 1056 * length is
few_bytes [] os a b = omega arith
few_bytes (i ∷ is) [] a b = omega (arith, length-append (intent_text i) (records_text is []), fitting_length i a.0, few_bytes is [] a.1 tt)
few_bytes (i ∷ is) (o ∷ os) a b =
    omega (arith, length-append (intent_text i) (outcome_text o ++ records_text is os), length-append (outcome_text o) (records_text is os), fitting_length i a.0, paired_length o b.0, few_bytes is os a.1 b.1)

-- ---- what some log says can be written

intents_fit : (client : ℕ) (is : List PlainIntent) → AllByRecursion (λ i. IsIntent i × (i.packet.client ≡ client)) is → AllByRecursion (λ i. Fits i.packet) is
intents_fit client [] a = tt
intents_fit client (i ∷ is) a = (a.0.0.packet.fits, intents_fit client is a.1)

outcomes_have_pairs : (os : List PlainOutcome) → AllByRecursion IsOutcome os → AllByRecursion HasPairs os
outcomes_have_pairs [] a = tt
outcomes_have_pairs (o ∷ os) a = (a.0.count, outcomes_have_pairs os a.1)

pub views_can_be_written : ViewsCanBeWritten
views_can_be_written client log view =
    let v = view_is client log view in
    let fit = intents_fit client log.intents v.intents in
    let paired = outcomes_have_pairs log.outcomes v.outcomes in
    record {
      intents = fit;
      outcomes = paired;
      most = v.most;
      least = v.least;
      places = omega (arith, few_intents client log v, few_bytes log.intents log.outcomes fit paired);
    }
