-- Bytes say one thing.
use Rattle.std.proofs.Common.{◌≡◌, ℕ, ◌+◌, ◌<◌, Bool, true, false, List, [], ◌∷◌, ◌++◌, length, refl, sym, ap, subst, ◌∙◌, append_assoc, arith}
use Rattle.std.specs.List.{flat_map}
use Rattle.std.proofs.lemmas.List.{append-nil, length-append}
use Rattle.switch_packet.specs.Fronts.{IsFront}
use Rattle.switch_packet.specs.Packets.{PlainIntent, PlainOutcome, PlainLog}
use Rattle.switch_packet.proofs.Exactness as exact
use Rattle.intent_log.specs.LogText.{intent_text, outcome_text, records_text, log_text}
use Rattle.intent_log.specs.Grammar.{Record, Intended, Answered, record_text, IsRecord, no_records, with_record, with_records, FitsBehind, FitInTurn, Ends, IsLog}
use Rattle.intent_log.specs.Reading.{record_at}
use Rattle.intent_log.specs.Laws.{LogsDiffer, LogsAreWhole, DamageHasOnePlace, LogsAreTexts, LogsGoOn}
use Rattle.intent_log.proofs.RecordCodecs.{record_codec, text_some}

abbrev pub text_of : List Record → List ℕ
text_of rs = flat_map record_text rs

pub records_differ : (r q : Record) (a b : List ℕ) → IsRecord r → IsRecord q → record_text r ++ a ≡ record_text q ++ b → (r ≡ q) × (a ≡ b)
records_differ r q a b v w e = exact.texts_differ record_text IsRecord record_at record_codec r q a b v w e

-- what begins with a record is no front of one
pub not_front : (r : Record) (rest left : List ℕ) → IsRecord r → left ≡ record_text r ++ rest → IsFront record_text IsRecord left → ⊥
not_front r rest left v e f =
    let same = records_differ f.whole r [] (rest ++ f.more) f.valid v (append-nil (record_text f.whole) ∙ f.parts ∙ ap (λ (b : List ℕ). b ++ f.more) e ∙ append_assoc (record_text r) rest f.more) in
    omega (arith, f.rest, ap length same.1, length-append rest f.more)

-- no record that fits goes on here
abbrev Stops : ℕ → PlainLog → List ℕ → Type 0
Stops client log left = (r : Record) (rest : List ℕ) → IsRecord r → FitsBehind client log r → left ≡ record_text r ++ rest → ⊥

no_record_ends : (torn : Bool) (left : List ℕ) (r : Record) (rest : List ℕ) → IsRecord r → Ends torn left → left ≡ record_text r ++ rest → ⊥
no_record_ends false left r rest v e h = omega (arith, text_some r, ap length (sym h ∙ e), length-append (record_text r) rest)
no_record_ends true left r rest v e h = not_front r rest left v h e.1

same_records : (client : ℕ) (log : PlainLog) (rs qs : List Record) (t u : List ℕ) → FitInTurn client log rs → FitInTurn client log qs
    → Stops client (with_records log rs) t → Stops client (with_records log qs) u → text_of rs ++ t ≡ text_of qs ++ u → (rs ≡ qs) × (t ≡ u)
same_records client log [] [] t u f g s h e = (refl, e)
same_records client log [] (q ∷ qs) t u f g s h e = absurd (s q (text_of qs ++ u) g.0 g.1 (e ∙ append_assoc (record_text q) (text_of qs) u))
same_records client log (r ∷ rs) [] t u f g s h e = absurd (h r (text_of rs ++ t) f.0 f.1 (sym e ∙ append_assoc (record_text r) (text_of rs) t))
same_records client log (r ∷ rs) (q ∷ qs) t u f g s h e =
    let same = records_differ r q (text_of rs ++ t) (text_of qs ++ u) f.0 g.0 (sym (append_assoc (record_text r) (text_of rs) t) ∙ e ∙ append_assoc (record_text q) (text_of qs) u) in
    let fit = subst (λ (x : Record). FitInTurn client (with_record log x) qs) (sym same.0) g.2 in
    let stop = subst (λ (x : Record). Stops client (with_records (with_record log x) qs) u) (sym same.0) h in
    let rest = same_records client (with_record log r) rs qs t u f.2 fit s stop same.1 in
    (ap (λ (x : Record). x ∷ rs) same.0 ∙ ap (λ (xs : List Record). q ∷ xs) rest.0, rest.1)

log_stops : (client : ℕ) (bytes : List ℕ) (log : PlainLog) (a : IsLog client bytes log) → Stops client (with_records no_records a.records) a.left
log_stops client bytes log a r rest v f e = no_record_ends log.torn a.left r rest v a.ends e

same_ends : (a b : Bool) (left : List ℕ) → Ends a left → Ends b left → a ≡ b
same_ends false false left x y = refl
same_ends false true left x y = absurd (omega (arith, ap length x, y.0))
same_ends true false left x y = absurd (omega (arith, ap length y, x.0))
same_ends true true left x y = refl

-- what the records say, with a torn end or without
abbrev said : List Record → Bool → PlainLog
said rs torn = record (with_records no_records rs) { torn = torn }

pub logs_differ : LogsDiffer
logs_differ client bytes a b x y =
    let same = same_records client no_records x.records y.records x.left y.left x.fit y.fit (log_stops client bytes a x) (log_stops client bytes b y) (sym x.parts ∙ y.parts) in
    let torn = same_ends a.torn b.torn y.left (subst (Ends a.torn) same.1 x.ends) y.ends in
    x.says ∙ ap (λ (rs : List Record). said rs a.torn) same.0 ∙ ap (said y.records) torn ∙ sym y.says

not_damaged : (torn : Bool) (left : List ℕ) → Ends torn left → 0 < length left → ¬ IsFront record_text IsRecord left → ⊥
not_damaged false left e some none = omega (arith, ap length e)
not_damaged true left e some none = none e.1

pub logs_are_whole : LogsAreWhole
logs_are_whole client bytes log at x y =
    let same = same_records client no_records x.records y.records x.left y.left x.fit y.fit (log_stops client bytes log x) y.no_record (sym x.parts ∙ y.parts) in
    not_damaged log.torn y.left (subst (Ends log.torn) same.1 x.ends) y.some y.no_front

pub damage_has_one_place : DamageHasOnePlace
damage_has_one_place client bytes a b x y =
    let same = same_records client no_records x.records y.records x.left y.left x.fit y.fit x.no_record y.no_record (sym x.parts ∙ y.parts) in
    x.place ∙ ap (λ (rs : List Record). length (text_of rs)) same.0 ∙ sym y.place

-- ---- the text of a log

intent_behind : (is : List PlainIntent) (os : List PlainOutcome) (i : PlainIntent) → length is ≡ length os → records_text (is ++ i ∷ []) os ≡ records_text is os ++ intent_text i
intent_behind [] [] i e = append-nil (intent_text i)
intent_behind [] (o ∷ os) i e = absurd (omega (arith, e))
intent_behind (j ∷ is) [] i e = absurd (omega (arith, e))
intent_behind (j ∷ is) (o ∷ os) i e =
    ap (λ (t : List ℕ). intent_text j ++ (outcome_text o ++ t)) (intent_behind is os i (omega (arith, e)))
    ∙ ap (λ (t : List ℕ). intent_text j ++ t) (sym (append_assoc (outcome_text o) (records_text is os) (intent_text i)))
    ∙ sym (append_assoc (intent_text j) (outcome_text o ++ records_text is os) (intent_text i))

outcome_behind : (is : List PlainIntent) (os : List PlainOutcome) (o : PlainOutcome) → length is ≡ length os + 1 → records_text is (os ++ o ∷ []) ≡ records_text is os ++ outcome_text o
outcome_behind [] os o e = absurd (omega (arith, e))
outcome_behind (i ∷ []) [] o e = ap (λ (t : List ℕ). intent_text i ++ t) (append-nil (outcome_text o)) ∙ ap (λ (t : List ℕ). t ++ outcome_text o) (sym (append-nil (intent_text i)))
outcome_behind (i ∷ j ∷ is) [] o e = absurd (omega (arith, e))
outcome_behind (i ∷ is) (p ∷ os) o e =
    ap (λ (t : List ℕ). intent_text i ++ (outcome_text p ++ t)) (outcome_behind is os o (omega (arith, e)))
    ∙ ap (λ (t : List ℕ). intent_text i ++ t) (sym (append_assoc (outcome_text p) (records_text is os) (outcome_text o)))
    ∙ sym (append_assoc (intent_text i) (outcome_text p ++ records_text is os) (outcome_text o))

text_behind : (client : ℕ) (log : PlainLog) (r : Record) → FitsBehind client log r → log_text (with_record log r) ≡ log_text log ++ record_text r
text_behind client log (Intended i) f = intent_behind log.intents log.outcomes i f.1
text_behind client log (Answered o) f = outcome_behind log.intents log.outcomes o f.0

texts_behind : (client : ℕ) (log : PlainLog) (rs : List Record) → FitInTurn client log rs → log_text (with_records log rs) ≡ log_text log ++ text_of rs
texts_behind client log [] f = sym (append-nil (log_text log))
texts_behind client log (r ∷ rs) f =
    texts_behind client (with_record log r) rs f.2 ∙ ap (λ (t : List ℕ). t ++ text_of rs) (text_behind client log r f.1) ∙ append_assoc (log_text log) (record_text r) (text_of rs)

pub logs_are_texts : LogsAreTexts
logs_are_texts client bytes log x =
    (x.left, x.ends, x.parts ∙ ap (λ (t : List ℕ). t ++ x.left) (sym (texts_behind client no_records x.records x.fit) ∙ ap log_text (sym x.says)))

-- ---- one record more

pub fit_more : (client : ℕ) (log : PlainLog) (rs : List Record) (r : Record) → FitInTurn client log rs → IsRecord r → FitsBehind client (with_records log rs) r → FitInTurn client log (rs ++ r ∷ [])
fit_more client log [] r f v g = (v, g, tt)
fit_more client log (q ∷ rs) r f v g = (f.0, f.1, fit_more client (with_record log q) rs r f.2 v g)

pub said_more : (log : PlainLog) (rs : List Record) (r : Record) → with_records log (rs ++ r ∷ []) ≡ with_record (with_records log rs) r
said_more log [] r = refl
said_more log (q ∷ rs) r = said_more (with_record log q) rs r

pub text_more : (rs : List Record) (r : Record) → text_of (rs ++ r ∷ []) ≡ text_of rs ++ record_text r
text_more [] r = append-nil (record_text r)
text_more (q ∷ rs) r = ap (λ (t : List ℕ). record_text q ++ t) (text_more rs r) ∙ sym (append_assoc (record_text q) (text_of rs) (record_text r))

ends_more : (log : PlainLog) (r : Record) → log.torn ≡ false → Ends (with_record log r).torn []
ends_more log (Intended i) e = subst (λ (b : Bool). Ends b []) (sym e) refl
ends_more log (Answered o) e = subst (λ (b : Bool). Ends b []) (sym e) refl

says_more : (log : PlainLog) (torn : Bool) (r : Record) → with_record (record log { torn = torn }) r ≡ record (with_record log r) { torn = (with_record (record log { torn = torn }) r).torn }
says_more log torn (Intended i) = refl
says_more log torn (Answered o) = refl

fits_still : (client : ℕ) (log : PlainLog) (torn : Bool) (r : Record) → FitsBehind client (record log { torn = torn }) r → FitsBehind client log r
fits_still client log torn (Intended i) f = f
fits_still client log torn (Answered o) f = f

log_more : (client : ℕ) (bytes : List ℕ) (log : PlainLog) (r : Record) → IsLog client bytes log → log.torn ≡ false → IsRecord r → FitsBehind client log r → IsLog client (bytes ++ record_text r) (with_record log r)
log_more client bytes log r x whole v f =
    let before = with_records no_records x.records in
    let none : x.left ≡ [] = subst (λ (b : Bool). Ends b x.left) whole x.ends in
    let fits = fits_still client before log.torn r (subst (λ (l : PlainLog). FitsBehind client l r) x.says f) in
    record {
      records = x.records ++ r ∷ [];
      left = [];
      parts = ap (λ (b : List ℕ). b ++ record_text r) (x.parts ∙ ap (λ (l : List ℕ). text_of x.records ++ l) none ∙ append-nil (text_of x.records)) ∙ sym (text_more x.records r)
          ∙ sym (append-nil (text_of (x.records ++ r ∷ [])));
      fit = fit_more client no_records x.records r x.fit v fits;
      ends = ends_more log r whole;
      says = subst (λ (l : PlainLog). with_record l r ≡ record (with_records no_records (x.records ++ r ∷ [])) { torn = (with_record l r).torn }) (sym x.says)
          (subst (λ (m : PlainLog). with_record (record before { torn = log.torn }) r ≡ record m { torn = (with_record (record before { torn = log.torn }) r).torn }) (sym (said_more no_records x.records r)) (says_more before log.torn r));
    }

pub logs_go_on : LogsGoOn
logs_go_on client = (record { records = []; left = []; parts = refl; fit = tt; ends = refl; says = refl }, log_more client)
