-- The steps of a script with its pairs, and those of a history.
use Rattle.std.proofs.Common.{◌≡◌, ℕ, zero, suc, ℤ, ◌==◌, ◌&&◌, ◌||◌, Bool, true, false, not, List, [], ◌∷◌, ◌++◌, slice_get, unwrap_or, Some, if◌then◌else◌, refl, sym, ap, subst, ◌∙◌, arith}
use Rattle.std.specs.List.{AllByRecursion}
use Rattle.txn_model.specs.ScriptCheck.{names, is_read}
use Rattle.txn_model.specs.Serial.{effect}
use Rattle.txn_model.specs.declared.op.Act.{Act}
use Rattle.txn_model.specs.declared.op.Act.TheVariants.{Read, Put, Add, Choose}
use Rattle.txn_model.specs.declared.op.Op.{Op}
use Rattle.txn_model.specs.declared.op.TupleId.{TupleId}
use Rattle.txn_model.specs.declared.pairs.Pair.{Pair}
use Rattle.history_model.specs.Chain.{Step, steps_of, all_steps, names_tuple, last_value, IsLocal, IsLocalFrom, IsAbsent, IsQuiet}
use Rattle.history_model.proofs.InsertionLaws.{absent_chain}
use Rattle.history_model.specs.History.{History}
use Rattle.catalogue.specs.Plan.{Plan}
use Rattle.core_model.specs.Facts.{answered, script_of_entry, writes}
use Rattle.core_model.proofs.Decided.{IsDistinct, same_names, absent-steps_of}

pub all_append : {X : Type 0} (P : X → Type 0) (a b : List X) → AllByRecursion P a → AllByRecursion P b → AllByRecursion P (a ++ b)
all_append P [] b ha hb = hb
all_append P (x ∷ a) b ha hb = (ha.0, all_append P a b ha.1 hb)

pub all_behind : {X : Type 0} (P : X → Type 0) (a b : List X) → AllByRecursion P (a ++ b) → AllByRecursion P b
all_behind P [] b h = h
all_behind P (x ∷ a) b h = all_behind P a b h.1

-- equal steps have equal parts
pub some_step : (a b : Step) → Some a ≡ Some b → (a.0 ≡ b.0) × (a.1 ≡ b.1)
some_step a b e = let same : a ≡ b = cc in (ap (λ (s : Step). s.0) same, ap (λ (s : Step). s.1) same)

-- an operation of the script on a tuple that it names
pub record Named (ops : List Op) (t : TupleId) : Type 0 where
  pub k : ℕ
  pub op : Op
  pub at : slice_get ops k ≡ Some op
  pub on : (op.tuple.0 == t.0) ≡ true

pub named : (ops : List Op) (t : TupleId) → names ops t ≡ true → Named ops t
named [] t h = cc
named (o ∷ ops) t h =
    elim (o.tuple.0 == t.0) as (λ b. (o.tuple.0 == t.0) ≡ b → (b || names ops t) ≡ true → Named (o ∷ ops) t) [
      | true ↦ λ on e. record { k = 0; op = o; at = refl; on = on }
      | false ↦ λ on e. let rest = named ops t e in record { k = suc rest.k; op = rest.op; at = rest.at; on = rest.on }
    ] refl h

-- a read leaves what it finds
effect-read : (act : Act) (was s : ℤ) → is_read act ≡ true → effect act was s ≡ was
unfolding effect
effect-read Read was s h = refl
effect-read (Put base) was s h = cc
effect-read (Add base) was s h = cc
effect-read (Choose limit above below) was s h = cc

-- a step of a script that reads leaves what it finds
pub read_leaves : (done : List Pair) (ops : List Op) (reply : List Pair) (k : ℕ) (op : Op) (p : Pair) → IsLocalFrom done ops reply → slice_get (steps_of ops reply) k ≡ Some (op, p) → is_read op.act ≡ true → p.now ≡ p.was
read_leaves done [] reply k op p local e read = cc
read_leaves done (o ∷ ops) [] k op p local e read = cc
read_leaves done (o ∷ ops) (q ∷ reply) zero op p local e read =
    let ho : o ≡ op = (some_step (o, q) (op, p) e).0 in
    let hp : q ≡ p = (some_step (o, q) (op, p) e).1 in
    subst (λ (x : Pair). x.now ≡ x.was) hp (local.0 ∙ effect-read o.act q.was _ (ap (λ (x : Op). is_read x.act) ho ∙ read))
read_leaves done (o ∷ ops) (q ∷ reply) (suc k) op p local e read = read_leaves (done ++ q ∷ []) ops reply k op p local.1 e read

-- a script that doesn't change the tuple is quiet there
pub quiet-steps_of : (t : TupleId) (done : List Pair) (ops : List Op) (reply : List Pair) → IsLocalFrom done ops reply → writes ops t ≡ false → IsQuiet t (steps_of ops reply)
quiet-steps_of t done [] reply local none = tt
quiet-steps_of t done (o ∷ ops) [] local none = tt
quiet-steps_of t done (o ∷ ops) (p ∷ reply) local none =
    let parts = split (o.tuple.0 == t.0) (is_read o.act) (writes ops t) none in
    (λ on. local.0 ∙ effect-read o.act p.was _ (parts.0 on), quiet-steps_of t (done ++ p ∷ []) ops reply local.1 parts.1)
  where
    split : (s r w : Bool) → (s && not r || w) ≡ false → (s ≡ true → r ≡ true) × (w ≡ false)
    split true true w e = (λ _. refl, e)
    split true false w e = cc
    split false r w e = (λ f. cc, e)

-- the entries that don't name a tuple, and those that don't change it
pub absent-answered : (plan : Plan) (t : TupleId) (h : History) → AllByRecursion (λ e. names (script_of_entry plan e) t ≡ false) h → IsAbsent t (all_steps (answered plan h))
absent-answered plan t [] all = tt
absent-answered plan t (e ∷ h) all = all_append (λ s. names_tuple t s ≡ false) (steps_of (script_of_entry plan e) (unwrap_or e.pairs [])) (all_steps (answered plan h)) (absent-steps_of t (script_of_entry plan e) (unwrap_or e.pairs []) all.0) (absent-answered plan t h all.1)

pub quiet-answered : (plan : Plan) (t : TupleId) (h : History) → AllByRecursion IsLocal (answered plan h) → AllByRecursion (λ e. writes (script_of_entry plan e) t ≡ false) h → IsQuiet t (all_steps (answered plan h))
quiet-answered plan t [] local all = tt
quiet-answered plan t (e ∷ h) local all = all_append (λ s. names_tuple t s ≡ true → s.1.now ≡ s.1.was) (steps_of (script_of_entry plan e) (unwrap_or e.pairs [])) (all_steps (answered plan h)) (quiet-steps_of t [] (script_of_entry plan e) (unwrap_or e.pairs []) local.0 all.0) (quiet-answered plan t h local.1 all.1)

-- the last value at a tuple that a script names once is what that step leaves
pub last_at : (ops : List Op) (reply : List Pair) (v : ℤ) (k : ℕ) (op : Op) (p : Pair) → IsDistinct ops → slice_get (steps_of ops reply) k ≡ Some (op, p) → last_value op.tuple v (steps_of ops reply) ≡ p.now
last_at [] reply v k op p distinct e = cc
last_at (o ∷ ops) [] v k op p distinct e = cc
last_at (o ∷ ops) (q ∷ reply) v zero op p distinct e =
    let ho : o ≡ op = (some_step (o, q) (op, p) e).0 in
    let hp : q ≡ p = (some_step (o, q) (op, p) e).1 in
    let t = op.tuple in
    let here : (o.tuple.0 == t.0) ≡ true = ap (λ (x : Op). o.tuple.0 == x.tuple.0) (sym ho) ∙ itself o.tuple.0 in
    ap (λ (b : Bool). last_value t (if b then q.now else v) (steps_of ops reply)) here
    ∙ (absent_chain t q.now (steps_of ops reply) (absent-steps_of t ops reply (same_names ops o.tuple t here distinct.0))).1
    ∙ ap (λ (x : Pair). x.now) hp
  where
    itself : (n : ℕ) → (n == n) ≡ true
    itself n = grind (arith)
last_at (o ∷ ops) (q ∷ reply) v (suc k) op p distinct e = last_at ops reply (if o.tuple.0 == op.tuple.0 then q.now else v) k op p distinct.1 e

pub unless : (b : Bool) → (b ≡ true → ⊥) → b ≡ false
unless true f = absurd (f refl)
unless false f = refl
