-- Steps that are put into the middle of others keep the chains.
use Rattle.std.proofs.Common.{◌≡◌, ℤ, Bool, true, false, List, [], ◌∷◌, ◌++◌, MatchBool, if◌then◌else◌, inl, inr, refl, sym, ap, subst, ◌∙◌}
use Rattle.txn_model.specs.declared.op.TupleId.{TupleId}
use Rattle.txn_model.specs.declared.pairs.Pair.{Pair}
use Rattle.history_model.specs.Chain.{Step, names_tuple, Chain, last_value, IsAbsent, IsQuiet, MayStandBefore}

pub last_value-append : (t : TupleId) (v : ℤ) (a b : List Step) → last_value t v (a ++ b) ≡ last_value t (last_value t v a) b
last_value-append t v [] b = refl
last_value-append t v (s ∷ a) b = last_value-append t (if names_tuple t s then s.1.now else v) a b

-- one step more in front of a chain
chain_step : (b : Bool) (t : TupleId) (v : ℤ) (p : Pair) (steps more : List Step)
    → ((w : ℤ) → Chain t w steps → Chain t w more) → MatchBool b ((p.was ≡ v) × Chain t p.now steps) (Chain t v steps) → MatchBool b ((p.was ≡ v) × Chain t p.now more) (Chain t v more)
chain_step true t v p steps more f h = (h.0, f p.now h.1)
chain_step false t v p steps more f h = f v h

pub chain_front : (t : TupleId) (v : ℤ) (a b : List Step) → Chain t v (a ++ b) → Chain t v a
chain_front t v [] b h = tt
chain_front t v (s ∷ a) b h = chain_step (names_tuple t s) t v s.1 (a ++ b) a (λ w. chain_front t w a b) h

rest_step : (c : Bool) (t : TupleId) (v : ℤ) (p : Pair) (a b : List Step)
    → ((w : ℤ) → Chain t w (a ++ b) → Chain t (last_value t w a) b) → MatchBool c ((p.was ≡ v) × Chain t p.now (a ++ b)) (Chain t v (a ++ b)) → Chain t (last_value t (if c then p.now else v) a) b
rest_step true t v p a b f k = f p.now k.1
rest_step false t v p a b f k = f v k

pub chain_rest : (t : TupleId) (v : ℤ) (a b : List Step) → Chain t v (a ++ b) → Chain t (last_value t v a) b
chain_rest t v [] b h = h
chain_rest t v (s ∷ a) b h = rest_step (names_tuple t s) t v s.1 a b (λ w. chain_rest t w a b) h

append_step : (c : Bool) (t : TupleId) (v : ℤ) (p : Pair) (a b : List Step)
    → ((w : ℤ) → Chain t w a → Chain t (last_value t w a) b → Chain t w (a ++ b)) → MatchBool c ((p.was ≡ v) × Chain t p.now a) (Chain t v a) → Chain t (last_value t (if c then p.now else v) a) b
    → MatchBool c ((p.was ≡ v) × Chain t p.now (a ++ b)) (Chain t v (a ++ b))
append_step true t v p a b f k r = (k.0, f p.now k.1 r)
append_step false t v p a b f k r = f v k r

pub chain_append : (t : TupleId) (v : ℤ) (a b : List Step) → Chain t v a → Chain t (last_value t v a) b → Chain t v (a ++ b)
chain_append t v [] b front rest = rest
chain_append t v (s ∷ a) b front rest = append_step (names_tuple t s) t v s.1 a b (λ w. chain_append t w a b) front rest

-- steps that don't name the tuple are a chain from any value, and leave it
pub absent_chain : (t : TupleId) (v : ℤ) (steps : List Step) → IsAbsent t steps → Chain t v steps × (last_value t v steps ≡ v)
absent_chain t v [] h = (tt, refl)
absent_chain t v (s ∷ steps) h =
    let rest = absent_chain t v steps h.1 in (
      subst (λ (b : Bool). MatchBool b ((s.1.was ≡ v) × Chain t s.1.now steps) (Chain t v steps)) (sym h.0) rest.0,
      ap (λ (b : Bool). last_value t (if b then s.1.now else v) steps) h.0 ∙ rest.1,
    )

quiet_step : (b : Bool) (t : TupleId) (v : ℤ) (p : Pair) (steps : List Step)
    → ((w : ℤ) → Chain t w steps → last_value t w steps ≡ w) → (b ≡ true → p.now ≡ p.was) → MatchBool b ((p.was ≡ v) × Chain t p.now steps) (Chain t v steps) → last_value t (if b then p.now else v) steps ≡ v
quiet_step true t v p steps f same k = f p.now k.1 ∙ same refl ∙ k.0
quiet_step false t v p steps f same k = f v k

-- steps that leave the tuple leave its value
pub quiet_last : (t : TupleId) (v : ℤ) (steps : List Step) → IsQuiet t steps → Chain t v steps → last_value t v steps ≡ v
quiet_last t v [] quiet chain = refl
quiet_last t v (s ∷ steps) quiet chain = quiet_step (names_tuple t s) t v s.1 steps (λ w. quiet_last t w steps quiet.1) quiet.0 chain

-- the chains and the last value after steps were put before others, where they go on from the last value as it was
pub record Inserted (t : TupleId) (v : ℤ) (a inserted b : List Step) : Type 0 where
  pub chain : Chain t v (a ++ (inserted ++ b))
  pub last : last_value t v (a ++ (inserted ++ b)) ≡ last_value t (last_value t v (a ++ b)) inserted

pub inserted : (t : TupleId) (v : ℤ) (a e b : List Step) → MayStandBefore t e b → Chain t v (a ++ b) → Chain t (last_value t v (a ++ b)) e → Inserted t v a e b
inserted t v a e b may chain more =
    let mid = last_value t v a in
    let front = chain_front t v a b chain in
    let rest = chain_rest t v a b chain in
    let whole = last_value-append t v a b in
    -- with the steps from the value before the others on, and the others from what they leave
    let join : Chain t mid e → Chain t (last_value t mid e) b → Chain t v (a ++ (e ++ b)) = λ first second. chain_append t v a (e ++ b) front (chain_append t mid e b first second) in
    let ends : last_value t v (a ++ (e ++ b)) ≡ last_value t (last_value t mid e) b = last_value-append t v a (e ++ b) ∙ last_value-append t mid e b in
    elim may [
      | inl absent ↦
          let left = absent_chain t mid e absent in
          record {
            chain = join left.0 (subst (λ (w : ℤ). Chain t w b) (sym left.1) rest);
            last = ends ∙ ap (λ (w : ℤ). last_value t w b) left.1 ∙ sym whole ∙ sym (absent_chain t (last_value t v (a ++ b)) e absent).1;
          }
      | inr others ↦ elim others [
        | inl quiet ↦
            let same : last_value t v (a ++ b) ≡ mid = whole ∙ quiet_last t mid b quiet.1 rest in
            let first = subst (λ (w : ℤ). Chain t w e) same more in
            let kept = quiet_last t mid e quiet.0 first in
            record {
              chain = join first (subst (λ (w : ℤ). Chain t w b) (sym kept) rest);
              last = ends ∙ ap (λ (w : ℤ). last_value t w b) kept ∙ quiet_last t mid b quiet.1 rest ∙ sym kept ∙ ap (λ (w : ℤ). last_value t w e) (sym same);
            }
        | inr absent ↦
            let same : last_value t v (a ++ b) ≡ mid = whole ∙ (absent_chain t mid b absent).1 in
            let first = subst (λ (w : ℤ). Chain t w e) same more in
            let left = absent_chain t (last_value t mid e) b absent in
            record {
              chain = join first left.0;
              last = ends ∙ left.1 ∙ ap (λ (w : ℤ). last_value t w e) (sym same);
            }
      ]
    ]
