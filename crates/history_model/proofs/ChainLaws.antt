-- Chains of values are serial runs.
use Rattle.std.proofs.Common.{◌≡◌, ℕ, ℤ, pos, Bool, true, false, List, [], ◌∷◌, ◌++◌, map, MatchBool, if◌then◌else◌, ◌==◌, refl, sym, ap, ap₂, subst, ◌∙◌, arith, append_assoc, append-nil}
use Rattle.std.specs.FinMap as fin
use Rattle.std.proofs.lemmas.Bool.Decides.{nat_tests}
use Rattle.txn_model.specs.Needs.{needs_list}
use Rattle.txn_model.specs.Tuples.{Tuples, value_at}
use Rattle.txn_model.specs.Serial.{operand, effect, pair_of, serial, serial_from, serial_run}
use Rattle.txn_model.specs.declared.op.Op.{Op}
use Rattle.txn_model.specs.declared.op.TupleId.{TupleId}
use Rattle.txn_model.specs.declared.pairs.Pair.{Pair}
pub use Rattle.txn_model.proofs.Values.{value_at-insert}
use Rattle.history_model.specs.Chain.{Answered, Step, steps_of, all_steps, IsLocalFrom, Chain, last_value, HasChains, IsRunOf}

itself : (n : ℕ) → (n == n) ≡ true
itself n = grind (arith, nat_tests)

-- where the tuple is named, the chain goes through the step
at_named : (b : Bool) (P Q : Type 0) → b ≡ true → MatchBool b P Q → P
at_named true P Q e h = h
at_named false P Q e h = cc

chain_after : (b : Bool) (t : TupleId) (v w : ℤ) (p : Pair) (steps : List Step) → MatchBool b ((p.was ≡ v) × Chain t p.now steps) (Chain t v steps) → w ≡ (if b then p.now else v) → Chain t w steps
chain_after true t v w p steps h e = subst (λ (x : ℤ). Chain t x steps) (sym e) h.1
chain_after false t v w p steps h e = subst (λ (x : ℤ). Chain t x steps) (sym e) h

chain_before : (b : Bool) (t : TupleId) (v w : ℤ) (p : Pair) (steps : List Step) → (b ≡ true → p.was ≡ v) → w ≡ (if b then p.now else v) → Chain t w steps → MatchBool b ((p.was ≡ v) × Chain t p.now steps) (Chain t v steps)
chain_before true t v w p steps found e h = (found refl, subst (λ (x : ℤ). Chain t x steps) e h)
chain_before false t v w p steps found e h = subst (λ (x : ℤ). Chain t x steps) e h

-- what a script's chains say of its serial execution: its reply, and the chains and last values of the steps behind it
pub record RunsAs (done : List Pair) (ops : List Op) (ps : List Pair) (m : Tuples) (rest : List Step) : Type 0 where
  pub reply : (serial_from ops done m).reply ≡ done ++ ps
  pub chains : (t : TupleId) → Chain t (value_at (serial_from ops done m).after t) rest
  pub last : (t : TupleId) → last_value t (value_at m t) (steps_of ops ps ++ rest) ≡ last_value t (value_at (serial_from ops done m).after t) rest

pub script_from_chains : (ops : List Op) (ps : List Pair) (done : List Pair) (m : Tuples) (rest : List Step) → IsLocalFrom done ops ps → ((t : TupleId) → Chain t (value_at m t) (steps_of ops ps ++ rest)) → RunsAs done ops ps m rest
unfolding serial_from
script_from_chains [] [] done m rest local chains = record { reply = sym (append-nil done); chains = chains; last = λ t. refl }
script_from_chains [] (p ∷ ps) done m rest local chains = absurd local
script_from_chains (op ∷ ops) [] done m rest local chains = absurd local
script_from_chains (op ∷ ops) (p ∷ ps) done m rest local chains =
    let was : p.was ≡ value_at m op.tuple = (at_named (op.tuple.0 == op.tuple.0) _ _ (itself op.tuple.0) (chains op.tuple)).0 in
    let q = pair_of op done (value_at m op.tuple) in
    let now : p.now ≡ q.now = local.0 ∙ ap (λ (v : ℤ). effect op.act v (operand (needs_list op.needs) (pos 0) done)) was in
    let same : p ≡ q = λ i. record { was = was i; now = now i } in
    let next = fin.insert m op.tuple q.now in
    let values : (t : TupleId) → value_at next t ≡ (if op.tuple.0 == t.0 then p.now else value_at m t) = λ t. value_at-insert m op.tuple q.now t ∙ ap (λ (v : ℤ). if op.tuple.0 == t.0 then v else value_at m t) (sym now) in
    let after = script_from_chains ops ps (done ++ q ∷ []) next rest (subst (λ (x : Pair). IsLocalFrom (done ++ x ∷ []) ops ps) same local.1) (λ t. chain_after (op.tuple.0 == t.0) t (value_at m t) (value_at next t) p (steps_of ops ps ++ rest) (chains t) (values t)) in
    record {
      reply = after.reply ∙ append_assoc done (q ∷ []) ps ∙ ap (λ (x : Pair). done ++ x ∷ ps) (sym same);
      chains = after.chains;
      last = λ t. ap (λ (v : ℤ). last_value t v (steps_of ops ps ++ rest)) (sym (values t)) ∙ after.last t;
    }

-- local scripts whose values form chains are a serial run
pub run_from_chains : (h : List Answered) (m : Tuples) → HasChains h m → IsRunOf h m
unfolding serial_run
run_from_chains [] m c = record { replies = refl; last = λ t. refl }
run_from_chains (e ∷ es) m c =
    let first = script_from_chains e.0 e.1 [] m (all_steps es) c.local.0 c.chains in
    let after = (serial e.0 m).after in
    let rest = run_from_chains es after (record { local = c.local.1; chains = first.chains }) in
    record {
      replies = ap₂ (λ (r : List Pair) (rs : List (List Pair)). r ∷ rs) first.reply rest.replies;
      last = λ t. rest.last t ∙ sym (first.last t);
    }

-- the pairs that a script's operations get, behind those in done
abbrev pub added : List Op → List Pair → Tuples → List Pair
added [] done m = []
added (op ∷ ops) done m = let q = pair_of op done (value_at m op.tuple) in q ∷ added ops (done ++ q ∷ []) (fin.insert m op.tuple q.now)

pub reply-added : (ops : List Op) (done : List Pair) (m : Tuples) → (serial_from ops done m).reply ≡ done ++ added ops done m
unfolding serial_from
reply-added [] done m = sym (append-nil done)
reply-added (op ∷ ops) done m =
    let q = pair_of op done (value_at m op.tuple) in
    reply-added ops (done ++ q ∷ []) (fin.insert m op.tuple q.now) ∙ append_assoc done (q ∷ []) (added ops (done ++ q ∷ []) (fin.insert m op.tuple q.now))

pub local-added : (ops : List Op) (done : List Pair) (m : Tuples) → IsLocalFrom done ops (added ops done m)
local-added [] done m = tt
local-added (op ∷ ops) done m = let q = pair_of op done (value_at m op.tuple) in (refl, local-added ops (done ++ q ∷ []) (fin.insert m op.tuple q.now))

same_tuple : (a b : TupleId) → (a.0 == b.0) ≡ true → a ≡ b
same_tuple a b e = let n : a.0 ≡ b.0 = grind (arith, nat_tests) in ap (λ (k : ℕ). record { 0 = k }) n

pub chains-added : (ops : List Op) (done : List Pair) (m : Tuples) (rest : List Step) → ((t : TupleId) → Chain t (value_at (serial_from ops done m).after t) rest) → (t : TupleId) → Chain t (value_at m t) (steps_of ops (added ops done m) ++ rest)
unfolding serial_from
chains-added [] done m rest chains t = chains t
chains-added (op ∷ ops) done m rest chains t =
    let q = pair_of op done (value_at m op.tuple) in
    let next = fin.insert m op.tuple q.now in
    chain_before (op.tuple.0 == t.0) t (value_at m t) (value_at next t) q _ (λ e. ap (value_at m) (same_tuple op.tuple t e)) (value_at-insert m op.tuple q.now t) (chains-added ops (done ++ q ∷ []) next rest chains t)

-- a serial run with these replies is local, and its values form chains
pub chains_from_run : (h : List Answered) (m : Tuples) → (serial_run (map (λ e. e.0) h) m).replies ≡ map (λ e. e.1) h → HasChains h m
unfolding serial_run
chains_from_run [] m e = record { local = tt; chains = λ t. tt }
chains_from_run (x ∷ xs) m e =
    let after = (serial x.0 m).after in
    let first : added x.0 [] m ≡ x.1 = sym (reply-added x.0 [] m) ∙ cc in
    let rest = chains_from_run xs after cc in
    record {
      local = (subst (λ (ps : List Pair). IsLocalFrom [] x.0 ps) first (local-added x.0 [] m), rest.local);
      chains = λ t. subst (λ (ps : List Pair). Chain t (value_at m t) (steps_of x.0 ps ++ all_steps xs)) first (chains-added x.0 [] m (all_steps xs) rest.chains t);
    }
