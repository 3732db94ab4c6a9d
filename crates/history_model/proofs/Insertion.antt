-- A script that is put into the middle of a serial run.
use Rattle.std.proofs.Common.{◌≡◌, ℤ, List, [], ◌∷◌, ◌++◌, map, refl, sym, ap, subst, ◌∙◌, append_assoc, append-nil}
use Rattle.std.specs.List.{AllByRecursion}
use Rattle.txn_model.specs.Tuples.{Tuples, value_at}
use Rattle.txn_model.specs.Serial.{serial, serial_run}
use Rattle.txn_model.specs.declared.op.Op.{Op}
use Rattle.txn_model.specs.declared.op.TupleId.{TupleId}
use Rattle.txn_model.specs.declared.pairs.Pair.{Pair}
use Rattle.history_model.specs.Chain.{Answered, Step, steps_of, all_steps, IsLocal, IsLocalFrom, Chain, last_value, MayStandBefore, map_after, answered_on, IsInserted}
use Rattle.history_model.proofs.ChainLaws.{run_from_chains, chains_from_run, reply-added, local-added, chains-added, script_from_chains}
use Rattle.history_model.proofs.InsertionLaws.{inserted, Inserted}

pub all_steps-append : (a b : List Answered) → all_steps (a ++ b) ≡ all_steps a ++ all_steps b
all_steps-append [] b = refl
all_steps-append (e ∷ a) b = ap (λ (l : List Step). steps_of e.0 e.1 ++ l) (all_steps-append a b) ∙ sym (append_assoc (steps_of e.0 e.1) (all_steps a) (all_steps b))

pub local_append : (a b : List Answered) → AllByRecursion IsLocal (a ++ b) → (e : Answered) → IsLocal e → AllByRecursion IsLocal (a ++ e ∷ b)
local_append [] b h e local = (local, h)
local_append (x ∷ a) b h e local = (h.0, local_append a b h.1 e local)

-- a script's reply on a map is local, and a chain from the map's values on
reply_is_local : (script : List Op) (m : Tuples) → IsLocal (answered_on m script)
reply_is_local script m = subst (λ (ps : List Pair). IsLocalFrom [] script ps) (sym (reply-added script [] m)) (local-added script [] m)

reply_is_chain : (script : List Op) (m : Tuples) (t : TupleId) → Chain t (value_at m t) (steps_of script (serial script m).reply)
reply_is_chain script m t =
    subst (λ (l : List Step). Chain t (value_at m t) l) (append-nil _ ∙ ap (steps_of script) (sym (reply-added script [] m))) (chains-added script [] m [] (λ u. tt) t)

-- the value that a script leaves at a tuple
pub value_at-serial : (script : List Op) (m : Tuples) (t : TupleId) → value_at (serial script m).after t ≡ last_value t (value_at m t) (steps_of script (serial script m).reply)
value_at-serial script m t =
    let e = answered_on m script in
    let chain : (u : TupleId) → Chain u (value_at m u) (steps_of script e.1 ++ []) = λ u. subst (λ (l : List Step). Chain u (value_at m u) l) (sym (append-nil _)) (reply_is_chain script m u) in
    sym ((script_from_chains script e.1 [] m [] (reply_is_local script m) chain).last t) ∙ ap (last_value t (value_at m t)) (append-nil (steps_of script e.1))

-- where each tuple allows it, the script put in the middle is answered as it is behind all, and all others as before
pub insertion : (a b : List Answered) (m : Tuples) (script : List Op) → (serial_run (map (λ e. e.0) (a ++ b)) m).replies ≡ map (λ e. e.1) (a ++ b)
    → ((t : TupleId) → MayStandBefore t (steps_of script (answered_on (map_after (a ++ b) m) script).1) (all_steps b))
    → IsInserted a b script m
insertion a b m script replies may =
    let before = map_after (a ++ b) m in
    let e = answered_on before script in
    let steps = steps_of script e.1 in
    let old = chains_from_run (a ++ b) m replies in
    let run = run_from_chains (a ++ b) m old in
    let parts = all_steps-append a b in
    let at : (t : TupleId) → value_at before t ≡ last_value t (value_at m t) (all_steps a ++ all_steps b) = λ t. run.last t ∙ ap (last_value t (value_at m t)) parts in
    let each : (t : TupleId) → Inserted t (value_at m t) (all_steps a) steps (all_steps b) = λ t. inserted t (value_at m t) (all_steps a) steps (all_steps b) (may t) (subst (λ (l : List Step). Chain t (value_at m t) l) parts (old.chains t))
    (subst (λ (v : ℤ). Chain t v steps) (at t) (reply_is_chain script before t)) in
    let whole = run_from_chains (a ++ e ∷ b) m (record {
      local = local_append a b old.local e (reply_is_local script before);
      chains = λ t. subst (λ (l : List Step). Chain t (value_at m t) l) (sym (all_steps-append a (e ∷ b))) (each t).chain;
    }) in
    record {
      run = whole;
      last = λ t. whole.last t ∙ ap (last_value t (value_at m t)) (all_steps-append a (e ∷ b)) ∙ (each t).last ∙ ap (λ (v : ℤ). last_value t v steps) (sym (at t)) ∙ sym (value_at-serial script before t);
    }
