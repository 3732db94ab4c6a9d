use Rattle.std.proofs.Common.{◌≡◌, List, [], IfOk, OnOk, Ok, Err, Result, option_map, unwrap_or, sym, ap, subst, ◌∙◌, arith}
use Rattle.txn_model.specs.declared.pairs.Pair.{Pair}
use Rattle.txn_model.proofs.SerialLaws.{sound_length}
use Rattle.catalogue.specs.PlanOf.{plan_of}
use Rattle.catalogue.proofs.SoundLaws.{sound_script}
use Rattle.catalogue.specs.Plan.{script_at}
use Rattle.history_core.proofs.Running.{empty_reply, empty_after}
use Rattle.history_core.proofs.legal.run_item.Goals as goal

on_ok : {T E : Type 0} (r : Result T E) (P : Type 0) → P → OnOk r P
on_ok (Ok x) P p = p
on_ok (Err e) P p = tt

pub returns-in_default-clause-reply : goal.returns-in_default-clause-reply
returns-in_default-clause-reply c =
    let none = ap (λ o. unwrap_or o []) (sym c.script.ensures ∙ ap (option_map (λ script. script.now.items)) c.in_default.is) in
    subst (λ (reply : List Pair). IfOk c.zeros.result (λ pairs. pairs.items ≡ reply)) (empty_reply (script_at (plan_of c.args.session.now) c.args.entry.now.client c.args.entry.now.seq) c.args.tuples.now none) c.zeros.ensures

pub returns-in_default-clause-tuples : goal.returns-in_default-clause-tuples
returns-in_default-clause-tuples c =
    let none = ap (λ o. unwrap_or o []) (sym c.script.ensures ∙ ap (option_map (λ script. script.now.items)) c.in_default.is) in
    on_ok c.zeros.result _ (empty_after (script_at (plan_of c.args.session.now) c.args.entry.now.client c.args.entry.now.seq) c.args.tuples.now none)

pub overflow_cast-len : goal.overflow_cast-len
overflow_cast-len c =
    let found = sym c.script.ensures ∙ ap (option_map (λ script. script.now.items)) c.in-Some.is in
    omega (arith, c.len.ensures, sound_length c.in-Some.script.now.items (sound_script (plan_of c.args.session.now) c.args.entry.now.client c.args.entry.now.seq c.in-Some.script.now.items c.requires.sound found).script)

pub run_serial-requires-clause-fit : goal.run_serial-requires-clause-fit
run_serial-requires-clause-fit c =
    let found = sym c.script.ensures ∙ ap (option_map (λ script. script.now.items)) c.in-Some.is in
    (sound_script (plan_of c.args.session.now) c.args.entry.now.client c.args.entry.now.seq c.in-Some.script.now.items c.requires.sound found).script
