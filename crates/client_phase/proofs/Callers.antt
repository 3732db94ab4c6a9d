-- What callers know of the clients of a reached state.
use Rattle.std.proofs.Common.{◌≡◌, ◌≢◌, ◌⊎◌, ℕ, zero, suc, ◌-◌, ◌<◌, ◌≤◌, ◌==◌, Bool, true, false, not, List, [], ◌∷◌, length, slice_get, Option, None, Some, inl, inr, refl, sym, ap, subst, ◌∙◌, arith, if◌then◌else◌}
use Rattle.std.proofs.lemmas.Bool.Decides.{nat_tests}
use Rattle.std.proofs.lemmas.Option.{slice_get_past}
use Rattle.std.specs.List.{AllByRecursion}
use Rattle.std.specs.Option.{option_and_then, unwrap_or}
use Rattle.txn_model.specs.ScriptCheck.{script_fault}
use Rattle.txn_model.specs.declared.op.Op.{Op}
use Rattle.txn_model.specs.declared.pairs.Pair.{Pair}
use Rattle.stage_layout.specs.declared.layout.LayoutRow.{LayoutRow}
use Rattle.warm_split.specs.Parts.{IsParts}
use Rattle.warm_split.specs.Sides.{IsOneVisit}
use Rattle.warm_split.specs.declared.parts.Parts.{Parts}
use Rattle.catalogue.specs.Plan as catalogue
use Rattle.catalogue.specs.Plan.{Plan, PlainItem, items_of, item_of, script_in, script_of}
use Rattle.catalogue.proofs.SoundLaws.{sound_script}
use Rattle.core_model.specs.Locks.{cold_ops}
use Rattle.core_model.specs.State.{ClientState, script_now, zero_stamp}
use Rattle.core_model.specs.declared.phase.Phase.{Phase}
use Rattle.core_model.specs.declared.phase.Phase.TheVariants.{Ready, Locking, Aborting, Logged, Waiting, Installing, Finished}
use Rattle.fabric_model.specs.ColdFacts.{FitsPhase}
use Rattle.fabric_model.specs.Laws.{IsReached}
use Rattle.fabric_model.specs.State.{State, client_at}
use Rattle.fabric_model.specs.Step.{has_hot, next_op}
use Rattle.fabric_model.proofs.Legal.{facts_now}
use Rattle.fabric_model.proofs.Present.{present_of}
use Rattle.client_phase.specs.ColdNumbers.{cold_count, cold_number, is_cold}
use Rattle.client_phase.specs.Fits.{Fits, FitsScript, FitsAny}
use Rattle.client_phase.specs.Laws.{HasParts, IsAtScript, IsAt, ClientsFit, ClientsFitTheirScripts}
use Rattle.client_phase.specs.Shown.{shown, shown_pairs, shown_met, shown_now}
use Rattle.client_phase.proofs.Found.{length-taking}
use Rattle.client_phase.proofs.Making.{IsMade, made_of}
use Rattle.client_phase.proofs.Models.{number_is, commits_are_the_models}
use Rattle.client_phase.proofs.Rows.{count_is}
use Rattle.client_phase.proofs.Stamps.{greatest-within}

-- the operations of an item, where it is a script
abbrev ops_in : Option PlainItem → List Op
ops_in o = unwrap_or (option_and_then script_in o) []

none_past : {X : Type 0} (xs : List X) (i : ℕ) → slice_get xs i ≡ None → length xs ≤ i
none_past [] i e = omega arith
none_past (x ∷ xs) zero e = cc
none_past (x ∷ xs) (suc i) e = omega (arith, none_past xs i e)

above : (a : ℕ) → 0 < a → (a == 0) ≡ false
above a lt = grind (arith, nat_tests)

-- an item that isn't there is behind the last one
no_item : (plan : Plan) (c seq : ℕ) → 1 ≤ seq → item_of plan c seq ≡ None → length (items_of plan c) < seq
no_item plan c seq one e =
    let past = none_past (items_of plan c) (seq - 1) (sym (ap (λ (b : Bool). if b then None else slice_get (items_of plan c) (seq - 1)) (above seq one)) ∙ e) in
    omega (arith, one, past)

item_past : (plan : Plan) (c seq : ℕ) → length (items_of plan c) < seq → item_of plan c seq ≡ None
item_past plan c seq lt =
    ap (λ (b : Bool). if b then None else slice_get (items_of plan c) (seq - 1)) (above seq (omega (arith, lt))) ∙ slice_get_past (items_of plan c) (seq - 1) (omega (arith, lt))

-- a client of a reached state at a script with these parts
pub at_script : (plan : Plan) (s : State) (c : ℕ) (parts : Parts) (ops : List Op) → IsReached plan s → item_of plan c (client_at s c).seq ≡ Some (catalogue.Run ops) → IsParts plan.layout ops parts → IsAtScript plan c (client_at s c) parts
at_script plan s c parts ops reached is sets =
    let ties = (facts_now plan s reached).facts in
    let made = made_of plan s reached c in
    let script : script_of plan c (client_at s c).seq ≡ Some ops = ap (option_and_then script_in) is in
    let same : ops ≡ script_now plan c (client_at s c) = sym (ap ops_in is) in
    let fit = sound_script plan c (client_at s c).seq ops reached.sound script in
    record {
      visit = subst (IsOneVisit plan.layout) same (record { script = fit.script; turns = fit.turns });
      sets = subst (λ (l : List Op). IsParts plan.layout l parts) same sets;
      unfinished = λ e. let clash : Some (catalogue.Run ops) ≡ None = sym is ∙ item_past plan c (client_at s c).seq (made.finished e) in cc;
      fits = ties.cold.fits c;
      locks = made.locks;
      hot = ties.hot_ones c;
      installs = ties.installs c;
      reply = made.reply;
    }

-- a lock's number is that of the model's operation
pub cold_number_is : (plan : Plan) (c : ℕ) (x : ClientState) (parts : Parts) (op : Op) → IsParts plan.layout (script_now plan c x) parts → next_op plan c x ≡ Some op
    → slice_get (script_now plan c x) (cold_number parts (script_now plan c x) (length x.noted)) ≡ Some op
cold_number_is plan c x parts op sets next =
    let lt = within (cold_ops plan.layout (script_now plan c x)) (length x.noted) op next in
    number_is plan.layout (script_now plan c x) parts (length x.noted) sets (omega (arith, lt, count_is plan.layout (script_now plan c x) parts sets)) ∙ next
  where
    within : {X : Type 0} (xs : List X) (i : ℕ) (y : X) → slice_get xs i ≡ Some y → i < length xs
    within [] i y e = cc
    within (z ∷ xs) zero y e = omega arith
    within (z ∷ xs) (suc i) y e = omega (arith, within xs i y e)

-- a client that doesn't take locks or wait shows the same, whatever its operations
pub shown_elsewhere : (rows : List LayoutRow) (ops later : List Op) (x : ClientState) → x.phase ≢ Locking → x.phase ≢ Logged → x.phase ≢ Waiting → shown rows ops x ≡ shown rows later x
shown_elsewhere rows ops later x locking logged waiting = ap (λ (pairs : List Pair). record (shown rows ops x) { pairs = pairs }) (by x.phase locking logged waiting)
  where
    by : (p : Phase) → p ≢ Locking → p ≢ Logged → p ≢ Waiting → shown_pairs rows ops x p ≡ shown_pairs rows later x p
    by Ready a b d = refl
    by Locking a b d = absurd (a refl)
    by Aborting a b d = refl
    by Logged a b d = absurd (b refl)
    by Waiting a b d = absurd (d refl)
    by Installing a b d = refl
    by Finished a b d = refl

-- what it met is within what bounds each stamp that it noted
pub met-within : (x : ClientState) (most : ℕ) → AllByRecursion (λ seen. seen.stamp.sub ≤ most) x.noted → (shown_met x x.phase).sub ≤ most
met-within x most all = by x.phase
  where
    by : (p : Phase) → (shown_met x p).sub ≤ most
    by Ready = omega arith
    by Locking = greatest-within x.noted zero_stamp most (omega arith) all
    by Aborting = omega arith
    by Logged = greatest-within x.noted zero_stamp most (omega arith) all
    by Waiting = greatest-within x.noted zero_stamp most (omega arith) all
    by Installing = omega arith
    by Finished = omega arith

module _ (plan : Plan) (c : ℕ) (x : ClientState) (parts : Parts) (here : IsAtScript plan c x parts) where
  abbrev ops : List Op
  ops = script_now plan c x

  abbrev rows : List LayoutRow
  rows = plan.layout

  not_cold : (x.phase ≡ Logged) ⊎ (x.phase ≡ Waiting) → is_cold parts ops ≡ false
  not_cold e = commits_are_the_models plan ops parts here.sets ∙ ap not (here.hot e)

  fits_phase : (q : Phase) → x.phase ≡ q → FitsScript parts ops (shown_now plan c x) q
  fits_phase Ready e = (ap length (subst (FitsPhase plan c x) e here.fits).0, ap (shown_pairs rows ops x) e)
  fits_phase Locking e = (here.locks e, ap (λ (q : Phase). length (shown_pairs rows ops x q)) e ∙ length-taking rows ops x.noted)
  fits_phase Aborting e = (let fits = subst (FitsPhase plan c x) e here.fits in omega (arith, fits.1), ap (shown_pairs rows ops x) e)
  fits_phase Logged e = (not_cold (inl e), ap (λ (q : Phase). length (shown_pairs rows ops x q)) e ∙ length-taking rows ops x.noted)
  fits_phase Waiting e = (not_cold (inr e), ap (λ (q : Phase). length (shown_pairs rows ops x q)) e ∙ length-taking rows ops x.noted)
  fits_phase Installing e = (
    let fits = subst (FitsPhase plan c x) e here.fits in omega (arith, here.installs e, fits.0, count_is rows ops parts here.sets),
    ap (λ (q : Phase). length (shown_pairs rows ops x q)) e ∙ here.reply e,
  )
  fits_phase Finished e = here.unfinished e

  fits_locks : (q : Phase) → x.phase ≡ q → (length x.noted ≤ cold_count parts ops) × (x.installed ≤ cold_count parts ops)
  fits_locks Ready e = let fits = subst (FitsPhase plan c x) e here.fits in (omega (arith, ap length fits.0), omega (arith, fits.1))
  fits_locks Locking e = let fits = subst (FitsPhase plan c x) e here.fits in (omega (arith, fits.0, count_is rows ops parts here.sets), omega (arith, fits.1))
  fits_locks Aborting e = let fits = subst (FitsPhase plan c x) e here.fits in (omega (arith, fits.2, count_is rows ops parts here.sets), omega (arith, fits.0))
  fits_locks Logged e = let fits = subst (FitsPhase plan c x) e here.fits in (omega (arith, fits.0, count_is rows ops parts here.sets), omega (arith, fits.1))
  fits_locks Waiting e = let fits = subst (FitsPhase plan c x) e here.fits in (omega (arith, fits.0, count_is rows ops parts here.sets), omega (arith, fits.1))
  fits_locks Installing e = let fits = subst (FitsPhase plan c x) e here.fits in (omega (arith, fits.0, count_is rows ops parts here.sets), omega (arith, here.installs e, fits.0, count_is rows ops parts here.sets))
  fits_locks Finished e = absurd (here.unfinished e)

  -- what is kept of a client at a script fits it
  pub script_fits : Fits parts (catalogue.Run ops) (shown_now plan c x)
  script_fits = let locks = fits_locks x.phase refl in record { phase = fits_phase x.phase refl; locked = locks.0; installed = locks.1 }

module _ (plan : Plan) (s : State) (c : ℕ) (reached : IsReached plan s) where
  abbrev now : ClientState
  now = client_at s c

  abbrev AtLoss : Type 0
  AtLoss = (now.phase ≡ Ready) × (now.noted ≡ []) × (now.installed ≡ 0)

  no_locks : script_now plan c now ≡ [] → length (cold_ops plan.layout (script_now plan c now)) ≡ 0
  no_locks none = ap (λ (l : List Op). length (cold_ops plan.layout l)) none

  no_packet : script_now plan c now ≡ [] → has_hot plan (script_now plan c now) ≡ true → ⊥
  no_packet none hot = let clash : false ≡ true = sym (ap (has_hot plan) none) ∙ hot in cc

  -- a client at a loss is ready
  at_loss : item_of plan c now.seq ≡ Some catalogue.Lose → (q : Phase) → now.phase ≡ q → AtLoss
  at_loss is q e =
      let ties = (facts_now plan s reached).facts in
      let made = made_of plan s reached c in
      by q e (subst (FitsPhase plan c now) e (ties.cold.fits c)) (ap ops_in is) (ties.hot_ones c) (ties.installs c) made
    where
      by : (p : Phase) → now.phase ≡ p → FitsPhase plan c now p → script_now plan c now ≡ [] → ((now.phase ≡ Logged) ⊎ (now.phase ≡ Waiting) → has_hot plan (script_now plan c now) ≡ true)
          → (now.phase ≡ Installing → now.installed < length now.noted) → IsMade plan c now → AtLoss
      by Ready i fits none hot installs made = (i, fits.0, fits.1)
      by Locking i fits none hot installs made = absurd (omega (arith, fits.0, no_locks none, made.locks i))
      by Aborting i fits none hot installs made = absurd (omega (arith, fits.1, fits.2, no_locks none))
      by Logged i fits none hot installs made = absurd (no_packet none (hot (inl i)))
      by Waiting i fits none hot installs made = absurd (no_packet none (hot (inr i)))
      by Installing i fits none hot installs made = absurd (omega (arith, fits.0, no_locks none, installs i))
      by Finished i fits none hot installs made = absurd (let clash : Some catalogue.Lose ≡ None = sym is ∙ item_past plan c now.seq (made.finished i) in cc)

  -- a client without an item has finished
  at_end : item_of plan c now.seq ≡ None → (q : Phase) → now.phase ≡ q → now.phase ≡ Finished
  at_end is q e = by q e (present_of plan s reached c)
    where
      left : (1 ≤ now.seq) × (now.seq ≤ length (items_of plan c)) → ⊥
      left h = let lt = no_item plan c now.seq h.0 is in omega (arith, lt, h.1)

      open_phase : (p : Phase) → now.phase ≡ p → p ≢ Finished → now.phase ≢ Finished
      open_phase p i n f = n (sym i ∙ f)

      closes : (p : Phase) → now.phase ≡ p → p ≢ Finished → (now.phase ≢ Finished → (1 ≤ now.seq) × (now.seq ≤ length (items_of plan c)) × (now.refused < plan.tries)) → now.phase ≡ Finished
      closes p i n present = absurd (let here = present (open_phase p i n) in left (here.0, here.1))

      by : (p : Phase) → now.phase ≡ p → (now.phase ≢ Finished → (1 ≤ now.seq) × (now.seq ≤ length (items_of plan c)) × (now.refused < plan.tries)) → now.phase ≡ Finished
      by Ready i present = closes Ready i (λ f. cc) present
      by Locking i present = closes Locking i (λ f. cc) present
      by Aborting i present = closes Aborting i (λ f. cc) present
      by Logged i present = closes Logged i (λ f. cc) present
      by Waiting i present = closes Waiting i (λ f. cc) present
      by Installing i present = closes Installing i (λ f. cc) present
      by Finished i present = i

  -- each client is at its present item, and what is kept of it fits that
  pub fits_at : (parts : Parts) → HasParts plan c now parts → ClientsFit plan s c parts
  fits_at parts has = by (item_of plan c now.seq) refl
    where
      both : (o : Option PlainItem) → item_of plan c now.seq ≡ o → IsAt plan c now parts o × FitsAny parts (shown_now plan c now) o
      both (Some (catalogue.Run found)) is =
          let here = at_script plan s c parts found reached is (has found (ap (option_and_then script_in) is)) in
          let same : script_now plan c now ≡ found = ap ops_in is in
          let runs : script_fault found ≡ None = subst (λ (l : List Op). script_fault l ≡ None) same here.visit.script in
          let fits : Fits parts (catalogue.Run found) (shown_now plan c now) = subst (λ (l : List Op). Fits parts (catalogue.Run l) (shown_now plan c now)) same (script_fits plan c now parts here) in
          (here, (runs, fits))
      both (Some catalogue.Lose) is =
          let here = at_loss is now.phase refl in
          let fits : Fits parts catalogue.Lose (shown_now plan c now) = record {
            phase = (here.0, ap (shown_pairs plan.layout (script_now plan c now) now) here.0);
            locked = omega (arith, ap length here.1);
            installed = omega (arith, here.2);
          } in
          (here, (tt, fits))
      both None is = (at_end is now.phase refl, tt)

      by : (o : Option PlainItem) → item_of plan c now.seq ≡ o → ClientsFit plan s c parts
      by o is =
          let two = both o is in
          record { at = subst (IsAt plan c now parts) (sym is) two.0; fits = subst (FitsAny parts (shown_now plan c now)) (sym is) two.1 }

pub clients_fit_their_scripts : ClientsFitTheirScripts
clients_fit_their_scripts plan s c parts reached has = fits_at plan s c reached parts has
