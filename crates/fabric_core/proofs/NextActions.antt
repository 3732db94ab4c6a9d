-- What a client's next action at a script says of its phase and its counts.
use Rattle.std.proofs.Common.{◌≡◌, ◌⊎◌, ℕ, ◌-◌, ◌<◌, ◌≤◌, nat_lt, Bool, true, false, List, Some, inl, inr, refl, sym, arith, if◌then◌else◌}
use Rattle.std.proofs.lemmas.Bool.Decides.{nat_tests}
use Rattle.txn_model.specs.declared.op.Op.{Op}
use Rattle.warm_split.specs.declared.parts.Parts.{Parts}
use Rattle.catalogue.specs.Plan as plan
use Rattle.catalogue.specs.Plan.{PlainItem, Run}
use Rattle.core_model.specs.declared.phase.Phase.{Phase}
use Rattle.core_model.specs.declared.phase.Phase.TheVariants.{Ready, Locking, Aborting, Logged, Waiting, Installing, Finished}
use Rattle.client_phase.specs.declared.action.Action.{Action}
use Rattle.client_phase.specs.declared.action.Action.TheVariants.{Lock, Release, Decide, LogIntent, Post, LogOutcome, Install, Lose}
use Rattle.client_phase.specs.ColdNumbers.{cold_count, cold_number, is_cold}
use Rattle.client_phase.specs.NextAction.{locks_or_goes_on, next_action, script_action}
use Rattle.client_phase.specs.Shown.{PlainClient}

below : (a b : ℕ) → nat_lt a b ≡ true → a < b
below a b t = grind (arith, nat_tests)

not_below : (a b : ℕ) → nat_lt a b ≡ false → b ≤ a
not_below a b t = grind (arith, nat_tests)

abbrev pub MayAsk : Phase → Type 0
MayAsk q = (q ≡ Ready) ⊎ (q ≡ Locking)

-- with so many locks a client does this
data Goes (parts : Parts) (ops : List Op) (locked : ℕ) : Action → Type 0 where
  Asks : locked < cold_count parts ops → Goes parts ops locked (Lock (cold_number parts ops locked))
  Decides : cold_count parts ops ≤ locked → is_cold parts ops ≡ true → Goes parts ops locked Decide
  Logs : cold_count parts ops ≤ locked → is_cold parts ops ≡ false → Goes parts ops locked LogIntent

goes : (parts : Parts) (ops : List Op) (locked : ℕ) → Goes parts ops locked (locks_or_goes_on parts ops locked)
goes parts ops locked = by (nat_lt locked (cold_count parts ops)) refl
  where
    last : (b : Bool) → is_cold parts ops ≡ b → cold_count parts ops ≤ locked → Goes parts ops locked (if b then Decide else LogIntent)
    last true e all = Decides all e
    last false e all = Logs all e

    by : (b : Bool) → nat_lt locked (cold_count parts ops) ≡ b → Goes parts ops locked (if b then Lock (cold_number parts ops locked) else (if is_cold parts ops then Decide else LogIntent))
    by true t = Asks (below locked (cold_count parts ops) t)
    by false t = last (is_cold parts ops) refl (not_below locked (cold_count parts ops) t)

asks : (parts : Parts) (ops : List Op) (locked k : ℕ) (a : Action) → Goes parts ops locked a → a ≡ Lock k → (k ≡ cold_number parts ops locked) × (locked < cold_count parts ops)
asks parts ops locked k a (Asks lt) e = (cc, lt)
asks parts ops locked k a (Decides all is) e = cc
asks parts ops locked k a (Logs all is) e = cc

decides : (parts : Parts) (ops : List Op) (locked : ℕ) (a : Action) → Goes parts ops locked a → a ≡ Decide → (cold_count parts ops ≤ locked) × (is_cold parts ops ≡ true)
decides parts ops locked a (Asks lt) e = cc
decides parts ops locked a (Decides all is) e = (all, is)
decides parts ops locked a (Logs all is) e = cc

logs : (parts : Parts) (ops : List Op) (locked : ℕ) (a : Action) → Goes parts ops locked a → a ≡ LogIntent → (cold_count parts ops ≤ locked) × (is_cold parts ops ≡ false)
logs parts ops locked a (Asks lt) e = cc
logs parts ops locked a (Decides all is) e = cc
logs parts ops locked a (Logs all is) e = (all, is)

-- none of these is another action
not_other : (parts : Parts) (ops : List Op) (locked : ℕ) (a : Action) → Goes parts ops locked a → (k : ℕ) → ((a ≡ Release k) ⊎ ((a ≡ Post) ⊎ ((a ≡ LogOutcome) ⊎ (a ≡ Install k)))) → ⊥
not_other parts ops locked a (Asks lt) k e = elim e [ inl i ↦ cc | inr (inl i) ↦ cc | inr (inr (inl i)) ↦ cc | inr (inr (inr i)) ↦ cc ]
not_other parts ops locked a (Decides all is) k e = elim e [ inl i ↦ cc | inr (inl i) ↦ cc | inr (inr (inl i)) ↦ cc | inr (inr (inr i)) ↦ cc ]
not_other parts ops locked a (Logs all is) k e = elim e [ inl i ↦ cc | inr (inl i) ↦ cc | inr (inr (inl i)) ↦ cc | inr (inr (inr i)) ↦ cc ]

module _ (parts : Parts) (ops : List Op) (p : PlainClient) where
  pub lock_is : (q : Phase) (k : ℕ) → script_action parts ops p q ≡ Lock k → MayAsk q × (k ≡ cold_number parts ops p.locked) × (p.locked < cold_count parts ops)
  lock_is Ready k e = let a = asks parts ops p.locked k _ (goes parts ops p.locked) e in (inl refl, a.0, a.1)
  lock_is Locking k e = let a = asks parts ops p.locked k _ (goes parts ops p.locked) e in (inr refl, a.0, a.1)
  lock_is Aborting k e = cc
  lock_is Logged k e = cc
  lock_is Waiting k e = cc
  lock_is Installing k e = cc
  lock_is Finished k e = cc

  pub decide_is : (q : Phase) → script_action parts ops p q ≡ Decide → MayAsk q × (cold_count parts ops ≤ p.locked) × (is_cold parts ops ≡ true)
  decide_is Ready e = let a = decides parts ops p.locked _ (goes parts ops p.locked) e in (inl refl, a.0, a.1)
  decide_is Locking e = let a = decides parts ops p.locked _ (goes parts ops p.locked) e in (inr refl, a.0, a.1)
  decide_is Aborting e = cc
  decide_is Logged e = cc
  decide_is Waiting e = cc
  decide_is Installing e = cc
  decide_is Finished e = cc

  pub log_is : (q : Phase) → script_action parts ops p q ≡ LogIntent → MayAsk q × (cold_count parts ops ≤ p.locked) × (is_cold parts ops ≡ false)
  log_is Ready e = let a = logs parts ops p.locked _ (goes parts ops p.locked) e in (inl refl, a.0, a.1)
  log_is Locking e = let a = logs parts ops p.locked _ (goes parts ops p.locked) e in (inr refl, a.0, a.1)
  log_is Aborting e = cc
  log_is Logged e = cc
  log_is Waiting e = cc
  log_is Installing e = cc
  log_is Finished e = cc

  pub release_is : (q : Phase) (k : ℕ) → script_action parts ops p q ≡ Release k → (q ≡ Aborting) × (k ≡ cold_number parts ops (p.locked - 1))
  release_is Ready k e = absurd (not_other parts ops p.locked _ (goes parts ops p.locked) k (inl e))
  release_is Locking k e = absurd (not_other parts ops p.locked _ (goes parts ops p.locked) k (inl e))
  release_is Aborting k e = (refl, cc)
  release_is Logged k e = cc
  release_is Waiting k e = cc
  release_is Installing k e = cc
  release_is Finished k e = cc

  pub post_is : (q : Phase) → script_action parts ops p q ≡ Post → q ≡ Logged
  post_is Ready e = absurd (not_other parts ops p.locked _ (goes parts ops p.locked) 0 (inr (inl e)))
  post_is Locking e = absurd (not_other parts ops p.locked _ (goes parts ops p.locked) 0 (inr (inl e)))
  post_is Aborting e = cc
  post_is Logged e = refl
  post_is Waiting e = cc
  post_is Installing e = cc
  post_is Finished e = cc

  pub outcome_is : (q : Phase) → script_action parts ops p q ≡ LogOutcome → q ≡ Waiting
  outcome_is Ready e = absurd (not_other parts ops p.locked _ (goes parts ops p.locked) 0 (inr (inr (inl e))))
  outcome_is Locking e = absurd (not_other parts ops p.locked _ (goes parts ops p.locked) 0 (inr (inr (inl e))))
  outcome_is Aborting e = cc
  outcome_is Logged e = cc
  outcome_is Waiting e = refl
  outcome_is Installing e = cc
  outcome_is Finished e = cc

  pub install_is : (q : Phase) (k : ℕ) → script_action parts ops p q ≡ Install k → (q ≡ Installing) × (k ≡ cold_number parts ops p.installed)
  install_is Ready k e = absurd (not_other parts ops p.locked _ (goes parts ops p.locked) k (inr (inr (inr e))))
  install_is Locking k e = absurd (not_other parts ops p.locked _ (goes parts ops p.locked) k (inr (inr (inr e))))
  install_is Aborting k e = cc
  install_is Logged k e = cc
  install_is Waiting k e = cc
  install_is Installing k e = (refl, cc)
  install_is Finished k e = cc

-- only at a script a client does anything but lose the switch
pub is_script : (parts : Parts) (p : PlainClient) (item : PlainItem) (a : Action) → next_action parts p (Some item) ≡ a → (a ≡ Lose → ⊥) → (ops : List Op) × (item ≡ Run ops)
is_script parts p (Run ops) a e other = (ops, refl)
is_script parts p plan.Lose a e other = absurd (other (sym e))
