-- The rules of a command, as `clap` finds them.
use Rattle.std.proofs.Common.{◌≡◌, ◌∙◌, sym, ap, ap₂, refl, ℕ, Bool, true, false, cond, ◌&&◌, true≢false, List, [], ◌∷◌, ◌++◌, map, append-nil, Some, None, bytes_eq, ◌==◌, fold}
use Rattle.std.specs.List.{list_any, list_all}
use Rattle.std.proofs.lemmas.Slice.Eq.{bytes_eq-Decides}
use Rattle.clap.specs.Words.{Row, Rule}
use Rattle.clap.specs.Walk.{arg_by_id, arg_by_index, arg_by_long, arg_by_short, at_row, has_row, more_values, used, with_default}
use Rattle.clap.specs.Simple.{filled, with_index}
use Rattle.clap.specs.Kinds.{Kinds, or_else}
use Rattle.clap.specs.Faults.{default_fault, defaults_fault, use_fault}
use Rattle.clap.specs.declared.error.kind.ErrorKind.TheVariants as kind
use Rattle.clap.specs.declared.parser.matches.ValueSource.TheVariants.{CommandLine}
use Rattle.words_cli.specs.Words.{Text, Place, Piece}
use Rattle.words_cli.specs.Forms.{Form, has_place, same_place, is_taken}
use Rattle.words_cli.specs.ClapLine.{word_id, option_rule, word_rule, id_of, row_of, rows_of}

-- ---- what `clap` builds of the rules

abbrev pub option_now : Text → Rule
option_now name = with_index 1 (filled (option_rule name))

abbrev pub word_now : Rule
word_now = with_index 1 (filled word_rule)

abbrev pub word_part : Bool → List Rule
word_part takes_word = cond takes_word (word_now ∷ []) []

abbrev pub rules_now : List Text → Bool → List Rule
rules_now options takes_word = map option_now options ++ word_part takes_word

-- ---- looking rules up

pub by_long : (os : List Text) (w : Bool) (name : Text) → arg_by_long (rules_now os w) name ≡ cond (list_any (λ o. bytes_eq o name) os) (Some (option_now name)) None
by_long [] true name = refl
by_long [] false name = refl
by_long (o ∷ os) w name = go (bytes_eq o name) refl (by_long os w name)
  where
    go : (t : Bool) → bytes_eq o name ≡ t → arg_by_long (rules_now os w) name ≡ cond (list_any (λ o. bytes_eq o name) os) (Some (option_now name)) None
        → arg_by_long (rules_now (o ∷ os) w) name ≡ cond (list_any (λ o. bytes_eq o name) (o ∷ os)) (Some (option_now name)) None
    go true e ih = rw (e, (bytes_eq-Decides o name).0 e) refl
    go false e ih = rw e ih

pub by_short : (os : List Text) (w : Bool) (x : ℕ) → arg_by_short (rules_now os w) x ≡ None
by_short [] true x = refl
by_short [] false x = refl
by_short (o ∷ os) w x = by_short os w x

pub by_index : (os : List Text) (w : Bool) (i : ℕ) → arg_by_index (rules_now os w) i ≡ cond (w && (1 == i)) (Some word_now) None
by_index [] true i = refl
by_index [] false i = refl
by_index (o ∷ os) w i = by_index os w i

pub by_name : (os : List Text) (w : Bool) (name : Text) → list_any (λ o. bytes_eq o name) os ≡ true → arg_by_id (rules_now os w) name ≡ Some (option_now name)
by_name [] w name some = absurd (true≢false (sym some))
by_name (o ∷ os) w name some = go (bytes_eq o name) refl (by_name os w name)
  where
    go : (t : Bool) → bytes_eq o name ≡ t → (list_any (λ o. bytes_eq o name) os ≡ true → arg_by_id (rules_now os w) name ≡ Some (option_now name)) → arg_by_id (rules_now (o ∷ os) w) name ≡ Some (option_now name)
    go true e ih = rw (e, (bytes_eq-Decides o name).0 e) refl
    go false e ih = rw e (ih (rw e at some))

pub by_word : (os : List Text) → list_any (λ o. bytes_eq o word_id) os ≡ false → arg_by_id (rules_now os true) word_id ≡ Some word_now
by_word [] none = refl
by_word (o ∷ os) none = go (bytes_eq o word_id) refl (by_word os)
  where
    go : (t : Bool) → bytes_eq o word_id ≡ t → (list_any (λ o. bytes_eq o word_id) os ≡ false → arg_by_id (rules_now os true) word_id ≡ Some word_now) → arg_by_id (rules_now (o ∷ os) true) word_id ≡ Some word_now
    go true e ih = absurd (true≢false (rw e at none))
    go false e ih = rw e (ih (rw e at none))

-- ---- defaults and what is required: there is none

default_none : (a : Rule) (rows : List Row) → a.defaults ≡ [] → default_fault rows a ≡ []
default_none a rows none = go (has_row a.id rows) refl
  where
    go : (t : Bool) → has_row a.id rows ≡ t → default_fault rows a ≡ []
    go true e = rw e refl
    go false e = rw (e, none) refl

default_same : (a : Rule) (rows : List Row) → a.defaults ≡ [] → with_default rows a ≡ rows
default_same a rows none = go (has_row a.id rows) refl
  where
    go : (t : Bool) → has_row a.id rows ≡ t → with_default rows a ≡ rows
    go true e = rw e refl
    go false e = rw (e, none) refl

pub no_default_fault : (os : List Text) (w : Bool) (rows : List Row) → defaults_fault rows (rules_now os w) ≡ []
unfolding defaults_fault
no_default_fault [] false rows = refl
no_default_fault [] true rows = ap (λ (k : Kinds). or_else k []) (default_none word_now rows refl)
no_default_fault (o ∷ os) w rows =
    ap₂ (λ (k : Kinds) (r : List Row). or_else k (defaults_fault r (rules_now os w))) (default_none (option_now o) rows refl) (default_same (option_now o) rows refl) ∙ no_default_fault os w rows

pub no_default : (os : List Text) (w : Bool) (rows : List Row) → fold with_default rows (rules_now os w) ≡ rows
no_default [] false rows = refl
no_default [] true rows = default_same word_now rows refl
no_default (o ∷ os) w rows = ap (λ (r : List Row). fold with_default r (rules_now os w)) (default_same (option_now o) rows refl) ∙ no_default os w rows

pub none_required : (os : List Text) (w : Bool) (f : Rule → Bool) → list_any (λ a. a.required && f a) (rules_now os w) ≡ false
none_required [] true f = refl
none_required [] false f = refl
none_required (o ∷ os) w f = none_required os w f

-- ---- rows

abbrev pub rule_at : Place → Rule
rule_at None = word_now
rule_at (Some name) = option_now name

-- no option has the id of the word
abbrev pub IsApart : Form → Type 0
IsApart form = list_any (λ o. bytes_eq o word_id) form.options ≡ false

abbrev pub are_known : Form → List Piece → Bool
are_known form = list_all (λ piece. has_place form piece.0)

not_the_word : (os : List Text) (name : Text) → list_any (λ o. bytes_eq o word_id) os ≡ false → list_any (λ o. bytes_eq o name) os ≡ true → name ≡ word_id → false ≡ true
not_the_word os name apart known e = sym apart ∙ (ap (λ (n : Text). list_any (λ o. bytes_eq o n) os) (sym e) ∙ known)

decided : (a b : Text) → (a ≡ b → false ≡ true) → bytes_eq a b ≡ false
decided a b differ = go (bytes_eq a b) refl
  where
    go : (t : Bool) → bytes_eq a b ≡ t → t ≡ false
    go true e = sym (differ ((bytes_eq-Decides a b).0 e))
    go false e = refl

pub same_ids : (form : Form) → IsApart form → (a b : Place) → has_place form a ≡ true → has_place form b ≡ true → bytes_eq (id_of a) (id_of b) ≡ same_place a b
same_ids form apart None None ka kb = refl
same_ids form apart None (Some n) ka kb = decided word_id n (λ e. not_the_word form.options n apart kb (sym e))
same_ids form apart (Some n) None ka kb = decided n word_id (λ e. not_the_word form.options n apart ka e)
same_ids form apart (Some m) (Some n) ka kb = refl

pub same_as_word : (form : Form) → IsApart form → (a : Place) → has_place form a ≡ true → bytes_eq (id_of a) word_id ≡ same_place a None
same_as_word form apart None known = refl
same_as_word form apart (Some n) known = decided n word_id (λ e. not_the_word form.options n apart known e)

pub and_true : (a b : Bool) → (a && b) ≡ true → (a ≡ true) × (b ≡ true)
and_true true b e = (refl, e)
and_true false b e = absurd (true≢false (sym e))

-- a row stands where its piece does
pub has_rows : (form : Form) → IsApart form → (place : Place) → has_place form place ≡ true → (given : List Piece) → are_known form given ≡ true → has_row (id_of place) (rows_of given) ≡ is_taken place given
has_rows form apart place known [] all = refl
has_rows form apart place known (p ∷ ps) all =
    let both = and_true _ _ all in
    rw (same_ids form apart p.0 place both.0 known, has_rows form apart place known ps both.1) refl

at_no_row : (id : Text) (change : Row → List Row) (missing rows : List Row) → has_row id rows ≡ false → at_row id change missing rows ≡ rows ++ missing
at_no_row id change missing [] none = refl
at_no_row id change missing (r ∷ rs) none = go (bytes_eq r.id id) refl (at_no_row id change missing rs)
  where
    go : (t : Bool) → bytes_eq r.id id ≡ t → (has_row id rs ≡ false → at_row id change missing rs ≡ rs ++ missing) → at_row id change missing (r ∷ rs) ≡ r ∷ (rs ++ missing)
    go true e ih = absurd (true≢false (rw e at none))
    go false e ih = rw e (ap (λ xs. r ∷ xs) (ih (rw e at none)))

pub without_no_row : (id : Text) (rows : List Row) → has_row id rows ≡ false → at_row id (λ _. []) [] rows ≡ rows
without_no_row id rows none = at_no_row id (λ _. []) [] rows none ∙ append-nil rows

-- the first value at a place
pub used_once : (place : Place) (value : Text) (rows : List Row) → has_row (id_of place) rows ≡ false → used (rule_at place) (value ∷ []) rows ≡ rows ++ row_of (place, value) ∷ []
used_once None value rows none = rw (without_no_row word_id rows none) (at_no_row word_id (more_values CommandLine (value ∷ [])) (row_of (None, value) ∷ []) rows none)
used_once (Some n) value rows none = rw (without_no_row n rows none) (at_no_row n (more_values CommandLine (value ∷ [])) (row_of (Some n, value) ∷ []) rows none)

pub use_fault_is : (place : Place) (value : Text) (rows : List Row) → use_fault false (rule_at place) (value ∷ []) rows ≡ cond (has_row (id_of place) rows) (kind.ArgumentConflict ∷ []) []
use_fault_is None value rows = go (has_row word_id rows) refl
  where
    go : (t : Bool) → has_row word_id rows ≡ t → use_fault false word_now (value ∷ []) rows ≡ cond (has_row word_id rows) (kind.ArgumentConflict ∷ []) []
    go true e = rw e refl
    go false e = rw e refl
use_fault_is (Some n) value rows = go (has_row n rows) refl
  where
    go : (t : Bool) → has_row n rows ≡ t → use_fault false (option_now n) (value ∷ []) rows ≡ cond (has_row n rows) (kind.ArgumentConflict ∷ []) []
    go true e = rw e refl
    go false e = rw e refl
