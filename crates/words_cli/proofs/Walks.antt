-- `clap`'s walk over the words of a command gives exactly the pieces that fit.
use Rattle.std.proofs.Common.{◌≡◌, ◌∙◌, sym, ap, ap₂, refl, subst, ℕ, Bool, true, false, cond, not, ◌&&◌, ◌||◌, List, [], ◌∷◌, ◌++◌, map, length, append-nil, append_assoc, Option, Some, None, option_and_then, bytes_eq, ◌==◌, fold, drop, encode_utf8, nat_lt, slice_get, IsUtf8}
use Rattle.std.specs.List.{AllByRecursion}
use Rattle.std.specs.Option.{option_map_or}
use Rattle.std.proofs.lemmas.Slice.Eq.{bytes_eq-Decides}
use Rattle.std.proofs.lemmas.List.Folds.{list_any-append}
use Rattle.clap.specs.Lexer.{long_of}
use Rattle.clap.specs.Words.{Row, Rule, Shape}
use Rattle.clap.specs.Walk.{Held, Step, after_flag, after_step, is_pending, long_met, long_or_other, option_word, positional_held, pushed, reacted, short_or_plain, takes_several, Waiting, Walk, arg_by_id, arg_by_index, has_row, finished, settled, used_by_id, to_positional, used, walk, walk_from, walked, nothing_held}
use Rattle.clap.specs.Walk.{idle, option as awaits, positional, trailing}
use Rattle.clap.specs.Kinds.{Kinds, or_else}
use Rattle.clap.specs.Faults.{bundle_fault, bundle_step_fault, short_fault, check_fault, defaults_fault, flag_word_fault, flags_fault, level_fault, long_fault, positional_fault, stray_fault, settle_fault, step_fault, turn_fault, use_fault, walk_fault}
use Rattle.clap.specs.Simple.{new_shape}
use Rattle.clap.specs.Takes.{is_given}
use Rattle.clap.specs.declared.error.kind.ErrorKind.{ErrorKind}
use Rattle.clap.specs.declared.error.kind.ErrorKind.TheVariants as kind
use Rattle.words_cli.specs.Words.{Text, Place, Piece, Look, ends, option, dashed, plain, look, by_itself, with_piece, pieces, pieces_by, value_by}
use Rattle.words_cli.specs.Forms.{Form, has_place, is_taken, fits_behind}
use Rattle.words_cli.specs.ClapLine.{word_id, id_of, row_of, rows_of}
use Rattle.words_cli.proofs.Looks.{two_dashes, IsDashed, LooksLike, look_is, next_char}
use Rattle.words_cli.proofs.Rules.{IsApart, are_known, by_index, by_long, by_name, by_short, by_word, and_true, has_rows, no_default, no_default_fault, none_required, option_now, rule_at, rules_now, use_fault_is, used_once, word_now}

-- ---- faults as tests on the way

abbrev pub guard : {A : Type 0} → Kinds → Option A → Option A
guard [] x = x
guard (k ∷ ks) x = None

pub guard-or_else : {A : Type 0} (a b : Kinds) (x : Option A) → guard (or_else a b) x ≡ guard a (guard b x)
guard-or_else [] b x = refl
guard-or_else (k ∷ ks) b x = refl

pub guard-None : {A : Type 0} (a : Kinds) → guard {A = A} a None ≡ None
guard-None [] = refl
guard-None (k ∷ ks) = refl

-- ---- a command's walk, with what stands at its end

abbrev pub finish : Shape → Held → Option (List Row)
finish s h = guard (settle_fault s.rules s.args_override_self h) (guard (defaults_fault (settled s.rules h).rows s.rules) (guard (check_fault s (finished s.rules h) false) (Some (finished s.rules h))))

abbrev pub outcome : Shape → Walk → List Text → Option (List Row)
outcome s w [] = finish s w.held
outcome s w (word ∷ rest) = guard (turn_fault s [] w word) (outcome s (walked s.rules [] w word) rest)

abbrev end_fault : Shape → Held → Kinds
end_fault s h = or_else (settle_fault s.rules s.args_override_self h) (or_else (defaults_fault (settled s.rules h).rows s.rules) (check_fault s (finished s.rules h) false))

outcome_is : (s : Shape) (w : Walk) (words : List Text)
    → guard (or_else (walk_fault s [] w words) (end_fault s (fold (walked s.rules []) w words).held)) (Some (finished s.rules (fold (walked s.rules []) w words).held)) ≡ outcome s w words
unfolding walk_fault walked
outcome_is s w [] = guard-or_else (settle_fault s.rules s.args_override_self w.held) _ _ ∙ ap (guard (settle_fault s.rules s.args_override_self w.held)) (guard-or_else (defaults_fault (settled s.rules w.held).rows s.rules) _ _)
outcome_is s w (word ∷ rest) =
    let t = turn_fault s [] w word in
    let next = walked s.rules [] w word in
    let e = end_fault s (fold (walked s.rules []) next rest).held in
    let found = Some (finished s.rules (fold (walked s.rules []) next rest).held) in
    guard-or_else (or_else t (walk_fault s [] next rest)) e found ∙ (guard-or_else t (walk_fault s [] next rest) (guard e found)
    ∙ ap (guard t) (sym (guard-or_else (walk_fault s [] next rest) e found) ∙ outcome_is s next rest))

pub level_is : (s : Shape) (words : List Text) → guard (level_fault s [] nothing_held words false []) (Some (finished s.rules (walk s.rules [] nothing_held words).held)) ≡ outcome s (walk_from nothing_held) words
level_is s words = outcome_is s (walk_from nothing_held) words

-- ---- the walk of one command

abbrev pub sub_now : Form → Shape
sub_now form = record (new_shape form.name) {
  rules = rules_now form.options form.takes_word;
  no_binary_name = true;
  disable_help_flag = true;
  disable_help_subcommand = true;
  disable_version_flag = true;
  is_built = true;
}

abbrev pub holding : List Row → Held
holding rows = record { rows = rows; pending = None; skip = 0 }

-- a value that was read and isn't used yet
abbrev pub pended : List Row → Place → Text → Held
pended rows place text = record { rows = rows; pending = Some (id_of place, text ∷ []); skip = 0 }

-- an option that waits for its value
abbrev pub expecting : List Row → Text → Held
expecting rows name = record { rows = rows; pending = Some (name, []); skip = 0 }

abbrev pub at : Held → Waiting → ℕ → Bool → Walk
at h waiting position is_trailing = record { held = h; waiting = waiting; position = position; is_trailing = is_trailing; stopped = None }

abbrev pub position_of : List Piece → ℕ
position_of seen = cond (is_taken None seen) 2 1

-- the rows of these pieces behind those that were seen, where they fit
abbrev pub checked : Form → List Piece → List Piece → Option (List Row)
checked form seen given = cond (fits_behind form seen given) (Some (rows_of (seen ++ given))) None

cond_none : {A : Type 0} (b : Bool) → cond {A = Option A} b None None ≡ None
cond_none true = refl
cond_none false = refl

pub or_none : (b : Bool) → (b || false) ≡ b
or_none true = refl
or_none false = refl

pub and_false : (b : Bool) → (b && false) ≡ false
and_false true = refl
and_false false = refl

cond_same : {A : Type 0} (b : Bool) (x y : Option A) → (b ≡ true → x ≡ y) → cond b x None ≡ cond b y None
cond_same true x y h = h refl
cond_same false x y h = refl

not_true : (b : Bool) → not b ≡ true → b ≡ false
not_true true e = sym e
not_true false e = refl

module _ (form : Form) where
  abbrev c : List Rule
  c = rules_now form.options form.takes_word

  abbrev s : Shape
  s = sub_now form

  -- what is held stands for these pieces, once it is used
  pub record Stands (h : Held) (seen : List Piece) : Type 0 where
    pub settles : settle_fault c false h ≡ []
    pub settled_is : settled c h ≡ holding (rows_of seen)
    pub known : are_known form seen ≡ true

  -- what is held can't be used
  pub record Fails (h : Held) : Type 0 where
    pub first : ErrorKind
    pub others : Kinds
    pub is : settle_fault c false h ≡ first ∷ others
    pub skip : h.skip ≡ 0

  done_stands : (seen : List Piece) → are_known form seen ≡ true → Stands (holding (rows_of seen)) seen
  done_stands seen known = record { settles = refl; settled_is = refl; known = known }

  checks_pass : (rows : List Row) → check_fault s rows false ≡ []
  checks_pass rows = rw (none_required form.options form.takes_word (λ a. not (is_given a.id rows))) refl

  finish_stands : (h : Held) (seen : List Piece) → Stands h seen → finish s h ≡ Some (rows_of seen)
  finish_stands h seen st =
      ap (λ (k : Kinds). guard k (guard (defaults_fault (settled c h).rows c) (guard (check_fault s (finished c h) false) (Some (finished c h))))) st.settles
      ∙ (ap (λ (k : Kinds). guard k (guard (check_fault s (finished c h) false) (Some (finished c h)))) (no_default_fault form.options form.takes_word (settled c h).rows)
      ∙ (ap (λ (k : Kinds). guard k (Some (finished c h))) (checks_pass (finished c h))
      ∙ ap Some (no_default form.options form.takes_word (settled c h).rows ∙ ap (λ (k : Held). k.rows) st.settled_is)))

  piece_step : (p : Piece) (seen : List Piece) (o : Option (List Piece))
      → option_and_then (checked form seen) (with_piece p o) ≡ cond (has_place form p.0 && not (is_taken p.0 seen)) (option_and_then (checked form (seen ++ p ∷ [])) o) None
  piece_step p seen None = sym (cond_none (has_place form p.0 && not (is_taken p.0 seen)))
  piece_step p seen (Some ps) = go (has_place form p.0) refl (is_taken p.0 seen) refl
    where
      go : (a : Bool) → has_place form p.0 ≡ a → (b : Bool) → is_taken p.0 seen ≡ b → checked form seen (p ∷ ps) ≡ cond (has_place form p.0 && not (is_taken p.0 seen)) (checked form (seen ++ p ∷ []) ps) None
      go false e b f = rw e refl
      go true e true f = rw (e, f) refl
      go true e false f = rw (e, f) (ap (λ (xs : List Piece). cond (fits_behind form (seen ++ p ∷ []) ps) (Some (rows_of xs)) None) (sym (append_assoc seen (p ∷ []) ps)))

  rows_more : (seen : List Piece) (p : Piece) → rows_of (seen ++ p ∷ []) ≡ rows_of seen ++ row_of p ∷ []
  rows_more [] p = refl
  rows_more (q ∷ seen) p = ap (λ xs. row_of q ∷ xs) (rows_more seen p)

  known_more : (seen : List Piece) (p : Piece) → are_known form seen ≡ true → has_place form p.0 ≡ true → are_known form (seen ++ p ∷ []) ≡ true
  known_more [] p known place = rw place refl
  known_more (q ∷ seen) p known place =
      let both = and_true (has_place form q.0) (are_known form seen) known in
      rw both.0 (known_more seen p both.1 place)

  taken_more : (seen : List Piece) (name text : Text) → is_taken None (seen ++ (Some name, text) ∷ []) ≡ is_taken None seen
  taken_more seen name text = list_any-append _ seen _ ∙ or_none (is_taken None seen)

  position_same : (seen : List Piece) (name text : Text) → position_of (seen ++ (Some name, text) ∷ []) ≡ position_of seen
  position_same seen name text = ap (λ (b : Bool). cond b 2 1) (taken_more seen name text)

  position_more : (seen : List Piece) (text : Text) → is_taken None seen ≡ false → position_of (seen ++ (None, text) ∷ []) ≡ 2
  position_more seen text fresh = ap (λ (b : Bool). cond b 2 1) (list_any-append _ seen _ ∙ ap (λ (b : Bool). b || true) fresh)

  unknown_by : (name : Text) (seen : List Piece) → has_place form (Some name) ≡ false → (l : Look) (word : Text) (later : Option (List Piece)) → option_and_then (checked form seen) (value_by l name word later) ≡ None
  unknown_by name seen unknown ends word later = refl
  unknown_by name seen unknown (option n v) word later = refl
  unknown_by name seen unknown dashed word later = refl
  unknown_by name seen unknown plain word later =
      piece_step (Some name, word) seen later
      ∙ ap (λ (b : Bool). cond (b && not (is_taken (Some name) seen)) (option_and_then (checked form (seen ++ (Some name, word) ∷ [])) later) None) unknown

  module _ (apart : IsApart form) where
    found_at : (place : Place) → has_place form place ≡ true → arg_by_id c (id_of place) ≡ Some (rule_at place)
    found_at None e = subst (λ (w : Bool). arg_by_id (rules_now form.options w) word_id ≡ Some word_now) (sym e) (by_word form.options apart)
    found_at (Some name) e = by_name form.options form.takes_word name e

    module _ (seen : List Piece) (known : are_known form seen ≡ true) (place : Place) (text : Text) (has : has_place form place ≡ true) where
      row_is : has_row (id_of place) (rows_of seen) ≡ is_taken place seen
      row_is = has_rows form apart place has seen known

      pend_fault : settle_fault c false (pended (rows_of seen) place text) ≡ cond (is_taken place seen) (kind.ArgumentConflict ∷ []) []
      pend_fault = ap (λ (o : Option Rule). option_map_or (λ a. use_fault false a (text ∷ []) (rows_of seen)) o []) (found_at place has)
          ∙ (use_fault_is place text (rows_of seen) ∙ ap (λ (b : Bool). cond b (kind.ArgumentConflict ∷ []) []) row_is)

      used_is : is_taken place seen ≡ false → used (rule_at place) (text ∷ []) (rows_of seen) ≡ rows_of (seen ++ (place, text) ∷ [])
      used_is fresh = used_once place text (rows_of seen) (row_is ∙ fresh) ∙ sym (rows_more seen (place, text))

      pend_stands : is_taken place seen ≡ false → Stands (pended (rows_of seen) place text) (seen ++ (place, text) ∷ [])
      pend_stands fresh = record {
        settles = pend_fault ∙ ap (λ (b : Bool). cond b (kind.ArgumentConflict ∷ []) []) fresh;
        settled_is = ap holding (ap (λ (o : Option Rule). used_by_id o (text ∷ []) (rows_of seen)) (found_at place has) ∙ used_is fresh);
        known = known_more seen (place, text) known has;
      }

      pend_fails : is_taken place seen ≡ true → Fails (pended (rows_of seen) place text)
      pend_fails taken = record {
        first = kind.ArgumentConflict;
        others = [];
        is = pend_fault ∙ ap (λ (b : Bool). cond b (kind.ArgumentConflict ∷ []) []) taken;
        skip = refl;
      }

    wait_fails : (seen : List Piece) (name : Text) → has_place form (Some name) ≡ true → Fails (expecting (rows_of seen) name)
    wait_fails seen name has = record {
      first = kind.InvalidValue;
      others = [];
      is = ap (λ (o : Option Rule). option_map_or (λ a. use_fault false a [] (rows_of seen)) o []) (found_at (Some name) has);
      skip = refl;
    }

    -- ---- a word for the place of words that stand by themselves

    several_not : (h : Held) → (is_pending word_now h.pending && takes_several word_now) ≡ false
    several_not h = and_false (is_pending word_now h.pending)

    positional_is : (h : Held) → positional_fault c false word_now h ≡ settle_fault c false h
    positional_is h = ap (λ (b : Bool). cond b [] (settle_fault c false h)) (several_not h)

    held_is : (word : Text) (h : Held) (seen : List Piece) → Stands h seen → positional_held c word_now word h ≡ pended (rows_of seen) None word
    held_is word h seen st = ap (λ (b : Bool). pushed word_id word (cond b h (settled c h))) (several_not h) ∙ ap (pushed word_id word) st.settled_is

    -- the word goes to this rule, if any
    abbrev given_word : Held → Waiting → ℕ → Bool → Text → List Text → Option Rule → Option (List Row)
    given_word h waiting position is_trailing word rest o =
        guard (option_map_or (λ a. positional_fault c false a h) o (stray_fault s)) (outcome s (to_positional c o word (at h waiting position is_trailing) h) rest)

    step_value : (h : Held) (seen : List Piece) → Stands h seen → (waiting : Waiting) (is_trailing : Bool) (word : Text) (rest : List Text)
        → given_word h waiting (position_of seen) is_trailing word rest (arg_by_index c (position_of seen))
        ≡ cond (has_place form None && not (is_taken None seen)) (outcome s (at (pended (rows_of seen) None word) idle 2 is_trailing) rest) None
    step_value h seen st waiting is_trailing word rest = go form.takes_word refl (is_taken None seen) refl
      where
        at_index : arg_by_index c (position_of seen) ≡ cond (form.takes_word && (1 == position_of seen)) (Some word_now) None
        at_index = by_index form.options form.takes_word (position_of seen)

        go : (a : Bool) → form.takes_word ≡ a → (b : Bool) → is_taken None seen ≡ b
            → given_word h waiting (position_of seen) is_trailing word rest (arg_by_index c (position_of seen))
            ≡ cond (form.takes_word && not (is_taken None seen)) (outcome s (at (pended (rows_of seen) None word) idle 2 is_trailing) rest) None
        go false e b f =
            ap (given_word h waiting (position_of seen) is_trailing word rest) (at_index ∙ ap (λ (w : Bool). cond (w && (1 == position_of seen)) (Some word_now) None) e)
            ∙ sym (ap (λ (w : Bool). cond (w && not (is_taken None seen)) (outcome s (at (pended (rows_of seen) None word) idle 2 is_trailing) rest) None) e)
        go true e true f =
            ap (given_word h waiting (position_of seen) is_trailing word rest)
            (at_index ∙ ap₂ (λ (w t : Bool). cond (w && (1 == cond t 2 1)) (Some word_now) None) e f)
            ∙ sym (ap₂ (λ (w t : Bool). cond (w && not t) (outcome s (at (pended (rows_of seen) None word) idle 2 is_trailing) rest) None) e f)
        go true e false f =
            ap (given_word h waiting (position_of seen) is_trailing word rest)
            (at_index ∙ ap₂ (λ (w t : Bool). cond (w && (1 == cond t 2 1)) (Some word_now) None) e f)
            ∙ (ap (λ (t : Bool). given_word h waiting (cond t 2 1) is_trailing word rest (Some word_now)) f
            ∙ (ap (λ (k : Kinds). guard k (outcome s (to_positional c (Some word_now) word (at h waiting 1 is_trailing) h) rest)) (positional_is h ∙ st.settles)
            ∙ (ap₂ (λ (k : Held) (t : Bool). outcome s (at k idle 2 t) rest) (held_is word h seen st) (or_none is_trailing)
            ∙ sym (ap₂ (λ (w t : Bool). cond (w && not t) (outcome s (at (pended (rows_of seen) None word) idle 2 is_trailing) rest) None) e f))))

    -- what can't be used is refused by a word that would be used behind it
    word_fails : (h : Held) → Fails h → (waiting : Waiting) (position : ℕ) (is_trailing : Bool) (word : Text) (rest : List Text)
        → given_word h waiting position is_trailing word rest (arg_by_index c position) ≡ None
    word_fails h fails waiting position is_trailing word rest =
        ap (given_word h waiting position is_trailing word rest) (by_index form.options form.takes_word position) ∙ go (form.takes_word && (1 == position))
      where
        go : (b : Bool) → given_word h waiting position is_trailing word rest (cond b (Some word_now) None) ≡ None
        go false = refl
        go true = ap (λ (k : Kinds). guard k (outcome s (to_positional c (Some word_now) word (at h waiting position is_trailing) h) rest)) (positional_is h ∙ fails.is)

    -- ---- behind `--`

    pub trail : (words : List Text) (h : Held) (seen : List Piece) → Stands h seen → (waiting : Waiting)
        → outcome s (at h waiting (position_of seen) true) words ≡ checked form seen (map by_itself words)
    unfolding walked
    trail [] h seen st waiting = finish_stands h seen st ∙ ap (λ (xs : List Piece). Some (rows_of xs)) (sym (append-nil seen))
    trail (word ∷ rest) h seen st waiting =
        step_value h seen st waiting true word rest
        ∙ (cond_same (has_place form None && not (is_taken None seen)) _ _ (λ both.
        let parts = and_true (has_place form None) (not (is_taken None seen)) both in
        let fresh = not_true (is_taken None seen) parts.1 in
        ap (λ (n : ℕ). outcome s (at (pended (rows_of seen) None word) idle n true) rest) (sym (position_more seen word fresh))
        ∙ trail rest (pended (rows_of seen) None word) (seen ++ (None, word) ∷ []) (pend_stands seen st.known None word parts.0 fresh) idle)
        ∙ sym (piece_step (None, word) seen (Some (map by_itself rest))))

    pub fails_trail : (words : List Text) (h : Held) → Fails h → (waiting : Waiting) (position : ℕ) → outcome s (at h waiting position true) words ≡ None
    unfolding walked
    fails_trail [] h fails waiting position = ap (λ (k : Kinds). guard k (guard (defaults_fault (settled c h).rows c) (guard (check_fault s (finished c h) false) (Some (finished c h))))) fails.is
    fails_trail (word ∷ rest) h fails waiting position = word_fails h fails waiting position true word rest

    -- ---- before `--`

    -- one turn, by the tests of the word
    abbrev turned : Held → Waiting → ℕ → Text → List Text → Bool → Option (Text × Option Text) → Option (List Row)
    turned h waiting position word rest is_end long =
        let met = cond {A = Held × Step} is_end (h, trailing position) (long_or_other c waiting word long h) in
        guard (or_else (cond is_end [] (flag_word_fault c false long word h)) (step_fault s position met.0 met.1)) (outcome s (after_step c word (at h waiting position false) met.0 met.1) rest)

    turned_is : (h : Held) (waiting : Waiting) (position : ℕ) (word : Text) (rest : List Text)
        → outcome s (at h waiting position false) (word ∷ rest) ≡ turned h waiting position word rest (bytes_eq word two_dashes) (long_of word)
    unfolding walked
    turned_is h idle position word rest = refl
    turned_is h (awaits name) position word rest = refl
    turned_is h positional position word rest = refl

    -- a bundle of short options names none
    bundle_is : (x : ℕ) (xs : Text) (h : Held) → h.skip ≡ 0 → IsUtf8 (45 ∷ x ∷ xs) → bundle_fault c false (x ∷ xs) h ≡ kind.UnknownArgument ∷ []
    unfolding flags_fault
    bundle_is x xs h none text =
        let y = next_char x xs text in
        ap₂ (λ (n : ℕ) (cs : List ℕ). bundle_step_fault c false (slice_get cs 0) (x ∷ xs) n (record h { skip = 0 }) (flags_fault c false (length xs))) none y.2
        ∙ ap (λ (o : Option Rule). short_fault c false o (drop (length (encode_utf8 y.0)) (x ∷ xs)) (record h { skip = 0 }) (flags_fault c false (length xs) (drop (length (encode_utf8 y.0)) (x ∷ xs)) 0)) (by_short form.options form.takes_word y.0)

    abbrev bundled : Held → Waiting → ℕ → Text → List Text → Option Text → Option (List Row)
    bundled h waiting position word rest flags =
        let met = short_or_plain c waiting word flags h in
        guard (or_else (option_map_or (λ f. bundle_fault c false f h) flags []) (step_fault s position met.0 met.1)) (outcome s (after_step c word (at h waiting position false) met.0 met.1) rest)

    dashed_is : (h : Held) → h.skip ≡ 0 → (waiting : Waiting) (position : ℕ) (word : Text) (rest : List Text) → IsDashed word → IsUtf8 word → outcome s (at h waiting position false) (word ∷ rest) ≡ None
    dashed_is h none waiting position word rest d text =
        turned_is h waiting position word rest
        ∙ (ap₂ (turned h waiting position word rest) d.not_two d.long
        ∙ (ap (bundled h waiting position word rest) d.short
        ∙ ap (λ (k : Kinds). guard (or_else k (step_fault s position (short_or_plain c waiting word (Some (d.first ∷ d.rest)) h).0 (short_or_plain c waiting word (Some (d.first ∷ d.rest)) h).1))
        (outcome s (after_step c word (at h waiting position false) (short_or_plain c waiting word (Some (d.first ∷ d.rest)) h).0 (short_or_plain c waiting word (Some (d.first ∷ d.rest)) h).1) rest))
        (bundle_is d.first d.rest h none (subst IsUtf8 d.is text))))

    -- a long option, by the rule that it names
    abbrev named : Held → Waiting → ℕ → Text → List Text → Option Text → Option Rule → Option (List Row)
    named h waiting position word rest text o =
        let met = after_flag c waiting word (long_met c o text h).0 (long_met c o text h).1 in
        guard (or_else (long_fault c false o text h) (step_fault s position met.0 met.1)) (outcome s (after_step c word (at h waiting position false) met.0 met.1) rest)

    long_is : (h : Held) (waiting : Waiting) (position : ℕ) (word : Text) (rest : List Text) (name : Text) (text : Option Text) → LooksLike word (option name text)
        → outcome s (at h waiting position false) (word ∷ rest) ≡ named h waiting position word rest text (cond (has_place form (Some name)) (Some (option_now name)) None)
    long_is h waiting position word rest name text looks =
        turned_is h waiting position word rest
        ∙ (ap₂ (turned h waiting position word rest) looks.0 looks.1
        ∙ ap (named h waiting position word rest text) (by_long form.options form.takes_word name))

    long_fails : (h : Held) → Fails h → (waiting : Waiting) (position : ℕ) (word : Text) (rest : List Text) (name : Text) (text : Option Text) (b : Bool)
        → named h waiting position word rest text (cond b (Some (option_now name)) None) ≡ None
    long_fails h fails waiting position word rest name text false = refl
    long_fails h fails waiting position word rest name None true =
        ap (λ (k : Kinds). guard (or_else k []) (outcome s (at (record (settled c h) { pending = Some (name, []) }) (awaits name) position false) rest)) fails.is
    long_fails h fails waiting position word rest name (Some v) true =
        ap (λ (k : Kinds). guard (or_else (or_else k (use_fault false (option_now name) (v ∷ []) (settled c h).rows)) []) (outcome s (at (reacted c (option_now name) (v ∷ []) h) idle position false) rest)) fails.is

    plain_is : (h : Held) (position : ℕ) (word : Text) (rest : List Text) → LooksLike word plain → outcome s (at h idle position false) (word ∷ rest) ≡ given_word h idle position false word rest (arg_by_index c position)
    plain_is h position word rest looks =
        turned_is h idle position word rest
        ∙ (ap₂ (turned h idle position word rest) looks.0 looks.1
        ∙ ap (bundled h idle position word rest) looks.2)

    fails_idle : (words : List Text) → AllByRecursion IsUtf8 words → (h : Held) → Fails h → (position : ℕ) → outcome s (at h idle position false) words ≡ None
    fails_idle [] texts h fails position = ap (λ (k : Kinds). guard k (guard (defaults_fault (settled c h).rows c) (guard (check_fault s (finished c h) false) (Some (finished c h))))) fails.is
    fails_idle (word ∷ rest) texts h fails position = go (look word) (look_is word)
      where
        go : (l : Look) → LooksLike word l → outcome s (at h idle position false) (word ∷ rest) ≡ None
        go ends e = turned_is h idle position word rest ∙ (ap (λ (b : Bool). turned h idle position word rest b (long_of word)) e ∙ fails_trail rest h fails idle position)
        go (option name text) e = long_is h idle position word rest name text e ∙ long_fails h fails idle position word rest name text (has_place form (Some name))
        go dashed e = dashed_is h fails.skip idle position word rest e texts.0
        go plain e = plain_is h position word rest e ∙ word_fails h fails idle position false word rest

    -- ---- the walk and the pieces

    pub record Agrees (words : List Text) : Type 0 where
      pub idles : (h : Held) (seen : List Piece) → Stands h seen → outcome s (at h idle (position_of seen) false) words ≡ option_and_then (checked form seen) (pieces words None)
      pub waits : (name : Text) (seen : List Piece) → has_place form (Some name) ≡ true → are_known form seen ≡ true
          → outcome s (at (expecting (rows_of seen) name) (awaits name) (position_of seen) false) words ≡ option_and_then (checked form seen) (pieces words (Some name))

    unknown_waits : (name : Text) (seen : List Piece) → has_place form (Some name) ≡ false → (words : List Text) → option_and_then (checked form seen) (pieces words (Some name)) ≡ None
    unfolding pieces
    unknown_waits name seen unknown [] = refl
    unknown_waits name seen unknown (word ∷ rest) = unknown_by name seen unknown (look word) word (pieces rest None)

    -- a piece behind those that were seen, and what follows
    abbrev goes_on : List Piece → Piece → Option (List Piece) → Option (List Row)
    goes_on seen p later = cond (has_place form p.0 && not (is_taken p.0 seen)) (option_and_then (checked form (seen ++ p ∷ [])) later) None

    word_step : (rest : List Text) → Agrees rest → (h : Held) (seen : List Piece) → Stands h seen → (word : Text)
        → given_word h idle (position_of seen) false word rest (arg_by_index c (position_of seen)) ≡ goes_on seen (None, word) (pieces rest None)
    word_step rest ih h seen st word =
        step_value h seen st idle false word rest
        ∙ cond_same (has_place form None && not (is_taken None seen)) _ _ (λ both.
        let parts = and_true (has_place form None) (not (is_taken None seen)) both in
        let fresh = not_true (is_taken None seen) parts.1 in
        ap (λ (n : ℕ). outcome s (at (pended (rows_of seen) None word) idle n false) rest) (sym (position_more seen word fresh))
        ∙ ih.idles (pended (rows_of seen) None word) (seen ++ (None, word) ∷ []) (pend_stands seen st.known None word parts.0 fresh))

    -- the option's value stands in its word
    abbrev used_now : List Text → ℕ → Text → Text → Kinds → Held → Option (List Row)
    used_now rest position name text k h =
        guard (or_else (or_else k (use_fault false (option_now name) (text ∷ []) h.rows)) [])
        (outcome s (at (record { rows = used (option_now name) (text ∷ []) h.rows; pending = None; skip = h.skip }) idle position false) rest)

    value_step : (rest : List Text) → Agrees rest → (h : Held) (seen : List Piece) → Stands h seen → (word name text : Text)
        → named h idle (position_of seen) word rest (Some text) (cond (has_place form (Some name)) (Some (option_now name)) None) ≡ goes_on seen (Some name, text) (pieces rest None)
    value_step rest ih h seen st word name text = go (has_place form (Some name)) refl (is_taken (Some name) seen) refl
      where
        place : Place
        place = Some name

        go : (a : Bool) → has_place form (Some name) ≡ a → (b : Bool) → is_taken (Some name) seen ≡ b
            → named h idle (position_of seen) word rest (Some text) (cond (has_place form (Some name)) (Some (option_now name)) None) ≡ goes_on seen (Some name, text) (pieces rest None)
        go false e b f =
            ap (λ (t : Bool). named h idle (position_of seen) word rest (Some text) (cond t (Some (option_now name)) None)) e
            ∙ sym (ap (λ (t : Bool). cond (t && not (is_taken (Some name) seen)) (option_and_then (checked form (seen ++ (Some name, text) ∷ [])) (pieces rest None)) None) e)
        go true e true f =
            ap (λ (t : Bool). named h idle (position_of seen) word rest (Some text) (cond t (Some (option_now name)) None)) e
            ∙ (ap₂ (used_now rest (position_of seen) name text) st.settles st.settled_is
            ∙ (ap (λ (k : Kinds). guard (or_else k []) (outcome s (at (holding (used (option_now name) (text ∷ []) (rows_of seen))) idle (position_of seen) false) rest))
            (use_fault_is (Some name) text (rows_of seen) ∙ ap (λ (t : Bool). cond t (kind.ArgumentConflict ∷ []) []) (row_is seen st.known (Some name) text e ∙ f))
            ∙ sym (ap₂ (λ (t u : Bool). cond (t && not u) (option_and_then (checked form (seen ++ (Some name, text) ∷ [])) (pieces rest None)) None) e f)))
        go true e false f =
            ap (λ (t : Bool). named h idle (position_of seen) word rest (Some text) (cond t (Some (option_now name)) None)) e
            ∙ (ap₂ (used_now rest (position_of seen) name text) st.settles st.settled_is
            ∙ (ap (λ (k : Kinds). guard (or_else k []) (outcome s (at (holding (used (option_now name) (text ∷ []) (rows_of seen))) idle (position_of seen) false) rest))
            (use_fault_is (Some name) text (rows_of seen) ∙ ap (λ (t : Bool). cond t (kind.ArgumentConflict ∷ []) []) (row_is seen st.known (Some name) text e ∙ f))
            ∙ (ap₂ (λ (r : List Row) (n : ℕ). outcome s (at (holding r) idle n false) rest) (used_is seen st.known (Some name) text e f) (sym (position_same seen name text))
            ∙ (ih.idles (holding (rows_of (seen ++ (Some name, text) ∷ []))) (seen ++ (Some name, text) ∷ []) (done_stands (seen ++ (Some name, text) ∷ []) (known_more seen (Some name, text) st.known e))
            ∙ sym (ap₂ (λ (t u : Bool). cond (t && not u) (option_and_then (checked form (seen ++ (Some name, text) ∷ [])) (pieces rest None)) None) e f)))))

    -- the option waits for its value
    wait_step : (rest : List Text) → Agrees rest → (h : Held) (seen : List Piece) → Stands h seen → (word name : Text)
        → named h idle (position_of seen) word rest None (cond (has_place form (Some name)) (Some (option_now name)) None) ≡ option_and_then (checked form seen) (pieces rest (Some name))
    wait_step rest ih h seen st word name = go (has_place form (Some name)) refl
      where
        go : (a : Bool) → has_place form (Some name) ≡ a
            → named h idle (position_of seen) word rest None (cond (has_place form (Some name)) (Some (option_now name)) None) ≡ option_and_then (checked form seen) (pieces rest (Some name))
        go false e =
            ap (λ (t : Bool). named h idle (position_of seen) word rest None (cond t (Some (option_now name)) None)) e
            ∙ sym (unknown_waits name seen e rest)
        go true e =
            ap (λ (t : Bool). named h idle (position_of seen) word rest None (cond t (Some (option_now name)) None)) e
            ∙ (ap₂ (λ (k : Kinds) (m : Held). guard (or_else k []) (outcome s (at (record m { pending = Some (name, []) }) (awaits name) (position_of seen) false) rest)) st.settles st.settled_is
            ∙ ih.waits name seen e st.known)

    idle_by : (rest : List Text) → Agrees rest → (h : Held) (seen : List Piece) → Stands h seen → (word : Text) → IsUtf8 word → (l : Look) → LooksLike word l
        → outcome s (at h idle (position_of seen) false) (word ∷ rest) ≡ option_and_then (checked form seen) (pieces_by l word rest (pieces rest))
    idle_by rest ih h seen st word text ends e =
        turned_is h idle (position_of seen) word rest
        ∙ (ap (λ (b : Bool). turned h idle (position_of seen) word rest b (long_of word)) e ∙ trail rest h seen st idle)
    idle_by rest ih h seen st word text (option name (Some v)) e =
        long_is h idle (position_of seen) word rest name (Some v) e
        ∙ (value_step rest ih h seen st word name v ∙ sym (piece_step (Some name, v) seen (pieces rest None)))
    idle_by rest ih h seen st word text (option name None) e = long_is h idle (position_of seen) word rest name None e ∙ wait_step rest ih h seen st word name
    idle_by rest ih h seen st word text dashed e = dashed_is h (ap (λ (k : Held). k.skip) st.settled_is) idle (position_of seen) word rest e text
    idle_by rest ih h seen st word text plain e =
        plain_is h (position_of seen) word rest e ∙ (word_step rest ih h seen st word ∙ sym (piece_step (None, word) seen (pieces rest None)))

    -- the word that an option gets as its value
    abbrev valued : Text → List Row → ℕ → Text → List Text → Option Rule → Option (List Row)
    valued name rows position word rest o =
        let met = option_word o name word (expecting rows name) in
        outcome s (at met.0 met.1 position false) rest

    got_value : (name : Text) (rows : List Row) (position : ℕ) (word : Text) (rest : List Text) → valued name rows position word rest (Some (option_now name)) ≡ outcome s (at (pended rows (Some name) word) idle position false) rest
    got_value name rows position word rest =
        ap (λ (b : Bool). outcome s (at (pended rows (Some name) word) (cond (nat_lt (cond b 1 0) 1) (awaits name) idle) position false) rest) ((bytes_eq-Decides name name).1 refl)

    pended_step : (rest : List Text) → AllByRecursion IsUtf8 rest → Agrees rest → (name : Text) (seen : List Piece) → has_place form (Some name) ≡ true → are_known form seen ≡ true → (word : Text)
        → outcome s (at (pended (rows_of seen) (Some name) word) idle (position_of seen) false) rest ≡ goes_on seen (Some name, word) (pieces rest None)
    pended_step rest texts ih name seen has known word = go (is_taken (Some name) seen) refl
      where
        go : (b : Bool) → is_taken (Some name) seen ≡ b → outcome s (at (pended (rows_of seen) (Some name) word) idle (position_of seen) false) rest ≡ goes_on seen (Some name, word) (pieces rest None)
        go true f =
            fails_idle rest texts (pended (rows_of seen) (Some name) word) (pend_fails seen known (Some name) word has f) (position_of seen)
            ∙ sym (ap₂ (λ (t u : Bool). cond (t && not u) (option_and_then (checked form (seen ++ (Some name, word) ∷ [])) (pieces rest None)) None) has f)
        go false f =
            ap (λ (n : ℕ). outcome s (at (pended (rows_of seen) (Some name) word) idle n false) rest) (sym (position_same seen name word))
            ∙ (ih.idles (pended (rows_of seen) (Some name) word) (seen ++ (Some name, word) ∷ []) (pend_stands seen known (Some name) word has f)
            ∙ sym (ap₂ (λ (t u : Bool). cond (t && not u) (option_and_then (checked form (seen ++ (Some name, word) ∷ [])) (pieces rest None)) None) has f))

    wait_by : (rest : List Text) → AllByRecursion IsUtf8 rest → Agrees rest → (name : Text) (seen : List Piece) → has_place form (Some name) ≡ true → are_known form seen ≡ true
        → (word : Text) → IsUtf8 word → (l : Look) → LooksLike word l
        → outcome s (at (expecting (rows_of seen) name) (awaits name) (position_of seen) false) (word ∷ rest) ≡ option_and_then (checked form seen) (value_by l name word (pieces rest None))
    wait_by rest texts ih name seen has known word text ends e =
        turned_is (expecting (rows_of seen) name) (awaits name) (position_of seen) word rest
        ∙ (ap (λ (b : Bool). turned (expecting (rows_of seen) name) (awaits name) (position_of seen) word rest b (long_of word)) e
        ∙ fails_trail rest (expecting (rows_of seen) name) (wait_fails seen name has) (awaits name) (position_of seen))
    wait_by rest texts ih name seen has known word text (option n v) e =
        long_is (expecting (rows_of seen) name) (awaits name) (position_of seen) word rest n v e
        ∙ long_fails (expecting (rows_of seen) name) (wait_fails seen name has) (awaits name) (position_of seen) word rest n v (has_place form (Some n))
    wait_by rest texts ih name seen has known word text dashed e = dashed_is (expecting (rows_of seen) name) refl (awaits name) (position_of seen) word rest e text
    wait_by rest texts ih name seen has known word text plain e =
        turned_is (expecting (rows_of seen) name) (awaits name) (position_of seen) word rest
        ∙ (ap₂ (turned (expecting (rows_of seen) name) (awaits name) (position_of seen) word rest) e.0 e.1
        ∙ (ap (bundled (expecting (rows_of seen) name) (awaits name) (position_of seen) word rest) e.2
        ∙ (ap (valued name (rows_of seen) (position_of seen) word rest) (found_at (Some name) has)
        ∙ (got_value name (rows_of seen) (position_of seen) word rest
        ∙ (pended_step rest texts ih name seen has known word
        ∙ sym (piece_step (Some name, word) seen (pieces rest None)))))))

    pub agree : (words : List Text) → AllByRecursion IsUtf8 words → Agrees words
    unfolding pieces
    agree [] texts = record {
      idles = λ h seen st. finish_stands h seen st ∙ ap (λ (xs : List Piece). Some (rows_of xs)) (sym (append-nil seen));
      waits = λ name seen has known. ap (λ (k : Kinds). guard k (guard (defaults_fault (settled c (expecting (rows_of seen) name)).rows c)
          (guard (check_fault s (finished c (expecting (rows_of seen) name)) false) (Some (finished c (expecting (rows_of seen) name)))))) (wait_fails seen name has).is;
    }
    agree (word ∷ rest) texts = let ih = agree rest texts.1 in record {
      idles = λ h seen st. idle_by rest ih h seen st word texts.0 (look word) (look_is word);
      waits = λ name seen has known. wait_by rest texts.1 ih name seen has known word texts.0 (look word) (look_is word);
    }

    -- the rows that a command gets, and whether it gets any
    pub command_is : (words : List Text) → AllByRecursion IsUtf8 words
        → guard (level_fault s [] nothing_held words false []) (Some (finished c (walk c [] nothing_held words).held)) ≡ option_and_then (checked form []) (pieces words None)
    command_is words texts = level_is s words ∙ (agree words texts).idles nothing_held [] (done_stands [] refl)
