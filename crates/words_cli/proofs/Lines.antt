-- What `clap` makes of a whole line of words, and the line.
use Rattle.std.proofs.Common.{◌≡◌, ◌∙◌, sym, ap, ap₂, refl, subst, ℕ, Bool, true, false, cond, not, ◌&&◌, true≢false, List, [], ◌∷◌, ◌++◌, map, length, Option, Some, None, is_some, unwrap_or, option_map, option_and_then, bytes_eq, fold, find, slice_get, codes, IsUtf8}
use Rattle.std.specs.List.{AllByRecursion}
use Rattle.std.specs.Option.{option_map_or}
use Rattle.std.proofs.lemmas.Slice.Eq.{bytes_eq-Decides}
use Rattle.clap.specs.Lexer.{long_of}
use Rattle.clap.specs.Words.{App, Row, Shape, first_of, is_simple, subcommand_rows_of}
use Rattle.clap.specs.Walk.{Held, Names, Step, Walk, after_step, answers_to, long_or_other, short_or_plain, finished, idle, nothing_held, rows_after, settled, stop_after, subcommand_met, subcommand_or_other, trailing, walk, walk_from, walked}
use Rattle.clap.specs.Kinds.{IsAmong, Kinds, or_else}
use Rattle.clap.specs.Faults.{built_fault, flag_word_fault, bundle_fault, bundle_step_fault, check_fault, defaults_fault, entered_fault, fault_of, flags_fault, is_simple_and_free, level_fault, other_fault, settle_fault, step_fault, walk_fault}
use Rattle.clap.specs.Simple.{HasMatchesOf, built, entered, label_of, names_of, rows_at, subcommand_of}
use Rattle.clap.proofs.WalkLemmas.{walk_stopped}
use Rattle.clap.proofs.OnLiterals.{clap_on_literals}
use Rattle.clap.specs.declared.error.kind.ErrorKind.{ErrorKind}
use Rattle.clap.specs.declared.error.kind.ErrorKind.TheVariants as kind
use Rattle.clap.specs.declared.parser.matches.ArgMatches.{ArgMatches}
use Rattle.words_cli.specs.Words.{Text, Piece, Look, ends, option, dashed, plain, look, pieces}
use Rattle.words_cli.specs.Forms.{Form, has_place, is_named, is_taken, fits_behind, fitting, given_to, line_of, same_place, value_at}
use Rattle.words_cli.specs.Table.{built_forms}
use Rattle.words_cli.specs.ClapLine.{word_id, id_of, rows_of, line_rows, line_shape, line_app}
use Rattle.words_cli.proofs.Looks.{two_dashes, LooksLike, look_is, next_char}
use Rattle.words_cli.proofs.Rules.{IsApart, are_known, and_true, same_as_word}
use Rattle.words_cli.proofs.Walks.{guard, guard-or_else, and_false, checked, command_is, sub_now}

abbrev pub now_app : List Form → App
now_app forms = record { top = record (line_shape false) { is_built = true }; subs = map sub_now forms }

-- ---- finding the command

names_find : (w : Text) (forms : List Form) → find (answers_to w) (names_of (now_app forms)) ≡ option_map (λ f. (f.name, [])) (find (is_named w) forms)
names_find w [] = refl
names_find w (f ∷ fs) = go (bytes_eq f.name w) refl (names_find w fs)
  where
    go : (t : Bool) → bytes_eq f.name w ≡ t → find (answers_to w) (names_of (now_app fs)) ≡ option_map (λ f. (f.name, [])) (find (is_named w) fs)
        → find (answers_to w) (names_of (now_app (f ∷ fs))) ≡ option_map (λ f. (f.name, [])) (find (is_named w) (f ∷ fs))
    go true e ih = rw e refl
    go false e ih = rw e ih

subs_find : (w : Text) (forms : List Form) → find (λ s. answers_to w (label_of s)) (map sub_now forms) ≡ option_map sub_now (find (is_named w) forms)
subs_find w [] = refl
subs_find w (f ∷ fs) = go (bytes_eq f.name w) refl (subs_find w fs)
  where
    go : (t : Bool) → bytes_eq f.name w ≡ t → find (λ s. answers_to w (label_of s)) (map sub_now fs) ≡ option_map sub_now (find (is_named w) fs)
        → find (λ s. answers_to w (label_of s)) (map sub_now (f ∷ fs)) ≡ option_map sub_now (find (is_named w) (f ∷ fs))
    go true e ih = rw e refl
    go false e ih = rw e ih

of_some : (x y : Form) → Some x ≡ Some y → x ≡ y
of_some x y e = ap (λ (o : Option Form). unwrap_or o x) e

some_same : (xs ys : List Piece) → Some xs ≡ Some ys → xs ≡ ys
some_same xs ys e = ap (λ (o : Option (List Piece)). unwrap_or o xs) e

found_one : (w : Text) (forms : List Form) (f : Form) → AllByRecursion IsApart forms → find (is_named w) forms ≡ Some f → (f.name ≡ w) × IsApart f
found_one w [] f apart e = absurd (none_is e)
  where
    none_is : None ≡ Some f → ⊥
    none_is h = true≢false (sym (ap is_some h))
found_one w (g ∷ gs) f apart e = go (bytes_eq g.name w) refl (found_one w gs f apart.1)
  where
    go : (t : Bool) → bytes_eq g.name w ≡ t → (find (is_named w) gs ≡ Some f → (f.name ≡ w) × IsApart f) → (f.name ≡ w) × IsApart f
    go true n ih = let same : g ≡ f = of_some g f (rw n at e) in subst (λ (h : Form). (h.name ≡ w) × IsApart h) same ((bytes_eq-Decides g.name w).0 n, apart.0)
    go false n ih = ih (rw n at e)

-- ---- the walk behind a command's name is left to it

abbrev stopped_at : Text → List Text → Walk
stopped_at name seen = record { held = nothing_held; waiting = idle; position = 1; is_trailing = false; stopped = Some (name, seen) }

no_fault_behind : (s : Shape) (names : Names) (name : Text) (seen ws : List Text) → walk_fault s names (stopped_at name seen) ws ≡ []
unfolding walk_fault walked
no_fault_behind s names name seen [] = refl
no_fault_behind s names name seen (w ∷ ws) = no_fault_behind s names name (seen ++ w ∷ []) ws

-- ---- a line

module _ (forms : List Form) where
  abbrev app : App
  app = now_app forms

  abbrev names : Names
  names = names_of app

  -- the line's rows, by where the walk stopped
  abbrev ended : Kinds → Walk → Option (Text × List Row)
  ended faults end =
      guard (or_else faults (or_else (entered_fault app end.stopped)
      (or_else (settle_fault [] false end.held) (or_else (defaults_fault (settled [] end.held).rows []) (check_fault app.top (finished [] end.held) (is_some (entered app end.stopped)))))))
      (entered app end.stopped)

  -- the same, by the command that the first word names
  abbrev lined : Text → List Text → Option Text → Option (Text × List Row)
  lined w ws met =
      let step = subcommand_or_other [] met idle 1 w nothing_held in
      let next = after_step [] w (walk_from nothing_held) step.0 step.1 in
      ended (or_else (or_else (other_fault app.top met w nothing_held) (step_fault app.top 1 step.0 step.1)) (walk_fault app.top names next ws)) (fold (walked [] names) next ws)

  lined_is : (w : Text) (ws : List Text)
      → guard (built_fault app nothing_held (w ∷ ws)) (entered app (walk [] names nothing_held (w ∷ ws)).stopped) ≡ lined w ws (subcommand_met names idle w)
  unfolding walked walk_fault
  lined_is w ws = refl

  -- ---- the first word names no command

  abbrev unnamed : Text → List Text → Bool → Option (Text × Option Text) → Option (Text × List Row)
  unnamed w ws is_end long =
      let step = cond {A = Held × Step} is_end (nothing_held, trailing 1) (long_or_other [] idle w long nothing_held) in
      let next = after_step [] w (walk_from nothing_held) step.0 step.1 in
      ended (or_else (or_else (cond is_end [] (flag_word_fault [] false long w nothing_held)) (step_fault app.top 1 step.0 step.1)) (walk_fault app.top names next ws)) (fold (walked [] names) next ws)

  abbrev bundled : Text → List Text → Option Text → Option (Text × List Row)
  bundled w ws flags =
      let step = short_or_plain [] idle w flags nothing_held in
      let next = after_step [] w (walk_from nothing_held) step.0 step.1 in
      ended (or_else (or_else (option_map_or (λ f. bundle_fault [] false f nothing_held) flags []) (step_fault app.top 1 step.0 step.1)) (walk_fault app.top names next ws)) (fold (walked [] names) next ws)

  bundle_is : (x : ℕ) (xs : Text) → IsUtf8 (45 ∷ x ∷ xs) → bundle_fault [] false (x ∷ xs) nothing_held ≡ kind.UnknownArgument ∷ []
  unfolding flags_fault
  bundle_is x xs text = ap (λ (cs : List ℕ). bundle_step_fault [] false (slice_get cs 0) (x ∷ xs) 0 nothing_held (flags_fault [] false (length xs))) (next_char x xs text).2

  unnamed_by : (w : Text) (ws : List Text) → IsUtf8 w → (l : Look) → LooksLike w l → unnamed w ws (bytes_eq w two_dashes) (long_of w) ≡ None
  unfolding walked walk_fault defaults_fault
  unnamed_by w [] text ends e = ap (λ (b : Bool). unnamed w [] b (long_of w)) e
  unnamed_by w (v ∷ vs) text ends e = ap (λ (b : Bool). unnamed w (v ∷ vs) b (long_of w)) e
  unnamed_by w ws text (option name v) e = ap₂ (unnamed w ws) e.0 e.1
  unnamed_by w ws text dashed e =
      ap₂ (unnamed w ws) e.not_two e.long
      ∙ (ap (bundled w ws) e.short
      ∙ ap (λ (k : Kinds).
      let step = short_or_plain [] idle w (Some (e.first ∷ e.rest)) nothing_held in
      let next = after_step [] w (walk_from nothing_held) step.0 step.1 in
      ended (or_else (or_else k (step_fault app.top 1 step.0 step.1)) (walk_fault app.top names next ws)) (fold (walked [] names) next ws))
      (bundle_is e.first e.rest (subst IsUtf8 e.is text)))
  unnamed_by w ws text plain e = ap₂ (unnamed w ws) e.0 e.1 ∙ ap (bundled w ws) e.2

  -- ---- the first word names a command

  abbrev entering : Text → List Text → Option Shape → Option (Text × List Row)
  entering name ws o =
      guard (or_else (option_map_or (λ s. level_fault s [] nothing_held ws false []) o [])
      (check_fault app.top [] (is_some (option_map (λ s. rows_at s ws) o))))
      (option_map (λ s. rows_at s ws) o)

  entered_is : (name : Text) (w : Text) (ws : List Text) → lined w ws (Some name) ≡ entering name ws (find (λ s. answers_to name (label_of s)) app.subs)
  unfolding defaults_fault
  entered_is name w ws =
      ap₂ ended
      (ap₂ (λ (b : Bool) (k : Kinds). or_else (or_else (cond b (kind.DisplayHelp ∷ kind.InvalidSubcommand ∷ []) []) []) k) (and_false (bytes_eq name (codes "help"))) (no_fault_behind app.top names name [] ws))
      (sym (walk_stopped [] names (stopped_at name []) name [] ws))

  with_name : (name : Text) (k : Kinds) (rows : List Row) → guard {A = Text × List Row} k (Some (name, rows)) ≡ option_map {T = List Row} {U = Text × List Row} (λ r. (name, r)) (guard k (Some rows))
  with_name name [] rows = refl
  with_name name (x ∷ xs) rows = refl

  given_rows : (f : Form) (o : Option (List Piece)) → option_map (λ r. (f.name, r)) (option_and_then (checked f []) o) ≡ option_map line_rows (option_map (λ given. (f.name, given)) (option_and_then (fitting f) o))
  given_rows f None = refl
  given_rows f (Some ps) = go (fits_behind f [] ps)
    where
      go : (b : Bool) → option_map (λ r. (f.name, r)) (cond b (Some (rows_of ps)) None) ≡ option_map line_rows (option_map (λ given. (f.name, given)) (cond b (Some ps) None))
      go true = refl
      go false = refl

  named_is : (f : Form) → IsApart f → (ws : List Text) → AllByRecursion IsUtf8 ws → entering f.name ws (Some (sub_now f)) ≡ option_map line_rows (option_map (λ given. (f.name, given)) (given_to f ws))
  named_is f apart ws texts =
      let k = level_fault (sub_now f) [] nothing_held ws false [] in
      let rows = rows_after (sub_now f).rules [] ws in
      guard-or_else k [] (Some (f.name, rows)) ∙ (with_name f.name k rows ∙ (ap (option_map (λ (r : List Row). (f.name, r))) (command_is f apart ws texts) ∙ given_rows f (pieces ws None)))

  pub line_is : (words : List Text) → AllByRecursion IsUtf8 words → AllByRecursion IsApart forms
      → guard (built_fault app nothing_held words) (entered app (walk [] names nothing_held words).stopped) ≡ option_map line_rows (line_of forms words)
  unfolding walk_fault defaults_fault
  line_is [] texts apart = refl
  line_is (w ∷ ws) texts apart =
      lined_is w ws ∙ (ap (λ (o : Option (Text × List Text)). lined w ws (option_map {T = Text × List Text} (λ s. s.0) o)) (names_find w forms) ∙ go (find (is_named w) forms) refl)
    where
      go : (o : Option Form) → find (is_named w) forms ≡ o
          → lined w ws (option_map {T = Text × List Text} (λ s. s.0) (option_map {T = Form} {U = Text × List Text} (λ f. (f.name, [])) (find (is_named w) forms)))
          ≡ option_map line_rows (option_and_then (λ form. option_map (λ given. (form.name, given)) (given_to form ws)) (find (is_named w) forms))
      go None e = rw e (unnamed_by w ws texts.0 (look w) (look_is w))
      go (Some f) e =
          let one = found_one w forms f apart e in
          rw e (entered_is f.name w ws
          ∙ (ap (entering f.name ws) (subs_find f.name forms ∙ ap (option_map sub_now) (subst (λ (n : Text). find (is_named n) forms ≡ Some f) (sym one.0) e))
          ∙ named_is f one.1 ws texts.1))

-- ---- the commands of the program

built_is : built (line_app built_forms) ≡ now_app built_forms
unfolding clap_on_literals
built_is = refl

pub free_is : is_simple_and_free (line_app built_forms) ≡ true
unfolding clap_on_literals
free_is = refl

apart_is : AllByRecursion IsApart built_forms
apart_is = (refl, (refl, (refl, (refl, (refl, (refl, (refl, tt)))))))

built_line : (words : List Text) → AllByRecursion IsUtf8 words
    → guard (fault_of (line_app built_forms) words) (subcommand_of (line_app built_forms) words) ≡ option_map line_rows (line_of built_forms words)
built_line words texts =
    ap (λ (a : App). guard (built_fault a nothing_held words) (entered a (stop_after a.top.rules (names_of a) words))) built_is
    ∙ line_is built_forms words texts apart_is

-- where the words pass, the subcommand has the line's rows
pub passed_line : (words : List Text) (m : ArgMatches) → AllByRecursion IsUtf8 words → fault_of (line_app built_forms) words ≡ [] → HasMatchesOf (line_app built_forms) words m
    → subcommand_rows_of m ≡ option_map line_rows (line_of built_forms words)
passed_line words m texts none has =
    (has (and_true (is_simple (line_app built_forms)) _ free_is).0).1
    ∙ (ap (λ (k : Kinds). guard k (subcommand_of (line_app built_forms) words)) (sym none) ∙ built_line words texts)

-- where they are refused, there is no line
pub refused_line : (words : List Text) (k : ErrorKind) → AllByRecursion IsUtf8 words → IsAmong k (fault_of (line_app built_forms) words) → line_of built_forms words ≡ None
refused_line words k texts among = go (fault_of (line_app built_forms) words) among (line_of built_forms words) (built_line words texts)
  where
    go : (kinds : Kinds) → IsAmong k kinds → (o : Option (Text × List Piece)) → guard kinds (subcommand_of (line_app built_forms) words) ≡ option_map line_rows o → o ≡ None
    go [] a o e = absurd a
    go (x ∷ xs) a None e = refl
    go (x ∷ xs) a (Some l) e = absurd (true≢false (sym (ap is_some e)))

-- ---- the values of a line

pub value_of_word : (form : Form) → IsApart form → (ps : List Piece) → are_known form ps ≡ true → first_of word_id (rows_of ps) ≡ value_at None ps
value_of_word form apart [] known = refl
value_of_word form apart (p ∷ ps) known =
    let both = and_true (has_place form p.0) (are_known form ps) known in
    go (same_place p.0 None) refl (value_of_word form apart ps both.1) (same_as_word form apart p.0 both.0)
  where
    go : (t : Bool) → same_place p.0 None ≡ t → first_of word_id (rows_of ps) ≡ value_at None ps → bytes_eq (id_of p.0) word_id ≡ same_place p.0 None → first_of word_id (rows_of (p ∷ ps)) ≡ value_at None (p ∷ ps)
    go true e ih same = rw (same, e) refl
    go false e ih same = rw (same, e) ih

fit_known : (form : Form) (seen ps : List Piece) → fits_behind form seen ps ≡ true → are_known form ps ≡ true
fit_known form seen [] e = refl
fit_known form seen (p ∷ ps) e =
    let first = and_true (has_place form p.0) (not (is_taken p.0 seen) && fits_behind form (seen ++ p ∷ []) ps) e in
    let second = and_true (not (is_taken p.0 seen)) (fits_behind form (seen ++ p ∷ []) ps) first.1 in
    rw first.0 (fit_known form (seen ++ p ∷ []) ps second.1)

fitting_known : (form : Form) (o : Option (List Piece)) (ps : List Piece) → option_and_then (fitting form) o ≡ Some ps → are_known form ps ≡ true
fitting_known form None ps e = absurd (true≢false (sym (ap is_some e)))
fitting_known form (Some qs) ps e = go (fits_behind form [] qs) refl
  where
    go : (b : Bool) → fits_behind form [] qs ≡ b → are_known form ps ≡ true
    go true f = subst (λ (xs : List Piece). are_known form xs ≡ true) (some_same qs ps (rw f at e)) (fit_known form [] qs f)
    go false f = absurd (true≢false (sym (ap is_some (rw f at e))))

-- the word of a line is that of its rows
pub line_word : (words : List Text) (l : Text × List Piece) → line_of built_forms words ≡ Some l → first_of word_id (rows_of l.1) ≡ value_at None l.1
line_word [] l e = absurd (true≢false (sym (ap is_some e)))
line_word (w ∷ ws) l e = go (find (is_named w) built_forms) refl e
  where
    values : (f : Form) → IsApart f → (o : Option (List Piece)) → given_to f ws ≡ o → option_map {U = Text × List Piece} (λ given. (f.name, given)) o ≡ Some l → first_of word_id (rows_of l.1) ≡ value_at None l.1
    values f apart None g h = absurd (true≢false (sym (ap is_some h)))
    values f apart (Some ps) g h =
        let same : ps ≡ l.1 = ap (λ (o : Option (Text × List Piece)). (unwrap_or o l).1) h in
        subst (λ (xs : List Piece). first_of word_id (rows_of xs) ≡ value_at None xs) same (value_of_word f apart ps (fitting_known f (pieces ws None) ps g))

    go : (o : Option Form) → find (is_named w) built_forms ≡ o → option_and_then (λ form. option_map {U = Text × List Piece} (λ given. (form.name, given)) (given_to form ws)) o ≡ Some l
        → first_of word_id (rows_of l.1) ≡ value_at None l.1
    go None f h = absurd (true≢false (sym (ap is_some h)))
    go (Some form) f h = values form (found_one w built_forms form apart_is f).1 (given_to form ws) refl h

-- an option that isn't named as the word: its value is that of its rows
pub value_of_option : (name : Text) → bytes_eq word_id name ≡ false → (ps : List Piece) → first_of name (rows_of ps) ≡ value_at (Some name) ps
value_of_option name other [] = refl
value_of_option name other ((None, text) ∷ ps) = rw other (value_of_option name other ps)
value_of_option name other ((Some m, text) ∷ ps) = go (bytes_eq m name) refl (value_of_option name other ps)
  where
    go : (t : Bool) → bytes_eq m name ≡ t → first_of name (rows_of ps) ≡ value_at (Some name) ps → first_of name (rows_of ((Some m, text) ∷ ps)) ≡ value_at (Some name) ((Some m, text) ∷ ps)
    go true e ih = rw e refl
    go false e ih = rw e ih
