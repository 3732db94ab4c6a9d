use Rattle.std.proofs.Common.{◌≡◌, ◌∙◌, ap}
use Rattle.std.proofs.lemmas.Result.{IfOk-weaker}
use Rattle.clap.specs.Words.{App, app_of, with_subcommand}
use Rattle.words_cli.specs.Forms.{Form}
use Rattle.words_cli.specs.ClapLine.{form_shape}
use Rattle.words_cli.specs.Loads.{with_load}
use Rattle.words_cli.specs.Table.{bare, of_a_word, with_options}
use Rattle.std.specs.Prelude.{codes, [], ◌∷◌}
use Rattle.words_cli.proofs.line.command_line.Goals as goal

abbrev with_form : Form → App → App
with_form form line = with_subcommand line (form_shape form)

pub returns : goal.returns
returns c =
    let run_line : app_of c.in_ok-run.run' ≡ _ = c.in_ok-run.ensures ∙ ap (with_form (with_options (codes "run") (codes "draws" ∷ codes "number" ∷ []))) c.bare.ensures in
    let race_line : app_of c.in_ok-race.race ≡ _ = c.in_ok-race.ensures ∙ ap (with_form (with_options (codes "race") (codes "threads" ∷ []))) run_line in
    let recover_line : app_of c.in_ok-recover.recover ≡ _ = c.in_ok-recover.ensures ∙ ap (with_form (bare (codes "recover"))) race_line in
    let hot_line : app_of c.in_ok-hot.hot ≡ _ = c.in_ok-hot.ensures ∙ ap (with_form (of_a_word (codes "hot"))) recover_line in
    let layout_line : app_of c.in_ok-layout.layout ≡ _ = c.in_ok-layout.ensures ∙ ap (with_form (of_a_word (codes "layout"))) hot_line in
    let gen_line : app_of c.in_ok-generate.generate ≡ _ = c.in_ok-generate.ensures ∙ ap (with_form (with_load (codes "gen"))) layout_line in
    IfOk-weaker c.with_load-2.result _ _ (λ r h. h ∙ ap (with_form (with_load (codes "drive"))) gen_line) c.with_load-2.ensures
