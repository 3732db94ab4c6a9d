use Rattle.std.proofs.Common.{rules, ◌≡◌, ◌∙◌, ap, ap₂, ℕ, Bool, false, ◌||◌, List, [], slice_index_or, Bor, arith}
use Rattle.clap.specs.Words.{app_of, rule_of, with_rule}
use Rattle.words_cli.specs.ClapLine.{option_rule, word_rule}
use Rattle.words_cli.proofs.Told.{told_more, told_word, told_bare}
use Rattle.words_cli.proofs.line.form.Goals.{then-takes_word+in_ok-command-2, else-takes_word}
use Rattle.words_cli.proofs.line.form.Goals as goal

pub loop-option-preserved : goal.loop-option-preserved
loop-option-preserved c =
    let none : Bor (List ℕ) = record { ref_ptr = (0, 0); now = [] } in
    let option : Bor (List ℕ) = slice_index_or c.args.options.now c.loop-option.option-index none in
    let is_option : rule_of c.action-arg.result ≡ option_rule option.now = search rules in
    let is_local : c.action-arg.result.global ≡ false = search rules in
    record {
      app = c.in_ok-command.ensures.shape is_local ∙ (ap₂ with_rule c.loop-option.invariant.app is_option
          ∙ told_more c.args.name.now c.args.options.now c.loop-option.option-index none c.loop-option-test.true);
      local = c.in_ok-command.ensures.globals ∙ ap₂ (λ (a b : Bool). a || b) c.loop-option.invariant.local is_local;
    }

pub returns-clause-app : goal.returns-clause-app
returns-clause-app c = elim c.if-takes_word.branch [
  | then-takes_word+in_ok-command-2 w ↦
      let is_word : rule_of w.action-arg-then-takes_word.result ≡ word_rule = search rules in
      ap app_of w.command-is ∙ (w.in_ok-command-2.ensures.shape (search rules) ∙ (ap₂ with_rule c.loop-option.invariant.app is_word
      ∙ told_word c.args.name.now c.args.options.now c.loop-option.option-index c.args.takes_word (omega arith) w.if-takes_word.true))
  | else-takes_word w ↦
      ap app_of w.command-is ∙ (c.loop-option.invariant.app ∙ told_bare c.args.name.now c.args.options.now c.loop-option.option-index c.args.takes_word (omega arith) w.if-takes_word.false)
]
