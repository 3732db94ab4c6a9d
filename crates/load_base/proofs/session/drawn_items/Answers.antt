use Rattle.std.proofs.Common.{◌≡◌, ◌+◌, ◌-◌, [], ◌∷◌, ◌++◌, ap, sym, subst, ◌∙◌, arith}
use Rattle.std.specs.List.{All}
use Rattle.std.proofs.lemmas.List.{map-append}
use Rattle.std.proofs.lemmas.List.Elements.{All-push}
use Rattle.catalogue.specs.Items.{plain_item, plain_items}
use Rattle.catalogue.specs.Plan.{Run}
use Rattle.catalogue.specs.declared.item.Item.TheVariants as item
use Rattle.schedule.specs.Dice.{words_of}
use Rattle.load_base.specs.Load.{run_drawn, IsFitItemFor}
use Rattle.load_base.proofs.TimesLaws.{going_on, one_more}
use Rattle.load_base.proofs.session.drawn_items.Goals as goal

pub loop-preserved : goal.loop-preserved
loop-preserved g c =
    let draw = run_drawn (g.L.Load.script c.args.load.now) in
    let script = c.in_ok-draw.field-0 in
    let left = c.size-scripts.result.scripts - (c.loop.counter + 1) in
    let pushed : plain_items c.push.new.self.items ≡ plain_items c.loop.items.items ++ Run script.items ∷ [] =
    ap plain_items c.in_ok-push.ensures.items ∙ map-append plain_item c.loop.items.items (item.Run script ∷ []) in
    record {
      bound = omega arith;
      len = omega (arith, c.in_ok-push.ensures.len);
      rest =
          ap (λ xs. going_on draw xs left (words_of c.draw.new.dice)) pushed
          ∙ one_more draw (plain_items c.loop.items.items) (Run script.items) left (c.size-scripts.result.scripts - c.loop.counter) (words_of c.loop.dice) (words_of c.draw.new.dice) (ap (λ p. (Run p.0, p.1)) c.in_ok-draw.ensures.drawn) (omega arith)
          ∙ c.loop.invariant.rest;
      fit = subst (All (IsFitItemFor (g.L.Load.size c.args.load.now))) (sym pushed) (All-push (IsFitItemFor (g.L.Load.size c.args.load.now)) (plain_items c.loop.items.items) (Run script.items) c.loop.invariant.fit c.in_ok-draw.ensures.fit);
    }
