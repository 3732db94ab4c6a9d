use Rattle.std.proofs.Common.{◌≡◌, ◌<◌, ◌+◌, ◌-◌, ◌^◌, [], ◌∷◌, ◌++◌, length, ap, sym, subst, ◌∙◌, arith}
use Rattle.std.specs.List.{All}
use Rattle.std.proofs.lemmas.List.{map-append}
use Rattle.std.proofs.lemmas.List.Elements.{All-push}
use Rattle.catalogue.specs.Items.{plain_items, plain_lists}
use Rattle.schedule.specs.Dice.{words_of}
use Rattle.load_base.specs.Load.{run_drawn, IsFitItemFor}
use Rattle.load_base.specs.Times.{times}
use Rattle.load_base.proofs.TimesLaws.{going_on, one_more}
use Rattle.load_base.proofs.session.drawn_clients.Goals as goal

pub loop-preserved : goal.loop-preserved
loop-preserved g c =
    let size = g.L.Load.size c.args.load.now in
    let draw = times (run_drawn (g.L.Load.script c.args.load.now)) size.scripts in
    let items = c.in_ok-drawn_items.field-0.items in
    let left = c.size-size.result.clients - (c.loop.counter + 1) in
    let pushed : plain_lists c.push.new.self.items ≡ plain_lists c.loop.clients.items ++ plain_items items ∷ [] =
    ap plain_lists c.in_ok-push.ensures.items ∙ map-append (λ list. plain_items list.items) c.loop.clients.items (c.in_ok-drawn_items.field-0 ∷ []) in
    record {
      end = c.loop.invariant.end;
      bound = omega arith;
      len = omega (arith, c.in_ok-push.ensures.len);
      rest =
          ap (λ xs. going_on draw xs left (words_of c.drawn_items.new.dice)) pushed
          ∙ one_more draw (plain_lists c.loop.clients.items) (plain_items items) left (c.size-size.result.clients - c.loop.counter) (words_of c.loop.dice) (words_of c.drawn_items.new.dice) c.in_ok-drawn_items.ensures.drawn (omega arith)
          ∙ c.loop.invariant.rest;
      fit = subst (All (All (IsFitItemFor size))) (sym pushed) (All-push (All (IsFitItemFor size)) (plain_lists c.loop.clients.items) (plain_items items) c.loop.invariant.fit c.in_ok-drawn_items.ensures.fit);
      short = subst (All (λ list. length list.items < 2 ^ 32)) (sym c.in_ok-push.ensures.items) (All-push (λ list. length list.items < 2 ^ 32) c.loop.clients.items c.in_ok-drawn_items.field-0 c.loop.invariant.short c.in_ok-drawn_items.ensures.short);
    }
