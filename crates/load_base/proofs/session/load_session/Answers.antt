use Rattle.std.proofs.Common.{ap, ◌∙◌}
use Rattle.load_base.specs.Load.{first_tuples, hot_rows}
use Rattle.load_base.proofs.SoundLoads.{is_sound_from}
use Rattle.load_base.proofs.session.load_session.Goals as goal

pub returns-clause-sound : goal.returns-clause-sound
returns-clause-sound g c =
    is_sound_from (g.L.Load.size c.args.load.now) (g.L.Load.script c.args.load.now) c.in_ok-first_tuples.field-0 c.in_ok-hot_layout.field-0 c.in_ok-drawn_clients.field-0 c.of.result.items
    (c.in_ok-first_tuples.ensures ∙ ap (λ size. first_tuples size.tuples size.value) c.size-size.ensures)
    (c.in_ok-hot_layout.ensures ∙ ap (λ size. hot_rows size.hot) c.size-size.ensures)
    c.in_ok-drawn_clients.ensures.drawn
    (c.of.ensures.items ∙ c.new.ensures.items)
    c.requires c.in_ok-drawn_clients.ensures.fit
