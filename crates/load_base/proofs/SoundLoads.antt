-- Sessions of loads are sound.
use Rattle.std.proofs.Common.{◌≡◌, IsSome, List, [], sym, subst, arith, rules}
use Rattle.std.specs.List.{All}
use Rattle.std.proofs.lemmas.List.Elements.{All-nil}
use Rattle.std.proofs.lemmas.List.FromFn.{length-map-range_with_len}
use Rattle.txn_model.specs.Tuples.{Tuples}
use Rattle.txn_model.specs.declared.op.Op.{Op}
use Rattle.stage_layout.specs.declared.layout.LayoutRow.{LayoutRow}
use Rattle.catalogue.specs.declared.actor.Actor.{Actor}
use Rattle.catalogue.specs.Plan.{Plan, PlainItem, Run, Lose}
use Rattle.catalogue.specs.Sound.{IsSound, IsActor, IsFit, IsFitItem}
use Rattle.schedule.specs.Dice.{Words, words_of, seeded}
use Rattle.load_base.specs.Load.{load_of, load_shape, first_tuples, hot_row, hot_rows, run_drawn, IsSize, IsFitFor, IsFitItemFor}
use Rattle.load_base.specs.Times.{times}
use Rattle.load_base.specs.declared.size.Size.{Size}
use Rattle.load_base.proofs.HotRows.{has_no_fault}
use Rattle.load_base.proofs.TimesLaws as law
use Rattle.load_base.proofs.TupleRows as rows

module _ (size : Size) (script : Words → List Op × Words) where
  fits : (ops : List Op) → IsFitFor size ops → IsFit (load_of size script) ops
  fits ops fit = record {
    tuples = λ k d lt. subst IsSome (sym (rows.is_there size.tuples _ size.value (fit.tuples k d lt))) (search rules);
    script = fit.script;
    turns = fit.turns;
  }

  item_fits : (item : PlainItem) → IsFitItemFor size item → IsFitItem (load_of size script) item
  item_fits (Run ops) fit = fits ops fit
  item_fits Lose fit = tt

  pub is_sound : IsSize size → All (All (IsFitItemFor size)) (load_of size script).clients → IsSound (load_of size script)
  is_sound small fit =
      let draw = times (run_drawn script) size.scripts in
      let words = words_of (seeded size.number) in
      record {
        limits = record {
          shape = record { stages = (omega arith, omega arith); arrays = (omega arith, omega arith); cells = (omega arith, omega arith); split = omega arith; hosts = (omega arith, omega arith) };
          tuples = omega (arith, rows.how_many size.tuples size.value, small.tuples);
          rows = omega (arith, length-map-range_with_len hot_row 0 size.hot, small.tuples, small.hot);
          tries = (omega arith, omega arith);
          clients = omega (arith, law.how_many draw size.clients words, small.clients);
          items = omega (arith, law.how_many_together (run_drawn script) size.scripts size.clients words, small.items);
        };
        layout = has_no_fault size.tuples size.hot size.value small.tuples small.hot;
        items = λ k d lt. λ j e less. item_fits _ (fit k d lt j e less);
        schedule = All-nil (IsActor (load_of size script));
      }

  pub is_sound_from : (tuples : Tuples) (layout : List LayoutRow) (clients : List (List PlainItem)) (schedule : List Actor) → tuples ≡ first_tuples size.tuples size.value → layout ≡ hot_rows size.hot → clients ≡ (load_of size script).clients → schedule ≡ [] → IsSize size → All (All (IsFitItemFor size)) clients → IsSound (record { shape = load_shape; tuples = tuples; layout = layout; tries = 8; clients = clients; schedule = schedule })
  is_sound_from tuples layout clients schedule t l cs s small fit =
      let same : ◌≡◌ {A = Plan} (record { shape = load_shape; tuples = tuples; layout = layout; tries = 8; clients = clients; schedule = schedule }) (load_of size script) = λ i. record { shape = load_shape; tuples = t i; layout = l i; tries = 8; clients = cs i; schedule = s i } in
      subst IsSound (sym same) (is_sound small (subst (All (All (IsFitItemFor size))) cs fit))
