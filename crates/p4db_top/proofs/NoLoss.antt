-- No item of a generated session loses the switch.
use Rattle.std.proofs.Common.{◌≡◌, ℕ, zero, suc, Bool, true, List, refl}
use Rattle.std.specs.List.{list_all}
use Rattle.txn_model.specs.declared.op.Op.{Op}
use Rattle.schedule.specs.Dice.{Words, seeded, words_of}
use Rattle.load_base.specs.Load.{load_of, run_drawn}
use Rattle.load_base.specs.Times.{times}
use Rattle.load_base.specs.declared.size.Size.{Size}
use Rattle.fabric_model.specs.Driven.{has_no_loss}
use Rattle.smallbank.specs.Bank.{bank_size, bank_script}
use Rattle.ycsb.specs.Ycsb.{ycsb_size, ycsb_script}
use Rattle.words_cli.specs.declared.command.Work.{Work}
use Rattle.words_cli.specs.declared.command.Work.TheVariants.{SmallBank, Ycsb}
use Rattle.p4db_top.specs.Loads.{load_plan}

-- what holds of each thing that is drawn holds of so many
all_drawn : {X : Type 0} (holds : X → Bool) (draw : Words → X × Words) → ((words : Words) → holds (draw words).0 ≡ true) → (n : ℕ) (words : Words) → list_all holds (times draw n words).0 ≡ true
all_drawn holds draw each zero words = refl
all_drawn holds draw each (suc n) words = rw (each words, all_drawn holds draw each n (draw words).1) refl

no_loss_of : (size : Size) (script : Words → List Op × Words) → has_no_loss (load_of size script) ≡ true
no_loss_of size script =
    all_drawn _ (times (run_drawn script) size.scripts) (λ words. all_drawn _ (run_drawn script) (λ w. refl) size.scripts words) size.clients (words_of (seeded size.number))

pub no_loss : (work : Work) → has_no_loss (load_plan work) ≡ true
no_loss (SmallBank plan) = no_loss_of (bank_size plan) (bank_script plan)
no_loss (Ycsb plan) = no_loss_of (ycsb_size plan) (ycsb_script plan)
