-- The load of YCSB operations: each reads or puts one record.
use Rattle.std.specs.Prelude.{ℕ, zero, suc, pos, ◌-◌, Bool, not, List, [], ◌∷◌, ◌++◌, nat_lt, unwrap_or, if◌then◌else◌}
use Rattle.std.specs.List.{find, range_with_len}
use Rattle.txn_model.specs.Needs.{needs_of}
use Rattle.txn_model.specs.ScriptCheck.{names}
use Rattle.txn_model.specs.declared.op.Act.{Act}
use Rattle.txn_model.specs.declared.op.Act.TheVariants.{Read, Put}
use Rattle.txn_model.specs.declared.op.Op.{Op}
use Rattle.catalogue.specs.Plan.{Plan}
use Rattle.catalogue.specs.declared.load.Mix.{Mix}
use Rattle.catalogue.specs.declared.load.Mix.TheVariants.{A, B, C}
use Rattle.catalogue.specs.declared.load.YcsbPlan.{YcsbPlan}
use Rattle.schedule.specs.Dice.{Words, draw, key}
use Rattle.load_base.specs.Load.{load_of, tuple}
use Rattle.load_base.specs.declared.size.Size.{Size}

-- record k is tuple k, 100 at first
abbrev pub ycsb_size : YcsbPlan → Size
ycsb_size plan = record { number = plan.number; clients = plan.clients; scripts = plan.scripts; tuples = plan.records; hot = plan.hot; value = pos 100 }

-- how many of 100 operations read
abbrev pub reads_of : Mix → ℕ
reads_of A = 50
reads_of B = 95
reads_of C = 100

-- no operation has that key
abbrev pub is_free : List Op → ℕ → Bool
is_free ops key = not (names ops (tuple key))

-- every key, from this one upwards and after the last one from 0
abbrev pub upwards : ℕ → ℕ → List ℕ
upwards records key = range_with_len key (records - key) ++ range_with_len 0 key

-- the first of them that is free
unfoldable pub free_key : ℕ → List Op → ℕ → ℕ
free_key records ops key = unwrap_or (find (is_free ops) (upwards records key)) key

abbrev pub on_key : ℕ → Act → Op
on_key key act = record { tuple = tuple key; act = act; needs = needs_of [] }

-- what an operation does: a value is drawn only where it puts one
abbrev pub drawn_act : Mix → Words → Act × Words
drawn_act mix words =
    let d = draw 100 words in
    if nat_lt d.0 (reads_of mix) then (Read, d.1) else (let value = draw 1000 d.1 in (Put (pos value.0), value.1))

-- the operation behind these ones: its key, and then what it does
abbrev pub drawn_op : YcsbPlan → List Op → Words → Op × Words
drawn_op plan ops words =
    let drawn = key plan.records plan.hot plan.share words in
    let act = drawn_act plan.mix drawn.1 in
    (on_key (free_key plan.records ops drawn.0) act.0, act.1)

-- these operations and so many more
abbrev pub drawn_ops : YcsbPlan → ℕ → List Op → Words → List Op × Words
drawn_ops plan zero ops words = (ops, words)
drawn_ops plan (suc n) ops words = let op = drawn_op plan ops words in drawn_ops plan n (ops ++ op.0 ∷ []) op.1

abbrev pub ycsb_script : YcsbPlan → Words → List Op × Words
ycsb_script plan words = drawn_ops plan plan.ops [] words

-- the session of a plan
abbrev pub ycsb_load : YcsbPlan → Plan
ycsb_load plan = load_of (ycsb_size plan) (ycsb_script plan)
