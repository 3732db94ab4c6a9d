-- The six scripts: what each of them does to the savings and the checking accounts of customers.
use Rattle.std.specs.Prelude.{ℕ, ℤ, ◌+◌, ◌*◌, ◌-ℤ◌, ◌<◌, pos, List, [], ◌∷◌}
use Rattle.txn_model.specs.Needs.{needs_of}
use Rattle.txn_model.specs.Number.{wrap}
use Rattle.txn_model.specs.declared.op.Act.{Act}
use Rattle.txn_model.specs.declared.op.Act.TheVariants.{Read, Put, Add, Choose}
use Rattle.txn_model.specs.declared.op.Need.{Need}
use Rattle.txn_model.specs.declared.op.Op.{Op}
use Rattle.txn_model.specs.declared.op.TupleId.{TupleId}
use Rattle.txn_model.specs.declared.op.Which.TheVariants.{Old, Moved}

abbrev pub savings : ℕ → TupleId
savings customer = record { 0 = 2 * customer }

abbrev pub checking : ℕ → TupleId
checking customer = record { 0 = 2 * customer + 1 }

-- what operation k found, and by how much it lowered it
abbrev pub old : ℕ → Need
old k = record { from = k; which = Old }

abbrev pub moved : ℕ → Need
moved k = record { from = k; which = Moved }

-- an operation with needs, and one without
abbrev pub needing : List Need → TupleId → Act → Op
needing needs tuple act = record { tuple = tuple; act = act; needs = needs_of needs }

abbrev pub alone : TupleId → Act → Op
alone = needing []

-- the opposite of an amount, and one less
abbrev pub opposite : ℤ → ℤ
opposite amount = wrap (pos 0 -ℤ amount)

abbrev pub opposite_less_one : ℤ → ℤ
opposite_less_one amount = wrap (opposite amount -ℤ pos 1)

abbrev pub balance : ℕ → List Op
balance customer = alone (savings customer) Read ∷ alone (checking customer) Read ∷ []

abbrev pub deposit_checking : ℕ → ℤ → List Op
deposit_checking customer amount = alone (checking customer) (Add amount) ∷ []

abbrev pub transact_savings : ℕ → ℤ → List Op
transact_savings customer amount = alone (savings customer) (Choose (opposite amount) amount (pos 0)) ∷ []

abbrev pub amalgamate : ℕ → ℕ → List Op
amalgamate from to =
    alone (savings from) (Put (pos 0))
    ∷ alone (checking from) (Put (pos 0))
    ∷ needing (moved 0 ∷ moved 1 ∷ []) (checking to) (Add (pos 0))
    ∷ []

abbrev pub write_check : ℕ → ℤ → List Op
write_check customer amount =
    alone (savings customer) Read
    ∷ needing (old 0 ∷ []) (checking customer) (Choose amount (opposite amount) (opposite_less_one amount))
    ∷ []

abbrev pub send_payment : ℕ → ℕ → ℤ → List Op
send_payment from to amount =
    alone (checking from) (Choose amount (opposite amount) (pos 0))
    ∷ needing (moved 0 ∷ []) (checking to) (Add (pos 0))
    ∷ []

-- both accounts of a customer have names
abbrev pub IsCustomer : ℕ → Type 0
IsCustomer customer = customer < 2147483648
