-- By how much each script changes the total.
use Rattle.std.proofs.Common.{◌≡◌, ℕ, ℤ, ◌+◌, ◌*◌, ◌+ℤ◌, ◌-ℤ◌, ◌*ℤ◌, neg_ℤ, pos, Bool, true, false, if◌then◌else◌, nat_eq, refl, sym, ap, ◌∙◌, arith, w64}
use Rattle.std.specs.Prelude.{int_le}
use Rattle.std.specs.Int.{int_wrap}
use Rattle.std.specs.FinMap as fin
use Rattle.std.proofs.lemmas.Bool.Decides.{nat_tests}
use Rattle.std.proofs.lemmas.Int.{ints, int_wrap-add_right, int_wrap-mul_left}
use Rattle.txn_model.specs.Number.{wrap}
use Rattle.txn_model.specs.Serial.{serial_from, operand, effect}
use Rattle.txn_model.specs.Tuples.{Tuples, value_at}
use Rattle.txn_model.proofs.Values.{value_at-insert}
use Rattle.txn_model.proofs.WrapLaws.{wrap_congruent}
use Rattle.smallbank.specs.Scripts.{savings, checking, opposite, opposite_less_one, balance, deposit_checking, transact_savings, amalgamate, write_check, send_payment}
use Rattle.smallbank.specs.TotalLaws.{BalanceKeepsTotal, DepositCheckingAddsAmount, TransactSavingsAddsAmount, AmalgamateKeepsTotal, WriteCheckTakesAmount, SendPaymentKeepsTotal}
use Rattle.smallbank.proofs.Sums.{by_reply}

abbrev round : ℤ
round = pos 18446744073709551616

-- 2^64 as often as k says is nothing
many_rounds : (k : ℤ) → wrap (round *ℤ k) ≡ pos 0
unfolding int_wrap
many_rounds k =
    let turned : pos 0 *ℤ k ≡ pos 0 = omega (arith, ints) in
    let none : wrap round ≡ pos 0 = refl in
    sym (int_wrap-mul_left w64 round k) ∙ ap (λ z. wrap (z *ℤ k)) none ∙ ap wrap turned

same_wrap : (a b k : ℤ) → a ≡ b +ℤ k *ℤ round → wrap a ≡ wrap b
same_wrap a b k e =
    let turned : k *ℤ round ≡ round *ℤ k = omega (arith, ints) in
    let none : b +ℤ pos 0 ≡ b = omega (arith, ints) in
    ap wrap e ∙ ap (λ z. wrap (b +ℤ z)) turned ∙ sym (int_wrap-add_right w64 b (round *ℤ k)) ∙ ap (λ z. wrap (b +ℤ z)) (many_rounds k) ∙ ap wrap none

-- what a tuple that gets a wrapped value moves the sum by
one_change : (was more rest : ℤ) → wrap ((wrap (was +ℤ more) -ℤ was) +ℤ rest) ≡ wrap (more +ℤ rest)
one_change was more rest =
    let c = wrap_congruent (was +ℤ more) in
    same_wrap ((wrap (was +ℤ more) -ℤ was) +ℤ rest) (more +ℤ rest) (neg_ℤ c.0) (let e = c.1 in omega (arith, ints, e))

-- the needs of an operation that has none
abbrev nothing : ℤ
nothing = wrap (pos 0 +ℤ pos 0)

nothing_is : nothing ≡ pos 0
unfolding int_wrap
nothing_is = refl

pub balance_keeps : BalanceKeepsTotal
unfolding serial_from effect
balance_keeps customer m =
    let x = value_at m (savings customer) in
    let y = value_at (fin.insert m (savings customer) x) (checking customer) in
    let none : (x -ℤ x) +ℤ ((y -ℤ y) +ℤ pos 0) ≡ pos 0 = omega (arith, ints) in
    by_reply (balance customer) m (pos 0) (ap wrap none)

pub deposit_adds : DepositCheckingAddsAmount
unfolding serial_from effect operand
deposit_adds customer amount m =
    let x = value_at m (checking customer) in
    let sum : (x +ℤ amount) +ℤ nothing ≡ x +ℤ amount = omega (arith, ints, nothing_is) in
    let last : amount +ℤ pos 0 ≡ amount = omega (arith, ints) in
    by_reply (deposit_checking customer amount) m amount (ap (λ z. wrap ((wrap z -ℤ x) +ℤ pos 0)) sum ∙ one_change x amount (pos 0) ∙ ap wrap last)

-- a choice moves the value by one of its two amounts
chosen : (b : Bool) (was above below : ℤ) → (if b then wrap (was +ℤ above) else wrap (was +ℤ below)) ≡ wrap (was +ℤ (if b then above else below))
chosen true was above below = refl
chosen false was above below = refl

choice : (b : Bool) (was above below : ℤ) → wrap (((if b then wrap (was +ℤ above) else wrap (was +ℤ below)) -ℤ was) +ℤ pos 0) ≡ wrap (if b then above else below)
choice b was above below =
    let more = if b then above else below in
    let last : more +ℤ pos 0 ≡ more = omega (arith, ints) in
    ap (λ z. wrap ((z -ℤ was) +ℤ pos 0)) (chosen b was above below) ∙ one_change was more (pos 0) ∙ ap wrap last

pub transact_adds : TransactSavingsAddsAmount
unfolding serial_from effect operand
transact_adds customer amount m =
    let x = value_at m (savings customer) in
    let held : x +ℤ nothing ≡ x = omega (arith, ints, nothing_is) in
    by_reply (transact_savings customer amount) m (if int_le (opposite amount) (wrap x) then amount else pos 0)
    (choice (int_le (opposite amount) (wrap (x +ℤ nothing))) x amount (pos 0)
    ∙ ap (λ z. wrap (if int_le (opposite amount) (wrap z) then amount else pos 0)) held)

-- what two operations lowered, a third one adds
two_moved : (x y z a b : ℤ) → let s = wrap (pos 0 +ℤ (wrap (x -ℤ a) +ℤ (wrap (y -ℤ b) +ℤ pos 0))) in
    wrap ((a -ℤ x) +ℤ ((b -ℤ y) +ℤ ((wrap ((z +ℤ pos 0) +ℤ s) -ℤ z) +ℤ pos 0))) ≡ wrap (pos 0)
two_moved x y z a b =
    let first = wrap_congruent (x -ℤ a) in
    let second = wrap_congruent (y -ℤ b) in
    let s = wrap (pos 0 +ℤ (wrap (x -ℤ a) +ℤ (wrap (y -ℤ b) +ℤ pos 0))) in
    let both = wrap_congruent (pos 0 +ℤ (wrap (x -ℤ a) +ℤ (wrap (y -ℤ b) +ℤ pos 0))) in
    let last = wrap_congruent ((z +ℤ pos 0) +ℤ s) in
    let e = first.1 in let f = second.1 in let g = both.1 in let h = last.1 in
    same_wrap _ (pos 0) (neg_ℤ (first.0 +ℤ second.0 +ℤ both.0 +ℤ last.0)) (omega (arith, ints, e, f, g, h))

one_moved : (x z a : ℤ) → let s = wrap (pos 0 +ℤ (wrap (x -ℤ a) +ℤ pos 0)) in
    wrap ((a -ℤ x) +ℤ ((wrap ((z +ℤ pos 0) +ℤ s) -ℤ z) +ℤ pos 0)) ≡ wrap (pos 0)
one_moved x z a =
    let first = wrap_congruent (x -ℤ a) in
    let s = wrap (pos 0 +ℤ (wrap (x -ℤ a) +ℤ pos 0)) in
    let all = wrap_congruent (pos 0 +ℤ (wrap (x -ℤ a) +ℤ pos 0)) in
    let last = wrap_congruent ((z +ℤ pos 0) +ℤ s) in
    let e = first.1 in let g = all.1 in let h = last.1 in
    same_wrap _ (pos 0) (neg_ℤ (first.0 +ℤ all.0 +ℤ last.0)) (omega (arith, ints, e, g, h))

pub amalgamate_keeps : AmalgamateKeepsTotal
unfolding serial_from effect operand
amalgamate_keeps from to m =
    let empty = wrap (pos 0 +ℤ nothing) in
    let first = fin.insert m (savings from) empty in
    let second = fin.insert first (checking from) empty in
    by_reply (amalgamate from to) m (pos 0) (two_moved (value_at m (savings from)) (value_at first (checking from)) (value_at second (checking to)) empty empty)

pub payment_keeps : SendPaymentKeepsTotal
unfolding serial_from effect operand
payment_keeps from to amount m =
    let x = value_at m (checking from) in
    let left = if int_le amount (wrap (x +ℤ nothing)) then wrap (x +ℤ opposite amount) else wrap (x +ℤ pos 0) in
    by_reply (send_payment from to amount) m (pos 0) (one_moved x (value_at (fin.insert m (checking from) left) (checking to)) left)

opposite_is : (amount : ℤ) → wrap (opposite amount) ≡ wrap (pos 0 -ℤ amount)
opposite_is amount =
    let c = wrap_congruent (pos 0 -ℤ amount) in
    let e = c.1 in
    same_wrap (opposite amount) (pos 0 -ℤ amount) (neg_ℤ c.0) (omega (arith, ints, e))

less_one_is : (amount : ℤ) → wrap (opposite_less_one amount) ≡ wrap ((pos 0 -ℤ amount) -ℤ pos 1)
less_one_is amount =
    let c = wrap_congruent (pos 0 -ℤ amount) in
    let d = wrap_congruent (opposite amount -ℤ pos 1) in
    let e = c.1 in let f = d.1 in
    same_wrap (opposite_less_one amount) ((pos 0 -ℤ amount) -ℤ pos 1) (neg_ℤ (c.0 +ℤ d.0)) (omega (arith, ints, e, f))

taken : (b : Bool) (amount : ℤ) → wrap (if b then opposite amount else opposite_less_one amount) ≡ wrap (if b then pos 0 -ℤ amount else (pos 0 -ℤ amount) -ℤ pos 1)
taken true amount = opposite_is amount
taken false amount = less_one_is amount

-- the checking of a customer isn't touched by a write of the savings
other_account : (m : Tuples) (customer : ℕ) (v : ℤ) → value_at (fin.insert m (savings customer) v) (checking customer) ≡ value_at m (checking customer)
other_account m customer v =
    let apart : nat_eq (2 * customer) (2 * customer + 1) ≡ false = grind (arith, nat_tests) in
    value_at-insert m (savings customer) v (checking customer) ∙ ap (λ b. if b then v else value_at m (checking customer)) apart

pub check_takes : WriteCheckTakesAmount
unfolding serial_from effect operand
check_takes customer amount m =
    let s = value_at m (savings customer) in
    let k = value_at m (checking customer) in
    let found = value_at (fin.insert m (savings customer) s) (checking customer) in
    let pay = λ (b : Bool) (z : ℤ). (if b then wrap (z +ℤ opposite amount) else wrap (z +ℤ opposite_less_one amount)) in
    let reach = λ (z : ℤ). int_le amount (wrap (z +ℤ wrap (pos 0 +ℤ (s +ℤ pos 0)))) in
    let none : (s -ℤ s) +ℤ ((pay (reach k) k -ℤ k) +ℤ pos 0) ≡ (pay (reach k) k -ℤ k) +ℤ pos 0 = omega (arith, ints) in
    let together : k +ℤ (pos 0 +ℤ (s +ℤ pos 0)) ≡ s +ℤ k = omega (arith, ints) in
    by_reply (write_check customer amount) m (if int_le amount (wrap (s +ℤ k)) then pos 0 -ℤ amount else (pos 0 -ℤ amount) -ℤ pos 1)
    (ap (λ z. wrap ((s -ℤ s) +ℤ ((pay (reach z) z -ℤ z) +ℤ pos 0))) (other_account m customer s)
    ∙ ap wrap none
    ∙ choice (reach k) k (opposite amount) (opposite_less_one amount)
    ∙ taken (reach k) amount
    ∙ ap (λ z. wrap (if int_le amount z then pos 0 -ℤ amount else (pos 0 -ℤ amount) -ℤ pos 1)) (int_wrap-add_right w64 k (pos 0 +ℤ (s +ℤ pos 0)) ∙ ap wrap together))
