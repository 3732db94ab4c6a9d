-- Counts of items and of moves, from a client on.
use Rattle.std.proofs.Common.{◌≡◌, ℕ, suc, ◌+◌, ◌<◌, ◌≤◌, List, [], length, get_or, drop, ap, arith}
use Rattle.std.proofs.Math.Seq.{drop-cons}
use Rattle.catalogue.specs.Plan.{Plan, PlainItem}
use Rattle.catalogue.specs.Sound.{IsSound}
use Rattle.fabric_model.specs.Bound.{items_bound, clients_bound, move_bound}
use Rattle.fabric_model.proofs.SmallBounds.{small_bound}

moves_from : (plan : Plan) (lists : List (List PlainItem)) (c : ℕ) → c < length lists → clients_bound plan (drop c lists) ≡ items_bound plan (get_or lists c []) + clients_bound plan (drop (suc c) lists)
moves_from plan lists c lt = ap (clients_bound plan) (drop-cons lists c [] lt)

-- the moves of the clients so far, with those of the next one, are few
pub next_is_small : (plan : Plan) (moves c : ℕ) → IsSound plan → c < length plan.clients → moves + clients_bound plan (drop c plan.clients) ≡ move_bound plan
    → moves + items_bound plan (get_or plan.clients c []) ≤ 2039808
next_is_small plan moves c sound lt whole = omega (arith, moves_from plan plan.clients c lt, small_bound plan sound)
