-- Which calls a meeting gate holds.
use Rattle.std.specs.Prelude.{ℕ, ◌==◌, ◌&&◌, Option, Some, None, if◌then◌else◌}
use Rattle.client_gate.specs.declared.meet_gate.Hold.{Hold}

-- what the call of a client with this number, counted from 1, is held for: the first ones of clients 0 and 1 for each other, and
-- the second one of client 0 for the fourth of client 1
abbrev pub hold_of : ℕ → ℕ → Option Hold
hold_of client call =
    if client == 0 && call == 1 then Some (record { client = 1; call = 1 }) else
    (if client == 1 && call == 1 then Some (record { client = 0; call = 1 }) else
    (if client == 0 && call == 2 then Some (record { client = 1; call = 4 }) else None))
