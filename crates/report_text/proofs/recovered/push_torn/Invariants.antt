use Rattle.std.proofs.Common.{◌≡◌, ◌-◌, ◌++◌, string_bytes}
use Rattle.std.specs.List.{filter, flat_map, range_with_len}
use Rattle.core_model.specs.Rota.{numbers_below}
use Rattle.report_text.specs.Recovered.{has_bit, torn_word}
use Rattle.report_text.proofs.recovered.push_torn.Given as goal

-- the words so far and those of the clients that are left make the whole
abbrev pub invariant-loop-client : goal.invariant-loop-client
invariant-loop-client l =
    string_bytes l.text ++ flat_map torn_word (filter (has_bit l.torn.0) (range_with_len l.client (l.clients - l.client)))
    ≡ string_bytes l.initial.text ++ flat_map torn_word (filter (has_bit l.torn.0) (numbers_below l.clients))
