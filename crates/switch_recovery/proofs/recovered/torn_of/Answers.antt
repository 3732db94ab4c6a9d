use Rattle.std.proofs.Common.{◌-◌, ◌≤◌, drop, map, length, arith}
use Rattle.std.proofs.lemmas.List.{length-map, length-drop}
use Rattle.switch_packet.specs.Packets.{plain_log}
use Rattle.switch_recovery.proofs.RecoveringLaws.{bit_small, bits_small}
use Rattle.switch_recovery.proofs.recovered.torn_of.Goals as goal

pub overflow_mul-bits : goal.overflow_mul-bits
overflow_mul-bits c =
    let rest = drop (c.args.clients - c.loop-behind.behind) c.args.views.now in
    let few : length (map plain_log rest) ≤ 7 = omega (arith, length-map rest plain_log, length-drop (c.args.clients - c.loop-behind.behind) c.args.views.now, c.requires.few, c.requires.count) in
    omega (arith, bits_small (map plain_log rest) few, c.loop-behind.invariant)

pub overflow_add-bits : goal.overflow_add-bits
overflow_add-bits c =
    let rest = drop (c.args.clients - c.loop-behind.behind) c.args.views.now in
    let few : length (map plain_log rest) ≤ 7 = omega (arith, length-map rest plain_log, length-drop (c.args.clients - c.loop-behind.behind) c.args.views.now, c.requires.few, c.requires.count) in
    omega (arith, bits_small (map plain_log rest) few, c.loop-behind.invariant, c.bit_of.ensures, bit_small c.index-views-clients.result.torn)
