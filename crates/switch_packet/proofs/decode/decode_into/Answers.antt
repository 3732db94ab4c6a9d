use Rattle.std.proofs.Common.{arith}
use Rattle.switch_packet.specs.Packets.{plain}
use Rattle.switch_packet.proofs.DecodeLaws.{decoded_found, decoded_only, decoded_short, decoded_bad}
use Rattle.switch_packet.proofs.decode.decode_into.Goals as goal

pub returns-clause-found : goal.returns-clause-found
returns-clause-found c =
    decoded_found (plain c.decode.new.to) c.args.bytes.now (λ i. omega (arith, c.type_inv.bytes i)) c.decode.result c.decode.ensures.exact

pub returns-clause-only : goal.returns-clause-only
returns-clause-only c =
    decoded_only (plain c.decode.new.to) c.args.bytes.now (λ i. omega (arith, c.type_inv.bytes i)) c.decode.result c.decode.ensures.exact

pub returns-clause-short : goal.returns-clause-short
returns-clause-short c =
    decoded_short (plain c.decode.new.to) c.args.bytes.now (λ i. omega (arith, c.type_inv.bytes i)) c.decode.result c.decode.ensures.exact

pub returns-clause-bad : goal.returns-clause-bad
returns-clause-bad c =
    decoded_bad (plain c.decode.new.to) c.args.bytes.now (λ i. omega (arith, c.type_inv.bytes i)) c.decode.result c.decode.ensures.exact
