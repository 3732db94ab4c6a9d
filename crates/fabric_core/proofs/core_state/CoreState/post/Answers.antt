use Rattle.std.proofs.Common.{ℕ, List, ◌++◌, ap, refl, arith, ◌∙◌}
use Rattle.switch_packet.specs.PacketText.{packet_text}
use Rattle.switch_packet.specs.Packets.{plain}
use Rattle.client_phase.specs.declared.action.Met.TheVariants.{Done}
use Rattle.fabric_core.proofs.core_state.CoreState.post.Goals as goal
use Rattle.fabric_core.proofs.Postings as postings
use Rattle.fabric_core.proofs.Present as present

pub returns-then-not-self-clause-turn : goal.returns-then-not-self-clause-turn
returns-then-not-self-clause-turn c s at a = (postings.stays a c.if-not-self.true, refl)

pub index_mut-requires : goal.index_mut-requires
index_mut-requires c = omega (arith, present.within_kept c.requires.action.2.turn, c.args.self.now.runners.ok.0)

pub step-requires-clause-item : goal.step-requires-clause-item
step-requires-clause-item c = present.item_kept c.requires.action.2 c.index_mut.ensures.value

pub step-requires-clause-step : goal.step-requires-clause-step
step-requires-clause-step c = present.can_step c.requires.action.2 c.index_mut.ensures.value Done refl

pub index-requires : goal.index-requires
index-requires c = omega (arith, postings.within_kept_logs c.requires.action.2 c.if-not-self.false c.index_mut.ensures.value, c.args.self.now.logs.ok.0)

pub last_intent-intent-requires : goal.last_intent-intent-requires
last_intent-intent-requires c = postings.some_intent c.requires.action.2 c.if-not-self.false c.index_mut.ensures.value c.index.ensures

pub encode_into-requires-clause-fits : goal.encode_into-requires-clause-fits
encode_into-requires-clause-fits c = postings.packet_fits c.requires.action.2 c.if-not-self.false c.index_mut.ensures.value c.index.ensures c.last_intent-intent.result.now c.last_intent-intent.ensures

pub encode_into-requires-clause-room : goal.encode_into-requires-clause-room
encode_into-requires-clause-room c = postings.text_has_room c.requires.action.2 c.if-not-self.false c.index_mut.ensures.value c.index.ensures c.last_intent-intent.result.now c.last_intent-intent.ensures c.clear.new.self c.clear.ensures.len c.clear.ensures.capacity

pub post-requires : goal.post-requires
post-requires c =
    postings.is_posting c.requires.action.2 c.if-not-self.false c.index_mut.ensures.value c.index.ensures c.last_intent-intent.result.now c.last_intent-intent.ensures c.as_slice.result.now
    (c.as_slice.ensures.value ∙ c.encode_into.ensures.added.items ∙ ap (λ (l : List ℕ). l ++ packet_text (plain c.last_intent-intent.result.now.packet)) c.clear.ensures.items) c.encode_into.ensures.is_packet

pub returns-clause-turn : goal.returns-clause-turn
returns-clause-turn c s at a =
    postings.follows a c.if-not-self.false c.index_mut.ensures.value c.index.ensures c.last_intent-intent.result.now c.last_intent-intent.ensures c.step.ensures c.post.new.self c.as_slice.result.now c.encode_into.new.to
    (c.as_slice.ensures.value ∙ c.encode_into.ensures.added.items ∙ ap (λ (l : List ℕ). l ++ packet_text (plain c.last_intent-intent.result.now.packet)) c.clear.ensures.items) c.encode_into.ensures.is_packet c.post.ensures (c.encode_into.ensures.added.capacity ∙ c.clear.ensures.capacity)
