-- A replay's numbers form a chain at each place.
use Rattle.std.proofs.Common.{◌≡◌, ℤ, pos, Bool, true, false, cond, List, [], ◌∷◌, ◌++◌, drop, Option, Some, unwrap_or, MatchBool, if◌then◌else◌, refl, sym, ap, subst, ◌∙◌}
use Rattle.std.specs.FinMap as fin
use Rattle.std.specs.Ordering.{is_eq}
use Rattle.txn_model.specs.Places.{Places, place_cmp}
use Rattle.txn_model.specs.declared.pairs.Pair.{Pair}
use Rattle.txn_model.specs.declared.place.Place.{Place}
use Rattle.txn_model.proofs.PlaceOrder.{place_cmp_total}
use Rattle.switch_packet.specs.declared.packet.PacketOp.{PacketOp}
use Rattle.switch_packet.specs.Laws.{ReplaysAreChains}
use Rattle.switch_packet.specs.PlaceChain.{PacketStep, packet_steps, all_packet_steps, IsLocalFrom, PlaceChain, last_number, with_pairs}
use Rattle.switch_packet.specs.Replay.{register_at, packet_pair, execute, always, replay, replay_all}
use Rattle.switch_packet.proofs.ExecuteLaws.{made, pairs-execute, same_place}

-- the number at a place after a write
pub register_at-insert : (m : Places) (k : Place) (v : ℤ) (place : Place) → register_at (fin.insert m k v) place ≡ (if is_eq (place_cmp place k) then v else register_at m place)
register_at-insert m k v place =
    ap (λ (o : Option ℤ). unwrap_or o (pos 0)) (fin.get-insert place_cmp_total m k v place) ∙ choose (is_eq (place_cmp place k)) (fin.get m place)
  where
    choose : (b : Bool) (o : Option ℤ) → unwrap_or (cond b (Some v) o) (pos 0) ≡ (if b then v else unwrap_or o (pos 0))
    choose true o = refl
    choose false o = refl

pub chain_before : (b : Bool) (place : Place) (v w : ℤ) (p : Pair) (steps : List PacketStep) → (b ≡ true → p.was ≡ v) → w ≡ (if b then p.now else v) → PlaceChain place w steps
    → MatchBool b ((p.was ≡ v) × PlaceChain place p.now steps) (PlaceChain place v steps)
chain_before true place v w p steps found e h = (found refl, subst (λ (x : ℤ). PlaceChain place x steps) e h)
chain_before false place v w p steps found e h = subst (λ (x : ℤ). PlaceChain place x steps) e h

-- what the operations of a packet add to the chain at a place, in front of these steps
pub record Added (ops : List PacketOp) (done rest : List Pair) (m : Places) (place : Place) (more : List PacketStep) : Type 0 where
  pub chain : PlaceChain place (register_at (execute always ops done rest m).after place) more → PlaceChain place (register_at m place) (packet_steps ops (made always ops done rest m) ++ more)
  pub last : last_number place (register_at (execute always ops done rest m).after place) more ≡ last_number place (register_at m place) (packet_steps ops (made always ops done rest m) ++ more)

pub added : (ops : List PacketOp) (done rest : List Pair) (m : Places) (place : Place) (more : List PacketStep) → Added ops done rest m place more
unfolding execute
added [] done rest m place more = record { chain = λ h. h; last = refl }
added (op ∷ ops) done rest m place more =
    let q = packet_pair op done (register_at m op.place) in
    let next = fin.insert m op.place q.now in
    let behind = added ops (done ++ q ∷ []) (drop 1 rest) next place more in
    let value = register_at-insert m op.place q.now place in
    record {
      chain = λ h. chain_before (is_eq (place_cmp place op.place)) place (register_at m place) (register_at next place) q _ (λ e. ap (register_at m) (sym (same_place place op.place e))) value (behind.chain h);
      last = behind.last ∙ ap (λ (v : ℤ). last_number place v (packet_steps ops (made always ops (done ++ q ∷ []) (drop 1 rest) next) ++ more)) value;
    }

pub local-made : (ops : List PacketOp) (done rest : List Pair) (m : Places) → IsLocalFrom done ops (made always ops done rest m)
local-made [] done rest m = tt
local-made (op ∷ ops) done rest m = let q = packet_pair op done (register_at m op.place) in (refl, local-made ops (done ++ q ∷ []) (drop 1 rest) (fin.insert m op.place q.now))

pub replay_chains : ReplaysAreChains
unfolding replay_all
replay_chains [] m = record { local = tt; chains = λ place. tt; last = λ place. refl }
replay_chains (p ∷ ps) m =
    let after = (replay p m).after in
    let rest = replay_chains ps after in
    let steps = all_packet_steps (with_pairs ps (replay_all ps after).pairs) in
    let first : made always p.ops [] [] m ≡ (replay p m).pairs = sym (pairs-execute always p.ops [] [] m) in
    record {
      local = (subst (λ (x : List Pair). IsLocalFrom [] p.ops x) first (local-made p.ops [] [] m), rest.local);
      chains = λ place. subst (λ (x : List Pair). PlaceChain place (register_at m place) (packet_steps p.ops x ++ steps)) first ((added p.ops [] [] m place steps).chain (rest.chains place));
      last = λ place. rest.last place ∙ (added p.ops [] [] m place steps).last ∙ ap (λ (x : List Pair). last_number place (register_at m place) (packet_steps p.ops x ++ steps)) first;
    }
