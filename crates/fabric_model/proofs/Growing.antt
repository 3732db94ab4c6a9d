-- Packets that have entered the switch stay as they are, and more come behind them.
use Rattle.std.proofs.Common.{◌≡◌, ◌≢◌, ℕ, zero, suc, List, [], ◌∷◌, ◌++◌, append-nil, slice_get, Option, Some, None, inl, inr, refl, sym, ap, ◌∙◌}
use Rattle.txn_model.specs.Places.{Places}
use Rattle.txn_model.specs.declared.pairs.Pair.{Pair}
use Rattle.switch_packet.specs.Packets.{PlainPacket}
use Rattle.switch_packet.specs.Replay.{ReplayedAll, replay_all}
use Rattle.switch_packet.proofs.ReplayLaws.{replay_all-append}
use Rattle.switch_model.specs.Switch.{Switch, desk_at, next_number, entered}
use Rattle.switch_model.proofs.Effects.{post_effect, enter_effect, advance_effect, take_effect}
use Rattle.catalogue.specs.Plan.{Plan}
use Rattle.catalogue.specs.declared.actor.Actor.{Actor}
use Rattle.catalogue.specs.declared.actor.Actor.TheVariants.{Recover}
use Rattle.fabric_model.specs.Intents.{packet_now}
use Rattle.fabric_model.specs.State.{State, client_at}
use Rattle.fabric_model.specs.Step.{lost, granted, refused, released, decided, logged, posted, taken, installed}
use Rattle.fabric_model.proofs.MoveKinds.{Move, Loses, Grants, Refuses, Releases, Decides, Logs, Posts, Takes, Installs, Moved, ByClient, AtPort, AtStage, Recovers}
use Rattle.fabric_model.proofs.Present.{switch_at_port, switch_at_stage}

-- the switch that is up was up before, with no packets but these at the front
pub record Extends (before : Option Switch) (next : Switch) : Type 0 where
  pub now : Switch
  pub up : before ≡ Some now
  pub more : List PlainPacket
  pub is : entered next ≡ entered now ++ more

abbrev pub Grows : Option Switch → Option Switch → Type 0
Grows before after = (next : Switch) → after ≡ Some next → Extends before next

same_some : {T : Type 0} {a b : T} → Some a ≡ Some b → a ≡ b
same_some e = cc

grows_same : (before after : Option Switch) → after ≡ before → Grows before after
grows_same before after same next up = record { now = next; up = sym same ∙ up; more = []; is = sym (append-nil (entered next)) }

grows_by : (before after : Option Switch) (now next : Switch) (more : List PlainPacket) → before ≡ Some now → after ≡ Some next → entered next ≡ entered now ++ more → Grows before after
grows_by before after now next more was up is other other_up = record { now = now; up = was; more = more; is = ap entered (same_some (sym other_up ∙ up)) ∙ is }

grows_as : (before after : Option Switch) (now next : Switch) → before ≡ Some now → after ≡ Some next → entered next ≡ entered now → Grows before after
grows_as before after now next was up is = grows_by before after now next [] was up (is ∙ sym (append-nil (entered now)))

none_up : {now : Switch} → None ≡ Some now → ⊥
none_up e = cc

grows_by_client : (plan : Plan) (s : State) (c : ℕ) (after : State) → Move plan s c after → Grows s.switch after.switch
unfolding lost granted refused released decided logged posted taken installed
grows_by_client plan s c after (Loses now phase item up is) = λ other there. absurd (none_up (sym (ap (λ (z : State). z.switch) is) ∙ there))
grows_by_client plan s c after (Grants op asks next free is) = grows_same s.switch after.switch (ap (λ (z : State). z.switch) is)
grows_by_client plan s c after (Refuses op by asks next held is) = grows_same s.switch after.switch (ap (λ (z : State). z.switch) is)
grows_by_client plan s c after (Releases phase is) = grows_same s.switch after.switch (ap (λ (z : State). z.switch) is)
grows_by_client plan s c after (Decides asks next cold some is) = grows_same s.switch after.switch (ap (λ (z : State). z.switch) is)
grows_by_client plan s c after (Logs asks next hot is) = grows_same s.switch after.switch (ap (λ (z : State). z.switch) is)
grows_by_client plan s c after (Posts now next phase up to is) = grows_as s.switch after.switch now next up (ap (λ (z : State). z.switch) is) (post_effect now next c (packet_now plan c (client_at s c)) to).entered
grows_by_client plan s c after (Takes now next answer phase up has to is) = grows_as s.switch after.switch now next up (ap (λ (z : State). z.switch) is) (take_effect now next c to).entered
grows_by_client plan s c after (Installs p phase at is) = grows_same s.switch after.switch (ap (λ (z : State). z.switch) is)

-- but for a recovery
pub grows_of : (plan : Plan) (s after : State) (actor : Actor) → actor ≢ Recover → Moved plan s after actor → Grows s.switch after.switch
grows_of plan s after actor other (ByClient c within move) = grows_by_client plan s c after move
grows_of plan s after actor other (AtPort c now next up to is) =
    let there : after.switch ≡ Some next = ap (λ (z : State). z.switch) is ∙ switch_at_port s c (desk_at now c) (next_number now) next in
    elim (enter_effect plan.shape now next c to) [
      | inl f ↦ grows_by s.switch after.switch now next (f.packet ∷ []) up there f.entered
      | inr l ↦ grows_as s.switch after.switch now next up there l.entered
    ]
grows_of plan s after actor other (AtStage x now next up to is) =
    grows_as s.switch after.switch now next up (ap (λ (z : State). z.switch) is ∙ switch_at_stage s next) (advance_effect plan.shape now next x to).entered
grows_of plan s after actor other (Recovers order down found is) = absurd (other refl)

-- an item at a place of a list is there when more come behind
pub still_at : {X : Type 0} (a b : List X) (k : ℕ) (x : X) → slice_get a k ≡ Some x → slice_get (a ++ b) k ≡ Some x
still_at [] b k x is = cc
still_at (y ∷ a) b zero x is = is
still_at (y ∷ a) b (suc k) x is = still_at a b k x is

pub still_replayed : (a b : List PlainPacket) (m : Places) (k : ℕ) (pairs : List Pair) → slice_get (replay_all a m).pairs k ≡ Some pairs → slice_get (replay_all (a ++ b) m).pairs k ≡ Some pairs
still_replayed a b m k pairs is =
    ap (λ (r : ReplayedAll). slice_get r.pairs k) (replay_all-append a b m) ∙ still_at (replay_all a m).pairs (replay_all b (replay_all a m).after).pairs k pairs is
