-- The entry of a packet that enters the switch for its first pass.
use Rattle.std.proofs.Common.{◌≡◌, ℕ, ◌<◌, List, [], ◌∷◌, length, Some, IsSome, is_some, inl, inr, refl, sym, ap, subst, ◌∙◌, arith}
use Rattle.std.specs.List.{AllByRecursion}
use Rattle.std.proofs.lemmas.List.{length-map}
use Rattle.history_model.specs.InOrder.{seqs_of}
use Rattle.history_core.specs.Answers.{IsAboveOwn}
use Rattle.history_core.specs.Runs.{ops_at, runs_of}
use Rattle.switch_packet.specs.Packets.{PlainPacket}
use Rattle.switch_model.specs.Flight.{Flight}
use Rattle.switch_model.specs.Switch.{Switch, Posted, desk_at, entered, next_number}
use Rattle.warm_split.specs.Resolved.{packet_from}
use Rattle.catalogue.specs.Plan.{Plan}
use Rattle.core_model.specs.declared.phase.Phase.TheVariants.{Waiting, Installing}
use Rattle.core_model.specs.StampOrder.{Below}
use Rattle.core_model.specs.State.{ClientState, script_now}
use Rattle.core_model.proofs.Fewer.{each_entry}
use Rattle.core_model.proofs.Stamped.{both_facts}
use Rattle.core_model.proofs.Stamps.{below_of}
use Rattle.fabric_model.specs.Carried.{FitsDesk}
use Rattle.fabric_model.specs.Holds.{Holds}
use Rattle.fabric_model.specs.Intents.{packet_now}
use Rattle.fabric_model.specs.Laws.{IsReached}
use Rattle.fabric_model.specs.State.{State, client_at}
use Rattle.fabric_model.proofs.InOrder.{HasIts, IsPastAt, desk_in, below_present, ordered}
use Rattle.fabric_model.proofs.Kept.{some_hot}
use Rattle.fabric_model.proofs.Legal.{holds_now, holds_up}
use Rattle.fabric_core.proofs.Items.{each_own, ops_of_item}

seq_of_packet : (plan : Plan) (c : ℕ) (x : ClientState) → (packet_now plan c x).seq ≡ x.seq
unfolding packet_from
seq_of_packet plan c x = refl

each_past : (P Q : ℕ → Type 0) (l : List ℕ) → ((q : ℕ) → P q → Q q) → AllByRecursion P l → AllByRecursion Q l
each_past P Q [] f all = tt
each_past P Q (q ∷ l) f all = (f q all.0, each_past P Q l f all.1)

module _ (plan : Plan) (s : State) (reached : IsReached plan s) (c : ℕ) (now : Switch) (up : s.switch ≡ Some now) (p : PlainPacket) (posted : desk_at now c ≡ Posted p) where
  abbrev x : ClientState
  x = client_at s c

  h : Holds plan s
  h = holds_up plan s reached now up

  same_some : {T : Type 0} {a b : T} → Some a ≡ Some b → a ≡ b
  same_some e = cc

  here : h.now ≡ now
  here = same_some (sym h.up ∙ up)

  waits : FitsDesk plan s.history c x (Posted p)
  waits = subst (FitsDesk plan s.history c x) (ap (λ (w : Switch). desk_at w c) here ∙ posted) (h.ties.under_way c)

  -- the packet is that of its client's present item
  pub seq_is : p.seq ≡ x.seq
  seq_is = ap (λ (q : PlainPacket). q.seq) waits.1 ∙ seq_of_packet plan c x

  pub is_transaction : IsSome (ops_at (runs_of plan) c x.seq)
  is_transaction = ap is_some (ops_of_item plan c x.seq (some_hot plan (script_now plan c x) (h.ties.hot_ones c (inr waits.0))))

  none_yet : HasIts x (desk_in s.switch c) → ⊥
  none_yet its = by (subst (HasIts x) (ap (λ o. desk_in o c) up ∙ posted) its)
    where
      by : HasIts x (Posted p) → ⊥
      by (inl i) = let clash : Waiting ≡ Installing = sym waits.0 ∙ i in cc
      by (inr w) = w.1

  earlier : AllByRecursion (λ e. e.entry.client ≡ c → e.entry.seq < x.seq) s.history
  earlier = each_own (λ q. q < x.seq) c s.history
      (each_past (IsPastAt x (desk_in s.switch c)) (λ q. q < x.seq) (seqs_of c s.history) (below_present x (desk_in s.switch c) x (desk_in s.switch c) [] [] none_yet) ((ordered plan (holds_now plan) s reached).past c))

  size : length (entered h.now) ≡ length now.flights
  size = length-map h.now.flights (λ (g : Flight). g.packet) ∙ ap (λ (w : Switch). length w.flights) here

  lower : AllByRecursion (λ e. Below e.entry.stamp (record { number = next_number now; sub = 0 })) s.history
  lower = each_entry s.history (λ e low. below_of e.entry.stamp (record { number = next_number now; sub = 0 }) (inl (omega (arith, low, size)))) h.ties.covered.entries

  -- its entry stands above its client's
  pub is_above : IsAboveOwn (record { stamp = record { number = next_number now; sub = 0 }; client = c; seq = x.seq }) s.history
  is_above = both_facts s.history (λ e seq low own. (seq own, low)) earlier lower
