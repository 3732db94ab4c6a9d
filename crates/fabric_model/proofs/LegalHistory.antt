-- A history whose answered entries have cold chains and whose carried entries have their packets is legal.
use Rattle.std.proofs.Common.{◌≡◌, ◌⊎◌, ℤ, false, List, [], ◌∷◌, map, is_some, unwrap_or, Option, Some, None, IsSome, inl, inr, refl, sym, ap, subst, ◌∙◌, if◌then◌else◌}
use Rattle.std.specs.List.{AllByRecursion}
use Rattle.txn_model.specs.Places.{Places}
use Rattle.txn_model.specs.Serial.{serial_run}
use Rattle.txn_model.specs.Tuples.{value_at}
use Rattle.txn_model.specs.declared.op.Op.{Op}
use Rattle.txn_model.specs.declared.op.TupleId.{TupleId}
use Rattle.txn_model.specs.declared.pairs.Pair.{Pair}
use Rattle.txn_model.specs.declared.place.Place.{Place}
use Rattle.stage_layout.specs.Layout.{place_of}
use Rattle.history_model.specs.Chain.{Chain, HasChains, IsRunOf, all_steps, last_value}
use Rattle.history_model.specs.History.{History, AllAnswered}
use Rattle.history_model.specs.Legal.{Agrees, HasReply, IsLegal, scripts_of}
use Rattle.history_model.specs.declared.entry.Entry.{Entry}
use Rattle.history_model.proofs.ChainLaws.{run_from_chains}
use Rattle.switch_packet.specs.Packets.{PlainPacket}
use Rattle.switch_packet.specs.PlaceChain.{all_packet_steps, with_pairs}
use Rattle.switch_packet.specs.Replay.{register_at, replay_all}
use Rattle.switch_packet.proofs.PlaceChainLaws.{replay_chains}
use Rattle.warm_split.specs.Laws.{HavePlacesOfTheirOwn}
use Rattle.catalogue.specs.Plan.{Plan, script_at}
use Rattle.core_model.specs.Facts.{script_of_entry, answered}
use Rattle.core_model.specs.State.{Store}
use Rattle.fabric_model.specs.Carried.{is_carried}
use Rattle.fabric_model.specs.ColdFacts.{ColdFacts}
use Rattle.fabric_model.specs.State.{answered_ones}
use Rattle.fabric_model.proofs.Completed.{Completed, Fills}
use Rattle.fabric_model.proofs.HotChains.{Linked, tuple_pairs, place_pairs, chain-Linked, Linked-chain, last_of, last_value-last_of, last_number-last_of}
use Rattle.fabric_model.proofs.HotHistory.{OnHostsAlone, same_on}

-- all entries are kept where all are answered
pub all_answered_ones : (h : History) → AllAnswered h → answered_ones h ≡ h
all_answered_ones [] all = refl
all_answered_ones (e ∷ h) all = by e.pairs refl all.0 (all_answered_ones h all.1)
  where
    by : (o : Option (List Pair)) → e.pairs ≡ o → IsSome o → answered_ones h ≡ h → answered_ones (e ∷ h) ≡ e ∷ h
    by (Some pairs) is some rest = ap (λ (o : Option (List Pair)). if is_some o then e ∷ answered_ones h else answered_ones h) is ∙ ap (λ (l : History). e ∷ l) rest
    by None is some rest = cc

-- what an entry says of its client's item holds of the filled history too
pub all_filled : (P : Entry → Type 0) (h whole : History) → Fills h whole → AllByRecursion (λ e. P e.entry) h → AllByRecursion (λ e. P e.entry) whole
all_filled P [] [] fills all = tt
all_filled P [] (f ∷ whole) fills all = absurd fills
all_filled P (e ∷ h) [] fills all = absurd fills
all_filled P (e ∷ h) (f ∷ whole) fills all = (subst P (sym fills.0) all.0, all_filled P h whole fills.2 all.1)

agrees : (plan : Plan) (h whole : History) → Fills h whole → AllAnswered whole → Agrees h (map (λ e. e.1) (answered plan whole))
agrees plan [] [] fills all = tt
agrees plan [] (f ∷ whole) fills all = absurd fills
agrees plan (e ∷ h) [] fills all = absurd fills
agrees plan (e ∷ h) (f ∷ whole) fills all = (own e.pairs refl fills.1, agrees plan h whole fills.2 all.1)
  where
    own : (o : Option (List Pair)) → e.pairs ≡ o → (e.pairs ≡ None) ⊎ (f.pairs ≡ e.pairs) → HasReply o (unwrap_or f.pairs [])
    own None is said = tt
    own (Some pairs) is (inl none) = absurd (clash (sym is ∙ none))
      where
        clash : Some pairs ≡ None → ⊥
        clash e = cc
    own (Some pairs) is (inr same) = sym (ap (λ (o : Option (List Pair)). unwrap_or o []) (same ∙ is))

pub same_scripts : (plan : Plan) (h whole : History) → Fills h whole → map (λ e. e.0) (answered plan whole) ≡ scripts_of (script_at plan) h
same_scripts plan [] [] fills = refl
same_scripts plan [] (f ∷ whole) fills = absurd fills
same_scripts plan (e ∷ h) [] fills = absurd fills
same_scripts plan (e ∷ h) (f ∷ whole) fills =
    ap (λ (x : Entry). script_at plan x.client x.seq ∷ map (λ (a : List Op × List Pair). a.0) (answered plan whole)) fills.0
    ∙ ap (λ (l : List (List Op)). script_of_entry plan e ∷ l) (same_scripts plan h whole fills.2)

module _ (plan : Plan) (own : HavePlacesOfTheirOwn plan.layout) (store : Store) (ps : List PlainPacket) (first : Places)
    (cells : (t : TupleId) (place : Place) → place_of plan.layout t ≡ Some place → register_at first place ≡ value_at plan.tuples t)
    (h : History) (hosts : AllByRecursion (λ e. is_carried e ≡ false → OnHostsAlone plan e) h) (done : Completed plan store ps first h) where
  cold : ColdFacts plan done.at store done.whole
  cold = subst (ColdFacts plan done.at store) (all_answered_ones done.whole done.answered) done.cold

  hosts_whole : AllByRecursion (λ e. is_carried e ≡ false → OnHostsAlone plan e) done.whole
  hosts_whole = all_filled (λ e. is_carried (record { entry = e; pairs = None }) ≡ false → OnHostsAlone plan (record { entry = e; pairs = None })) h done.whole done.fills hosts

  -- at a tuple in the switch, the pairs are those of the packets on its place
  pub hot_pairs : (t : TupleId) (place : Place) → place_of plan.layout t ≡ Some place → tuple_pairs t (all_steps (answered plan done.whole)) ≡ place_pairs place (all_packet_steps (with_pairs ps (replay_all ps first).pairs))
  hot_pairs t place is = same_on plan own t place is done.at done.desks 0 first done.whole ps done.answered hosts_whole done.all_carried

  hot_chain : (t : TupleId) (place : Place) → place_of plan.layout t ≡ Some place → Chain t (value_at plan.tuples t) (all_steps (answered plan done.whole))
  hot_chain t place is =
      chain-Linked t (value_at plan.tuples t) (all_steps (answered plan done.whole))
      (subst (Linked (value_at plan.tuples t)) (sym (hot_pairs t place is))
      (subst (λ (v : ℤ). Linked v (place_pairs place (all_packet_steps (with_pairs ps (replay_all ps first).pairs)))) (cells t place is)
      (Linked-chain place (register_at first place) (all_packet_steps (with_pairs ps (replay_all ps first).pairs)) ((replay_chains ps first).chains place))))

  pub whole_chains : HasChains (answered plan done.whole) plan.tuples
  whole_chains = record { local = cold.local; chains = λ t. by t (place_of plan.layout t) refl }
    where
      by : (t : TupleId) (o : Option Place) → place_of plan.layout t ≡ o → Chain t (value_at plan.tuples t) (all_steps (answered plan done.whole))
      by t (Some place) is = hot_chain t place is
      by t None is = cold.chains t (ap is_some is)

  pub whole_run : IsRunOf (answered plan done.whole) plan.tuples
  whole_run = run_from_chains (answered plan done.whole) plan.tuples whole_chains

  pub legal : IsLegal (script_at plan) plan.tuples h
  legal = subst (λ (l : List (List Op)). Agrees h (serial_run l plan.tuples).replies) (same_scripts plan h done.whole done.fills) (subst (Agrees h) (sym whole_run.replies) (agrees plan h done.whole done.fills done.answered))

  -- the last value at a tuple in the switch is the number that the replay of all packets leaves at its place
  pub hot_last : (t : TupleId) (place : Place) → place_of plan.layout t ≡ Some place → last_value t (value_at plan.tuples t) (all_steps (answered plan done.whole)) ≡ register_at (replay_all ps first).after place
  hot_last t place is =
      last_value-last_of t (value_at plan.tuples t) (all_steps (answered plan done.whole)) ∙ ap (last_of (value_at plan.tuples t)) (hot_pairs t place is)
      ∙ ap (λ (v : ℤ). last_of v (place_pairs place (all_packet_steps (with_pairs ps (replay_all ps first).pairs)))) (sym (cells t place is))
      ∙ sym (last_number-last_of place (register_at first place) (all_packet_steps (with_pairs ps (replay_all ps first).pairs))) ∙ sym ((replay_chains ps first).last place)
