-- A stage's two parts are the whole of its work.
use Rattle.std.proofs.Common.{◌≡◌, ℕ, ◌+◌, ◌==◌, ◌||◌, Bool, true, List, Option, Some, None, is_none, if◌then◌else◌, refl, sym, ap, ◌∙◌, arith, get_or-set_same, get_or-set_other}
use Rattle.std.specs.Option.{option_map}
use Rattle.pipeline.specs.Plain.{PlainPipeline, PlainFlight}
use Rattle.pipeline.specs.Rows.{in_slot, with_slot, may_leave, executed_at, gone_on, left_slot, advanced, advanced_from}
use Rattle.pipeline.specs.Walks.{IsAt, flight_behind, with_executed}
use Rattle.pipeline.proofs.Lists.{set_twice, some_within}

-- the packet of which the client is seen
pub record Seen (s : PlainPipeline) (x c : ℕ) : Type 0 where
  pub flight : PlainFlight
  pub is : in_slot s x ≡ Some flight
  pub client : flight.packet.client ≡ c

pub seen_at : (s : PlainPipeline) (x c : ℕ) → IsAt s x c → Seen s x c
seen_at s x c e = go (in_slot s x) refl e
  where
    go : (o : Option PlainFlight) → in_slot s x ≡ o → option_map (λ flight. flight.packet.client) o ≡ Some c → Seen s x c
    go None is h = cc
    go (Some f) is h = record { flight = f; is = is; client = cc }

executed_slot : (s : PlainPipeline) (x : ℕ) (f : PlainFlight) → in_slot s x ≡ Some f → in_slot (with_executed s x f) x ≡ Some (flight_behind s x f)
executed_slot s x f is = get_or-set_same s.slots x (Some (flight_behind s x f)) None (some_within s.slots x f is)

pub still_at : (s now : PlainPipeline) (x c : ℕ) (f : PlainFlight) → in_slot s x ≡ Some f → f.packet.client ≡ c → now ≡ with_executed s x f → IsAt now x c
still_at s now x c f is own e =
    ap (λ (p : PlainPipeline). option_map (λ (flight : PlainFlight). flight.packet.client) (in_slot p x)) e
    ∙ ap (option_map (λ (flight : PlainFlight). flight.packet.client)) (executed_slot s x f is)
    ∙ ap Some own

pub still_may : (s now : PlainPipeline) (x : ℕ) (f : PlainFlight) → now ≡ with_executed s x f → may_leave s x ≡ true → may_leave now x ≡ true
still_may s now x f e may =
    ap (λ (p : PlainPipeline). may_leave p x) e
    ∙ ap (λ (o : Option PlainFlight). (x + 1 == s.shape.stages) || is_none o) (get_or-set_other s.slots x (x + 1) (Some (flight_behind s x f)) None (λ same. omega (arith, same)))
    ∙ may

pub advance_shown : (s now left : PlainPipeline) (x : ℕ) (f : PlainFlight) → in_slot s x ≡ Some f → may_leave s x ≡ true → now ≡ with_executed s x f
    → ((g : PlainFlight) → in_slot now x ≡ Some g → left ≡ gone_on (with_slot now x None) x g) → advanced s x ≡ Some left
advance_shown s now left x f is may e leaves =
    let g = flight_behind s x f in
    let there : in_slot now x ≡ Some g = ap (λ (p : PlainPipeline). in_slot p x) e ∙ executed_slot s x f is in
    ap (advanced_from s x) is
    ∙ ap (λ (b : Bool). if b then Some (left_slot s x f) else None) may
    ∙ ap (λ (l : List (Option PlainFlight)). Some (gone_on (record s { registers = (executed_at s x f).after; slots = l }) x g)) (sym (set_twice s.slots x (Some g) None))
    ∙ ap (λ (p : PlainPipeline). Some (gone_on (with_slot p x None) x g)) (sym e)
    ∙ ap Some (sym (leaves g there))
