-- What each event does to the clients' desks and to what has entered, for machines that have a switch as a part.
use Rattle.std.proofs.Common.{◌≡◌, ◌⊎◌, ℕ, ◌+◌, ◌<◌, ◌==◌, Bool, true, false, List, [], ◌∷◌, ◌++◌, set, length, get_or, Some, None, inl, inr, refl, sym, ap, ◌∙◌, subst, arith, if◌then◌else◌}
use Rattle.std.specs.Prelude.{IsSome}
use Rattle.std.proofs.lemmas.List.{get_or-set_same, get_or-set_other, length-map, map_push}
use Rattle.txn_model.specs.Places.{Places}
use Rattle.stage_layout.specs.declared.shape.Shape.{Shape}
use Rattle.switch_packet.specs.Packets.{PlainPacket, blank_packet}
use Rattle.switch_model.specs.Event.{Post, Enter, Advance, Take, with_desk, first_entry, in_first_slot, moved_on, executed_at, posted, post, enter, advance, taken, take_answer}
use Rattle.switch_model.specs.Flight.{Flight, fresh_flight, flight_at, is_done}
use Rattle.switch_model.specs.Reached.{IsReached}
use Rattle.switch_model.specs.Switch.{Switch, Desk, Vacant, Posted, Entered, Answer, desk_at, entered, answer_on, answer_of}
use Rattle.switch_model.proofs.Kept.{holds, entered_set, packet_stays, posted_there, entered_there}
use Rattle.switch_model.proofs.Moves.{Posts, EntersFirst, EntersLater, LeavesStage, Takes, move_of}
use Rattle.switch_model.proofs.Starts.{packets_match}
use Rattle.switch_model.proofs.Tests.{is_below}

-- one client's desk becomes this one, and all others stay
pub record DeskBecomes (s next : Switch) (c : ℕ) (desk : Desk) : Type 0 where
  pub this : desk_at next c ≡ desk
  pub others : (d : ℕ) → (d ≡ c → ⊥) → desk_at next d ≡ desk_at s d

desk_becomes : (registers : Places) (flights : List Flight) (s : Switch) (c : ℕ) (desk : Desk) → c < length s.desks → DeskBecomes s (record { registers = registers; flights = flights; desks = set s.desks c desk }) c desk
desk_becomes registers flights s c desk there = record {
  this = get_or-set_same s.desks c desk Vacant there;
  others = λ d n. get_or-set_other s.desks c d desk Vacant n;
}

-- ---- posting

pub can_post : (s : Switch) (c : ℕ) (p : PlainPacket) → desk_at s c ≡ Vacant → c < length s.desks → IsSome (post s c p)
unfolding post
can_post s c p vacant there = subst (λ (d : Desk). IsSome (posted s c p d)) (sym vacant) (subst (λ (b : Bool). IsSome (if b then Some (with_desk s c (Posted p)) else None)) (sym (is_below c (length s.desks) there)) refl)

pub record PostEffect (s next : Switch) (c : ℕ) (p : PlainPacket) : Type 0 where
  pub vacant : desk_at s c ≡ Vacant
  pub desk : DeskBecomes s next c (Posted p)
  pub entered : entered next ≡ entered s
  pub flights : next.flights ≡ s.flights
  pub registers : next.registers ≡ s.registers

pub post_effect : (s next : Switch) (c : ℕ) (p : PlainPacket) → post s c p ≡ Some next → PostEffect s next c p
post_effect s next c p e =
    let shape : Shape = record { stages = 1; arrays = 1; cells = 1; split = 0; hosts = 1 } in
    let m : Posts s next c p = move_of shape s next (Post c p) e in
    subst (λ (x : Switch). PostEffect s x c p) (sym m.is) (record {
      vacant = m.vacant;
      desk = desk_becomes s.registers s.flights s c (Posted p) m.there;
      entered = refl;
      flights = refl;
      registers = refl;
    })

-- ---- entering

-- for the first pass: the packet that the client posted is the last one that has entered
pub record FirstEffect (s next : Switch) (c : ℕ) : Type 0 where
  pub packet : PlainPacket
  pub posted : desk_at s c ≡ Posted packet
  pub desk : DeskBecomes s next c (Entered (length (entered s)))
  pub entered : entered next ≡ entered s ++ packet ∷ []

-- for a later one
pub record LaterEffect (s next : Switch) (c : ℕ) : Type 0 where
  pub place : ℕ
  pub desk : desk_at s c ≡ Entered place
  pub desks : (d : ℕ) → desk_at next d ≡ desk_at s d
  pub entered : entered next ≡ entered s

pub enter_effect : (shape : Shape) (s next : Switch) (c : ℕ) → enter shape s c ≡ Some next → FirstEffect s next c ⊎ LaterEffect s next c
enter_effect shape s next c e =
    let m : EntersFirst shape s next c ⊎ EntersLater s next c = move_of shape s next (Enter c) e in
    elim m [
      | inl f ↦
          let size : length (entered s) ≡ length s.flights = length-map s.flights (λ (g : Flight). g.packet) in
          inl (subst (λ (x : Switch). FirstEffect s x c) (sym f.is) (record {
            packet = f.p;
            posted = f.desk;
            desk = subst (λ (n : ℕ). DeskBecomes s (first_entry s c f.p) c (Entered n)) (sym size) (desk_becomes s.registers (first_entry s c f.p).flights s c (Entered (length s.flights)) (posted_there s.desks c f.p f.desk));
            entered = map_push (λ (g : Flight). g.packet) s.flights (fresh_flight f.p);
          }))
      | inr l ↦
          inr (subst (λ (x : Switch). LaterEffect s x c) (sym l.is) (record {
            place = l.k;
            desk = l.desk;
            desks = λ d. refl;
            entered = entered_set s.flights l.k (in_first_slot (flight_at s.flights l.k)) refl;
          }))
    ]

-- ---- a stage

pub record AdvanceEffect (s next : Switch) : Type 0 where
  pub desks : (d : ℕ) → desk_at next d ≡ desk_at s d
  pub entered : entered next ≡ entered s

pub advance_effect : (shape : Shape) (s next : Switch) (x : ℕ) → advance shape s x ≡ Some next → AdvanceEffect s next
advance_effect shape s next x e =
    let m : LeavesStage shape s next x = move_of shape s next (Advance x) e in
    subst (λ (y : Switch). AdvanceEffect s y) (sym m.is) (record {
      desks = λ d. refl;
      entered = entered_set s.flights m.k (moved_on shape x (flight_at s.flights m.k) (executed_at s x (flight_at s.flights m.k))) (packet_stays (x + 1 == shape.stages) (flight_at s.flights m.k) (executed_at s x (flight_at s.flights m.k)).pairs);
    })

-- ---- answers

-- an answer can be taken
pub can_take_answer : (s : Switch) (c : ℕ) (answer : Answer) → answer_of s c ≡ Some answer → IsSome (take_answer s c)
unfolding take_answer
can_take_answer s c answer e = by (desk_at s c) e
  where
    done : (k : ℕ) (b : Bool) → (if b then Some (record { number = k + 1; pairs = (flight_at s.flights k).pairs }) else None) ≡ Some answer → IsSome (if b then Some (with_desk s c Vacant) else None)
    done k true e = refl
    done k false e = cc

    by : (desk : Desk) → answer_on s.flights desk ≡ Some answer → IsSome (taken s c desk)
    by Vacant e = cc
    by (Posted p) e = cc
    by (Entered k) e = done k (is_done (flight_at s.flights k)) e

pub record TakeEffect (s next : Switch) (c : ℕ) : Type 0 where
  pub answer : Answer
  pub given : answer_of s c ≡ Some answer
  pub desk : DeskBecomes s next c Vacant
  pub entered : entered next ≡ entered s
  pub flights : next.flights ≡ s.flights

pub take_effect : (s next : Switch) (c : ℕ) → take_answer s c ≡ Some next → TakeEffect s next c
take_effect s next c e =
    let shape : Shape = record { stages = 1; arrays = 1; cells = 1; split = 0; hosts = 1 } in
    let m : Takes s next c = move_of shape s next (Take c) e in
    let answer : Answer = record { number = m.k + 1; pairs = (flight_at s.flights m.k).pairs } in
    subst (λ (x : Switch). TakeEffect s x c) (sym m.is) (record {
      answer = answer;
      given = ap (answer_on s.flights) m.desk ∙ ap (λ (b : Bool). if b then Some answer else None) m.done;
      desk = desk_becomes s.registers s.flights s c Vacant (entered_there s.desks c m.k m.desk);
      entered = refl;
      flights = refl;
    })

-- ---- desks of reached states

pub record EnteredDesk (s : Switch) (c place : ℕ) : Type 0 where
  pub there : place < length (entered s)
  pub client : (get_or (entered s) place blank_packet).client ≡ c

-- a desk names a packet that has entered, and that is its client's
pub entered_desk : (shape : Shape) (first : Places) (s : Switch) (c place : ℕ) → IsReached shape first s → desk_at s c ≡ Entered place → EnteredDesk s c place
entered_desk shape first s c place reached desk =
    let own = (holds shape first s reached).desks.entered c place desk in
    record {
      there = omega (arith, own.0, length-map s.flights (λ (g : Flight). g.packet));
      client = ap (λ (p : PlainPacket). p.client) (sym (packets_match s.flights place)) ∙ own.1;
    }
