use Rattle.std.proofs.Common.{ℕ, List, codes, string_bytes}
use Rattle.json.specs.Print.{escape_byte}
use Rattle.session_text.proofs.Joined.{joined}
use Rattle.session_text.proofs.write.push_session.Goals as goal

pub returns-clause-text : goal.returns-clause-text
unfolding escape_byte
returns-clause-text c =
    let a : List ℕ = string_bytes c.args.text.now in
    let b : List ℕ = string_bytes c.push_str.new.self in
    let d : List ℕ = string_bytes c.push_clients.new.text in
    let e : List ℕ = string_bytes c.push_str-2.new.self in
    let f : List ℕ = string_bytes c.push_layout.new.text in
    let g : List ℕ = string_bytes c.push_str-3.new.self in
    let h : List ℕ = string_bytes c.push_schedule.new.text in
    let i : List ℕ = string_bytes c.push_str-4.new.self in
    let j : List ℕ = string_bytes c.push_shape.new.text in
    let k : List ℕ = string_bytes c.push_tries.new.text in
    let l : List ℕ = string_bytes c.push_str-5.new.self in
    let m : List ℕ = string_bytes c.push_tuples.new.text in
    let z : List ℕ = string_bytes c.push_str-6.new.self in
    joined a b z (codes "{\"clients\":") _ c.in_ok-push_str.ensures.bytes
    (joined b d z _ _ c.in_ok-push_clients.ensures.text
    (joined d e z (codes ",\"layout\":") _ c.in_ok-push_str-2.ensures.bytes
    (joined e f z _ _ c.in_ok-push_layout.ensures.text
    (joined f g z (codes ",\"schedule\":") _ c.in_ok-push_str-3.ensures.bytes
    (joined g h z _ _ c.in_ok-push_schedule.ensures.text
    (joined h i z (codes ",\"shape\":") _ c.in_ok-push_str-4.ensures.bytes
    (joined i j z _ _ c.in_ok-push_shape.ensures.text
    (joined j k z _ _ c.in_ok-push_tries.ensures.text
    (joined k l z (codes ",\"tuples\":") _ c.in_ok-push_str-5.ensures.bytes (joined l m z _ (codes "}") c.in_ok-push_tuples.ensures.text c.in_ok-push_str-6.ensures.bytes))))))))))

pub returns-clause-typed : goal.returns-clause-typed
returns-clause-typed c = record {
  shape = c.in_ok-push_shape.ensures.typed;
  tuples = c.in_ok-push_tuples.ensures.typed;
  layout = c.in_ok-push_layout.ensures.typed;
  tries = c.in_ok-push_tries.ensures.typed;
  clients = c.in_ok-push_clients.ensures.typed;
}
