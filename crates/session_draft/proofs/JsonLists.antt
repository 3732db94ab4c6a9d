-- A JSON list and an object's keys as lists.
use Rattle.std.proofs.Common.{◌≡◌, ℕ, Bool, ◌&&◌, List, [], ◌∷◌, ◌++◌, Option, Some, option_map, false, String, string_bytes, Global, refl, sym, ap, ◌∙◌}
use Rattle.std.specs.List.{list_all}
use Rattle.std.specs.Option.{option_map_or}
use Rattle.std.specs.Map.{keys_of}
use Rattle.serde_json.specs.Data.{Data, Members}
use Rattle.serde_json.specs.Find.{as_object}
use Rattle.serde_json.specs.View.{items_of, members_view}
use Rattle.serde_json.specs.declared.value.Value.{Value}
use Rattle.session_draft.specs.Json.{items_list, keys_list, has_only_keys}

-- what a list of values stands for is the list of what they stand for
pub items_list-items_of : (ds : List Data) → items_list (items_of ds) ≡ ds
items_list-items_of [] = refl
items_list-items_of (d ∷ ds) = ap (λ (l : List Data). d ∷ l) (items_list-items_of ds)

-- what was read of the front of a list, before what the rest gives
abbrev pub with_front : {A : Type 0} → List A → Option (List A) → Option (List A)
with_front xs rest = option_map (λ ys. xs ++ ys) rest

keys_list-members_view : (known : List ℕ → Bool) (es : List (String Global × Value)) → list_all known (keys_list (members_view es)) ≡ list_all (λ key. known (string_bytes key)) (keys_of es)
keys_list-members_view known [] = refl
keys_list-members_view known (e ∷ es) = ap (λ (b : Bool). known (string_bytes e.0) && b) (keys_list-members_view known es)

-- a test of the keys of an object
pub keys_pass : (known : List ℕ → Bool) (es : List (String Global × Value)) (d : Data) (r : Bool) → r ≡ list_all (λ key. known (string_bytes key)) (keys_of es) → Some (members_view es) ≡ as_object d → r ≡ has_only_keys known d
keys_pass known es d r tested is =
    tested ∙ sym (keys_list-members_view known es) ∙ ap (λ (o : Option Members). option_map_or (λ ms. list_all known (keys_list ms)) o false) is
