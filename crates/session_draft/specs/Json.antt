-- Bytes as JSON, and what a JSON value is read as: a whole number, a list, an object with given keys.
use Rattle.std.specs.Prelude.{ℕ, ℤ, pos, negsuc, List, [], ◌∷◌, Bool, false, nat_le, if◌then◌else◌, Option, Some, None, option_map, option_and_then}
use Rattle.std.specs.List.{list_all}
use Rattle.std.specs.Option.{option_map_or}
use Rattle.std.specs.Str.{is_utf8, bytes_eq}
use Rattle.serde_json.specs.Data.{Data, Items, no_items, item, Members, no_members, member}
use Rattle.serde_json.specs.Read.{read}
use Rattle.serde_json.specs.Find.{as_number, as_i64, as_array, as_object, as_str}

-- the value that the bytes are; None where they aren't UTF-8, or no JSON
unfoldable pub json_of : List ℕ → Option Data
json_of bytes = if is_utf8 bytes then read bytes else None

-- what is read of a value is read on
infixl 10 ◌>>=◌
abbrev pub ◌>>=◌ : {A B : Type 0} → Option A → (A → Option B) → Option B
o >>= f = option_and_then f o

-- a whole number from -2^63 to 2^63 - 1, written without a point and an exponent
abbrev pub integer_of : Data → Option ℤ
integer_of d = option_and_then as_i64 (as_number d)

abbrev pub up_to : ℕ → ℤ → Option ℕ
up_to most (pos n) = if nat_le n most then Some n else None
up_to most (negsuc n) = None

-- such a number from 0 to `most`
abbrev pub number_to : ℕ → Data → Option ℕ
number_to most d = option_and_then (up_to most) (integer_of d)

-- the value is this text
abbrev pub is_text : List ℕ → Data → Bool
is_text text d = option_map_or (λ s. bytes_eq s text) (as_str d) false

abbrev pub items_list : Items → List Data
items_list no_items = []
items_list (item d ds) = d ∷ items_list ds

-- the items of a list
abbrev pub list_of : Data → Option (List Data)
list_of d = option_map items_list (as_array d)

-- each item, read alike; None where one of them can't be
abbrev pub each : {A : Type 0} → (Data → Option A) → List Data → Option (List A)
each f [] = Some []
each f (d ∷ ds) = f d >>= (λ x. option_map (λ xs. x ∷ xs) (each f ds))

-- the items of a list, each read alike
abbrev pub list_each : {A : Type 0} → (Data → Option A) → Data → Option (List A)
list_each f d = list_of d >>= each f

abbrev pub keys_list : Members → List (List ℕ)
keys_list no_members = []
keys_list (member key d ms) = key ∷ keys_list ms

-- an object, each of whose keys passes the test
abbrev pub has_only_keys : (List ℕ → Bool) → Data → Bool
has_only_keys known d = option_map_or (λ ms. list_all known (keys_list ms)) (as_object d) false
