-- Values whose compact text is read as themselves.
use Rattle.std.proofs.Common.{◌≡◌, ℕ, suc, ◌<◌, ◌≤◌, ◌^◌, max, ℤ, pos, negsuc, List, [], ◌∷◌, ◌++◌, map, Bool, true, false, Option, Some, option_map, w64, SFits, refl, sym, ap, ap₂, ◌∙◌, subst, append-nil, arith}
use Rattle.std.specs.Str.{IsUtf8}
use Rattle.std.specs.List.{AllByRecursion}
use Rattle.std.proofs.lemmas.Fmt.{IsAscii-decimal, IsAscii-signed}
use Rattle.std.proofs.lemmas.Str.{IsUtf8-append, IsUtf8-nil, IsUtf8-from_ascii}
use Rattle.std.specs.Option.{option_and_then}
use Rattle.json.specs.Print.{quoted}
use Rattle.json.specs.Tree as tree
use Rattle.json.specs.Json as json
use Rattle.json.specs.Lex.{tokens}
use Rattle.json.specs.Token.{Token}
use Rattle.json.specs.Tree.{json_tokens, HasNumbers, ItemsHaveNumbers, MembersHaveNumbers}
use Rattle.json.proofs.Printed.Decimals.{IsNumber-decimal, IsNumber-signed_decimal}
use Rattle.json.proofs.Printed.Tokens.{tokens-print}
use Rattle.json.proofs.Printed.Trees.{ArePrintable-json_tokens, value-json_tokens}
use Rattle.json.proofs.Printed.Utf8.{IsUtf8-are_ascii, IsUtf8-quoted}
use Rattle.serde_json.specs.Data.{Data, null, boolean, number, string, array, object, Items, no_items, item, Members, no_members, member, depth, items_depth, members_depth}
use Rattle.serde_json.specs.Read.{of_json, of_items, of_members, max_depth}
use Rattle.serde_json.specs.View.{items_of}
use Rattle.serde_json.specs.Written.{outline, items_outline, members_outline, comma_if, compact_text, items_text, members_text}
use Rattle.serde_json.proofs.Numbers.{number_of-decimal, number_of-negative}
use Rattle.serde_json.proofs.Texts.{print-outline}
use Rattle.session_draft.specs.Json.{json_of}
use Rattle.session_draft.proofs.BytesAsJson.{json_of-some}
use Rattle.session_text.specs.SessionData.{list, natural, integer}
use Rattle.session_text.proofs.Newline.{tokens_before_newline}

-- the compact text is UTF-8 and has the value's tokens, and these are read as the value
pub record IsJson (d : Data) : Type 0 where
  pub text : IsUtf8 (compact_text d)
  pub numbers : HasNumbers (outline d)
  pub reads : of_json (outline d) ≡ Some d

mutual
  depth-outline : (d : Data) → tree.depth (outline d) ≡ depth d
  depth-outline null = refl
  depth-outline (boolean b) = refl
  depth-outline (number n) = refl
  depth-outline (string s) = refl
  depth-outline (array ds) = ap suc (items_depth-outline ds)
  depth-outline (object ms) = ap suc (members_depth-outline ms)

  items_depth-outline : (ds : Items) → tree.items_depth (items_outline ds) ≡ items_depth ds
  items_depth-outline no_items = refl
  items_depth-outline (item d ds) = ap₂ max (depth-outline d) (items_depth-outline ds)

  members_depth-outline : (ms : Members) → tree.members_depth (members_outline ms) ≡ members_depth ms
  members_depth-outline no_members = refl
  members_depth-outline (member k d ms) = ap₂ max (depth-outline d) (members_depth-outline ms)

-- a text with the value's tokens is read as the value
tokens_read : (d : Data) (text : List ℕ) → IsJson d → IsUtf8 text → tokens text ≡ json_tokens (outline d) → depth d ≤ max_depth → json_of text ≡ Some d
tokens_read d text is utf8 has deep =
    let shallow = subst (λ n. n ≤ max_depth) (sym (depth-outline d)) deep in
    json_of-some text d utf8 (ap of_value (ap (json.value max_depth) (has ∙ sym (append-nil _)) ∙ value-json_tokens (outline d) max_depth [] shallow) ∙ is.reads)
  where
    of_value : Option (json.Json × List Token) → Option Data
    of_value o = option_and_then of_json (option_and_then (λ p. json.if_last p.0 p.1) o)

-- the compact text is
pub compact_read : (d : Data) → IsJson d → depth d ≤ max_depth → json_of (compact_text d) ≡ Some d
compact_read d is deep =
    tokens_read d (compact_text d) is is.text (ap tokens (sym (print-outline d)) ∙ tokens-print (json_tokens (outline d)) (ArePrintable-json_tokens (outline d) is.numbers)) deep

-- so is that text with a newline behind it
pub line_read : (d : Data) → IsJson d → depth d ≤ max_depth → json_of (compact_text d ++ 10 ∷ []) ≡ Some d
line_read d is deep =
    tokens_read d (compact_text d ++ 10 ∷ []) is (IsUtf8-append (compact_text d) (10 ∷ []) is.text (IsUtf8-are_ascii (10 ∷ []) refl))
    (ap (λ text. tokens (text ++ 10 ∷ [])) (sym (print-outline d)) ∙ tokens_before_newline (json_tokens (outline d)) (ArePrintable-json_tokens (outline d) is.numbers)) deep

pub string_json : (s : List ℕ) → IsUtf8 s → IsJson (string s)
string_json s utf8 = record { text = IsUtf8-quoted s utf8; numbers = tt; reads = refl }

pub natural_json : (n : ℕ) → n < 2 ^ 64 → IsJson (natural n)
natural_json n small = record {
  text = IsUtf8-from_ascii _ (IsAscii-decimal n small);
  numbers = IsNumber-decimal n small;
  reads = ap (option_map number) (number_of-decimal n small);
}

pub integer_json : (z : ℤ) → SFits w64 z → IsJson (integer z)
integer_json (pos n) fits = natural_json n (omega (arith, fits.sfits))
integer_json (negsuc n) fits = record {
  text = IsUtf8-from_ascii _ (IsAscii-signed (negsuc n) fits.sfits);
  numbers = IsNumber-signed_decimal (negsuc n) fits.sfits;
  reads = ap (option_map number) (number_of-negative n fits.sfits);
}

comma_utf8 : (later : Bool) → IsUtf8 (comma_if later)
comma_utf8 true = IsUtf8-are_ascii (44 ∷ []) refl
comma_utf8 false = IsUtf8-nil

items_utf8 : (later : Bool) (ds : List Data) → AllByRecursion IsJson ds → IsUtf8 (items_text later (items_of ds))
items_utf8 later [] all = IsUtf8-are_ascii (93 ∷ []) refl
items_utf8 later (d ∷ ds) all = IsUtf8-append (comma_if later) _ (comma_utf8 later) (IsUtf8-append (compact_text d) _ all.0.text (items_utf8 true ds all.1))

items_numbers : (ds : List Data) → AllByRecursion IsJson ds → ItemsHaveNumbers (items_outline (items_of ds))
items_numbers [] all = tt
items_numbers (d ∷ ds) all = (all.0.numbers, items_numbers ds all.1)

items_read : (ds : List Data) → AllByRecursion IsJson ds → of_items (items_outline (items_of ds)) ≡ Some (items_of ds)
items_read [] all = refl
items_read (d ∷ ds) all = rw all.0.reads (rw (items_read ds all.1) refl)

pub list_json : (ds : List Data) → AllByRecursion IsJson ds → IsJson (list ds)
list_json ds all = record {
  text = IsUtf8-append (91 ∷ []) _ (IsUtf8-are_ascii (91 ∷ []) refl) (items_utf8 false ds all);
  numbers = items_numbers ds all;
  reads = ap (option_map array) (items_read ds all);
}

all_json : {A : Type 0} (write : A → Data) (P : A → Type 0) → ((x : A) → P x → IsJson (write x)) → (xs : List A) → AllByRecursion P xs → AllByRecursion IsJson (map write xs)
all_json write P one [] all = tt
all_json write P one (x ∷ xs) all = (one x all.0, all_json write P one xs all.1)

-- the same of the names and values of an object
abbrev pub AreJson : Members → Type 0
AreJson no_members = Unit {0}
AreJson (member k d ms) = IsUtf8 k × (IsJson d × AreJson ms)

members_utf8 : (later : Bool) (ms : Members) → AreJson ms → IsUtf8 (members_text later ms)
members_utf8 later no_members all = IsUtf8-are_ascii (125 ∷ []) refl
members_utf8 later (member k d ms) all =
    let value = IsUtf8-append (compact_text d) _ all.1.0.text (members_utf8 true ms all.1.1) in
    let colon = IsUtf8-append (58 ∷ []) _ (IsUtf8-are_ascii (58 ∷ []) refl) value in
    IsUtf8-append (comma_if later) _ (comma_utf8 later) (IsUtf8-append (quoted k) _ (IsUtf8-quoted k all.0) colon)

members_numbers : (ms : Members) → AreJson ms → MembersHaveNumbers (members_outline ms)
members_numbers no_members all = tt
members_numbers (member k d ms) all = (all.1.0.numbers, members_numbers ms all.1.1)

pub object_json : (ms : Members) → AreJson ms → of_members (members_outline ms) no_members ≡ Some ms → IsJson (object ms)
object_json ms all ordered = record {
  text = IsUtf8-append (123 ∷ []) _ (IsUtf8-are_ascii (123 ∷ []) refl) (members_utf8 false ms all);
  numbers = members_numbers ms all;
  reads = ap (option_map object) ordered;
}

-- a list of values that are made one by one
pub map_json : {A : Type 0} (write : A → Data) (P : A → Type 0) → ((x : A) → P x → IsJson (write x)) → (xs : List A) → AllByRecursion P xs → IsJson (list (map write xs))
map_json write P one xs all = list_json (map write xs) (all_json write P one xs all)
