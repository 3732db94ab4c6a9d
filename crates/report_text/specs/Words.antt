-- The words that the lines of a report are made of.
use Rattle.std.specs.Prelude.{ℕ, List, ◌++◌, codes, decimal}
use Rattle.std.specs.Fmt.{signed_decimal}
use Rattle.std.specs.List.{flat_map}
use Rattle.catalogue.specs.declared.kind.Kind.{Kind}
use Rattle.catalogue.specs.declared.kind.Kind.TheVariants.{Hot, Warm, Cold}
use Rattle.txn_model.specs.declared.pairs.Pair.{Pair}
use Rattle.txn_model.specs.declared.stamp.Stamp.{Stamp}

-- `number.sub`
abbrev pub stamp_text : Stamp → List ℕ
stamp_text s = decimal s.number ++ codes "." ++ decimal s.sub

-- `was>now`
abbrev pub pair_text : Pair → List ℕ
pair_text p = signed_decimal p.was ++ codes ">" ++ signed_decimal p.now

-- each pair after a space
abbrev pub pairs_text : List Pair → List ℕ
pairs_text pairs = flat_map (λ p. codes " " ++ pair_text p) pairs

-- `cC SEQ`: an item's client, and its number there
abbrev pub item_name : ℕ → ℕ → List ℕ
item_name client seq = codes "c" ++ decimal client ++ codes " " ++ decimal seq

abbrev pub kind_word : Kind → List ℕ
kind_word Hot = codes "hot"
kind_word Warm = codes "warm"
kind_word Cold = codes "cold"
