-- The numbers of a stage as one list: one array after another, each from its first cell to its last.
use Rattle.std.specs.Prelude.{ℕ, ◌+◌, ◌*◌, ℤ, pos, List, slice_index_or}
use Rattle.txn_model.specs.declared.place.Place.{Place}

-- where the number of a place stands, where each array has so many cells
abbrev pub index_of : ℕ → Place → ℕ
index_of cells p = p.array * cells + p.cell

abbrev pub number_at : ℕ → List ℤ → Place → ℤ
number_at cells numbers p = slice_index_or numbers (index_of cells p) (pos 0)
