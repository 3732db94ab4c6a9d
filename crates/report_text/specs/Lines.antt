-- The lines of a report, each with the newline that ends it.
use Rattle.std.specs.Prelude.{ℕ, ℤ, List, ◌++◌, codes, decimal}
use Rattle.std.specs.Fmt.{signed_decimal}
use Rattle.std.specs.List.{flat_map}
use Rattle.catalogue.specs.declared.actor.Actor.{Actor}
use Rattle.history_model.specs.declared.entry.Entry.{Entry}
use Rattle.txn_model.specs.declared.op.TupleId.{TupleId}
use Rattle.report_text.specs.Report.{EndedItem, PlainEnd, Committed, Aborted, Lost}
use Rattle.catalogue.specs.ActorWord.{actor_word}
use Rattle.report_text.specs.Words.{stamp_text, pairs_text, item_name, kind_word}

-- a word, and how many lines of its kind follow
unfoldable pub count_line : List ℕ → ℕ → List ℕ
count_line word n = word ++ codes " " ++ decimal n ++ codes "\n"

-- the kind's word, the stamp and the pairs; `abort tT cH @P`; or `lose`
abbrev pub end_text : PlainEnd → List ℕ
end_text (Committed kind stamp pairs) = kind_word kind ++ codes " " ++ stamp_text stamp ++ pairs_text pairs
end_text (Aborted tuple holder at) = codes "abort t" ++ decimal tuple.0 ++ codes " c" ++ decimal holder ++ codes " @" ++ decimal at
end_text Lost = codes "lose"

-- an item, and how it ended
unfoldable pub item_line : EndedItem → List ℕ
item_line item = item_name item.client item.seq ++ codes " " ++ end_text item.end ++ codes "\n"

-- an entry of the history: its stamp, and its item
unfoldable pub entry_line : Entry → List ℕ
entry_line entry = stamp_text entry.stamp ++ codes " " ++ item_name entry.client entry.seq ++ codes "\n"

-- a tuple, and its final value
unfoldable pub tuple_line : TupleId × ℤ → List ℕ
tuple_line row = codes "t" ++ decimal row.0.0 ++ codes " " ++ signed_decimal row.1 ++ codes "\n"

-- the whole trace: a word for each actor
unfoldable pub schedule_line : List Actor → List ℕ
schedule_line trace = codes "schedule" ++ flat_map (λ a. codes " " ++ actor_word a) trace ++ codes "\n"
