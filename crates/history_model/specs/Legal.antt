-- Legal histories: running the scripts of all entries serially gives each answered entry its pairs.
use Rattle.std.specs.Prelude.{◌≡◌, ℕ, List, [], ◌∷◌, map, Option, Some, None, ⊤}
use Rattle.txn_model.specs.Tuples.{Tuples}
use Rattle.txn_model.specs.Serial.{serial_run}
use Rattle.txn_model.specs.declared.op.Op.{Op}
use Rattle.txn_model.specs.declared.pairs.Pair.{Pair}
use Rattle.history_model.specs.History.{History}

-- the scripts of a history's entries, in its order; script_at tells the script of a client's item
abbrev pub scripts_of : (ℕ → ℕ → List Op) → History → List (List Op)
scripts_of script_at h = map (λ e. script_at e.entry.client e.entry.seq) h

-- the pairs, where there are any, are the reply
abbrev pub HasReply : Option (List Pair) → List Pair → Type 0
HasReply None reply = ⊤
HasReply (Some pairs) reply = pairs ≡ reply

-- each answered entry has the reply at its place, and there are as many replies
abbrev pub Agrees : History → List (List Pair) → Type 0
Agrees [] [] = ⊤
Agrees [] (reply ∷ replies) = ⊥
Agrees (e ∷ es) [] = ⊥
Agrees (e ∷ es) (reply ∷ replies) = HasReply e.pairs reply × Agrees es replies

-- the serial run of all entries' scripts from the first map gives each answered entry its pairs
abbrev pub IsLegal : (ℕ → ℕ → List Op) → Tuples → History → Type 0
IsLegal script_at first h = Agrees h (serial_run (scripts_of script_at h) first).replies
