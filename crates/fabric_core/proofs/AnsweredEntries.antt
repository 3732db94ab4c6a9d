-- The answered entry of an item, as a history tells it.
use Rattle.std.proofs.Common.{◌≡◌, ℕ, ◌==◌, ◌&&◌, Bool, true, false, List, [], ◌∷◌, find, is_some, if◌then◌else◌, Option, Some, None, refl, sym, ap, ◌∙◌}
use Rattle.std.specs.Option.{option_and_then, option_map}
use Rattle.txn_model.specs.declared.pairs.Pair.{Pair}
use Rattle.history_model.specs.History.{HistoryEntry, History}
use Rattle.history_model.specs.declared.entry.Entry.{Entry}
use Rattle.history_core.specs.Answers.{is_of_item, entry_of, reply_of}
use Rattle.core_model.specs.Ends.{where_answered, answered_entry}

-- what is told of an item's entry
record IsTold (client seq : ℕ) (h : History) : Type 0 where
  pub entry : answered_entry client seq h ≡ option_and_then where_answered (entry_of client seq h)
  pub reply : reply_of client seq h ≡ option_and_then (λ e. e.pairs) (entry_of client seq h)

told : (client seq : ℕ) (h : History) → IsTold client seq h
told client seq [] = record { entry = refl; reply = refl }
told client seq (e ∷ h) = let rest = told client seq h in record { entry = entry (is_of_item client seq e) rest.entry; reply = reply (is_of_item client seq e) rest.reply }
  where
    entry : (b : Bool) → answered_entry client seq h ≡ option_and_then where_answered (entry_of client seq h)
        → option_and_then where_answered (if b then Some e else find (λ x. (x.entry.client == client) && (x.entry.seq == seq)) h) ≡ option_and_then where_answered (if b then Some e else entry_of client seq h)
    entry true same = refl
    entry false same = same

    reply : (b : Bool) → reply_of client seq h ≡ option_and_then (λ x. x.pairs) (entry_of client seq h) → (if b then e.pairs else reply_of client seq h) ≡ option_and_then (λ x. x.pairs) (if b then Some e else entry_of client seq h)
    reply true same = refl
    reply false same = same

-- no reply, no answered entry
pub unanswered : (client seq : ℕ) (h : History) → reply_of client seq h ≡ None → option_map (λ e. e.entry.stamp) (answered_entry client seq h) ≡ None
unanswered client seq h none = let t = told client seq h in ap (option_map (λ e. e.entry.stamp)) t.entry ∙ by (entry_of client seq h) (sym t.reply ∙ none)
  where
    own : (e : HistoryEntry) (p : Option (List Pair)) → p ≡ None → option_map (λ x. x.entry.stamp) (if is_some p then Some e else None) ≡ None
    own e None is = refl
    own e (Some pairs) is = cc

    by : (o : Option HistoryEntry) → option_and_then (λ e. e.pairs) o ≡ None → option_map (λ e. e.entry.stamp) (option_and_then where_answered o) ≡ None
    by None e = refl
    by (Some e) is = own e e.pairs is

-- with a reply, the answered entry is the item's
pub answered_is : (client seq : ℕ) (h : History) (pairs : List Pair) (found : Option Entry) → reply_of client seq h ≡ Some pairs → found ≡ option_map (λ e. e.entry) (entry_of client seq h)
    → option_map (λ e. e.entry.stamp) (answered_entry client seq h) ≡ option_map (λ e. e.stamp) found
answered_is client seq h pairs found reply is =
    let t = told client seq h in
    ap (option_map (λ e. e.entry.stamp)) t.entry ∙ by (entry_of client seq h) (sym t.reply ∙ reply) ∙ ap (option_map (λ e. e.stamp)) (sym is)
  where
    own : (e : HistoryEntry) (p : Option (List Pair)) → p ≡ Some pairs → option_map (λ x. x.entry.stamp) (if is_some p then Some e else None) ≡ Some e.entry.stamp
    own e None is = cc
    own e (Some ps) is = refl

    by : (o : Option HistoryEntry) → option_and_then (λ e. e.pairs) o ≡ Some pairs → option_map (λ e. e.entry.stamp) (option_and_then where_answered o) ≡ option_map (λ e. e.stamp) (option_map (λ e. e.entry) o)
    by None e = cc
    by (Some e) is = own e e.pairs is
