-- What a report tells of items.
use Rattle.std.proofs.Common.{◌≡◌, ℕ, suc, ◌+◌, nat_lt, Bool, true, false, if◌then◌else◌, List, [], ◌∷◌, ◌++◌, find, is_some, map, zero, take, slice_get, unwrap_or, Option, Some, None, append_assoc, append-nil, length-append, arith, refl, sym, ap, ◌∙◌}
use Rattle.std.specs.List.{flat_map, range_with_len}
use Rattle.std.specs.Option.{option_and_then}
use Rattle.std.proofs.lemmas.Grind.{flat_map-append}
use Rattle.txn_model.specs.declared.op.Op.{Op}
use Rattle.txn_model.specs.declared.pairs.Pair.{Pair}
use Rattle.catalogue.specs.Plan.{Plan, PlainItem, Run, Lose, item_of, kind_of, script_in, script_at}
use Rattle.history_model.specs.History.{HistoryEntry, History}
use Rattle.history_core.specs.Answers.{is_of_item, reply_of}
use Rattle.core_model.specs.Ends.{where_answered, answered_entry, script_end}
use Rattle.fabric_model.specs.Ends.{end_of, item_end}
use Rattle.fabric_model.specs.State.{State, client_at}
use Rattle.core_model.specs.declared.item_end.ItemEnd.{ItemEnd}
use Rattle.core_model.specs.declared.item_end.ItemEnd.TheVariants as ends
use Rattle.report_text.specs.Lines.{item_line, entry_line}
use Rattle.report_text.specs.Report.{PlainEnd, Lost, EndedItem}
use Rattle.report_text.specs.RunReport.{last_refusal, told_by, reply_to, with_end, item_told}
use Rattle.report_text.specs.Told.{Tells}

-- an item's reply is that of its entry, where it is answered
reply_is : (client seq : ℕ) (h : History) → reply_of client seq h ≡ reply_to client seq h
reply_is client seq [] = refl
reply_is client seq (e ∷ h) =
    elim (is_of_item client seq e) as (λ b. (if b then e.pairs else reply_of client seq h) ≡ option_and_then (λ e. e.pairs) (option_and_then where_answered (if b then Some e else find (is_of_item client seq) h))) [
      | true ↦ own e.pairs refl
      | false ↦ reply_is client seq h
    ]
  where
    own : (o : Option (List Pair)) → e.pairs ≡ o → o ≡ option_and_then (λ x. x.pairs) (if is_some o then Some e else None)
    own None is = refl
    own (Some pairs) is = sym is

pub script_item_told : (plan : Plan) (s : State) (client seq : ℕ) (ops : List Op) (end : ItemEnd) → item_of plan client seq ≡ Some (Run ops) → end ≡ item_end plan s client seq
    → item_told plan s client seq ≡ with_end client seq (told_by (kind_of plan.layout ops) (reply_of client seq s.history) (last_refusal client seq s.refusals) end)
script_item_told plan s client seq ops end is ended =
    let refusal = last_refusal client seq s.refusals in
    ap (λ (o : Option PlainItem). with_end client seq (told_by (kind_of plan.layout (unwrap_or (option_and_then script_in o) [])) (reply_to client seq s.history) refusal (item_end plan s client seq))) is
    ∙ ap (λ (o : Option (List Pair)). with_end client seq (told_by (kind_of plan.layout ops) o refusal (item_end plan s client seq))) (sym (reply_is client seq s.history))
    ∙ ap (λ (e : ItemEnd). with_end client seq (told_by (kind_of plan.layout ops) (reply_of client seq s.history) refusal e)) (sym ended)

-- the end of a transaction isn't that of a loss
pub not_lost : (plan : Plan) (s : State) (client seq : ℕ) (ops : List Op) → item_of plan client seq ≡ Some (Run ops) → item_end plan s client seq ≡ ends.Lost → ⊥
not_lost plan s client seq ops is lost = by (answered_entry client seq s.history) (sym (ap (end_of s client seq) is) ∙ lost)
  where
    late : (b : Bool) → (if b then ends.Aborted else ends.Pending) ≡ ends.Lost → ⊥
    late true e = cc
    late false e = cc

    by : (o : Option HistoryEntry) → script_end o seq (client_at s client).seq ≡ ends.Lost → ⊥
    by (Some e) lost = cc
    by None lost = late (nat_lt seq (client_at s client).seq) lost

-- the same of a loss of the switch
abbrev pub loss_told_by : ItemEnd → Option PlainEnd
loss_told_by ends.Lost = Some Lost
loss_told_by ends.Pending = None
loss_told_by ends.Aborted = None
loss_told_by (ends.Committed stamp) = None

pub loss_item_told : (plan : Plan) (s : State) (client seq : ℕ) (end : ItemEnd) → item_of plan client seq ≡ Some Lose → end ≡ item_end plan s client seq
    → item_told plan s client seq ≡ with_end client seq (loss_told_by end)
loss_item_told plan s client seq end is ended =
    let whole = ap (end_of s client seq) is in
    ap (λ (e : ItemEnd). with_end client seq (told_by (kind_of plan.layout (script_at plan client seq)) (reply_to client seq s.history) (last_refusal client seq s.refusals) e)) whole
    ∙ by (nat_lt seq (client_at s client).seq)
    ∙ ap (λ (e : ItemEnd). with_end client seq (loss_told_by e)) (sym (ended ∙ whole))
  where
    by : (b : Bool) → with_end client seq (told_by (kind_of plan.layout (script_at plan client seq)) (reply_to client seq s.history) (last_refusal client seq s.refusals) (if b then ends.Lost else ends.Pending)) ≡ with_end client seq (loss_told_by (if b then ends.Lost else ends.Pending))
    by true = refl
    by false = refl

-- nothing is told of an item that isn't there
pub none_told : (plan : Plan) (s : State) (client seq : ℕ) → item_of plan client seq ≡ None → item_told plan s client seq ≡ []
none_told plan s client seq is = ap (λ (o : Option PlainItem). with_end client seq (told_by (kind_of plan.layout (script_at plan client seq)) (reply_to client seq s.history) (last_refusal client seq s.refusals) (end_of s client seq o))) is

-- items behind items
pub tells-append : (a b : List EndedItem) (before between after : List ℕ) (m n : ℕ) → Tells a before between m → Tells b between after n → Tells (a ++ b) before after (m + n)
tells-append a b before between after m n x y = record {
  lines = y.lines ∙ ap (λ (l : List ℕ). l ++ flat_map item_line b) x.lines ∙ append_assoc before (flat_map item_line a) (flat_map item_line b) ∙ ap (λ (l : List ℕ). before ++ l) (sym (flat_map-append item_line a b));
  many = omega (arith, x.many, y.many, length-append a b);
}

-- one number more
range_more : (a n : ℕ) → range_with_len a (suc n) ≡ range_with_len a n ++ (a + n) ∷ []
range_more a zero = ap (λ (k : ℕ). k ∷ []) {x = a} {y = a + 0} (omega arith)
range_more a (suc n) = ap (λ (l : List ℕ). a ∷ l) (range_more (a + 1) n) ∙ ap (λ (k : ℕ). a ∷ (range_with_len (a + 1) n ++ k ∷ [])) {x = (a + 1) + n} {y = a + suc n} (omega arith)

pub one_more : {X : Type 0} (f : ℕ → List X) (a n k : ℕ) → k ≡ a + n → flat_map f (range_with_len a (n + 1)) ≡ flat_map f (range_with_len a n) ++ f k
one_more {X} f a n k is =
    ap (λ (m : ℕ). flat_map f (range_with_len a m)) {x = n + 1} {y = suc n} (omega arith)
    ∙ ap (flat_map f) (range_more a n ∙ ap (λ (m : ℕ). range_with_len a n ++ m ∷ []) (sym is))
    ∙ flat_map-append f (range_with_len a n) (k ∷ []) ∙ ap (λ (l : List X). flat_map f (range_with_len a n) ++ l) (append-nil (f k))

-- one entry more
pub entry_more : (h : History) (i : ℕ) (e : HistoryEntry) (old now new : List ℕ) → slice_get h i ≡ Some e → now ≡ old ++ flat_map entry_line (map (λ e. e.entry) (take i h)) → new ≡ now ++ entry_line e.entry
    → new ≡ old ++ flat_map entry_line (map (λ e. e.entry) (take (i + 1) h))
entry_more h i e old now new at done one =
    one ∙ ap (λ (l : List ℕ). l ++ entry_line e.entry) done ∙ append_assoc old (flat_map entry_line (map (λ e. e.entry) (take i h))) (entry_line e.entry)
    ∙ ap (λ (l : List ℕ). old ++ l) (sym (longer h i at) ∙ ap (λ (n : ℕ). flat_map entry_line (map (λ e. e.entry) (take n h))) {x = suc i} {y = i + 1} (omega arith))
  where
    same : (a b : HistoryEntry) → Some a ≡ Some b → a ≡ b
    same a b eq = cc

    longer : (l : History) (k : ℕ) → slice_get l k ≡ Some e → flat_map entry_line (map (λ e. e.entry) (take (suc k) l)) ≡ flat_map entry_line (map (λ e. e.entry) (take k l)) ++ entry_line e.entry
    longer [] k g = cc
    longer (f ∷ l) zero g = append-nil (entry_line f.entry) ∙ ap (λ (x : HistoryEntry). entry_line x.entry) (same f e g)
    longer (f ∷ l) (suc k) g = ap (λ (t : List ℕ). entry_line f.entry ++ t) (longer l k g) ∙ sym (append_assoc (entry_line f.entry) (flat_map entry_line (map (λ e. e.entry) (take k l))) (entry_line e.entry))
