-- In a sound session a read has no needs.
use Rattle.std.proofs.Common.{◌≡◌, ℕ, ◌+◌, ◌||◌, List, [], ◌∷◌, Bool, true, false, not, Some, None, nat_lt, if◌then◌else◌, refl, ◌∙◌}
use Rattle.std.proofs.lemmas.List.Elements.{recursion_from_All}
use Rattle.std.specs.List.{All, AllByRecursion, list_any}
use Rattle.txn_model.specs.Needs.{needs_list}
use Rattle.txn_model.specs.ScriptCheck.{is_read, uses_badly}
use Rattle.txn_model.specs.declared.op.Need.{Need}
use Rattle.txn_model.specs.declared.op.Op.{Op}
use Rattle.txn_model.proofs.FirstPlaces.{bad_use_from, first_bad_use_counted}
use Rattle.catalogue.specs.Plan.{Plan, PlainItem, Run, Lose}
use Rattle.catalogue.specs.Sound.{IsFitItem}
use Rattle.session_text.specs.Typed.{IsTypedOp, IsTypedItem}
use Rattle.session_text.proofs.ReadsBack.{ReadsAlone, IsReadable}
use Rattle.session_text.proofs.ScriptsBack.{keeps}

no_needs : (reads : Bool) (k : ℕ) (needs : List Need) → list_any (λ n. reads || not (nat_lt n.from k)) needs ≡ false → reads ≡ true → needs ≡ []
no_needs reads k [] good is = refl
no_needs true k (n ∷ ns) good is = cc good
no_needs false k (n ∷ ns) good is = cc is

reads_alone : (k : ℕ) (ops : List Op) → bad_use_from k ops ≡ None → AllByRecursion ReadsAlone ops
reads_alone k [] h = tt
reads_alone k (op ∷ ops) h =
    elim (uses_badly k op) as (λ b. uses_badly k op ≡ b → (if b then Some k else bad_use_from (k + 1) ops) ≡ None → AllByRecursion ReadsAlone (op ∷ ops)) [
      | true ↦ λ bad h. cc h
      | false ↦ λ good h. (no_needs (is_read op.act) k (needs_list op.needs) good, reads_alone (k + 1) ops h)
    ] refl h

both : {A : Type 0} (P Q : A → Type 0) (xs : List A) → AllByRecursion P xs → AllByRecursion Q xs → AllByRecursion (λ x. P x × Q x) xs
both P Q [] p q = tt
both P Q (x ∷ xs) p q = ((p.0, q.0), both P Q xs p.1 q.1)

item_readable : (plan : Plan) (item : PlainItem) → IsFitItem plan item → IsTypedItem item → IsReadable item
item_readable plan (Run ops) fit typed = both IsTypedOp ReadsAlone ops typed (reads_alone 0 ops (first_bad_use_counted ops ∙ (keeps ops fit.script).earlier))
item_readable plan Lose fit typed = tt

client_readable : (plan : Plan) (items : List PlainItem) → AllByRecursion (IsFitItem plan) items → AllByRecursion IsTypedItem items → AllByRecursion IsReadable items
client_readable plan [] fit typed = tt
client_readable plan (item ∷ items) fit typed = (item_readable plan item fit.0 typed.0, client_readable plan items fit.1 typed.1)

clients_readable : (plan : Plan) (clients : List (List PlainItem)) → AllByRecursion (All (IsFitItem plan)) clients → AllByRecursion (AllByRecursion IsTypedItem) clients
    → AllByRecursion (AllByRecursion IsReadable) clients
clients_readable plan [] fit typed = tt
clients_readable plan (items ∷ clients) fit typed =
    (client_readable plan items (recursion_from_All (IsFitItem plan) items fit.0) typed.0, clients_readable plan clients fit.1 typed.1)

-- the items of a sound session are read as they were written
pub sound_items : (plan : Plan) → All (All (IsFitItem plan)) plan.clients → AllByRecursion (AllByRecursion IsTypedItem) plan.clients → AllByRecursion (AllByRecursion IsReadable) plan.clients
sound_items plan fit typed = clients_readable plan plan.clients (recursion_from_All (All (IsFitItem plan)) plan.clients fit) typed
