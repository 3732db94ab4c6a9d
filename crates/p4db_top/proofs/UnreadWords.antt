-- What stands behind the note of words that were not read as a command.
use Rattle.std.proofs.Common.{◌≡◌, ◌⊎◌, ℕ, List, [], Option, Some, None, Result, Err, inl, inr, refl, sym, ap, subst, ◌∙◌, arith}
use Rattle.port_io.specs.ReadAll.{TakesWithin}
use Rattle.fabric_core.specs.Racks.{Rack}
use Rattle.words_cli.specs.Answers.{Answers}
use Rattle.words_cli.specs.declared.command.Command.{Command}
use Rattle.words_cli.specs.declared.command.Command.TheVariants.{Run, Race, Recover, Hot, Layout, Gen, Drive}
use Rattle.words_cli.specs.declared.command.WordFault.{WordFault}
use Rattle.words_cli.specs.declared.command.WordFault.TheVariants as words
use Rattle.p4db_top.specs.declared.note.Note.{Note}
use Rattle.p4db_top.specs.declared.note.Note.TheVariants.{Usage, NoMemory}
use Rattle.p4db_top.specs.Commands.{ExplainsBy, ExplainsWords}
use Rattle.p4db_top.specs.Headline.{most_input}

nothing_taken : (left : Option (List ℕ)) → TakesWithin most_input left left
nothing_taken None = ([], omega arith, tt)
nothing_taken (Some bytes) = ([], omega arith, refl)

no_memory_by : (command : Command) (left before : Option (List ℕ)) (rack : Rack) → ExplainsBy command NoMemory left left before before rack rack
no_memory_by (Run draws) left before rack = inl (nothing_taken left, refl, refl)
no_memory_by (Race threads) left before rack = inl (nothing_taken left, refl, refl)
no_memory_by Recover left before rack = inl (nothing_taken left, refl)
no_memory_by (Hot k) left before rack = inl (nothing_taken left, refl)
no_memory_by (Layout k) left before rack = inl (nothing_taken left, refl)
no_memory_by (Gen work) left before rack = inl refl
no_memory_by (Drive work) left before rack = inl (refl, refl)

unread_by : (wanted : Option Command) (note : Note) (left before : Option (List ℕ)) (rack : Rack) → (note ≡ Usage → wanted ≡ None) → (note ≡ Usage) ⊎ (note ≡ NoMemory) → ExplainsWords wanted note left left before before rack rack
unread_by None note left before rack none either = either
unread_by (Some command) note left before rack none (inl is) = let clash = none is in cc
unread_by (Some command) note left before rack none (inr is) = subst (λ (n : Note). ExplainsBy command n left left before before rack rack) (sym is) (no_memory_by command left before rack)

refused : (wanted : Option Command) (result : Result Command WordFault) (fault : WordFault) → Answers wanted result → result ≡ Err fault → fault ≡ words.Usage → wanted ≡ None
refused wanted result fault answers is usage = subst (Answers wanted) (is ∙ ap Err usage) answers

pub unread_words : (wanted : Option Command) (result : Result Command WordFault) (fault : WordFault) (note : Note) (left before : Option (List ℕ)) (rack : Rack)
    → Answers wanted result → result ≡ Err fault → (note ≡ Usage → fault ≡ words.Usage) → (note ≡ Usage) ⊎ (note ≡ NoMemory) → ExplainsWords wanted note left left before before rack rack
unread_words wanted result fault note left before rack answers is usage either = unread_by wanted note left before rack (λ n. refused wanted result fault answers is (usage n)) either
