-- Lock words: who holds one tuple, and in which mode.
use Rattle.std.specs.Prelude.{ℕ, ◌==◌, ◌&&◌, ◌||◌, Bool, Option, Some, None, if◌then◌else◌, nat_lt, refl}
use Rattle.std.specs.Coded.{Coded, code_by, coded×, coded_ℕ}
use Rattle.std.specs.Int.{bit_at}
use Rattle.host_locks.specs.Conflict.{stops}
use Rattle.host_locks.specs.declared.mode.Mode.{Mode}
use Rattle.host_locks.specs.declared.mode.Mode.TheVariants.{Shared, Exclusive}

-- bit c of the sharers is set where client c holds the tuple shared; the owner holds it alone, and is 255 where there is none
pub record PlainWord : Type 0 where
  pub sharers : ℕ
  pub owner : ℕ

-- the sharers are a byte; a word with an owner has none, and the owner is below 8 or 255
abbrev pub is_word : PlainWord → Bool
is_word word = nat_lt word.sharers 256 && ((word.owner == 255) || (nat_lt word.owner 8 && (word.sharers == 0)))

abbrev pub coded_word : Coded PlainWord
coded_word = code_by (ℕ × ℕ) (coded× coded_ℕ coded_ℕ) (λ w. (w.sharers, w.owner)) (λ n. record { sharers = n.0; owner = n.1 }) (λ _. refl)

-- the word of a tuple that no one holds
abbrev pub free_word : PlainWord
free_word = record { sharers = 0; owner = 255 }

-- the client holds the tuple alone; shared
abbrev pub is_owner : PlainWord → ℕ → Bool
is_owner word client = nat_lt client 8 && (client == word.owner)

abbrev pub is_sharer : PlainWord → ℕ → Bool
is_sharer word client = bit_at word.sharers client == 1

-- the mode in which the client holds the tuple; None where it doesn't
abbrev pub mode_in : PlainWord → ℕ → Option Mode
mode_in word client = if is_owner word client then Some Exclusive else if is_sharer word client then Some Shared else None

-- a client's lock stands in the way of one who asks for the tuple in this mode
abbrev pub stands_in : PlainWord → Mode → ℕ → Bool
stands_in word mode client = stops mode (mode_in word client)
