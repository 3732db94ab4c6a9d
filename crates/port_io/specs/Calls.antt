-- The calls of an object, of which some are to fail.
use Rattle.std.specs.Prelude.{ℕ, ◌+◌, Bool, List, ◌==◌, if◌then◌else◌}
use Rattle.std.specs.List.{list_any}
use Rattle.port_io.specs.Cause.{count_on}

-- the numbers of the calls that are to fail, how many calls there were, and how many of those failed
pub record CallCount : Type 0 where
  pub fails : List ℕ
  pub made : ℕ
  pub failed : ℕ

-- before the first call
abbrev pub no_calls : List ℕ → CallCount
no_calls fails = record { fails = fails; made = 0; failed = 0 }

-- the number of the next call
abbrev pub next_number : CallCount → ℕ
next_number calls = count_on calls.made

-- whether the next call fails
abbrev pub next_fails : CallCount → Bool
next_fails calls = list_any (λ number. number == next_number calls) calls.fails

-- after the next call, where that did not fail
abbrev pub after_success : CallCount → CallCount
after_success calls = record { fails = calls.fails; made = next_number calls; failed = calls.failed }

-- after the next call
abbrev pub after_next : CallCount → CallCount
after_next calls = record {
  fails = calls.fails;
  made = next_number calls;
  failed = (if next_fails calls then calls.failed + 1 else calls.failed);
}
