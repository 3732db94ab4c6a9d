-- Numbers and keys that are drawn from the words of a generator, which is `Lcg64Xsh32` seeded by a number.
use Rattle.std.specs.Prelude.{ℕ, ◌+◌, ◌-◌, ◌%◌, ◌==◌, ◌||◌, nat_lt, if◌then◌else◌}
use Rattle.rand_core.specs.Stream.{Stream, next_u32}
use Rattle.rand_core.specs.Steps.{stream_of, steps_u32}
use Rattle.rand_core.specs.Pcg32Seed.{pcg32_seed}
use Rattle.rand_pcg.specs.Lcg.{Lcg}
use Rattle.rand_pcg.specs.Pcg.{pcg32, pcg32_of_seed}

-- the words that a generator will still give
abbrev pub Words : Type 0
Words = Stream

-- the generator that is seeded by a number
abbrev pub seeded : ℕ → Lcg
seeded number = pcg32_of_seed (pcg32_seed 16 number)

-- all words that a generator will give
abbrev pub words_of : Lcg → Words
words_of dice = stream_of (steps_u32 pcg32) dice

-- a number below n, and the words that are left: the next word modulo n
abbrev pub draw : ℕ → Words → ℕ × Words
draw n words = ((next_u32 words).0 % n, (next_u32 words).1)

-- a number from `from` on, below n
abbrev pub draw_between : ℕ → ℕ → Words → ℕ × Words
draw_between from n words = (from + (draw (n - from) words).0, (draw (n - from) words).1)

-- a key below n, where d was drawn below 100: it is below `hot` where d is below `share`, and else it is another one;
-- where no key or each is hot, it is any
abbrev pub key_by : ℕ → ℕ → ℕ → ℕ → Words → ℕ × Words
key_by d n hot share words =
    if hot == 0 || hot == n then draw n words else
    (if nat_lt d share then draw hot words else draw_between hot n words)

-- a key below n, of which the first `hot` are taken `share` times out of 100
unfoldable pub key : ℕ → ℕ → ℕ → Words → ℕ × Words
key n hot share words = let d = draw 100 words in key_by d.0 n hot share d.1
