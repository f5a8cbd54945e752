-- What a number draws.
use Rattle.std.specs.Prelude.{ℕ, zero, suc}
use Rattle.rand_core.specs.Pcg32Seed.{pcg32_seed}
use Rattle.rand_pcg.specs.Lcg.{Lcg}
use Rattle.rand_pcg.specs.Pcg.{pcg32, pcg32_of_seed}

-- the generator that is seeded with the number
unfoldable pub generator_of : ℕ → Lcg
generator_of number = pcg32_of_seed (pcg32_seed 16 number)

-- its next 32-bit output, and the generator after it
unfoldable pub drawn : Lcg → ℕ × Lcg
drawn g = pcg32 g

-- the generator after this many draws
abbrev pub passed : ℕ → Lcg → Lcg
passed zero g = g
passed (suc k) g = passed k (drawn g).1

-- draw k, counted from 0
abbrev pub draw : ℕ → Lcg → ℕ
draw k g = (drawn (passed k g)).0
