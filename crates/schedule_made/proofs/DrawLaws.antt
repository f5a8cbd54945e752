-- A draw is below 2^32.
use Rattle.std.proofs.Common.{ℕ, ◌*◌, ◌-◌, ◌/◌, ◌%◌, ◌^◌, ◌<◌, bit_xor, arith}
use Rattle.std.proofs.Math.Nat.{div-le_self, mod-lt}
use Rattle.std.proofs.lemmas.Nat.{or_lt}
use Rattle.std.specs.Int.{w32, rotate_right}
use Rattle.rand_pcg.specs.Lcg.{Lcg}
use Rattle.schedule_made.specs.Draws.{drawn, draw, passed}

rotated_small : (n by : ℕ) → n < 2 ^ 32 → rotate_right w32 n by < 2 ^ 32
rotated_small n by small =
    let low : n / 2 ^ (by % 32) < 2 ^ 32 = omega (arith, div-le_self n (2 ^ (by % 32))) in
    or_lt 32 _ _ low (mod-lt (n * 2 ^ ((32 - by % 32) % 32)) (omega arith))

pub drawn_small : (g : Lcg) → (drawn g).0 < 2 ^ 32
unfolding drawn
drawn_small g = rotated_small _ _ (mod-lt (bit_xor (g.state / 2 ^ 18) g.state / 2 ^ 27) (omega arith))

pub draw_small : (k : ℕ) (g : Lcg) → draw k g < 2 ^ 32
draw_small k g = drawn_small (passed k g)
