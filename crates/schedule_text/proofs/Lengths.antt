-- How many digits a number has, and the digit of 1.
use Rattle.std.proofs.Common.{◌≡◌, ℕ, ◌+◌, ◌^◌, ◌/◌, ◌<◌, ◌≤◌, length, length-append, ap, ◌∙◌, arith, lit<}
use Rattle.std.specs.Fmt.{decimal}
use Rattle.std.proofs.lemmas.Fmt.{decimal_digit, decimal_step, length-decimal-le}

pub one_digit : (n : ℕ) → n < 10 → length (decimal n) ≡ 1
one_digit n lt = ap length (decimal_digit n lt)

pub more_digits : (n : ℕ) → 10 ≤ n → n < 2 ^ 64 → length (decimal n) ≡ 1 + length (decimal (n / 10))
more_digits n ge small = ap length (decimal_step n ge small) ∙ simp length-append (omega arith)

pub at_most_20_digits : (n : ℕ) → n < 2 ^ 64 → length (decimal n) ≤ 20
at_most_20_digits n small = length-decimal-le 20 n (lit< tt) (omega arith) small
