use Rattle.std.proofs.Common.{◌+◌, ◌≤◌, ◌^◌, ℕ, refl, arith}
use Rattle.mon_wire.proofs.BodyLengths.{length-message}
use Rattle.mon_wire.specs.Message.Whole.{HasText, IsMessage}
use Rattle.map_follower.specs.Iterations.{request_of}
use Rattle.map_follower.specs.declared.follower.Follower.{Follower}
use Rattle.map_follower.proofs.asking.request_of.Goals as goal

is_message : (n asks : ℕ) (f : Follower) → 1 ≤ n → n ≤ 15 → asks + 1 ≤ 2 ^ 62 → f.version ≤ 2 ^ 62 → IsMessage (request_of n asks f)
is_message n asks f least most few low = record {
  sender = omega (arith, least);
  monitors = most;
  epoch = omega arith;
  asks = λ _. (refl, refl);
  body = (few, (tt, low));
}

-- it has few bytes
has_text : (n asks : ℕ) (f : Follower) → 1 ≤ n → n ≤ 15 → asks + 1 ≤ 2 ^ 62 → f.version ≤ 2 ^ 62 → HasText (request_of n asks f)
has_text n asks f least most few low =
    let form = is_message n asks f least most few low in
    record { form = form; short = omega (arith, length-message (request_of n asks f) form) }

pub returns-clause-text : goal.returns-clause-text
returns-clause-text c =
    rw (c.known.ensures, c.known-2.ensures, c.ask.ensures.value) (has_text c.args.monitors c.args.asks c.args.follower.now c.requires.least c.requires.most c.requires.asks c.ask.ensures.most)
