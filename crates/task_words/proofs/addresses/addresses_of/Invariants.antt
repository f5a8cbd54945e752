use Rattle.std.proofs.Common.{◌≡◌}
use Rattle.task_words.specs.Addresses.{address_of, addresses_of}
use Rattle.task_words.proofs.PartsLoop.{left, with_front}
use Rattle.task_words.proofs.addresses.addresses_of.Given as goal

abbrev pub invariant-loop-rank : goal.invariant-loop-rank
invariant-loop-rank l = with_front l.addresses (left _ 44 address_of l.monitors l._rank l.parts) ≡ addresses_of l.monitors l.text
