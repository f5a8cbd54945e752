use Rattle.std.proofs.Common.{◌≡◌}
use Rattle.std.specs.Prelude.{is_ok}
use Rattle.task_words.specs.Addresses.{address_of, addresses_of}
use Rattle.task_words.proofs.PartsLoop.{left}
use Rattle.task_words.proofs.addresses.are_addresses.Given as goal

abbrev pub invariant-loop-rank : goal.invariant-loop-rank
invariant-loop-rank l = is_ok (left _ 44 address_of l.monitors l._rank l.parts) ≡ is_ok (addresses_of l.monitors l.text)
