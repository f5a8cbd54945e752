use Rattle.std.proofs.Common.{◌≡◌, ◌++◌, take}
use Rattle.std.specs.List.{flat_map}
use Rattle.mon_hello.specs.Formats.{address_text}
use Rattle.mon_hello.proofs.encode.put_addresses.Given as goal

abbrev pub invariant-loop-address : goal.invariant-loop-address
invariant-loop-address l = l.out ≡ l.fn.out ++ flat_map address_text (take l.address-index l.addresses)
