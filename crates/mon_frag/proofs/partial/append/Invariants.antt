use Rattle.std.proofs.Common.{◌≡◌, [], ◌++◌, take, unwrap_or}
use Rattle.std.specs.List.{flat_map}
use Rattle.mon_frag.proofs.partial.append.Given as goal

abbrev pub invariant-loop-part : goal.invariant-loop-part
invariant-loop-part l = l.whole.items ≡ l.initial.whole.items ++ flat_map (λ part. unwrap_or part []) (take l.part-index l.parts)
