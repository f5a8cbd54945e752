use Rattle.mon_name.proofs.Frames.{apart, comes_off}
use Rattle.quorum_network.proofs.Wire.{handed_on, unmarked}
use Rattle.quorum_network.proofs.laws.law_wire.Goals as goal
use Rattle.std.proofs.Common.{List, Option, ap, inr, is_some, not, refl, ℕ}

pub returns : goal.returns
returns c = record {
  comes = λ tag lt net i gave result came hands. handed_on tag lt net i gave result came hands;
  others = λ tag other lt ne net i j bytes. inr (apart other tag bytes lt ne);
  unframed = λ tag mark ne net i j bytes. inr (unmarked tag mark bytes ne);
  never_dropped = λ tag lt j datagram. ap (λ (o : Option (List ℕ)). not (is_some o)) (comes_off tag datagram lt);
  to_monitor = λ tag number j bytes. refl;
  to_client = λ tag number k bytes. refl;
}
