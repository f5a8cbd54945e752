-- The invariant holds before the first event.
use Rattle.law_names.proofs.Runs.{Monitors, first_world}
use Rattle.law_names.proofs.Table.{booting, empty}
use Rattle.log_copies.proofs.Standing.{Agrees}
use Rattle.log_model.proofs.Holds.{holds_nothing}
use Rattle.quorum_agreement.proofs.Invariant.{LogHolds}
use Rattle.quorum_laws.proofs.Beginning as beginning
use Rattle.std.proofs.Common.{[], arith, inl, ℕ}

nothing_yet : (i : ℕ) → Agrees [] empty (booting i)
nothing_yet i = inl (record { last = 0; versions = record { within = omega arith; last = (let h = holds_nothing in h.last); folded = (let h = holds_nothing in h.folded) }; unmarked = beginning.unmarked_at_first })

pub at_first : (ms : Monitors) → LogHolds ms first_world
at_first ms = (
  beginning.at_first ms,
  record {
    short = omega arith;
    values = λ v lt. absurd (omega arith);
    chosen = λ v lt. absurd (omega arith);
    made = λ i v p x a. let k = (beginning.at_first ms).triples.kept i v p x a in let lt = k.among.1 in absurd (omega arith);
    asks = λ v lt. absurd (omega arith);
    stores = λ i lt. nothing_yet i;
    sent = tt;
  },
)
