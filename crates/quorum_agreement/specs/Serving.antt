-- What clients of a quorum can rely on.
use Rattle.std.specs.Prelude.{ℕ}
use Rattle.quorum_laws.specs.Leases.{LeasesHold}
use Rattle.quorum_model.specs.Kept.{Kept}
use Rattle.quorum_model.specs.Safe.{OneActive}
use Rattle.quorum_model.specs.Shown.{Fence, Shown}
use Rattle.quorum_model.specs.World.{World}

-- What was acknowledged is kept, and what is shown is the one log's.
abbrev pub KeptAndShown : ℕ → World → Type 0
KeptAndShown n w = Kept n w × Shown w

-- No epoch has two active leaders; a lease is given by a leader that has its whole quorum, to peons that have committed all that they
-- accepted; and the monitor of a read after an acknowledgement, in its epoch, has the acknowledged version.
abbrev pub Fenced : ℕ → World → Type 0
Fenced n w = OneActive w × LeasesHold n w × Fence w
