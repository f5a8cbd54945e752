-- The streams of a run.
use Rattle.std.specs.Prelude.{◌≡◌, ℕ, List, Option}
use Rattle.stopped_stores.specs.Texts.{Stream}

-- The state of the streams before a run or after it: what the source has left and what the sink holds, if the prover
-- can see it, and their counts of faults. Of the standard streams no bytes are known.
pub record Outside : Type 0 where
  pub left : Option (List ℕ)
  pub held : Option (List ℕ)
  pub read_faults : ℕ
  pub write_faults : ℕ

abbrev pub source_of : Outside → Stream
source_of o = record { bytes = o.left; faults = o.read_faults }

abbrev pub sink_of : Outside → Stream
sink_of o = record { bytes = o.held; faults = o.write_faults }

-- nothing was written, or tried to be
abbrev pub WroteNothing : Outside → Outside → Type 0
WroteNothing before after = (after.held ≡ before.held) × (after.write_faults ≡ before.write_faults)

-- nothing was read, or tried to be
abbrev pub ReadNothing : Outside → Outside → Type 0
ReadNothing before after = (after.left ≡ before.left) × (after.read_faults ≡ before.read_faults)
