-- A monitor that crashes: what it writes is kept or lost.
use Rattle.std.proofs.Common.{◌≡◌, ℕ, Bool, true, false, cond, [], ◌∷◌, None, Ok, lit≤, refl}
use Rattle.std.specs.FinMap.{empty}
use Rattle.mon_types.specs.declared.names.Side.{Side}
use Rattle.mon_types.specs.declared.names.Side.TheVariants.{A, B}
use Rattle.mon_tx.specs.Map.{Store}
use Rattle.mon_msg.specs.Protocol.Reaction.{Reaction}
use Rattle.quorum_model.specs.Files.{no_files}
use Rattle.quorum_model.specs.Happens.{lost}
use Rattle.quorum_model.specs.Monitors.{classic}
use Rattle.quorum_model.specs.Runs.{run, ran_from}
use Rattle.quorum_model.specs.InjectedFaults.{crash_keeps, opening_count, stops, writes_nothing}
use Rattle.quorum_model.specs.World.{Crash, Start, first_world}

-- the first start of a monitor, in which a crash loses what it writes: its store stays empty, and it is down
lost_start : run (classic 1 (lit≤ tt)) (Crash (Start 0 0) false ∷ []) ≡ record first_world { state = λ j. cond (Rattle.std.specs.Prelude.nat_eq j 0) None None; events = 1 }
unfolding ran_from lost
lost_start = refl

-- whether a crash keeps the transaction of a first start, in which opening makes seven calls on disk a
module _ (m : Store) (r : Reaction) (runs : stops m (Ok r) ≡ false) (writes : writes_nothing (Ok r) ≡ false) where
  abbrev kept : Side → (call image : ℕ) → Bool
  kept disk call image = crash_keeps no_files m (opening_count disk no_files) (record { disk = disk; call = call; image = image }) (Ok r)

  -- the gate is written by the tenth call
  kept_start : kept A 10 1 ≡ true
  kept_start = rw (runs, writes) refl

  lost_gate : kept A 10 0 ≡ false
  lost_gate = rw (runs, writes) refl

  lost_record : kept A 9 1 ≡ false
  lost_record = rw (runs, writes) refl

  synced : kept A 12 0 ≡ true
  synced = rw (runs, writes) refl

  -- the other disk is only synced
  before_opening : kept B 1 1 ≡ false
  before_opening = rw (runs, writes) refl

  after_opening : kept B 2 0 ≡ true
  after_opening = rw (runs, writes) refl
