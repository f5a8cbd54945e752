-- The log of monitors that agree is one of values.
use Rattle.std.proofs.Common.{ℕ, ◌≤◌, List, arith}
use Rattle.quorum_model.specs.Agree.{IsAsked, Agree}
use Rattle.log_model.specs.LogOfValues.{IsValue, AllValues, view_at}
use Rattle.quorum_model.specs.Monitors.{Monitors}
use Rattle.quorum_model.specs.Runs.{run}
use Rattle.quorum_model.specs.Safe.{Safe}
use Rattle.quorum_model.specs.World.{World, Event}
use Rattle.log_model.proofs.Older.{older_itself}

module _ (n : ℕ) (most : n ≤ 15) (w : World) (agree : Agree n w) where
  is_value : (v : ℕ) (h : IsAsked n w.asked w.log v) → IsValue (view_at w.log v) h.ops
  is_value v h = record {
    command = h.command;
    form = h.form;
    asked = h.by.rank;
    rank = let r = h.rank in omega arith;
    newer = h.ops;
    made = h.made;
    encoded = older_itself h.ops;
  }

  all_values : AllValues w.log
  all_values v lt =
      let h = agree.values v lt in
      record { changes = h.ops; value = is_value v h; encodes = h.encodes }

pub safe_values : (ms : Monitors) (events : List Event) → Safe ms events → AllValues (run ms events).log
safe_values ms events safe = all_values ms.count ms.most (run ms events) safe.agree
