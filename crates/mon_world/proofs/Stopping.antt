-- Why a store that is in use stops the world.
use Rattle.std.proofs.Common.{◌≤◌, List, length, arith}
use Rattle.mon_site.specs.Ending.{StopsAt}
use Rattle.mon_store.specs.declared.stop.StoreStop.{StoreStop}
use Rattle.mon_store.specs.declared.stop.StoreStop.TheVariants as store
use Rattle.mon_tx.specs.Map.{Store}
use Rattle.mon_tx.specs.Text.{text, most}
use Rattle.mon_tx.specs.declared.op.Op.{Op}
use Rattle.mon_world.specs.Stops.{CanStop, IsntKept, stop_of}

pub can_stop : (m : Store) (ops : List Op) (e : StoreStop) → length (text ops) ≤ most → StopsAt m ops e → CanStop e
can_stop m ops store.Broken short h = absurd h
can_stop m ops (store.TooLong len) short h = omega arith
can_stop m ops (store.Full would_be) short h = tt
can_stop m ops store.DiskFault short h = absurd h
can_stop m ops store.OutOfMemory short h = tt

pub isnt_kept : (m : Store) (ops : List Op) (e : StoreStop) → CanStop e → StopsAt m ops e → IsntKept ops m (stop_of e)
isnt_kept m ops store.Broken can h = absurd can
isnt_kept m ops (store.TooLong len) can h = absurd can
isnt_kept m ops (store.Full would_be) can h = h
isnt_kept m ops store.DiskFault can h = absurd can
isnt_kept m ops store.OutOfMemory can h = tt
