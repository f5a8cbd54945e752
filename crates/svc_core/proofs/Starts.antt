-- Where a reading begins.
use Rattle.std.proofs.Common.{◌≡◌, suc, ◌-◌, Some, None, refl}
use Rattle.mon_msg.specs.Protocol.Maps.{empty_map}
use Rattle.mon_msg.specs.Protocol.Services.{service_last, full_latest, full_map, read_on, read_map}
use Rattle.mon_msg.specs.Protocol.Readings.{Readings}
use Rattle.mon_wire.specs.declared.reply.ShownMap.{ShownMap}
use Rattle.mon_wire.specs.declared.request.Service.{Service}
use Rattle.svc_core.specs.Onward.{goes_on, reaches_last}

module _ (w : Readings) (s : Service) where
  pub read-full : (m : ShownMap) → full_map w s ≡ Some m → read_map w s ≡ read_on w s (service_last w s - full_latest w s) (suc (full_latest w s)) m
  unfolding read_map
  read-full m e = rw e refl

  pub reaches-full : (m : ShownMap) → full_map w s ≡ Some m → reaches_last w s ≡ goes_on w s (service_last w s - full_latest w s) (suc (full_latest w s)) m
  unfolding reaches_last
  reaches-full m e = rw e refl

  pub read-empty : full_map w s ≡ None → read_map w s ≡ read_on w s (service_last w s) 1 (empty_map s)
  unfolding read_map
  read-empty e = rw e refl

  pub reaches-empty : full_map w s ≡ None → reaches_last w s ≡ goes_on w s (service_last w s) 1 (empty_map s)
  unfolding reaches_last
  reaches-empty e = rw e refl
