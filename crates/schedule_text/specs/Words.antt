-- The words of schedules.
use Rattle.std.specs.Prelude.{ℕ, Bool, ◌&&◌, List, codes, nat_le}
use Rattle.mon_types.specs.declared.names.Side.{Side}
use Rattle.mon_types.specs.declared.names.Side.TheVariants.{A, B}
use Rattle.mon_wire.specs.declared.phase.Timer.{Timer}
use Rattle.mon_wire.specs.declared.phase.Timer.TheVariants.{Probe, Election, Collect, Accept, Renew, LeaseAck, Lease, Sync, Step, Propose, Ping}
use Rattle.mon_wire.specs.declared.request.Service.{Service}
use Rattle.mon_wire.specs.declared.request.Service.TheVariants.{Kv, Log}

-- a space or a graphic byte
abbrev pub printable : ℕ → Bool
printable b = nat_le 32 b && nat_le b 126

abbrev pub service_text : Service → List ℕ
service_text Kv = codes "kv"
service_text Log = codes "log"

abbrev pub side_text : Side → List ℕ
side_text A = codes "a"
side_text B = codes "b"

abbrev pub timer_text : Timer → List ℕ
timer_text Probe = codes "probe"
timer_text Election = codes "election"
timer_text Collect = codes "collect"
timer_text Accept = codes "accept"
timer_text Renew = codes "renew"
timer_text LeaseAck = codes "leaseack"
timer_text Lease = codes "lease"
timer_text Sync = codes "sync"
timer_text Step = codes "step"
timer_text Propose = codes "propose"
timer_text Ping = codes "ping"
