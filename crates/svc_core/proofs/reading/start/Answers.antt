use Rattle.std.proofs.Common.{◌≡◌, ◌-◌, sym, arith}
use Rattle.mon_msg.specs.Protocol.Services.{service_last}
use Rattle.mon_msg.specs.Protocol.Readings.{readings_of}
use Rattle.svc_core.proofs.Starts.{read-full, reaches-full, read-empty, reaches-empty}
use Rattle.svc_core.proofs.reading.start.Goals as goal

pub returns-in-Some-clause-read : goal.returns-in-Some-clause-read
returns-in-Some-clause-read c = rw c.full_latest.ensures.value (read-full (readings_of c.args.kv.now) c.args.service c.in-Some.map (sym (rw c.in-Some.is at c.in_ok-map.ensures.map)))

pub returns-in-Some-clause-reaches : goal.returns-in-Some-clause-reaches
returns-in-Some-clause-reaches c = rw c.full_latest.ensures.value (reaches-full (readings_of c.args.kv.now) c.args.service c.in-Some.map (sym (rw c.in-Some.is at c.in_ok-map.ensures.map)))

pub returns-in-None-clause-read : goal.returns-in-None-clause-read
returns-in-None-clause-read c =
    let all : service_last (readings_of c.args.kv.now) c.args.service - 0 ≡ service_last (readings_of c.args.kv.now) c.args.service = omega arith in
    rw (all, c.empty_map.ensures.map) (read-empty (readings_of c.args.kv.now) c.args.service (sym (rw c.in-None.is at c.in_ok-map.ensures.map)))

pub returns-in-None-clause-reaches : goal.returns-in-None-clause-reaches
returns-in-None-clause-reaches c =
    let all : service_last (readings_of c.args.kv.now) c.args.service - 0 ≡ service_last (readings_of c.args.kv.now) c.args.service = omega arith in
    rw (all, c.empty_map.ensures.map) (reaches-empty (readings_of c.args.kv.now) c.args.service (sym (rw c.in-None.is at c.in_ok-map.ensures.map)))
