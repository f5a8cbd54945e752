use Rattle.std.proofs.Common.{ℕ, ◌+◌, ◌-◌, length, ap, arith}
use Rattle.mon_msg.specs.Protocol.Readings.{readings_of}
use Rattle.mon_msg.specs.Protocol.Services.{read_map}
use Rattle.mon_wire.specs.declared.request.Service.TheVariants as service
use Rattle.svc_core.proofs.Drafting.{set_fits}
use Rattle.svc_core.proofs.DraftSizes.{name_length}
use Rattle.svc_core.proofs.made.sure_set.Goals as goal

pub returns-clause-made : goal.returns-clause-made
returns-clause-made c =
    let room : ℕ = 393216 - (length c.as_slice-2.result.now + length c.as_slice.result.now + 5) in
    let key = name_length c.in-Set.key c.as_slice-2.ensures.form in
    let same_key = ap length c.as_slice-2.ensures.value in
    let same_value = ap length c.as_slice.ensures.value in
    rw (c.in-Set.is, c.in_ok-copy.ensures, c.in_ok-copy-2.ensures)
    (set_fits (read_map (readings_of c.args.kv.now) service.Kv) c.in-Set.key c.in-Set.value room (omega (arith, same_value, c.if-len-gt-MOST_KV_VALUE.false)) (omega (arith, key, same_key, same_value, c.if-len-gt-MOST_KV_VALUE.false))
    (c.in_ok-is_within.ensures c.if-not-branch.false))
