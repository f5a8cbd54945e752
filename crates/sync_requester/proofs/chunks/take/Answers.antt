use Rattle.std.proofs.Common.{◌≡◌, ◌+◌, ◌≤◌, ◌^◌, ◌++◌, suc, length, List, Result, Err, refl, sym, ap, subst, ◌∙◌, arith}
use Rattle.std.proofs.lemmas.Result.{err_from_is_err_and}
use Rattle.mon_msg.specs.Protocol.Changes.{encoded}
use Rattle.mon_msg.specs.declared.plan.RoleStop.{RoleStop}
use Rattle.mon_plan.proofs.Learning.{above}
use Rattle.mon_tx.specs.declared.op.Op.{Op}
use Rattle.mon_wire.specs.declared.parts.Place.{Place}
use Rattle.sync_requester.specs.Copied.{Takes, copied}
use Rattle.sync_requester.specs.declared.chunks.Taken.{Taken}
use Rattle.sync_requester.proofs.ChunkLaws.{take-spent, taken-fails, taken-is}
use Rattle.sync_requester.proofs.chunks.take.Goals as goal

pub returns-in_default : goal.returns-in_default
returns-in_default c =
    λ x role.
    let p = c.args.chunk.now.place.now in
    let values = c.args.chunk.now.values.now in
    take-spent c.args.state.now p values c.args.chunk.now.entries.now c.args.done x
    (above (p.version + length values) (2 ^ 62) (λ le. c.in_default.ensures.valid.1 (omega (arith, le, c.get.ensures.value))))

pub returns-in_err-write : goal.returns-in_err-write
returns-in_err-write c =
    let p = c.args.chunk.now.place.now in
    let values = c.args.chunk.now.values.now in
    let version : c.in-Some.version ≡ p.version + length values = omega (arith, c.in-Some.ensures.value, c.get.ensures.value) in
    let short : p.version + length values ≤ 2 ^ 62 = (let le = c.in-Some.ensures.valid.0 refl in omega (arith, le, c.get.ensures.value)) in
    let behind : c.get-from.result + 1 ≡ suc p.version = omega (arith, c.get-from.ensures.value) in
    let failed = err_from_is_err_and c.from_residual.result c.from_residual.ensures.1 in
    subst (λ (r : Result Taken RoleStop). Takes c.args.state.now p values c.args.chunk.now.entries.now c.args.done r) (sym (failed.1 ∙ ap Err failed.2))
    (taken-fails c.args.state.now p values c.args.chunk.now.entries.now c.args.done (c.get-from.result + 1) behind short c.in_err-write.field-0.0 c.in_err-write.ensures.copy)

pub returns : goal.returns
returns c =
    let s = c.args.state.now in
    let p = c.args.chunk.now.place.now in
    let values = c.args.chunk.now.values.now in
    let from = c.get-from.result + 1 in
    let version : c.in-Some.version ≡ p.version + length values = omega (arith, c.in-Some.ensures.value, c.get.ensures.value) in
    let short : p.version + length values ≤ 2 ^ 62 = (let le = c.in-Some.ensures.valid.0 refl in omega (arith, le, c.get.ensures.value)) in
    let behind : c.get-from.result + 1 ≡ suc p.version = omega (arith, c.get-from.ensures.value) in
    let place : Place = record { version = c.in-Some.version; key = c.in_ok-key.key } in
    taken-is s p values c.args.chunk.now.entries.now c.args.done from behind short c.in_ok-write.ensures.copy c.in_ok-write.ensures.fit c.write.new.tx
    (c.in_ok-write.ensures.changes ∙ ap (λ (tx : List Op). tx ++ encoded (copied s.full from values c.args.chunk.now.entries.now)) c.new-tx.ensures)
    place (λ i. record { version = version i; key = c.in_ok-key.ensures i })
