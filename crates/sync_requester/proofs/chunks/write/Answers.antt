use Rattle.std.proofs.Common.{◌≡◌, ◌++◌, Bool, List, Ok, sym, ap, subst, ◌∙◌}
use Rattle.mon_msg.specs.Protocol.Changes.{encoded}
use Rattle.mon_msg.specs.Protocol.Chunks.{copy, copy_changes}
use Rattle.mon_plan.specs.Plans.{changed}
use Rattle.mon_tx.specs.declared.op.Op.{Op}
use Rattle.sync_requester.specs.Copied.{copied}
use Rattle.sync_requester.proofs.ChunkLaws.{copies-whole, whole-encoded}
use Rattle.sync_requester.proofs.chunks.write.Goals as goal

pub returns-clause-copy : goal.returns-clause-copy
returns-clause-copy c =
    λ x.
    let values = c.args.chunk.now.values.now in
    let entries = c.args.chunk.now.entries.now in
    subst (λ (t : Bool). copy t c.args.from values entries x ≡ Ok (changed (copied t c.args.from values entries) x)) (sym c.if-not-full.false) (copies-whole c.args.from values entries x)

pub returns-clause-changes : goal.returns-clause-changes
returns-clause-changes c =
    let values = c.args.chunk.now.values.now in
    let entries = c.args.chunk.now.entries.now in
    subst (λ (t : Bool). c.put_copies.new.tx ≡ c.args.tx.now ++ encoded (copied t c.args.from values entries)) (sym c.if-not-full.false)
    (c.in_ok-put_copies.ensures.changes ∙ ap (λ (tx : List Op). tx ++ encoded (copy_changes entries)) c.in_ok-put_records.ensures.changes ∙ whole-encoded c.args.tx.now c.args.from values entries)
