use Rattle.std.proofs.Common.{[], ◌∷◌, sym, subst}
use Rattle.std.specs.Result.{result_err}
use Rattle.mon_disk.specs.declared.disk.DiskCall.TheVariants.{Write}
use Rattle.mon_disk.specs.Images.{TornFrom}
use Rattle.mon_disk.specs.Calls.{Called}
use Rattle.mon_disk.specs.MemoryDisk.{MemoryState, content_of, state_of}
use Rattle.mon_disk.proofs.Answers.{write_called}
use Rattle.mon_disk.proofs.memory.MemoryDiskDisk.write_at.Goals as goal

pub returns-clause-call : goal.returns-clause-call
returns-clause-call c =
    let d = c.args.self.now in
    let at = c.args.at in
    let bytes = c.args.bytes.now in
    let stop = result_err c.write.result in
    subst
    (λ (new : MemoryState). Called (Write at bytes ∷ []) (TornFrom (content_of d.past d.life) at bytes) stop (state_of d) (state_of new))
    (sym c.write.ensures.state)
    (write_called d at bytes stop c.write.ensures.right)
