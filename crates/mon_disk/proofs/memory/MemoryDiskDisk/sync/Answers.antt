use Rattle.std.proofs.Common.{[], ◌∷◌, sym, subst}
use Rattle.std.specs.Result.{result_err}
use Rattle.mon_disk.specs.declared.disk.DiskCall.TheVariants.{Sync}
use Rattle.mon_disk.specs.Images.{images}
use Rattle.mon_disk.specs.Calls.{Called}
use Rattle.mon_disk.specs.MemoryDisk.{MemoryState, content_of, state_of}
use Rattle.mon_disk.proofs.Answers.{sync_called}
use Rattle.mon_disk.proofs.memory.MemoryDiskDisk.sync.Goals as goal

pub returns-clause-call : goal.returns-clause-call
returns-clause-call c =
    let d = c.args.self.now in
    let stop = result_err c.keep.result in
    subst
    (λ (new : MemoryState). Called (Sync ∷ []) (images (content_of d.past d.life)) stop (state_of d) (state_of new))
    (sym c.keep.ensures.state)
    (sync_called d stop c.keep.ensures.right)
