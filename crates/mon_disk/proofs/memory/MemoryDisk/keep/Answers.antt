use Rattle.std.proofs.Common.{rules, ◌≡◌, ◌≤◌, true, length, sym, ◌∙◌, subst}
use Rattle.mon_disk.specs.declared.disk.DiskCall.TheVariants.{Sync}
use Rattle.mon_disk.specs.Memory.{Lived}
use Rattle.mon_disk.specs.MemoryDisk.{and_call, fails}
use Rattle.mon_disk.specs.Holding.{HoldingState, Holds, failed_on}
use Rattle.mon_disk.proofs.Holds.{fails_is, holds_failed}
use Rattle.mon_disk.proofs.memory.MemoryDisk.keep.Goals as goal

pub invariant_of-self : goal.invariant_of-self
invariant_of-self c =
    let held = c.self.inside.held in
    let life = c.self.inside.history.lives.life in
    let holds = c.self.invariant.0 in
    let over : fails life ≡ true = sym (fails_is held life holds) ∙ sym c.fails.ensures ∙ c.if-fails.true in
    let new : c.count.new.self ≡ failed_on held = search rules in
    let next : c.then-self-inside.result.lives.life ≡ and_call Sync life = search rules in
    let whole = subst (λ (h : HoldingState). Holds h (and_call Sync life) × (c.self.inside.known ≤ length h.bytes)) (sym new) (holds_failed held life holds over, c.self.invariant.1) in
    subst (λ (l : Lived). Holds c.count.new.self l × (c.self.inside.known ≤ length c.count.new.self.bytes)) (sym next) whole
