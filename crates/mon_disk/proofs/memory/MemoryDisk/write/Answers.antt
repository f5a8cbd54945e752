use Rattle.std.proofs.Common.{rules, arith, ◌≡◌, ◌≤◌, ◌+◌, max, true, false, length, sym, ◌∙◌, subst}
use Rattle.mon_disk.specs.declared.disk.DiskCall.TheVariants.{Write}
use Rattle.mon_disk.specs.Memory.{Lived}
use Rattle.mon_disk.specs.MemoryDisk.{and_call, fails}
use Rattle.mon_disk.specs.Holding.{HoldingState, Holds, written_on, lost_on}
use Rattle.mon_disk.proofs.Writes.{length-overwritten}
use Rattle.mon_disk.proofs.Holds.{fails_is, holds_written, holds_lost}
use Rattle.mon_disk.proofs.memory.MemoryDisk.write.Goals as goal

pub invariant_of-self-then-fails : goal.invariant_of-self-then-fails
invariant_of-self-then-fails c =
    let held = c.self.inside.held in
    let life = c.self.inside.history.lives.life in
    let holds = c.self.invariant.0 in
    let at = c.args.at in
    let bytes = c.args.bytes.now in
    let over : fails life ≡ true = sym (fails_is held life holds) ∙ sym c.fails.ensures ∙ c.if-fails.true in
    let new : c.lose.new.self ≡ lost_on at bytes held = search rules in
    let next : c.then-self-inside.result.lives.life ≡ and_call (Write at bytes) life = search rules in
    let whole =
    subst
    (λ (h : HoldingState). Holds h (and_call (Write at bytes) life) × (c.self.inside.known ≤ length h.bytes))
    (sym new)
    (holds_lost held life at bytes holds over, c.self.invariant.1) in
    subst (λ (l : Lived). Holds c.lose.new.self l × (c.self.inside.known ≤ length c.lose.new.self.bytes)) (sym next) whole

pub invariant_of-self-2 : goal.invariant_of-self-2
invariant_of-self-2 c =
    let held = c.self.inside.held in
    let life = c.self.inside.history.lives.life in
    let holds = c.self.invariant.0 in
    let at = c.args.at in
    let bytes = c.args.bytes.now in
    let sound : fails life ≡ false = sym (fails_is held life holds) ∙ sym c.fails.ensures ∙ c.if-fails.false in
    let known : c.args.self.now.known ≡ c.self.inside.known = search rules in
    let within : at ≤ length held.bytes = omega (arith, c.requires.known, known, c.self.invariant.1) in
    let new : c.write.new.self ≡ written_on at bytes held = search rules in
    let next : c.then-self-inside-2.result.lives.life ≡ and_call (Write at bytes) life = search rules in
    let top : c.max-self-inside.result ≡ max c.self.inside.known (at + length bytes) = search rules in
    let long = length-overwritten at bytes held.bytes within in
    let below : c.max-self-inside.result ≤ length (written_on at bytes held).bytes = omega (arith, top, long, c.self.invariant.1) in
    let whole =
    subst
    (λ (h : HoldingState). Holds h (and_call (Write at bytes) life) × (c.max-self-inside.result ≤ length h.bytes))
    (sym new)
    (holds_written held life at bytes holds sound within, below) in
    subst (λ (l : Lived). Holds c.write.new.self l × (c.max-self-inside.result ≤ length c.write.new.self.bytes)) (sym next) whole
