use Rattle.std.proofs.Common.{rules, arith, ◌≡◌, ◌≤◌, ◌++◌, ◌∷◌, [], List, length, sym, ap, ◌∙◌, subst}
use Rattle.mon_disk.specs.Images.{images, LeavesOnly}
use Rattle.mon_disk.specs.Memory.{Lived, begins_with, settled}
use Rattle.mon_disk.specs.MemoryDisk.{content_of}
use Rattle.mon_disk.specs.Holding.{HoldingState, Holds, holds_only, settled_from}
use Rattle.mon_disk.proofs.Contents.{settle_goes}
use Rattle.mon_disk.proofs.Holds.{holds_begun, settles_is}
use Rattle.mon_disk.proofs.memory.MemoryDisk.settle.Goals as goal

pub invariant_of-self : goal.invariant_of-self
invariant_of-self c =
    let held = c.self.inside.held in
    let life = c.self.inside.history.lives.life in
    let file : c.in_ok-file.file.items ≡ settled_from held = search rules in
    let new : c.of.result ≡ holds_only (settled life) = c.of.ensures ∙ ap holds_only (file ∙ settles_is held life c.self.invariant.0) in
    let next : c.then-self-inside.result.lives.life ≡ begins_with (settled life) = search rules in
    let whole =
    subst (λ (h : HoldingState). Holds h (begins_with (settled life)) × (0 ≤ length h.bytes)) (sym new) (holds_begun (settled life), omega arith) in
    subst (λ (l : Lived). Holds c.of.result l × (0 ≤ length c.of.result.bytes)) (sym next) whole

pub returns-clause-any_time : goal.returns-clause-any_time
returns-clause-any_time c =
    let past = c.args.self.now.past in
    let life = c.args.self.now.life in
    let lives = c.then-self-inside.result.lives in
    let ended : lives.past ≡ past ++ life ∷ [] = search rules in
    let next : lives.life ≡ begins_with (settled life) = search rules in
    let now = content_of past life in
    let there = subst (λ (ls : List Lived). LeavesOnly now (content_of ls (begins_with (settled life))) (images now)) (sym ended) (settle_goes past life) in
    subst (λ (l : Lived). LeavesOnly now (content_of lives.past l) (images now)) (sym next) there
