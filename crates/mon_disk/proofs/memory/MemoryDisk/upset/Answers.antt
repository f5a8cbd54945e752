use Rattle.std.proofs.Common.{rules, ◌≡◌}
use Rattle.mon_disk.specs.MemoryDisk.{injected_life}
use Rattle.mon_disk.proofs.InjectedFaults.{begins_time}
use Rattle.mon_disk.proofs.memory.MemoryDisk.upset.Goals as goal

pub returns-clause-any_time : goal.returns-clause-any_time
returns-clause-any_time c =
    let d = c.args.self.now in
    let lives = c.then-self-inside.result.lives in
    let kept : lives.past ≡ d.past = search rules in
    let next : lives.life ≡ injected_life c.args.call c.args.image d.life = search rules in
    begins_time d.past lives.past kept d.life lives.life c.args.call c.args.image c.requires.none c.requires.first next
