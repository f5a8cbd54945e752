use Rattle.std.proofs.Common.{◌≡◌, Some, slice_get, refl, sym, ap, ◌∙◌, arith}
use Rattle.std.proofs.lemmas.Option.{slice_get_read}
use Rattle.mon_world.proofs.Ranks.{me_at}
use Rattle.mon_world.proofs.world.World.last_of.Goals as goal

pub returns : goal.returns
returns c = λ ms scene s.
    let me = me_at ms c.args.rank (omega (arith, s.count)) in
    let there : slice_get c.args.self.now.monitors.items c.args.rank ≡ Some c.index.result.now =
    ap (slice_get c.args.self.now.monitors.items) (sym c.get.ensures.value)
    ∙ slice_get_read c.args.self.now.monitors.items _ c.get.result c.index.result.now refl (omega (arith, c.get.ensures.value)) c.index.ensures in
    c.last.ensures me.0 (scene.world.store c.args.rank) (scene.world.state c.args.rank) (scene.files c.args.rank) (s.each c.args.rank me.0 c.index.result.now me.1 there)
