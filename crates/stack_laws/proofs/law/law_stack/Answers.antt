use Rattle.mon_name.specs.Histories.{names}
use Rattle.mon_watch.specs.Histories.{watching}
use Rattle.stack_laws.proofs.Stacks.{stack}
use Rattle.stack_laws.proofs.law.law_stack.Goals as goal

pub returns : goal.returns
returns g c = λ h watch.
    let l = c.args.link.now in
    let copies = watch.1 in
    let awake = copies.1 in
    let frames = awake.1 in
    let hellos = frames.1 in (
      hellos.0,
      hellos.1,
      stack
          watch.2 (watching l.watch.member l.notes) copies.2 l.inner.copies awake.2 l.inner.inner.gaps frames.2 (names l.inner.inner.inner.tag l.inner.inner.inner.life)
          hellos.2 l.inner.inner.inner.inner.own h watch.0 copies.0 awake.0 frames.0 hellos.0 copies.3 watch.4 copies.4 awake.4 frames.4 hellos.4,
    )
