use Rattle.std.proofs.Common.{rules, ◌≡◌, suc, ◌+◌, ◌∙◌, false, [], refl, sym, ap, subst, inl, inr, arith}
use Rattle.mon_link.specs.Links.{LinkState}
use Rattle.cephmon_run.specs.Lives.{Lived, scene}
use Rattle.cephmon_run.specs.Node.{Around}
use Rattle.cephmon_run.specs.Outside.{Outside}
use Rattle.cephmon_run.proofs.living.run_lives.Goals as goal

pub returns-then-is_err : goal.returns-then-is_err
returns-then-is_err g c =
    let outside : Outside = record { left = g.S.Source.left c.loop.source; held = g.K.Sink.held c.loop.sink; read_faults = g.S.Source.faults c.loop.source; write_faults = g.K.Sink.faults c.loop.sink } in
    let left : LinkState → Around g.row.D.Denot = λ s. record { disks = c.loop.ended.disks; link = s; clock = g.C.Clock.left c.loop.clock } in
    record {
      lives = record {
        earlier = c.loop.counter;
        last = scene outside c.loop.ended.disks c.loop.link (g.C.Clock.left c.loop.clock);
        before = c.loop.ended.status;
        lived = c.loop.invariant.lived;
        ends = inr (inl (sym c.stood.ensures ∙ c.if-not-stood.false, refl));
        outside_after = refl;
        around_after = ap left (sym c.live_anew.ensures.state);
      };
    }

pub loop-preserved : goal.loop-preserved
loop-preserved g c =
    let outside : Outside = record { left = g.S.Source.left c.loop.source; held = g.K.Sink.held c.loop.sink; read_faults = g.S.Source.faults c.loop.source; write_faults = g.K.Sink.faults c.loop.sink } in
    let left : LinkState → Around g.row.D.Denot = λ s. record { disks = c.loop.ended.disks; link = s; clock = g.C.Clock.left c.loop.clock } in
    let first = scene (record { left = g.S.Source.left c.args.source.now; held = g.K.Sink.held c.args.sink.now; read_faults = g.S.Source.faults c.args.source.now; write_faults = g.K.Sink.faults c.args.sink.now }) c.args.disks c.args.link.now (g.C.Clock.left c.args.clock.now) in
    let r = c.run-ended-in-loop in
    let last = scene (record { left = g.S.Source.left r.new.source; held = g.K.Sink.held r.new.sink; read_faults = g.S.Source.faults r.new.source; write_faults = g.K.Sink.faults r.new.sink }) r.result.disks r.new.link (g.C.Clock.left r.new.clock) in
    let next : suc c.loop.counter ≡ c.loop.counter + 1 = omega arith in
    let awake : g.L.Lives.stood c.live_anew.new.self ≡ false = search rules in
    let fresh : g.L.Link.history c.live_anew.new.self [] = search rules in
    record {
      lived = subst (λ n. Lived g.D.Disk.state g.L.Link.state g.L.Link.history g.L.Lives.stood c.args.words.now n first last r.result.status) next (
        scene outside c.loop.ended.disks c.loop.link (g.C.Clock.left c.loop.clock),
        c.loop.ended.status,
        scene outside c.loop.ended.disks c.live_anew.new.self (g.C.Clock.left c.loop.clock),
        c.loop.invariant.lived,
        record {
          stood_still = sym c.stood.ensures ∙ c.if-not-stood.false;
          outside = refl;
          around = ap left c.live_anew.ensures.state;
          awake = awake;
          fresh = fresh;
        },
        record { ends = r.ensures.ends; talks = r.ensures.talks },
      );
      most = omega (arith, c.loop-test.true);
    }

pub returns-after-loop : goal.returns-after-loop
returns-after-loop g c =
    let outside : Outside = record { left = g.S.Source.left c.loop.source; held = g.K.Sink.held c.loop.sink; read_faults = g.S.Source.faults c.loop.source; write_faults = g.K.Sink.faults c.loop.sink } in
    record {
      lives = record {
        earlier = c.loop.counter;
        last = scene outside c.loop.ended.disks c.loop.link (g.C.Clock.left c.loop.clock);
        before = c.loop.ended.status;
        lived = c.loop.invariant.lived;
        ends = inr (inr (omega (arith, c.loop-test.false, c.loop.invariant.most), refl));
        outside_after = refl;
        around_after = refl;
      };
    }

pub returns-then-not-stood : goal.returns-then-not-stood
returns-then-not-stood g c =
    let outside : Outside = record { left = g.S.Source.left c.loop.source; held = g.K.Sink.held c.loop.sink; read_faults = g.S.Source.faults c.loop.source; write_faults = g.K.Sink.faults c.loop.sink } in
    record {
      lives = record {
        earlier = c.loop.counter;
        last = scene outside c.loop.ended.disks c.loop.link (g.C.Clock.left c.loop.clock);
        before = c.loop.ended.status;
        lived = c.loop.invariant.lived;
        ends = inl (sym c.stood.ensures ∙ c.if-not-stood.true, refl);
        outside_after = refl;
        around_after = refl;
      };
    }
