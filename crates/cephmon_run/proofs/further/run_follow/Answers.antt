use Rattle.std.proofs.Common.{ℕ, List, [], subst}
use Rattle.map_follower.specs.Iterations.{Follows, course}
use Rattle.map_follower.specs.Talking.{Talks}
use Rattle.map_follower.specs.declared.follower.Follower.{Follower}
use Rattle.mon_frag.specs.declared.partial.Partial.{Partial}
use Rattle.cephmon_run.proofs.further.run_follow.Goals as goal

pub returns-clause-follows : goal.returns-clause-follows
returns-clause-follows g c =
    let held = g.K.Sink.held c.args.sink.now in
    let observed = (g.L.Link.state c.args.link.now).observed in
    let n = c.follow-end.new in
    let it = subst (λ (f : Follower). (asks : ℕ) × (parts : List Partial)
    × (F : Follows c.args.monitors c.args.turns (course f [] 0 observed held) (course n.follower parts asks (g.L.Link.state n.link).observed (g.K.Sink.held n.sink)) c.follow-end.result)
    × Talks c.args.monitors (course f [] 0 observed held) c.follow-end.result F.given (g.L.Link.history c.args.link.now) (g.L.Link.history n.link)) c.new-follower.ensures c.follow-end.ensures.follows in
    record {
      end = c.follow-end.result;
      is = c.of_follow.ensures;
      holds = record { copy = n.follower; parts = it.1; asks = it.0; follows = it.2; link_counts = c.follow-end.ensures.faults; sink_counts = c.follow-end.ensures.fault };
    }

pub returns-clause-talks : goal.returns-clause-talks
returns-clause-talks g c =
    let held = g.K.Sink.held c.args.sink.now in
    let observed = (g.L.Link.state c.args.link.now).observed in
    let n = c.follow-end.new in
    let it = subst (λ (f : Follower). (asks : ℕ) × (parts : List Partial)
    × (F : Follows c.args.monitors c.args.turns (course f [] 0 observed held) (course n.follower parts asks (g.L.Link.state n.link).observed (g.K.Sink.held n.sink)) c.follow-end.result)
    × Talks c.args.monitors (course f [] 0 observed held) c.follow-end.result F.given (g.L.Link.history c.args.link.now) (g.L.Link.history n.link)) c.new-follower.ensures c.follow-end.ensures.follows in
    record {
      end = c.follow-end.result;
      is = c.of_follow.ensures;
      holds = (record { copy = n.follower; parts = it.1; asks = it.0; follows = it.2; link_counts = c.follow-end.ensures.faults; sink_counts = c.follow-end.ensures.fault }, it.3);
    }
