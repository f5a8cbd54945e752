use Rattle.std.proofs.Common.{◌≡◌, ◌+◌, ℕ, List, subst, sym, ap, ◌∙◌, arith}
use Rattle.std.proofs.lemmas.List.FromFn.{map-range_with_len_more}
use Rattle.serde_json.specs.Data.{number, unsigned}
use Rattle.serde_json.specs.View.{view}
use Rattle.serde_json.specs.declared.value.Value.{Value}
use Rattle.quorum_model.specs.Growth.{last_of}
use Rattle.cephmon_run.specs.Summary.{AreNumbers, last_versions}
use Rattle.cephmon_run.proofs.Counting.{numbers_more}
use Rattle.cephmon_run.proofs.summary.last_versions.Goals as goal

pub loop-rank-preserved : goal.loop-rank-preserved
loop-rank-preserved c = λ ms s stands.
    let rank = c.loop-rank.rank in
    let last = last_of (s.world.store rank) in
    let known : c.last_of.result ≡ last = c.last_of.ensures ms s stands ∙ ap (λ (i : ℕ). last_of (s.world.store i)) c.known.ensures in
    let value : view c.from.result ≡ number (unsigned last) = c.from.ensures ∙ ap (λ (n : ℕ). number (unsigned n)) (c.get.ensures.value ∙ known) in
    let more = map-range_with_len_more (λ (i : ℕ). last_of (s.world.store i)) 0 rank rank (omega arith) in
    subst (λ (values : List Value). AreNumbers values (last_versions s (rank + 1))) (sym c.in_ok-push.ensures.items)
    (numbers_more c.loop-rank.last.items c.from.result (last_versions s rank) (last_versions s (rank + 1)) last (c.loop-rank.invariant ms s stands) value more)

pub returns : goal.returns
returns c = λ ms s stands.
    let all : c.loop-rank.rank ≡ c.args.monitors = omega (arith, c.loop-rank-test.false, c.loop-rank.auto.rank-end) in
    subst (λ (n : ℕ). AreNumbers c.loop-rank.last.items (last_versions s n)) all (c.loop-rank.invariant ms s stands)
