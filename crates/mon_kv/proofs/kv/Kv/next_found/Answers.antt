use Rattle.std.proofs.Common.{◌≡◌, [], sym, ap, subst, ◌∙◌}
use Rattle.std.specs.FinMap.{entries}
use Rattle.mon_kv.specs.Tree.{first}
use Rattle.mon_kv.specs.Readers.{after, entries_after}
use Rattle.mon_kv.proofs.ChunkLaws.{entries_after-start}
use Rattle.mon_kv.proofs.PlaceLaws.{entries-store}
use Rattle.mon_kv.proofs.NextLaws.{found_form}
use Rattle.mon_kv.proofs.kv.Kv.next_found.Goals as goal

pub returns-clause-value : goal.returns-clause-value
unfolding entries_after
returns-clause-value c =
    c.next.ensures c.self.invariant.0 ∙ ap (λ es. first (after (c.args.prefix.now, c.args.key.now) es)) (sym (entries-store _ c.self.invariant.0))
    ∙ ap (λ m. first (entries_after m (c.args.prefix.now, c.args.key.now))) c.self.view_is

pub returns-clause-form : goal.returns-clause-form
returns-clause-form c = found_form _ _ _ c.self.invariant.0 c.next.result (c.next.ensures c.self.invariant.0)

pub returns-clause-start : goal.returns-clause-start
returns-clause-start c = subst (λ m. entries_after m ([], []) ≡ entries m) c.self.view_is (entries_after-start _ c.self.invariant.0)
