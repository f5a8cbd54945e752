use Rattle.std.proofs.Common.{◌≡◌, ◌+◌, ◌-◌, ◌&&◌, ltb, sym, ap, subst, ◌∙◌}
use Rattle.std.specs.Option.{option_copied}
use Rattle.mon_types.specs.Ranks.{with_rank}
use Rattle.schedule_text.specs.Ranks.{is_next}
use Rattle.schedule_text.specs.Fields.{ended}
use Rattle.schedule_text.proofs.RankLaws.{at_end, Reading, reading_begins, reading_taken, reading_left, reading_ends}
use Rattle.schedule_text.proofs.ranks.set_of.Goals.{then-is_taken, else-is_taken}
use Rattle.schedule_text.proofs.ranks.set_of.Goals as goal

pub loop-n-init : goal.loop-n-init
loop-n-init c = rw c.empty-set.ensures (reading_begins c.args.monitors (option_copied c.args.text))

pub loop-n-preserved : goal.loop-n-preserved
loop-n-preserved c =
    let n = c.args.monitors in
    let r = c.loop-n.n in
    let text = option_copied c.args.text in
    let before = option_copied c.loop-n.rest in
    let test : c.is_taken.result ≡ (ltb r n && is_next r before) = c.is_taken.ensures ∙ ap (λ k. ltb k n && is_next k before) c.known-rank.ensures in
    elim c.if-is_taken.branch [
      | then-is_taken w ↦
          let set = w.set-is ∙ w.with-set.ensures ∙ ap (with_rank c.loop-n.set) c.known-rank.ensures in
          let rest = ap option_copied w.rest-is ∙ w.after_next-rest.ensures in
          subst (λ s. Reading n (r + 1) (15 - (r + 1)) s (option_copied c.if-is_taken.rest) text) (sym set)
          (subst (λ a. Reading n (r + 1) (15 - (r + 1)) (with_rank c.loop-n.set r) a text) (sym rest)
          (reading_taken n r c.loop-n.set before text c.loop-n-test.true (sym test ∙ w.if-is_taken.true) c.loop-n.invariant))
      | else-is_taken w ↦
          let rest = ap option_copied w.rest-is in
          subst (λ s. Reading n (r + 1) (15 - (r + 1)) s (option_copied c.if-is_taken.rest) text) (sym w.set-is)
          (subst (λ a. Reading n (r + 1) (15 - (r + 1)) c.loop-n.set a text) (sym rest)
          (reading_left n r c.loop-n.set before text c.loop-n-test.true (sym test ∙ w.if-is_taken.false) c.loop-n.invariant))
    ]

pub returns-in-None : goal.returns-in-None
returns-in-None c =
    reading_ends c.args.monitors c.loop-n.set (option_copied c.loop-n.rest) (option_copied c.args.text) (at_end (λ k m. Reading c.args.monitors k m c.loop-n.set (option_copied c.loop-n.rest) (option_copied c.args.text)) c.loop-n.n c.loop-n-test.false c.loop-n.auto.n-end c.loop-n.invariant)
    ∙ ap (λ a. ended (option_copied a) c.loop-n.set) c.in-None.is

pub returns-in-Some : goal.returns-in-Some
returns-in-Some c =
    reading_ends c.args.monitors c.loop-n.set (option_copied c.loop-n.rest) (option_copied c.args.text) (at_end (λ k m. Reading c.args.monitors k m c.loop-n.set (option_copied c.loop-n.rest) (option_copied c.args.text)) c.loop-n.n c.loop-n-test.false c.loop-n.auto.n-end c.loop-n.invariant)
    ∙ ap (λ a. ended (option_copied a) c.loop-n.set) c.in-Some.is
