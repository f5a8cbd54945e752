use Rattle.std.proofs.Common.{rules, get_or, ◌≡◌, not, filter, arith}
use Rattle.std.proofs.lemmas.Fn.{filter_same}
use Rattle.mon_resend.specs.Notes.{is_spent}
use Rattle.mon_resend.specs.Shelves.{after_sending_if_due, with_note}
use Rattle.mon_resend.proofs.InPlace.{put_next, put_all}
use Rattle.mon_resend.proofs.shelf.Shelf.due_sent.Goals as goal

pub loop-kept-init : goal.loop-kept-init
loop-kept-init c =
    let e : c.retain.new.self.items ≡ filter (λ k. not (is_spent c.args.now k.note)) c.self.inside.kept.items = filter_same _ _ _ (λ x b f' k. search rules) _ _ c.retain.ensures.filtered in
    search (rules, e)

pub loop-kept-preserved : goal.loop-kept-preserved
loop-kept-preserved c = put_next (λ k. with_note (after_sending_if_due c.args.again c.args.now k.note) k) c.loop-kept.kept-index _ c.loop-kept.kept-items c.kept-item.result (with_note c.passed-kept.result (get_or c.loop-kept.kept-items c.loop-kept.kept-index c.kept-item.result)) c.loop-kept.invariant (search rules)

pub returns : goal.returns
returns c = put_all (λ k. with_note (after_sending_if_due c.args.again c.args.now k.note) k) c.loop-kept.kept-index _ c.loop-kept.kept-items _ _ c.loop-kept.invariant (omega arith) (omega arith)
