use Rattle.std.proofs.Common.{◌≡◌, ◌≤◌, ◌-◌, ◌++◌, ℕ, List, take, drop, length, ap, sym, subst, ◌∙◌, arith}
use Rattle.std.proofs.lemmas.List.{length-take-le, with_items_is}
use Rattle.std.specs.Vec.{with_items}
use Rattle.mon_record.specs.Tapes.{TapeView, dropped}
use Rattle.mon_record.proofs.Tapes.{turned}
use Rattle.mon_record.proofs.tape.Tape.drop_first.Goals as goal

pub returns : goal.returns
returns c =
    let room = c.self.inside.room.items in
    let end = c.self.inside.end in
    let n = c.args.count in
    let within : length (take end room) ≡ end = length-take-le end room (omega (arith, c.self.invariant.0, c.self.invariant.1)) in
    let waits : take end room ≡ c.args.self.now.waiting = ap (λ (t : TapeView). t.waiting) c.self.view_is in
    let fits : n ≤ length (take end room) = subst (λ (w : List ℕ). n ≤ length w) (sym waits) c.requires in
    let slice : c.as_mut_slice.result.now ≡ room = c.as_mut_slice.ensures.value in
    let turns : c.rotate_left.new.self ≡ drop n room ++ take n room = c.rotate_left.ensures.after ∙ ap (λ (xs : List ℕ). drop n xs ++ take n xs) slice in
    let left : take (end - n) c.rotate_left.new.self ≡ drop n (take end room) =
    ap (take (end - n)) turns ∙ turned n end room (omega (arith, within, fits)) (omega (arith, c.self.invariant.0, c.self.invariant.1)) in
    let rotated = c.rotate_left.new.self in
    let whole : length rotated ≡ c.self.inside.room.len = omega (arith, c.rotate_left.ensures.len, ap length slice, c.self.inside.room.ok.0) in
    let kept : (with_items c.self.inside.room rotated).items ≡ rotated = with_items_is c.self.inside.room rotated whole in
    let waiting : take (end - n) (with_items c.self.inside.room rotated).items ≡ drop n (take end room) = ap (take (end - n)) kept ∙ left in
    let is : record { waiting = take (end - n) (with_items c.self.inside.room rotated).items; lost = c.self.inside.lost } ≡ dropped n (record { waiting = take end room; lost = c.self.inside.lost }) =
    ap (λ (w : List ℕ). record { waiting = w; lost = c.self.inside.lost }) waiting in
    is ∙ ap (dropped n) c.self.view_is
