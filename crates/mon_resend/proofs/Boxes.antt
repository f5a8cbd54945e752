-- What a loop over the monitors does to what is kept for each.
use Rattle.std.specs.Prelude.{◌≡◌, ℕ, ◌+◌, ◌≤◌, List, length, map, get_or, refl}
use Rattle.std.proofs.Common.{ap, ◌∙◌}
use Rattle.mon_resend.specs.declared.copies.Copies.{Copies}
use Rattle.mon_resend.specs.declared.outbox.Outbox.{Outbox}
use Rattle.mon_resend.specs.Again.{nothing}
use Rattle.mon_resend.specs.World.{box_of, with_box}
use Rattle.mon_resend.proofs.InPlace.{changed_to, put_next, past_all}

abbrev with_boxes : Copies → List Outbox → Copies
with_boxes c boxes = record c { boxes = boxes }

pub box_next : (f : Outbox → Outbox) (n : ℕ) (old now new : Copies) → now ≡ record old { boxes = changed_to f n old.boxes } → new ≡ with_box n (f (box_of n now)) now → new ≡ record old { boxes = changed_to f (n + 1) old.boxes }
box_next f n old now new is e =
    let first = changed_to f n old.boxes in
    e ∙ ap (λ c. with_box n (f (box_of n c)) c) is ∙ ap (with_boxes old) (put_next f n old.boxes first nothing (f (get_or first n nothing)) refl refl)

pub boxes_done : (f : Outbox → Outbox) (n : ℕ) (old now : Copies) → now ≡ record old { boxes = changed_to f n old.boxes } → length old.boxes ≤ n → now ≡ record old { boxes = map f old.boxes }
boxes_done f n old now is le = is ∙ ap (with_boxes old) (past_all f n old.boxes le)
