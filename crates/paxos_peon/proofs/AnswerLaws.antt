-- The answer to a leader that collects, by its parts.
use Rattle.std.proofs.Common.{◌≡◌, ℕ, ◌+◌, ◌≤◌, ◌<◌, Bool, true, false, ◌&&◌, cond, leb, List, length, Option, None, refl, sym, ap, ◌∙◌, arith}
use Rattle.std.specs.Prelude.{sum_by}
use Rattle.std.proofs.lemmas.Bool.{le-leb, lt-ltb, le-ltb}
use Rattle.mon_msg.specs.Protocol.Answers.{told_of, sent_values, answer_with, answer_of}
use Rattle.mon_msg.specs.Protocol.Length.{fits}
use Rattle.mon_msg.specs.Protocol.Parts.{value_length, told_length}
use Rattle.mon_msg.specs.Protocol.Readings.{Readings}
use Rattle.mon_msg.specs.Protocol.Records.{pending}
use Rattle.mon_tx.specs.declared.op.Op.{Op}
use Rattle.mon_wire.specs.declared.body.Body.TheVariants as body
use Rattle.mon_wire.specs.declared.body.Body.{Body}
use Rattle.mon_wire.specs.declared.parts.Told.{Told}

module _ (n p : ℕ) (w : Readings) (from : ℕ) (values : List (List Op)) (is : values ≡ sent_values n p w.first w.last w.record_of from) where
  abbrev pub answered : Body
  answered = answer_of n p w.first w.last w.record_of (pending w) from

  abbrev pub in_part : Body
  in_part = body.Last p w.first w.last false from values None

  abbrev pub whole : Option Told → Body
  whole told = body.Last p w.first w.last true from values told

  by_parts : answered ≡ answer_with n p w.first w.last from values (told_of (pending w))
  unfolding answer_of
  by_parts = ap (λ (vs : List (List Op)). answer_with n p w.first w.last from vs (told_of (pending w))) (sym is)

  abbrev chosen : Bool → Option Told → Body
  chosen all told = cond all (whole told) in_part

  pub answer-short : from + length values ≤ w.last → in_part ≡ answered
  answer-short h =
      let told = told_of (pending w) in
      sym (by_parts ∙ ap (λ b. chosen (b && fits n (whole told)) told) (le-ltb w.last (from + length values) h))

  module _ (told : Option Told) (e : told ≡ told_of (pending w)) (few : length values ≤ 65535) (reaches : w.last < from + length values) where
    -- the test of its length in the code's order of the parts
    same_length : leb (12 + (33 + (2 + sum_by value_length values) + told_length told)) 1048576 ≡ leb (47 + sum_by value_length values + told_length told) 1048576
    same_length =
        let k : 12 + (33 + (2 + sum_by value_length values) + told_length told) ≡ 47 + sum_by value_length values + told_length told = omega arith in
        ap (λ l. leb l 1048576) k

    by_room : (room : Bool) → leb (47 + sum_by value_length values + told_length told) 1048576 ≡ room → answered ≡ chosen room told
    by_room room h =
        by_parts
        ∙ ap (λ t. answer_with n p w.first w.last from values t) (sym e)
        ∙ ap (λ b. chosen (b && fits n (whole told)) told) (lt-ltb w.last (from + length values) reaches)
        ∙ (λ i. chosen ((same_length ∙ h) i && le-leb (length values) 65535 few i) told)
        ∙ by room
      where
        by : (room : Bool) → chosen (room && true) told ≡ chosen room told
        by true = refl
        by false = refl

    pub answer-full : leb (47 + sum_by value_length values + told_length told) 1048576 ≡ false → in_part ≡ answered
    answer-full h = sym (by_room false h)

    pub answer-whole : leb (47 + sum_by value_length values + told_length told) 1048576 ≡ true → whole told ≡ answered
    answer-whole h = sym (by_room true h)
