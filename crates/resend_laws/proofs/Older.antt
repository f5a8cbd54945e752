-- A greater epoch ends every copy of a quorum's message.
use Rattle.std.specs.Prelude.{◌≡◌, ℕ, ◌<◌, ◌≤◌, Bool, true, false, ◌&&◌, not, refl, List, [], ◌∷◌, ◌⊎◌, Option, Some, None}
use Rattle.std.proofs.Common.{cond, ltb, arith, inl, inr, sym, subst, ◌∙◌}
use Rattle.std.proofs.lemmas.Bool.Decides.{nat_tests}
use Rattle.mon_decode.specs.declared.header.Header.{Header}
use Rattle.mon_decode.specs.Headers.{same_kind}
use Rattle.mon_link.specs.declared.link.Outgoing.{Outgoing}
use Rattle.mon_link.specs.declared.link.Peer.TheVariants.{Monitor}
use Rattle.mon_resend.specs.declared.copies.Copies.{Copies}
use Rattle.mon_resend.specs.declared.datagram.Part.{Part}
use Rattle.mon_resend.specs.declared.datagram.Part.TheVariants.{Whole, First, Later}
use Rattle.mon_resend.specs.declared.note.Event.{Event}
use Rattle.mon_resend.specs.declared.note.Event.TheVariants.{Rose, LeftQuorum, Deferred}
use Rattle.mon_resend.specs.declared.note.Note.{Note}
use Rattle.mon_resend.specs.Again.{called}
use Rattle.mon_resend.specs.Copied.{datagram}
use Rattle.mon_resend.specs.Datagrams.{part_of}
use Rattle.mon_resend.specs.Notes.{after, is_ended, is_spent}
use Rattle.mon_resend.specs.Rows.{is_of_epoch}
use Rattle.mon_resend.specs.Shelves.{applied, after_sending_if_due}
use Rattle.mon_resend.specs.World.{began, begins, box_of, called_at, received_at, asks, each, in_epoch, is_dropped_at, part_arrived, risen, sent_part, whole_arrived, with_box, with_event}
use Rattle.mon_wire.specs.declared.kind.Kind.TheVariants as kind
use Rattle.resend_laws.specs.Copies.{EachOf, EachAt, IsOver, IsOther, IsNotSent, IsUpTo}
use Rattle.resend_laws.specs.Runs.{Step, Sends, Hears, Passes, step, run}
use Rattle.resend_laws.proofs.Each.{IsStable, each_changed, each_grows, each_lasts, over_lasts, over_step, no_not}
use Rattle.resend_laws.proofs.Unchanged.{header_stays, passes_header}
use Rattle.mon_resend.proofs.Walk.{of_released, each_at, began_at, continued_at, whole_arrived_at, part_arrived_at, passed_at}

same_up_to : (e : ℕ) (m n : Note) → m.header ≡ n.header → IsUpTo e n → IsUpTo e m
same_up_to e m n same h = record { counts = subst (λ k. is_of_epoch k.kind ≡ true) (sym same) h.counts; epoch = subst (λ k. k.epoch ≤ e) (sym same) h.epoch }

stable : (e : ℕ) → IsStable (IsUpTo e)
stable e event now n h = same_up_to e (after event now n) n (header_stays event now n) h

passes_up_to : (e : ℕ) (again : Bool) (now : ℕ) (n : Note) → IsUpTo e n → IsUpTo e (after_sending_if_due again now n)
passes_up_to e again now n h = same_up_to e (after_sending_if_due again now n) n (passes_header again now n) h

-- ---- epochs

either_epoch : (x y : Copies) (e : ℕ) (b : Bool) → x.epoch ≡ e → y.epoch ≡ e → (cond b x y).epoch ≡ e
either_epoch x y e true f g = f
either_epoch x y e false f g = g

begins_epoch : (h : Header) (now : ℕ) (c : Copies) → (begins h now c).epoch ≡ (risen h now c).epoch
begins_epoch h now c =
    let rose = risen h now c in
    let of_it = record rose { own = h.epoch } in
    let m = in_epoch h rose in
    let same : m.epoch ≡ rose.epoch =
    either_epoch (record rose { own = 0 }) (cond (is_of_epoch h.kind) of_it rose) rose.epoch (same_kind h.kind kind.Probe) refl (either_epoch of_it rose rose.epoch (is_of_epoch h.kind) refl refl) in
    either_epoch (each LeftQuorum now m) (cond (same_kind h.kind kind.Ack) (each Deferred now m) m) rose.epoch (same_kind h.kind kind.Probe) same
    (either_epoch (each Deferred now m) m rose.epoch (same_kind h.kind kind.Ack) same same)

called_epoch : (rank : ℕ) (h : Header) (now : ℕ) (c : Copies) → (called_at rank h now c).epoch ≡ c.epoch
called_epoch rank h now c = either_epoch (with_box rank (called h.epoch c.own now (box_of rank c)) c) c c.epoch (same_kind h.kind kind.Propose) refl refl

whole_epoch : (memory : Bool) (rank : ℕ) (h : Header) (bytes : List ℕ) (now : ℕ) (c : Copies) → (whole_arrived memory rank h bytes now c).epoch ≡ (risen h now c).epoch
whole_epoch memory rank h bytes now c =
    let rose = risen h now c in
    let p = called_at rank h now rose in
    let same = called_epoch rank h now rose in
    either_epoch p (received_at memory rank h bytes now p) rose.epoch (is_dropped_at rank h now rose) same same

both_true : (a b : Bool) → (a && b) ≡ true → (a ≡ true) × (b ≡ true)
both_true true b e = (refl, e)
both_true false b e = absurd cc

and_true : (a b : Bool) → a ≡ true → b ≡ true → (a && b) ≡ true
and_true true true e f = refl
and_true true false e f = absurd cc
and_true false b e f = absurd cc

module _ (r : ℕ) (x : Outgoing) (e : ℕ) where
  abbrev UpTo : Note → Type 0
  UpTo n = IsUpTo e n

  -- The epoch is still this one, or no copy of the datagram is kept.
  abbrev Holds : Copies → Type 0
  Holds c = ((c.epoch ≡ e) × EachAt r x UpTo c) ⊎ IsOver r x c

  lasts_up_to : (event : Event) (now : ℕ) (kept : List _) → EachOf x UpTo kept → EachOf x UpTo (applied event now kept)
  lasts_up_to event now kept h = each_lasts x UpTo (stable e) event now kept h

  ended : (epoch : ℕ) (n : Note) → e < epoch → not (is_ended (Rose epoch) n) ≡ true → IsUpTo e n → ⊥
  ended epoch n less isnt h =
      let before : ltb n.header.epoch epoch ≡ true = grind (arith, nat_tests, less, h.epoch) in
      no_not (is_ended (Rose epoch) n) isnt (and_true (is_of_epoch n.header.kind) (ltb n.header.epoch epoch) h.counts before)

  rises : (h : Header) (now : ℕ) (c : Copies) (b : Bool) → (is_of_epoch h.kind && ltb c.epoch h.epoch) ≡ b → (c.epoch ≡ e) → EachAt r x UpTo c
      → Holds (cond b (each (Rose h.epoch) now (record c { epoch = h.epoch })) c)
  rises h now c true is same g =
      let less : e < h.epoch = grind (arith, nat_tests, (both_true (is_of_epoch h.kind) (ltb c.epoch h.epoch) is).1, same) in
      inr (each_at (EachOf x UpTo) (EachOf x (λ n. ⊥)) (λ b. with_event (Rose h.epoch) now b) tt
      (λ b k. of_released (EachOf x (λ n. ⊥)) (over_lasts x) now (applied (Rose h.epoch) now b.shelf)
      (each_changed x UpTo (λ n. ⊥) (after (Rose h.epoch) now) (λ k. not (is_ended (Rose h.epoch) k.note)) (λ k isnt f. ended h.epoch k.note less isnt f) b.shelf k)) c.boxes r g)
  rises h now c false is same g = inl (same, g)

  risen_holds : (h : Header) (now : ℕ) (c : Copies) → c.epoch ≡ e → EachAt r x UpTo c → Holds (risen h now c)
  risen_holds h now c same g = rises h now c (is_of_epoch h.kind && ltb c.epoch h.epoch) refl same g

  began_holds : (memory : Bool) (rank : ℕ) (out : Outgoing) (h : Header) (total now : ℕ) (c : Copies) → (out ≡ x → ⊥) → Holds (risen h now c) → Holds (began memory rank out h total now c)
  began_holds memory rank out h total now c other g = elim g [
    | inl a ↦ inl (begins_epoch h now c ∙ a.0, began_at (EachOf x UpTo) tt lasts_up_to r memory rank out h total now c (each_grows x UpTo out other) a.1)
    | inr b ↦ inr (began_at (EachOf x (λ n. ⊥)) tt (over_lasts x) r memory rank out h total now c (each_grows x (λ n. ⊥) out other) b)
  ]

  sent_holds : (part : Option Part) (memory : Bool) (rank : ℕ) (bytes : List ℕ) (now : ℕ) (c : Copies) → (datagram (Monitor rank) bytes ≡ x → ⊥) → c.epoch ≡ e → EachAt r x UpTo c → Holds (sent_part part memory rank bytes now c)
  sent_holds (Some (Whole h)) memory rank bytes now c other same g = began_holds memory rank (datagram (Monitor rank) bytes) h _ now c other (risen_holds h now c same g)
  sent_holds (Some (First h total)) memory rank bytes now c other same g = began_holds memory rank (datagram (Monitor rank) bytes) h total now c other (risen_holds h now c same g)
  sent_holds (Some (Later p)) memory rank bytes now c other same g =
      inl (same, continued_at (EachOf x UpTo) tt lasts_up_to r memory rank (datagram (Monitor rank) bytes) c (each_grows x UpTo (datagram (Monitor rank) bytes) other) g)
  sent_holds None memory rank bytes now c other same g = inl (same, g)

  arrived_holds : (part : Option Part) (memory : Bool) (rank : ℕ) (bytes : List ℕ) (now : ℕ) (c : Copies) → c.epoch ≡ e → EachAt r x UpTo c → Holds (part_arrived part memory rank bytes now c)
  arrived_holds (Some (Whole h)) memory rank bytes now c same g = elim (risen_holds h now c same g) [
    | inl a ↦ inl (whole_epoch memory rank h bytes now c ∙ a.0, whole_arrived_at (EachOf x UpTo) tt lasts_up_to r memory rank h bytes now c a.1)
    | inr b ↦ inr (whole_arrived_at (EachOf x (λ n. ⊥)) tt (over_lasts x) r memory rank h bytes now c b)
  ]
  arrived_holds (Some (First h total)) memory rank bytes now c same g =
      inl (either_epoch (received_at memory rank h bytes now c) c e (asks h) same same, part_arrived_at (EachOf x UpTo) tt lasts_up_to r (Some (First h total)) memory rank bytes now c g)
  arrived_holds (Some (Later p)) memory rank bytes now c same g = inl (same, part_arrived_at (EachOf x UpTo) tt lasts_up_to r (Some (Later p)) memory rank bytes now c g)
  arrived_holds None memory rank bytes now c same g = inl (same, g)

  step_holds : (s : Step) (c : Copies) → IsOther x s → Holds c → Holds (step s c)
  step_holds (Sends memory rank bytes now) c other h = elim h [
    | inl a ↦ sent_holds (part_of bytes) memory rank bytes now c other a.0 a.1
    | inr b ↦ inr (over_step r x (Sends memory rank bytes now) c other b)
  ]
  step_holds (Hears memory rank bytes now) c other h = elim h [
    | inl a ↦ arrived_holds (part_of bytes) memory rank bytes now c a.0 a.1
    | inr b ↦ inr (over_step r x (Hears memory rank bytes now) c other b)
  ]
  step_holds (Passes again now) c other h = elim h [
    | inl a ↦ inl (
      a.0,
      passed_at (EachOf x UpTo) (EachOf x UpTo) tt lasts_up_to r again now c
          (λ kept g. each_changed x UpTo UpTo (after_sending_if_due again now) (λ k. not (is_spent now k.note)) (λ k isnt f. passes_up_to e again now k.note f) kept g) a.1,
    )
    | inr b ↦ inr (over_step r x (Passes again now) c other b)
  ]

  run_holds : (steps : List Step) (c : Copies) → IsNotSent x steps → Holds c → Holds (run steps c)
  run_holds [] c others h = h
  run_holds (s ∷ steps) c others h = run_holds steps (step s c) others.1 (step_holds s c others.0 h)

pub older : (c : Copies) (rank : ℕ) (x : Outgoing) (steps : List Step) → EachAt rank x (IsUpTo c.epoch) c → IsNotSent x steps → c.epoch < (run steps c).epoch → IsOver rank x (run steps c)
older c rank x steps h others rose = elim (run_holds rank x c.epoch steps c others (inl (refl, h))) [ inl a ↦ absurd (omega (arith, a.0, rose)) | inr b ↦ b ]
