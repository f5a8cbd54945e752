-- The first FORWARD that is kept was sent, or is now to be sent.
use Rattle.std.specs.Prelude.{◌≡◌, ℕ, ◌≤◌, Bool, true, false, ◌&&◌, refl, List, [], ◌∷◌, Option, Some, None}
use Rattle.std.proofs.Common.{cond, eqb, leb, ltb, arith, inl, inr, sym, subst}
use Rattle.std.proofs.lemmas.Bool.{cases_Bool}
use Rattle.std.proofs.lemmas.Bool.Decides.{nat_tests}
use Rattle.mon_resend.specs.declared.copies.Copies.{Copies}
use Rattle.mon_resend.specs.declared.note.Event.TheVariants.{Released}
use Rattle.mon_resend.specs.declared.note.Note.{Note}
use Rattle.mon_resend.specs.declared.shelf.Kept.{Kept}
use Rattle.mon_resend.specs.Again.{first_forward, if_held, held_forward, released, released_by}
use Rattle.mon_resend.specs.Notes.{after, called, is_due}
use Rattle.mon_resend.specs.Shelves.{applied, due_sent, with_note}
use Rattle.mon_resend.specs.World.{all_passed, box_of}
use Rattle.mon_resend.proofs.Steps.{passed_at}
use Rattle.resend_laws.proofs.Lines.{is_forward}
use Rattle.resend_laws.proofs.Unchanged.{header_stays}

-- the copy is due at this time, as if for the first time
pub record IsCalled (now : ℕ) (n : Note) : Type 0 where
  pub due : n.due ≡ now
  pub times : n.times ≡ 0

abbrev FirstIsCalled : ℕ → List Kept → Type 0
FirstIsCalled now kept = (k : Kept) → first_forward kept ≡ Some k → k.note.held ≡ true → IsCalled now k.note

-- if the first FORWARD isn't to be let go, it isn't held
held_none : (k x : Kept) → if_held (Some x) ≡ None → Some x ≡ Some k → k.note.held ≡ true → ⊥
held_none k x none is held =
    let same : x ≡ k = cc in
    let f = subst (λ b. cond b (Some x.note.header.first) None ≡ None) (subst (λ y. y.note.held ≡ true) (sym same) held) none in
    absurd cc

held_some : (x : Kept) (seq : ℕ) → if_held (Some x) ≡ Some seq → (x.note.held ≡ true) × (x.note.header.first ≡ seq)
held_some x seq e = if_so x.note.held refl
  where
    if_so : (b : Bool) → x.note.held ≡ b → (x.note.held ≡ true) × (x.note.header.first ≡ seq)
    if_so true is = let f = subst (λ b. cond b (Some x.note.header.first) None ≡ Some seq) is e in (is, cc)
    if_so false is = let f = subst (λ b. cond b (Some x.note.header.first) None ≡ Some seq) is e in absurd cc

is_called : (now seq : ℕ) (n : Note) → n.held ≡ true → n.header.first ≡ seq → IsCalled now (after (Released seq) now n)
is_called now seq n held same =
    let verdict_it : (n.held && eqb n.header.first seq) ≡ true = grind (arith, nat_tests, held, same) in
    subst (λ b. IsCalled now (cond b (called now n) n)) (sym verdict_it) (record { due = refl; times = refl })

first_called : (now seq : ℕ) (kept : List Kept) → held_forward kept ≡ Some seq → FirstIsCalled now (applied (Released seq) now kept)
first_called now seq [] e k is held = absurd cc
first_called now seq (x ∷ kept) e k is held =
    let rest = applied (Released seq) now kept in
    let x_now = with_note (after (Released seq) now x.note) x in
    elim (cases_Bool (is_forward x.note.header)) [
      | inl w ↦
          let p = held_some x seq (subst (λ b. if_held (cond b (Some x) (first_forward kept)) ≡ Some seq) w e) in
          let w_now : is_forward x_now.note.header ≡ true = subst (λ h. is_forward h ≡ true) (sym (header_stays (Released seq) now x.note)) w in
          let same : Some x_now ≡ Some k = subst (λ b. cond b (Some x_now) (first_forward rest) ≡ Some k) w_now is in
          let it : x_now ≡ k = cc in
          subst (λ y. IsCalled now y.note) it (is_called now seq x.note p.0 p.1)
      | inr w ↦
          let w_now : is_forward x_now.note.header ≡ false = subst (λ h. is_forward h ≡ false) (sym (header_stays (Released seq) now x.note)) w in
          first_called now seq kept (subst (λ b. if_held (cond b (Some x) (first_forward kept)) ≡ Some seq) w e) k
          (subst (λ b. cond b (Some x_now) (first_forward rest) ≡ Some k) w_now is) held
    ]

none_held : (kept : List Kept) (first : Option Kept) → first_forward kept ≡ first → if_held first ≡ None → (k : Kept) → first_forward kept ≡ Some k → k.note.held ≡ true → ⊥
none_held kept None same none k is held = absurd cc
none_held kept (Some x) same none k is held = let e : Some x ≡ Some k = cc in held_none k x none e held

released_first : (now : ℕ) (kept : List Kept) → FirstIsCalled now (released now kept)
released_first now kept = if_released (held_forward kept) refl
  where
    if_released : (next_forward : Option ℕ) → held_forward kept ≡ next_forward → FirstIsCalled now (released_by now kept next_forward)
    if_released None e k is held = absurd (none_held kept (first_forward kept) refl e k is held)
    if_released (Some seq) e k is held = first_called now seq kept e k is held

pub called_goes : (since now : ℕ) (again : Bool) (n : Note) → IsCalled since n → n.held ≡ true → since ≤ now → is_due again now n ≡ true
called_goes since now again n h held le =
    let due : leb n.due now ≡ true = grind (arith, nat_tests, h.due, le) in
    let few : ltb n.times 16 ≡ true = grind (arith, nat_tests, h.times) in
    grind (arith, nat_tests, due, few, held)

pub next_forward : (c : Copies) (rank : ℕ) (before again : Bool) (since now : ℕ) (k : Kept) → first_forward (box_of rank (all_passed before since c)).shelf ≡ Some k → k.note.held ≡ true → since ≤ now → is_due again now k.note ≡ true
next_forward c rank before again since now k is held le =
    let first = passed_at (λ kept u. Unit {0}) (λ kept u. FirstIsCalled since kept) (λ k is held. absurd cc) rank before since c (λ kept u h. released_first since (due_sent before since kept)) tt in
    called_goes since now again k.note (first k is held) held le
