-- What holds of the note of each copy of a datagram after a step.
use Rattle.std.specs.Prelude.{◌≡◌, ℕ, Bool, true, false, not, refl, List, [], ◌∷◌, ◌++◌, map, filter}
use Rattle.std.proofs.Common.{cond}
use Rattle.mon_link.specs.declared.link.Outgoing.{Outgoing}
use Rattle.mon_link.specs.declared.link.Peer.TheVariants.{Monitor}
use Rattle.mon_resend.specs.declared.copies.Copies.{Copies}
use Rattle.mon_resend.specs.declared.note.Event.{Event}
use Rattle.mon_resend.specs.declared.note.Note.{Note}
use Rattle.mon_resend.specs.declared.shelf.Kept.{Kept}
use Rattle.mon_resend.specs.Copied.{datagram}
use Rattle.mon_resend.specs.Notes.{after, is_ended, is_spent}
use Rattle.mon_resend.specs.Shelves.{with_note, after_sending_if_due, due_sent}
use Rattle.resend_laws.specs.Copies.{EachOf, IsOver, IsOther, StaysOver}
use Rattle.resend_laws.specs.Runs.{Step, Sends, Hears, Passes, step}
use Rattle.mon_resend.proofs.Walk.{Lasts, Grows, sent_at, arrived_at, passed_at}

if_first : (x : Outgoing) (G : Note → Type 0) (f : Note → Note) (k : Kept) (those : List Kept) (b : Bool) → (b ≡ true → k.out ≡ x → G (f k.note))
    → EachOf x G (map (λ k. with_note (f k.note) k) those) → EachOf x G (map (λ k. with_note (f k.note) k) (cond b (k ∷ those) those))
if_first x G f k those true one h = (one refl, h)
if_first x G f k those false one h = h

-- some copies stay, with changed notes
pub each_changed : (x : Outgoing) (F G : Note → Type 0) (f : Note → Note) (p : Kept → Bool) → ((k : Kept) → p k ≡ true → F k.note → G (f k.note)) → (kept : List Kept)
    → EachOf x F kept → EachOf x G (map (λ k. with_note (f k.note) k) (filter p kept))
each_changed x F G f p a [] h = tt
each_changed x F G f p a (k ∷ kept) h = if_first x G f k (filter p kept) (p k) (λ e o. a k e (h.0 o)) (each_changed x F G f p a kept h.1)

each_more : (x : Outgoing) (F : Note → Type 0) (out : Outgoing) → (out ≡ x → ⊥) → (n : Note) (kept : List Kept) → EachOf x F kept → EachOf x F (kept ++ record { out = out; note = n } ∷ [])
each_more x F out other n [] h = (λ e. absurd (other e), tt)
each_more x F out other n (k ∷ kept) h = (h.0, each_more x F out other n kept h.1)

pub each_grows : (x : Outgoing) (F : Note → Type 0) (out : Outgoing) → (out ≡ x → ⊥) → Grows (EachOf x F) out
each_grows x F out other n kept room h = each_more x F out other n kept h

-- a property of notes that stays true after each event
abbrev pub IsStable : (Note → Type 0) → Type 0
IsStable F = (event : Event) (now : ℕ) (n : Note) → F n → F (after event now n)

pub each_lasts : (x : Outgoing) (F : Note → Type 0) → IsStable F → Lasts (EachOf x F)
each_lasts x F stable event now kept h = each_changed x F F (after event now) (λ k. not (is_ended event k.note)) (λ k e g. stable event now k.note g) kept h

-- ---- no copy of a datagram is kept

never : IsStable (λ n. ⊥)
never event now n h = h

pub over_lasts : (x : Outgoing) → Lasts (EachOf x (λ n. ⊥))
over_lasts x = each_lasts x (λ n. ⊥) never

pub over_goes : (x : Outgoing) (again : Bool) (now : ℕ) (kept : List Kept) → EachOf x (λ n. ⊥) kept → EachOf x (λ n. ⊥) (due_sent again now kept)
over_goes x again now kept h = each_changed x (λ n. ⊥) (λ n. ⊥) (after_sending_if_due again now) (λ k. not (is_spent now k.note)) (λ k e g. g) kept h

pub over_step : (rank : ℕ) (x : Outgoing) (s : Step) (c : Copies) → IsOther x s → IsOver rank x c → IsOver rank x (step s c)
over_step rank x (Sends memory to bytes now) c other h = sent_at (EachOf x (λ n. ⊥)) tt (over_lasts x) rank memory to bytes now c (each_grows x (λ n. ⊥) (datagram (Monitor to) bytes) other) h
over_step rank x (Hears memory from bytes now) c other h = arrived_at (EachOf x (λ n. ⊥)) tt (over_lasts x) rank memory from bytes now c h
over_step rank x (Passes again now) c other h = passed_at (EachOf x (λ n. ⊥)) (EachOf x (λ n. ⊥)) tt (over_lasts x) rank again now c (over_goes x again now) h

pub stays_over : (rank : ℕ) (x : Outgoing) (c : Copies) → IsOver rank x c → StaysOver rank x c
stays_over rank x c h [] others = h
stays_over rank x c h (s ∷ steps) others = stays_over rank x (step s c) (over_step rank x s c others.0 h) steps others.1

pub each_is : (x : Outgoing) (F G : Note → Type 0) → ((n : Note) → F n → G n) → (kept : List Kept) → EachOf x F kept → EachOf x G kept
each_is x F G a [] h = tt
each_is x F G a (k ∷ kept) h = (λ e. a k.note (h.0 e), each_is x F G a kept h.1)

pub no_not : (b : Bool) → not b ≡ true → b ≡ true → ⊥
no_not true e f = absurd cc
no_not false e f = absurd cc
