-- The copies of a datagram leave when they are due.
use Rattle.std.specs.Prelude.{◌≡◌, ℕ, zero, suc, ◌+◌, ◌-◌, ◌≤◌, ◌<◌, min, Bool, true, false, ◌&&◌, ◌||◌, not, refl, List, [], ◌∷◌, ◌++◌, map, filter, ◌⊎◌, Option, Some, None, get_or}
use Rattle.std.specs.List.{flat_map}
use Rattle.std.proofs.Common.{cond, leb, ltb, arith, inl, inr, sym, subst}
use Rattle.std.proofs.lemmas.Bool.{cases_Bool}
use Rattle.std.proofs.lemmas.Bool.Decides.{nat_tests}
use Rattle.mon_decode.specs.declared.header.Header.{Header}
use Rattle.mon_decode.specs.Headers.{same_kind}
use Rattle.mon_link.specs.declared.link.Outgoing.{Outgoing}
use Rattle.mon_link.specs.declared.link.Peer.TheVariants.{Monitor}
use Rattle.mon_resend.specs.declared.copies.Copies.{Copies}
use Rattle.mon_resend.specs.declared.note.Event.{Event}
use Rattle.mon_resend.specs.declared.note.Event.TheVariants.{Asked, Released}
use Rattle.mon_resend.specs.declared.note.Note.{Note}
use Rattle.mon_resend.specs.declared.outbox.Outbox.{Outbox}
use Rattle.mon_resend.specs.declared.rows.Way.TheVariants as way
use Rattle.mon_resend.specs.declared.shelf.Kept.{Kept}
use Rattle.mon_resend.specs.Again.{nothing, held_forward, passed, released_by}
use Rattle.mon_resend.specs.Copied.{IsOneOf, datagram}
use Rattle.mon_resend.specs.Notes.{after, after_sending, called, is_due, is_ended, is_spent}
use Rattle.mon_resend.specs.Rows.{is_asked_again, way_of}
use Rattle.mon_resend.specs.Shelves.{after_sending_if_due, due_copies, due_kept, due_sent, with_note}
use Rattle.mon_resend.specs.World.{all_due_copies, box_of}
use Rattle.mon_resend.proofs.Parts.{one_left, one_right}
use Rattle.mon_resend.proofs.Walk.{Grows, Lasts, arrived_at, passed_at, sent_at}
use Rattle.mon_wire.specs.declared.kind.Kind.TheVariants as kind
use Rattle.resend_laws.specs.Copies.{EachOf, EachAt, IsNotSent}
use Rattle.resend_laws.specs.Leaving.{IsDueAgain, IsKept, IsNotEnded, IsUntried, LeavesIn, SomeAt, SomeOf, leaving}
use Rattle.resend_laws.specs.Runs.{Step, Sends, Hears, Passes, IsInOrder, rounds, step}
use Rattle.resend_laws.proofs.Dropped.{IsAt, at_first, hears, next_note, pass, passes, sends, third, went_by_time}
use Rattle.resend_laws.proofs.Each.{each_changed, each_grows, each_is, each_lasts}
use Rattle.resend_laws.proofs.Released.{called_goes}
use Rattle.resend_laws.proofs.Unchanged.{unchanged}

-- ---- what is due is sent

if_due : (x : Outgoing) (k : Kept) (those : List Kept) (b : Bool) → ((k.out ≡ x) × (b ≡ true)) ⊎ IsOneOf (map (λ k. k.out) those) x → IsOneOf (map (λ k. k.out) (cond b (k ∷ those) those)) x
if_due x k those true h = elim h [ inl p ↦ inl (sym p.0) | inr r ↦ inr r ]
if_due x k those false h = elim h [ inl p ↦ absurd cc | inr r ↦ r ]

due_of : (x : Outgoing) (again : Bool) (now : ℕ) (kept : List Kept) → SomeOf x (λ n. is_due again now n ≡ true) kept → IsOneOf (due_copies again now kept) x
due_of x again now [] h = absurd h
due_of x again now (k ∷ kept) h =
    if_due x k (due_kept again now kept) (is_due again now k.note) (elim h [ inl p ↦ inl p | inr r ↦ inr (due_of x again now kept r) ])

due_in : (x : Outgoing) (again : Bool) (now : ℕ) (bs : List Outbox) (r : ℕ) → SomeOf x (λ n. is_due again now n ≡ true) (get_or bs r nothing).shelf → IsOneOf (flat_map (λ b. due_copies again now b.shelf) bs) x
due_in x again now [] r h = absurd h
due_in x again now (b ∷ bs) zero h = one_left (due_copies again now b.shelf) (flat_map (λ b. due_copies again now b.shelf) bs) x (due_of x again now b.shelf h)
due_in x again now (b ∷ bs) (suc r) h = one_right (due_copies again now b.shelf) (flat_map (λ b. due_copies again now b.shelf) bs) x (due_in x again now bs r h)

pub due : (c : Copies) (rank : ℕ) (x : Outgoing) (again : Bool) (now : ℕ) → SomeAt rank x (λ n. is_due again now n ≡ true) c → IsOneOf (all_due_copies again now c) x
due c rank x again now h = due_in x again now c.boxes rank h

pub asked : (n : Note) (h : Header) (again : Bool) (since now : ℕ) → is_asked_again n.header h ≡ true → since ≤ now → is_due again now (after (Asked h) since n) ≡ true
asked n h again since now e le =
    subst (λ b. is_due again now (cond b (called since n) n) ≡ true) (sym e) (called_goes since now again (called since n) (record { due = refl; times = refl }) refl le)

pub goes_on : (n : Note) (wait now : ℕ) → 1000 ≤ wait → n.every ≤ wait → way_of n.header.kind ≡ way.ByTime → n.held ≡ false → is_due true now n ≡ true → IsDueAgain wait now n (after_sending now n)
goes_on n wait now most every by_time first e =
    let few : n.times < 16 = grind (arith, nat_tests, third (leb n.due now) true (ltb n.times 16) e) in
    subst (IsDueAgain wait now n) (sym (went_by_time now n by_time first)) (record { times = omega (arith, few); every = omega (arith, most, every); due = omega (arith, most, every) })

-- ---- one copy of a datagram

module _ (x : Outgoing) where
  some_is : (F G : Note → Type 0) → ((n : Note) → F n → G n) → (kept : List Kept) → SomeOf x F kept → SomeOf x G kept
  some_is F G f [] h = absurd h
  some_is F G f (k ∷ kept) h = elim h [ inl p ↦ inl (p.0, f k.note p.1) | inr r ↦ inr (some_is F G f kept r) ]

  with_each : (F G : Note → Type 0) (kept : List Kept) → EachOf x F kept → SomeOf x G kept → SomeOf x (λ n. F n × G n) kept
  with_each F G [] e h = absurd h
  with_each F G (k ∷ kept) e h = elim h [ inl p ↦ inl (p.0, (e.0 p.0, p.1)) | inr r ↦ inr (with_each F G kept e.1 r) ]

  some_so : (F : Note → Type 0) (test : Note → Bool) (kept : List Kept) → SomeOf x F kept → SomeOf x (λ n. F n × (test n ≡ true)) kept ⊎ SomeOf x (λ n. F n × (test n ≡ false)) kept
  some_so F test [] h = absurd h
  some_so F test (k ∷ kept) h = elim h [
    | inl p ↦ (elim (cases_Bool (test k.note)) [ inl e ↦ inl (inl (p.0, (p.1, e))) | inr e ↦ inr (inl (p.0, (p.1, e))) ])
    | inr r ↦ (elim (some_so F test kept r) [ inl a ↦ inl (inr a) | inr b ↦ inr (inr b) ])
  ]

  if_first : (F : Note → Type 0) (f : Note → Note) (p : Kept → Bool) (k : Kept) (those : List Kept) (b : Bool) → p k ≡ b → SomeOf x F (map (λ k. with_note (f k.note) k) (cond b (k ∷ those) those))
      → ((k.out ≡ x) × (p k ≡ true) × F (f k.note)) ⊎ SomeOf x F (map (λ k. with_note (f k.note) k) those)
  if_first F f p k those true e h = elim h [ inl q ↦ inl (q.0, e, q.1) | inr r ↦ inr r ]
  if_first F f p k those false e h = inr h

  -- one of the copies that stayed is one of those that were kept before
  came_from : (E F G : Note → Type 0) (f : Note → Note) (p : Kept → Bool) → ((k : Kept) → p k ≡ true → E k.note → F (f k.note) → G k.note) → (kept : List Kept) → EachOf x E kept
      → SomeOf x F (map (λ k. with_note (f k.note) k) (filter p kept)) → SomeOf x G kept
  came_from E F G f p a [] each h = absurd h
  came_from E F G f p a (k ∷ kept) each h = elim (if_first F f p k (filter p kept) (p k) refl h) [
    | inl q ↦ inl (q.0, a k q.1 (each.0 q.0) q.2)
    | inr r ↦ inr (came_from E F G f p a kept each.1 r)
  ]

  here : (f : Note → Note) (k : Kept) (those : List Kept) (b : Bool) → b ≡ true → k.out ≡ x → SomeOf x (λ n. Unit {0}) (map (λ k. with_note (f k.note) k) (cond b (k ∷ those) those))
  here f k those true e o = inl (o, tt)
  here f k those false e o = absurd cc

  later : (f : Note → Note) (k : Kept) (those : List Kept) (b : Bool) → SomeOf x (λ n. Unit {0}) (map (λ k. with_note (f k.note) k) those) → SomeOf x (λ n. Unit {0}) (map (λ k. with_note (f k.note) k) (cond b (k ∷ those) those))
  later f k those true h = inr h
  later f k those false h = h

  stays : (F : Note → Type 0) (f : Note → Note) (p : Kept → Bool) → ((k : Kept) → F k.note → p k ≡ true) → (kept : List Kept) → SomeOf x F kept → SomeOf x (λ n. Unit {0}) (map (λ k. with_note (f k.note) k) (filter p kept))
  stays F f p a [] h = absurd h
  stays F f p a (k ∷ kept) h = elim h [
    | inl q ↦ here f k (filter p kept) (p k) (a k q.1) q.0
    | inr r ↦ later f k (filter p kept) (p k) (stays F f p a kept r)
  ]

  -- ---- time passes, and the copy is kept

  released_stays : (now : ℕ) (kept : List Kept) (forward : Option ℕ) → SomeOf x (λ n. Unit {0}) kept → SomeOf x (λ n. Unit {0}) (released_by now kept forward)
  released_stays now kept None h = h
  released_stays now kept (Some seq) h = stays (λ n. Unit {0}) (after (Released seq) now) (λ k. not (is_ended (Released seq) k.note)) (λ k u. refl) kept h

  not_spent : (b : Bool) → b ≡ false → not b ≡ true
  not_spent true e = absurd cc
  not_spent false e = refl

  passing : (again : Bool) (now : ℕ) (b : Outbox) → SomeOf x (λ n. is_spent now n ≡ false) b.shelf → SomeOf x (λ n. Unit {0}) (passed again now b).shelf
  passing again now b h =
      let there = due_sent again now b.shelf in
      released_stays now there (held_forward there)
      (stays (λ n. is_spent now n ≡ false) (after_sending_if_due again now) (λ k. not (is_spent now k.note)) (λ k e. not_spent (is_spent now k.note) e) b.shelf h)

  passes_kept : (again : Bool) (now : ℕ) (bs : List Outbox) (r : ℕ) → SomeOf x (λ n. is_spent now n ≡ false) (get_or bs r nothing).shelf → SomeOf x (λ n. Unit {0}) (get_or (map (λ b. passed again now b) bs) r nothing).shelf
  passes_kept again now [] r h = absurd h
  passes_kept again now (b ∷ bs) zero h = passing again now b h
  passes_kept again now (b ∷ bs) (suc r) h = passes_kept again now bs r h

-- ---- from a copy after a step back to one before it

-- no event changes the note
record IsSteady (n : Note) : Type 0 where
  by_time : way_of n.header.kind ≡ way.ByTime
  no_chunk : same_kind n.header.kind kind.GetChunk ≡ false
  not_held : n.held ≡ false

steady : (event : Event) (now : ℕ) (n : Note) → IsSteady n → IsSteady (after event now n)
steady event now n h = subst IsSteady (sym (unchanged event now n h.by_time h.no_chunk h.not_held)) h

-- a copy of x of which F holds is one of which Q follows
record Back (x : Outgoing) (F : Note → Type 0) (Q : Type 0) (kept : List Kept) : Type 0 where
  each : EachOf x IsSteady kept
  back : SomeOf x F kept → Q

module _ (x : Outgoing) (F : Note → Type 0) (Q : Type 0) where
  none_back : Back x F Q []
  none_back = record { each = tt; back = λ h. absurd h }

  back_lasts : Lasts (Back x F Q)
  back_lasts event now kept h = record {
    each = each_lasts x IsSteady steady event now kept h.each;
    back = λ s. h.back (came_from x IsSteady F F (after event now) (λ k. not (is_ended event k.note)) (λ k e g f. subst F (unchanged event now k.note g.by_time g.no_chunk g.not_held) f) kept h.each s);
  }

  but_last : (out : Outgoing) → (out ≡ x → ⊥) → (n : Note) (kept : List Kept) → SomeOf x F (kept ++ record { out = out; note = n } ∷ []) → SomeOf x F kept
  but_last out other n [] h = elim h [ inl p ↦ absurd (other p.0) | inr r ↦ absurd r ]
  but_last out other n (k ∷ kept) h = elim h [ inl p ↦ inl p | inr r ↦ inr (but_last out other n kept r) ]

  back_grows : (out : Outgoing) → (out ≡ x → ⊥) → Grows (Back x F Q) out
  back_grows out other n kept room h = record {
    each = each_grows x IsSteady out other n kept room h.each;
    back = λ s. h.back (but_last out other n kept s);
  }

-- ---- in each round

went : (m fewer : ℕ) (x : Outgoing) (s : Step) (steps : List Step) (c : Copies) → m - 1 ≡ fewer → IsOneOf (leaving s c) x → LeavesIn fewer x steps (step s c) → LeavesIn m x (s ∷ steps) c
went zero fewer x s steps c e one h = tt
went (suc m) fewer x s steps c e one h = let same : fewer ≡ m = omega (arith, e) in inl (one, subst (λ k. LeavesIn k x steps (step s c)) same h)

waited : (m : ℕ) (x : Outgoing) (s : Step) (steps : List Step) (c : Copies) → LeavesIn m x steps (step s c) → LeavesIn m x (s ∷ steps) c
waited zero x s steps c h = tt
waited (suc m) x s steps c h = inr h

none_left : (m : ℕ) (x : Outgoing) (steps : List Step) (c : Copies) → m ≡ 0 → LeavesIn m x steps c
none_left m x steps c e = subst (λ k. LeavesIn k x steps c) (sym e) tt

module _ (rank : ℕ) (x : Outgoing) (wait : ℕ) (most : 1000 ≤ wait) (many : ℕ) (within : many ≤ 16) where
  -- x leaves in as many of the steps as the copy still has to leave
  abbrev Rest : List Step → Copies → Note → Type 0
  Rest steps c n = LeavesIn (many - n.times) x steps c

  steady_of : (j since now : ℕ) (kept : List Kept) → EachOf x (IsAt wait j since now) kept → EachOf x IsSteady kept
  steady_of j since now kept h = each_is x (IsAt wait j since now) IsSteady (λ n g. record { by_time = g.by_time; no_chunk = g.no_chunk; not_held = g.not_held }) kept h

  before : (j since now : ℕ) (s : Step) (steps : List Step) (c : Copies) → EachAt rank x (IsAt wait j since now) c → Back x (Rest steps (step s c)) (SomeAt rank x (Rest (s ∷ steps) c) c) (box_of rank c).shelf
  before j since now s steps c h = record {
    each = steady_of j since now (box_of rank c).shelf h;
    back = some_is x (Rest steps (step s c)) (Rest (s ∷ steps) c) (λ n g. waited (many - n.times) x s steps c g) (box_of rank c).shelf;
  }

  -- ---- time passes

  module _ (again : Bool) (at : ℕ) (steps : List Step) (c : Copies) where
    abbrev s : Step
    s = Passes again at

    abbrev Then : Note → Type 0
    Then n = Rest steps (step s c) (after_sending_if_due again at n)

    abbrev Result : Type 0
    Result = SomeAt rank x (Rest (s ∷ steps) c) c

    if_went : (n : Note) → IsOneOf (leaving s c) x → IsSteady n → is_due again at n ≡ true → Then n → Rest (s ∷ steps) c n
    if_went n one g e h =
        let few : n.times < 16 = grind (arith, nat_tests, third (leb n.due at) (again || n.held) (ltb n.times 16) e) in
        let gone : Rest steps (step s c) (next_note at n) =
        subst (Rest steps (step s c)) (went_by_time at n g.by_time g.not_held) (subst (λ b. Rest steps (step s c) (cond b (after_sending at n) n)) e h) in
        went (many - n.times) (many - (next_note at n).times) x s steps c (omega (arith, few)) one gone

    if_stayed : (n : Note) → is_due again at n ≡ false → Then n → Rest (s ∷ steps) c n
    if_stayed n e h = waited (many - n.times) x s steps c (subst (λ b. Rest steps (step s c) (cond b (after_sending at n) n)) e h)

    passed_back : (kept : List Kept) → EachOf x IsSteady kept → (SomeOf x (λ n. is_due again at n ≡ true) kept → IsOneOf (leaving s c) x) → SomeOf x Then kept → SomeOf x (Rest (s ∷ steps) c) kept
    passed_back kept each leaves h =
        elim (some_so x (λ n. IsSteady n × Then n) (is_due again at) kept (with_each x IsSteady Then kept each h)) [
          | inl a ↦
              let one = leaves (some_is x (λ n. (IsSteady n × Then n) × (is_due again at n ≡ true)) (λ n. is_due again at n ≡ true) (λ n p. p.1) kept a) in
              some_is x (λ n. (IsSteady n × Then n) × (is_due again at n ≡ true)) (Rest (s ∷ steps) c) (λ n p. if_went n one p.0.0 p.1 p.0.1) kept a
          | inr b ↦ some_is x (λ n. (IsSteady n × Then n) × (is_due again at n ≡ false)) (Rest (s ∷ steps) c) (λ n p. if_stayed n p.1 p.0.1) kept b
        ]

    -- what is to leave leaves, and Result follows from one of these
    record Ready (kept : List Kept) : Type 0 where
      each : EachOf x IsSteady kept
      leaves : SomeOf x (λ n. is_due again at n ≡ true) kept → IsOneOf (leaving s c) x
      back : SomeOf x (Rest (s ∷ steps) c) kept → Result

    steady_sent : (n : Note) → IsSteady n → IsSteady (after_sending_if_due again at n)
    steady_sent n g = if_sent (is_due again at n)
      where
        if_sent : (b : Bool) → IsSteady (cond b (after_sending at n) n)
        if_sent true = subst IsSteady (sym (went_by_time at n g.by_time g.not_held)) (record { by_time = g.by_time; no_chunk = g.no_chunk; not_held = g.not_held })
        if_sent false = g

    sent_back : (kept : List Kept) → Ready kept → Back x (Rest steps (step s c)) Result (due_sent again at kept)
    sent_back kept h = record {
      each = each_changed x IsSteady IsSteady (after_sending_if_due again at) (λ k. not (is_spent at k.note)) (λ k e g. steady_sent k.note g) kept h.each;
      back = λ r. h.back (passed_back kept h.each h.leaves (came_from x IsSteady (Rest steps (step s c)) Then (after_sending_if_due again at) (λ k. not (is_spent at k.note)) (λ k e g f. f) kept h.each r));
    }

    goes_back : (j since now : ℕ) → EachAt rank x (IsAt wait j since now) c → SomeAt rank x (Rest steps (step s c)) (step s c) → Result
    goes_back j since now h some =
        let F = Rest steps (step s c) in
        let ready : Ready (box_of rank c).shelf = record { each = steady_of j since now (box_of rank c).shelf h; leaves = due c rank x again at; back = λ r. r } in
        (passed_at Ready (Back x F Result) (none_back x F Result) (back_lasts x F Result) rank again at c sent_back ready).back some

  -- ---- one step after the other

  abbrev Claim : List Step → Type 0
  Claim steps = (j since now : ℕ) (c : Copies) → EachAt rank x (IsAt wait j since now) c → IsKept rank x c → IsNotSent x steps → IsInOrder now steps → IsNotEnded rank x steps c
      → many ≤ j + rounds wait since steps → SomeAt rank x (Rest steps c) c

  spent : (at : ℕ) (n : Note) (steps : List Step) (c : Copies) → is_spent at n ≡ true → Rest steps c n
  spent at n steps c e =
      let often : 16 ≤ n.times = grind (arith, nat_tests, second (leb n.due at) (leb 16 n.times) e) in
      none_left (many - n.times) x steps c (omega (arith, within, often))
    where
      second : (a b : Bool) → (a && b) ≡ true → b ≡ true
      second true b e = e
      second false b e = absurd cc

  unless_spent : (again : Bool) (at : ℕ) (steps : List Step) (c : Copies) → IsKept rank x c → (IsKept rank x (step (Passes again at) c) → SomeAt rank x (Rest (Passes again at ∷ steps) c) c)
      → SomeAt rank x (Rest (Passes again at ∷ steps) c) c
  unless_spent again at steps c kept goes =
      elim (some_so x (λ n. Unit {0}) (is_spent at) (box_of rank c).shelf kept) [
        | inl a ↦ some_is x (λ n. Unit {0} × (is_spent at n ≡ true)) (Rest (Passes again at ∷ steps) c) (λ n p. spent at n (Passes again at ∷ steps) c p.1) (box_of rank c).shelf a
        | inr b ↦ goes (passes_kept x again at c.boxes rank (some_is x (λ n. Unit {0} × (is_spent at n ≡ false)) (λ n. is_spent at n ≡ false) (λ n p. p.1) (box_of rank c).shelf b))
      ]

  rest : (steps : List Step) → Claim steps
  rest [] j since now c h kept others order stays all =
      some_is x (λ n. IsAt wait j since now n × Unit {0}) (Rest [] c) (λ n p. enough n p.0) (box_of rank c).shelf (with_each x (IsAt wait j since now) (λ n. Unit {0}) (box_of rank c).shelf h kept)
    where
      enough : (n : Note) → IsAt wait j since now n → Rest [] c n
      enough n g = none_left (many - n.times) x [] c (elim g.either [ inl a ↦ omega (arith, all, a.1) | inr b ↦ omega (arith, all, b.1) ])
  rest (Sends memory to bytes at ∷ steps) j since now c h kept others order stays all =
      let s = Sends memory to bytes at in
      let F = Rest steps (step s c) in
      let Q = SomeAt rank x (Rest (s ∷ steps) c) c in
      let some = rest steps j since at (step s c) (sends rank x wait most j since now memory to bytes at c others.0 order.0 h) stays.0 others.1 order.1 stays.1 all in
      (sent_at (Back x F Q) (none_back x F Q) (back_lasts x F Q) rank memory to bytes at c (back_grows x F Q (datagram (Monitor to) bytes) others.0) (before j since now s steps c h)).back some
  rest (Hears memory from bytes at ∷ steps) j since now c h kept others order stays all =
      let s = Hears memory from bytes at in
      let F = Rest steps (step s c) in
      let Q = SomeAt rank x (Rest (s ∷ steps) c) c in
      let some = rest steps j since at (step s c) (hears rank x wait most j since now memory from bytes at c order.0 h) stays.0 others.1 order.1 stays.1 all in
      (arrived_at (Back x F Q) (none_back x F Q) (back_lasts x F Q) rank memory from bytes at c (before j since now s steps c h)).back some
  rest (Passes false at ∷ steps) j since now c h kept others order stays all =
      unless_spent false at steps c kept
      (λ k. goes_back false at steps c j since now h (rest steps j since at (step (Passes false at) c) (passes rank x wait most j since now at false c order.0 h) k others.1 order.1 stays all))
  rest (Passes true at ∷ steps) j since now c h kept others order stays all =
      unless_spent true at steps c kept
      (λ k. goes_back true at steps c j since now h (elim (pass rank x wait most many j since now at steps c (leb (since + wait) at) refl order.0 h all) [
        | inl a ↦ rest steps (suc j) at at (step (Passes true at) c) a.0 k others.1 order.1 stays a.1
        | inr b ↦ rest steps j since at (step (Passes true at) c) b.0 k others.1 order.1 stays b.1
      ]))

some_holds : (x : Outgoing) (F : Note → Type 0) (R : Type 0) → ((n : Note) → F n → R) → (kept : List Kept) → SomeOf x F kept → R
some_holds x F R f [] h = absurd h
some_holds x F R f (k ∷ kept) h = elim h [ inl p ↦ f k.note p.1 | inr r ↦ some_holds x F R f kept r ]

pub each_round : (c : Copies) (rank : ℕ) (x : Outgoing) (wait since : ℕ) (steps : List Step) → 1000 ≤ wait → EachAt rank x (IsUntried wait since) c → IsKept rank x c → IsNotSent x steps → IsInOrder since steps
    → IsNotEnded rank x steps c → LeavesIn (min 16 (rounds wait since steps)) x steps c
each_round c rank x wait since steps most h kept others order stays =
    let many = min 16 (rounds wait since steps) in
    let shelf = (box_of rank c).shelf in
    let F : Note → Type 0 = λ n. LeavesIn (many - n.times) x steps c in
    let tried = each_is x (IsUntried wait since) (IsAt wait 0 since since) (λ n g. at_first wait since n g.tried) shelf h in
    let some = rest rank x wait most many (omega arith) steps 0 since since c tried kept others order stays (omega arith) in
    some_holds x (λ n. IsUntried wait since n × F n) (LeavesIn many x steps c)
    (λ n p. let same : many - n.times ≡ many = omega (arith, p.0.times) in subst (λ m. LeavesIn m x steps c) same p.1) shelf (with_each x (IsUntried wait since) F shelf h some)
