-- The FORWARDs that are kept for a monitor are a queue: their numbers never decrease, and those after the first one
-- wait.
use Rattle.std.specs.Prelude.{◌≡◌, ℕ, ◌-◌, ◌^◌, ◌≤◌, ◌<◌, Bool, true, false, ◌&&◌, ◌||◌, refl, List, [], ◌∷◌, ◌++◌, map, filter, Some, None, ◌⊎◌}
use Rattle.std.specs.List.{AllByRecursion}
use Rattle.std.proofs.Common.{cond, eqb, leb, ltb, arith, ap, inl, inr, sym, subst, ◌∙◌}
use Rattle.std.proofs.lemmas.Bool.{cond_both, cases_Bool}
use Rattle.std.proofs.lemmas.Bool.Decides.{nat_tests}
use Rattle.std.proofs.lemmas.List.Concat.{flat_map-append}
use Rattle.mon_decode.specs.declared.header.Header.{Header}
use Rattle.mon_decode.specs.Headers.{same_kind}
use Rattle.mon_resend.specs.declared.note.Event.TheVariants.{Released}
use Rattle.mon_resend.specs.declared.note.Note.{Note}
use Rattle.mon_resend.specs.declared.shelf.Kept.{Kept}
use Rattle.mon_resend.specs.Again.{first_forward, if_held, held_forward}
use Rattle.mon_resend.specs.Notes.{after, called, is_due}
use Rattle.mon_resend.specs.Shelves.{applied, with_note}
use Rattle.mon_wire.specs.declared.kind.Kind.TheVariants as kind
use Rattle.resend_laws.specs.Forwards.{number_of, numbers}
use Rattle.resend_laws.proofs.Unchanged.{header_stays}

abbrev pub is_forward : Header → Bool
is_forward h = same_kind h.kind kind.Forward

abbrev pub All : (ℕ → Type 0) → List ℕ → Type 0
All P ns = AllByRecursion P ns

-- ---- lists of numbers

-- the numbers never decrease, and none is below `low`
abbrev pub Climbs : (low : ℕ) → List ℕ → Type 0
Climbs low [] = Unit {0}
Climbs low (q ∷ ns) = (low ≤ q) × Climbs q ns

pub climbs_lower : (low q : ℕ) (ns : List ℕ) → low ≤ q → Climbs q ns → Climbs low ns
climbs_lower low q [] le h = tt
climbs_lower low q (p ∷ ns) le h = (omega (arith, le, h.0), h.1)

pub climbs_all : (low : ℕ) (ns : List ℕ) → Climbs low ns → All (λ q. low ≤ q) ns
climbs_all low [] h = tt
climbs_all low (q ∷ ns) h = (h.0, climbs_all low ns (climbs_lower low q ns h.0 h.1))

pub all_more : (P : ℕ → Type 0) (ns : List ℕ) (q : ℕ) → All P ns → P q → All P (ns ++ q ∷ [])
all_more P [] q h p = (p, tt)
all_more P (n ∷ ns) q h p = (h.0, all_more P ns q h.1 p)

pub all_are : (P Q : ℕ → Type 0) → ((q : ℕ) → P q → Q q) → (ns : List ℕ) → All P ns → All Q ns
all_are P Q f [] h = tt
all_are P Q f (n ∷ ns) h = (f n h.0, all_are P Q f ns h.1)

pub climbs_more : (low : ℕ) (ns : List ℕ) (q : ℕ) → Climbs low ns → low ≤ q → All (λ n. n ≤ q) ns → Climbs low (ns ++ q ∷ [])
climbs_more low [] q h le a = (le, tt)
climbs_more low (n ∷ ns) q h le a = (h.0, climbs_more n ns q h.1 a.0 a.1)

-- the first number, or this one if there is none
abbrev pub first_or : ℕ → List ℕ → ℕ
first_or low [] = low
first_or low (q ∷ ns) = q

-- ---- one copy's number

-- what holds of the numbers with that of this header, whether it is one of a FORWARD or not
pub with_first : (P : List ℕ → Type 0) (h : Header) (ns : List ℕ) → (is_forward h ≡ true → P (h.first ∷ ns)) → (is_forward h ≡ false → P ns) → P (number_of h ++ ns)
with_first P h ns of_one of_none = cond_both (is_forward h) (h.first ∷ []) [] (λ xs. P (xs ++ ns)) of_one of_none

pub if_first : (P : List ℕ → Type 0) (h : Header) (ns : List ℕ) → is_forward h ≡ true → P (number_of h ++ ns) → P (h.first ∷ ns)
if_first P h ns e p = subst (λ b. P (cond b (h.first ∷ []) [] ++ ns)) e p

pub if_none : (P : List ℕ → Type 0) (h : Header) (ns : List ℕ) → is_forward h ≡ false → P (number_of h ++ ns) → P ns
if_none P h ns e p = subst (λ b. P (cond b (h.first ∷ []) [] ++ ns)) e p

rest_climbs : (low : ℕ) (h : Header) (ns : List ℕ) → Climbs low (number_of h ++ ns) → Climbs low ns
rest_climbs low h ns c =
    elim (cases_Bool (is_forward h)) [
      | inl e ↦ let d = if_first (Climbs low) h ns e c in climbs_lower low h.first ns d.0 d.1
      | inr e ↦ if_none (Climbs low) h ns e c
    ]

rest_all : (P : ℕ → Type 0) (h : Header) (ns : List ℕ) → All P (number_of h ++ ns) → All P ns
rest_all P h ns a = elim (cases_Bool (is_forward h)) [ inl e ↦ (if_first (All P) h ns e a).1 | inr e ↦ if_none (All P) h ns e a ]

-- ---- the line

-- the copy waits until an event makes it due
pub record Waits (n : Note) : Type 0 where
  pub held : n.held ≡ true
  pub due : n.due ≡ 2 ^ 64 - 1

-- each FORWARD has this number, or waits
abbrev pub Waiting : ℕ → List Kept → Type 0
Waiting q kept = AllByRecursion (λ k. is_forward k.note.header ≡ true → (k.note.header.first ≡ q) ⊎ Waits k.note) kept

-- each FORWARD has the first one's number, or waits
abbrev pub Queue : List Kept → Type 0
Queue [] = Unit {0}
Queue (k ∷ kept) = (is_forward k.note.header ≡ true → Waiting k.note.header.first kept) × (is_forward k.note.header ≡ false → Queue kept)

-- each FORWARD has a number of which this holds
abbrev pub EachNumber : (ℕ → Type 0) → List Kept → Type 0
EachNumber P kept = AllByRecursion (λ k. is_forward k.note.header ≡ true → P k.note.header.first) kept

pub each_number : (P : ℕ → Type 0) (kept : List Kept) → All P (numbers kept) → EachNumber P kept
each_number P [] a = tt
each_number P (k ∷ kept) a =
    (λ e. (if_first (All P) k.note.header (numbers kept) e a).0, each_number P kept (rest_all P k.note.header (numbers kept) a))

-- ---- some stay, and change

abbrev pub Same : (Note → Note) → Type 0
Same f = (n : Note) → (f n).header ≡ n.header

-- a FORWARD that waits has this number, or still waits
abbrev pub SteadyBut : ℕ → (Note → Note) → Type 0
SteadyBut q f = (n : Note) → is_forward n.header ≡ true → Waits n → (n.header.first ≡ q) ⊎ Waits (f n)

abbrev pub Steady : (Note → Note) → Type 0
Steady f = (n : Note) → is_forward n.header ≡ true → Waits n → Waits (f n)

abbrev pub changed : (Note → Note) → List Kept → List Kept
changed f kept = map (λ k. with_note (f k.note) k) kept

module _ (f : Note → Note) (same : Same f) (p : Kept → Bool) where
  pub climbs_changed : (kept : List Kept) (low : ℕ) → Climbs low (numbers kept) → Climbs low (numbers (changed f (filter p kept)))
  climbs_changed [] low c = c
  climbs_changed (k ∷ kept) low c =
      let more = numbers (changed f (filter p kept)) in
      cond_both (p k) (k ∷ filter p kept) (filter p kept) (λ those. Climbs low (numbers (changed f those)))
      (λ e. subst (λ h. Climbs low (number_of h ++ more)) (sym (same k.note))
      (with_first (Climbs low) k.note.header more
      (λ w. let d = if_first (Climbs low) k.note.header (numbers kept) w c in (d.0, climbs_changed kept k.note.header.first d.1))
      (λ w. climbs_changed kept low (if_none (Climbs low) k.note.header (numbers kept) w c))))
      (λ e. climbs_changed kept low (rest_climbs low k.note.header (numbers kept) c))

  pub all_changed : (P : ℕ → Type 0) (kept : List Kept) → All P (numbers kept) → All P (numbers (changed f (filter p kept)))
  all_changed P [] a = a
  all_changed P (k ∷ kept) a =
      let more = all_changed P kept (rest_all P k.note.header (numbers kept) a) in
      let those = numbers (changed f (filter p kept)) in
      cond_both (p k) (k ∷ filter p kept) (filter p kept) (λ ks. All P (numbers (changed f ks)))
      (λ e. subst (λ h. All P (number_of h ++ those)) (sym (same k.note))
      (with_first (All P) k.note.header those (λ w. ((if_first (All P) k.note.header (numbers kept) w a).0, more)) (λ w. more)))
      (λ e. more)

  pub waiting_changed : (q : ℕ) → SteadyBut q f → (kept : List Kept) → Waiting q kept → Waiting q (changed f (filter p kept))
  waiting_changed q steady [] w = tt
  waiting_changed q steady (k ∷ kept) w =
      let more = waiting_changed q steady kept w.1 in
      cond_both (p k) (k ∷ filter p kept) (filter p kept) (λ ks. Waiting q (changed f ks))
      (λ e. (λ now. still k.note (w.0 (subst (λ h. is_forward h ≡ true) (same k.note) now)) (subst (λ h. is_forward h ≡ true) (same k.note) now), more))
      (λ e. more)
    where
      numbered : (n : Note) → n.header.first ≡ q → (f n).header.first ≡ q
      numbered n e = subst (λ h. h.first ≡ q) (sym (same n)) e

      still : (n : Note) → (n.header.first ≡ q) ⊎ Waits n → is_forward n.header ≡ true → ((f n).header.first ≡ q) ⊎ Waits (f n)
      still n either is = elim either [
        | inl e ↦ inl (numbered n e)
        | inr waits ↦ elim (steady n is waits) [ inl e ↦ inl (numbered n e) | inr g ↦ inr g ]
      ]

-- those that wait for one wait for a later one
re_waiting : (q m : ℕ) (kept : List Kept) → q ≤ m → Climbs m (numbers kept) → Waiting q kept → Waiting m kept
re_waiting q m [] le c w = tt
re_waiting q m (k ∷ kept) le c w =
    let h = k.note.header in (
      λ e. elim (w.0 e) [
        | inl same ↦ let d = if_first (Climbs m) h (numbers kept) e c in inl (omega (arith, le, same, d.0))
        | inr waits ↦ inr waits
      ],
      re_waiting q m kept le (rest_climbs m h (numbers kept) c) w.1,
    )

queued : (q : ℕ) (kept : List Kept) → Climbs q (numbers kept) → Waiting q kept → Queue kept
queued q [] c w = tt
queued q (k ∷ kept) c w =
    let h = k.note.header in
    (λ e. let d = if_first (Climbs q) h (numbers kept) e c in re_waiting q h.first kept d.0 d.1 w.1, λ e. queued q kept (if_none (Climbs q) h (numbers kept) e c) w.1)

-- without the first copy
rest_queue : (low : ℕ) (k : Kept) (kept : List Kept) → Climbs low (numbers (k ∷ kept)) → Queue (k ∷ kept) → Queue kept
rest_queue low k kept c q =
    let h = k.note.header in
    elim (cases_Bool (is_forward h)) [
      | inl e ↦ queued h.first kept (if_first (Climbs low) h (numbers kept) e c).1 (q.0 e)
      | inr e ↦ q.1 e
    ]

pub queue_changed : (f : Note → Note) → Same f → Steady f → (p : Kept → Bool) (low : ℕ) (kept : List Kept) → Climbs low (numbers kept) → Queue kept → Queue (changed f (filter p kept))
queue_changed f same steady p low [] c q = tt
queue_changed f same steady p low (k ∷ kept) c q =
    let h = k.note.header in
    let more = queue_changed f same steady p low kept (rest_climbs low h (numbers kept) c) (rest_queue low k kept c q) in
    cond_both (p k) (k ∷ filter p kept) (filter p kept) (λ ks. Queue (changed f ks))
    (λ e. (
      λ now. subst (λ g. Waiting g.first (changed f (filter p kept))) (sym (same k.note))
          (waiting_changed f same p h.first (λ n is waits. inr (steady n is waits)) kept (q.0 (subst (λ g. is_forward g ≡ true) (same k.note) now))),
      λ now. more,
    ))
    (λ e. more)

-- ---- the first FORWARD is released

abbrev pub FirstIs : ℕ → List Kept → Type 0
FirstIs seq [] = Unit {0}
FirstIs seq (k ∷ kept) = (is_forward k.note.header ≡ true → k.note.header.first ≡ seq) × (is_forward k.note.header ≡ false → FirstIs seq kept)

held_number : (held : Bool) (q seq : ℕ) → cond held (Some q) None ≡ Some seq → q ≡ seq
held_number true q seq e = cc
held_number false q seq e = absurd cc

pub release_first : (kept : List Kept) (seq : ℕ) → held_forward kept ≡ Some seq → FirstIs seq kept
release_first [] seq e = tt
release_first (k ∷ kept) seq e = (
  λ w. held_number k.note.held k.note.header.first seq (subst (λ b. if_held (cond b (Some k) (first_forward kept)) ≡ Some seq) w e),
  λ w. release_first kept seq (subst (λ b. if_held (cond b (Some k) (first_forward kept)) ≡ Some seq) w e),
)

unless_called : (seq now : ℕ) → SteadyBut seq (after (Released seq) now)
unless_called seq now n is waits =
    elim (cases_Bool (n.held && eqb n.header.first seq)) [
      | inl e ↦ inl (grind (arith, nat_tests, e))
      | inr e ↦ inr (subst (λ b. Waits (cond b (called now n) n)) (sym e) waits)
    ]

pub queue_released : (seq now : ℕ) (kept : List Kept) → FirstIs seq kept → Queue kept → Queue (applied (Released seq) now kept)
queue_released seq now [] first q = tt
queue_released seq now (k ∷ kept) first q =
    let f = after (Released seq) now in
    let same = header_stays (Released seq) now in
    let back : (b : Bool) → is_forward (f k.note).header ≡ b → is_forward k.note.header ≡ b = λ b e. subst (λ g. is_forward g ≡ b) (same k.note) e in (
      λ e. let is = first.0 (back true e) in
          subst (λ g. Waiting g.first (applied (Released seq) now kept)) (sym (same k.note))
          (subst (λ q. Waiting q (applied (Released seq) now kept)) (sym is)
          (waiting_changed f same (λ k. true) seq (unless_called seq now) kept (subst (λ q. Waiting q kept) is (q.0 (back true e))))),
      λ e. queue_released seq now kept (first.1 (back false e)) (q.1 (back false e)),
    )

-- ---- one more

pub numbers_more : (kept : List Kept) (k : Kept) → is_forward k.note.header ≡ true → numbers (kept ++ k ∷ []) ≡ numbers kept ++ k.note.header.first ∷ []
numbers_more kept k e = flat_map-append (λ (k : Kept). number_of k.note.header) kept (k ∷ []) ∙ ap (λ ns. numbers kept ++ ns) (if_first (λ ns. number_of k.note.header ++ [] ≡ ns) k.note.header [] e refl)

pub numbers_same : (kept : List Kept) (k : Kept) → is_forward k.note.header ≡ false → numbers (kept ++ k ∷ []) ≡ numbers kept
numbers_same [] k e = if_none (λ ns. number_of k.note.header ++ [] ≡ ns) k.note.header [] e refl
numbers_same (x ∷ kept) k e = ap (λ ns. number_of x.note.header ++ ns) (numbers_same kept k e)

waiting_more : (q : ℕ) (kept : List Kept) (k : Kept) → Waiting q kept → (is_forward k.note.header ≡ true → (k.note.header.first ≡ q) ⊎ Waits k.note) → Waiting q (kept ++ k ∷ [])
waiting_more q [] k w either = (either, tt)
waiting_more q (x ∷ kept) k w either = (w.0, waiting_more q kept k w.1 either)

pub queue_more : (kept : List Kept) (k : Kept) → Queue kept → (is_forward k.note.header ≡ true → Waits k.note ⊎ EachNumber (λ q. q ≡ k.note.header.first) kept) → Queue (kept ++ k ∷ [])
queue_more [] k q either = (λ e. tt, λ e. tt)
queue_more (x ∷ kept) k q either = (
  λ e. waiting_more x.note.header.first kept k (q.0 e) (λ is. elim (either is) [ inl waits ↦ inr waits | inr those ↦ inl (sym (those.0 e)) ]),
  λ e. queue_more kept k (q.1 e) (λ is. elim (either is) [ inl waits ↦ inl waits | inr those ↦ inr those.1 ]),
)

-- ---- FORWARDs that are sent

-- a copy that waits isn't sent
pub waits_on : (again : Bool) (now : ℕ) (n : Note) → now < 2 ^ 64 - 1 → Waits n → is_due again now n ≡ false
waits_on again now n before waits = elim (cases_Bool (leb n.due now)) [
  | inl e ↦ absurd (grind (arith, nat_tests, e, before, waits.due))
  | inr e ↦ subst (λ b. (b && (again || n.held) && ltb n.times 16) ≡ false) (sym e) refl
]

module _ (again : Bool) (now : ℕ) (before : now < 2 ^ 64 - 1) where
  abbrev those : List Kept → List Kept
  those kept = filter (λ k. is_due again now k.note) kept

  waiting_go : (q : ℕ) (kept : List Kept) → Waiting q kept → All (λ n. n ≡ q) (numbers (those kept))
  waiting_go q [] w = tt
  waiting_go q (k ∷ kept) w =
      let more = waiting_go q kept w.1 in
      cond_both (is_due again now k.note) (k ∷ those kept) (those kept) (λ ks. All (λ n. n ≡ q) (numbers ks))
      (λ e. with_first (All (λ n. n ≡ q)) k.note.header (numbers (those kept))
      (λ is. (elim (w.0 is) [ inl same ↦ same | inr waits ↦ let f = waits_on again now k.note before waits in absurd cc ], more)) (λ is. more))
      (λ e. more)

  pub first_goes : (low : ℕ) (kept : List Kept) → Queue kept → All (λ n. n ≡ first_or low (numbers kept)) (numbers (those kept))
  first_goes low [] q = tt
  first_goes low (k ∷ kept) q =
      let h = k.note.header in
      let P : List ℕ → List ℕ → Type 0 = λ ns ms. All (λ n. n ≡ first_or low ns) ms in
      with_first (λ ns. P ns (numbers (those (k ∷ kept)))) h (numbers kept)
      (λ is. let more = waiting_go h.first kept (q.0 is) in
      cond_both (is_due again now k.note) (k ∷ those kept) (those kept) (λ ks. All (λ n. n ≡ h.first) (numbers ks))
      (λ e. with_first (All (λ n. n ≡ h.first)) h (numbers (those kept)) (λ w. (refl, more)) (λ w. more)) (λ e. more))
      (λ isnt. let more = first_goes low kept (q.1 isnt) in
      cond_both (is_due again now k.note) (k ∷ those kept) (those kept) (λ ks. P (numbers kept) (numbers ks))
      (λ e. with_first (P (numbers kept)) h (numbers (those kept)) (λ w. absurd cc) (λ w. more)) (λ e. more))
