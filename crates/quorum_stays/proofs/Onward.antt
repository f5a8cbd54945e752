-- What is under way after an event among members.
use Rattle.law_names.proofs.Runs.{Envelope, Event, Monitors, message_at}
use Rattle.law_names.proofs.Table.{AllByRecursion, Body, Change, State}
use Rattle.quorum_stays.proofs.Carrying.{Gives, before_due, carries_append, carries_on, due_at, new_carries}
use Rattle.quorum_stays.proofs.Stepping.{Did}
use Rattle.quorum_stays.proofs.UnderWay.{new_are, new_there, numbers}
use Rattle.quorum_stays.specs.Steady.{Carries, Item, Reign}
use Rattle.quorum_timed.specs.Timed.{Owed, Pace, Timed, Went, new_between, owed_by, without_first}
use Rattle.std.proofs.Common.{Bool, IsSomeAnd, List, None, Option, Some, [], ap, arith, eqb, length, refl, slice_get, subst, suc, sym, ℕ, ◌&&◌, ◌++◌, ◌+◌, ◌∙◌, ◌≡◌, ◌≤◌}
use Rattle.std.proofs.lemmas.Bool.{and_parts, cond_both, eq-eqb, eqb-true}
use Rattle.std.proofs.lemmas.List.{append-nil}

-- ---- states

pub unpack : (P : State → Type 0) (o : Option State) → IsSomeAnd o P → (s : State) × (o ≡ Some s) × P s
unpack P None k = absurd k
unpack P (Some s) k = (s, refl, k)

pub pack : (P : State → Type 0) (o : Option State) (s : State) → o ≡ Some s → P s → IsSomeAnd o P
pack P o s e k = subst (λ (z : Option State). IsSomeAnd z P) (sym e) k

-- a monitor has one state
pub one_state : (o : Option State) (a b : State) → o ≡ Some a → o ≡ Some b → a ≡ b
one_state o a b x y = let same : Some a ≡ Some b = sym x ∙ y in cc

-- ---- the first message from f to i is gone

module _ (f i : ℕ) (others : List Owed) (all : ℕ → ℕ → List Owed) where
  pub other_left : (g j : ℕ) → (g ≡ f → j ≡ i → ⊥) → without_first f i others all g j ≡ all g j
  other_left g j ne = cond_both (eqb g f && eqb j i) others (all g j) (λ (x : List Owed). x ≡ all g j)
      (λ t. (let parts = and_parts (eqb g f) (eqb j i) t in absurd (ne (eqb-true g f parts.0) (eqb-true j i parts.1)))) (λ _. refl)

  pub here_left : without_first f i others all f i ≡ others
  here_left = let a = eq-eqb f f refl in let b = eq-eqb i i refl in rw (a, b) refl

  pub list_left : (P : ℕ → ℕ → List Owed → Type 0) (g j : ℕ) → P f i others → P g j (all g j) → P g j (without_first f i others all g j)
  list_left P g j few all_of = cond_both (eqb g f && eqb j i) others (all g j) (P g j)
      (λ t. (let parts = and_parts (eqb g f) (eqb j i) t in
      subst (λ (z : ℕ). P z j others) (sym (eqb-true g f parts.0)) (subst (λ (z : ℕ). P f z others) (sym (eqb-true j i parts.1)) few))) (λ _. all_of)

  pub all_left : (P : ℕ → ℕ → Owed → Type 0) (g j : ℕ) → AllByRecursion (P f i) others → AllByRecursion (P g j) (all g j) → AllByRecursion (P g j) (without_first f i others all g j)
  all_left P g j few all_of = list_left (λ g j os. AllByRecursion (P g j) os) g j few all_of

-- ---- what is under way after an event

module _ (ms : Monitors) (q : List Bool) (pace : Pace) (reign : Reign) (t next : Timed) (e : Event) (left : ℕ → ℕ → List Owed) (went : Went ms q pace t e left next)
    (i : ℕ) (s : State) (cs : List Change) (es : List Envelope) (D : Did t.world next.world i s cs es) where
  abbrev count : ℕ
  count = length t.world.messages

  next_under_way : (f j : ℕ) → next.under_way f j ≡ left f j ++ owed_by (t.time + pace.delay) (numbers f j (suc count) es)
  next_under_way f j =
      went.sent f j
      ∙ ap (λ (m : List Envelope). left f j ++ owed_by (t.time + pace.delay) (new_between count f j m)) D.messages
      ∙ ap (λ (ns : List ℕ). left f j ++ owed_by (t.time + pace.delay) ns) (new_are f j t.world.messages es)

  new_at : (d : ℕ) (m : Envelope) → slice_get es d ≡ Some m → message_at (t.world.messages ++ es) (suc count + d) ≡ Some m
  new_at d m there =
      let number : suc count + d ≡ suc (count + d) = omega arith in
      ap (message_at (t.world.messages ++ es)) number ∙ new_there t.world.messages es d m there

  -- What is left under way is followed by what was sent, which arrives by `due`.
  pub lands : (f j top due : ℕ) (xs : List Item) (bs : List Body) → top ≤ t.time + pace.delay → t.time + pace.delay ≤ due
      → Carries ms reign t.world.messages f j top xs (left f j) → Gives ms reign f j bs es
      → Carries ms reign next.world.messages f j (next.time + pace.delay) (xs ++ due_at due bs) (next.under_way f j)
  lands f j top due xs bs le late C G =
      let now = t.time + pace.delay in
      let old = carries_on ms reign f j t.world.messages es top now le xs (left f j) C in
      let new = new_carries ms reign f j (t.world.messages ++ es) now due late (suc count) es new_at bs G in
      let both = carries_append ms reign f j (t.world.messages ++ es) now xs (due_at due bs) (left f j) _ (before_due now due late bs) old new in
      subst (λ (z : ℕ). Carries ms reign next.world.messages f j (z + pace.delay) (xs ++ due_at due bs) (next.under_way f j)) (sym went.time)
      (subst (λ (z : List Envelope). Carries ms reign z f j now (xs ++ due_at due bs) (next.under_way f j)) (sym D.messages)
      (subst (Carries ms reign (t.world.messages ++ es) f j now (xs ++ due_at due bs)) (sym (next_under_way f j)) both))

  -- nothing but messages about clients' commands was sent
  pub lands_same : (f j top : ℕ) (xs : List Item) → top ≤ t.time + pace.delay
      → Carries ms reign t.world.messages f j top xs (left f j) → Gives ms reign f j [] es
      → Carries ms reign next.world.messages f j (next.time + pace.delay) xs (next.under_way f j)
  lands_same f j top xs le C G =
      subst (λ (z : List Item). Carries ms reign next.world.messages f j (next.time + pace.delay) z (next.under_way f j)) (append-nil xs)
      (lands f j top (t.time + pace.delay) xs [] le (omega arith) C G)
