-- A message under way, until it arrives.
use Rattle.law_names.proofs.Runs.{Arrives, Deliver, Envelope, Event, Monitors, message_at}
use Rattle.law_names.proofs.Table.{AllByRecursion, enumerate_from}
use Rattle.quorum_stays.proofs.Carrying.{more_messages}
use Rattle.quorum_stays.proofs.Onward.{here_left, other_left}
use Rattle.quorum_stays.proofs.UnderWay.{all_numbers, all_owed, new_are, new_there, numbers}
use Rattle.quorum_timed.specs.Timed.{Again, Arriving, Asking, Comes, Firing, Owed, Pace, Timed, Went, at_time, new_between, owed_by, without_first}
use Rattle.quorum_walk.proofs.Lists.{all_append}
use Rattle.std.proofs.Common.{Bool, IsSomeAnd, List, None, Option, Some, [], ap, arith, eqb, filter, inl, inr, length, map, refl, slice_get, subst, suc, sym, ℕ, ◌&&◌, ◌++◌, ◌+◌, ◌∙◌, ◌∷◌, ◌≡◌, ◌≤◌, ◌⊎◌}
use Rattle.std.proofs.lemmas.Bool.{cases_eq, cond_both, eq-eqb}
use Rattle.std.proofs.lemmas.List.{append_assoc, map-append}

-- o is among these, and P holds of those before it
pub record Rides (P : Owed → Type 0) (os : List Owed) (o : Owed) : Type 0 where
  pub before : List Owed
  pub behind : List Owed
  pub is : os ≡ before ++ o ∷ behind
  pub all : AllByRecursion P before

-- the first one is o, or one before it
pub rides_first : (P : Owed → Type 0) (os : List Owed) (o : Owed) → Rides P os o → (z : Owed) (others : List Owed) → os ≡ z ∷ others → (z ≡ o) ⊎ (P z × Rides P others o)
rides_first P os o R z others first = by R.before R.is R.all
  where
    by : (xs : List Owed) → os ≡ xs ++ o ∷ R.behind → AllByRecursion P xs → (z ≡ o) ⊎ (P z × Rides P others o)
    by [] is all = let same : z ∷ others ≡ o ∷ R.behind = sym first ∙ is in inl cc
    by (x ∷ xs) is all =
        let same : z ∷ others ≡ x ∷ (xs ++ o ∷ R.behind) = sym first ∙ is in
        let head : z ≡ x = cc in
        let rest : others ≡ xs ++ o ∷ R.behind = cc in
        inr (subst P (sym head) all.0, record { before = xs; behind = R.behind; is = rest; all = all.1 })

pub rides_more : (P : Owed → Type 0) (os new : List Owed) (o : Owed) → Rides P os o → Rides P (os ++ new) o
rides_more P os new o R = record { before = R.before; behind = R.behind ++ new; is = ap (λ (z : List Owed). z ++ new) R.is ∙ append_assoc R.before (o ∷ R.behind) new; all = R.all }

all_map : (P Q : Owed → Type 0) → ((x : Owed) → P x → Q x) → (xs : List Owed) → AllByRecursion P xs → AllByRecursion Q xs
all_map P Q h [] all = tt
all_map P Q h (x ∷ xs) all = (h x all.0, all_map P Q h xs all.1)

pub rides_as : (P Q : Owed → Type 0) (os : List Owed) (o : Owed) → ((x : Owed) → P x → Q x) → Rides P os o → Rides Q os o
rides_as P Q os o h R = record { before = R.before; behind = R.behind; is = R.is; all = all_map P Q h R.before R.all }

-- it isn't overdue
pub rides_in_time : (os : List Owed) (o : Owed) (u : ℕ) → Rides (λ x. x.by ≤ o.by) os o → ((z : Owed) (others : List Owed) → os ≡ z ∷ others → u ≤ z.by) → u ≤ o.by
rides_in_time os o u R first = by R.before R.is R.all
  where
    by : (xs : List Owed) → os ≡ xs ++ o ∷ R.behind → AllByRecursion (λ x. x.by ≤ o.by) xs → u ≤ o.by
    by [] is all = first o R.behind is
    by (x ∷ xs) is all = let a = first x (xs ++ o ∷ R.behind) is in let b = all.0 in omega arith

-- ---- one message among those that are sent

pub numbers_at : (f i : ℕ) (m : Envelope) → m.message.from ≡ f → m.to ≡ i → (later earlier : List Envelope) (k : ℕ) → (ys : List ℕ) × (numbers f i k (earlier ++ m ∷ later) ≡ numbers f i k earlier ++ (k + length earlier) ∷ ys)
numbers_at f i m from to later [] k =
    let a = eq-eqb m.message.from f from in
    let b = eq-eqb m.to i to in
    let here : k ≡ k + 0 = omega arith in
    (numbers f i (k + 1) later, (rw (a, b) (ap (λ (z : ℕ). z ∷ numbers f i (k + 1) later) here)))
numbers_at f i m from to later (x ∷ earlier) k =
    let N = numbers_at f i m from to later earlier (k + 1) in
    let place : k + 1 + length earlier ≡ k + suc (length earlier) = omega arith in
    let is : numbers f i (k + 1) (earlier ++ m ∷ later) ≡ numbers f i (k + 1) earlier ++ (k + suc (length earlier)) ∷ N.0 = N.1 ∙ ap (λ (z : ℕ). numbers f i (k + 1) earlier ++ z ∷ N.0) place in (
      N.0,
      cond_both (eqb x.message.from f && eqb x.to i) ((k, x) ∷ filter (λ (y : ℕ × Envelope). eqb y.1.message.from f && eqb y.1.to i) (enumerate_from (k + 1) earlier)) (filter (λ (y : ℕ × Envelope). eqb y.1.message.from f && eqb y.1.to i) (enumerate_from (k + 1) earlier))
          (λ (z : List (ℕ × Envelope)). numbers f i k (x ∷ earlier ++ m ∷ later) ≡ map (λ (y : ℕ × Envelope). y.0) z ++ (k + suc (length earlier)) ∷ N.0)
          (λ t. rw t (ap (λ (z : List ℕ). k ∷ z) is)) (λ t. rw t is),
    )

get_next : (xs ys : List Envelope) (m : Envelope) → slice_get (xs ++ m ∷ ys) (length xs) ≡ Some m
get_next [] ys m = refl
get_next (x ∷ xs) ys m = get_next xs ys m

-- ---- an event

module _ (ms : Monitors) (q : List Bool) (pace : Pace) (t next : Timed) (u : ℕ) (es : List Envelope) (messages : next.world.messages ≡ t.world.messages ++ es) where
  -- what is under way from g to i: some of what was, and what was sent
  abbrev pub new_from : (g i : ℕ) → List Owed
  new_from g i = owed_by (u + pace.delay) (numbers g i (suc (length t.world.messages)) es)

  pub list_is : (e : Event) (left : ℕ → ℕ → List Owed) → Went ms q pace (at_time ms q pace u t) e left next → (g i : ℕ) → next.under_way g i ≡ left g i ++ owed_by (u + pace.delay) (numbers g i (suc (length t.world.messages)) es)
  list_is e left went g i =
      went.sent g i
      ∙ ap (λ (z : List Envelope). left g i ++ owed_by (u + pace.delay) (new_between (length t.world.messages) g i z)) messages
      ∙ ap (λ (z : List ℕ). left g i ++ owed_by (u + pace.delay) z) (new_are g i t.world.messages es)

  -- it is still under way, or it arrives
  pub rides_on : (e : Event) → Comes ms q pace (at_time ms q pace u t) next e → (f i : ℕ) (P : Owed → Type 0) (o : Owed) → Rides P (t.under_way f i) o
      → Rides P (next.under_way f i) o ⊎ (e ≡ Arrives (Deliver o.number (u + pace.clock i)))
  rides_on e (Arriving g j qg qj z others first is went) f i P o R = by (cases_eq f g) (cases_eq i j)
    where
      stays : without_first g j others t.under_way f i ≡ t.under_way f i → Rides P (next.under_way f i) o
      stays same = subst (λ (l : List Owed). Rides P l o) (sym (list_is e _ went f i)) (rides_more P _ (new_from f i) o (subst (λ (l : List Owed). Rides P l o) (sym same) R))

      by : (f ≡ g) ⊎ (f ≡ g → ⊥) → (i ≡ j) ⊎ (i ≡ j → ⊥) → Rides P (next.under_way f i) o ⊎ (e ≡ Arrives (Deliver o.number (u + pace.clock i)))
      by (inr ne) k = inl (stays (other_left g j others t.under_way f i (λ a _. ne a)))
      by (inl a) (inr ne) = inl (stays (other_left g j others t.under_way f i (λ _ b. ne b)))
      by (inl a) (inl b) =
          let list : t.under_way f i ≡ z ∷ others = subst (λ (y : ℕ). t.under_way y i ≡ z ∷ others) (sym a) (subst (λ (y : ℕ). t.under_way g y ≡ z ∷ others) (sym b) first) in
          elim (rides_first P (t.under_way f i) o R z others list) [
            | inl same ↦ inr (is ∙ (λ d. Arrives (Deliver (same d).number (u + pace.clock (sym b d)))))
            | inr k ↦ (let gone : without_first g j others t.under_way f i ≡ others = subst (λ (y : ℕ). without_first g j others t.under_way y i ≡ others) (sym a) (subst (λ (y : ℕ). without_first g j others t.under_way g y ≡ others) (sym b) (here_left g j others t.under_way)) in
                inl (subst (λ (l : List Owed). Rides P l o) (sym (list_is e _ went f i)) (rides_more P _ (new_from f i) o (subst (λ (l : List Owed). Rides P l o) (sym gone) k.1))))
          ]
  rides_on e (Again g j qg qj n calls is went) f i P o R = inl (subst (λ (l : List Owed). Rides P l o) (sym (list_is e _ went f i)) (rides_more P _ (new_from f i) o R))
  rides_on e (Firing j qj x up kind end set due is went) f i P o R = inl (subst (λ (l : List Owed). Rides P l o) (sym (list_is e _ went f i)) (rides_more P _ (new_from f i) o R))
  rides_on e (Asking j qj session x is went) f i P o R = inl (subst (λ (l : List Owed). Rides P l o) (sym (list_is e _ went f i)) (rides_more P _ (new_from f i) o R))

  -- what was under way, but for what arrived
  pub record Left (f i : ℕ) (P : Owed → Type 0) : Type 0 where
    pub left : List Owed
    pub is : next.under_way f i ≡ left ++ owed_by (u + pace.delay) (numbers f i (suc (length t.world.messages)) es)
    pub all : AllByRecursion P (t.under_way f i) → AllByRecursion P left

  pub left_of : (e : Event) → Comes ms q pace (at_time ms q pace u t) next e → (f i : ℕ) (P : Owed → Type 0) → Left f i P
  left_of e (Arriving g j qg qj z others first is went) f i P = record { left = without_first g j others t.under_way f i; is = list_is e _ went f i; all = λ old. by old (cases_eq f g) (cases_eq i j) }
    where
      by : AllByRecursion P (t.under_way f i) → (f ≡ g) ⊎ (f ≡ g → ⊥) → (i ≡ j) ⊎ (i ≡ j → ⊥) → AllByRecursion P (without_first g j others t.under_way f i)
      by old (inr ne) k = subst (AllByRecursion P) (sym (other_left g j others t.under_way f i (λ a _. ne a))) old
      by old (inl a) (inr ne) = subst (AllByRecursion P) (sym (other_left g j others t.under_way f i (λ _ b. ne b))) old
      by old (inl a) (inl b) =
          let list : t.under_way f i ≡ z ∷ others = subst (λ (y : ℕ). t.under_way y i ≡ z ∷ others) (sym a) (subst (λ (y : ℕ). t.under_way g y ≡ z ∷ others) (sym b) first) in
          let all : AllByRecursion P (z ∷ others) = subst (AllByRecursion P) list old in
          subst (AllByRecursion P) (sym (subst (λ (y : ℕ). without_first g j others t.under_way y i ≡ others) (sym a) (subst (λ (y : ℕ). without_first g j others t.under_way g y ≡ others) (sym b) (here_left g j others t.under_way)))) all.1
  left_of e (Again g j qg qj n calls is went) f i P = record { left = t.under_way f i; is = list_is e _ went f i; all = λ old. old }
  left_of e (Firing j qj x up kind end set due is went) f i P = record { left = t.under_way f i; is = list_is e _ went f i; all = λ old. old }
  left_of e (Asking j qj session x is went) f i P = record { left = t.under_way f i; is = list_is e _ went f i; all = λ old. old }

  -- a fact of all that was under way and of all that is sent holds of all that is under way then
  pub all_on : (e : Event) → Comes ms q pace (at_time ms q pace u t) next e → (f i : ℕ) (P : Owed → Type 0) → AllByRecursion P (t.under_way f i) → AllByRecursion P (new_from f i) → AllByRecursion P (next.under_way f i)
  all_on e C f i P old new = let L = left_of e C f i P in subst (AllByRecursion P) (sym L.is) (all_append P L.left (new_from f i) (L.all old) new)

  -- one of the messages that are sent
  pub rides_new : (e : Event) → Comes ms q pace (at_time ms q pace u t) next e → (f i : ℕ) (P : Owed → Type 0) (m : Envelope) (earlier later : List Envelope) → es ≡ earlier ++ m ∷ later → m.message.from ≡ f → m.to ≡ i → AllByRecursion P (t.under_way f i)
      → AllByRecursion P (owed_by (u + pace.delay) (numbers f i (suc (length t.world.messages)) earlier)) → Rides P (next.under_way f i) (record { number = suc (length t.world.messages) + length earlier; by = u + pace.delay })
  rides_new e C f i P m earlier later list from to old new =
      let L = left_of e C f i P in
      let N = numbers_at f i m from to later earlier (suc (length t.world.messages)) in
      let top = u + pace.delay in
      let first = owed_by top (numbers f i (suc (length t.world.messages)) earlier) in
      let o : Owed = record { number = suc (length t.world.messages) + length earlier; by = u + pace.delay } in
      record {
        before = L.left ++ owed_by (u + pace.delay) (numbers f i (suc (length t.world.messages)) earlier);
        behind = owed_by (u + pace.delay) N.0;
        is = L.is
            ∙ ap (λ (z : List Envelope). L.left ++ owed_by (u + pace.delay) (numbers f i (suc (length t.world.messages)) z)) list
            ∙ ap (λ (z : List ℕ). L.left ++ owed_by (u + pace.delay) z) N.1
            ∙ ap (λ (z : List Owed). L.left ++ z) (map-append (λ (k : ℕ). record { number = k; by = u + pace.delay }) (numbers f i (suc (length t.world.messages)) earlier) ((suc (length t.world.messages) + length earlier) ∷ N.0))
            ∙ sym (append_assoc L.left (owed_by (u + pace.delay) (numbers f i (suc (length t.world.messages)) earlier)) (owed_by (u + pace.delay) ((suc (length t.world.messages) + length earlier) ∷ N.0)));
        all = all_append P L.left (owed_by (u + pace.delay) (numbers f i (suc (length t.world.messages)) earlier)) (L.all old) new;
      }

  -- its message
  pub new_is : (m : Envelope) (earlier later : List Envelope) → es ≡ earlier ++ m ∷ later → message_at next.world.messages (suc (length t.world.messages) + length earlier) ≡ Some m
  new_is m earlier later list =
      let number : suc (length t.world.messages) + length earlier ≡ suc (length t.world.messages + length earlier) = omega arith in
      ap (message_at next.world.messages) number ∙ ap (λ (z : List Envelope). message_at z (suc (length t.world.messages + length earlier))) messages
      ∙ new_there t.world.messages es (length earlier) m (ap (λ (z : List Envelope). slice_get z (length earlier)) list ∙ get_next earlier later m)

  -- a fact of each new message from f to i
  pub all_new : (f i : ℕ) (Q : Envelope → Type 0) → ((d : ℕ) (m : Envelope) → slice_get es d ≡ Some m → m.message.from ≡ f → m.to ≡ i → Q m) → AllByRecursion (λ o. IsSomeAnd (message_at next.world.messages o.number) Q) (new_from f i)
  all_new f i Q h =
      all_owed (u + pace.delay) (numbers f i (suc (length t.world.messages)) es) (λ k. IsSomeAnd (message_at next.world.messages k) Q) (λ o. IsSomeAnd (message_at next.world.messages o.number) Q) (λ k x. x)
      (all_numbers f i (suc (length t.world.messages)) es (λ k. IsSomeAnd (message_at next.world.messages k) Q) (λ d m there from to.
      (let number : suc (length t.world.messages) + d ≡ suc (length t.world.messages + d) = omega arith in
      let at : message_at next.world.messages (suc (length t.world.messages) + d) ≡ Some m = ap (message_at next.world.messages) number ∙ ap (λ (z : List Envelope). message_at z (suc (length t.world.messages + d))) messages ∙ new_there t.world.messages es d m there in
      subst (λ (z : Option Envelope). IsSomeAnd z Q) (sym at) (h d m there from to))))

  -- what was there is there
  pub still_there : (k : ℕ) (m : Envelope) → message_at t.world.messages k ≡ Some m → message_at next.world.messages k ≡ Some m
  still_there k m there = ap (λ (z : List Envelope). message_at z k) messages ∙ more_messages t.world.messages es k m there

  pub still_so : (Q R : Envelope → Type 0) → ((m : Envelope) → Q m → R m) → (k : ℕ) → IsSomeAnd (message_at t.world.messages k) Q → IsSomeAnd (message_at next.world.messages k) R
  still_so Q R h k x = by (message_at t.world.messages k) refl x
    where
      by : (z : Option Envelope) → message_at t.world.messages k ≡ z → IsSomeAnd z Q → IsSomeAnd (message_at next.world.messages k) R
      by None is y = absurd y
      by (Some m) is y = subst (λ (z : Option Envelope). IsSomeAnd z R) (sym (still_there k m is)) (h m y)

  pub all_still : (Q R : Envelope → Type 0) → ((m : Envelope) → Q m → R m) → (os : List Owed) → AllByRecursion (λ o. IsSomeAnd (message_at t.world.messages o.number) Q) os → AllByRecursion (λ o. IsSomeAnd (message_at next.world.messages o.number) R) os
  all_still Q R h [] all = tt
  all_still Q R h (o ∷ os) all = (still_so Q R h o.number all.0, all_still Q R h os all.1)
