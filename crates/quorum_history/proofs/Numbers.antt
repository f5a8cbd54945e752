-- The elementary steps of a store: a promise, a number of its own, versions that are learned, and a full synchronization's mark.
use Rattle.law_names.proofs.Table.{Cell, Change, Command, Numbers, Op, Promise, Sent, Session, most_value, pending_of, record_at, text}
use Rattle.quorum_history.proofs.History.{ALevel, ANumber, APromise, Accepted, AnEpoch, Entry, Ext, Ghost, Glob, Had, Hand, Handed, Rising, Triple, had_lasts, triple}
use Rattle.quorum_history.proofs.Holds.{Disk, Kept, Voted, With, level_in, number_in_own, number_of, promise_in}
use Rattle.quorum_history.proofs.Steps.{Plain, further, moves, signed, signed_ext, signed_glob, signed_numbers, tied_more}
use Rattle.quorum_walk.proofs.FineCourses.{Val}
use Rattle.quorum_walk.proofs.Lists.{Among}
use Rattle.quorum_walk.proofs.Sparing.{Own}
use Rattle.std.proofs.Common.{List, Some, [], ap, arith, false, inl, inr, length, refl, suc, sym, true, ℕ, ◌%◌, ◌++◌, ◌<◌, ◌∙◌, ◌∷◌, ◌≡◌, ◌≤◌}
use Rattle.std.proofs.lemmas.Bool.{cond_both, eq-eqb, false≢true, le-leb}

pub had_down : (g : Ghost) (k : Rising) (i n m : ℕ) → Had g k i n → m ≤ n → Had g k i m
had_down g k i n m (inl l) le = inl (omega arith)
had_down g k i n m (inr s) le = inr (record { m = s.m; high = let h = s.high in omega arith; was = s.was })

pub level_is : (o : Own) → o.marked ≡ false → level_in o ≡ o.last
level_is o u = rw u refl

pub floor_is : (o : Own) → o.marked ≡ true → level_in o ≡ o.floor
floor_is o u = rw u refl

-- ---- promises

abbrev pub with_promise : ℕ → Own → Own
with_promise p o = record o { promise = Some p }

abbrev pub with_number : ℕ → Own → Own
with_number p o = record o { last_pn = Some p; promise = Some p }

promise_kept : (rs : List Entry) (hs : List Hand) (ts : List Triple) (i p : ℕ) (o : Own) (records : ℕ → Cell) → promise_in o ≤ p → Kept rs hs ts i o records → Kept rs hs ts i (with_promise p o) records
promise_kept rs hs ts i p o records le k = record {
  roles = k.roles;
  hands = k.hands;
  order = let s = k.order in omega arith;
  mine = k.mine;
  accepts = λ v q x a. let s = k.accepts v q x a in omega arith;
  made = k.made;
  covered = k.covered;
  under = let s = k.under in omega arith;
  next = k.next;
  vote = k.vote;
  clear = k.clear;
}

number_kept : (rs : List Entry) (hs : List Hand) (ts : List Triple) (i p : ℕ) (o : Own) (records : ℕ → Cell) → number_in_own o ≤ p → promise_in o ≤ p → p % 100 ≡ i → Kept rs hs ts i o records → Kept rs hs ts i (with_number p o) records
number_kept rs hs ts i p o records low le own k = record {
  roles = k.roles;
  hands = k.hands;
  order = omega arith;
  mine = inr own;
  accepts = λ v q x a. let s = k.accepts v q x a in omega arith;
  made = λ j v q x a e. let s = k.made j v q x a e in omega arith;
  covered = k.covered;
  under = let s = k.under in omega arith;
  next = k.next;
  vote = k.vote;
  clear = k.clear;
}

promise_up : (p : ℕ) (o : Own) → promise_in o ≤ p → (k : Rising) → number_of o k ≤ number_of (with_promise p o) k
promise_up p o le AnEpoch = omega arith
promise_up p o le ANumber = omega arith
promise_up p o le APromise = le
promise_up p o le ALevel = omega arith

number_up : (p : ℕ) (o : Own) → number_in_own o ≤ p → promise_in o ≤ p → (k : Rising) → number_of o k ≤ number_of (with_number p o) k
number_up p o low le AnEpoch = omega arith
number_up p o low le ANumber = low
number_up p o low le APromise = le
number_up p o low le ALevel = omega arith

module _ {n i : ℕ} {g : Ghost} {Known : ℕ → List Op → Type 0} {o : Own} {records : ℕ → Cell} {cs : List Change} {out : List Sent} (P Q : Ghost → Type 0) where
  pub promises : (p : ℕ) → promise_in o ≤ p → With n i g Known o records cs out P → ((h : Ghost) → Ext i h (signed i (with_promise p o) h) → P h → Q (signed i (with_promise p o) h))
      → With n i g Known (with_promise p o) records (cs ++ Promise p ∷ []) out Q
  promises p le A f = moves P Q (with_promise p o) records (Promise p ∷ []) (tt, tt) (promise_up p o le) A (λ h E G D q. promise_kept h.roles h.hands h.accepts i p o records le D.kept) (λ h E F G D q. f h F q)

  -- a new number of its own
  pub collects : (p : ℕ) → number_in_own o ≤ p → promise_in o < p → p % 100 ≡ i → With n i g Known o records cs out P → ((h : Ghost) → Ext i h (signed i (with_number p o) h) → Glob n h → Disk h i o records → P h → Q (signed i (with_number p o) h))
      → With n i g Known (with_number p o) records (cs ++ Numbers p ∷ []) out Q
  collects p low lt own A f =
      let h = A.h in
      let o2 = with_number p o in
      let k = signed i o2 h in
      let E = signed_ext i o2 h in
      further P Q o2 records (cs ++ Numbers p ∷ []) A k E (signed_glob n i o2 h A.glob)
      (record { numbers = signed_numbers i o o2 h (number_up p o low (omega arith)) A.disk.numbers; kept = number_kept h.roles h.hands h.accepts i p o records low (omega arith) own A.disk.kept })
      (tied_more i g h k cs (Numbers p ∷ []) (λ v q x a. elim a [ inl e ↦ (absurd cc) | inr z ↦ absurd z ]) (λ q a. elim a [
        | inl e ↦ (let s : q ≡ p = cc in (ap (λ (z : ℕ). z % 100) s ∙ own, λ r m. let t = A.disk.numbers.top ANumber r (had_lasts A.ext ANumber i r m) in let w = A.disk.kept.order in omega arith))
        | inr z ↦ absurd z
      ]) (λ t a. a) (λ t a. a) A.tied) A.known (λ a m. m) (f h E A.glob A.disk A.fact)

-- ---- versions that are learned

abbrev pub with_last : ℕ → Own → Own
with_last v o = record o { last = v }

last_kept : (rs : List Entry) (hs : List Hand) (ts : List Triple) (i v : ℕ) (o : Own) (records records2 : ℕ → Cell) → o.marked ≡ false → o.last < v → Kept rs hs ts i o records → Kept rs hs ts i (with_last v o) records2
last_kept rs hs ts i v o records records2 u lt k = record {
  roles = k.roles;
  hands = k.hands;
  order = k.order;
  mine = k.mine;
  accepts = k.accepts;
  made = k.made;
  covered = λ w p x a. elim (k.covered w p x a) [ inl s ↦ inl (let e = level_is o u in let f = level_is (with_last v o) u in omega arith) | inr c ↦ inr c ];
  under = k.under;
  next = λ t. let s = k.next u in omega arith;
  vote = λ t e. let s = k.next u in absurd (omega arith);
  clear = λ t. absurd (false≢true (sym u ∙ t));
}

last_up : (v : ℕ) (o : Own) → o.marked ≡ false → o.last < v → (k : Rising) → number_of o k ≤ number_of (with_last v o) k
last_up v o u lt AnEpoch = omega arith
last_up v o u lt ANumber = omega arith
last_up v o u lt APromise = omega arith
last_up v o u lt ALevel = let e = level_is o u in let f = level_is (with_last v o) u in omega arith

-- other records of a marked store
pub records_kept : (rs : List Entry) (hs : List Hand) (ts : List Triple) (i : ℕ) (o : Own) (records records2 : ℕ → Cell) → o.marked ≡ true → Kept rs hs ts i o records → Kept rs hs ts i o records2
records_kept rs hs ts i o records records2 u k = record {
  roles = k.roles;
  hands = k.hands;
  order = k.order;
  mine = k.mine;
  accepts = k.accepts;
  made = k.made;
  covered = k.covered;
  under = k.under;
  next = k.next;
  vote = λ t e. absurd (false≢true (sym t ∙ u));
  clear = k.clear;
}

-- ---- a full synchronization

abbrev pub marked_at : ℕ → Own → Own
marked_at floor o = record o { pending_v = 0; pending_pn = 0; last = 0; marked = true; floor = floor }

-- a value that was accepted for the next version is pending
pub pending_is : (ts : List Triple) (i v pn last : ℕ) (records : ℕ → Cell) → v ≡ suc last → (V : Voted ts i (suc last) pn (records (suc last))) → Val V.x → pending_of v pn last records ≡ Some (record { version = v; pn = pn; value = V.x })
unfolding pending_of record_at
pending_is ts i v pn last records e V k = rw (eq-eqb v (suc last) e, V.is, k.reads, le-leb (length (text V.x)) most_value k.short) refl

level_up : (o : Own) (floor : ℕ) → o.floor ≤ floor → o.last ≤ floor → level_in o ≤ floor
level_up o floor a b = cond_both o.marked o.floor o.last (λ (z : ℕ). z ≤ floor) (λ _. a) (λ _. b)

mark_kept : (rs : List Entry) (hs : List Hand) (ts : List Triple) (i floor : ℕ) (o : Own) (records records2 : ℕ → Cell) → o.floor ≤ floor → o.last ≤ floor
    → ((v p : ℕ) (x : List Op) → Among (triple i v p x) ts → o.pending_v ≡ v → v ≤ floor) → Kept rs hs ts i o records → Kept rs hs ts i (marked_at floor o) records2
mark_kept rs hs ts i floor o records records2 a b c k = record {
  roles = k.roles;
  hands = k.hands;
  order = k.order;
  mine = k.mine;
  accepts = k.accepts;
  made = k.made;
  covered = λ v p x m. elim (k.covered v p x m) [ inl s ↦ inl (let t = level_up o floor a b in omega arith) | inr d ↦ inl (c v p x m d.0) ];
  under = omega arith;
  next = λ t. absurd (false≢true (sym t));
  vote = λ t e. absurd (false≢true (sym t));
  clear = λ t. (refl, refl);
}

mark_up : (floor : ℕ) (o : Own) → o.floor ≤ floor → o.last ≤ floor → (k : Rising) → number_of o k ≤ number_of (marked_at floor o) k
mark_up floor o a b AnEpoch = omega arith
mark_up floor o a b ANumber = omega arith
mark_up floor o a b APromise = omega arith
mark_up floor o a b ALevel = level_up o floor a b

abbrev pub unmarked_at : ℕ → Own → Own
unmarked_at end o = record o { last = end; marked = false; floor = 0 }

unmark_kept : (rs : List Entry) (hs : List Hand) (ts : List Triple) (i end : ℕ) (o : Own) (records records2 : ℕ → Cell) → o.marked ≡ true → o.floor ≤ end → Kept rs hs ts i o records → Kept rs hs ts i (unmarked_at end o) records2
unmark_kept rs hs ts i end o records records2 u le k = let none = (k.clear u).1 in record {
  roles = k.roles;
  hands = k.hands;
  order = k.order;
  mine = k.mine;
  accepts = k.accepts;
  made = k.made;
  covered = λ v p x m. elim (k.covered v p x m) [ inl s ↦ inl (let f = floor_is o u in omega arith) | inr d ↦ inr d ];
  under = k.under;
  next = λ t. omega arith;
  vote = λ t e. absurd (omega arith);
  clear = λ t. absurd (false≢true t);
}

unmark_up : (end : ℕ) (o : Own) → o.marked ≡ true → o.floor ≤ end → (k : Rising) → number_of o k ≤ number_of (unmarked_at end o) k
unmark_up end o u le AnEpoch = omega arith
unmark_up end o u le ANumber = omega arith
unmark_up end o u le APromise = omega arith
unmark_up end o u le ALevel = let f = floor_is o u in omega arith

module _ {n i : ℕ} {g : Ghost} {Known : ℕ → List Op → Type 0} {o : Own} {records : ℕ → Cell} {cs : List Change} {out : List Sent} (P Q : Ghost → Type 0) (records2 : ℕ → Cell) where
  -- versions up to v
  pub learns : (v : ℕ) (more : List Change) → Plain more → o.marked ≡ false → o.last < v → With n i g Known o records cs out P → ((h k : Ghost) → Ext i g h → Ext i h k → Disk h i o records → P h → (Had k ALevel i v) → ((j w p : ℕ) (x : List Op) → Accepted k j w p x → Accepted h j w p x) → ((e seq : ℕ) (s : Session) (c : Command) → Handed k i e seq s c → Handed h i e seq s c) → Q k)
      → With n i g Known (with_last v o) records2 (cs ++ more) out Q
  learns v more calm u lt A f = moves P Q (with_last v o) records2 more calm (last_up v o u lt) A (λ h E G D q. last_kept h.roles h.hands h.accepts i v o records records2 u lt D.kept)
      (λ h E F G D q. f h (signed i (with_last v o) h) E F D q (inr (record { m = level_in (with_last v o); high = let e = level_is (with_last v o) u in omega arith; was = inr (inr (inr (inl refl))) })) (λ j w p x a. a) (λ e seq s c a. a))

  -- records and entries of a marked store
  pub copies : (more : List Change) → Plain more → o.marked ≡ true → With n i g Known o records cs out P → ((h k : Ghost) → Ext i g h → Ext i h k → P h → Q k) → With n i g Known o records2 (cs ++ more) out Q
  copies more calm u A f = moves P Q o records2 more calm (λ k. omega arith) A (λ h E G D q. records_kept h.roles h.hands h.accepts i o records records2 u D.kept) (λ h E F G D q. f h (signed i o h) E F q)

  pub begins_copy : (floor : ℕ) (more : List Change) → Plain more → o.floor ≤ floor → o.last ≤ floor → ((h : Ghost) → Glob n h → Disk h i o records → (v p : ℕ) (x : List Op) → Accepted h i v p x → o.pending_v ≡ v → v ≤ floor)
      → With n i g Known o records cs out P → ((h k : Ghost) → Ext i h k → P h → Q k) → With n i g Known (marked_at floor o) records2 (cs ++ more) out Q
  begins_copy floor more calm a b c A f = moves P Q (marked_at floor o) records2 more calm (mark_up floor o a b) A
      (λ h E G D q. mark_kept h.roles h.hands h.accepts i floor o records records2 a b (c h G D) D.kept) (λ h E F G D q. f h (signed i (marked_at floor o) h) F q)

  pub ends_copy : (end : ℕ) (more : List Change) → Plain more → o.marked ≡ true → o.floor ≤ end → With n i g Known o records cs out P → ((h k : Ghost) → Ext i h k → P h → Q k) → With n i g Known (unmarked_at end o) records2 (cs ++ more) out Q
  ends_copy end more calm u le A f = moves P Q (unmarked_at end o) records2 more calm (unmark_up end o u le) A (λ h E G D q. unmark_kept h.roles h.hands h.accepts i end o records records2 u le D.kept) (λ h E F G D q. f h (signed i (unmarked_at end o) h) F q)
