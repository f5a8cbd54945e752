-- The elementary step by which a monitor accepts a value.
use Rattle.law_names.proofs.Table.{Cell, Change, Numbers, Op, Sent, Vote, is_majority, text}
use Rattle.mon_msg.specs.Protocol.Played.{with_record}
use Rattle.quorum_history.proofs.Growing.{grows_by, grows_not}
use Rattle.quorum_history.proofs.History.{ALevel, ANumber, APromise, Accepted, AnEpoch, Entry, Ext, Ghost, Glob, Had, HadIn, Hand, HasBlocker, NewTriple, Rising, Sign, Triple, TriplesHold, triple}
use Rattle.quorum_history.proofs.Holds.{Disk, Kept, Numbered, Tied, With, level_in, number_in_own, number_of, promise_in}
use Rattle.quorum_history.proofs.Numbers.{level_is}
use Rattle.quorum_history.proofs.Steps.{further, refuses_later}
use Rattle.quorum_walk.proofs.FineCourses.{Val}
use Rattle.quorum_walk.proofs.Lists.{Among, among_append, among_left, among_right}
use Rattle.quorum_walk.proofs.Ranks.{Below}
use Rattle.quorum_walk.proofs.Sparing.{Own}
use Rattle.std.proofs.Common.{Bool, List, Some, [], ap, arith, false, inl, inr, refl, subst, suc, sym, true, ℕ, ◌%◌, ◌++◌, ◌<◌, ◌∙◌, ◌∷◌, ◌≡◌, ◌≤◌, ◌⊎◌}
use Rattle.std.proofs.lemmas.Bool.{cases_lt, eq-eqb, false≢true}

abbrev pub accepted : (i v p : ℕ) → List Op → Ghost → Ghost
accepted i v p x g = record g { accepts = triple i v p x ∷ g.accepts }

-- Monitor i may accept value x for its next version, under the number that it promised. The number is its own, or the
-- rank whose number it is accepted the value before.
pub record MayAccept (i : ℕ) (g : Ghost) (o : Own) (v p : ℕ) (x : List Op) : Type 0 where
  pub unmarked : o.marked ≡ false
  pub next : v ≡ suc o.last
  pub now : p ≡ promise_in o
  pub fine : Val x
  pub owner : (p % 100 ≡ i) ⊎ Accepted g (p % 100) v p x
  pub made : p % 100 ≡ i → p ≤ number_in_own o

-- A value leaves no room for another one. Under its number no other value was accepted for the version, and under a
-- lower number none can be accepted by a majority any more.
pub record LeavesNoRoom (n : ℕ) (g : Ghost) (v p : ℕ) (x : List Op) : Type 0 where
  pub one : (j : ℕ) (y : List Op) → Accepted g j v p y → y ≡ x
  pub safe : (r : ℕ) (y : List Op) (Q : List Bool) → r < p → (y ≡ x → ⊥) → is_majority n Q ≡ true → Below n Q → HasBlocker g.signs g.accepts Q v r y

accepted_ext : (i v p : ℕ) (x : List Op) (g : Ghost) (o : Own) → Numbered g.signs i o → MayAccept i g o v p x → Ext i g (accepted i v p x g)
accepted_ext i v p x g o N M = record { roles = grows_not _ g.roles; hands = grows_not _ g.hands; asks = grows_not _ g.asks; signs = grows_not _ g.signs; accepts = grows_by (NewTriple i g) (triple i v p x) g.accepts new }
  where
    from : (p % 100 ≡ i) ⊎ Accepted g (p % 100) v p x → (p % 100 ≡ i) ⊎ ((k : ℕ) × Accepted g k v p x)
    from (inl e) = inl e
    from (inr o) = inr (p % 100, o)

    new : NewTriple i g (triple i v p x)
    new = record { who = refl; high = λ q k. let s = N.top APromise q k in let t = M.now in omega arith; from = from M.owner }

-- what holds of the new triple and of the old ones holds of all
each_triple : (t : Triple) (ts : List Triple) (P : Triple → Type 0) → P t → ((j v p : ℕ) (x : List Op) → Among (triple j v p x) ts → P (triple j v p x)) → (j v p : ℕ) (x : List Op) → Among (triple j v p x) (t ∷ ts) → P (triple j v p x)
each_triple t ts P new k j v p x a = elim a [ inl e ↦ subst P (sym e) new | inr o ↦ k j v p x o ]

module _ (n i v p : ℕ) (x : List Op) (g : Ghost) (o : Own) (below : i < n) (E : Ext i g (accepted i v p x g)) (M : MayAccept i g o v p x) (L : LeavesNoRoom n g v p x) (T : TriplesHold n g.signs g.accepts) where
  abbrev h : Ghost
  h = accepted i v p x g

  owner : (p % 100 ≡ i) ⊎ Accepted g (p % 100) v p x → Accepted h (p % 100) v p x
  owner (inl e) = inl (ap (λ (z : ℕ). triple z v p x) e)
  owner (inr a) = inr a

  -- another triple for the same version under the same number has the same value
  same_as_new : (j w q : ℕ) (y : List Op) → w ≡ v → q ≡ p → Accepted g j w q y → y ≡ x
  same_as_new j w q y e f a = L.one j y (subst (λ (z : ℕ). Accepted g j v z y) f (subst (λ (z : ℕ). Accepted g j z q y) e a))

  one : (j k w q : ℕ) (y z : List Op) → Accepted h j w q y → Accepted h k w q z → y ≡ z
  one j k w q y z a b = elim a [
    | inl e ↦ elim b [
      | inl f ↦ (ap (λ (t : Triple). t.x) e ∙ sym (ap (λ (t : Triple). t.x) f))
      | inr d ↦ (ap (λ (t : Triple). t.x) e ∙ sym (same_as_new k w q z (ap (λ (t : Triple). t.v) e) (ap (λ (t : Triple). t.p) e) d))
    ]
    | inr c ↦ elim b [
      | inl f ↦ (same_as_new j w q y (ap (λ (t : Triple). t.v) f) (ap (λ (t : Triple). t.p) f) c ∙ sym (ap (λ (t : Triple). t.x) f))
      | inr d ↦ T.one j k w q y z c d
    ]
  ]

  abbrev IsSafe : Triple → Type 0
  IsSafe t = (r : ℕ) (y : List Op) (Q : List Bool) → r < t.p → (y ≡ t.x → ⊥) → is_majority n Q ≡ true → Below n Q → HasBlocker h.signs h.accepts Q t.v r y

  accepted_triples : TriplesHold n h.signs h.accepts
  accepted_triples = record {
    below = each_triple (triple i v p x) g.accepts (λ (t : Triple). t.i < n) below T.below;
    some = each_triple (triple i v p x) g.accepts (λ (t : Triple). 1 ≤ t.v) (let e = M.next in omega arith) T.some;
    fine = each_triple (triple i v p x) g.accepts (λ (t : Triple). Val t.x) M.fine T.fine;
    owner = each_triple (triple i v p x) g.accepts (λ (t : Triple). Accepted h (t.p % 100) t.v t.p t.x) (owner M.owner) (λ j w q y a. inr (T.owner j w q y a));
    one = one;
    safe = λ j w q r y z Q a lt ne ma le. each_triple (triple i v p x) g.accepts IsSafe (λ r z Q lt ne ma le. refuses_later i g h E Q v r z (L.safe r z Q lt ne ma le))
        (λ j w q y a r z Q lt ne ma le. refuses_later i g h E Q w r z (T.safe j w q r y z Q a lt ne ma le)) j w q y a r z Q lt ne ma le;
  }

abbrev pub with_vote : (v p : ℕ) → Own → Own
with_vote v p o = record o { pending_v = v; pending_pn = p }

same_numbers : (v p : ℕ) (o : Own) (k : Rising) → number_of o k ≡ number_of (with_vote v p o) k
same_numbers v p o AnEpoch = refl
same_numbers v p o ANumber = refl
same_numbers v p o APromise = refl
same_numbers v p o ALevel = refl

voted_numbers : (ss : List Sign) (i v p : ℕ) (o : Own) → Numbered ss i o → Numbered ss i (with_vote v p o)
voted_numbers ss i v p o N = record {
  now = λ k. subst (λ (z : ℕ). HadIn ss k i z) (same_numbers v p o k) (N.now k);
  top = λ k m a. subst (λ (z : ℕ). m ≤ z) (same_numbers v p o k) (N.top k m a);
}

pub record_is : (v u : ℕ) (bytes : List ℕ) (records : ℕ → Cell) → u ≡ v → with_record v bytes records u ≡ Some bytes
record_is v u bytes records e = rw (eq-eqb u v e) refl

accepted_kept : (rs : List Entry) (hs : List Hand) (i v p : ℕ) (x : List Op) (g : Ghost) (o : Own) (records : ℕ → Cell) → MayAccept i g o v p x → Kept rs hs g.accepts i o records
    → Kept rs hs (triple i v p x ∷ g.accepts) i (with_vote v p o) (with_record v (text x) records)
accepted_kept rs hs i v p x g o records M k = record {
  roles = k.roles;
  hands = k.hands;
  order = k.order;
  mine = k.mine;
  accepts = λ w q y a. elim a [ inl e ↦ (let s : q ≡ p = ap (λ (t : Triple). t.p) e in let z = M.now in omega arith) | inr old ↦ k.accepts w q y old ];
  made = λ j w q y a e. elim a [ inl f ↦ (let s : q ≡ p = ap (λ (t : Triple). t.p) f in let z = M.made (sym (ap (λ (z : ℕ). z % 100) s) ∙ e) in omega arith) | inr old ↦ k.made j w q y old e ];
  covered = λ w q y a. elim a [ inl e ↦ inr (sym (ap (λ (t : Triple). t.v) e), let s : q ≡ p = ap (λ (t : Triple). t.p) e in omega arith) | inr old ↦ still w q (k.covered w q y old) ];
  under = let s = M.now in omega arith;
  next = λ u. let s = M.next in omega arith;
  vote = λ u e. record { x = x; was = inl (ap (λ (z : ℕ). triple i z p x) (sym M.next)); is = record_is v (suc o.last) (text x) records (sym M.next) };
  clear = λ u. absurd (false≢true (sym M.unmarked ∙ u));
}
  where
    still : (w q : ℕ) → (w ≤ level_in o) ⊎ ((o.pending_v ≡ w) × (q ≤ o.pending_pn)) → (w ≤ level_in (with_vote v p o)) ⊎ ((v ≡ w) × (q ≤ p))
    still w q (inl s) = inl s
    still w q (inr c) = elim (cases_lt w v) [
      | inl lt ↦ inl (let e = level_is (with_vote v p o) M.unmarked in let f = M.next in omega arith)
      | inr ge ↦ inr (let s = k.next M.unmarked in let f = M.next in let d = c.0 in omega arith, let s = k.under in let f = M.now in let d = c.1 in omega arith)
    ]

-- which triples there are then
pub accepted_cases : (i v p : ℕ) (x : List Op) (g : Ghost) (j w q : ℕ) (y : List Op) → Accepted (accepted i v p x g) j w q y → Accepted g j w q y ⊎ ((j ≡ i) × (w ≡ v) × (q ≡ p) × (y ≡ x))
accepted_cases i v p x g j w q y a = elim a [ inl e ↦ inr (ap (λ (t : Triple). t.i) e, ap (λ (t : Triple). t.v) e, ap (λ (t : Triple). t.p) e, ap (λ (t : Triple). t.x) e) | inr o ↦ inl o ]

accepted_tied : (i v p : ℕ) (x : List Op) (g h : Ghost) (cs : List Change) → Tied i g h cs → Tied i g (accepted i v p x h) (cs ++ Vote v p x ∷ [])
accepted_tied i v p x g h cs T = record { votes = λ w q y a. votes w q y (among_append (Vote w q y) cs (Vote v p x ∷ []) a); only = λ j w q y a. only j w q y a; made = λ q a. made q (among_append (Numbers q) cs (Vote v p x ∷ []) a) }
  where
    made : (q : ℕ) → Among (Numbers q) cs ⊎ Among (Numbers q) (Vote v p x ∷ []) → (q % 100 ≡ i) × ((r : ℕ) → Had g ANumber i r → r < q)
    made q (inl o) = T.made q o
    made q (inr (inl e)) = absurd cc
    made q (inr (inr k)) = absurd k

    new : (w q : ℕ) (y : List Op) → Vote w q y ≡ Vote v p x → triple i w q y ≡ triple i v p x
    new w q y e = let a : w ≡ v = cc in let b : q ≡ p = cc in let c : y ≡ x = cc in λ k. triple i (a k) (b k) (c k)

    votes : (w q : ℕ) (y : List Op) → Among (Vote w q y) cs ⊎ Among (Vote w q y) (Vote v p x ∷ []) → Accepted (accepted i v p x h) i w q y
    votes w q y (inl o) = inr (T.votes w q y o)
    votes w q y (inr (inl e)) = inl (new w q y e)
    votes w q y (inr (inr k)) = absurd k

    only : (j w q : ℕ) (y : List Op) → Accepted (accepted i v p x h) j w q y → Accepted g j w q y ⊎ ((j ≡ i) × Among (Vote w q y) (cs ++ Vote v p x ∷ []))
    only j w q y (inl e) = inr (ap (λ (t : Triple). t.i) e, among_right (Vote w q y) cs (Vote v p x ∷ []) (inl (ap (λ (t : Triple). Vote t.v t.p t.x) e)))
    only j w q y (inr o) = elim (T.only j w q y o) [ inl old ↦ inl old | inr s ↦ inr (s.0, among_left (Vote w q y) cs (Vote v p x ∷ []) s.1) ]

pub accepts : {n i : ℕ} {g : Ghost} {Known : ℕ → List Op → Type 0} {o : Own} {records : ℕ → Cell} {cs : List Change} {out : List Sent} (P Q : Ghost → Type 0) (v p : ℕ) (x : List Op) → i < n → Known v x → (A : With n i g Known o records cs out P)
    → ((h : Ghost) → Ext i g h → Glob n h → Disk h i o records → P h → MayAccept i h o v p x × LeavesNoRoom n h v p x)
    → ((h : Ghost) → Ext i h (accepted i v p x h) → Glob n h → P h → Q (accepted i v p x h))
    → With n i g Known (with_vote v p o) (with_record v (text x) records) (cs ++ Vote v p x ∷ []) out Q
accepts {n} {i} {g} {Known} {o} {records} {cs} P Q v p x below is A may f =
    let h = A.h in
    let M = may h A.ext A.glob A.disk A.fact in
    let k = accepted i v p x h in
    let E = accepted_ext i v p x h o A.disk.numbers M.0 in
    further P Q (with_vote v p o) (with_record v (text x) records) (cs ++ Vote v p x ∷ []) A k E
    (record { roles = A.glob.roles; hands = A.glob.hands; triples = accepted_triples n i v p x h o below E M.0 M.1 A.glob.triples })
    (record { numbers = voted_numbers h.signs i v p o A.disk.numbers; kept = accepted_kept h.roles h.hands i v p x h o records M.0 A.disk.kept })
    (accepted_tied i v p x g h cs A.tied) (each_triple (triple i v p x) h.accepts (λ (t : Triple). Known t.v t.x) is A.known) (λ a m. m) (f h E A.glob A.fact)
