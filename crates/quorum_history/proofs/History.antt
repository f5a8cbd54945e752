-- What happened, as lists that only grow, and what a step of one monitor may add to them.
use Rattle.law_names.proofs.Table.{Command, Op, Session, has, is_even, is_majority}
use Rattle.quorum_history.proofs.Growing.{Grows, grows_as, grows_more, grows_not}
use Rattle.quorum_walk.proofs.FineCourses.{Val}
use Rattle.quorum_walk.proofs.Lists.{Among}
use Rattle.quorum_walk.proofs.Ranks.{Below}
use Rattle.std.proofs.Common.{Bool, List, inl, inr, suc, true, ℕ, ◌%◌, ◌<◌, ◌≡◌, ◌≤◌, ◌⊎◌}

-- i entered epoch e under leader l with quorum q
pub record Entry : Type 0 where
  pub i : ℕ
  pub e : ℕ
  pub l : ℕ
  pub q : List Bool

-- peon i gave a session's command this number in epoch e
pub record Hand : Type 0 where
  pub i : ℕ
  pub e : ℕ
  pub seq : ℕ
  pub session : Session
  pub command : Command

-- a session asked this command of monitor i
pub record Ask : Type 0 where
  pub i : ℕ
  pub session : Session
  pub command : Command

-- i accepted this value for a version under a number
pub record Triple : Type 0 where
  pub i : ℕ
  pub v : ℕ
  pub p : ℕ
  pub x : List Op

-- The numbers of a monitor that never decrease: its epoch, the last proposal number that it made, the one that it
-- promised, and its level. Its level is the floor of a full synchronization that is under way, and otherwise its last
-- version.
pub data Rising : Type 0 where
  AnEpoch : Rising
  ANumber : Rising
  APromise : Rising
  ALevel : Rising

-- i's number of this kind was n
pub record Sign : Type 0 where
  pub kind : Rising
  pub i : ℕ
  pub n : ℕ

pub record Ghost : Type 0 where
  pub roles : List Entry
  pub hands : List Hand
  pub asks : List Ask
  pub signs : List Sign
  pub accepts : List Triple

abbrev pub entry : (i e l : ℕ) → List Bool → Entry
entry i e l q = record { i = i; e = e; l = l; q = q }

abbrev pub hand : (i e seq : ℕ) → Session → Command → Hand
hand i e seq s c = record { i = i; e = e; seq = seq; session = s; command = c }

abbrev pub asking : ℕ → Session → Command → Ask
asking i s c = record { i = i; session = s; command = c }

abbrev pub triple : (i v p : ℕ) → List Op → Triple
triple i v p x = record { i = i; v = v; p = p; x = x }

abbrev pub sign : Rising → (i n : ℕ) → Sign
sign k i n = record { kind = k; i = i; n = n }

abbrev pub Entered : Ghost → (i e l : ℕ) → List Bool → Type 0
Entered g i e l q = Among (entry i e l q) g.roles

abbrev pub Handed : Ghost → (i e seq : ℕ) → Session → Command → Type 0
Handed g i e seq s c = Among (hand i e seq s c) g.hands

abbrev pub Asks : Ghost → ℕ → Session → Command → Type 0
Asks g i s c = Among (asking i s c) g.asks

abbrev pub Accepted : Ghost → (i v p : ℕ) → List Op → Type 0
Accepted g i v p x = Among (triple i v p x) g.accepts

-- the value that a number of this kind has at least, even if none was signed
abbrev pub least : Rising → ℕ
least AnEpoch = 1
least other = 0

pub record SignedAs (ss : List Sign) (k : Rising) (i n : ℕ) : Type 0 where
  pub m : ℕ
  pub high : n ≤ m
  pub was : Among (sign k i m) ss

-- i's number of this kind was n or more
abbrev pub HadIn : List Sign → Rising → (i n : ℕ) → Type 0
HadIn ss k i n = (n ≤ least k) ⊎ SignedAs ss k i n

abbrev pub Had : Ghost → Rising → (i n : ℕ) → Type 0
Had g k i n = HadIn g.signs k i n

-- m entered the epoch under that leader
abbrev pub Joined : Ghost → (m e l : ℕ) → Type 0
Joined g m e l = (w : List Bool) × Entered g m e l w

-- ---- what holds of the history as a whole

-- who enters an epoch is in its leader's quorum, of a majority of the map, and enters it once
pub record RolesHold (n : ℕ) (rs : List Entry) : Type 0 where
  pub even : (i e l : ℕ) (q : List Bool) → Among (entry i e l q) rs → is_even e ≡ true
  pub below : (i e l : ℕ) (q : List Bool) → Among (entry i e l q) rs → i < n
  pub self : (i e l : ℕ) (q : List Bool) → Among (entry i e l q) rs → has q i ≡ true
  pub leader : (i e l : ℕ) (q : List Bool) → Among (entry i e l q) rs → has q l ≡ true
  pub major : (i e l : ℕ) (q : List Bool) → Among (entry i e l q) rs → is_majority n q ≡ true
  pub within : (i e l : ℕ) (q : List Bool) → Among (entry i e l q) rs → (m : ℕ) → has q m ≡ true → m < n
  pub lead : (i e l : ℕ) (q : List Bool) → Among (entry i e l q) rs → Among (entry l e l q) rs
  pub once : (i e l k : ℕ) (q w : List Bool) → Among (entry i e l q) rs → Among (entry i e k w) rs → (l ≡ k) × (q ≡ w)

-- a number is given to one command, which was asked
pub record HandsHold (hs : List Hand) (asks : List Ask) : Type 0 where
  pub once : (i e seq : ℕ) (s t : Session) (c d : Command) → Among (hand i e seq s c) hs → Among (hand i e seq t d) hs → (s ≡ t) × (c ≡ d)
  pub asked : (i e seq : ℕ) (s : Session) (c : Command) → Among (hand i e seq s c) hs → Among (asking i s c) asks

-- a rank of Q that can't accept y for v under r any more
pub record HasBlocker (ss : List Sign) (ts : List Triple) (Q : List Bool) (v r : ℕ) (y : List Op) : Type 0 where
  pub m : ℕ
  pub within : has Q m ≡ true
  pub above : HadIn ss APromise m (suc r)
  pub never : Among (triple m v r y) ts → ⊥

pub record TriplesHold (n : ℕ) (ss : List Sign) (ts : List Triple) : Type 0 where
  pub below : (i v p : ℕ) (x : List Op) → Among (triple i v p x) ts → i < n
  pub some : (i v p : ℕ) (x : List Op) → Among (triple i v p x) ts → 1 ≤ v
  pub fine : (i v p : ℕ) (x : List Op) → Among (triple i v p x) ts → Val x
  -- the rank whose number it is accepted it too
  pub owner : (i v p : ℕ) (x : List Op) → Among (triple i v p x) ts → Among (triple (p % 100) v p x) ts
  -- one value for a version under a number
  pub one : (i j v p : ℕ) (x y : List Op) → Among (triple i v p x) ts → Among (triple j v p y) ts → x ≡ y
  -- what is proposed leaves no room for another value under a lower number
  pub safe : (i v p r : ℕ) (x y : List Op) (Q : List Bool) → Among (triple i v p x) ts → r < p → (y ≡ x → ⊥) → is_majority n Q ≡ true → Below n Q → HasBlocker ss ts Q v r y

pub record Glob (n : ℕ) (g : Ghost) : Type 0 where
  pub roles : RolesHold n g.roles
  pub hands : HandsHold g.hands g.asks
  pub triples : TriplesHold n g.signs g.accepts

-- ---- what a step of i may do

-- an entry that monitor i adds: its epoch is above each that i had
pub record NewEntry (i : ℕ) (g : Ghost) (r : Entry) : Type 0 where
  pub who : r.i ≡ i
  pub later : (n : ℕ) → Had g AnEpoch i n → n < r.e

-- A triple that monitor i adds. Its number isn't below one that i promised. The number is i's own, or a monitor
-- accepted the same value for this version under it before.
pub record NewTriple (i : ℕ) (g : Ghost) (t : Triple) : Type 0 where
  pub who : t.i ≡ i
  pub high : (q : ℕ) → Had g APromise i q → q ≤ t.p
  pub from : (t.p % 100 ≡ i) ⊎ ((k : ℕ) × Accepted g k t.v t.p t.x)

pub record Ext (i : ℕ) (g h : Ghost) : Type 0 where
  pub roles : Grows (NewEntry i g) g.roles h.roles
  pub hands : Grows (λ (r : Hand). r.i ≡ i) g.hands h.hands
  pub asks : Grows (λ (a : Ask). Unit {0}) g.asks h.asks
  pub signs : Grows (λ (s : Sign). s.i ≡ i) g.signs h.signs
  pub accepts : Grows (NewTriple i g) g.accepts h.accepts

pub ext_refl : (i : ℕ) (g : Ghost) → Ext i g g
ext_refl i g = record { roles = grows_not _ g.roles; hands = grows_not _ g.hands; asks = grows_not _ g.asks; signs = grows_not _ g.signs; accepts = grows_not _ g.accepts }

module _ {i : ℕ} {g h : Ghost} (E : Ext i g h) where
  pub had_lasts : (k : Rising) (j n : ℕ) → Had g k j n → Had h k j n
  had_lasts k j n (inl l) = inl l
  had_lasts k j n (inr s) = inr (record { m = s.m; high = s.high; was = E.signs.keeps (sign k j s.m) s.was })

  -- what holds of the numbers of another monitor than i held before
  pub had_before : (k : Rising) (j n : ℕ) → (j ≡ i → ⊥) → Had h k j n → Had g k j n
  had_before k j n ne (inl l) = inl l
  had_before k j n ne (inr s) = inr (record { m = s.m; high = s.high; was = elim (E.signs.added (sign k j s.m) s.was) [ inl o ↦ o | inr e ↦ absurd (ne e) ] })

pub ext_trans : {i : ℕ} {f g h : Ghost} → Ext i f g → Ext i g h → Ext i f h
ext_trans {i} {f} {g} {h} a b = record {
  roles = grows_more _ f.roles g.roles h.roles a.roles (grows_as (NewEntry i g) (NewEntry i f) g.roles h.roles (λ r w. record { who = w.who; later = λ n k. w.later n (had_lasts a AnEpoch i n k) }) b.roles);
  hands = grows_more _ f.hands g.hands h.hands a.hands b.hands;
  asks = grows_more _ f.asks g.asks h.asks a.asks b.asks;
  signs = grows_more _ f.signs g.signs h.signs a.signs b.signs;
  accepts = grows_more _ f.accepts g.accepts h.accepts a.accepts (grows_as (NewTriple i g) (NewTriple i f) g.accepts h.accepts older b.accepts);
}
  where
    origin : (v p : ℕ) (x : List Op) (k : ℕ) → Accepted f k v p x ⊎ NewTriple i f (triple k v p x) → (p % 100 ≡ i) ⊎ ((k : ℕ) × Accepted f k v p x)
    origin v p x k (inl o) = inr (k, o)
    origin v p x k (inr w) = w.from

    from : (v p : ℕ) (x : List Op) → (p % 100 ≡ i) ⊎ ((k : ℕ) × Accepted g k v p x) → (p % 100 ≡ i) ⊎ ((k : ℕ) × Accepted f k v p x)
    from v p x (inl e) = inl e
    from v p x (inr s) = origin v p x s.0 (a.accepts.added (triple s.0 v p x) s.1)

    older : (t : Triple) → NewTriple i g t → NewTriple i f t
    older t w = record { who = w.who; high = λ q k. w.high q (had_lasts a APromise i q k); from = from t.v t.p t.x w.from }
