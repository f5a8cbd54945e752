-- Calls on one of two disks, or on both.
use Rattle.std.proofs.Common.{◌≡◌, ℕ, ◌≤◌, List, Option, Some, None, subst, arith}
use Rattle.std.specs.Prelude.{IfSome}
use Rattle.mon_disk.specs.Calls.{Observed}
use Rattle.mon_disk.specs.Images.{Content, images, LeavesOnly}
use Rattle.mon_store.specs.Times.{Lasts, EachPair, Meanwhile, WhileOpening}

still : (x : Content) → Lasts x x
still x = record { later = omega arith; past = λ t c le h. h; kept = λ t c le h. h }

lasts : (old new : Content) (P : List ℕ → Type 0) → LeavesOnly old new P → Lasts old new
lasts old new P l = record { later = l.later; past = l.past; kept = l.kept }

-- a disk without calls leaves the same at each point of the call as now
stays : (x : Content) (t : ℕ) (c : List ℕ) → x.time ≤ t → t ≤ x.time → x.images_at t c → images x c
stays x t c low high left = let same : t ≡ x.time = omega (arith, low, high) in subst (λ (k : ℕ). x.images_at k c) same left

-- calls on the first disk alone
pub first_goes : (old new other : Content) (Q : List ℕ → Type 0) (P : List ℕ → List ℕ → Type 0) → LeavesOnly old new Q → ((c d : List ℕ) → Q c → images other d → P c d) → Meanwhile old other new other P
first_goes old new other Q P l h =
    record { a = lasts old new Q l; b = still other; each = λ s t c d low high from to left there. h c d (l.each s c low high left) (stays other t d from to there) }

-- calls on the second disk alone
pub second_goes : (other old new : Content) (Q : List ℕ → Type 0) (P : List ℕ → List ℕ → Type 0) → LeavesOnly old new Q → ((c d : List ℕ) → images other c → Q d → P c d) → Meanwhile other old other new P
second_goes other old new Q P l h =
    record { a = still other; b = lasts old new Q l; each = λ s t c d low high from to there left. h c d (stays other s c low high there) (l.each t d from to left) }

-- calls on both disks
pub both_go : (a a1 b b1 : Content) (Q R : List ℕ → Type 0) (P : List ℕ → List ℕ → Type 0) → LeavesOnly a a1 Q → LeavesOnly b b1 R → ((c d : List ℕ) → Q c → R d → P c d) → Meanwhile a b a1 b1 P
both_go a a1 b b1 Q R P l k h =
    record { a = lasts a a1 Q l; b = lasts b b1 R k; each = λ s t c d low high from to left there. h c d (l.each s c low high left) (k.each t d from to there) }

-- calls on no disk
pub none_goes : (a b : Content) (P : List ℕ → List ℕ → Type 0) → EachPair a b P → Meanwhile a b a b P
none_goes a b P h = record { a = still a; b = still b; each = λ s t c d low high from to left there. h c d (stays a s c low high left) (stays b t d from to there) }

pub weaker : (a b a1 b1 : Content) (P Q : List ℕ → List ℕ → Type 0) → Meanwhile a b a1 b1 P → ((c d : List ℕ) → P c d → Q c d) → Meanwhile a b a1 b1 Q
weaker a b a1 b1 P Q m h = record { a = m.a; b = m.b; each = λ s t c d low high from to left there. h c d (m.each s t c d low high from to left there) }

-- a call that ends with both
pub ends : (a b a1 b1 : Content) (P : List ℕ → List ℕ → Type 0) → Meanwhile a b a1 b1 P → WhileOpening a b a1 b1 P
ends a b a1 b1 P m = record {
  a = m.a;
  b = m.b;
  switch_time = a1.time;
  from = m.a.later;
  to = omega arith;
  each = m.each;
  alone = λ s c d low high left there. m.each s b1.time c d (let early : a.time ≤ s = omega (arith, m.a.later, low) in early) high m.b.later (omega arith) left there;
}

-- and one that then goes on with the first disk
pub then_first : (a b a1 b1 a2 : Content) (Q : List ℕ → Type 0) (P : List ℕ → List ℕ → Type 0) → Meanwhile a b a1 b1 P → LeavesOnly a1 a2 Q → ((c d : List ℕ) → Q c → images b1 d → P c d) → WhileOpening a b a2 b1 P
then_first a b a1 b1 a2 Q P m l h = record {
  a = record {
    later = omega (arith, m.a.later, l.later);
    past = λ t c le left. m.a.past t c le (l.past t c (let early : t ≤ a1.time = omega (arith, le, m.a.later) in early) left);
    kept = λ t c le left. l.kept t c (let early : t ≤ a1.time = omega (arith, le, m.a.later) in early) (m.a.kept t c le left);
  };
  b = m.b;
  switch_time = a1.time;
  from = m.a.later;
  to = l.later;
  each = λ s t c d low high from to left there. m.each s t c d low high from to (l.past s c high left) there;
  alone = λ s c d low high left there. h c d (l.each s c low high left) there;
}

-- what a crash may leave at the end
pub now : (a b c d : Content) (P : List ℕ → List ℕ → Type 0) → Meanwhile a b c d P → EachPair c d P
now a b c d P m = λ x y left there. m.each c.time d.time x y m.a.later (omega arith) m.b.later (omega arith) left there

-- what two disks settle to is what a crash may leave at the end
pub settles_too : (x y : Content) (p q : Option Observed) (P : List ℕ → List ℕ → Type 0) → EachPair x y P → IfSome p (λ s. images x (s.settles s.made)) → IfSome q (λ t. images y (t.settles t.made))
    → IfSome p (λ s. IfSome q (λ t. P (s.settles s.made) (t.settles t.made)))
settles_too x y None q P h m n = tt
settles_too x y (Some s) None P h m n = tt
settles_too x y (Some s) (Some t) P h m n = h (s.settles s.made) (t.settles t.made) m n
