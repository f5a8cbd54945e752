-- The live disk's file is read again, after both were opened.
use Rattle.std.proofs.Common.{◌≡◌, ◌⊎◌, ⊎_elim, inl, inr, ℕ, ◌≤◌, ◌<◌, true, is_some, List, Option, Some, None, Result, Err, sym, ap, subst, ◌∙◌, arith}
use Rattle.std.specs.Prelude.{IfSome, slice_index_or}
use Rattle.mon_types.specs.declared.names.Stop.{Stop}
use Rattle.mon_types.specs.declared.names.Stop.TheVariants as disk_stop
use Rattle.mon_types.specs.declared.names.Side.{Side}
use Rattle.mon_types.specs.declared.names.Side.TheVariants.{A, B}
use Rattle.mon_disk.specs.Images.{Content, images, Only, LeavesOnly}
use Rattle.mon_disk.specs.Calls.{Observed, DiskState, faults_after, MayCountRefusal}
use Rattle.mon_disk.proofs.Following.{now}
use Rattle.mon_journal.specs.declared.journal.Journal.{Journal}
use Rattle.mon_journal.specs.Content.{payloads_of, Holds}
use Rattle.mon_journal.specs.Pieces.{OnlyReads}
use Rattle.mon_journal.specs.Steps.{Stands}
use Rattle.mon_store.specs.declared.stop.OpenStop.{OpenStop}
use Rattle.mon_store.specs.declared.stop.OpenStop.TheVariants.{DiskFault}
use Rattle.mon_store.specs.Times.{Meanwhile}
use Rattle.mon_store.specs.Opening.{stop_in, Counts, BothCount, Rereads}

-- ---- of one disk

-- a crash after a read leaves only what it might have left before
left_before : (stop : Option Stop) (old new : DiskState) → OnlyReads stop old new → (c : List ℕ) → images new.content c → images old.content c
left_before stop old new r = now old.content new.content (images old.content) r.call.any_time

pub only_still : (stop : Option Stop) (old new : DiskState) → OnlyReads stop old new → Only old.content → Only new.content
only_still stop old new r only = λ c left. r.seen ∙ only c (left_before stop old new r c left)

pub observed_still : (stop : Option Stop) (old new : DiskState) → OnlyReads stop old new → new.observed ≡ old.observed
observed_still stop old new r = r.call.made.0

pub stands_still : (stop : Option Stop) (old new : DiskState) (journal : Journal) → OnlyReads stop old new → journal.next_gate < new.known → Stands journal old.known old.content → Stands journal new.known new.content
stands_still stop old new journal r reach s = record {
  only = only_still stop old new r s.only;
  holds = subst (λ (t : Option (List ℕ)). IfSome t (λ file. Holds journal (payloads_of file) file)) (sym r.seen) s.holds;
  shut = subst (λ (t : Option (List ℕ)). IfSome t (λ file. Rattle.std.specs.Prelude.◌≢◌ (slice_index_or file journal.next_gate 0) 1)) (sym r.seen) s.shut;
  reach = reach;
  room = s.room;
}

-- ---- of the two

module _ {D : Type 0} (state : D → DiskState) where
  -- disk A is read again, or disk B
  pub goes : (side : Side) (stop : Option Stop) (a b a1 b1 : D) → Rereads state side stop a b a1 b1 → (OnlyReads stop (state a) (state a1) × (state b1 ≡ state b)) ⊎ ((state a1 ≡ state a) × OnlyReads stop (state b) (state b1))
  goes A stop a b a1 b1 r = inl (r.live, ap state r.other)
  goes B stop a b a1 b1 r = inr (ap state r.other, r.live)

  pub visible_a : (side : Side) (stop : Option Stop) (a b a1 b1 : D) → Rereads state side stop a b a1 b1 → (state a1).content.seen ≡ (state a).content.seen
  visible_a A stop a b a1 b1 r = r.live.seen
  visible_a B stop a b a1 b1 r = ap (λ d. (state d).content.seen) r.other

  pub visible_b : (side : Side) (stop : Option Stop) (a b a1 b1 : D) → Rereads state side stop a b a1 b1 → (state b1).content.seen ≡ (state b).content.seen
  visible_b A stop a b a1 b1 r = ap (λ d. (state d).content.seen) r.other
  visible_b B stop a b a1 b1 r = r.live.seen

  pub made_a : (side : Side) (stop : Option Stop) (a b a1 b1 : D) → Rereads state side stop a b a1 b1 → (state a1).observed ≡ (state a).observed
  made_a A stop a b a1 b1 r = observed_still stop (state a) (state a1) r.live
  made_a B stop a b a1 b1 r = ap (λ d. (state d).observed) r.other

  pub made_b : (side : Side) (stop : Option Stop) (a b a1 b1 : D) → Rereads state side stop a b a1 b1 → (state b1).observed ≡ (state b).observed
  made_b A stop a b a1 b1 r = ap (λ d. (state d).observed) r.other
  made_b B stop a b a1 b1 r = observed_still stop (state b) (state b1) r.live

module _ (x y : Content) (P : List ℕ → List ℕ → Type 0) where
  le_or_ge : (m n : ℕ) → (m ≤ n) ⊎ (n ≤ m)
  le_or_ge m n = grind arith

  -- further calls on disk A leave what it left before
  on_a : (a a1 b : Content) → Meanwhile x y a b P → LeavesOnly a a1 (images a) → Meanwhile x y a1 b P
  on_a a a1 b m l = record {
    a = record {
      later = omega (arith, m.a.later, l.later);
      past = λ t c le left. m.a.past t c le (l.past t c (omega (arith, le, m.a.later)) left);
      kept = λ t c le left. l.kept t c (omega (arith, le, m.a.later)) (m.a.kept t c le left);
    };
    b = m.b;
    each = λ s t c d low high from to left there. ⊎_elim
        (λ (early : s ≤ a.time). m.each s t c d low early from to (l.past s c early left) there)
        (λ (late : a.time ≤ s). m.each a.time t c d m.a.later (omega arith) from to (l.each s c late high left) there)
        (le_or_ge s a.time);
  }

  on_b : (a b b1 : Content) → Meanwhile x y a b P → LeavesOnly b b1 (images b) → Meanwhile x y a b1 P
  on_b a b b1 m l = record {
    a = m.a;
    b = record {
      later = omega (arith, m.b.later, l.later);
      past = λ t c le left. m.b.past t c le (l.past t c (omega (arith, le, m.b.later)) left);
      kept = λ t c le left. l.kept t c (omega (arith, le, m.b.later)) (m.b.kept t c le left);
    };
    each = λ s t c d low high from to left there. ⊎_elim
        (λ (early : t ≤ b.time). m.each s t c d low high from early left (l.past t d early there))
        (λ (late : b.time ≤ t). m.each s b.time c d low high m.b.later (omega arith) left (l.each t d late to there))
        (le_or_ge t b.time);
  }

  pub read_meanwhile : {D : Type 0} (state : D → DiskState) (side : Side) (stop : Option Stop) (a b a1 b1 : D) → Rereads state side stop a b a1 b1 → Meanwhile x y (state a).content (state b).content P → Meanwhile x y (state a1).content (state b1).content P
  read_meanwhile state side stop a b a1 b1 r m = elim (goes state side stop a b a1 b1 r) [
    | inl g ↦ subst (λ (d : DiskState). Meanwhile x y (state a1).content d.content P) (sym g.1) (on_a (state a).content (state a1).content (state b).content m g.0.call.any_time)
    | inr g ↦ subst (λ (d : DiskState). Meanwhile x y d.content (state b1).content P) (sym g.0) (on_b (state a).content (state b).content (state b1).content m g.1.call.any_time)
  ]

-- what the two disks counted
read_counts : (s : Option Stop) (first mid last : DiskState) → Counts None first mid → OnlyReads s mid last → Counts s first last
read_counts s first mid last c r = (r.call.faults ∙ ap (faults_after s) c.0, subst (λ (n : ℕ). MayCountRefusal s n last.refusals) c.1 r.call.refusals)

pub reread_counts : {D : Type 0} (state : D → DiskState) (side : Side) (s : Option Stop) (x y : DiskState) (a b a1 b1 : D) → Rereads state side s a b a1 b1 → BothCount None x y (state a) (state b) → BothCount s x y (state a1) (state b1)
reread_counts state side s x y a b a1 b1 r both = elim (goes state side s a b a1 b1 r) [
  | inl g ↦ subst (λ (d : DiskState). BothCount s x y (state a1) d) (sym g.1) (inl (read_counts s x (state a) (state a1) (of_a both) g.0, of_b both))
  | inr g ↦ subst (λ (d : DiskState). BothCount s x y d (state b1)) (sym g.0) (inr (of_a both, read_counts s y (state b) (state b1) (of_b both) g.1))
]
  where
    of_a : BothCount None x y (state a) (state b) → Counts None x (state a)
    of_a (inl c) = c.0
    of_a (inr c) = c.0

    of_b : BothCount None x y (state a) (state b) → Counts None y (state b)
    of_b (inl c) = c.1
    of_b (inr c) = c.1

-- a disk whose calls can be seen fails in none that only reads
never : (observed : Option Observed) (s : Option Stop) → is_some observed ≡ true → IfSome observed (λ t. s ≡ Some disk_stop.Failed → ⊥) → s ≡ Some disk_stop.Failed → ⊥
never None s some h is = absurd cc
never (Some t) s some h is = h is

pub no_fault_observed : {D U : Type 0} (state : D → DiskState) (side : Side) (result : Result U OpenStop) (a b a1 b1 : D) → is_some (state a).observed ≡ true → is_some (state b).observed ≡ true → Rereads state side (stop_in result) a b a1 b1 → result ≡ Err DiskFault → ⊥
no_fault_observed {U = U} state side result a b a1 b1 observed_a observed_b r is = elim (goes state side (stop_in result) a b a1 b1 r) [
  | inl g ↦ never (state a).observed (stop_in result) observed_a g.0.call.made.1 (ap (λ (x : Result U OpenStop). stop_in x) is)
  | inr g ↦ never (state b).observed (stop_in result) observed_b g.1.call.made.1 (ap (λ (x : Result U OpenStop). stop_in x) is)
]
