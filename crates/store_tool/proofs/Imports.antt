-- What two disks represent while an import makes a store on them.
use Rattle.std.proofs.Common.{◌≡◌, ◌⊎◌, ⊎_elim, inl, inr, ℕ, ◌≤◌, ◌+◌, false, ltb, length, List, [], ◌∷◌, Option, Some, None, Result, Ok, Err, refl, sym, ap, subst, ◌∙◌, arith}
use Rattle.std.specs.Prelude.{IfSome, OnOk}
use Rattle.mon_types.specs.declared.names.Side.TheVariants.{A}
use Rattle.mon_types.specs.declared.names.Stop.{Stop}
use Rattle.mon_types.specs.declared.member.Member.{Member}
use Rattle.std.proofs.lemmas.Bool.{le-ltb}
use Rattle.mon_disk.specs.Calls.{Observed}
use Rattle.mon_disk.specs.Images.{Content, images, Only, LeavesOnly}
use Rattle.mon_disk.proofs.Following.{now, then_more}
use Rattle.mon_tx.specs.Map.{Store}
use Rattle.mon_kv.specs.Readers.{size_of, most_size}
use Rattle.mon_journal.specs.Content.{content, payloads_of, Holds}
use Rattle.mon_journal.specs.Steps.{Keeps}
use Rattle.mon_store.specs.Checkpoint.{checkpoint_text, HasCheckpoint}
use Rattle.mon_store.specs.Payloads.{map_of}
use Rattle.mon_store.specs.Sound.{IsBelow, Begins}
use Rattle.mon_store.proofs.OnPairs.{on_held}
use Rattle.mon_store.proofs.Payloads.{map_checkpoint}
use Rattle.store_tool.specs.Import.{imported, Whole, ClosedOrWhole, BothKeep, KeepThenMake, WhileImporting, IfWritten}

-- an empty disk that was synced
abbrev pub IsNothing : Content → Type 0
IsNothing x = Only x × IfSome x.seen (λ file. file ≡ [])

empty_closed : content [] ≡ None
unfolding content
empty_closed = refl

nothing_left : (x : Content) → IsNothing x → (c : List ℕ) → images x c → content c ≡ None
nothing_left x none c left =
    let is : c ≡ [] = subst (λ (s : Option (List ℕ)). IfSome s (λ file. file ≡ [])) (none.0 c left) none.1 in
    ap content is ∙ empty_closed

module _ (member : Member) (m : Store) (size : size_of m ≤ most_size) where
  below_one : (d : List ℕ) → content d ≡ None → IsBelow 1 (content d)
  below_one d closed = subst (IsBelow 1) (sym closed) tt

  -- while the file is made
  during : (a b : Content) → IsNothing a → IsNothing b → (c d : List ℕ) → Begins a (imported member m) m c → images b d → ClosedOrWhole member m c d
  during a b none_a none_b c d (inl left) there = inl (nothing_left a none_a c left, nothing_left b none_b d there)
  during a b none_a none_b c d (inr (inl closed)) there = inl (closed.0, nothing_left b none_b d there)
  during a b none_a none_b c d (inr (inr new)) there =
      inr (on_held A c d (imported member m) (checkpoint_text m ∷ []) m new.0 (below_one d (nothing_left b none_b d there)) (map_checkpoint m new.1 size))

  -- and once it is there
  pub made : (a b : Content) (known : ℕ) → HasCheckpoint m → Keeps (imported member m) (checkpoint_text m ∷ []) known a → IsNothing b → (c d : List ℕ) → images a c → images b d → Whole member m c d
  made a b known form keeps none_b c d left there =
      let seen : a.seen ≡ Some c = keeps.stands.only c left in
      let holds : Holds (imported member m) (payloads_of c) c = subst (λ (s : Option (List ℕ)). IfSome s (λ file. Holds (imported member m) (payloads_of file) file)) seen keeps.stands.holds in
      let are : payloads_of c ≡ checkpoint_text m ∷ [] = subst (λ (s : Option (List ℕ)). IfSome s (λ file. payloads_of file ≡ checkpoint_text m ∷ [])) seen keeps.payloads_are in
      record { holds = holds; map = ap map_of are ∙ map_checkpoint m form size; below = below_one d (nothing_left b none_b d there) }

  -- both disks were synced, and then the file was made
  pub making : (a b a1 b1 a2 : Content) → BothKeep a b a1 b1 → IsNothing a1 → IsNothing b1 → LeavesOnly a1 a2 (Begins a1 (imported member m) m) → KeepThenMake member m a b a2 b1
  making a b a1 b1 a2 k none_a none_b l = record {
    a = record {
      later = omega (arith, k.a.later, l.later);
      past = λ t c le left. k.a.past t c le (l.past t c (omega (arith, le, k.a.later)) left);
      kept = λ t c le left. l.kept t c (omega (arith, le, k.a.later)) (k.a.kept t c le left);
    };
    b = k.b;
    synced = a1.time;
    from = k.a.later;
    to = l.later;
    before = λ t c low high left. k.a.each t c low high (l.past t c high left);
    later = λ t c d low high left there. during a1 b1 none_a none_b c d (l.each t c low high left) there;
  }

le_or_ge : (m n : ℕ) → (m ≤ n) ⊎ (n ≤ m)
le_or_ge m n = grind arith

kept_on : (x y z : Content) → LeavesOnly x y (images x) → LeavesOnly y z (images y) → LeavesOnly x z (images x)
kept_on x y z k l = then_more x y z (images x) (images y) (images x) k l (λ c h. h) (now x y (images x) k)

-- the disks were looked at before
pub looked_then : (member : Member) (m : Store) (a b a1 b1 a2 b2 : Content) → BothKeep a b a1 b1 → KeepThenMake member m a1 b1 a2 b2 → KeepThenMake member m a b a2 b2
looked_then member m a b a1 b1 a2 b2 k l = record {
  a = record {
    later = omega (arith, k.a.later, l.a.later);
    past = λ t c le left. k.a.past t c le (l.a.past t c (omega (arith, le, k.a.later)) left);
    kept = λ t c le left. l.a.kept t c (omega (arith, le, k.a.later)) (k.a.kept t c le left);
  };
  b = kept_on b b1 b2 k.b l.b;
  synced = l.synced;
  from = omega (arith, k.a.later, l.from);
  to = l.to;
  before = λ t c low high left.
      ⊎_elim
      (λ (early : t ≤ a1.time). k.a.each t c low early (l.a.past t c early left))
      (λ (late : a1.time ≤ t). now a a1 (images a) k.a c (l.before t c late high left))
      (le_or_ge t a1.time);
  later = l.later;
}

pub looked : (member : Member) (m : Store) (a b a1 b1 a2 b2 : Content) → BothKeep a b a1 b1 → WhileImporting member m a1 b1 a2 b2 → WhileImporting member m a b a2 b2
looked member m a b a1 b1 a2 b2 k (inl l) = inl (record { a = kept_on a a1 a2 k.a l.a; b = kept_on b b1 b2 k.b l.b })
looked member m a b a1 b1 a2 b2 k (inr l) = inr (looked_then member m a b a1 b1 a2 b2 k l)

-- ---- whether a write was begun

pub if_written : (old new : Option Observed) (P : Type 0) → P → IfWritten old new P
if_written None new P p = tt
if_written (Some s) None P p = tt
if_written (Some s) (Some t) P p = λ more. p

pub none_written : (old new : Option Observed) (P : Type 0) → new ≡ old → IfWritten old new P
none_written old new P same = subst (λ (t : Option Observed). IfWritten old t P) (sym same) (by old)
  where
    by : (s : Option Observed) → IfWritten s s P
    by None = tt
    by (Some s) = λ more.
        let few : ltb (length s.made + 1) (length s.made) ≡ false = le-ltb _ _ (omega arith) in
        absurd cc

pub then_written : (old mid new : Option Observed) (P Q : Type 0) → mid ≡ old → (P → Q) → IfWritten mid new P → IfWritten old new Q
then_written old mid new P Q same h w = by old new (subst (λ (t : Option Observed). IfWritten t new P) same w)
  where
    by : (s t : Option Observed) → IfWritten s t P → IfWritten s t Q
    by None t w = tt
    by (Some s) None w = tt
    by (Some s) (Some t) w = λ more. h (w more)

-- what holds if the calls came to their end
pub when_ok : (r : Result (Unit {0}) Stop) (K F P : Type 0) → (K → F → P) → OnOk r K → OnOk r F → OnOk r P
when_ok (Ok x) K F P h k f = h k f
when_ok (Err e) K F P h k f = tt
