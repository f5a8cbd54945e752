-- Calls of a disk that follow each other.
use Rattle.std.proofs.Common.{◌≡◌, ◌⊎◌, ⊎_elim, inl, inr, ℕ, ◌≤◌, List, [], ◌∷◌, ◌++◌, Option, Some, None, refl, ap, ◌∙◌, subst, arith}
use Rattle.std.specs.Prelude.{IfSome}
use Rattle.mon_types.specs.declared.names.Stop.{Stop}
use Rattle.mon_types.specs.declared.names.Stop.TheVariants.{Failed, OutOfMemory}
use Rattle.mon_disk.specs.declared.disk.DiskCall.{DiskCall}
use Rattle.mon_disk.specs.Images.{Content, images, TornFrom, LeavesOnly}
use Rattle.mon_disk.specs.Calls.{Observed, DiskState, and_made, faults_after, MayCountRefusal, Makes, Called}
use Rattle.mon_disk.proofs.Writes.{torn_not}

-- ---- what a crash may leave at each point

-- no time passes
pub still : (x : Content) (P : List ℕ → Type 0) → ((c : List ℕ) → images x c → P c) → LeavesOnly x x P
still x P here = record {
  later = omega arith;
  past = λ t c le left. left;
  kept = λ t c le left. left;
  each = λ t c from to left.
      let same : t ≡ x.time = omega (arith, from, to) in
      here c (subst (λ (m : ℕ). x.images_at m c) same left);
}

pub weaker : (old new : Content) (P R : List ℕ → Type 0) → LeavesOnly old new P → ((c : List ℕ) → P c → R c) → LeavesOnly old new R
weaker old new P R so_far p = record { later = so_far.later; past = so_far.past; kept = so_far.kept; each = λ t c from to left. p c (so_far.each t c from to left) }

-- two spans of time, one after the other
pub then_more : (old mid new : Content) (P Q R : List ℕ → Type 0) → LeavesOnly old mid P → LeavesOnly mid new Q → ((c : List ℕ) → P c → R c) → ((c : List ℕ) → Q c → R c) → LeavesOnly old new R
then_more old mid new P Q R first second p q = record {
  later = omega (arith, first.later, second.later);
  past = λ t c le left. first.past t c le (second.past t c (omega (arith, le, first.later)) left);
  kept = λ t c le left. second.kept t c (omega (arith, le, first.later)) (first.kept t c le left);
  each = λ t c from to left.
      ⊎_elim
      (λ (before : t ≤ mid.time). p c (first.each t c from before (second.past t c before left)))
      (λ (after : mid.time ≤ t). q c (second.each t c after to left))
      (le_or_ge t mid.time);
}
  where
    le_or_ge : (m n : ℕ) → (m ≤ n) ⊎ (n ≤ m)
    le_or_ge m n = grind arith

-- what may be left now is what may be left at some point
pub now : (old new : Content) (P : List ℕ → Type 0) → LeavesOnly old new P → (c : List ℕ) → images new c → P c
now old new P so_far c left = so_far.each new.time c so_far.later (omega arith) left

-- what a crash may leave now it may also leave of any write
pub torn_none : (x : Content) (at : ℕ) (bytes c : List ℕ) → images x c → TornFrom x at bytes c
torn_none x at bytes c left = (c, left, torn_not at bytes c)

-- and what a disk settles to has it too
pub settles_by : (old new : Content) (observed : Option Observed) (P : List ℕ → Type 0) → LeavesOnly old new P → IfSome observed (λ t. images new (t.settles t.made)) → IfSome observed (λ t. P (t.settles t.made))
settles_by old new None P so_far settled = tt
settles_by old new (Some t) P so_far settled = now old new P so_far (t.settles t.made) settled

-- ---- which calls were made

none_more : (call : DiskCall) (calls : List DiskCall) (s : Stop) (old new : Option Observed) → Makes [] (Some s) old new → Makes (call ∷ calls) (Some s) old new
none_more call calls OutOfMemory old new made = inl (refl, made.0)
none_more call calls Failed None new made = inr (inl (refl, made.0, tt))
none_more call calls Failed (Some t) new made = absurd (made.1 refl)

-- calls that stopped are followed by none
pub stops : (calls more : List DiskCall) (s : Stop) (old new : Option Observed) → Makes calls (Some s) old new → Makes (calls ++ more) (Some s) old new
stops [] [] s old new made = made
stops [] (call ∷ more) s old new made = none_more call more s old new made
stops (call ∷ calls) more s old new (inl stopped) = inl stopped
stops (call ∷ calls) more s old new (inr (inl failed)) = inr (inl failed)
stops (call ∷ calls) more s old new (inr (inr (passes, rest))) = inr (inr (passes, stops calls more s (and_made call old) new rest))

-- calls that were all made may be followed by more
pub follows : (calls more : List DiskCall) (stop : Option Stop) (old mid new : Option Observed) → Makes calls None old mid → Makes more stop mid new → Makes (calls ++ more) stop old new
follows [] more stop old mid new made next = subst (λ (t : Option Observed). Makes more stop t new) made.0 next
follows (call ∷ calls) more stop old mid new (inl (is, same)) next = absurd cc
follows (call ∷ calls) more stop old mid new (inr (inl (is, same, fails))) next = absurd cc
follows (call ∷ calls) more stop old mid new (inr (inr (passes, rest))) next = inr (inr (passes, follows calls more stop (and_made call old) mid new rest next))

-- ---- all of it

-- before the first call
pub none : (d : DiskState) (P : List ℕ → Type 0) → ((c : List ℕ) → images d.content c → P c) → Called [] P None d d
none d P here = record { visible = refl; any_time = still d.content P here; made = (refl, never d.observed); faults = refl; refusals = refl }
  where
    never : (observed : Option Observed) → IfSome observed (λ t. ◌≡◌ {A = Option Stop} None (Some Failed) → ⊥)
    never None = tt
    never (Some t) = λ is. cc

pub widened : {calls : List DiskCall} {stop : Option Stop} {old new : DiskState} (P R : List ℕ → Type 0) → Called calls P stop old new → ((c : List ℕ) → P c → R c) → Called calls R stop old new
widened {old = old} {new = new} P R c p =
    record { visible = c.visible; any_time = weaker old.content new.content P R c.any_time p; made = c.made; faults = c.faults; refusals = c.refusals }

-- calls that were all made, and calls after them
pub then_calls : {calls more : List DiskCall} {stop : Option Stop} {old mid new : DiskState} (P Q R : List ℕ → Type 0) → Called calls P None old mid → Called more Q stop mid new
    → ((c : List ℕ) → P c → R c) → ((c : List ℕ) → Q c → R c) → Called (calls ++ more) R stop old new
then_calls {calls = calls} {more = more} {stop = stop} {old = old} {mid = mid} {new = new} P Q R first second p q = record {
  visible = second.visible ∙ first.visible;
  any_time = then_more old.content mid.content new.content P Q R first.any_time second.any_time p q;
  made = follows calls more stop old.observed mid.observed new.observed first.made second.made;
  faults = second.faults ∙ ap (faults_after stop) first.faults;
  refusals = subst (λ (n : ℕ). MayCountRefusal stop n new.refusals) first.refusals second.refusals;
}

-- calls that stopped: the calls after them aren't made
pub stopped_at : {calls : List DiskCall} {s : Stop} {old new : DiskState} (more : List DiskCall) (P R : List ℕ → Type 0) → Called calls P (Some s) old new → ((c : List ℕ) → P c → R c) → Called (calls ++ more) R (Some s) old new
stopped_at {calls = calls} {s = s} {old = old} {new = new} more P R c p = record {
  visible = c.visible;
  any_time = weaker old.content new.content P R c.any_time p;
  made = stops calls more s old.observed new.observed c.made;
  faults = c.faults;
  refusals = c.refusals;
}

-- calls that were all made, after which what is built on the disk is out of memory
pub without_memory : {calls : List DiskCall} {old new : DiskState} (P : List ℕ → Type 0) → Called calls P None old new → Called calls P (Some OutOfMemory) old new
without_memory {calls = calls} {old = old} {new = new} P c =
    record { visible = c.visible; any_time = c.any_time; made = end calls old.observed new.observed c.made; faults = c.faults; refusals = inl c.refusals }
  where
    never : (observed : Option Observed) → IfSome observed (λ t. ◌≡◌ {A = Option Stop} (Some OutOfMemory) (Some Failed) → ⊥)
    never None = tt
    never (Some t) = λ is. cc

    end : (calls : List DiskCall) (old new : Option Observed) → Makes calls None old new → Makes calls (Some OutOfMemory) old new
    end [] old new made = (made.0, never old)
    end (call ∷ calls) old new (inl (is, same)) = absurd cc
    end (call ∷ calls) old new (inr (inl (is, same, fails))) = absurd cc
    end (call ∷ calls) old new (inr (inr (passes, rest))) = inr (inr (passes, end calls (and_made call old) new rest))
