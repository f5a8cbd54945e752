-- What a monitor has once it learned or copied values.
use Rattle.law_names.proofs.Table.{AllByRecursion, Change, Command, Course, Last, Me, Op, Session, change, change_all, copy_changes, learn, learn_changes, played, record_changes, ◌▸◌}
use Rattle.mon_types.specs.declared.names.Which.TheVariants as which
use Rattle.quorum_history.proofs.History.{ALevel, Accepted, Ext, Ghost, Had, Handed}
use Rattle.quorum_history.proofs.Holds.{At, Disk, With}
use Rattle.quorum_history.proofs.Numbers.{copies, learns, with_last}
use Rattle.quorum_history.proofs.Steps.{IsPlain, Plain}
use Rattle.quorum_walk.proofs.FineCourses.{Val}
use Rattle.quorum_walk.proofs.FineReading.{all_spare}
use Rattle.quorum_walk.proofs.Lists.{all_append}
use Rattle.quorum_walk.proofs.Sparing.{Copied, Own, learned_own, own_of}
use Rattle.quorum_walk.proofs.Walk.{Then, done, where_fits}
use Rattle.std.proofs.Common.{List, [], arith, false, length, refl, subst, suc, sym, true, ℕ, ◌++◌, ◌+◌, ◌<◌, ◌∷◌, ◌≡◌, ◌≤◌}
use Rattle.std.proofs.lemmas.List.{append_assoc}

-- a course that learned the values of the versions from v on, up to the last one
abbrev pub learned_by : (v : ℕ) → List (List Op) → (last : ℕ) → Course → Course
learned_by v values last x = x ▸ change_all (learn_changes v values) ▸ change (Last last)

pub learn_then : (R : Course → Type 0) (v : ℕ) (values : List (List Op)) (x : Course) → (values ≡ [] → R x) → ((last : ℕ) → suc last ≡ v + length values → v ≤ last → R (learned_by v values last x)) → Then R (learn v values x)
unfolding learn
learn_then R v [] x p f = done (p refl)
learn_then R v (value ∷ values) x p f = where_fits R which.Version (v + length values) _ (λ _. done (f (v + length values) (omega arith) (omega arith)))

pub learned_plain : (v : ℕ) (values : List (List Op)) → Plain (learn_changes v values)
learned_plain v [] = tt
learned_plain v (x ∷ xs) = (tt, learned_plain (suc v) xs)

pub recorded_plain : (v : ℕ) (values : List (List Op)) → Plain (record_changes v values)
recorded_plain v [] = tt
recorded_plain v (x ∷ xs) = (tt, recorded_plain (suc v) xs)

pub copied_plain : (es : List Copied) → Plain (copy_changes es)
copied_plain [] = tt
copied_plain (e ∷ es) = (tt, copied_plain es)

module _ (me : Me) (g : Ghost) (Known : ℕ → List Op → Type 0) where
  abbrev i : ℕ
  i = me.member.rank

  -- Q holds once the values are learned. It may depend on the monitor's own numbers: learning changes only its last
  -- version.
  pub learned_at : (P : Ghost → Type 0) (Q : Own → Ghost → Type 0) (v : ℕ) (values : List (List Op)) (last : ℕ) (x : Course) → AllByRecursion Val values → x.readings.marked ≡ false → x.readings.last < last → At me g Known P x
      → ((h k : Ghost) → Ext i g h → Ext i h k → Disk h i (own_of x.readings) x.readings.record_of → P h → Had k ALevel i last → ((j w p : ℕ) (y : List Op) → Accepted k j w p y → Accepted h j w p y) → ((e seq : ℕ) (s : Session) (c : Command) → Handed k i e seq s c → Handed h i e seq s c)
      → Q (with_last last (own_of x.readings)) k)
      → At me g Known (Q (with_last last (own_of (played (learn_changes v values) x.readings)))) (learned_by v values last x)
  learned_at P Q v values last x V u lt A f =
      let n = me.member.monitors in
      let w = played (learn_changes v values) x.readings in
      let more = learn_changes v values ++ Last last ∷ [] in
      let B : With n i g Known (with_last last (own_of x.readings)) w.record_of (x.changes ++ more) x.out (Q (with_last last (own_of x.readings))) =
      learns P (Q (with_last last (own_of x.readings))) w.record_of last more (all_append IsPlain (learn_changes v values) (Last last ∷ []) (learned_plain v values) (tt, tt)) u lt A f in
      let C = subst (λ (z : Own). With n i g Known (with_last last z) w.record_of (x.changes ++ more) x.out (Q (with_last last z))) (sym (learned_own v values x.readings (all_spare values V))) B in
      subst (λ (cs : List Change). With n i g Known (with_last last (own_of w)) w.record_of cs x.out (Q (with_last last (own_of w)))) (sym (append_assoc x.changes (learn_changes v values) (Last last ∷ []))) C

  -- the same of changes of a marked store that don't change its own numbers
  pub changed_at : (P : Ghost → Type 0) (Q : Own → Ghost → Type 0) (cs : List Change) (x : Course) → Plain cs → own_of (played cs x.readings) ≡ own_of x.readings → x.readings.marked ≡ true → At me g Known P x
      → ((h k : Ghost) → Ext i g h → Ext i h k → P h → Q (own_of x.readings) k) → At me g Known (Q (own_of (played cs x.readings))) (x ▸ change_all cs)
  changed_at P Q cs x calm same u A f =
      let n = me.member.monitors in
      let w = played cs x.readings in
      let B : With n i g Known (own_of x.readings) w.record_of (x.changes ++ cs) x.out (Q (own_of x.readings)) = copies P (Q (own_of x.readings)) w.record_of cs calm u A f in
      subst (λ (z : Own). With n i g Known z w.record_of (x.changes ++ cs) x.out (Q z)) (sym same) B
