-- The timer that comes next is the first of those that are set for the least time.
use Rattle.std.proofs.Common.{◌≡◌, ◌≢◌, ℕ, suc, ◌≤◌, ◌<◌, Bool, true, false, cond, leb, List, Option, Some, None, refl, ap, ◌∙◌, ◌⊎◌, inl, inr, arith, [], ◌∷◌, drop}
use Rattle.std.proofs.lemmas.Bool.{leb-true, leb-false}
use Rattle.std.specs.Prelude.{slice_index_or}
use Rattle.mon_wire.specs.declared.phase.TheConstants.Timer.{ALL}
use Rattle.mon_wire.specs.declared.phase.Timer.{Timer}
use Rattle.mon_wire.specs.declared.phase.Timer.TheVariants as timer
use Rattle.mon_msg.specs.Protocol.Timers.{index_of, end_of, sooner, soonest, due, IsNext}

-- the same of the kinds from one on
record IsDueFrom (timers : List (Option ℕ)) (k : ℕ) (next : Timer × ℕ) : Type 0 where
  armed : end_of next.0 timers ≡ Some next.1
  here : k ≤ index_of next.0
  least : (t : Timer) (end : ℕ) → k ≤ index_of t → end_of t timers ≡ Some end → next.1 ≤ end
  first : (t : Timer) → k ≤ index_of t → index_of t < index_of next.0 → end_of t timers ≢ Some next.1

abbrev IsNextFrom : List (Option ℕ) → ℕ → Option (Timer × ℕ) → Type 0
IsNextFrom timers k None = (t : Timer) → k ≤ index_of t → end_of t timers ≡ None
IsNextFrom timers k (Some next) = IsDueFrom timers k next

-- a kind from one on is that one, or a later one
this_or_later : (timers : List (Option ℕ)) (t other : Timer) → index_of t ≤ index_of other
    → (end_of other timers ≡ end_of t timers) ⊎ (suc (index_of t) ≤ index_of other)
this_or_later timers t other h = by (leb (index_of other) (index_of t)) refl
  where
    by : (b : Bool) → leb (index_of other) (index_of t) ≡ b → (end_of other timers ≡ end_of t timers) ⊎ (suc (index_of t) ≤ index_of other)
    by true e = let g = leb-true _ _ e in let same : index_of other ≡ index_of t = omega arith in inl (ap (λ n. slice_index_or timers n None) same)
    by false e = let g = leb-false _ _ e in inr (omega arith)

unarmed_none : (timers : List (Option ℕ)) (t : Timer) → end_of t timers ≡ None → IsNextFrom timers (suc (index_of t)) None → IsNextFrom timers (index_of t) None
unarmed_none timers t e h other from = by (this_or_later timers t other from)
  where
    by : (end_of other timers ≡ end_of t timers) ⊎ (suc (index_of t) ≤ index_of other) → end_of other timers ≡ None
    by (inl same) = same ∙ e
    by (inr later) = h other later

unarmed_some : (timers : List (Option ℕ)) (t : Timer) (next : Timer × ℕ) → end_of t timers ≡ None → IsDueFrom timers (suc (index_of t)) next
    → IsDueFrom timers (index_of t) next
unarmed_some timers t next e h = record {
  armed = h.armed;
  here = let g = h.here in omega arith;
  least = λ other end from is. by_least other end is (this_or_later timers t other from);
  first = λ other from below is. by_first other below is (this_or_later timers t other from);
}
  where
    by_least : (other : Timer) (end : ℕ) → end_of other timers ≡ Some end
        → (end_of other timers ≡ end_of t timers) ⊎ (suc (index_of t) ≤ index_of other) → next.1 ≤ end
    by_least other end is (inl same) = cc
    by_least other end is (inr later) = h.least other end later is

    by_first : (other : Timer) → index_of other < index_of next.0 → end_of other timers ≡ Some next.1
        → (end_of other timers ≡ end_of t timers) ⊎ (suc (index_of t) ≤ index_of other) → ⊥
    by_first other below is (inl same) = cc
    by_first other below is (inr later) = h.first other later below is

-- it is set, and no later one for an earlier time
this_is_due : (timers : List (Option ℕ)) (t : Timer) (end : ℕ) → end_of t timers ≡ Some end
    → ((other : Timer) (e : ℕ) → suc (index_of t) ≤ index_of other → end_of other timers ≡ Some e → end ≤ e) → IsDueFrom timers (index_of t) (t, end)
this_is_due timers t end is later_ones = record {
  armed = is;
  here = omega arith;
  least = λ other e from h. by other e h (this_or_later timers t other from);
  first = λ other from below h. omega arith;
}
  where
    by : (other : Timer) (e : ℕ) → end_of other timers ≡ Some e
        → (end_of other timers ≡ end_of t timers) ⊎ (suc (index_of t) ≤ index_of other) → end ≤ e
    by other e h (inl same) = let one : end ≡ e = cc in omega arith
    by other e h (inr later) = later_ones other e later h

-- it is set, and a later one for an earlier time
later_is_due : (timers : List (Option ℕ)) (t : Timer) (end : ℕ) (next : Timer × ℕ) → end_of t timers ≡ Some end → next.1 < end
    → IsDueFrom timers (suc (index_of t)) next → IsDueFrom timers (index_of t) next
later_is_due timers t end next is sooner h = record {
  armed = h.armed;
  here = let g = h.here in omega arith;
  least = λ other e from at. by_least other e at (this_or_later timers t other from);
  first = λ other from below at. by_first other below at (this_or_later timers t other from);
}
  where
    by_least : (other : Timer) (e : ℕ) → end_of other timers ≡ Some e
        → (end_of other timers ≡ end_of t timers) ⊎ (suc (index_of t) ≤ index_of other) → next.1 ≤ e
    by_least other e at (inl same) = let one : end ≡ e = cc in omega arith
    by_least other e at (inr later) = h.least other e later at

    by_first : (other : Timer) → index_of other < index_of next.0 → end_of other timers ≡ Some next.1
        → (end_of other timers ≡ end_of t timers) ⊎ (suc (index_of t) ≤ index_of other) → ⊥
    by_first other below at (inl same) = let one : end ≡ next.1 = cc in omega arith
    by_first other below at (inr later) = h.first other later below at

one_more : (timers : List (Option ℕ)) (t : Timer) (o : Option ℕ) (later : Option (Timer × ℕ)) → end_of t timers ≡ o → IsNextFrom timers (suc (index_of t)) later
    → IsNextFrom timers (index_of t) (sooner t o later)
one_more timers t None None e h = unarmed_none timers t e h
one_more timers t None (Some next) e h = unarmed_some timers t next e h
one_more timers t (Some end) None e h = this_is_due timers t end e (λ other e2 later is. let none = h other later in cc)
one_more timers t (Some end) (Some next) e h = by (leb end next.1) refl
  where
    by : (b : Bool) → leb end next.1 ≡ b → IsNextFrom timers (index_of t) (cond b (Some (t, end)) (Some next))
    by true test = let g = leb-true _ _ test in this_is_due timers t end e (λ other e2 later is. let f = h.least other e2 later is in omega arith)
    by false test = later_is_due timers t end next e (leb-false _ _ test) h

eleven : (t : Timer) → index_of t < 11
eleven timer.Probe = omega arith
eleven timer.Election = omega arith
eleven timer.Collect = omega arith
eleven timer.Accept = omega arith
eleven timer.Renew = omega arith
eleven timer.LeaseAck = omega arith
eleven timer.Lease = omega arith
eleven timer.Sync = omega arith
eleven timer.Step = omega arith
eleven timer.Propose = omega arith
eleven timer.Ping = omega arith

-- one kind before the others
with_kind : (timers : List (Option ℕ)) (t : Timer) (ts : List Timer) → IsNextFrom timers (suc (index_of t)) (soonest ts timers)
    → IsNextFrom timers (index_of t) (soonest (t ∷ ts) timers)
with_kind timers t ts h = one_more timers t (end_of t timers) (soonest ts timers) refl h

from_first : (timers : List (Option ℕ)) → IsNextFrom timers 0 (due timers)
from_first timers =
    with_kind timers timer.Probe (drop 1 ALL) (
    with_kind timers timer.Election (drop 2 ALL) (
    with_kind timers timer.Collect (drop 3 ALL) (
    with_kind timers timer.Accept (drop 4 ALL) (
    with_kind timers timer.Renew (drop 5 ALL) (
    with_kind timers timer.LeaseAck (drop 6 ALL) (
    with_kind timers timer.Lease (drop 7 ALL) (
    with_kind timers timer.Sync (drop 8 ALL) (
    with_kind timers timer.Step (drop 9 ALL) (
    with_kind timers timer.Propose (drop 10 ALL) (
    with_kind timers timer.Ping [] (λ t from. let most = eleven t in absurd (omega arith))))))))))))

whole : (timers : List (Option ℕ)) (next : Option (Timer × ℕ)) → IsNextFrom timers 0 next → IsNext timers next
whole timers None h = λ t. h t (omega arith)
whole timers (Some next) h = record {
  armed = h.armed;
  least = λ t end is. h.least t end (omega arith) is;
  first = λ t below. h.first t (omega arith) below;
}

pub due_is_next : (timers : List (Option ℕ)) → IsNext timers (due timers)
due_is_next timers = whole timers (due timers) (from_first timers)
