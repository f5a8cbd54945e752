-- A majority is near the whole log, in every run.
use Rattle.law_names.proofs.Runs.{AllFit, Event, Monitors, PlainFits, Stop, World, first_world, happens, is_marked, last_of, plain_of, run}
use Rattle.law_names.proofs.Table.{Op, Store, count_of, entry, has, readings_of, text}
use Rattle.log_copies.proofs.Matching.{read_last}
use Rattle.log_copies.proofs.Standing.{Agrees}
use Rattle.quorum_agreement.proofs.Beginning.{at_first}
use Rattle.quorum_agreement.proofs.Chosen.{Chosen, IsEntry, same_text}
use Rattle.quorum_agreement.proofs.Grown.{GrowsByOne}
use Rattle.quorum_agreement.proofs.Invariant.{EnvelopeMatches, LogHolds, OfLog, remembers}
use Rattle.quorum_agreement.proofs.LoneWorlds.{LoneHolds}
use Rattle.quorum_agreement.proofs.Result.{there_marked}
use Rattle.quorum_agreement.proofs.Runs.{lone_run, runs_hold}
use Rattle.quorum_agreement.proofs.Step.{copy_marked}
use Rattle.quorum_agreement.proofs.Worlds.{Follows, all_follow, asking}
use Rattle.quorum_history.proofs.History.{Accepted, Ghost, TriplesHold}
use Rattle.quorum_history.proofs.Holds.{Kept, Voted, level_in}
use Rattle.quorum_history.proofs.Numbers.{floor_is, level_is, pending_is}
use Rattle.quorum_laws.proofs.Events.{each_event}
use Rattle.quorum_laws.proofs.Invariant.{InvOf}
use Rattle.quorum_laws.specs.Accepting.{IsMajorityOf, readings_at}
use Rattle.quorum_near.proofs.Low.{IsLow}
use Rattle.quorum_near.proofs.LowWorlds.{AllLow, low_at_first, low_follows}
use Rattle.quorum_near.specs.Near.{FloorsLow, HasNear, HasPending, IsNear, SomeNear}
use Rattle.quorum_walk.proofs.Ranks.{majorities}
use Rattle.quorum_walk.proofs.Sparing.{own_of}
use Rattle.std.proofs.Common.{Bool, Err, IfOk, List, Ok, Result, ap, arith, cond, false, inl, inr, length, refl, replicate, subst, suc, sym, true, zero, ℕ, ◌*◌, ◌+◌, ◌<◌, ◌∙◌, ◌≡◌, ◌≤◌, ◌⊎◌}
use Rattle.std.proofs.lemmas.Bool.{cases_lt, cases_order, false≢true, lt-ltb}
use Rattle.std.proofs.lemmas.List.Sums.{sum_by-cons}

-- ---- every run

module _ (ms : Monitors) (several : 1 < ms.count) where
  abbrev pub Holds : World → Type 0
  Holds w = LogHolds ms w × AllLow w

  pub follows : (w : World) (e : Event) → PlainFits ms.count (plain_of e) → Holds w → IfOk (happens ms w e) (λ next. Holds next × GrowsByOne w.log next.log)
  follows w e F h = by (happens ms w e) logs lows
    where
      logs : IfOk (happens ms w e) (Follows ms w)
      logs = let H = h.0 in let O = H.1 in each_event ms w (EnvelopeMatches w.log) H.0 (Follows ms w) O.sent e F (λ J up. all_follow ms (λ i lt. several) w (plain_of e) J (asking ms w (plain_of e) H.0 H.1 J))

      lows : IfOk (happens ms w e) AllLow
      lows = low_follows ms w h.0 h.1 e F

      by : (r : Result World Stop) → IfOk r (Follows ms w) → IfOk r AllLow → IfOk r (λ next. Holds next × GrowsByOne w.log next.log)
      by (Ok x) p q = ((p.0, q), p.1)
      by (Err e) p q = tt

  pub held : (events : List Event) → AllFit ms.count events → Holds (run ms events)
  held events F = runs_hold ms Holds follows first_world events F (at_first ms, low_at_first)

-- ---- all ranks

abbrev all_of : ℕ → List Bool
all_of n = replicate n true

all_below : (n m : ℕ) → has (all_of n) m ≡ true → m < n
all_below zero m k = absurd (false≢true (k))
all_below (suc n) zero k = omega arith
all_below (suc n) (suc m) k = let lt = all_below n m k in omega arith

all_count : (n : ℕ) → count_of (all_of n) ≡ n
all_count zero = refl
all_count (suc n) = let c = all_count n in omega (arith, sum_by-cons (λ (b : Bool). cond b 1 0) true (all_of n))

all_major : (n : ℕ) → 1 ≤ n → IsMajorityOf n (all_of n)
all_major n some = record { below = all_below n; major = lt-ltb n (2 * count_of (all_of n)) (let c = all_count n in omega arith) }

-- ---- one that is near

pub last_read : (m : Store) → (readings_of m).last ≡ last_of m
unfolding readings_of
last_read m = refl

pub mark_read : (m : Store) → (readings_of m).marked ≡ is_marked m
unfolding readings_of
mark_read m = refl

-- what is accepted under no lower number is what was chosen
accepted_same : (n : ℕ) (g : Ghost) → TriplesHold n g.signs g.accepts → (v : ℕ) (x : List Op) (C : Chosen n g v x) (i p : ℕ) (y : List Op) → Accepted g i v p y → C.pn ≤ p → has C.by i ≡ true → text y ≡ text x
accepted_same n g T v x C i p y a le member = by (cases_order C.pn p)
  where
    refused : (text x ≡ text y → ⊥) → C.pn < p → ⊥
    refused ne lt = let R = T.safe i v p C.pn y x C.by a lt (λ e. ne (ap text e)) C.major C.below in R.never (C.all R.m R.within)

    lower : C.pn < p → (text x ≡ text y) ⊎ (text x ≡ text y → ⊥) → text y ≡ text x
    lower lt (inl e) = sym e
    lower lt (inr ne) = absurd (refused ne lt)

    by : (C.pn ≡ p) ⊎ ((C.pn < p) ⊎ (p < C.pn)) → text y ≡ text x
    by (inl e) = ap text (T.one i i v p y x a (subst (λ (q : ℕ). Accepted g i v q x) e (C.all i member)))
    by (inr (inl lt)) = lower lt (same_text x y)
    by (inr (inr gt)) = absurd (omega arith)

module _ (ms : Monitors) (w : World) (H : LogHolds ms w) (L : AllLow w) where
  abbrev I : InvOf ms w
  I = H.0

  abbrev O : OfLog ms w w.asked H.0
  O = H.1

  -- an unmarked monitor has no version that the log lacks
  pub within : (i : ℕ) → i < ms.count → (readings_at w i).marked ≡ false → (readings_at w i).last ≤ length w.log
  within i lt u = by (O.stores i lt)
    where
      by : Agrees w.log (w.store i) (remembers i (w.state i)) → (readings_at w i).last ≤ length w.log
      by (inl V) = let h = V.versions in let e = read_last w.log O.short O.values V.last (w.store i) V.versions in let k = h.within in omega arith
      by (inr T) = absurd (false≢true (sym u ∙ copy_marked w.log (w.store i) (remembers i (w.state i)) T))

  module _ (v : ℕ) (long : length w.log ≡ suc v) where
    E : IsEntry ms.count I.g w.log (suc v)
    E = O.chosen v (omega (arith, long))

    module _ (i : ℕ) (C : Chosen ms.count I.g (suc v) E.x) (member : has C.by i ≡ true) where
      K : Kept I.g.roles I.g.hands I.g.accepts i (own_of (readings_at w i)) (readings_at w i).record_of
      K = (I.mine i).disk.kept

      was : Accepted I.g i (suc v) C.pn E.x
      was = C.all i member

      unmarked : (readings_at w i).marked ≡ false
      unmarked = by (readings_at w i).marked refl (L.stores i)
        where
          by : (b : Bool) → (readings_at w i).marked ≡ b → IsLow (length w.log) (readings_at w i) → b ≡ false
          by false u low = refl
          by true u (inl k) = absurd (false≢true (sym k.0 ∙ u))
          by true u (inr low) = elim (K.covered (suc v) C.pn E.x was) [
            | inl high ↦ (let f = floor_is (own_of (readings_at w i)) u in absurd (omega (arith, long)))
            | inr p ↦ (let z = (K.clear u).1 in let q = p.0 in absurd (omega arith))
          ]

      top : (readings_at w i).last ≤ length w.log
      top = within i (C.below i member) unmarked

      pends : suc (readings_at w i).last ≡ suc v → C.pn ≤ (readings_at w i).pending_pn → (readings_at w i).pending_v ≡ suc (readings_at w i).last → HasPending w i
      pends e le is = record {
        next = long ∙ sym e ∙ ap suc (last_read (w.store i));
        found = record { version = (readings_at w i).pending_v; pn = (readings_at w i).pending_pn; value = V.x };
        is = pending_is I.g.accepts i (readings_at w i).pending_v (readings_at w i).pending_pn (readings_at w i).last (readings_at w i).record_of is V (I.glob.triples.fine i (suc (readings_at w i).last) (readings_at w i).pending_pn V.x V.was);
        version = is ∙ e ∙ sym long;
        value = accepted_same ms.count I.g I.glob.triples (suc v) E.x C i (readings_at w i).pending_pn V.x (subst (λ (u : ℕ). Accepted I.g i u (readings_at w i).pending_pn V.x) e V.was) le member
            ∙ sym E.encodes ∙ ap (entry w.log) (sym long);
      }
        where
          V : Voted I.g.accepts i (suc (readings_at w i).last) (readings_at w i).pending_pn ((readings_at w i).record_of (suc (readings_at w i).last))
          V = K.vote unmarked is

      near_one : IsNear w i
      near_one = record { unmarked = sym (mark_read (w.store i)) ∙ unmarked; near = by (K.covered (suc v) C.pn E.x was) }
        where
          by : ((suc v) ≤ level_in (own_of (readings_at w i))) ⊎ (((readings_at w i).pending_v ≡ suc v) × (C.pn ≤ (readings_at w i).pending_pn)) → (last_of (w.store i) ≡ length w.log) ⊎ HasPending w i
          by (inl high) = inl (let e = level_is (own_of (readings_at w i)) unmarked in let r = last_read (w.store i) in omega (arith, long, top))
          by (inr p) = elim (cases_lt (readings_at w i).last (length w.log)) [
            | inl less ↦ inr (let n = K.next unmarked in let q = p.0 in pends (omega (arith, long)) p.1 (omega (arith, long)))
            | inr whole ↦ inl (let r = last_read (w.store i) in omega (arith, top))
          ]

  near_of : 1 ≤ ms.count → (c : ℕ) → length w.log ≡ c → HasNear ms.count w
  near_of some zero none = record { by = all_of ms.count; major = all_major ms.count some; near = λ i k. near_none i (all_below ms.count i k) }
    where
      unmarked : (i : ℕ) → IsLow (length w.log) (readings_at w i) → (readings_at w i).marked ≡ false
      unmarked i (inl u) = u.0
      unmarked i (inr low) = absurd (omega arith)

      near_none : (i : ℕ) → i < ms.count → IsNear w i
      near_none i lt =
          let u = unmarked i (L.stores i) in
          record { unmarked = sym (mark_read (w.store i)) ∙ u; near = inl (let e = within i lt u in let r = last_read (w.store i) in omega arith) }
  near_of some (suc v) long = let C = (E v long).chosen in record { by = C.by; major = record { below = C.below; major = C.major }; near = λ i k. near_one v long i C k }

  floors_of : FloorsLow ms.count w
  floors_of i lt t = by (L.stores i)
    where
      by : IsLow (length w.log) (readings_at w i) → (readings_at w i).floor + 501 ≤ length w.log
      by (inl u) = absurd (false≢true (sym u.0 ∙ there_marked (w.store i) t))
      by (inr low) = low

-- ---- one monitor alone

lone_unmarked : (w : World) (i : ℕ) (ms : Monitors) → LoneHolds ms w → i < ms.count → IsNear w i
lone_unmarked w i ms h lt =
    let O = h.1 in
    let s = O.stores i lt in
    let V = s.versions in
    record { unmarked = sym (mark_read (w.store i)) ∙ s.unmarked; near = inl V.last }

lone_near : (w : World) (ms : Monitors) → LoneHolds ms w → 1 ≤ ms.count → HasNear ms.count w
lone_near w ms h some = record { by = all_of ms.count; major = all_major ms.count some; near = λ i k. lone_unmarked w i ms h (all_below ms.count i k) }

-- ---- the law

pub near : (ms : Monitors) (events : List Event) → AllFit ms.count events → 1 ≤ ms.count → HasNear ms.count (run ms events)
near ms events F some = by (cases_order 1 ms.count)
  where
    by : (1 ≡ ms.count) ⊎ ((1 < ms.count) ⊎ (ms.count < 1)) → HasNear ms.count (run ms events)
    by (inl e) = lone_near (run ms events) ms (lone_run ms (sym e) events F) some
    by (inr (inl more)) = let h = held ms more events F in near_of ms (run ms events) h.0 h.1 some (length (run ms events).log) refl
    by (inr (inr none)) = absurd (omega arith)

pub every : (ms : Monitors) (events : List Event) → AllFit ms.count events → 1 ≤ ms.count → (q : List Bool) → IsMajorityOf ms.count q → SomeNear (run ms events) q
every ms events F some q M =
    let N = near ms events F some in
    let B = N.major in
    let s = majorities ms.count N.by q B.major M.major B.below M.below in
    record { rank = s.0; within = s.2; near = N.near s.0 s.1 }

pub floors : (ms : Monitors) (events : List Event) → AllFit ms.count events → FloorsLow ms.count (run ms events)
floors ms events F i lt t = by (cases_order 1 ms.count)
  where
    by : (1 ≡ ms.count) ⊎ ((1 < ms.count) ⊎ (ms.count < 1)) → (readings_at (run ms events) i).floor + 501 ≤ length (run ms events).log
    by (inl e) = let N = lone_unmarked (run ms events) i ms (lone_run ms (sym e) events F) lt in absurd (false≢true (sym N.unmarked ∙ t))
    by (inr (inl more)) = let h = held ms more events F in floors_of ms (run ms events) h.0 h.1 i lt t
    by (inr (inr none)) = absurd (omega arith)
