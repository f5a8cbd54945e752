-- What holds before the first event.
use Rattle.law_names.proofs.Runs.{Monitors, first_world}
use Rattle.law_names.proofs.Table.{Area, Cell, IsShort, Key, Readings, cell, empty, epoch_of, epoch_or_first, marks, number, number_if_there, number_in, or_zero, place, place_cmp, promise_of, readings_of}
use Rattle.mon_tx.specs.declared.key.Area.TheVariants as area
use Rattle.mon_tx.specs.declared.key.Key.TheVariants as key
use Rattle.quorum_history.proofs.History.{ALevel, ANumber, APromise, AnEpoch, Ghost, Glob, Rising, least}
use Rattle.quorum_history.proofs.Holds.{level_in, number_of}
use Rattle.quorum_history.proofs.Numbers.{level_is}
use Rattle.quorum_laws.proofs.Invariant.{InvOf, Mine}
use Rattle.quorum_laws.specs.Accepting.{AcceptedIn}
use Rattle.quorum_walk.proofs.FineCourses.{CellFine, ReadingsFine}
use Rattle.quorum_walk.proofs.FineReading.{missing_fine}
use Rattle.quorum_walk.proofs.Sparing.{own_of}
use Rattle.std.proofs.Common.{IfSome, List, None, [], ap, arith, false, inl, inr, refl, subst, sym, ℕ, ◌∙◌, ◌≡◌, ◌≤◌}
use Rattle.std.proofs.lemmas.Bool.{false≢true}
use Rattle.std.specs.FinMap.{get-empty}

abbrev none : Ghost
none = record { roles = []; hands = []; asks = []; signs = []; accepts = [] }

-- a monitor of which nothing was heard
unknown : (n i : ℕ) (w : Readings) → ReadingsFine w → epoch_of w ≡ 1 → or_zero w.last_pn ≡ 0 → promise_of w ≡ 0 → w.marked ≡ false → w.last ≡ 0 → w.pending_v ≡ 0 → w.pending_pn ≡ 0 → Mine n none i w None
unknown n i w F e l p u last v pn = record {
  fine = F;
  fits = tt;
  disk = record {
    numbers = record { now = λ k. inl (low k); top = λ k m a. elim a [ inl s ↦ (high k m s) | inr s ↦ absurd s.was ] };
    kept = record {
      roles = λ f l q a. absurd a;
      hands = λ f seq s c a. absurd a;
      order = omega arith;
      mine = inl l;
      accepts = λ v p x a. absurd a;
      made = λ j v p x a e. absurd a;
      covered = λ v p x a. absurd a;
      under = omega arith;
      next = λ t. omega arith;
      vote = λ t q. absurd (omega arith);
      clear = λ t. absurd (false≢true (sym u ∙ t));
    };
  };
  state = tt;
}
  where
    level : level_in (own_of w) ≡ 0
    level = level_is (own_of w) u ∙ last

    low : (k : Rising) → number_of (own_of w) k ≤ least k
    low AnEpoch = omega arith
    low ANumber = omega arith
    low APromise = omega arith
    low ALevel = omega (arith, level)

    high : (k : Rising) (m : ℕ) → m ≤ least k → m ≤ number_of (own_of w) k
    high AnEpoch m s = omega arith
    high ANumber m s = omega arith
    high APromise m s = omega arith
    high ALevel m s = omega (arith, level)

unknown_glob : (n : ℕ) → Glob n none
unknown_glob n = record {
  roles = record { even = λ i e l q a. absurd a; below = λ i e l q a. absurd a; self = λ i e l q a. absurd a; leader = λ i e l q a. absurd a; major = λ i e l q a. absurd a; within = λ i e l q a. absurd a; lead = λ i e l q a. absurd a; once = λ i e l k q v a b. absurd a };
  hands = record { once = λ i e seq s t c d a b. absurd a; asked = λ i e seq s c a. absurd a };
  triples = record { below = λ i v p x a. absurd a; some = λ i v p x a. absurd a; fine = λ i v p x a. absurd a; owner = λ i v p x a. absurd a; one = λ i j v p x y a b. absurd a; safe = λ i v p r x y Q a. absurd a };
}

nothing_there : (a : Area) (k : Key) → cell empty a k ≡ None
nothing_there a k = get-empty place_cmp (place a k)

no_number : (a : Area) (k : Key) → number empty a k ≡ 0
unfolding number_in
no_number a k = ap number_in (nothing_there a k)

short_option : (c : Cell) → c ≡ None → IfSome (number_if_there c) IsShort
short_option c e = subst (λ (d : Cell). IfSome (number_if_there d) IsShort) (sym e) tt

nothing_fine : ReadingsFine (readings_of empty)
unfolding readings_of
nothing_fine = record {
  own = record {
    epoch = (let e = ap (λ (c : Cell). epoch_or_first (number_if_there c)) (nothing_there area.Monitor key.ElectionEpoch) in omega arith);
    last_pn = short_option (cell empty area.Paxos key.LastPn) (nothing_there area.Paxos key.LastPn);
    promise = short_option (cell empty area.Paxos key.AcceptedPn) (nothing_there area.Paxos key.AcceptedPn);
    pending = (let e = no_number area.Paxos key.PendingV in omega arith);
    last = (let e = no_number area.Paxos key.LastCommitted in omega arith);
    floor = (let e = no_number area.Sync key.Floor in omega arith);
  };
  records = λ v. subst CellFine (sym (nothing_there area.Paxos (key.Version v))) missing_fine;
}

no_transaction : (v p : ℕ) (bytes : List ℕ) → AcceptedIn [] v p bytes → ⊥
no_transaction v p bytes a = let lt = a.among.1 in omega arith

pub at_first : (ms : Monitors) → InvOf ms first_world
unfolding readings_of number_in
at_first ms = record {
  g = none;
  glob = unknown_glob ms.count;
  mine = λ i. unknown ms.count i (readings_of empty) nothing_fine (ap (λ (c : Cell). epoch_or_first (number_if_there c)) (nothing_there area.Monitor key.ElectionEpoch)) (ap (λ (c : Cell). or_zero (number_if_there c)) (nothing_there area.Paxos key.LastPn))
      (ap (λ (c : Cell). or_zero (number_if_there c)) (nothing_there area.Paxos key.AcceptedPn)) (ap marks (nothing_there area.Sync key.InSync)) (no_number area.Paxos key.LastCommitted) (no_number area.Paxos key.PendingV) (no_number area.Paxos key.PendingPn);
  triples = record { kept = λ i v p x a. absurd a; known = λ i v p bytes a. absurd (no_transaction v p bytes a) };
  held = λ i. refl;
  raised = λ i. tt;
  sent = tt;
  sizes = tt;
  active = tt;
  asks = λ i s c a. absurd a;
}

-- an empty store is under no full synchronization
pub unmarked_at_first : (readings_of empty).marked ≡ false
unfolding readings_of number_in
unmarked_at_first = ap marks (nothing_there area.Sync key.InSync)

-- and no value is pending in it
pub settled_at_first : (readings_of empty).pending_v ≡ 0
unfolding readings_of number_in
settled_at_first = no_number area.Paxos key.PendingV
