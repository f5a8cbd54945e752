-- Before any command the run rests.
use Rattle.calm_command.specs.Resting.{Follows, IsResting, Leads, RestsAt, Stored, firsts}
use Rattle.calm_quorum.proofs.Beginning.{FollowsFirst, IsFirstPlace, LeadsFirst, begins_calmly}
use Rattle.calm_quorum.proofs.Sets.{chosen, met}
use Rattle.calm_quorum.proofs.States.{with_changes}
use Rattle.calm_quorum.proofs.Stores.{AllEarly, IsEarly, IsFirst, all_changed}
use Rattle.calm_sizes.proofs.Shorts.{empty_short}
use Rattle.calm_sizes.proofs.Stores.{ChangeShort, short_behind}
use Rattle.calm_sizes.specs.Sizes.{AllShort, longest}
use Rattle.law_names.proofs.Runs.{Monitors, Ran, World, answers, answers_of, classic, log_of, run, starts}
use Rattle.law_names.proofs.Table.{AllByRecursion, Boot, Change, Clients, Copy, Epoch, Last, Learn, Mark, Numbers, Promise, Readings, Record, State, Store, Unmark, Vote, empty, range_with_len, stands, with_rank}
use Rattle.std.proofs.Common.{Bool, List, Option, [], ap, arith, length, refl, replicate, slice_index_or, subst, suc, sym, true, zero, ℕ, ◌+◌, ◌∙◌, ◌∷◌, ◌≡◌, ◌≤◌}

-- ---- sets

same_set : (k : ℕ) → met 0 (suc k) ≡ firsts (suc k)
unfolding firsts
same_set zero = refl
same_set (suc k) = ap (λ (s : List Bool). with_rank s (suc k)) (same_set k)

pub all_ranks : (n : ℕ) → 1 ≤ n → chosen n ≡ firsts n
all_ranks zero some = absurd (omega arith)
all_ranks (suc k) some = same_set k

-- ---- stores

early_short : (cs : List Change) → AllByRecursion IsEarly cs → AllByRecursion ChangeShort cs
early_short [] h = tt
early_short (Boot b ∷ cs) h = (tt, early_short cs h.1)
early_short (Epoch e ∷ cs) h = (tt, early_short cs h.1)
early_short (Numbers pn ∷ cs) h = (tt, early_short cs h.1)
early_short (Promise pn ∷ cs) h = (tt, early_short cs h.1)
early_short (Vote v pn value ∷ cs) h = absurd h.0
early_short (Record v value ∷ cs) h = absurd h.0
early_short (Learn v value ∷ cs) h = absurd h.0
early_short (Last v ∷ cs) h = absurd h.0
early_short (Copy entry ∷ cs) h = absurd h.0
early_short (Mark floor last_pn promise ∷ cs) h = absurd h.0
early_short (Unmark ∷ cs) h = absurd h.0

short_after : (css : List (List Change)) (m : Store) → AllEarly css → AllShort longest m
    → AllShort longest (all_changed css m)
short_after [] m early S = S
short_after (cs ∷ css) m early S =
    short_after css (with_changes cs m) early.1 (short_behind cs m (early_short cs early.0) S)

stored_first : (m : Store) → IsFirst m → Stored [] 0 0 m
stored_first m F = record {
  versions = record { within = omega arith; last = F.has.last; folded = F.has.folded };
  epoch = ap (λ (w : Readings). w.epoch) F.told;
  promise = ap (λ (w : Readings). w.promise) F.told;
  unmarked = ap (λ (w : Readings). w.marked) F.told;
  votes = let e = ap (λ (w : Readings). w.pending_v) F.told in omega arith;
  short = subst (AllShort longest) (sym F.made) (short_after F.transactions empty F.early (empty_short longest));
}

-- ---- how all stand

abbrev pub none_taken : List ℕ
none_taken = replicate 15 0

none_at : (k m : ℕ) → ◌≡◌ {A = ℕ} (slice_index_or (replicate m 0) k 0) 0
none_at k zero = refl
none_at zero (suc m) = refl
none_at (suc k) (suc m) = none_at k m

module _ (n : ℕ) (some : 1 ≤ n) (most : n ≤ 15) where
  abbrev ms : Monitors
  ms = classic n most

  leads : (s : State) → LeadsFirst n s → Leads n (firsts n) none_taken s
  leads s L = record {
    phase = L.active;
    quorum = L.quorum ∙ all_ranks n some;
    pn = L.pn;
    acked = L.acks ∙ all_ranks n some;
    lease = ap (λ (l : Option ℕ). stands l 0) L.lease;
    queue = ap (λ (c : Clients). c.queue) L.clients;
    sessions = ap (λ (c : Clients). c.sessions) L.clients;
    took = ap (λ (c : Clients). c.taken) L.clients;
  }

  follows : (s : State) → FollowsFirst n s → Follows n true [] 1 s
  follows s F = record {
    phase = F.peon;
    leader = F.leader;
    quorum = F.quorum ∙ all_ranks n some;
    lease = ap (λ (l : Option ℕ). stands l 0) F.lease;
    waits = ap (λ (c : Clients). c.sessions) F.clients;
    next = ap (λ (c : Clients). c.next_seq) F.clients;
  }

  rests_at : (i : ℕ) (m : Store) (o : Option State) → IsFirstPlace n i m o → RestsAt n [] none_taken (λ _. 1) i m o
  rests_at zero m o P =
      record { state = P.state; up = P.up; keeps = stored_first m P.store; remembers = leads P.state P.serves }
  rests_at (suc i) m o P =
      record { state = P.state; up = P.up; keeps = stored_first m P.store; remembers = follows P.state P.serves }

  pub rests_first : IsResting ms [] (starts ms)
  unfolding log_of answers_of
  rests_first =
      let B = begins_calmly n some most in
      let there : run ms (starts ms) ≡ B.world = ap (λ (r : Ran). r.world) B.goes in
      record {
        goes_on = ap (λ (r : Ran). r.stop) B.goes;
        once = B.numbers ∙ ap (λ (w : World). range_with_len 1 (length w.messages)) (sym there);
        taken = none_taken;
        seq = λ _. 1;
        places = refl;
        seqs = λ j. ap (λ (k : ℕ). k + 1) (none_at j 15);
        few = λ j. omega arith;
        each = λ i lt. subst (λ (w : World). RestsAt n [] none_taken (λ _. 1) i (w.store i) (w.state i)) (sym there)
            (rests_at i (B.world.store i) (B.world.state i) (B.each i lt));
        values = λ v lt. absurd (omega arith);
        short = omega arith;
        log = ap (λ (w : World). w.log) there ∙ B.entries;
        answered = ap answers there ∙ B.said;
      }
