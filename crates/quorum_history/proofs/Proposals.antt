-- What a leader has heard leaves no room for another value than the one that it proposes.
use Rattle.law_names.proofs.Table.{Found, Op, are_within, has, is_majority}
use Rattle.quorum_history.proofs.Accepting.{LeavesNoRoom}
use Rattle.quorum_history.proofs.History.{APromise, Accepted, Ghost, Glob, HasBlocker, RolesHold}
use Rattle.quorum_history.proofs.Holds.{Core, FoundCovers, Gathers, Heard, LeadsIn, Nowhere, Rests, epoch_in}
use Rattle.quorum_history.proofs.Numbers.{had_down}
use Rattle.quorum_walk.proofs.Ranks.{Below, majorities, within_at}
use Rattle.std.proofs.Common.{Bool, List, Some, arith, inl, inr, subst, suc, true, ℕ, ◌<◌, ◌≡◌, ◌≤◌, ◌⊎◌}
use Rattle.std.proofs.lemmas.Bool.{cases_lt}

module _ (n : ℕ) (g : Ghost) (i : ℕ) (c : Core) (L : ℕ → ℕ → Type 0) (R : RolesHold n g.roles) (k : LeadsIn g i c L) (all : are_within n c.quorum c.answered ≡ true) where
  -- each majority has a rank that the leader heard
  pub heard_in : (Q : List Bool) → is_majority n Q ≡ true → Below n Q → (m : ℕ) × (has Q m ≡ true) × Heard g i (epoch_in c.own) c.pn c.own.last L m
  heard_in Q ma le =
      let within = R.within i (epoch_in c.own) i c.quorum k.reigns.role in
      let both = majorities n c.quorum Q (R.major i (epoch_in c.own) i c.quorum k.reigns.role) ma within le in
      let m = both.0 in
      (m, both.2, k.heard m (within_at n c.quorum c.answered m all (within m both.1) both.1))

  -- a rank of each majority can no longer accept a value for a version above the last one, if no such value has
  -- property L
  refuses_here : (v r : ℕ) (y : List Op) (Q : List Bool) → c.own.last < v → r < c.pn → ((m : ℕ) → Accepted g m v r y → L v r → ⊥) → is_majority n Q ≡ true → Below n Q → HasBlocker g.signs g.accepts Q v r y
  refuses_here v r y Q lt low none ma le =
      let s = heard_in Q ma le in
      record {
        m = s.0;
        within = s.1;
        above = had_down g APromise s.0 c.pn (suc r) s.2.promised (omega arith);
        never = λ a. elim (s.2.covers v r y a low) [ inl t ↦ (absurd (omega arith)) | inr l ↦ none s.0 a l ];
      }

-- a new value
pub new_leaves_no_room : (n : ℕ) (g : Ghost) (i : ℕ) (c : Core) (x : List Op) → Glob n g → LeadsIn g i c Nowhere → are_within n c.quorum c.answered ≡ true → Rests g i c.pn c.own.last → LeavesNoRoom n g (suc c.own.last) c.pn x
new_leaves_no_room n g i c x G k all rests = record {
  one = λ j y a. let s = rests (suc c.own.last) y (subst (λ (z : ℕ). Accepted g z (suc c.own.last) c.pn y) k.own (G.triples.owner j (suc c.own.last) c.pn y a)) in absurd (omega arith);
  safe = λ r y Q lt ne ma le. refuses_here n g i c Nowhere G.roles k all (suc c.own.last) r y Q (omega arith) lt (λ m a l. l) ma le;
}

-- the value that it found for that version
pub found_leaves_no_room : (n : ℕ) (g : Ghost) (i : ℕ) (c : Core) (f : Found) → f.version ≡ suc c.own.last → Glob n g → LeadsIn g i c (FoundCovers (Some f)) → are_within n c.quorum c.answered ≡ true → Gathers g i c.quorum c.pn c.own.last (Some f)
    → LeavesNoRoom n g (suc c.own.last) c.pn f.value
found_leaves_no_room n g i c f at G k all gathers = record { one = one; safe = λ r y Q lt ne ma le. by r y Q lt ne ma le (cases_lt r f.pn) }
  where
    was : Accepted g gathers.found.by (suc c.own.last) f.pn f.value
    was = subst (λ (z : ℕ). Accepted g gathers.found.by z f.pn f.value) at gathers.found.was

    one : (j : ℕ) (y : List Op) → Accepted g j (suc c.own.last) c.pn y → y ≡ f.value
    one j y a = absurd (gathers.fresh (suc c.own.last) y (subst (λ (z : ℕ). Accepted g z (suc c.own.last) c.pn y) k.own (G.triples.owner j (suc c.own.last) c.pn y a)))

    -- under a number that isn't below the found one, no other value was accepted
    only : (r m : ℕ) (y : List Op) → f.pn ≤ r → (y ≡ f.value → ⊥) → Accepted g m (suc c.own.last) r y → FoundCovers (Some f) (suc c.own.last) r → ⊥
    only r m y ge ne a (inl lt) = omega arith
    only r m y ge ne a (inr e) = let le = e.1 in let same : r ≡ f.pn = omega arith in ne (G.triples.one m gathers.found.by (suc c.own.last) f.pn y f.value (subst (λ (z : ℕ). Accepted g m (suc c.own.last) z y) same a) was)

    by : (r : ℕ) (y : List Op) (Q : List Bool) → r < c.pn → (y ≡ f.value → ⊥) → is_majority n Q ≡ true → Below n Q → (r < f.pn) ⊎ (f.pn ≤ r) → HasBlocker g.signs g.accepts Q (suc c.own.last) r y
    by r y Q lt ne ma le (inl low) = G.triples.safe gathers.found.by (suc c.own.last) f.pn r f.value y Q was low ne ma le
    by r y Q lt ne ma le (inr ge) = refuses_here n g i c (FoundCovers (Some f)) G.roles k all (suc c.own.last) r y Q (omega arith) lt (λ m a l. only r m y ge ne a l) ma le
