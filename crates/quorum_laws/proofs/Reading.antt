-- What every run's history says of its world.
use Rattle.law_names.proofs.Runs.{Envelope, Monitors, World}
use Rattle.law_names.proofs.Table.{Contains, Op, State, text}
use Rattle.log_model.proofs.Lists.{of_all}
use Rattle.quorum_history.proofs.History as history
use Rattle.quorum_history.proofs.History.{Had, Rising}
use Rattle.quorum_history.proofs.Holds.{InPhase, MessageHolds, core_of, number_of}
use Rattle.quorum_laws.proofs.Invariant.{EnvelopeFine, EnvelopeHolds, InvOf, OnState}
use Rattle.quorum_laws.specs.Accepting.{AcceptedIn, readings_at}
use Rattle.quorum_walk.proofs.FineCourses.{MessageFine}
use Rattle.quorum_walk.proofs.Lists.{Among}
use Rattle.quorum_walk.proofs.Sparing.{own_of}
use Rattle.std.proofs.Common.{List, Some, [], arith, inl, inr, length, slice_index_or, subst, suc, sym, zero, ℕ, ◌<◌, ◌∷◌, ◌≡◌, ◌≤◌}

pub among_of : {A : Type 0} (xs : List A) (x : A) → Contains xs x → Among x xs
among_of [] x c = let lt = c.1 in absurd (omega arith)
among_of (y ∷ ys) x c = by (among_of ys x) c.0 c.1 c.2
  where
    by : (Contains ys x → Among x ys) → (k : ℕ) → k < length (y ∷ ys) → slice_index_or (y ∷ ys) k x ≡ x → Among x (y ∷ ys)
    by ih zero lt e = inl (sym e)
    by ih (suc k) lt e = inr (ih (k, omega arith, e))

module _ (ms : Monitors) (w : World) (I : InvOf ms w) where
  -- what a message's history says
  pub sent_holds : (e : Envelope) → Contains w.messages e → MessageHolds I.g e.to e.message
  sent_holds e c = (of_all (EnvelopeHolds ms.count I.g) w.messages I.sent e c).1

  pub sent_fine : (e : Envelope) → Contains w.messages e → MessageFine e.message
  sent_fine e c = of_all EnvelopeFine w.messages I.sizes e c

  -- a number is at least each value that the history has of it
  pub at_least : (k : Rising) (i m : ℕ) → Had I.g k i m → m ≤ number_of (own_of (readings_at w i)) k
  at_least k i m a = (I.mine i).disk.numbers.top k m a

  pub accepted_as : (i v p : ℕ) (bytes : List ℕ) → AcceptedIn (w.transactions i) v p bytes → (x : List Op) × (bytes ≡ text x) × history.Accepted I.g i v p x
  accepted_as i v p bytes a = I.triples.known i v p bytes a

  pub as_accepted : (i v p : ℕ) (x : List Op) → history.Accepted I.g i v p x → AcceptedIn (w.transactions i) v p (text x)
  as_accepted i v p x a = I.triples.kept i v p x a

  -- what a monitor that is up has in its phase
  pub state_holds : (i : ℕ) (s : State) → w.state i ≡ Some s → InPhase ms.count I.g i (core_of (own_of (readings_at w i)) s) s.phase
  state_holds i s e = subst (OnState ms.count I.g i (readings_at w i)) e (I.mine i).state
