-- That the laws' premises can be met: events that may come, a transaction that accepts, and one that collects.
use Rattle.law_names.proofs.Runs.{AllFit, Arrives, Client, Crash, Deliver, Event, Ring, Start}
use Rattle.law_names.proofs.Table.{Numbers, Op, Readings, Session, Vote, empty, encoded, joined, readings_of, text}
use Rattle.mon_msg.proofs.Changed.{readings-joined}
use Rattle.mon_wire.specs.declared.phase.Timer.TheVariants as timer
use Rattle.mon_wire.specs.declared.request.Request.TheVariants as request
use Rattle.quorum_laws.proofs.Beginning.{unmarked_at_first}
use Rattle.quorum_laws.proofs.Voting.{vote_accepted}
use Rattle.quorum_laws.specs.Accepting.{Accepts}
use Rattle.quorum_laws.specs.Promises.{Collects}
use Rattle.std.proofs.Common.{IsTrue, List, [], ap, arith, inl, inr, refl, true, ℕ, ◌∙◌, ◌∷◌}
use Rattle.std.specs.Str.{is_utf8}

-- Two of three monitors start, probe each other and call an election, of which the first wins and collects; then a client asks, and the
-- leader crashes once it kept what it writes. The third never comes.
abbrev elects : Session → (line : List ℕ) → List Event
elects session line =
    Arrives (Start 0 0) ∷ Arrives (Start 1 0) ∷ Arrives (Deliver 1 0) ∷ Arrives (Deliver 3 0) ∷ Arrives (Deliver 5 0) ∷ Arrives (Deliver 6 0) ∷ Arrives (Deliver 7 0) ∷ Arrives (Deliver 11 0)
    ∷ Arrives (Ring 0 timer.Election 0) ∷ Arrives (Deliver 12 0) ∷ Arrives (Deliver 13 0) ∷ Arrives (Deliver 14 0) ∷ Crash (Client 0 0 session (request.Log line)) true ∷ []

pub elects_fit : (session : Session) (line : List ℕ) → IsTrue (is_utf8 line) → AllFit 3 (elects session line)
elects_fit session line utf8 = (omega arith, (omega arith, (tt, (tt, (tt, (tt, (tt, (tt, (omega arith, (tt, (tt, (tt, ((omega arith, utf8), tt)))))))))))))

-- a transaction that votes for version 1 under number 100
pub accepts_one : (x : List Op) → Accepts (joined (encoded (Vote 1 100 x ∷ []))) 1 100 (text x)
accepts_one x =
    vote_accepted (Vote 1 100 x ∷ []) (inr (inl (record { before = []; calm = tt; v = 1; pn = 100; value = x; is = refl }))) ((omega arith, omega arith), tt) 1 100 x (omega arith) (inl refl)

-- and one that makes that number
pub collects_one : Collects (joined (encoded (Numbers 100 ∷ []))) 100
unfolding readings_of
collects_one =
    let e = readings-joined (Numbers 100 ∷ []) (omega arith, tt) empty in
    record { number = ap (λ (w : Readings). w.last_pn) e; unmarked = ap (λ (w : Readings). w.marked) e ∙ unmarked_at_first }
