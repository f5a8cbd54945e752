-- That a monitor replies to a session no more often than the session asked it.
use Rattle.std.specs.Prelude.{ℕ, ◌≤◌, ◌+◌, ◌&&◌, ◌==◌, if◌then◌else◌, List, [], ◌∷◌}
use Rattle.mon_wire.specs.declared.request.Session.{Session}
use Rattle.quorum_model.specs.World.{World, Asked, Replied}

-- 1 if j is i and u is t, and otherwise 0
abbrev pub one_of : (i : ℕ) → Session → (j : ℕ) → Session → ℕ
one_of i t j u = if j == i && (u.client == t.client && u.id == t.id) then 1 else 0

-- how often the session asked monitor i
abbrev pub times_asked : (i : ℕ) → Session → List Asked → ℕ
times_asked i t [] = 0
times_asked i t (a ∷ asked) = one_of i t a.rank a.session + times_asked i t asked

-- how often monitor i replied to the session
abbrev pub times_answered : (i : ℕ) → Session → List Replied → ℕ
times_answered i t [] = 0
times_answered i t (r ∷ replied) = one_of i t r.rank r.session + times_answered i t replied

-- Each monitor replied to each session no more often than the session asked it.
abbrev pub AnsweredOnce : World → Type 0
AnsweredOnce w = (i : ℕ) (t : Session) → times_answered i t w.replied ≤ times_asked i t w.asked
