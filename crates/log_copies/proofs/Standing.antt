-- A monitor of the log stays one, whatever arrives at it and whenever it crashes. What it sends is the log's. All of this
-- lasts when the log grows. Other parts of the invariant, about elections, numbers and values, give the other premises.
use Rattle.law_names.proofs.Runs.{AllValues}
use Rattle.law_names.proofs.Table.{Body, Course, Input, Me, Op, Readings, Reply, State, Store, are_within, booting, epoch_of, floor_of, is_even, is_whole, ops_in, react, readings_of, shared_entries, votes, with_rank}
use Rattle.log_copies.proofs.Aside.{IsAside, probing_aside, synchronizing_aside}
use Rattle.log_copies.proofs.Asking.{asks_only}
use Rattle.log_copies.proofs.Events.{BodyOf, InputOf, marked_is, marked_shaped, reacts}
use Rattle.log_copies.proofs.Growing.{chunk_stays, marked_stays, versions_stay}
use Rattle.log_copies.proofs.Matching.{one_within, read_last, told_stays}
use Rattle.log_copies.proofs.Rows.{HasOthers}
use Rattle.log_copies.proofs.Sending.{AllMatch, BodyMatches, ReplyMatches, ToldOf}
use Rattle.log_copies.proofs.UnderWay.{Marked, Stands}
use Rattle.log_copies.proofs.Unmarked.{BodyFits, InputFits, OnLog, Outcome, Situated, agrees}
use Rattle.log_copies.specs.Synchronizing.{written}
use Rattle.log_copies.specs.Versions.{HasVersions}
use Rattle.log_model.proofs.Logs.{IsPrefixOf, entry_stays}
use Rattle.log_model.proofs.Records.{AreVersions, IsVersion}
use Rattle.mon_msg.specs.declared.input.Input.TheVariants as input
use Rattle.mon_wire.specs.declared.body.Body.TheVariants as body
use Rattle.mon_wire.specs.declared.phase.Phase.TheVariants as phase
use Rattle.mon_wire.specs.declared.reply.Reply.TheVariants as reply
use Rattle.std.proofs.Common.{IfSome, List, Ok, [], ap, arith, false, inl, inr, length, refl, subst, suc, sym, true, zero, ℕ, ◌<◌, ◌^◌, ◌∙◌, ◌∷◌, ◌≡◌, ◌≤◌, ◌⊎◌}

-- ---- a monitor of the log

-- a marked one, which takes a copy or looks for another monitor
pub record TakesCopy (log : List (List ℕ)) (m : Store) (s : State) : Type 0 where
  pub before : Readings
  pub floor : ℕ
  pub marked : Marked log before floor m s

abbrev pub Agrees : List (List ℕ) → Store → State → Type 0
Agrees log m s = OnLog log m ⊎ TakesCopy log m s

-- ---- what comes

-- what a message has of the log is the log's
abbrev pub InputMatches : List (List ℕ) → Input → Type 0
InputMatches log (input.Deliver d) = BodyMatches log d.body
InputMatches log other = Unit {0}

-- what other parts of the invariant say of a message
abbrev pub BodyStands : List (List ℕ) → Me → Readings → State → (f : ℕ) → Body → Type 0
BodyStands log me w s f body.Ack = votes s.phase ≡ true → is_even (epoch_of w) ≡ false → is_whole me (with_rank s.elector.acked f) ≡ true → HasOthers me (with_rank s.elector.acked f)
BodyStands log me w s f (body.Last pn first last whole from values pending) = from ≤ suc w.last
BodyStands log me w s f (body.Accept pn v) =
    are_within me.member.monitors s.leader.quorum (with_rank s.leader.accepted f) ≡ true → IfSome s.leader.value (λ value. IsVersion log (suc w.last) value)
BodyStands log me w s f (body.GetChunk cookie p) = p.version ≤ w.last
BodyStands log me w s f other = Unit {0}

abbrev pub InputStands : List (List ℕ) → Me → Readings → State → Input → Type 0
InputStands log me w s (input.Deliver d) = BodyStands log me w s d.from d.body
InputStands log me w s other = Unit {0}

body_fits : (log : List (List ℕ)) (me : Me) (w : Readings) (s : State) (f : ℕ) (b : Body) → BodyMatches log b → BodyStands log me w s f b → BodyFits log me w s f b
body_fits log me w s f body.Ack t h = h
body_fits log me w s f (body.Last pn first last whole from values pending) t h = (h, t.1)
body_fits log me w s f (body.Accept pn v) t h = h
body_fits log me w s f (body.Commit from values) t h = t
body_fits log me w s f (body.Route seq r) t h = t
body_fits log me w s f (body.GetChunk cookie p) t h = h
body_fits log me w s f (body.Chunk cookie p values entries end) t h = let C = t.0 in C.versions
body_fits log me w s f (body.LastChunk cookie p values entries last) t h = let C = t.0 in C.versions
body_fits log me w s f other t h = tt

input_fits : (log : List (List ℕ)) (me : Me) (w : Readings) (s : State) (came : Input) → InputMatches log came → InputStands log me w s came → InputFits log me w s came
input_fits log me w s (input.Deliver d) t h = body_fits log me w s d.from d.body t h
input_fits log me w s other t h = tt

body_of : (log : List (List ℕ)) (b : Body) → BodyMatches log b → BodyOf log b
body_of log (body.Cookie full cookie last) t = t
body_of log (body.Chunk cookie p values entries end) t = t
body_of log (body.LastChunk cookie p values entries last) t = t
body_of log other t = tt

input_of : (log : List (List ℕ)) (came : Input) → InputMatches log came → InputOf log came
input_of log (input.Deliver d) t = body_of log d.body t
input_of log other t = tt

-- ---- an event

module _ (log : List (List ℕ)) (fits : length log ≤ 2 ^ 62) (all : AllValues log) (me : Me) (several : 1 < me.member.monitors) where
  -- what other parts of the invariant say of an unmarked monitor
  pub record Allowed (m : Store) (s : State) (came : Input) : Type 0 where
    pub situated : (readings_of m).marked ≡ false → Situated me (readings_of m) s
    pub stands : (readings_of m).marked ≡ false → InputStands log me (readings_of m) s came

  aside : (before : Readings) (floor : ℕ) (m : Store) (s : State) → Marked log before floor m s → IsAside s.phase ⊎ (s.phase ≡ phase.Booting)
  aside before floor m s (inl U) = inl (subst IsAside (sym U.in_phase) synchronizing_aside)
  aside before floor m s (inr W) = elim W.in_phase [ inl p ↦ inl (subst IsAside (sym p) probing_aside) | inr p ↦ inr p ]

  pub event : (now : ℕ) (m : Store) (s : State) → Agrees log m s → (came : Input) → InputMatches log came → Allowed m s came → (y : Course) → react me (shared_entries m) now (readings_of m) s came ≡ Ok y
      → Agrees log (written m y) y.state × AllMatch log y.out
  event now m s (inl V) came t A y e = by (agrees log fits all m me several now s versions V.unmarked (A.situated V.unmarked) came (input_fits log me (readings_of m) s came t (A.stands V.unmarked)) y e)
    where
      versions : HasVersions log (readings_of m).last m
      versions = let h = V.versions in subst (λ (c : ℕ). HasVersions log c m) (sym (read_last log fits all V.last m h)) h

      by : Outcome log fits all m me several now y × AllMatch log y.out → Agrees log (written m y) y.state × AllMatch log y.out
      by (inl W, told) = (inl W, told)
      by (inr U, told) = (inr (record { before = readings_of m; floor = floor_of (readings_of m); marked = inl U }), told)
  event now m s (inr C) came t A y e = (by (reacts log fits all me several C.before C.floor now m s C.marked (shared_entries m) came y (input_of log came t) e), told)
    where
      told : AllMatch log y.out
      told =
          let N = marked_is log fits all me several C.before C.floor now m s C.marked in
          asks_only log me several now (shared_entries m) (readings_of m) s N.marked (aside C.before C.floor m s C.marked) came y e

      by : Stands log C.before C.floor (written m y) y.state → Agrees log (written m y) y.state
      by (inl M) = inr (record { before = C.before; floor = C.floor; marked = M })
      by (inr S) = inl (record { last = S.last; versions = S.versions; unmarked = S.unmarked })

  -- a monitor that crashed
  pub crashed : (m : Store) (s : State) → Agrees log m s → Agrees log m (booting me.member.rank)
  crashed m s (inl V) = inl V
  crashed m s (inr C) = inr (record {
    before = C.before;
    floor = C.floor;
    marked = inr (record {
      in_phase = inr refl;
      noted = marked_is log fits all me several C.before C.floor 0 m s C.marked;
      shaped = marked_shaped log fits all me several C.before C.floor 0 m s C.marked;
    });
  })

-- ---- the log grows

module _ {log more : List (List ℕ)} (F : IsPrefixOf log more) where
  pub agrees_stays : (m : Store) (s : State) → Agrees log m s → Agrees more m s
  agrees_stays m s (inl V) = inl (record { last = V.last; versions = versions_stay F V.last m V.versions; unmarked = V.unmarked })
  agrees_stays m s (inr C) = inr (record { before = C.before; floor = C.floor; marked = marked_stays F C.before C.floor m s C.marked })

  version_stays : (v : ℕ) (x : List Op) → IsVersion log v x → IsVersion more v x
  version_stays v x V = let same = entry_stays F v (low v V) in record { encodes = same ∙ V.encodes; reads = ap ops_in same ∙ V.reads }
    where
      low : (v : ℕ) → IsVersion log v x → v ≤ length log
      low zero V = omega arith
      low (suc v) V = one_within log v x V

  told_values_stay : (xs : List (List Op)) (v : ℕ) → AreVersions log v xs → AreVersions more v xs
  told_values_stay [] v h = tt
  told_values_stay (x ∷ xs) v h = (version_stays v x h.0, told_values_stay xs (suc v) h.1)

  told_of : (r : Reply) → ToldOf log r → ToldOf more r
  told_of r h = record { version = h.version; within = (let w = h.within in let s = F.short in omega arith); told = told_stays F h.version h.within r h.told }

  longer : (n : ℕ) → n ≤ length log → n ≤ length more
  longer n le = let s = F.short in omega arith

  reply_stays : (r : Reply) → ReplyMatches log r → ReplyMatches more r
  reply_stays (reply.Shown s paxos version map) h = told_of (reply.Shown s paxos version map) h
  reply_stays (reply.Since s from told rest) h = told_of (reply.Since s from told rest) h
  reply_stays other h = tt

  pub body_stays : (b : Body) → BodyMatches log b → BodyMatches more b
  body_stays (body.Last pn first last whole from values pending) h = (longer last h.0, told_values_stay values from h.1)
  body_stays (body.Commit from values) h = told_values_stay values from h
  body_stays (body.ProbeReply quorum first last) h = longer last h
  body_stays (body.Collect pn first last) h = longer last h
  body_stays (body.Lease last) h = longer last h
  body_stays (body.LeaseAck last) h = longer last h
  body_stays (body.GetCookieRecent last) h = longer last h
  body_stays (body.Route seq r) h = reply_stays r h
  body_stays (body.Cookie full cookie last) h = longer last h
  body_stays (body.Chunk cookie p values entries end) h = chunk_stays F (body.Chunk cookie p values entries end) h
  body_stays (body.LastChunk cookie p values entries last) h = chunk_stays F (body.LastChunk cookie p values entries last) h
  body_stays other h = tt
