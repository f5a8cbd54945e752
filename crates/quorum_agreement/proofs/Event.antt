-- What one event makes of the log, given what a monitor's history says of that monitor.
use Rattle.law_names.proofs.Runs.{Asked, Keeps, Monitors, World}
use Rattle.law_names.proofs.Table.{Body, Course, Input, Me, Op, Readings, Store, Vote, booting, react, readings_of, shared_entries}
use Rattle.log_copies.proofs.Matching.{monitor_keeps, read_last}
use Rattle.log_copies.proofs.Standing.{Agrees, BodyStands, InputMatches, TakesCopy, crashed}
use Rattle.log_copies.proofs.Unmarked.{OnLog, Situated}
use Rattle.log_copies.specs.Synchronizing.{written}
use Rattle.mon_msg.specs.declared.input.Input.TheVariants as input
use Rattle.mon_wire.specs.declared.body.Body.TheVariants as body
use Rattle.quorum_agreement.proofs.Invariant.{EnvelopeMatches, OfLog, remembers}
use Rattle.quorum_agreement.proofs.Made.{MadeOver}
use Rattle.quorum_agreement.proofs.Premises.{ack_others, elects_others, last_follows, leads_others, place_reached, recent}
use Rattle.quorum_agreement.proofs.Step.{Next, accept_event, copy_marked, other_event}
use Rattle.quorum_history.proofs.Holds.{BodyHolds, Good}
use Rattle.quorum_history.proofs.Rows.{InputHolds}
use Rattle.quorum_history.proofs.RowsClients.{Makes}
use Rattle.quorum_laws.proofs.Events.{Does, ToldOf, ended, good_with, member_of, same, shares}
use Rattle.quorum_laws.proofs.Invariant.{InvWith}
use Rattle.quorum_walk.proofs.FineCourses.{Ended, Val, begun}
use Rattle.quorum_walk.proofs.Lists.{Among}
use Rattle.std.proofs.Common.{List, Ok, Some, ap, arith, false, inl, inr, length, refl, subst, sym, true, ℕ, ◌<◌, ◌∙◌, ◌≡◌, ◌≤◌, ◌⊎◌}
use Rattle.std.proofs.lemmas.Bool.{false≢true, ltb-true}

pub input_tells : (log : List (List ℕ)) (rank : ℕ) (came : Input) → ToldOf (EnvelopeMatches log) rank came → InputMatches log came
input_tells log rank (input.Deliver m) t = t
input_tells log rank other t = tt

module _ (ms : Monitors) (w : World) (asked : List Asked) (J : InvWith ms w asked) (O : OfLog ms w asked J) (several : 1 < ms.count) (d : Does ms w (EnvelopeMatches w.log) asked J) where
  abbrev rank : ℕ
  rank = d.by.rank

  abbrev me : Me
  me = member_of ms d.by.rank d.by.lt

  abbrev m : Store
  m = w.store d.by.rank

  -- it is in the log
  pub standing : Agrees w.log m d.by.state
  standing = by d.by.remembers
    where
      was : Agrees w.log m (remembers rank (w.state rank))
      was = O.stores rank (ltb-true rank ms.count d.by.lt)

      by : (w.state rank ≡ Some d.by.state) ⊎ (d.by.state ≡ booting rank) → Agrees w.log m d.by.state
      by (inl e) = subst (λ o. Agrees w.log m (remembers rank o)) e was
      by (inr e) = subst (Agrees w.log m) (sym e) (crashed w.log O.short O.values me several m (remembers rank (w.state rank)) was)

  -- ---- what it makes

  abbrev Known : ℕ → List Op → Type 0
  Known v x = MadeOver ms.count asked w.log v x

  on_log : (readings_of m).marked ≡ false → Agrees w.log m d.by.state → OnLog w.log m
  on_log u (inl V) = V
  on_log u (inr T) = absurd (false≢true (sym u ∙ copy_marked w.log m d.by.state T))

  keeps : (readings_of m).marked ≡ false → ((readings_of m).last ≤ length w.log) × Keeps w.log (readings_of m).last (readings_of m)
  keeps u =
      let V = on_log u standing in
      let h = V.versions in
      let last = read_last w.log O.short O.values V.last m h in
      (let le = h.within in omega (arith, last), subst (λ (c : ℕ). Keeps w.log c (readings_of m)) (sym last) (monitor_keeps w.log O.short O.values V.last m h))

  makes : Makes me d.by.at J.g Known (readings_of m)
  makes = ((m, refl), λ u a s c y k e. record { before = (readings_of m).last; next = refl; within = (keeps u).0; over = readings_of m; keeps = (keeps u).1; last = refl; rank = a; session = s; command = c; of = J.asks a s c k; made = e })

  pub good : Good me J.g Known d.y
  good = good_with w.store w.state w.transactions w.messages w.active asked me J d.by.at d.by.state d.by.came d.by.on d.by.fits d.by.holds (d.by.fine (shares w.store w.state w.transactions w.messages w.active asked me J d.by.at)) d.y d.is
      Known O.made makes

  pub fine_then : Ended (begun me (readings_of m) d.by.state d.by.came) d.y
  fine_then = ended w.store w.state w.transactions w.messages w.active asked me J d.by.at d.by.state d.by.came d.by.on d.by.fits d.by.holds (d.by.fine (shares w.store w.state w.transactions w.messages w.active asked me J d.by.at)) d.y d.is

  -- it accepted what was made
  pub votes : (v p : ℕ) (x : List Op) → Among (Vote v p x) d.y.changes → Val x × MadeOver ms.count asked w.log v x
  votes v p x k = let t = good.tied.votes v p x k in (good.glob.triples.fine rank v p x t, good.known rank v p x t)

  -- ---- what it then sends

  read : readings_of (written m d.y) ≡ d.y.readings
  read = same w.store w.state w.transactions w.messages w.active asked me J d.by.at d.by.state d.by.came d.by.on d.by.fits d.by.holds (d.by.fine (shares w.store w.state w.transactions w.messages w.active asked me J d.by.at)) d.y d.is

  clear : (readings_of (written m d.y)).marked ≡ true → (readings_of (written m d.y)).last ≡ 0
  clear t = ap (λ (r : Readings). r.last) read ∙ (good.disk.kept.clear (sym (ap (λ (r : Readings). r.marked) read) ∙ t)).0

  -- ---- what it makes of the log

  abbrev Then : Course → Type 0
  Then y = Next ms.count J.g asked w.log (written m y) y.state y.out

  marked_then : TakesCopy w.log m d.by.state → Then d.y
  marked_then T =
      let t = copy_marked w.log m d.by.state T in
      other_event w.log O.short O.values me several J.g asked O.chosen O.asks d.by.at m d.by.state (inr T) d.by.came (input_tells w.log rank d.by.came d.by.told)
      (record { situated = λ u. absurd (false≢true (sym u ∙ t)); stands = λ u. absurd (false≢true (sym u ∙ t)) }) d.y d.is

  module _ (V : OnLog w.log m) where
    situated : Situated me (readings_of m) d.by.state
    situated = record {
      leads = leads_others me J.g (readings_of m) d.by.state J.glob several d.by.on;
      elects = elects_others me J.g (readings_of m) d.by.state J.glob several d.by.on;
      recent = recent me J.g (readings_of m) d.by.state J.glob several d.by.on V.unmarked;
    }

    unmarked_then : (came : Input) → InputHolds me J.g came → InputMatches w.log came → (y : Course) → react me (shared_entries m) d.by.at (readings_of m) d.by.state came ≡ Ok y
        → (readings_of (written m y)).last ≡ y.readings.last → ((readings_of (written m y)).marked ≡ true → (readings_of (written m y)).last ≡ 0) → Then y
    unmarked_then (input.Deliver e) h t y is tells none = by e.body refl
      where
        holds : (b : Body) → e.body ≡ b → BodyHolds J.g e.from rank e.epoch b
        holds b q = subst (BodyHolds J.g e.from rank e.epoch) q h.1.body

        other : (b : Body) → e.body ≡ b → BodyStands w.log me (readings_of m) d.by.state e.from b → Then y
        other b q stands =
            other_event w.log O.short O.values me several J.g asked O.chosen O.asks d.by.at m d.by.state (inl V) (input.Deliver e) t
            (record { situated = λ u. situated; stands = λ u. subst (BodyStands w.log me (readings_of m) d.by.state e.from) (sym q) stands }) y is

        by : (b : Body) → e.body ≡ b → Then y
        by (body.Accept pn v) q =
            let B = holds (body.Accept pn v) q in
            accept_event w.log O.short O.values me several J.g asked O.chosen O.asks J.glob O.made d.by.at m d.by.state V d.by.on situated e pn v q B.1 B.2 y is tells none
        by body.Ack q = other body.Ack q (ack_others me J.g (readings_of m) d.by.state J.glob several d.by.on e.from h.0)
        by (body.Last pn first last whole from values told) q =
            other (body.Last pn first last whole from values told) q
            (last_follows me J.g (readings_of m) d.by.state J.glob (readings_of m).record_of (J.mine rank).disk V.unmarked e.from e.epoch pn last from whole values told (holds (body.Last pn first last whole from values told) q))
        by (body.GetChunk cookie p) q =
            other (body.GetChunk cookie p) q (place_reached me J.g (readings_of m) d.by.state J.glob (readings_of m).record_of (J.mine rank).disk V.unmarked p.version (holds (body.GetChunk cookie p) q))
        by b q = other b q tt
    unmarked_then came h t y is tells none =
        other_event w.log O.short O.values me several J.g asked O.chosen O.asks d.by.at m d.by.state (inl V) came t (record { situated = λ u. situated; stands = λ u. tt }) y is

  pub after : Then d.y
  after = by standing
    where
      by : Agrees w.log m d.by.state → Then d.y
      by (inl V) = unmarked_then V d.by.came d.by.holds (input_tells w.log rank d.by.came d.by.told) d.y d.is (ap (λ (r : Readings). r.last) read) clear
      by (inr T) = marked_then T
