-- What one event makes of the log and of its monitor's store, if all that was accepted is made over the log and all of the
-- log was chosen.
use Rattle.law_names.proofs.Runs.{AllValues, Asked, grown, log_from}
use Rattle.law_names.proofs.Table.{Change, Course, Input, Me, Message, Op, Readings, Sent, State, Store, apply, at_rest, encoded, entry, joined, react, readings_of, shared_entries, text}
use Rattle.log_copies.proofs.Matching.{monitor_keeps, read_last, record_there}
use Rattle.log_copies.proofs.Sending.{AllMatch, BodyMatches}
use Rattle.log_copies.proofs.Standing.{Agrees, Allowed, BodyStands, InputMatches, InputStands, TakesCopy, agrees_stays, event}
use Rattle.log_copies.proofs.UnderWay.{Marked}
use Rattle.log_copies.proofs.Unmarked.{OnLog, Situated}
use Rattle.log_copies.specs.Synchronizing.{written}
use Rattle.log_model.proofs.Lists.{length_push}
use Rattle.log_model.proofs.Logs.{IsPrefixOf, entry_push, log_prefix_itself, log_prefix_push}
use Rattle.log_model.proofs.Records.{IsVersion}
use Rattle.log_model.proofs.RowReadings.{read_some}
use Rattle.log_model.proofs.RuleCells.{log_high}
use Rattle.mon_msg.proofs.Joining.{apply-joined}
use Rattle.mon_msg.specs.declared.input.Input.TheVariants as input
use Rattle.mon_wire.specs.declared.body.Body.TheVariants as body
use Rattle.quorum_agreement.proofs.Accepting.{Commits, Rests, RestsOrCommits, accept_reacts}
use Rattle.quorum_agreement.proofs.Chosen.{AllChosen, Chosen, chosen_push, is_version, some_rank}
use Rattle.quorum_agreement.proofs.Grown.{GrowsByOne, first_is, grown_marked, grown_none, grown_one}
use Rattle.quorum_agreement.proofs.Made.{AllAsked, AllMade, MadeOver, asked_again, is_next, values_again}
use Rattle.quorum_agreement.proofs.Premises.{Completed, accept_completes}
use Rattle.quorum_history.proofs.History.{Accepted, Ghost, Glob}
use Rattle.quorum_history.proofs.Holds.{InPhase, core_of}
use Rattle.quorum_walk.proofs.Sparing.{own_of}
use Rattle.quorum_walk.proofs.Walk.{Then}
use Rattle.std.proofs.Common.{IfSome, List, Ok, Option, [], ap, arith, inl, inr, length, refl, subst, suc, sym, true, ℕ, ◌++◌, ◌<◌, ◌^◌, ◌∙◌, ◌∷◌, ◌≡◌, ◌≤◌}
use Rattle.std.proofs.lemmas.Bool.{cases_order}

pub copy_marked : (log : List (List ℕ)) (m : Store) (s : State) → TakesCopy log m s → (readings_of m).marked ≡ true
copy_marked log m s T = by T.marked
  where
    by : Marked log T.before T.floor m s → (readings_of m).marked ≡ true
    by (inl U) = let N = U.noted in N.marked
    by (inr W) = let N = W.noted in N.marked

-- The log after an event, at most one entry longer. Each entry is a value that was chosen, of a command that was asked.
-- The monitor agrees with this log, what it sends is this log's, and the world's log grows to it.
pub record Next (n : ℕ) (g : Ghost) (asked : List Asked) (log : List (List ℕ)) (m : Store) (s : State) (out : List Sent) : Type 0 where
  pub more : List (List ℕ)
  pub log_prefix : IsPrefixOf log more
  pub grows : GrowsByOne log more
  pub short : length more ≤ 2 ^ 62
  pub values : AllValues more
  pub chosen : AllChosen n g more
  pub asks : AllAsked n asked more
  pub agrees : Agrees more m s
  pub tells : AllMatch more out
  pub is : grown log m ≡ more

module _ (log : List (List ℕ)) (fits : length log ≤ 2 ^ 62) (all : AllValues log) (me : Me) (several : 1 < me.member.monitors) (g : Ghost) (asked : List Asked)
    (C : AllChosen me.member.monitors g log) (A : AllAsked me.member.monitors asked log) where
  abbrev n : ℕ
  n = me.member.monitors

  -- a monitor of the log has no version that the log lacks
  nothing_new : (m : Store) (s : State) → Agrees log m s → grown log m ≡ log
  nothing_new m s (inl V) = grown_none log m V.unmarked (let h = V.versions in let w = h.within in omega (arith, read_last log fits all V.last m h))
  nothing_new m s (inr T) = grown_marked log m (copy_marked log m s T)

  same_log : (m : Store) (s : State) (out : List Sent) → Agrees log m s → AllMatch log out → Next n g asked log m s out
  same_log m s out h t = record { more = log; log_prefix = log_prefix_itself log; grows = inl refl; short = fits; values = all; chosen = C; asks = A; agrees = h; tells = t; is = nothing_new m s h }

  -- ---- an event that commits nothing

  pub other_event : (now : ℕ) (m : Store) (s : State) → Agrees log m s → (came : Input) → InputMatches log came → Allowed log fits all me several m s came → (y : Course)
      → react me (shared_entries m) now (readings_of m) s came ≡ Ok y → Next n g asked log (written m y) y.state y.out
  other_event now m s h came t allowed y e =
      let E = event log fits all me several now m s h came t allowed y e in
      same_log (written m y) y.state y.out E.0 E.1

  -- ---- an ACCEPT at an unmarked monitor

  module _ (T : Glob n g) (M : AllMade n g asked log) (now : ℕ) (m : Store) (s : State) (V : OnLog log m) (K : InPhase n g me.member.rank (core_of (own_of (readings_of m)) s) s.phase)
      (situated : Situated me (readings_of m) s) (d : Message) (pn v : ℕ) (came : d.body ≡ body.Accept pn v) (value : List Op) (was : Accepted g d.from v pn value)
      (y : Course) (e : react me (shared_entries m) now (readings_of m) s (input.Deliver d) ≡ Ok y)
      (tells : (readings_of (written m y)).last ≡ y.readings.last) (clear : (readings_of (written m y)).marked ≡ true → (readings_of (written m y)).last ≡ 0) where
    abbrev w : Readings
    w = readings_of m

    last_is : w.last ≡ V.last
    last_is = read_last log fits all V.last m V.versions

    last_within : w.last ≤ length log
    last_within = let h = V.versions in let l = h.within in omega (arith, last_is)

    rests : Rests me now d.from d.epoch pn v (at_rest w s) y → Next n g asked log (written m y) y.state y.out
    rests R = same_log (written m y) y.state y.out (inl (subst (OnLog log) (sym same) V)) (subst (AllMatch log) (sym R.sends) tt)
      where
        same : written m y ≡ m
        same = ap (λ (cs : List Change). apply (joined (encoded cs)) m) R.changes ∙ apply-joined [] m

    module _ (R : Commits me now d.from d.epoch pn v (at_rest w s) y) where
      done : Completed me g w s T several K d.from
      done = accept_completes me g w s T several K d.from pn v value R.in_phase R.number R.next was R.whole

      stands_with : (l : List (List ℕ)) (f : length l ≤ 2 ^ 62) (a : AllValues l) → IsVersion l (suc w.last) done.x → Allowed l f a me several m s (input.Deliver d)
      stands_with l f a is = record { situated = λ u. situated; stands = λ u. stands }
        where
          value_is : IfSome s.leader.value (λ z. IsVersion l (suc w.last) z)
          value_is = subst (λ (o : Option (List Op)). IfSome o (λ z. IsVersion l (suc w.last) z)) (sym done.is) is

          stands : InputStands l me w s (input.Deliver d)
          stands = subst (BodyStands l me w s d.from) (sym came) (λ _. value_is)

      told : (l : List (List ℕ)) → InputMatches l (input.Deliver d)
      told l = subst (BodyMatches l) (sym came) tt

      -- a version that the log has
      again : suc w.last ≤ length log → Next n g asked log (written m y) y.state y.out
      again low = other_event now m s (inl V) (input.Deliver d) (told log) (stands_with log fits all (is_version n g T.triples log C fits all w.last low done.x done.chosen)) y e

      -- the next one
      grows : w.last ≡ length log → Next n g asked log (written m y) y.state y.out
      grows whole = record {
        more = more;
        log_prefix = log_prefix_push log (text done.x);
        grows = inr (text done.x, refl);
        short = short;
        values = values;
        chosen = chosen_push n g T.triples log C done.x next;
        asks = asked_again n few asked log room all done.x made A;
        agrees = E.0;
        tells = E.1;
        is = adds E.0;
      }
        where
          more : List (List ℕ)
          more = log ++ text done.x ∷ []

          long : length more ≡ suc (length log)
          long = length_push log (text done.x)

          few : n ≤ 15
          few = me.member.most

          room : length log < 2 ^ 62
          room = let f = R.fits in omega arith

          short : length more ≤ 2 ^ 62
          short = omega (arith, long, room)

          next : Chosen n g (suc (length log)) done.x
          next = subst (λ (z : ℕ). Chosen n g (suc z) done.x) whole done.chosen

          made : MadeOver n asked log (suc (length log)) done.x
          made = let r = some_rank n g T.triples (suc (length log)) done.x next in M r.0 (suc (length log)) next.pn done.x r.1

          values : AllValues more
          values = values_again n few asked log room all done.x made

          is_now : IsVersion more (suc w.last) done.x
          is_now = subst (λ (z : ℕ). IsVersion more (suc z) done.x) (sym whole) (is_next n few asked log room all done.x made)

          E : Agrees more (written m y) y.state × AllMatch more y.out
          E = event more short values me several now m s (agrees_stays (log_prefix_push log (text done.x)) m s (inl V)) (input.Deliver d) (told more) (stands_with more short values is_now) y e

          last_now : (readings_of (written m y)).last ≡ suc (length log)
          last_now = let l = R.last in omega (arith, tells, whole)

          adds : Agrees more (written m y) y.state → grown log (written m y) ≡ more
          adds (inl W) =
              let K2 = monitor_keeps more short values W.last (written m y) W.versions in
              let r = read_last more short values W.last (written m y) W.versions in
              let f = K2.first in
              let some : 1 ≤ W.last = omega (arith, r, last_now) in
              let low = log_high W.last some in
              let there = record_there more short values W.last (written m y) W.versions (suc (length log)) (omega (arith, f, r, last_now, low, read_some log_from W.last some, first_is (written m y))) (omega (arith, r, last_now)) in
              grown_one log (written m y) (entry more (suc (length log))) W.unmarked last_now there ∙ ap (λ (b : List ℕ). log ++ b ∷ []) (entry_push log (text done.x))
          adds (inr W) = absurd (let z = clear (copy_marked more (written m y) y.state W) in omega (arith, last_now))

    pub accept_event : Next n g asked log (written m y) y.state y.out
    accept_event = by (subst (Then (RestsOrCommits me now d.from d.epoch pn v (at_rest w s))) e (accept_reacts me (shared_entries m) now w s d pn v came)).holds
      where
        by : RestsOrCommits me now d.from d.epoch pn v (at_rest w s) y → Next n g asked log (written m y) y.state y.out
        by (inl R) = rests R
        by (inr R) = elim (cases_order (suc w.last) (suc (length log))) [
          | inl q ↦ grows R (omega arith)
          | inr o ↦ elim o [ inl lt ↦ again R (omega arith) | inr gt ↦ absurd (omega (arith, last_within)) ]
        ]
