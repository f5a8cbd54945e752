-- Every event leaves the floors of full synchronizations far below the end of the log.
use Rattle.law_names.proofs.Runs.{Asked, Envelope, Event, Keeps, Monitors, Plain, PlainFits, World, first_world, grown, happens, is_marked, kept_only, last_of, lost, messages_of, moved, plain_of, put_at, records_after, unmoved, with_asked}
use Rattle.law_names.proofs.Table.{AllByRecursion, Area, Body, Change, Key, Mark, Me, Readings, Sent, Store, apply, empty, encoded, floor_of, joined, number, number_in, place, place_cmp, play, played, readings_of, shared_entries}
use Rattle.log_copies.proofs.Matching.{monitor_keeps, read_last}
use Rattle.log_copies.proofs.Standing.{Agrees}
use Rattle.mon_msg.specs.declared.plan.Sent.TheVariants as sent
use Rattle.mon_tx.specs.declared.key.Area.TheVariants as area
use Rattle.mon_tx.specs.declared.key.Key.TheVariants as key
use Rattle.mon_wire.specs.declared.body.Body.TheVariants as body
use Rattle.quorum_agreement.proofs.Invariant.{EnvelopeMatches, LogHolds, remembers}
use Rattle.quorum_agreement.proofs.Step.{copy_marked}
use Rattle.quorum_laws.proofs.Beginning as beginning
use Rattle.quorum_laws.proofs.Events.{Does, Keeps as AllKeep, ToldOf, each_event, ended, member_of, same, shares}
use Rattle.quorum_laws.proofs.Invariant.{InvWith}
use Rattle.quorum_near.proofs.Low.{IsLow, TellsLow, first_low, low_later, low_marked, low_played}
use Rattle.quorum_near.proofs.PlainTable.{AnswersAs, Marks, NoMark, SaysAs, Writes, WritesAs, reacts_as}
use Rattle.quorum_walk.proofs.FineCourses.{Ended, begun}
use Rattle.std.proofs.Common.{Bool, IfOk, List, [], ap, arith, cond, eqb, false, inl, inr, length, subst, sym, true, ℕ, ◌++◌, ◌+◌, ◌-◌, ◌<◌, ◌∙◌, ◌∷◌, ◌≡◌, ◌≤◌, ◌⊎◌}
use Rattle.std.proofs.lemmas.Bool.{cond_both, false≢true, ltb-true}
use Rattle.std.proofs.lemmas.List.{length-append}
use Rattle.std.specs.FinMap.{get-empty}
use Rattle.table_walk.proofs.Lists.{all_append, all_both}
use Rattle.table_walk.proofs.Steps.{LacksVersions}
use Rattle.table_walk.proofs.Walk.{Then}

abbrev pub EnvelopeLow : Envelope → Type 0
EnvelopeLow e = TellsLow e.message.body

-- each floor is far below the end of the log, and each sent answer to PROBE has a low first version (`TellsLow`)
pub record AllLow (w : World) : Type 0 where
  pub stores : (i : ℕ) → IsLow (length w.log) (readings_of (w.store i))
  pub sent : AllByRecursion EnvelopeLow w.messages

-- ---- at first

no_number : (a : Area) (k : Key) → number empty a k ≡ 0
unfolding number_in
no_number a k = ap number_in (get-empty place_cmp (place a k))

floor_at_first : (readings_of empty).floor ≡ 0
unfolding readings_of
floor_at_first = no_number area.Sync key.Floor

pub low_at_first : AllLow first_world
low_at_first = record { stores = λ i. inl (beginning.unmarked_at_first, floor_at_first); sent = tt }

-- ---- the log only grows

pub grown_longer : (log : List (List ℕ)) (m : Store) → length log ≤ length (grown log m)
unfolding grown
grown_longer log m = cond_both (is_marked m) log (log ++ records_after m (length log) (last_of m - length log)) (λ l. length log ≤ length l) (λ _. omega arith)
    (λ _. let e = length-append log (records_after m (length log) (last_of m - length log)) in omega arith)

-- ---- what is sent

body_low : (w : Readings) → (w.marked ≡ false → (w.first ≤ 1) ⊎ (w.first + 501 ≤ w.last)) → (b : Body) → AnswersAs w b → TellsLow b
body_low w h (body.ProbeReply quorum first last) k = elim (h k.0) [ inl few ↦ inl (let e = k.1 in omega arith) | inr far ↦ inr (let e = k.1 in let f = k.2 in omega arith) ]
body_low w h other k = tt

envelopes_low : (w : Readings) → (w.marked ≡ false → (w.first ≤ 1) ⊎ (w.first + 501 ≤ w.last)) → (sends : List Sent) → AllByRecursion (SaysAs w) sends → AllByRecursion EnvelopeLow (messages_of sends)
envelopes_low w h [] k = tt
envelopes_low w h (sent.Message to m ∷ sends) k = (body_low w h m.body k.0, envelopes_low w h sends k.1)
envelopes_low w h (sent.Reply to r ∷ sends) k = envelopes_low w h sends k.1

-- ---- an event

module _ (ms : Monitors) (w : World) (H : LogHolds ms w) (L : AllLow w) where
  abbrev Told : Envelope → Type 0
  Told e = EnvelopeMatches w.log e × EnvelopeLow e

  -- an unmarked monitor keeps a window of the log
  pub first_of : (i : ℕ) → i < ms.count → (readings_of (w.store i)).marked ≡ false → ((readings_of (w.store i)).first ≤ 1) ⊎ ((readings_of (w.store i)).first + 501 ≤ (readings_of (w.store i)).last)
  first_of i lt u = let O = H.1 in by (O.stores i lt)
    where
      m : Store
      m = w.store i

      by : Agrees w.log (w.store i) (remembers i (w.state i)) → ((readings_of (w.store i)).first ≤ 1) ⊎ ((readings_of (w.store i)).first + 501 ≤ (readings_of (w.store i)).last)
      by (inl V) =
          let O = H.1 in
          let last = read_last w.log O.short O.values V.last (w.store i) V.versions in
          first_low w.log (readings_of (w.store i)) (subst (λ (c : ℕ). Keeps w.log c (readings_of (w.store i))) (sym last) (monitor_keeps w.log O.short O.values V.last (w.store i) V.versions))
      by (inr T) = absurd (false≢true (sym u ∙ copy_marked w.log (w.store i) (remembers i (w.state i)) T))

  module _ (asked : List Asked) (J : InvWith ms w asked) (d : Does ms w Told asked J) where
    abbrev rank : ℕ
    rank = d.by.rank

    abbrev me : Me
    me = member_of ms d.by.rank d.by.lt

    abbrev m : Store
    m = w.store d.by.rank

    abbrev next : Store
    next = apply (joined (encoded d.y.changes)) (w.store d.by.rank)

    fine : Ended (begun me (readings_of m) d.by.state d.by.came) d.y
    fine = ended w.store w.state w.transactions w.messages w.active asked me J d.by.at d.by.state d.by.came d.by.on d.by.fits d.by.holds (d.by.fine (shares w.store w.state w.transactions w.messages w.active asked me J d.by.at)) d.y d.is

    read : readings_of next ≡ d.y.readings
    read = same w.store w.state w.transactions w.messages w.active asked me J d.by.at d.by.state d.by.came d.by.on d.by.fits d.by.holds (d.by.fine (shares w.store w.state w.transactions w.messages w.active asked me J d.by.at)) d.y d.is

    writes : Writes (readings_of m) d.by.came d.y.changes d.y.out
    writes = (subst (Then (WritesAs (readings_of m) d.by.came)) d.is (reacts_as me (shared_entries m) d.by.at (readings_of m) d.by.state d.by.came)).holds

    -- the first version that another monitor reported is far below the end of the log
    told_low : (B : LacksVersions (readings_of m) d.by.came) → B.first + 501 ≤ length w.log
    told_low B = by (subst (ToldOf Told rank) B.is d.by.told)
      where
        by : Told (record { to = rank; message = B.message }) → B.first + 501 ≤ length w.log
        by t =
            let within = subst (λ (b : Body). EnvelopeMatches w.log (record { to = rank; message = record B.message { body = b } }) × TellsLow b) B.says t in
            let some = B.some in
            elim within.1 [ inl few ↦ (absurd (omega arith)) | inr far ↦ (let z = within.0 in omega arith) ]

    low_then : IsLow (length w.log) (readings_of next)
    low_then = subst (IsLow (length w.log)) (sym read) (subst (IsLow (length w.log)) (sym fine.tells) (by writes.changes))
      where
        low : IsLow (length w.log) (readings_of m)
        low = L.stores rank

        clear : (readings_of m).marked ≡ true → ((readings_of m).last ≡ 0) × ((readings_of m).pending_v ≡ 0)
        clear = (J.mine rank).disk.kept.clear

        why : (M : Marks (readings_of m) d.by.came d.y.changes) → ((readings_of m).marked ≡ true) ⊎ LacksVersions (readings_of m) d.by.came → IsLow (length w.log) (play (Mark (floor_of (readings_of m)) (readings_of m).last_pn (readings_of m).promise) (readings_of m))
        why M (inl t) = low_marked (length w.log) (readings_of m) low 0 (inl t) clear (readings_of m).last_pn (readings_of m).promise
        why M (inr B) = low_marked (length w.log) (readings_of m) low B.first (inr (B.above, told_low B)) clear (readings_of m).last_pn (readings_of m).promise

        by : AllByRecursion NoMark d.y.changes ⊎ Marks (readings_of m) d.by.came d.y.changes → IsLow (length w.log) (played d.y.changes (readings_of m))
        by (inl none) = low_played (length w.log) d.y.changes (readings_of m) none fine.fits low
        by (inr M) = subst (λ (cs : List Change). IsLow (length w.log) (played cs (readings_of m))) (sym M.is) (why M M.why)

    stores_then : (j : ℕ) → IsLow (length (grown w.log next)) (readings_of (put_at w.store rank next j))
    stores_then j = by (eqb j rank)
      where
        by : (b : Bool) → IsLow (length (grown w.log next)) (readings_of (cond b next (w.store j)))
        by true = low_later (length w.log) (length (grown w.log next)) (readings_of next) (grown_longer w.log next) low_then
        by false = low_later (length w.log) (length (grown w.log next)) (readings_of (w.store j)) (grown_longer w.log next) (L.stores j)

    sent_then : AllByRecursion EnvelopeLow (w.messages ++ messages_of d.y.out)
    sent_then = all_append EnvelopeLow w.messages (messages_of d.y.out) L.sent (envelopes_low (readings_of m) (first_of rank (ltb-true rank ms.count d.by.lt)) d.y.out writes.sends)

  keeps_low : (p : Plain) (J : InvWith ms w (with_asked p w.asked)) → AllKeep ms w Told p J AllLow
  unfolding unmoved moved kept_only lost
  keeps_low p J = record {
    nothing = record { stores = L.stores; sent = L.sent };
    loses = λ i lt. record { stores = L.stores; sent = L.sent };
    goes_on = λ d. record { stores = stores_then (with_asked p w.asked) J d; sent = sent_then (with_asked p w.asked) J d };
    goes_down = λ d. record { stores = stores_then (with_asked p w.asked) J d; sent = L.sent };
  }

  pub low_follows : (e : Event) → PlainFits ms.count (plain_of e) → IfOk (happens ms w e) AllLow
  low_follows e F = let O = H.1 in each_event ms w Told H.0 AllLow (all_both (EnvelopeMatches w.log) EnvelopeLow w.messages O.sent L.sent) e F (λ J up. keeps_low (plain_of e) J)
