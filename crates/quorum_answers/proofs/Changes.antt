-- Every run answers with the next change, if there is one.
use Rattle.law_names.proofs.Runs.{Agrees, AllFit, Asked, Event, IsShown, Monitors, Plain, PlainFits, Reached, Replied, ShowsLog, World, first_read, first_world, happens, kept_only, last_of, lost, moved, plain_of, replies_of, run, service_from, unmoved, with_asked}
use Rattle.law_names.proofs.Table.{AllByRecursion, Asked as Waits, Me, Readings, Reply, Sent, Service, Session, State, Store, answer_to, booting, changes_after, epoch_of, fits_reply, incrementals, is_member, longest, map_of_log, readings_of, version_of_log}
use Rattle.log_model.proofs.Committed.{shown_shared}
use Rattle.log_model.proofs.Logs.{IsPrefixOf}
use Rattle.log_model.specs.Windows.{Shows}
use Rattle.mon_msg.specs.declared.plan.Sent.TheVariants as sent
use Rattle.mon_wire.specs.declared.reply.Reply.TheVariants as reply
use Rattle.quorum_agreement.proofs.Acknowledging.{NoShow, NoShowSent, answer_shows_nothing, plain_shows_nothing}
use Rattle.quorum_agreement.proofs.Answering.{IsRead, Outcome}
use Rattle.quorum_agreement.proofs.Result.{there_marked}
use Rattle.quorum_agreement.proofs.SafeWorlds.{safe}
use Rattle.quorum_answers.proofs.Own.{AnyFrom, AnyLook, AnyVote, NoRoute, Onward, Quiet, member_votes, says}
use Rattle.quorum_answers.proofs.Reached.{runs_on}
use Rattle.quorum_answers.proofs.Refusals.{agreed, valued}
use Rattle.quorum_answers.proofs.Sizes.{IsShort, all_short, takes_next}
use Rattle.quorum_answers.proofs.Whole as whole
use Rattle.quorum_answers.specs.Changes.{AllNameNext, NamesNext}
use Rattle.quorum_history.proofs.Holds.{core_of}
use Rattle.quorum_history.proofs.Phases.{no, votes_unmarked}
use Rattle.quorum_laws.proofs.Events.{Does, Keeps, each_event, member_of}
use Rattle.quorum_laws.proofs.Invariant.{InvOf, InvWith}
use Rattle.quorum_laws.proofs.Reading.{state_holds}
use Rattle.quorum_model.proofs.Reached.{reached_first, world_is}
use Rattle.quorum_walk.proofs.Lists.{all_append, all_both, all_drop, all_map, all_of}
use Rattle.quorum_walk.proofs.Sparing.{own_of}
use Rattle.std.proofs.Common.{IfOk, IsTrue, List, Some, [], ap, arith, drop, eqb, false, filter, inl, inr, leb, length, subst, suc, sym, true, ℕ, ◌∙◌, ◌∷◌, ◌≡◌, ◌≤◌, ◌⊎◌}
use Rattle.std.proofs.lemmas.Bool.{cond_both, false≢true, ltb-true}

-- ---- a reply that says that more changes follow has one

abbrev Names : Reply → Type 0
Names (reply.Since s from told more) = IsTrue more → 1 ≤ length told
Names other = Unit {0}

abbrev NamesSent : Sent → Type 0
NamesSent (sent.Message to m) = Unit {0}
NamesSent (sent.Reply t r) = Names r

nothing_named : (r : Reply) → NoShow r → Names r
nothing_named (reply.Since s from told more) k = absurd k
nothing_named other k = tt

quiet_named : (x : Sent) → NoShowSent x → NamesSent x
quiet_named (sent.Message to m) k = tt
quiet_named (sent.Reply t r) k = nothing_named r k

all_quiet : (sends : List Sent) → AllByRecursion NoShowSent sends → AllByRecursion NamesSent sends
all_quiet sends k = all_map NoShowSent NamesSent quiet_named sends k

named_replies : (event rank : ℕ) (m : Store) (sends : List Sent) → AllByRecursion NamesSent sends → AllByRecursion (λ (r : Replied). Names r.reply) (replies_of event rank m sends)
named_replies event rank m [] k = tt
named_replies event rank m (sent.Message to x ∷ sends) k = named_replies event rank m sends k.1
named_replies event rank m (sent.Reply t r ∷ sends) k = (k.0, named_replies event rank m sends k.1)

-- ---- an event

module _ (ms : Monitors) (w : World) (R : Reached ms w) (I : InvOf ms w) (O : Onward ms.count w) (asked : List Asked) (J : InvWith ms w asked) (d : Does ms w Quiet asked J) where
  abbrev rank : ℕ
  rank = d.by.rank

  abbrev me : Me
  me = member_of ms d.by.rank d.by.lt

  abbrev s : State
  s = d.by.state

  abbrev store : Store
  store = w.store d.by.rank

  abbrev w0 : Readings
  w0 = readings_of store

  module _ (member : is_member s.phase ≡ true) where
    there : w.state rank ≡ Some s
    there = by d.by.remembers
      where
        by : (w.state rank ≡ Some s) ⊎ (s ≡ booting rank) → w.state rank ≡ Some s
        by (inl e) = e
        by (inr e) = no (ap (λ (z : State). is_member z.phase) (sym e) ∙ member)

    unmarked : w0.marked ≡ false
    unmarked = votes_unmarked ms.count I.g rank (core_of (own_of w0) s) s.phase (member_votes s.phase member) (state_holds ms w I rank s there)

    stored : Agrees w.log store
    stored = let A = agreed ms w R in A.monitors rank (ltb-true rank ms.count d.by.lt) (λ t. absurd (false≢true (sym unmarked ∙ there_marked store t)))

    reads : Shows w.log (last_of store) w0
    reads = let A = stored in let V = valued ms w R in shown_shared w.log (last_of store) store A.folded V.0 V.1 A.within

    kept_short : (v : Service) (k : ℕ) → AllByRecursion IsShort (drop k (incrementals v w.log (last_of store)))
    kept_short v k = let A = agreed ms w R in all_drop IsShort k (incrementals v w.log (last_of store)) (all_short ms.count w.asked w.log A.values v (last_of store) (let B = stored in B.within))

    changes_named : (v : Service) (k : ℕ) → Names (changes_after w0 v k (drop k (incrementals v w.log (last_of store))))
    changes_named v k more =
        let kept = drop k (incrementals v w.log (last_of store)) in
        let others = ltb-true (length (longest fits_reply kept)) (length kept) more in
        takes_next kept (kept_short v k) (omega (arith, others))

    read_named : (t : Session) (r : Reply) → IsRead me d.by.at w0 s AnyFrom NoRoute AnyVote AnyLook t r → Names r
    read_named t r (inl k) = subst Names (sym k.2) tt
    read_named t r (inr k) =
        let S = reads in
        subst Names (sym (k.3 ∙ S.since k.0 k.1))
        (cond_both (leb (first_read service_from (version_of_log k.0 w.log (last_of store))) (suc k.1)) (changes_after w0 k.0 k.1 (drop k.1 (incrementals k.0 w.log (last_of store))))
        (reply.Shown k.0 w0.last (version_of_log k.0 w.log (last_of store)) (map_of_log k.0 w.log (last_of store))) Names (λ t. changes_named k.0 k.1) (λ t. tt))

  named : AllByRecursion NamesSent d.y.out
  named = by (says ms w I O asked J d)
    where
      by : Outcome me d.by.at w0 s AnyFrom NoRoute AnyVote AnyLook d.y → AllByRecursion NamesSent d.y.out
      by (inl C) = all_quiet d.y.out (plain_shows_nothing d.y.out C.out)
      by (inr (inl A)) = subst (AllByRecursion NamesSent) (sym A.out)
          (all_append NamesSent A.plain (answer_to me (epoch_of d.y.readings) A.origin (reply.Done (suc w0.last)) ∷ []) (all_quiet A.plain (plain_shows_nothing A.plain A.all))
          (all_quiet (answer_to me (epoch_of d.y.readings) A.origin (reply.Done (suc w0.last)) ∷ []) (answer_shows_nothing me (epoch_of d.y.readings) A.origin (suc w0.last))))
      by (inr (inr (inl Q))) = subst (AllByRecursion NamesSent) (sym Q.out) (read_named Q.member Q.session Q.reply Q.read, tt)
      by (inr (inr (inr H))) = subst (AllByRecursion NamesSent) (sym H.out)
          (all_of NamesSent (λ (a : Waits). sent.Reply a.session H.reply) (λ a. nothing_named H.reply H.known) (filter (λ (a : Waits). eqb a.seq H.seq) s.clients.sessions))

-- ---- runs

module _ (ms : Monitors) where
  abbrev AllNamed : World → Type 0
  AllNamed w = AllByRecursion (λ (r : Replied). Names r.reply) w.replied

  abbrev GoesOn : World → World → Type 0
  GoesOn w next = IsPrefixOf w.log next.log → AllNamed next

  keeps : (w : World) (R : Reached ms w) (I : InvOf ms w) (O : Onward ms.count w) (p : Plain) (J : InvWith ms w (with_asked p w.asked)) → AllNamed w → Keeps ms w Quiet p J (GoesOn w)
  unfolding unmoved moved kept_only lost
  keeps w R I O p J h = record {
    nothing = λ f. h;
    loses = λ i lt f. h;
    goes_down = λ d f. h;
    goes_on = λ d f. all_append (λ (r : Replied). Names r.reply) w.replied _ h (named_replies (suc w.events) d.by.rank _ d.y.out (named ms w R I O (with_asked p w.asked) J d));
  }

  follows : (w : World) (e : Event) → Reached ms w → PlainFits ms.count (plain_of e) → AllNamed w → IfOk (happens ms w e) (GoesOn w)
  follows w e R F h =
      let H : whole.Holds ms w = subst (whole.Holds ms) (world_is ms w R) (whole.after_events ms R.events R.fit) in
      let O = H.1 in
      each_event ms w Quiet H.0 (GoesOn w) O.quiet e F (λ J up. keeps w R H.0 H.1 (plain_of e) J h)

  all_named : (events : List Event) → AllFit ms.count events → AllNamed (run ms events)
  all_named events F = runs_on ms AllNamed follows first_world events F (reached_first ms) tt

next_named : (w : World) (r : Replied) (y : Reply) → ShowsLog w r y → Names y → NamesNext w r y
next_named w r (reply.Since s from [] more) shows names = λ below. names (shows.others.1 (omega (arith, below)))
next_named w r (reply.Since s from (x ∷ xs) more) shows names = λ below. omega arith
next_named w r other shows names = tt

pub name_next : (ms : Monitors) (events : List Event) → AllFit ms.count events → AllNameNext (run ms events)
name_next ms events F =
    let S = safe ms events F in
    all_map (λ (r : Replied). IsShown (run ms events) r × Names r.reply) (λ (r : Replied). NamesNext (run ms events) r r.reply) (λ r k. let shown = k.0 in next_named (run ms events) r r.reply shown.shows k.1) (run ms events).replied
    (all_both (IsShown (run ms events)) (λ (r : Replied). Names r.reply) (run ms events).replied S.shown (all_named ms events F))
