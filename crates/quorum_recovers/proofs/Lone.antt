-- One monitor alone serves once it is started.
use Rattle.law_names.proofs.Runs.{Monitors, request_of}
use Rattle.law_names.proofs.Table.{Boot, Command, CommandRefused, Course, Entry, Epoch, Found, Learn, Me, Op, Readings, Rule, Session, State, allows, arm_if, at_rest, be_active, begin_found, begin_made, booting, bootstrap, catch_up, change, change_if, collect_with, disarm, elector_is, epoch_of, extend, first_elector, has_queue, is_alone, is_empty, is_too_long, leader_is, may_propose, members, next_even, next_number, only, or_zero, play, promise_of, react, refusal, same_phase, scores_count, service_last, service_of, settle, value, ◌▸◌}
use Rattle.mon_msg.specs.Protocol.Entering.{win_alone}
use Rattle.mon_msg.specs.declared.input.Input.TheVariants as input
use Rattle.mon_msg.specs.declared.paxos.LeaderStage.TheVariants as stage
use Rattle.mon_msg.specs.declared.plan.Origin.TheVariants as origin
use Rattle.mon_msg.specs.declared.plan.Sent.TheVariants as send
use Rattle.mon_wire.specs.declared.phase.Phase.TheVariants as phase
use Rattle.mon_wire.specs.declared.phase.Timer.TheVariants as timer
use Rattle.mon_wire.specs.declared.reply.Reply.TheVariants as reply
use Rattle.quorum_elects.proofs.Moving.{Sound}
use Rattle.quorum_elects.proofs.Walking.{Surely, done, so}
use Rattle.quorum_elects.specs.Ready.{NumbersHaveRoom}
use Rattle.quorum_model.proofs.Members.{member_of}
use Rattle.quorum_recovers.proofs.States.{takes_command}
use Rattle.quorum_walk.proofs.FineCourses.{Val}
use Rattle.quorum_walk.proofs.Lists.{Among}
use Rattle.quorum_walk.proofs.Sparing.{Own, learned_own}
use Rattle.std.proofs.Common.{Bool, Err, List, None, Ok, Option, Result, Some, [], ap, arith, false, inl, inr, is_some, max, not, refl, subst, suc, sym, true, ℕ, ◌&&◌, ◌+◌, ◌^◌, ◌∙◌, ◌∷◌, ◌≡◌, ◌≤◌, ◌⊎◌}
use Rattle.table_rows.proofs.Electing.{alone, collects_alone, leads_alone, number_above, reigning, start_row, wins_alone}
use Rattle.table_rows.proofs.Serving as rows
use Rattle.table_rows.proofs.Serving.{begins_alone, none_pends}

-- it leads itself, and has l versions
pub record IsAlone (l : ℕ) (w : Readings) (s : State) : Type 0 where
  pub unmarked : w.marked ≡ false
  pub last : w.last ≡ l
  pub phase : s.phase ≡ phase.Active
  pub quorum : s.leader.quorum ≡ only 0
  pub queue : s.clients.queue ≡ []

-- a map of one monitor
abbrev pub lone : (most : 1 ≤ 15) → Rule → Monitors
lone most rule = record { count = 1; most = most; rule = rule }

module _ (most : 1 ≤ 15) (rule : Rule) (sh : List Entry) (now : ℕ) where
  abbrev me : Me
  me = member_of (lone most rule) 0 refl

  pub starts_alone : (w : Readings) (l : ℕ) → allows rule 0 ≡ true → w.marked ≡ false → w.last ≡ l → w.pending_v ≡ 0 → NumbersHaveRoom w → Surely (λ y. Sound w y × IsAlone l y.readings y.state) (react me sh now w (booting 0) input.Start)
  unfolding collect_with settle be_active extend
  starts_alone w l may_lead unmarked last none N =
      let fits : suc w.boot ≤ 2 ^ 62 = (let z = N.boot in omega arith) in
      so (start_row me sh now w (booting 0) refl fits) (by fits (not (is_some w.epoch)))
    where
      Goal : Course → Type 0
      Goal y = Sound w y × IsAlone l y.readings y.state

      bootstrapped : Bool → Course
      bootstrapped b =
          change_if b (Epoch 1) (change (Boot (suc w.boot)) (at_rest w (booting 0)))
          ▸ elector_is (first_elector me now (suc w.boot) (booting 0).elector)
          ▸ arm_if (scores_count me.rule) now timer.Ping

      asked : (b : Bool) (e pn : ℕ) → Course
      asked b e pn = collect_with me now (only 0) pn (reigning me (only 0) (change (Epoch e) (alone me now (bootstrapped b))))

      settling : (b : Bool) (e pn : ℕ) → Course
      settling b e pn = asked b e pn ▸ disarm timer.Collect ▸ catch_up me (members me (asked b e pn).state.leader.quorum) ▸ leader_is (record (asked b e pn).state.leader { found = None })

      -- it is the leader in the next even epoch, and found nothing
      found : (b : Bool) (e pn : ℕ) → suc w.boot ≤ 2 ^ 62 → e ≤ 2 ^ 62 → pn ≤ 2 ^ 62 → Surely Goal (settle me now (asked b e pn))
      found true e pn fits short fit = subst (λ (o : Option Found). Surely Goal (begin_found me now o (settling true e pn))) (sym (none_pends w (λ z. omega arith)))
          (done (record { tells = refl; fits = (fits, (omega arith, (short, (fit, tt)))); short = (tt, (tt, (tt, (tt, tt)))); unmarked = unmarked }, record { unmarked = unmarked; last = last; phase = refl; quorum = refl; queue = refl }))
      found false e pn fits short fit = subst (λ (o : Option Found). Surely Goal (begin_found me now o (settling false e pn))) (sym (none_pends w (λ z. omega arith)))
          (done (record { tells = refl; fits = (fits, (short, (fit, tt))); short = (tt, (tt, (tt, tt))); unmarked = unmarked }, record { unmarked = unmarked; last = last; phase = refl; quorum = refl; queue = refl }))

      leads : (b : Bool) → epoch_of (bootstrapped b).readings + 2 ≤ 2 ^ 62 → number_above me (bootstrapped b).readings 0 ≤ 2 ^ 62 → suc w.boot ≤ 2 ^ 62 → Surely Goal (win_alone me now (alone me now (bootstrapped b)))
      leads b room pn fits =
          let short : next_even (epoch_of (bootstrapped b).readings) ≤ 2 ^ 62 = omega arith in
          so (wins_alone me now (alone me now (bootstrapped b)) short ∙ collects_alone me now (only 0) 0 (reigning me (only 0) (change (Epoch (next_even (epoch_of (bootstrapped b).readings))) (alone me now (bootstrapped b)))) pn refl) (found b _ _ fits short pn)

      number_fits : next_number (or_zero w.last_pn) (max (promise_of w) 0) 0 ≤ 2 ^ 62
      number_fits = let own = N.number in let promise = N.promise in omega arith

      by : suc w.boot ≤ 2 ^ 62 → (b : Bool) → Surely Goal (bootstrap me now (bootstrapped b))
      by fits true = so (leads_alone me now (bootstrapped true) refl (λ j. may_lead j && not (unmarked j))) (leads true (omega arith) number_fits fits)
      by fits false = so (leads_alone me now (bootstrapped false) refl (λ j. may_lead j && not (unmarked j))) (leads false (let z = N.epoch in omega arith) number_fits fits)

  -- it commits the value of the command at once
  pub record Commits (w : Readings) (l : ℕ) (c : Command) (session : Session) (y : Course) : Type 0 where
    pub value_is : List Op
    pub made : value w c 0 ≡ Ok value_is
    pub kept : y.readings.record_of (suc l) ≡ (play (Learn (suc l) value_is) w).record_of (suc l)
    pub last : y.readings.last ≡ suc l
    pub says : Among (send.Reply session (reply.Done (suc l))) y.out

  pub record Refuses (w : Readings) (c : Command) (session : Session) (y : Course) : Type 0 where
    pub why : CommandRefused
    pub is : value w c 0 ≡ Err why
    pub reads : y.readings ≡ w
    pub says : Among (send.Reply session (refusal why)) y.out

  pub answers_alone : (w : Readings) (s : State) (l : ℕ) → IsAlone l w s → suc l ≤ 2 ^ 62 → (session : Session) (c : Command) → is_too_long c ≡ false → suc (service_last w (service_of c)) ≤ 2 ^ 62 → ((x : List Op) → value w c 0 ≡ Ok x → Val x)
      → Surely (λ y. Sound w y × (Commits w l c session y ⊎ Refuses w c session y)) (react me sh now w s (input.Client session (request_of c)))
  answers_alone w s l P room session c short service vals =
      so (takes_command me sh now w s session c P.phase ∙ rows.proposes me now c (origin.Session session) (at_rest w s) short free service refl) (made (value w c 0) refl)
    where
      Goal : Course → Type 0
      Goal y = Sound w y × (Commits w l c session y ⊎ Refuses w c session y)

      free : (may_propose me now (at_rest w s) && not (has_queue (at_rest w s))) ≡ true
      free = λ j. (same_phase (P.phase j) phase.Active && true) && not (not (is_empty (P.queue j)))

      made : (r : Result (List Op) CommandRefused) → value w c 0 ≡ r → Surely Goal (begin_made me now (origin.Session session) r (at_rest w s))
      made (Err why) is = done (record { tells = refl; fits = tt; short = tt; unmarked = P.unmarked }, inr (record { why = why; is = is; reads = refl; says = inl refl }))
      made (Ok v) is =
          let fits : suc w.last ≤ 2 ^ 62 = (let z = P.last in omega arith) in
          let X = vals v is in
          let own = learned_own (suc w.last) (v ∷ []) w (X.spares, tt) in
          so (begins_alone me now stage.Updating v (Some (origin.Session session)) (at_rest w s) fits (ap (is_alone me) P.quorum)) (done (
            record { tells = refl; fits = (tt, (fits, tt)); short = ((let z = X.short in omega arith), (tt, tt)); unmarked = ap (λ (o : Own). o.marked) own ∙ P.unmarked },
            inl (record {
              value_is = v;
              made = is;
              kept = ap (λ (z : ℕ). (play (Learn (suc z) v) w).record_of (suc l)) P.last;
              last = (let z = P.last in omega arith);
              says = inl (ap (λ (z : ℕ). send.Reply session (reply.Done (suc z))) (sym P.last));
            }),
          ))
