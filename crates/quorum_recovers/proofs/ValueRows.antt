-- The rows by which a leader commits a value, and proposes one that a client asks.
use Rattle.law_names.proofs.Runs.{Monitors, request_of}
use Rattle.law_names.proofs.Table.{Command, CommandRefused, Course, Entry, Last, Learn, Me, Op, Origin, Phase, Readings, Session, State, Vote, answers_to, are_within, at_rest, be_active, begin_made, begin_with, change, commit, epoch_of, epoch_or_first, extend, has, has_queue, is_alone, is_empty, is_leading, is_peon, is_standing, is_too_long, lease_of, may_propose, members, message_to, most_value, only, or_zero, react, refusal, same_phase, service_last, service_of, stands, text, value, with_rank}
use Rattle.mon_msg.specs.Protocol.Value as mon_value
use Rattle.mon_msg.specs.declared.input.Input.TheVariants as input
use Rattle.mon_msg.specs.declared.paxos.LeaderStage.TheVariants as stage
use Rattle.mon_msg.specs.declared.plan.Origin.TheVariants as origin
use Rattle.mon_msg.specs.declared.plan.Sent.TheVariants as send
use Rattle.mon_wire.specs.declared.body.Body.TheVariants as body
use Rattle.mon_wire.specs.declared.phase.Phase.TheVariants as phase
use Rattle.mon_wire.specs.declared.reply.Reply.TheVariants as reply
use Rattle.quorum_elects.proofs.Moving.{Sound}
use Rattle.quorum_elects.proofs.Rows.{sound_more}
use Rattle.quorum_elects.proofs.Standing.{SaysTo, among_map, among_members, letter}
use Rattle.quorum_elects.proofs.Walking.{Surely, done, so, weaken}
use Rattle.quorum_model.proofs.Members.{member_of}
use Rattle.quorum_recovers.proofs.CollectRows.{same_own}
use Rattle.quorum_recovers.proofs.States.{IsActive, IsHearing, IsProposing, follows, lease_given, or_true, proposes_to, takes_command}
use Rattle.quorum_walk.proofs.FineCourses.{Val}
use Rattle.quorum_walk.proofs.Lists.{Among, among_left, among_right}
use Rattle.quorum_walk.proofs.Sparing.{Own}
use Rattle.std.proofs.Common.{Bool, Err, List, None, Ok, Option, Result, Some, [], ap, arith, eqb, false, if◌then◌else◌, inl, inr, length, ltb, map, not, refl, subst, suc, sym, true, ℕ, ◌&&◌, ◌-◌, ◌<◌, ◌^◌, ◌∙◌, ◌∷◌, ◌≡◌, ◌≤◌, ◌⊎◌}
use Rattle.std.proofs.lemmas.Bool.{lt-ltb}
use Rattle.table_rows.proofs.Serving as rows
use Rattle.table_rows.proofs.Serving.{accept_row, accepted, begin_row, commit_row, last_accept_row, learned}

module _ (ms : Monitors) (several : 1 < ms.count) (i : ℕ) (lt : ltb i ms.count ≡ true) (sh : List Entry) (now : ℕ) where
  abbrev n : ℕ
  n = ms.count

  abbrev me : Me
  me = member_of ms i lt

  abbrev Does : Readings → (Course → Type 0) → Course → Type 0
  Does w R y = Sound w y × R y

  -- a peon gets the version that it lacks
  pub learns : (w : Readings) (s : State) (r e : ℕ) (a : List Bool) (l p : ℕ) → IsHearing r e a l p w s → (r ≡ i → ⊥) → (x : List Op) → Val x → suc l ≤ 2 ^ 62
      → Surely (Does w (λ y. IsHearing r e a (suc l) p y.readings y.state)) (react me sh now w s (input.Deliver (letter n r e (body.Commit (suc l) (x ∷ [])))))
  learns w s r e a l p P ne x X room =
      let fits : suc w.last ≤ 2 ^ 62 = (let z = P.last in omega arith) in
      let own = same_own ms several i lt sh now w (suc w.last) x X.spares in
      let S1 = sound_more w (at_rest w s) (Learn (suc w.last) x) tt (let z = X.short in omega arith) (ap (λ (o : Own). o.marked) own ∙ P.unmarked) (record { tells = refl; fits = tt; short = tt; unmarked = P.unmarked }) in
      let S2 = sound_more w (change (Learn (suc w.last) x) (at_rest w s)) (Last (suc w.last)) fits tt S1.unmarked S1 in
      so (commit_row me sh now (follows P ne) (suc l) x (ap suc (sym P.last)) fits) (done (
        S2,
        record {
          unmarked = ap (λ (o : Own). o.marked) own ∙ P.unmarked;
          epoch = ap (λ (o : Own). epoch_or_first o.epoch) own ∙ P.epoch;
          last = (let z = P.last in omega arith);
          promised = ap (λ (o : Own). or_zero o.promise) own ∙ P.promised;
          phase = P.phase;
          leader = P.leader;
          quorum = P.quorum;
        },
      ))

  -- ---- a value is accepted

  pub record Accepts (r e : ℕ) (a : List Bool) (l pn : ℕ) (y : Course) : Type 0 where
    pub stands : IsHearing r e a l pn y.readings y.state
    pub says : Among (send.Message r (letter n i e (body.Accept pn (suc l)))) y.out

  pub accepts : (w : Readings) (s : State) (r e : ℕ) (a : List Bool) (l pn : ℕ) → IsHearing r e a l pn w s → (r ≡ i → ⊥) → pn ≤ 2 ^ 62 → suc l ≤ 2 ^ 62 → (x : List Op) → length (text x) ≤ most_value
      → Surely (Does w (Accepts r e a l pn)) (react me sh now w s (input.Deliver (letter n r e (body.Begin pn (suc l) x))))
  accepts w s r e a l pn P ne short room x brief =
      so (begin_row me sh now (follows P ne) pn (suc l) x (sym P.promised) (ap suc (sym P.last))) (done (
        record { tells = refl; fits = ((room, short), tt); short = (omega arith, tt); unmarked = P.unmarked },
        record {
          stands = record { unmarked = P.unmarked; epoch = P.epoch; last = P.last; promised = P.promised; phase = P.phase; leader = P.leader; quorum = P.quorum };
          says = inl (ap (λ (z : ℕ). send.Message r (letter n i z (body.Accept pn (suc l)))) (sym P.epoch));
        },
      ))

  -- ---- the leader hears who accepted

  pub record Commits (e : ℕ) (a : List Bool) (l pn : ℕ) (value : List Op) (o : Option Origin) (y : Course) : Type 0 where
    pub stands : IsActive i e a (suc l) pn y.readings y.state
    pub commits : SaysTo n i e a (body.Commit (suc l) (value ∷ [])) y.out
    pub answers : (session : Session) → o ≡ Some (origin.Session session) → Among (send.Reply session (reply.Done (suc l))) y.out

  committed : (w : Readings) (s : State) (ph : Phase) (e : ℕ) (a : List Bool) (l pn : ℕ) (A : List Bool) (value : List Op) (o : Option Origin) → IsProposing ph i e a l pn A value o w s → Val value → (f : ℕ)
      → Surely (Does w (Commits e a l pn value o)) (commit me now value (accepted w s f))
  unfolding be_active extend
  committed w s ph e a l pn A value o P X f =
      let fits : suc w.last ≤ 2 ^ 62 = (let z = P.last in let y = P.room in omega arith) in
      let c0 : Course = learned (suc w.last) value (accepted w s f) in
      let own = same_own ms several i lt sh now w (suc w.last) value X.spares in
      let S1 = sound_more w (accepted w s f) (Learn (suc w.last) value) tt (let z = X.short in omega arith) (ap (λ (o : Own). o.marked) own ∙ P.unmarked) (record { tells = refl; fits = tt; short = tt; unmarked = P.unmarked }) in
      let S2 = sound_more w (change (Learn (suc w.last) value) (accepted w s f)) (Last (suc w.last)) fits tt S1.unmarked S1 in
      let at : epoch_of c0.readings ≡ e = ap (λ (o : Own). epoch_or_first o.epoch) own ∙ P.epoch in
      so (rows.commits me now value (accepted w s f) fits) (done (
        record { tells = S2.tells; fits = S2.fits; short = S2.short; unmarked = S2.unmarked },
        record {
          stands = record {
            unmarked = ap (λ (o : Own). o.marked) own ∙ P.unmarked;
            epoch = at;
            last = (let z = P.last in omega arith);
            promised = ap (λ (o : Own). or_zero o.promise) own ∙ P.promised;
            short = P.short;
            phase = refl;
            quorum = P.quorum;
            number = P.number;
            lease = lease_given now;
            queue = P.queue;
          };
          commits = λ g few h ne. among_left (send.Message g (letter n i e (body.Commit (suc l) (value ∷ [])))) _ _ (among_left (send.Message g (letter n i e (body.Commit (suc l) (value ∷ [])))) _ _
              (subst (λ (q : List Bool). Among (send.Message g (letter n i e (body.Commit (suc l) (value ∷ [])))) (map (message_to me (epoch_of c0.readings) (body.Commit (suc w.last) (value ∷ []))) (members me q))) (sym P.quorum)
              (subst (λ (z : ℕ). Among (send.Message g (letter n i z (body.Commit (suc l) (value ∷ [])))) (map (message_to me (epoch_of c0.readings) (body.Commit (suc w.last) (value ∷ []))) (members me a))) at
              (subst (λ (z : ℕ). Among (send.Message g (letter n i (epoch_of c0.readings) (body.Commit (suc z) (value ∷ [])))) (map (message_to me (epoch_of c0.readings) (body.Commit (suc w.last) (value ∷ []))) (members me a))) P.last
              (among_map (message_to me (epoch_of c0.readings) (body.Commit (suc w.last) (value ∷ []))) g (members me a) (among_members me a g few h ne))))));
          answers = λ session is. among_right (send.Reply session (reply.Done (suc l))) _ _
              (subst (λ (z : Option Origin). Among (send.Reply session (reply.Done (suc l))) (answers_to me (epoch_of c0.readings) z (reply.Done (suc w.last)))) (sym (P.origin ∙ is)) (inl (ap (λ (z : ℕ). send.Reply session (reply.Done (suc z))) (sym P.last))));
        },
      ))

  pub counts_accept : (w : Readings) (s : State) (ph : Phase) (e : ℕ) (a : List Bool) (l pn : ℕ) (A : List Bool) (value : List Op) (o : Option Origin) → IsProposing ph i e a l pn A value o w s → (ph ≡ phase.Previous) ⊎ (ph ≡ phase.Updating) → Val value
      → (f : ℕ) → has a f ≡ true → (f ≡ i → ⊥)
      → Surely (Does w (λ y. IsProposing ph i e a l pn (with_rank A f) value o y.readings y.state × (are_within n a (with_rank A f) ≡ false) ⊎ Commits e a l pn value o y)) (react me sh now w s (input.Deliver (letter n f e (body.Accept pn (suc l)))))
  counts_accept w s ph e a l pn A value o P which_phase X f h ne = by (are_within n s.leader.quorum (with_rank s.leader.accepted f)) refl
    where
      Goal : Course → Type 0
      Goal y = Does w (λ y. IsProposing ph i e a l pn (with_rank A f) value o y.readings y.state × (are_within n a (with_rank A f) ≡ false) ⊎ Commits e a l pn value o y) y

      by : (b : Bool) → are_within n s.leader.quorum (with_rank s.leader.accepted f) ≡ b → Surely Goal (react me sh now w s (input.Deliver (letter n f e (body.Accept pn (suc l)))))
      by true t = so (last_accept_row me sh now which_phase (proposes_to P ne h) pn (suc l) (sym P.number) (ap suc (sym P.last)) t value P.proposes)
          (weaken (Does w (Commits e a l pn value o)) Goal (commit me now value (accepted w s f)) (λ y k. (k.0, inr k.1)) (committed w s ph e a l pn A value o P X f))
      by false t = so (accept_row me sh now which_phase (proposes_to P ne h) pn (suc l) (sym P.number) (ap suc (sym P.last)) t) (done (
        record { tells = refl; fits = tt; short = tt; unmarked = P.unmarked },
        inl (
          record {
            unmarked = P.unmarked;
            epoch = P.epoch;
            last = P.last;
            promised = P.promised;
            short = P.short;
            room = P.room;
            phase = P.phase;
            quorum = P.quorum;
            number = P.number;
            accepted = ap (λ (b : List Bool). with_rank b f) P.accepted;
            proposes = P.proposes;
            origin = P.origin;
            queue = P.queue;
          },
          (λ j. are_within n (sym P.quorum j) (with_rank (sym P.accepted j) f)) ∙ t,
        ),
      ))

  -- ---- a client asks

  pub record Proposes (w : Readings) (c : Command) (e : ℕ) (a : List Bool) (l pn : ℕ) (session : Session) (y : Course) : Type 0 where
    pub value : List Op
    pub made : mon_value.value w c i ≡ Ok value
    pub stands : IsProposing phase.Updating i e a l pn (only i) value (Some (origin.Session session)) y.readings y.state
    pub says : SaysTo n i e a (body.Begin pn (suc l) value) y.out

  pub record Refuses (w : Readings) (c : Command) (session : Session) (y : Course) : Type 0 where
    pub why : CommandRefused
    pub is : value w c i ≡ Err why
    pub reads : y.readings ≡ w
    pub phase : y.state.phase ≡ phase.Active
    pub says : Among (send.Reply session (refusal why)) y.out

  pub proposes : (w : Readings) (s : State) (e : ℕ) (a : List Bool) (l pn : ℕ) → IsActive i e a l pn w s → is_alone me a ≡ false → ((end : ℕ) → s.leader.lease ≡ Some end → now ≤ end - 1) → suc l ≤ 2 ^ 62 → (session : Session) (c : Command) → is_too_long c ≡ false → suc (service_last w (service_of c)) ≤ 2 ^ 62 → ((x : List Op) → mon_value.value w c i ≡ Ok x → Val x)
      → Surely (Does w (λ y. Proposes w c e a l pn session y ⊎ Refuses w c session y)) (react me sh now w s (input.Client session (request_of c)))
  unfolding begin_with
  proposes w s e a l pn P others soon room session c short service vals =
      so (takes_command me sh now w s session c P.phase ∙ rows.proposes me now c (origin.Session session) (at_rest w s) short free service refl) (made (mon_value.value w c i) refl)
    where
      Goal : Course → Type 0
      Goal y = Does w (λ y. Proposes w c e a l pn session y ⊎ Refuses w c session y) y

      lease_is : lease_of s ≡ Some P.lease.0
      lease_is = (λ j. if is_peon (P.phase j) then s.peon.lease else (if is_leading (P.phase j) then s.leader.lease else None)) ∙ P.lease.1

      standing : is_standing me now s ≡ true
      standing = or_true (eqb n 1) (stands (lease_of s) now) (ap (λ (o : Option ℕ). stands o now) lease_is ∙ lt-ltb now P.lease.0 (let z = soon P.lease.0 P.lease.1 in let y = P.lease.2 in omega arith))

      free : (may_propose me now (at_rest w s) && not (has_queue (at_rest w s))) ≡ true
      free = λ j. (same_phase (P.phase j) phase.Active && standing j) && not (not (is_empty (P.queue j)))

      made : (r : Result (List Op) CommandRefused) → mon_value.value w c i ≡ r → Surely Goal (begin_made me now (origin.Session session) r (at_rest w s))
      made (Err why) is = done (record { tells = refl; fits = tt; short = tt; unmarked = P.unmarked }, inr (record { why = why; is = is; reads = refl; phase = P.phase; says = inl refl }))
      made (Ok v) is =
          let fits : suc w.last ≤ 2 ^ 62 = (let z = P.last in omega arith) in
          let X = vals v is in
          let Z = sound_more w (at_rest w s) (Vote (suc w.last) s.leader.pn v) (fits, (let z = P.number in let q = P.short in omega arith)) (let z = X.short in omega arith) P.unmarked (record { tells = refl; fits = tt; short = tt; unmarked = P.unmarked }) in
          so (rows.begins me now stage.Updating v (Some (origin.Session session)) (at_rest w s) fits (ap (is_alone me) P.quorum ∙ others)) (done (
            record { tells = Z.tells; fits = Z.fits; short = Z.short; unmarked = Z.unmarked },
            inl (record {
              value = v;
              made = is;
              stands = record {
                unmarked = P.unmarked;
                epoch = P.epoch;
                last = P.last;
                promised = P.promised;
                short = P.short;
                room = (let z = P.last in omega arith);
                phase = refl;
                quorum = P.quorum;
                number = P.number;
                accepted = refl;
                proposes = refl;
                origin = refl;
                queue = P.queue;
              };
              says = λ g few h ne. subst (λ (b : List Bool). Among (send.Message g (letter n i e (body.Begin pn (suc l) v))) (map (message_to me (epoch_of w) (body.Begin s.leader.pn (suc w.last) v)) (members me b))) (sym P.quorum)
                  (subst (λ (z : ℕ). Among (send.Message g (letter n i z (body.Begin pn (suc l) v))) (map (message_to me (epoch_of w) (body.Begin s.leader.pn (suc w.last) v)) (members me a))) P.epoch
                  (subst (λ (z : ℕ). Among (send.Message g (letter n i (epoch_of w) (body.Begin z (suc l) v))) (map (message_to me (epoch_of w) (body.Begin s.leader.pn (suc w.last) v)) (members me a))) P.number
                  (subst (λ (z : ℕ). Among (send.Message g (letter n i (epoch_of w) (body.Begin s.leader.pn (suc z) v))) (map (message_to me (epoch_of w) (body.Begin s.leader.pn (suc w.last) v)) (members me a))) P.last
                  (among_map (message_to me (epoch_of w) (body.Begin s.leader.pn (suc w.last) v)) g (members me a) (among_members me a g few h ne)))));
            }),
          ))
