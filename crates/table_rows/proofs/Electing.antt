-- The rows of starts, probes and elections, those by which a leader asks what its quorum accepted, and their acts.
use Rattle.law_names.proofs.Table.{Boot, Course, Entry, Epoch, Me, Op, Phase, Readings, Scores, State, Told, adopt, allows, arm, arm_if, at_rest, bootstrap, cancel, change, change_if, collect, collect_with, count_ack, count_of, disarm, elect, election_ends, elector_is, epoch_of, first_elector, forget_clients, full_sync, has, hear_ack, hear_collect, hear_last, hear_probe, hear_probe_reply, hear_propose, hear_victory, in_odd_epoch, in_phase, is_allowed, is_alone, is_armed, is_even, is_majority, lag, last_answer, members, merge, next_even, next_number, of_member, only, or_zero, others, own_table, prober_is, promise, promise_of, quorum_of, react, recent_sync, reign, same_phase, scores_count, send, send_each, settle, start, table_or, votes, weigh, win, ◌▸◌}
use Rattle.mon_msg.specs.Protocol.Elections.{follow}
use Rattle.mon_msg.specs.Protocol.Entering.{win_alone}
use Rattle.mon_msg.specs.Protocol.Hearing.{fits_rule}
use Rattle.mon_msg.specs.Protocol.Leader.{hear_answer}
use Rattle.mon_msg.specs.Protocol.Probing.{join_outside}
use Rattle.mon_msg.specs.declared.input.Input.TheVariants as input
use Rattle.mon_wire.specs.declared.body.Body.TheVariants as body
use Rattle.mon_wire.specs.declared.phase.Phase.TheVariants as phase
use Rattle.mon_wire.specs.declared.phase.Timer.TheVariants as timer
use Rattle.std.proofs.Common.{Bool, List, None, Ok, Option, [], ap, arith, eq-eqb, false, if◌then◌else◌, is_some, ltb, max, not, refl, suc, true, ℕ, ◌&&◌, ◌+◌, ◌<◌, ◌^◌, ◌∙◌, ◌∷◌, ◌≡◌, ◌≤◌}
use Rattle.std.proofs.lemmas.Bool.{le-leb, le-ltb, lt-leb, lt-ltb}
use Rattle.table_rows.proofs.Hearing.{IsLeader, IsMember, IsOther, heard, hears, in_phase_runs, is_of_leader, is_of_member, of_a_leader, of_a_member, rings, voter_runs}

-- ---- starts and probes

module _ (me : Me) (now : ℕ) where
  -- a start is counted, and an epoch that isn't there is put as 1
  abbrev pub counted : Readings → State → Course
  counted w s =
      at_rest w s
      ▸ change (Boot (suc w.boot))
      ▸ change_if (not (is_some w.epoch)) (Epoch 1)
      ▸ elector_is (first_elector me now (suc w.boot) s.elector)
      ▸ arm_if (scores_count me.rule) now timer.Ping

  abbrev pub alone : Course → Course
  alone x = x ▸ in_phase phase.Probing ▸ forget_clients ▸ prober_is (record { outside = only me.member.rank })

  abbrev pub probing : Course → Course
  probing x = x ▸ alone ▸ send_each me (others me) body.Probe ▸ arm now timer.Probe

  -- among several monitors one that bootstraps probes the others
  pub probes : (x : Course) → ltb 1 me.member.monitors ≡ true → bootstrap me now x ≡ Ok (probing x)
  unfolding bootstrap
  probes x several = rw several refl

  -- the only monitor of its map leads, if it may and isn't marked
  pub leads_alone : (x : Course) → ltb 1 me.member.monitors ≡ false → (allows me.rule me.member.rank && not x.readings.marked) ≡ true → bootstrap me now x ≡ win_alone me now (alone x)
  unfolding bootstrap
  leads_alone x one may_lead = rw (one, may_lead) refl

  abbrev pub standing : Course → Course
  standing y =
      y
      ▸ in_phase phase.Electing
      ▸ forget_clients
      ▸ elector_is (record y.state.elector { candidate = true; acked = only me.member.rank; deferred = None })
      ▸ send_each me (others me) (body.Propose (own_table me y))
      ▸ arm now timer.Election

  -- an election is called in an odd epoch: the own one
  pub elects_now : (x : Course) → is_even (epoch_of x.readings) ≡ false → elect me now x ≡ Ok (standing x)
  unfolding elect in_odd_epoch
  elects_now x odd = rw odd refl

  -- or the next one
  pub elects_next : (x : Course) → is_even (epoch_of x.readings) ≡ true → suc (epoch_of x.readings) ≤ 2 ^ 62 → elect me now x ≡ Ok (standing (change (Epoch (suc (epoch_of x.readings))) x))
  unfolding elect in_odd_epoch
  elects_next x even fits = rw (even, le-leb (suc (epoch_of x.readings)) (2 ^ 62) fits) refl

module _ (me : Me) (shared : List Entry) (now : ℕ) (w : Readings) (s : State) where
  -- A monitor that starts counts the start, and bootstraps.
  pub start_row : s.phase ≡ phase.Booting → suc w.boot ≤ 2 ^ 62 → react me shared now w s input.Start ≡ bootstrap me now (counted me now w s)
  unfolding react start
  start_row boots fits = rw (ap (λ (p : Phase). same_phase p phase.Booting) boots) (rw (le-leb (suc w.boot) (2 ^ 62) fits) refl)

  module _ {f : ℕ} (e : ℕ) where
    -- A PROBE: an unmarked monitor sends its quorum, its first and its last version.
    pub probe_row : IsOther me s f → w.marked ≡ false → hears me shared now w s f e body.Probe ≡ Ok (send me f (body.ProbeReply (quorum_of s) w.first w.last) (at_rest w s))
    unfolding hear_probe
    probe_row O unmarked = heard me shared now w e body.Probe O refl ∙ rw unmarked refl

    module _ (quorum : List Bool) (first last : ℕ) where
      -- A PROBE_REPLY is dropped by a monitor that doesn't probe.
      pub late_reply_row : IsOther me s f → same_phase s.phase phase.Probing ≡ false → hears me shared now w s f e (body.ProbeReply quorum first last) ≡ Ok (at_rest w s)
      unfolding hear_probe_reply
      late_reply_row O late = heard me shared now w e (body.ProbeReply quorum first last) O refl ∙ rw late refl

      module _ (other : f ≡ me.member.rank → ⊥) (probes : s.phase ≡ phase.Probing) where
        replied : hears me shared now w s f e (body.ProbeReply quorum first last) ≡ hear_probe_reply me now f quorum first last (at_rest w s)
        replied = heard me shared now w e (body.ProbeReply quorum first last) (in_phase_runs phase.Probing other probes refl) refl

        here : same_phase s.phase phase.Probing ≡ true
        here = ap (λ (p : Phase). same_phase p phase.Probing) probes

        -- A marked monitor copies the whole store of one that reaches its floor.
        pub copies_again_row : w.marked ≡ true → 1 ≤ last → w.floor ≤ last → hears me shared now w s f e (body.ProbeReply quorum first last) ≡ Ok (full_sync me now f (at_rest w s))
        unfolding hear_probe_reply
        copies_again_row marked some high = replied ∙ rw (here, marked, le-leb 1 last some, le-leb w.floor last high) refl

        module _ (unmarked : w.marked ≡ false) where
          -- An unmarked monitor copies the whole store of one that doesn't keep its next version any more,
          pub copies_row : w.last < first → 1 < first → hears me shared now w s f e (body.ProbeReply quorum first last) ≡ Ok (full_sync me now f (at_rest w s))
          unfolding hear_probe_reply
          copies_row above some = replied ∙ rw (here, unmarked, lt-ltb w.last first above, lt-ltb 1 first some) refl

          module _ (kept : (ltb w.last first && ltb 1 first) ≡ false) where
            -- the versions that it lacks, if these are more than 10,
            pub asks_recent_row : w.last + lag < last → hears me shared now w s f e (body.ProbeReply quorum first last) ≡ Ok (recent_sync me now f (at_rest w s))
            unfolding hear_probe_reply
            asks_recent_row late = replied ∙ rw (here, unmarked, kept, lt-ltb (w.last + lag) last late) refl

            -- and otherwise calls an election if the sender is in a quorum, or counts it among those that are in none.
            pub near_reply_row : ltb (w.last + lag) last ≡ false
                → hears me shared now w s f e (body.ProbeReply quorum first last) ≡ (if ltb 0 (count_of quorum) then elect me now (at_rest w s) else join_outside me now f (at_rest w s))
            unfolding hear_probe_reply
            near_reply_row near = replied ∙ rw (here, unmarked, kept, near) refl

-- ---- elections

module _ (me : Me) (shared : List Entry) (now : ℕ) (w : Readings) (s : State) {f : ℕ} where
  module _ (e : ℕ) (table : Option Scores) (other : f ≡ me.member.rank → ⊥) (fits : fits_rule me table ≡ true) (voting : votes s.phase ≡ true) (odd : is_even e ≡ false) where
    proposed : hears me shared now w s f e (body.Propose table) ≡ hear_propose me now f e table (at_rest w s)
    proposed = heard me shared now w e (body.Propose table) (voter_runs other voting) fits

    -- A PROPOSE of a later epoch: the monitor joins that election, and weighs the sender as a candidate of it.
    pub later_propose_row : epoch_of w < e → hears me shared now w s f e (body.Propose table) ≡ weigh me now (table_or table s.elector.scores) f (merge table (adopt now e (at_rest w s)))
    unfolding hear_propose
    later_propose_row later = proposed ∙ rw (voting, odd, le-ltb e (epoch_of w) (omega arith), lt-ltb (epoch_of w) e later) refl

    -- A PROPOSE of its own epoch: it weighs the sender.
    pub propose_row : epoch_of w ≡ e → hears me shared now w s f e (body.Propose table) ≡ weigh me now (table_or table s.elector.scores) f (merge table (at_rest w s))
    unfolding hear_propose
    propose_row same = proposed ∙ rw (voting, odd, le-ltb e (epoch_of w) (omega arith), le-ltb (epoch_of w) e (omega arith)) refl

  -- An ACK of its own epoch: a candidate counts it, and leads once all of the map deferred to it.
  pub ack_row : (e : ℕ) → (f ≡ me.member.rank → ⊥) → votes s.phase ≡ true → is_even e ≡ false → epoch_of w ≡ e → s.elector.candidate ≡ true → hears me shared now w s f e body.Ack ≡ count_ack me now f (at_rest w s)
  unfolding hear_ack
  ack_row e other voting odd same stands =
      heard me shared now w e body.Ack (voter_runs other voting) refl ∙ rw (voting, odd, le-ltb e (epoch_of w) (omega arith), le-ltb (epoch_of w) e (omega arith), stands) refl

  -- A VICTORY of the next epoch, which is even: the monitor follows the sender if both are in its quorum.
  pub victory_row : (e : ℕ) (q : List Bool) → (f ≡ me.member.rank → ⊥) → votes s.phase ≡ true → is_even e ≡ true → e ≡ suc (epoch_of w) → (has q me.member.rank && has q f && is_majority me.member.monitors q) ≡ true
      → hears me shared now w s f e (body.Victory q) ≡ Ok (follow now f e q (at_rest w s))
  unfolding hear_victory
  victory_row e q other voting even next counts =
      heard me shared now w e (body.Victory q) (voter_runs other voting) refl ∙ rw (voting, even, lt-leb e (epoch_of w) (let z = next in omega arith), eq-eqb e (suc (epoch_of w)) next, counts) refl

-- The time of an election is over: a candidate leads if a majority deferred to it.
pub election_ends_row : (me : Me) (shared : List Entry) (now : ℕ) (w : Readings) (s : State) → s.phase ≡ phase.Electing → is_armed timer.Election s.timers ≡ true
    → (s.elector.candidate && is_allowed me me.member.rank && is_majority me.member.monitors s.elector.acked) ≡ true → react me shared now w s (input.Timer timer.Election) ≡ win me now s.elector.acked (at_rest w s ▸ disarm timer.Election)
unfolding election_ends
election_ends_row me shared now w s electing on wins =
    rings me shared now w s timer.Election (ap (λ (p : Phase). same_phase p phase.Booting) electing) on
    ∙ rw (ap (λ (p : Phase). same_phase p phase.Electing) electing, wins) refl

-- ---- the acts of one that won

-- the number under which it asks
abbrev pub number_above : Me → Readings → ℕ → ℕ
number_above me w above = next_number (or_zero w.last_pn) (max (promise_of w) above) me.member.rank

-- it leads this quorum
abbrev pub reigning : Me → List Bool → Course → Course
reigning me q x = x ▸ in_phase phase.Collecting ▸ send_each me (members me q) (body.Victory q)

module _ (me : Me) (now : ℕ) (q : List Bool) where
  -- it leads in the next epoch, and asks its quorum what was accepted
  pub wins : (x : Course) → suc (epoch_of x.readings) ≤ 2 ^ 62 → win me now q x ≡ collect me now q 0 (reigning me q (change (Epoch (suc (epoch_of x.readings))) x))
  unfolding win reign
  wins x fits = rw (le-leb (suc (epoch_of x.readings)) (2 ^ 62) fits) refl

  pub collects : (above : ℕ) (x : Course) → number_above me x.readings above ≤ 2 ^ 62 → is_alone me q ≡ false → collect me now q above x ≡ Ok (collect_with me now q (number_above me x.readings above) x)
  unfolding collect
  collects above x fits several = rw (le-leb (number_above me x.readings above) (2 ^ 62) fits, several) refl

  -- who is alone in its quorum has all answers
  pub collects_alone : (above : ℕ) (x : Course) → number_above me x.readings above ≤ 2 ^ 62 → is_alone me q ≡ true → collect me now q above x ≡ settle me now (collect_with me now q (number_above me x.readings above) x)
  unfolding collect
  collects_alone above x fits alone = rw (le-leb (number_above me x.readings above) (2 ^ 62) fits, alone) refl

-- the only monitor of its map leads in the next even epoch
pub wins_alone : (me : Me) (now : ℕ) (x : Course) → next_even (epoch_of x.readings) ≤ 2 ^ 62
    → win_alone me now x ≡ collect me now (only me.member.rank) 0 (reigning me (only me.member.rank) (change (Epoch (next_even (epoch_of x.readings))) x))
unfolding reign
wins_alone me now x fits = rw (le-leb (next_even (epoch_of x.readings)) (2 ^ 62) fits) refl

-- ---- what was accepted

-- a peon gives up its lease, and promises the number if it is above the one before
abbrev pub promised : Readings → State → ℕ → Course
promised w s pn = at_rest w s ▸ cancel ▸ promise pn

module _ (me : Me) (shared : List Entry) (now : ℕ) {w : Readings} {s : State} {f e : ℕ} where
  -- A COLLECT of its leader: a peon whose next version the leader keeps gives up its lease, promises the number if it is
  -- above the one before, and sends what it has after the leader's last version.
  pub collect_row : IsLeader me w s f e → (pn first last : ℕ) → ltb (suc w.last) first ≡ false → suc last ≤ 2 ^ 62
      → hears me shared now w s f e (body.Collect pn first last) ≡ Ok (promised w s pn ▸ send me f (last_answer me.member.monitors (promised w s pn).readings (suc last)))
  unfolding hear_collect
  collect_row L pn first last kept fits =
      heard me shared now w e (body.Collect pn first last) (of_a_leader L) refl ∙ rw (is_of_leader L, kept, le-leb (suc last) (2 ^ 62) fits) refl

  module _ (M : IsMember me w s phase.Collecting f e) (pn first last : ℕ) (whole : Bool) (from : ℕ) (values : List (List Op)) (told : Option Told) where
    answered : hears me shared now w s f e (body.Last pn first last whole from values told) ≡ hear_last me now f e pn first last whole from values told (at_rest w s)
    answered = heard me shared now w e (body.Last pn first last whole from values told) (of_a_member refl M) refl

    counts : of_member (phase.Collecting ∷ []) f e (at_rest w s) ≡ true
    counts = is_of_member (phase.Collecting ∷ []) refl M

    -- A LAST of a greater number: the leader asks again, under a number above it.
    pub greater_last_row : s.leader.pn < pn → hears me shared now w s f e (body.Last pn first last whole from values told) ≡ collect me now s.leader.quorum pn (at_rest w s)
    unfolding hear_last
    greater_last_row above = answered ∙ rw (counts, lt-ltb s.leader.pn pn above) refl

    -- A LAST of its own number: the leader takes the answer, unless it lacks versions that the sender doesn't keep.
    pub last_row : pn ≡ s.leader.pn → (ltb (suc w.last) first && ltb w.last last) ≡ false → hears me shared now w s f e (body.Last pn first last whole from values told) ≡ hear_answer me now f last whole from values told (at_rest w s)
    unfolding hear_last
    last_row own near = answered ∙ rw (counts, le-ltb s.leader.pn pn (omega arith), le-ltb pn s.leader.pn (omega arith), near) refl
