-- The rows of probing, of elections, of pings and of the start.
use Rattle.std.proofs.Common.{ℕ, suc, ◌+◌, ◌-◌, ◌/◌, ◌<◌, ◌≤◌, ◌^◌, Bool, true, false, not, ◌&&◌, ◌||◌, cond, eqb, ltb, leb, List, [], ◌∷◌, Option, Some, None, inl, arith}
use Rattle.std.proofs.lemmas.Bool.{cond_both}
use Rattle.std.specs.List.{AllByRecursion}
use Rattle.std.specs.Prelude.{is_some}
use Rattle.election_rules.proofs.FormLaws.{lowered_le, merged_is, raised_le, scored_is, start_scores_is}
use Rattle.election_rules.specs.Form.{IsTable}
use Rattle.election_rules.specs.Table.{lowered, raised, start_scores}
use Rattle.election_rules.specs.declared.scores.Scores.{Scores}
use Rattle.mon_msg.specs.Protocol.Changes.{Boot, Change, Epoch}
use Rattle.mon_msg.specs.Protocol.Course.{Course, change, elector_is, prober_is, ◌▸◌}
use Rattle.mon_msg.specs.Protocol.Elections.{count_ack, defer_to, election_ends, follow, hear_ack, hear_propose, hear_victory, is_allowed, is_whole, may_defer, merge, stands_before, table_or, weigh}
use Rattle.mon_msg.specs.Protocol.Entering.{adopt, is_even, own_table, scores_count}
use Rattle.mon_msg.specs.Protocol.Phases.{is_leading, is_peon, same_phase, votes}
use Rattle.mon_msg.specs.Protocol.Pings.{hear_ping, hear_ping_reply, measure, note_table, ping, scores_after}
use Rattle.mon_msg.specs.Protocol.Probing.{copy_again, hear_probe, hear_probe_reply, join_outside, lag}
use Rattle.mon_msg.specs.Protocol.Readings.{epoch_of}
use Rattle.mon_msg.specs.Protocol.Sending.{others}
use Rattle.mon_msg.specs.Protocol.State.{quorum_of}
use Rattle.mon_msg.specs.Protocol.Table.{first_elector, start}
use Rattle.mon_msg.specs.declared.election.Elector.{Elector}
use Rattle.mon_msg.specs.declared.view.Me.{Me}
use Rattle.mon_types.specs.Ranks.{count_of, has, no_ranks, with_rank, is_majority}
use Rattle.mon_types.specs.declared.names.Which.TheVariants as which
use Rattle.mon_wire.specs.Message.Bodies.{scored as told_table}
use Rattle.mon_wire.specs.declared.body.Body.TheVariants as body
use Rattle.mon_wire.specs.declared.phase.Phase.TheVariants as phase
use Rattle.mon_bounds.proofs.Acts.{adopt_ok, bootstrap_ok, calls_epoch, elect_ok, full_sync_ok, in_peon, own_is, recent_sync_ok, win_ok}
use Rattle.mon_bounds.proofs.Courses.{KeepsIn, Over, Tells, Under, electing, over, raise, tells, tells_each, writes}
use Rattle.mon_bounds.proofs.Messages as said
use Rattle.mon_bounds.proofs.RankSets.{others_below, set_none, set_with}
use Rattle.mon_bounds.proofs.Sizes.{boot_size, epoch_size, size}
use Rattle.mon_bounds.proofs.Tables.{table_kept}
use Rattle.quorum_walk.proofs.Walk.{Then, by_test, done, where_fits}
use Rattle.mon_bounds.specs.Remembered.{IsElector, IsSet}

module _ (me : Me) (now : ℕ) where
  abbrev n : ℕ
  n = me.member.monitors

  -- ---- probing

  quorum_set : (x : Course) → KeepsIn me x → IsSet n (quorum_of x.state)
  quorum_set x K =
      let O = K.others in
      cond_both (is_peon x.state.phase) x.state.peon.quorum (cond (is_leading x.state.phase) x.state.leader.quorum no_ranks) (IsSet n) (λ _. O.peon.quorum)
      (λ _. cond_both (is_leading x.state.phase) x.state.leader.quorum no_ranks (IsSet n) (λ _. K.leader.quorum) (λ _. set_none n))

  pub hear_probe_ok : (f : ℕ) (x : Course) → f < n → Under me 0 x → Then (Over me) (hear_probe me f x)
  unfolding hear_probe
  hear_probe_ok f x lt A =
      let w = x.readings in
      by_test w.marked (λ _. over me 0 x (omega arith) A)
      (λ _. over me 0 _ (omega arith) (tells me (body.ProbeReply (quorum_of x.state) w.first w.last) f 0 _ _ _ (said.probe_reply me (quorum_of x.state) w.first w.last (quorum_set x A.1) A.0.numbers.first A.0.numbers.last) lt A.0, A.1))

  join_ok : (f : ℕ) (x : Course) → Under me 0 x → Then (Over me) (join_outside me now f x)
  join_ok f x A =
      let outside = with_rank x.state.prober.outside f in
      let y : Course = x ▸ prober_is (record { outside = outside }) in
      by_test (is_majority n outside) (λ _. elect_ok me now 0 y (omega arith) A) (λ _. over me 0 y (omega arith) A)

  copy_again_ok : (f last : ℕ) (x : Course) → f < n → 1 < n → Under me 0 x → Then (Over me) (copy_again me now f last x)
  copy_again_ok f last x lt many A = by_test (leb 1 last && leb x.readings.floor last) (λ _. done (full_sync_ok me now f 0 x lt many (omega arith) A)) (λ _. over me 0 x (omega arith) A)

  pub hear_probe_reply_ok : (f : ℕ) (q : List Bool) (first last : ℕ) (x : Course) → f < n → 1 < n → Under me 0 x → Then (Over me) (hear_probe_reply me now f q first last x)
  unfolding hear_probe_reply
  hear_probe_reply_ok f q first last x lt many A =
      let w = x.readings in
      by_test (not (same_phase x.state.phase phase.Probing)) (λ _. over me 0 x (omega arith) A) (λ _.
      by_test w.marked (λ _. copy_again_ok f last x lt many A) (λ _.
      by_test (ltb w.last first && ltb 1 first) (λ _. done (full_sync_ok me now f 0 x lt many (omega arith) A)) (λ _.
      by_test (ltb (w.last + lag) last) (λ _. done (recent_sync_ok me now f 0 x lt many (omega arith) A)) (λ _.
      by_test (ltb 0 (count_of q)) (λ _. elect_ok me now 0 x (omega arith) A) (λ _. join_ok f x A)))))

  -- ---- tables that are sent

  kept : (f : ℕ) (t : Scores) → f < n → (told_table n f).Form (Some t) → IsTable n f t
  kept f t lt form = table_kept n f t lt me.member.most form

  merged_ok : (f b : ℕ) (t : Option Scores) (x : Course) → f < n → (told_table n f).Form t → Under me b x → Under me b (merge t x)
  merged_ok f b None x lt form A = let E = A.1.others.elector in (A.0, electing me _ A.1 (record { acked = E.acked; scores = E.scores }))
  merged_ok f b (Some t) x lt form A =
      let E = A.1.others.elector in (A.0, electing me _ A.1 (record { acked = E.acked; scores = merged_is n me.member.rank f x.state.elector.scores t E.scores (kept f t lt form) }))

  -- ---- elections

  defer_ok : (f b : ℕ) (x : Course) → f < n → b ≤ 4194299 → Under me b x → Over me (defer_to me f x)
  defer_ok f b x lt h A =
      let E = A.1.others.elector in
      (raise me b 4194299 _ _ _ h (tells me body.Ack f b _ _ _ (said.ack me) lt A.0), electing me _ A.1 (record { acked = set_none n; scores = E.scores }))

  weigh_ok : (told : Scores) (f b : ℕ) (x : Course) → f < n → b + 100 ≤ 4194299 → Under me b x → Then (Over me) (weigh me now told f x)
  weigh_ok told f b x lt h A =
      let elector = x.state.elector in
      by_test (is_allowed me f && stands_before me told f me.member.rank)
      (λ _. by_test (may_defer me told f elector.deferred) (λ _. done (defer_ok f b x lt (omega arith) A)) (λ _. over me b x (omega arith) A))
      (λ _. by_test (not (is_some elector.deferred) && not elector.candidate) (λ _. elect_ok me now b x h A) (λ _. over me b x (omega arith) A))

  pub hear_propose_ok : (f e : ℕ) (t : Option Scores) (x : Course) → f < n → e ≤ 2 ^ 62 → (told_table n f).Form t → Under me 0 x → Then (Over me) (hear_propose me now f e t x)
  unfolding hear_propose
  hear_propose_ok f e t x lt short form A =
      let told = table_or t x.state.elector.scores in
      by_test (not (votes x.state.phase) || is_even e) (λ _. over me 0 x (omega arith) A) (λ _.
      by_test (ltb e (epoch_of x.readings))
      (λ _. by_test (is_even (epoch_of x.readings) && not (has (quorum_of x.state) f)) (λ _. elect_ok me now 0 x (omega arith) A) (λ _. over me 0 x (omega arith) A)) (λ _.
      by_test (ltb (epoch_of x.readings) e)
      (λ _. weigh_ok told f (0 + 100) (merge t (adopt now e x)) lt (omega arith) (merged_ok f (0 + 100) t (adopt now e x) lt form (adopt_ok me now e 0 x short A)))
      (λ _. weigh_ok told f 0 (merge t x) lt (omega arith) (merged_ok f 0 t x lt form A))))

  count_ack_ok : (f : ℕ) (x : Course) → f < n → Under me 0 x → Then (Over me) (count_ack me now f x)
  count_ack_ok f x lt A =
      let E = A.1.others.elector in
      let acked = with_rank x.state.elector.acked f in
      let s = set_with n f x.state.elector.acked E.acked lt in
      let y : Course = x ▸ elector_is (record x.state.elector { acked = acked }) in
      let B : Under me 0 y = (A.0, electing me _ A.1 (record { acked = s; scores = E.scores })) in
      by_test (is_whole me acked && is_allowed me me.member.rank) (λ _. win_ok me now acked 0 y s (omega arith) B) (λ _. over me 0 y (omega arith) B)

  pub hear_ack_ok : (f e : ℕ) (x : Course) → f < n → e ≤ 2 ^ 62 → Under me 0 x → Then (Over me) (hear_ack me now f e x)
  unfolding hear_ack
  hear_ack_ok f e x lt short A =
      by_test (not (votes x.state.phase) || is_even e || ltb e (epoch_of x.readings)) (λ _. over me 0 x (omega arith) A) (λ _.
      by_test (ltb (epoch_of x.readings) e) (λ _. elect_ok me now (0 + 100) (adopt now e x) (omega arith) (adopt_ok me now e 0 x short A)) (λ _.
      by_test x.state.elector.candidate (λ _. count_ack_ok f x lt A) (λ _. over me 0 x (omega arith) A)))

  pub election_ends_ok : (x : Course) → Under me 0 x → Then (Over me) (election_ends me now x)
  unfolding election_ends
  election_ends_ok x A =
      let elector = x.state.elector in
      by_test (not (same_phase x.state.phase phase.Electing)) (λ _. over me 0 x (omega arith) A) (λ _.
      by_test (elector.candidate && is_allowed me me.member.rank && is_majority n elector.acked) (λ _. win_ok me now elector.acked 0 x A.1.others.elector.acked (omega arith) A) (λ _. elect_ok me now 0 x (omega arith) A))

  follow_ok : (f e : ℕ) (q : List Bool) (x : Course) → f < n → e ≤ 2 ^ 62 → IsSet n q → Under me 0 x → Over me (follow now f e q x)
  follow_ok f e q x lt short s A =
      let K = A.1 in
      let O = K.others in (
        raise me (0 + 100) 4194299 _ _ _ (omega arith) (calls_epoch me now e 0 x short A.0),
        record { placed = in_peon n x.state.leader; leader = K.leader; others = record { elector = O.elector; peon = record { leader = lt; quorum = s }; clients = O.clients; requester = O.requester } },
      )

  pub hear_victory_ok : (f e : ℕ) (q : List Bool) (x : Course) → f < n → e ≤ 2 ^ 62 → IsSet n q → Under me 0 x → Then (Over me) (hear_victory me now f e q x)
  unfolding hear_victory
  hear_victory_ok f e q x lt short s A =
      by_test (not (votes x.state.phase) || not (is_even e) || leb e (epoch_of x.readings)) (λ _. over me 0 x (omega arith) A) (λ _.
      by_test (not (eqb e (suc (epoch_of x.readings)))) (λ _. elect_ok me now (0 + 100) (change (Epoch e) x) (omega arith) (calls_epoch me now e 0 x short A.0, A.1)) (λ _.
      by_test (has q me.member.rank && has q f && is_majority n q) (λ _. done (follow_ok f e q x lt short s A)) (λ _. over me 0 x (omega arith) A)))

  -- ---- pings

  noted_ok : (f : ℕ) (t : Scores) (x : Course) → f < n → (told_table n f).Form (Some t) → Under me 0 x → Under me 0 (note_table f t x)
  noted_ok f t x lt form A =
      let E = A.1.others.elector in (A.0, electing me _ A.1 (record { acked = E.acked; scores = merged_is n me.member.rank f x.state.elector.scores t E.scores (kept f t lt form) }))

  pub hear_ping_ok : (f : ℕ) (t : Option Scores) (x : Course) → f < n → (told_table n f).Form t → Under me 0 x → Then (Over me) (hear_ping me f t x)
  unfolding hear_ping
  hear_ping_ok f None x lt form A = over me 0 x (omega arith) A
  hear_ping_ok f (Some t) x lt form A =
      let y = note_table f t x in
      let B = noted_ok f t x lt form A in
      over me 0 _ (omega arith) (tells me (body.PingReply (own_table me y)) f 0 _ _ _ (said.ping_reply me (own_table me y) (own_is me now y B.1.others.elector)) lt B.0, B.1)

  pub hear_ping_reply_ok : (f : ℕ) (t : Option Scores) (x : Course) → f < n → (told_table n f).Form t → Under me 0 x → Then (Over me) (hear_ping_reply f t x)
  unfolding hear_ping_reply
  hear_ping_reply_ok f None x lt form A = over me 0 x (omega arith) A
  hear_ping_reply_ok f (Some t) x lt form A = over me 0 (note_table f t x) (omega arith) (noted_ok f t x lt form A)

  after_is : (seconds : ℕ) (heard : List Bool) (ks : List ℕ) (t : Scores) → AllByRecursion (λ (k : ℕ). k < n) ks → IsTable n me.member.rank t → IsTable n me.member.rank (scores_after seconds heard ks t)
  after_is seconds heard [] t h T = T
  after_is seconds heard (k ∷ ks) t h T = after_is seconds heard ks _ h.1
      (scored_is n me.member.rank (cond (has heard k) (raised seconds) (lowered seconds)) k t T h.0 (λ s l. by (has heard k) s l))
    where
      by : (b : Bool) (s : ℕ) → s ≤ 1000000 → cond b (raised seconds) (lowered seconds) s ≤ 1000000
      by true s l = raised_le seconds s l
      by false s l = lowered_le seconds s l

  pub ping_ok : (x : Course) → Under me 0 x → Then (Over me) (ping me now x)
  unfolding ping
  ping_ok x A =
      let elector = x.state.elector in
      let E = A.1.others.elector in
      let y : Course = x ▸ elector_is (measure me now elector) in
      let B : Under me 0 y = (A.0, electing me _ A.1 (record { acked = E.acked; scores = after_is ((now - elector.pinged) / 1000) elector.heard (others me) elector.scores (others_below me) E.scores })) in
      over me 0 _ (omega arith) (tells_each me (body.Ping (own_table me y)) (others me) 0 _ _ _ (said.ping me (own_table me y) (own_is me now y B.1.others.elector)) (others_below me) B.0, B.1)

  -- ---- the start

  first_is : (boot : ℕ) (elector : Elector) → boot ≤ 2 ^ 62 → IsElector n me.member.rank elector → IsElector n me.member.rank (first_elector me now boot elector)
  first_is boot elector short E = cond_both (scores_count me.rule) (record elector { scores = start_scores me.member.rank boot; heard = no_ranks; pinged = now }) elector (IsElector n me.member.rank)
      (λ _. record { acked = E.acked; scores = start_scores_is n me.member.rank boot me.member.in_map me.member.most short }) (λ _. E)

  pub start_ok : (x : Course) → Under me 0 x → Then (Over me) (start me now x)
  unfolding start
  start_ok x A =
      let boot = suc x.readings.boot in
      let t = not (is_some x.readings.epoch) in
      let cs : List Change = cond t (Epoch 1 ∷ []) [] in
      let few : size cs ≤ 100 = cond_both t (Epoch 1 ∷ []) [] (λ c. size c ≤ 100) (λ _. epoch_size 1) (λ _. omega arith) in
      let tell : AllByRecursion Tells cs = cond_both t (Epoch 1 ∷ []) [] (AllByRecursion Tells) (λ _. (omega arith, tt)) (λ _. tt) in
      where_fits (Over me) which.Boot boot _ (λ short.
      let B = writes me (Boot boot ∷ []) 100 0 _ _ _ (boot_size boot) (short, tt) A.0 in
      let C = writes me cs 100 (0 + 100) _ _ _ few tell B in
      bootstrap_ok me now (0 + 100 + 100) _ (inl (omega arith)) (C, electing me _ A.1 (first_is boot x.state.elector short A.1.others.elector)))
