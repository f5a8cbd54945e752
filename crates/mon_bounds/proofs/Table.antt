-- The whole table: whatever comes that may come, what is written and sent is never too long.
use Rattle.std.proofs.Common.{◌≡◌, ◌≢◌, ℕ, ◌<◌, ◌≤◌, ◌^◌, true, false, not, ◌&&◌, eqb, List, IfOk, Result, Ok, Err, refl, subst, inl, arith}
use Rattle.std.proofs.lemmas.Bool.{and_parts, eqb-false, eqb-true, lt-ltb, not-true}
use Rattle.std.specs.Prelude.{is_some}
use Rattle.election_rules.proofs.FormLaws.{start_scores_is}
use Rattle.mon_bytes.specs.declared.entry.Entry.{Entry}
use Rattle.mon_msg.specs.Protocol.Changes.{encoded as change_ops}
use Rattle.mon_msg.specs.Protocol.Course.{Course, disarm}
use Rattle.mon_msg.specs.Protocol.Entering.{bootstrap}
use Rattle.mon_msg.specs.Protocol.Hearing.{has_fitting_table, hear, is_heard}
use Rattle.mon_msg.specs.Protocol.Length.{fits}
use Rattle.mon_msg.specs.Protocol.Phases.{same_phase}
use Rattle.mon_msg.specs.Protocol.Reaction.{any_reaction, reaction}
use Rattle.mon_msg.specs.Protocol.Readings.{Readings, readings_of, shared_entries}
use Rattle.mon_msg.specs.Protocol.Records.{may_begin}
use Rattle.mon_msg.specs.Protocol.State.{State, booting}
use Rattle.mon_msg.specs.Protocol.Table.{at_rest, before_start, react, running, timer_comes}
use Rattle.mon_msg.specs.Protocol.Timers.{end_of}
use Rattle.mon_msg.specs.declared.input.Input.TheVariants as input
use Rattle.mon_msg.specs.declared.input.Input.{Input}
use Rattle.mon_msg.specs.declared.view.Me.{Me}
use Rattle.mon_tx.specs.Map.{Store}
use Rattle.mon_tx.specs.declared.op.Op.{Op}
use Rattle.mon_types.specs.declared.names.Which.{Which}
use Rattle.mon_wire.specs.Message.Bodies.{encoded}
use Rattle.mon_wire.specs.declared.body.Body.TheVariants as body
use Rattle.mon_wire.specs.declared.body.Body.{Body}
use Rattle.mon_wire.specs.declared.message.Message.{Message}
use Rattle.mon_wire.specs.declared.phase.Phase.TheVariants as phase
use Rattle.mon_wire.specs.declared.phase.Timer.TheVariants as timer
use Rattle.mon_wire.specs.declared.phase.Timer.{Timer}
use Rattle.mon_wire.specs.declared.reply.Reply.TheVariants as reply
use Rattle.mon_bounds.proofs.Acts.{bootstrap_ok}
use Rattle.mon_bounds.proofs.Clients.{hear_client_ok, hear_forward_ok, hear_route_ok, propose_due_ok, replies_ok, unavailable}
use Rattle.mon_bounds.proofs.Copies.{hear_chunk_ok, hear_cookie_ok, hear_get_chunk_ok, hear_get_cookie_full_ok, hear_get_cookie_recent_ok, hear_last_chunk_ok, hear_no_cookie_ok, replay_step_ok}
use Rattle.mon_bounds.proofs.Courses.{Over, Under, over, readings_numbers}
use Rattle.mon_bounds.proofs.Elections.{election_ends_ok, hear_ack_ok, hear_ping_ok, hear_ping_reply_ok, hear_probe_ok, hear_probe_reply_ok, hear_propose_ok, hear_victory_ok, ping_ok, start_ok}
use Rattle.mon_bounds.proofs.Joins.{joined_text}
use Rattle.mon_bounds.proofs.Messages.{within}
use Rattle.mon_bounds.proofs.Paxos.{hear_accept_ok, hear_begin_ok, hear_collect_ok, hear_commit_ok, hear_last_ok, hear_lease_ack_ok, hear_lease_ok, renew_ok}
use Rattle.mon_bounds.proofs.RankSets.{set_none}
use Rattle.mon_bounds.proofs.Sizes.{size_encoded}
use Rattle.quorum_walk.proofs.Walk.{Then, by_test}
use Rattle.mon_bounds.specs.Fitting.{IsBounded, IsValidInput}
use Rattle.mon_bounds.specs.Remembered.{MayPropose, MayRemember}

module _ (me : Me) (now : ℕ) (shared : List Entry) where
  abbrev n : ℕ
  n = me.member.monitors

  -- two ranks are distinguished
  many : (f : ℕ) → f < n → eqb f me.member.rank ≡ false → 1 < n
  many f lt ne = let apart : f ≢ me.member.rank = eqb-false f me.member.rank ne in let own = me.member.in_map in omega arith

  -- what another monitor says that may come
  hear_ok : (f e : ℕ) (b : Body) (x : Course) → f < n → eqb f me.member.rank ≡ false → e ≤ 2 ^ 62 → (encoded n f b).Form → fits n b ≡ true → Under me 0 x → Then (Over me) (hear me shared now f e b x)
  hear_ok f e body.Probe x lt ne s k ok A = hear_probe_ok me now f x lt A
  hear_ok f e (body.ProbeReply q first last) x lt ne s k ok A = hear_probe_reply_ok me now f q first last x lt (many f lt ne) A
  hear_ok f e (body.Propose table) x lt ne s k ok A = hear_propose_ok me now f e table x lt s k A
  hear_ok f e body.Ack x lt ne s k ok A = hear_ack_ok me now f e x lt s A
  hear_ok f e (body.Victory q) x lt ne s k ok A = hear_victory_ok me now f e q x lt s k A
  hear_ok f e (body.Collect pn first last) x lt ne s k ok A = hear_collect_ok me now f e pn first last x lt k.0 A
  hear_ok f e (body.Last pn first last whole from values pending) x lt ne s k ok A = hear_last_ok me now f e pn first last whole from values pending x ne lt k ok A
  hear_ok f e (body.Begin pn v value) x lt ne s k ok A = hear_begin_ok me now f e pn v value x lt k ok A
  hear_ok f e (body.Accept pn v) x lt ne s k ok A = hear_accept_ok me now f e pn v x A
  hear_ok f e (body.Commit from values) x lt ne s k ok A = hear_commit_ok me now f e from values x ok A
  hear_ok f e (body.Lease last) x lt ne s k ok A = hear_lease_ok me now f e last x lt A
  hear_ok f e (body.LeaseAck last) x lt ne s k ok A = hear_lease_ack_ok me now f e last x A
  hear_ok f e (body.Forward seq c) x lt ne s k ok A = hear_forward_ok me now f e seq c x lt k.0 k.1 A
  hear_ok f e (body.Route seq p) x lt ne s k ok A = hear_route_ok me now f e seq p x k.1 A
  hear_ok f e body.GetCookieFull x lt ne s k ok A = hear_get_cookie_full_ok me now f x lt A
  hear_ok f e (body.GetCookieRecent last) x lt ne s k ok A = hear_get_cookie_recent_ok me now f last x lt A
  hear_ok f e (body.Cookie full c last) x lt ne s k ok A = hear_cookie_ok me now f full c last x k.1.0 k.1.1 A
  hear_ok f e (body.GetChunk c p) x lt ne s k ok A = hear_get_chunk_ok me now shared f c p x lt k.0 k.1 A
  hear_ok f e (body.Chunk c p values entries done) x lt ne s k ok A = hear_chunk_ok me now f c p values entries done x k.0 k.1.0 k.1.1.1.0.1 ok A
  hear_ok f e (body.LastChunk c p values entries last) x lt ne s k ok A = hear_last_chunk_ok me now f c p values entries last x k.1.0 k.1.1.1.0.1 k.1.1.1.1 (lt-ltb 1 n (many f lt ne)) ok A
  hear_ok f e (body.NoCookie c) x lt ne s k ok A = hear_no_cookie_ok me now f c x A
  hear_ok f e (body.Ping table) x lt ne s k ok A = hear_ping_ok me now f table x lt k A
  hear_ok f e (body.PingReply table) x lt ne s k ok A = hear_ping_reply_ok me now f table x lt k A
  hear_ok f e (body.Request id q) x lt ne s k ok A = over me 0 x (omega arith) A
  hear_ok f e (body.Reply id q) x lt ne s k ok A = over me 0 x (omega arith) A

  anew_ok : (x : Course) → Under me 0 x → Then (Over me) (bootstrap me now x)
  anew_ok x A = bootstrap_ok me now 0 x (inl (omega arith)) A

  timer_ok : (t : Timer) (x : Course) → Under me 0 x → Then (Over me) (timer_comes me now t x)
  timer_ok timer.Probe x A = anew_ok x A
  timer_ok timer.Election x A = election_ends_ok me now x A
  timer_ok timer.Collect x A = anew_ok x A
  timer_ok timer.Accept x A = anew_ok x A
  timer_ok timer.Renew x A = renew_ok me now x A
  timer_ok timer.LeaseAck x A = anew_ok x A
  timer_ok timer.Lease x A = anew_ok x A
  timer_ok timer.Sync x A = anew_ok x A
  timer_ok timer.Step x A = replay_step_ok me now x A
  timer_ok timer.Propose x A = propose_due_ok me now x A
  timer_ok timer.Ping x A = ping_ok me now x A

  -- a message of the same map
  deliver_ok : (m : Message) (x : Course) → IsValidInput (input.Deliver m) → is_heard me m ≡ true → Under me 0 x → Then (Over me) (hear me shared now m.from m.epoch m.body x)
  deliver_ok m x k t A =
      let parts = and_parts (not (eqb m.from me.member.rank) && eqb m.monitors me.member.monitors) (has_fitting_table me m.body) t in
      let both = and_parts (not (eqb m.from me.member.rank)) (eqb m.monitors me.member.monitors) parts.0 in
      let same = eqb-true m.monitors me.member.monitors both.1 in
      let M = k.0 in
      hear_ok m.from m.epoch m.body x (subst (λ (z : ℕ). m.from < z) same M.sender) (not-true (eqb m.from me.member.rank) both.0) M.epoch
      (subst (λ (z : ℕ). (encoded z m.from m.body).Form) same M.body) (subst (λ (z : ℕ). fits z m.body ≡ true) same k.1) A

  before_ok : (came : Input) (x : Course) → IsValidInput came → Under me 0 x → Then (Over me) (before_start me now came x)
  before_ok input.Start x k A = start_ok me now x A
  before_ok (input.Deliver m) x k A = over me 0 x (omega arith) A
  before_ok (input.Timer t) x k A = over me 0 x (omega arith) A
  before_ok (input.Client s r) x k A = over me 0 _ (omega arith) (replies_ok me now s reply.Unavailable x k.0 (unavailable me now) A)

  running_ok : (came : Input) (x : Course) → IsValidInput came → Under me 0 x → Then (Over me) (running me shared now came x)
  running_ok input.Start x k A = over me 0 x (omega arith) A
  running_ok (input.Deliver m) x k A = by_test (is_heard me m) (λ t. deliver_ok m x k t A) (λ _. over me 0 x (omega arith) A)
  running_ok (input.Timer t) x k A = by_test (is_some (end_of t x.state.timers)) (λ _. timer_ok t (disarm t x) A) (λ _. over me 0 x (omega arith) A)
  running_ok (input.Client s r) x k A = hear_client_ok me now s r x k.0 k.1 A

  react_ok : (w : Readings) (s : State) (came : Input) → IsValidInput came → Under me 0 (at_rest w s) → Then (Over me) (react me shared now w s came)
  unfolding react
  react_ok w s came k A = by_test (same_phase s.phase phase.Booting) (λ _. before_ok came (at_rest w s) k A) (λ _. running_ok came (at_rest w s) k A)

-- ---- the law

at_rest_ok : (me : Me) (m : Store) (s : State) → MayRemember me s → Under me 0 (at_rest (readings_of m) s)
at_rest_ok me m s R = (
  record { bytes = omega arith; numbers = readings_numbers m; sends = tt },
  record { placed = R.placed; leader = R.leader; others = record { elector = R.elector; peon = R.peon; clients = R.clients; requester = R.requester } },
)

pub boot_ok : (me : Me) → MayRemember me (booting me.member.rank)
boot_ok me = record {
  placed = record { leads = λ e. absurd cc; copies = λ e. absurd cc };
  elector = record { acked = set_none me.member.monitors; scores = start_scores_is me.member.monitors me.member.rank 0 me.member.in_map me.member.most (omega arith) };
  leader = record { quorum = set_none me.member.monitors; pn = omega arith; found = tt; value = tt; origin = tt };
  peon = record { leader = me.member.in_map; quorum = set_none me.member.monitors };
  clients = record { queue = tt; sessions = tt };
  requester = record { provider = me.member.in_map; stage = tt };
}

pub begins_ok : (value : List Op) → MayPropose value → may_begin value ≡ true
begins_ok value V = within 1 (body.Begin 0 0 value) (let short = V.short in omega arith) refl

pub reaction_ok : (me : Me) (now : ℕ) (m : Store) (s : State) (came : Input) → MayRemember me s → IsValidInput came → IfOk (reaction me now m s came) (IsBounded me)
reaction_ok me now m s came R k = by (react me (shared_entries m) now (readings_of m) s came) (react_ok me now (shared_entries m) (readings_of m) s came k (at_rest_ok me m s R))
  where
    by : (r : Result Course Which) → Then (Over me) r → IfOk (any_reaction r) (IsBounded me)
    by (Err w) h = tt
    by (Ok x) h =
        let A = h.holds in
        let W = A.0 in
        let K = A.1 in
        let O = K.others in
        let few = W.bytes in
        record {
          transaction = omega (arith, joined_text (change_ops x.changes), size_encoded x.changes, few);
          sends = W.sends;
          state = record { placed = K.placed; elector = O.elector; leader = K.leader; peon = O.peon; clients = O.clients; requester = O.requester };
        }
