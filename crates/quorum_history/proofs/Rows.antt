-- Every row of the table keeps what holds.
use Rattle.law_names.proofs.Table.{AllByRecursion, Body, Boot, Change, Course, Epoch, Input, Me, Message, Op, Readings, Scores, State, Timer, at_rest, before_start, change, change_if, deliver, disarm, elector_is, end_of, epoch_or_first, hear, hear_ping, hear_ping_reply, is_done, is_heard, measure, note_table, others, own_table, ping, react, running, same_phase, start, timer_comes, value}
use Rattle.mon_msg.specs.declared.input.Input.TheVariants as input
use Rattle.mon_types.specs.declared.names.Which.TheVariants as which
use Rattle.mon_wire.specs.declared.body.Body.TheVariants as body
use Rattle.mon_wire.specs.declared.phase.Phase.TheVariants as phase
use Rattle.mon_wire.specs.declared.phase.Timer.TheVariants as timer
use Rattle.mon_wire.specs.declared.reply.Reply.TheVariants as reply
use Rattle.quorum_history.proofs.ActsElections.{bootstrap_holds}
use Rattle.quorum_history.proofs.ActsLeading.{sound}
use Rattle.quorum_history.proofs.History.{ALevel, ANumber, APromise, AnEpoch, Ghost, Rising}
use Rattle.quorum_history.proofs.Holds.{BodyHolds, Good, Kept, MessageHolds, Nothing, Sound, With, number_of}
use Rattle.quorum_history.proofs.Phases.{no}
use Rattle.quorum_history.proofs.RowsClients.{IsAsked, Makes, hear_client_holds, hear_forward_holds, hear_route_holds, propose_due_holds, replies}
use Rattle.quorum_history.proofs.RowsElections.{election_ends_holds, hear_ack_holds, hear_probe_holds, hear_probe_reply_holds, hear_propose_holds, hear_victory_holds}
use Rattle.quorum_history.proofs.RowsLeader.{hear_accept_holds, hear_last_holds, hear_lease_ack_holds, renew_holds}
use Rattle.quorum_history.proofs.RowsPeon.{hear_begin_holds, hear_collect_holds, hear_commit_holds, hear_lease_holds}
use Rattle.quorum_history.proofs.RowsSync.{anew_holds, hear_chunk_holds, hear_cookie_holds, hear_get_chunk_holds, hear_get_cookie_full_holds, hear_get_cookie_recent_holds, hear_last_chunk_holds, hear_no_cookie_holds, replay_step_holds}
use Rattle.quorum_history.proofs.Steps.{moves, rises, tells, tells_each}
use Rattle.quorum_walk.proofs.FineCourses.{BodyFine, EntryFine, Fine, Made, MessageFine, RecordsFine, still}
use Rattle.quorum_walk.proofs.FineTable.{ComesFine}
use Rattle.quorum_walk.proofs.Sparing.{Copied, own_of}
use Rattle.quorum_walk.proofs.Walk.{Then, by_test, done, where_fits}
use Rattle.std.proofs.Common.{Bool, List, None, Option, Some, [], arith, false, is_some, not, refl, subst, suc, sym, true, ℕ, ◌<◌, ◌∷◌, ◌≡◌, ◌≤◌}
use Rattle.std.proofs.lemmas.Bool.{false≢true}
use Rattle.std.proofs.lemmas.List.{append-nil}

-- what may come
abbrev pub InputHolds : Me → Ghost → Input → Type 0
InputHolds me g input.Start = Unit {0}
InputHolds me g (input.Deliver m) = (m.from < me.member.monitors) × MessageHolds g me.member.rank m
InputHolds me g (input.Timer t) = Unit {0}
InputHolds me g (input.Client s r) = IsAsked g me.member.rank s r

-- which input may bring a command
abbrev pub body_brings : Body → Bool
body_brings (body.Forward seq c) = true
body_brings other = false

abbrev pub timer_brings : Timer → Bool
timer_brings timer.Propose = true
timer_brings other = false

abbrev pub brings : Input → Bool
brings input.Start = false
brings (input.Deliver m) = body_brings m.body
brings (input.Timer t) = timer_brings t
brings (input.Client t r) = true

-- what is known of the form of what comes
abbrev pub HasForm : Input → Type 0
HasForm (input.Deliver m) = MessageFine m
HasForm other = Unit {0}

module _ (me : Me) (now : ℕ) (g : Ghost) (Known : ℕ → List Op → Type 0) where
  -- ---- pings, and the start

  hear_ping_holds : (f : ℕ) (table : Option Scores) (x : Course) → Good me g Known x → Then (Good me g Known) (hear_ping me f table x)
  unfolding hear_ping
  hear_ping_holds f None x A = done A
  hear_ping_holds f (Some table) x A = done (tells me _ (body.PingReply (own_table me (note_table f table x))) f A (λ h E G D p. tt))

  hear_ping_reply_holds : (f : ℕ) (table : Option Scores) (x : Course) → Good me g Known x → Then (Good me g Known) (hear_ping_reply f table x)
  unfolding hear_ping_reply
  hear_ping_reply_holds f None x A = done A
  hear_ping_reply_holds f (Some table) x A = done A

  ping_holds : (x : Course) → Good me g Known x → Then (Good me g Known) (ping me now x)
  unfolding ping
  ping_holds x A = done (tells_each me _ (body.Ping (own_table me (elector_is (measure me now x.state.elector) x))) (others me) A (λ h E G D p to. tt))

  first_epoch : (e : Option ℕ) → not (is_some e) ≡ true → epoch_or_first e ≡ 1
  first_epoch None h = refl
  first_epoch (Some e) h = absurd (false≢true h)

  booted : (boot : ℕ) (x : Course) → Sound me g Known x → Sound me g Known (change (Boot boot) x)
  booted boot x A = moves Nothing Nothing (own_of (change (Boot boot) x).readings) x.readings.record_of (Boot boot ∷ []) (tt, tt) up A (λ h E G D p. kept h D.kept) (λ h E F G D p. tt)
    where
      up : (k : Rising) → number_of (own_of x.readings) k ≤ number_of (own_of (change (Boot boot) x).readings) k
      up AnEpoch = omega arith
      up ANumber = omega arith
      up APromise = omega arith
      up ALevel = omega arith

      kept : (h : Ghost) → Kept h.roles h.hands h.accepts me.member.rank (own_of x.readings) x.readings.record_of → Kept h.roles h.hands h.accepts me.member.rank (own_of (change (Boot boot) x).readings) x.readings.record_of
      kept h k = record { roles = k.roles; hands = k.hands; order = k.order; mine = k.mine; accepts = k.accepts; made = k.made; covered = k.covered; under = k.under; next = k.next; vote = k.vote; clear = k.clear }

  epoch_put : (x : Course) (b : Bool) → not (is_some x.readings.epoch) ≡ b → Sound me g Known x → Sound me g Known (change_if b (Epoch 1) x)
  epoch_put x true t A = rises Nothing Nothing 1 (let e = first_epoch x.readings.epoch t in omega arith) A (λ h k E p. tt)
  epoch_put x false t A = subst (λ (cs : List Change). With me.member.monitors me.member.rank g Known (own_of x.readings) x.readings.record_of cs x.out Nothing) (sym (append-nil x.changes)) A

  start_holds : (x : Course) → Sound me g Known x → Then (Good me g Known) (start me now x)
  unfolding start
  start_holds x A =
      let boot = suc x.readings.boot in
      let y : Course = change (Boot boot) x in
      where_fits (Good me g Known) which.Boot boot _ (λ _. bootstrap_holds me now g Known _ (epoch_put y (not (is_some x.readings.epoch)) refl (booted boot x A)))

  -- ---- what brings no command

  module _ (shared : List Copied) where
    plain_holds : (f e : ℕ) (b : Body) (x : Course) → body_brings b ≡ false → f < me.member.monitors → BodyHolds g f me.member.rank e b → BodyFine b → Good me g Known x → Then (Good me g Known) (hear me shared now f e b x)
    plain_holds f e body.Probe x o z k V A = hear_probe_holds me now g Known f x A
    plain_holds f e (body.ProbeReply q first last) x o z k V A = hear_probe_reply_holds me now g Known f q first last x k A
    plain_holds f e (body.Propose table) x o z k V A = hear_propose_holds me now g Known f e table x A
    plain_holds f e body.Ack x o z k V A = hear_ack_holds me now g Known f e x z A
    plain_holds f e (body.Victory q) x o z k V A = hear_victory_holds me now g Known f e q x k A
    plain_holds f e (body.Collect pn first last) x o z k V A = hear_collect_holds me now g Known f e pn first last x k.2 A
    plain_holds f e (body.Last pn first last whole from values told) x o z k V A = hear_last_holds me now g Known f e pn first last whole from values told x V k A
    plain_holds f e (body.Begin pn v value) x o z k V A = hear_begin_holds me now g Known f e pn v value x k A
    plain_holds f e (body.Accept pn v) x o z k V A = hear_accept_holds me now g Known f e pn v x k.1 k.2 A
    plain_holds f e (body.Commit from values) x o z k V A = hear_commit_holds me now g Known f e from values x V A
    plain_holds f e (body.Lease last) x o z k V A = hear_lease_holds me now g Known f e last x k A
    plain_holds f e (body.LeaseAck last) x o z k V A = hear_lease_ack_holds me now g Known f e last x A
    plain_holds f e (body.Forward seq c) x o z k V A = no (sym o)
    plain_holds f e (body.Route seq r) x o z k V A = hear_route_holds me now g Known f e seq r x A
    plain_holds f e body.GetCookieFull x o z k V A = hear_get_cookie_full_holds me now g Known f x A
    plain_holds f e (body.GetCookieRecent last) x o z k V A = hear_get_cookie_recent_holds me now g Known f last x A
    plain_holds f e (body.Cookie full c last) x o z k V A = hear_cookie_holds me now g Known f full c last x k A
    plain_holds f e (body.GetChunk c p) x o z k V A = hear_get_chunk_holds me now g Known shared f c p x k A
    plain_holds f e (body.Chunk c p values entries is_done) x o z k V A = hear_chunk_holds me now g Known f c p values entries is_done x k V.0 V.1 A
    plain_holds f e (body.LastChunk c p values entries last) x o z k V A = hear_last_chunk_holds me now g Known f c p values entries last x k.0 k.1 V.0 V.1 A
    plain_holds f e (body.NoCookie c) x o z k V A = hear_no_cookie_holds me now g Known f c x A
    plain_holds f e (body.Ping table) x o z k V A = hear_ping_holds f table x A
    plain_holds f e (body.PingReply table) x o z k V A = hear_ping_reply_holds f table x A
    plain_holds f e (body.Request id r) x o z k V A = done A
    plain_holds f e (body.Reply id r) x o z k V A = done A

  plain_timer_holds : (t : Timer) (x : Course) → timer_brings t ≡ false → RecordsFine x.readings.record_of → Good me g Known x → Then (Good me g Known) (timer_comes me now t x)
  plain_timer_holds timer.Probe x o R A = anew_holds me now g Known x A
  plain_timer_holds timer.Election x o R A = election_ends_holds me now g Known x A
  plain_timer_holds timer.Collect x o R A = anew_holds me now g Known x A
  plain_timer_holds timer.Accept x o R A = anew_holds me now g Known x A
  plain_timer_holds timer.Renew x o R A = renew_holds me now g Known x A
  plain_timer_holds timer.LeaseAck x o R A = anew_holds me now g Known x A
  plain_timer_holds timer.Lease x o R A = anew_holds me now g Known x A
  plain_timer_holds timer.Sync x o R A = anew_holds me now g Known x A
  plain_timer_holds timer.Step x o R A = replay_step_holds me now g Known x R A
  plain_timer_holds timer.Propose x o R A = no (sym o)
  plain_timer_holds timer.Ping x o R A = ping_holds x A

  before_holds : (came : Input) (x : Course) → Good me g Known x → Then (Good me g Known) (before_start me now came x)
  before_holds input.Start x A = start_holds x (sound me g Known _ x A)
  before_holds (input.Deliver m) x A = done A
  before_holds (input.Timer t) x A = done A
  before_holds (input.Client s r) x A = done (replies me now g Known _ s reply.Unavailable x A)

  module _ (shared : List Copied) (w : Readings) (s : State) where
    running_plain : (came : Input) (x : Course) → brings came ≡ false → InputHolds me g came → HasForm came → RecordsFine x.readings.record_of → Good me g Known x → Then (Good me g Known) (running me shared now came x)
    running_plain input.Start x o k V R A = done A
    running_plain (input.Deliver m) x o k V R A = by_test (is_heard me m) (λ _. plain_holds shared m.from m.epoch m.body x o k.0 k.1.body V.1 A) (λ _. done A)
    running_plain (input.Timer t) x o k V R A = by_test (is_some (end_of t x.state.timers)) (λ _. plain_timer_holds t (disarm t x) o R A) (λ _. done A)
    running_plain (input.Client u r) x o k V R A = no (sym o)

    pub reacts_plain : (came : Input) → brings came ≡ false → InputHolds me g came → HasForm came → RecordsFine w.record_of → Good me g Known (at_rest w s) → Then (Good me g Known) (react me shared now w s came)
    unfolding react
    reacts_plain came o k V R A = by_test (same_phase s.phase phase.Booting) (λ _. before_holds came (at_rest w s) A) (λ _. running_plain came (at_rest w s) o k V R A)

  -- ---- the table

  module _ (made : Made) (w0 : Readings) where
    module _ (shared : List Copied) where
      hear_holds : (f e : ℕ) (b : Body) (x : Course) → f < me.member.monitors → BodyHolds g f me.member.rank e b → BodyFine b → Fine (still me w0) x → Makes me now g Known x.readings → Good me g Known x → Then (Good me g Known) (hear me shared now f e b x)
      hear_holds f e (body.Forward seq c) x z k V F M A = hear_forward_holds me now g Known made f e seq c x (let m = me.member.most in omega arith) V F.readings.own.last M k.0 k.1 A
      hear_holds f e other x z k V F M A = plain_holds shared f e other x refl z k V A

      deliver_holds : (m : Message) (x : Course) → (m.from < me.member.monitors) × MessageHolds g me.member.rank m → MessageFine m → Fine (still me w0) x → Makes me now g Known x.readings → Good me g Known x → Then (Good me g Known) (deliver me shared now m x)
      deliver_holds m x k V F M A = by_test (is_heard me m) (λ _. hear_holds m.from m.epoch m.body x k.0 k.1.body V.1 F M A) (λ _. done A)

    timer_holds : (t : Timer) (x : Course) → Fine (still me w0) x → Makes me now g Known x.readings → Good me g Known x → Then (Good me g Known) (timer_comes me now t x)
    timer_holds timer.Propose x F M A = propose_due_holds me now g Known made x F.state.queue F.readings.own.last M A
    timer_holds other x F M A = plain_timer_holds other x refl F.readings.records A

    module _ (shared : List Copied) (sharing : AllByRecursion EntryFine shared) where
      running_holds : (came : Input) (x : Course) → InputHolds me g came → ComesFine me now w0 made shared sharing came → Fine (still me w0) x → Makes me now g Known x.readings → Good me g Known x → Then (Good me g Known) (running me shared now came x)
      running_holds input.Start x k V F M A = done A
      running_holds (input.Deliver m) x k V F M A = deliver_holds shared m x k V.1 F M A
      running_holds (input.Timer t) x k V F M A = by_test (is_some (end_of t x.state.timers)) (λ _. timer_holds t (disarm t x) F M A) (λ _. done A)
      running_holds (input.Client s r) x k V F M A = hear_client_holds me now g Known made s r x V F.readings.own.last M k A

      pub react_holds : (w : Readings) (s : State) (came : Input) → InputHolds me g came → ComesFine me now w0 made shared sharing came → Fine (still me w0) (at_rest w s) → Makes me now g Known w → Good me g Known (at_rest w s) → Then (Good me g Known) (react me shared now w s came)
      unfolding react
      react_holds w s came k V F M A = by_test (same_phase s.phase phase.Booting) (λ _. before_holds came (at_rest w s) A) (λ _. running_holds came (at_rest w s) k V F M A)
