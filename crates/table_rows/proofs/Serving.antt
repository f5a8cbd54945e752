-- The rows of values, leases, commands and copies, and their acts.
use Rattle.law_names.proofs.Table.{Command, CommandRefused, Cookie, Course, Entry, Last, LeaderStage, Learn, MOST_WAITING, Me, Op, Origin, Phase, Place, Readings, Reply, Session, State, SyncStage, Vote, answer, answer_any, are_within, arm, arm_if, ask, asked_of, at_leader, at_peon, at_rest, awaits_cookie, be_active, begin, begin_alone, begin_made, begin_with, cancel, change, change_all, chunk, clients_are, commit, commit_any, disarm, extend, first_place, grant, has_queue, hear_accept, hear_begin, hear_chunk, hear_commit, hear_cookie, hear_forward, hear_get_chunk, hear_get_cookie_full, hear_get_cookie_recent, hear_last_chunk, hear_lease, hear_lease_ack, hear_route, is_after, is_alone, is_armed, is_cookie, is_empty, is_leading, is_one_of, is_ours, is_peon, is_too_long, leader_is, leads_in, learn, may_propose, members, of_member, of_provider, pending, pending_of, peon_is, promise_of, propose, react, renew, replay_any, replay_step, reply_to, same_flag, same_phase, same_place, send, send_each, service_last, service_of, start_chunks, step_in, step_of, take_and_ask, take_last, takes_chunks, too_long, value, wait_under, with_rank, ◌>>=◌, ◌▸◌}
use Rattle.mon_lease.specs.Lease as lease
use Rattle.mon_msg.specs.Protocol.Commands.{reply_each}
use Rattle.mon_msg.specs.Protocol.Course.{disarm_if}
use Rattle.mon_msg.specs.declared.input.Input.TheVariants as input
use Rattle.mon_msg.specs.declared.paxos.LeaderStage.TheVariants as stage
use Rattle.mon_msg.specs.declared.plan.Origin.TheVariants as origin
use Rattle.mon_msg.specs.declared.synchronization.SyncStage.TheVariants as sync
use Rattle.mon_wire.specs.declared.body.Body.TheVariants as body
use Rattle.mon_wire.specs.declared.phase.Phase.TheVariants as phase
use Rattle.mon_wire.specs.declared.phase.Timer.TheVariants as timer
use Rattle.mon_wire.specs.declared.reply.Reply.TheVariants as reply
use Rattle.std.proofs.Common.{Bool, List, None, Ok, Option, Result, Some, [], ap, arith, eq-eqb, false, filter, inl, inr, is_some, length, ltb, nat_le, ne_eqb, not, refl, slice_index_or, slice_set, suc, true, ℕ, ◌&&◌, ◌+◌, ◌-◌, ◌<◌, ◌==◌, ◌^◌, ◌∙◌, ◌∷◌, ◌≡◌, ◌≤◌, ◌⊎◌}
use Rattle.std.proofs.lemmas.Bool.{false≢true, le-leb, le-ltb, lt-ltb}
use Rattle.table_rows.proofs.Hearing.{IsLeader, IsMember, IsOther, IsProvider, heard, hears, in_phase_runs, is_of_leader, is_of_member, is_of_provider, of_a_leader, of_a_member, of_a_provider, rings}

-- ---- values and leases

-- one value is learned
abbrev pub learned : (v : ℕ) → List Op → Course → Course
learned v value x = x ▸ change_all (Learn v value ∷ []) ▸ change (Last v)

pub learns_one : (v : ℕ) (value : List Op) (x : Course) → v ≤ 2 ^ 62 → learn v (value ∷ []) x ≡ Ok (learned v value x)
unfolding learn
learns_one v value x fits = let same : v + 0 ≡ v = omega arith in rw same (rw (le-leb v (2 ^ 62) fits) refl)

-- no value is pending that is for another version than the next one
pub none_pends : (w : Readings) → (w.pending_v ≡ suc w.last → ⊥) → pending w ≡ None
unfolding pending_of
none_pends w other = rw (ne_eqb w.pending_v (suc w.last) other) refl

module _ (me : Me) (now : ℕ) where
  -- a leader with peons begins a value
  pub begins : (kind : LeaderStage) (value : List Op) (o : Option Origin) (x : Course) → suc x.readings.last ≤ 2 ^ 62 → is_alone me x.state.leader.quorum ≡ false → begin me now kind value o x ≡ Ok (begin_with me now kind (suc x.readings.last) value o x)
  unfolding begin
  begins kind value o x fits several = rw (le-leb (suc x.readings.last) (2 ^ 62) fits, several) refl

  -- one without peons commits it
  pub begins_alone : (kind : LeaderStage) (value : List Op) (o : Option Origin) (x : Course) → suc x.readings.last ≤ 2 ^ 62 → is_alone me x.state.leader.quorum ≡ true
      → begin me now kind value o x ≡ Ok (learned (suc x.readings.last) value x ▸ leads_in stage.Active ▸ answer_any me o (reply.Done (suc x.readings.last)))
  unfolding begin begin_alone
  begins_alone kind value o x fits alone =
      rw (le-leb (suc x.readings.last) (2 ^ 62) fits, alone) (ap (λ r. r >>= λ y. Ok (y ▸ leads_in stage.Active ▸ answer_any me o (reply.Done (suc x.readings.last)))) (learns_one (suc x.readings.last) value x fits))

  abbrev pub told_all : ℕ → List Op → Course → Course
  told_all v value y =
      y
      ▸ disarm timer.Accept
      ▸ leader_is (record y.state.leader { value = None; origin = None })
      ▸ send_each me (members me y.state.leader.quorum) (body.Commit v (value ∷ []))
      ▸ be_active me now
      ▸ answer_any me y.state.leader.origin (reply.Done v)

  -- a value that all of the quorum accepted is committed
  pub commits : (value : List Op) (x : Course) → suc x.readings.last ≤ 2 ^ 62 → commit me now value x ≡ Ok (told_all (suc x.readings.last) value (learned (suc x.readings.last) value x))
  unfolding commit
  commits value x fits = ap (λ r. r >>= λ y. Ok (told_all (suc x.readings.last) value y)) (learns_one (suc x.readings.last) value x fits)

-- a leader counts that f accepted
abbrev pub accepted : Readings → State → ℕ → Course
accepted w s f = at_rest w s ▸ leader_is (record s.leader { accepted = with_rank s.leader.accepted f })

module _ (me : Me) (shared : List Entry) (now : ℕ) {w : Readings} {s : State} {f e : ℕ} where
  -- ---- a peon

  module _ (L : IsLeader me w s f e) where
    -- A BEGIN of the promised number for the next version: the peon accepts the value, and gives up its lease.
    pub begin_row : (pn v : ℕ) (value : List Op) → pn ≡ promise_of w → v ≡ suc w.last
        → hears me shared now w s f e (body.Begin pn v value) ≡ Ok (at_rest w s ▸ change (Vote v pn value) ▸ cancel ▸ send me f (body.Accept pn v))
    unfolding hear_begin
    begin_row pn v value number next =
        heard me shared now w e (body.Begin pn v value) (of_a_leader L) refl ∙ rw (is_of_leader L, eq-eqb pn (promise_of w) number, eq-eqb v (suc w.last) next) refl

    -- A COMMIT of the next version: the peon learns it.
    pub commit_row : (v : ℕ) (value : List Op) → v ≡ suc w.last → suc w.last ≤ 2 ^ 62 → hears me shared now w s f e (body.Commit v (value ∷ [])) ≡ Ok (learned (suc w.last) value (at_rest w s))
    unfolding hear_commit
    commit_row v value next fits =
        let none : suc w.last - v ≡ 0 = omega arith in
        heard me shared now w e (body.Commit v (value ∷ [])) (of_a_leader L) refl
        ∙ rw (is_of_leader L, le-ltb (suc w.last) v (omega arith), none) (learns_one (suc w.last) value (at_rest w s) fits)

    -- A LEASE with its own last version, if it has accepted no later one: the peon takes the lease.
    pub lease_row : (last : ℕ) → last ≡ w.last → is_some (pending w) ≡ false
        → hears me shared now w s f e (body.Lease last) ≡ Ok (at_rest w s ▸ peon_is (record s.peon { lease = lease.extended now }) ▸ arm now timer.Lease ▸ send me f (body.LeaseAck w.last))
    unfolding hear_lease
    lease_row last same settled = heard me shared now w e (body.Lease last) (of_a_leader L) refl ∙ rw (is_of_leader L, eq-eqb last w.last same, settled) refl

  -- ---- a leader

  module _ {p : Phase} (begun : (p ≡ phase.Previous) ⊎ (p ≡ phase.Updating)) (M : IsMember me w s p f e) (pn v : ℕ) (number : pn ≡ s.leader.pn) (next : v ≡ suc w.last) where
    counts : of_member (phase.Previous ∷ phase.Updating ∷ []) f e (at_rest w s) ≡ true
    counts = is_of_member (phase.Previous ∷ phase.Updating ∷ []) (elim begun [ inl q ↦ ap (is_one_of (phase.Previous ∷ phase.Updating ∷ [])) q | inr q ↦ ap (is_one_of (phase.Previous ∷ phase.Updating ∷ [])) q ]) M

    taken : hears me shared now w s f e (body.Accept pn v) ≡ hear_accept me now f e pn v (at_rest w s)
    taken = heard me shared now w e (body.Accept pn v) (of_a_member (elim begun [ inl q ↦ ap (λ (z : Phase). same_phase z phase.Booting) q | inr q ↦ ap (λ (z : Phase). same_phase z phase.Booting) q ]) M) refl

    -- An ACCEPT of its number for the next version: the leader counts it,
    pub accept_row : are_within me.member.monitors s.leader.quorum (with_rank s.leader.accepted f) ≡ false → hears me shared now w s f e (body.Accept pn v) ≡ Ok (accepted w s f)
    unfolding hear_accept
    accept_row more = taken ∙ rw (counts, eq-eqb pn s.leader.pn number, eq-eqb v (suc w.last) next, more) refl

    -- and commits the value once all of its quorum accepted it.
    pub last_accept_row : are_within me.member.monitors s.leader.quorum (with_rank s.leader.accepted f) ≡ true → (value : List Op) → s.leader.value ≡ Some value → hears me shared now w s f e (body.Accept pn v) ≡ commit me now value (accepted w s f)
    unfolding hear_accept
    last_accept_row all value is = taken ∙ rw (counts, eq-eqb pn s.leader.pn number, eq-eqb v (suc w.last) next, all) (ap (λ (o : Option (List Op)). commit_any me now o (accepted w s f)) is)

  -- A LEASE_ACK of its last version: an active leader counts it.
  pub lease_ack_row : IsMember me w s phase.Active f e → (last : ℕ) → last ≡ w.last
      → hears me shared now w s f e (body.LeaseAck last) ≡ Ok (at_rest w s ▸ leader_is (record s.leader { acks = with_rank s.leader.acks f }) ▸ disarm_if (are_within me.member.monitors s.leader.quorum (with_rank s.leader.acks f)) timer.LeaseAck)
  unfolding hear_lease_ack
  lease_ack_row M last same = heard me shared now w e (body.LeaseAck last) (of_a_member refl M) refl ∙ rw (is_of_member (phase.Active ∷ []) refl M, eq-eqb last w.last same) refl

-- It is dropped by one whose value is in progress.
pub late_lease_ack_row : (me : Me) (shared : List Entry) (now : ℕ) (w : Readings) (s : State) {f : ℕ} (e : ℕ) → (f ≡ me.member.rank → ⊥) → s.phase ≡ phase.Updating → (last : ℕ) → hears me shared now w s f e (body.LeaseAck last) ≡ Ok (at_rest w s)
unfolding hear_lease_ack
late_lease_ack_row me shared now w s e other updating last =
    heard me shared now w e (body.LeaseAck last) (in_phase_runs phase.Updating other updating refl) refl ∙ rw (ap (λ (p : Phase). same_phase p phase.Active) updating) refl

-- The time of the leases is over: an active leader renews them.
pub renew_row : (me : Me) (shared : List Entry) (now : ℕ) (w : Readings) (s : State) → s.phase ≡ phase.Active → is_armed timer.Renew s.timers ≡ true
    → react me shared now w s (input.Timer timer.Renew) ≡ Ok (at_rest w s ▸ disarm timer.Renew ▸ extend me now ▸ arm_if (not (is_empty s.clients.queue)) now timer.Propose)
unfolding renew
renew_row me shared now w s active on =
    rings me shared now w s timer.Renew (ap (λ (p : Phase). same_phase p phase.Booting) active) on ∙ rw (ap (λ (p : Phase). same_phase p phase.Active) active) refl

-- ---- clients' commands

module _ (me : Me) (now : ℕ) where
  module _ (c : Command) (session : Session) (x : Course) where
    -- a leader takes a client's command itself
    pub asks_leader : is_leading x.state.phase ≡ true → ask me now session c x ≡ at_leader me now c (origin.Session session) x
    unfolding ask
    asks_leader leads = rw leads refl

    asks_peon : x.state.phase ≡ phase.Peon → ask me now session c x ≡ at_peon me c session x
    unfolding ask
    asks_peon follows = rw (ap is_leading follows) (rw (ap is_peon follows) refl)

    peon_refuses : is_too_long c ≡ true → at_peon me c session x ≡ Ok (reply_to session (too_long c) x)
    peon_refuses long = rw long refl

    -- a peon answers a command that is too long,
    pub refuses_long : x.state.phase ≡ phase.Peon → is_too_long c ≡ true → ask me now session c x ≡ Ok (reply_to session (too_long c) x)
    refuses_long follows long = asks_peon follows ∙ peon_refuses long

    peon_forwards : is_too_long c ≡ false → nat_le MOST_WAITING (length x.state.clients.sessions) ≡ false → x.state.clients.next_seq ≤ 2 ^ 62
        → at_peon me c session x ≡ Ok (x ▸ wait_under x.state.clients.next_seq session ▸ send me x.state.peon.leader (body.Forward x.state.clients.next_seq c))
    peon_forwards short few fits = rw (short, few, le-leb x.state.clients.next_seq (2 ^ 62) fits) refl

    -- and forwards another one to its leader if not too many wait
    pub forwards : x.state.phase ≡ phase.Peon → is_too_long c ≡ false → nat_le MOST_WAITING (length x.state.clients.sessions) ≡ false → x.state.clients.next_seq ≤ 2 ^ 62
        → ask me now session c x ≡ Ok (x ▸ wait_under x.state.clients.next_seq session ▸ send me x.state.peon.leader (body.Forward x.state.clients.next_seq c))
    forwards follows short few fits = asks_peon follows ∙ peon_forwards short few fits

  module _ (c : Command) (o : Origin) (x : Course) where
    -- a leader answers a command that is too long
    pub leader_refuses : is_too_long c ≡ true → at_leader me now c o x ≡ Ok (answer me o (too_long c) x)
    leader_refuses long = rw long refl

    proposes_now : is_too_long c ≡ false → (may_propose me now x && not (has_queue x)) ≡ true → at_leader me now c o x ≡ propose me now c o x
    proposes_now short free = rw (short, free) refl

    makes : suc (service_last x.readings (service_of c)) ≤ 2 ^ 62 → propose me now c o x ≡ begin_made me now o (value x.readings c (asked_of me o)) x
    unfolding propose
    makes fits = rw (le-leb (suc (service_last x.readings (service_of c))) (2 ^ 62) fits) refl

    -- one that may propose it at once does so, and the value is made of what its store keeps
    pub proposes : is_too_long c ≡ false → (may_propose me now x && not (has_queue x)) ≡ true → suc (service_last x.readings (service_of c)) ≤ 2 ^ 62
        → {made : Result (List Op) CommandRefused} → value x.readings c (asked_of me o) ≡ made → at_leader me now c o x ≡ begin_made me now o made x
    proposes short free fits is = proposes_now short free ∙ makes fits ∙ ap (λ (r : Result (List Op) CommandRefused). begin_made me now o r x) is

module _ (me : Me) (shared : List Entry) (now : ℕ) {w : Readings} {s : State} {f e : ℕ} where
  -- A FORWARD of a member of its quorum with a number above those before: the leader takes the command.
  pub forward_row : {p : Phase} → is_one_of (phase.Collecting ∷ phase.Previous ∷ phase.Active ∷ phase.Updating ∷ []) p ≡ true → same_phase p phase.Booting ≡ false → IsMember me w s p f e → (seq : ℕ) (c : Command) → slice_index_or s.clients.taken f 0 < seq
      → hears me shared now w s f e (body.Forward seq c) ≡ at_leader me now c (origin.Forwarded f seq) (at_rest w s ▸ clients_are (record s.clients { taken = slice_set s.clients.taken f seq }))
  unfolding hear_forward
  forward_row leads runs M seq c new =
      heard me shared now w e (body.Forward seq c) (of_a_member runs M) refl ∙ rw (is_of_member (phase.Collecting ∷ phase.Previous ∷ phase.Active ∷ phase.Updating ∷ []) leads M, lt-ltb (slice_index_or s.clients.taken f 0) seq new) refl

  -- A ROUTE of its leader: the peon gives the reply to the session that waits under that number.
  pub route_row : IsLeader me w s f e → (seq : ℕ) (r : Reply)
      → hears me shared now w s f e (body.Route seq r)
      ≡ Ok (at_rest w s ▸ clients_are (record s.clients { sessions = filter (λ a. not (a.seq == seq)) s.clients.sessions }) ▸ reply_each (filter (λ a. a.seq == seq) s.clients.sessions) r)
  unfolding hear_route
  route_row L seq r = heard me shared now w e (body.Route seq r) (of_a_leader L) refl ∙ rw (is_of_leader L) refl

-- ---- copies

-- four tests that pass
lined : (a b c d : Bool) → a ≡ true → (b && c && d) ≡ true → (a && b && c && d) ≡ true
lined true b c d t u = u
lined false b c d t u = absurd (false≢true t)

module _ (me : Me) (shared : List Entry) (now : ℕ) (w : Readings) {s : State} {f : ℕ} (e : ℕ) where
  -- ---- who gives a copy

  module _ (O : IsOther me s f) (unmarked : w.marked ≡ false) where
    -- A GET_COOKIE_FULL: the sender gets a new cookie.
    pub get_cookie_full_row : hears me shared now w s f e body.GetCookieFull ≡ grant me true f (at_rest w s)
    unfolding hear_get_cookie_full
    get_cookie_full_row = heard me shared now w e body.GetCookieFull O refl ∙ rw unmarked refl

    -- A GET_COOKIE_RECENT: it gets one if its next version is still kept.
    pub get_cookie_recent_row : (last : ℕ) → w.first ≤ suc last → hears me shared now w s f e (body.GetCookieRecent last) ≡ grant me false f (at_rest w s)
    unfolding hear_get_cookie_recent
    get_cookie_recent_row last kept = heard me shared now w e (body.GetCookieRecent last) O refl ∙ rw (unmarked, le-ltb (suc last) w.first kept) refl

    -- A GET_CHUNK with its cookie, for a place whose next version is still kept: it gets what comes after the place.
    pub get_chunk_row : (c : Cookie) (p : Place) → is_cookie c (slice_index_or s.provider.cookies f None) ≡ true → w.first ≤ suc p.version
        → hears me shared now w s f e (body.GetChunk c p) ≡ Ok (send me f (chunk w.last c p (filter (is_after p.key) shared) me.member.monitors w.record_of) (at_rest w s))
    unfolding hear_get_chunk
    get_chunk_row c p held kept = heard me shared now w e (body.GetChunk c p) O refl ∙ rw (unmarked, held, le-ltb (suc p.version) w.first kept) refl

  -- ---- who takes it

  module _ (P : IsProvider me s f) where
    -- The cookie that it asked for: the monitor asks for the first chunk.
    pub cookie_row : (full : Bool) (c : Cookie) (last : ℕ) → awaits_cookie s.requester.stage ≡ true → same_flag full s.requester.full ≡ true → (full && ltb last w.floor) ≡ false
        → hears me shared now w s f e (body.Cookie full c last) ≡ Ok (start_chunks me now c (first_place full last w.last) (at_rest w s))
    unfolding hear_cookie
    cookie_row full c last awaits same high = heard me shared now w e (body.Cookie full c last) (of_a_provider P) refl ∙ rw (is_of_provider w P, awaits, same, high) refl

    module _ (c : Cookie) (p : Place) (values : List (List Op)) (entries : List Entry) (ours : (takes_chunks s.requester.stage && is_cookie c s.requester.cookie && same_place p s.requester.place) ≡ true) where
      mine : is_ours f c p (at_rest w s) ≡ true
      mine = lined (of_provider f (at_rest w s)) (takes_chunks s.requester.stage) (is_cookie c s.requester.cookie) (same_place p s.requester.place) (is_of_provider w P) ours

      -- A CHUNK for its place: it is copied, and the next one is asked for.
      pub chunk_row : (end : Bool) → hears me shared now w s f e (body.Chunk c p values entries end) ≡ take_and_ask me now c p values entries end (at_rest w s)
      unfolding hear_chunk
      chunk_row end = heard me shared now w e (body.Chunk c p values entries end) (of_a_provider P) refl ∙ rw mine refl

      -- The last one: it is copied, and the replay begins, or the copy is over.
      pub last_chunk_row : (last : ℕ) → hears me shared now w s f e (body.LastChunk c p values entries last) ≡ take_last me now p values entries last (at_rest w s)
      unfolding hear_last_chunk
      last_chunk_row last = heard me shared now w e (body.LastChunk c p values entries last) (of_a_provider P) refl ∙ rw mine refl

-- It is time for the next step of a replay: the monitor replays what the step has.
pub step_row : (me : Me) (shared : List Entry) (now : ℕ) (w : Readings) (s : State) → s.phase ≡ phase.Synchronizing → is_armed timer.Step s.timers ≡ true → (next end : ℕ) → s.requester.stage ≡ sync.Replay next end
    → react me shared now w s (input.Timer timer.Step) ≡ replay_any me now next end (step_of w.record_of (suc end - next) next) (at_rest w s ▸ disarm timer.Step)
unfolding replay_step
step_row me shared now w s takes on next end stage =
    rings me shared now w s timer.Step (ap (λ (p : Phase). same_phase p phase.Booting) takes) on
    ∙ rw (ap (λ (p : Phase). same_phase p phase.Synchronizing) takes) (ap (λ (z : SyncStage). step_in me now z (at_rest w s ▸ disarm timer.Step)) stage)
