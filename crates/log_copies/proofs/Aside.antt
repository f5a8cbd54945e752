-- A marked monitor that is in no election and in no quorum: any other input leaves its store and its synchronization, or it
-- probes again.
use Rattle.law_names.proofs.Table.{Body, Command, Cookie, Course, Entry, Me, Op, Phase, Place as ChunkPlace, Readings, Reply, Request, Scores, Session, Timer, Told, Which, ask, awaits_cookie, bootstrap, election_ends, hear, hear_accept, hear_ack, hear_begin, hear_client, hear_collect, hear_commit, hear_forward, hear_get_chunk, hear_get_cookie_full, hear_get_cookie_recent, hear_last, hear_lease, hear_lease_ack, hear_no_cookie, hear_ping, hear_ping_reply, hear_probe, hear_propose, hear_route, hear_victory, is_cookie, is_leading, is_peon, of_provider, ping, propose_due, read, renew, same_cookie, same_phase, shown, since, timer_comes, votes}
use Rattle.mon_bytes.proofs.Fields.{ok_is}
use Rattle.mon_bytes.specs.declared.command.Command.TheVariants as command
use Rattle.mon_msg.specs.Protocol.Places as places
use Rattle.mon_wire.specs.declared.body.Body.TheVariants as body
use Rattle.mon_wire.specs.declared.phase.Phase.TheVariants as phase
use Rattle.mon_wire.specs.declared.phase.Timer.TheVariants as timer
use Rattle.mon_wire.specs.declared.request.Request.TheVariants as request
use Rattle.std.proofs.Common.{Bool, List, None, Ok, Option, Result, Some, cond, false, inl, inr, not, refl, subst, true, ℕ, ◌&&◌, ◌<◌, ◌||◌, ◌≡◌, ◌⊎◌}
use Rattle.std.proofs.lemmas.Bool.{lt-ltb}

-- the phases in which a monitor is in no election and in no quorum
pub record IsAside (p : Phase) : Type 0 where
  pub votes : votes p ≡ false
  pub leading : is_leading p ≡ false
  pub peon : is_peon p ≡ false
  pub electing : same_phase p phase.Electing ≡ false
  pub collecting : same_phase p phase.Collecting ≡ false
  pub previous : same_phase p phase.Previous ≡ false
  pub active : same_phase p phase.Active ≡ false
  pub updating : same_phase p phase.Updating ≡ false

pub probing_aside : IsAside phase.Probing
probing_aside = record { votes = refl; leading = refl; peon = refl; electing = refl; collecting = refl; previous = refl; active = refl; updating = refl }

pub synchronizing_aside : IsAside phase.Synchronizing
synchronizing_aside = record { votes = refl; leading = refl; peon = refl; electing = refl; collecting = refl; previous = refl; active = refl; updating = refl }

-- ---- what an event leaves

pub record Same (x y : Course) : Type 0 where
  pub changes : y.changes ≡ x.changes
  pub phase : y.state.phase ≡ x.state.phase
  pub requester : y.state.requester ≡ x.state.requester

pub record Anew (x y : Course) : Type 0 where
  pub changes : y.changes ≡ x.changes
  pub phase : y.state.phase ≡ phase.Probing

abbrev pub Still : Course → Course → Type 0
Still x y = Same x y ⊎ Anew x y

module _ (me : Me) (several : 1 < me.member.monitors) (now : ℕ) (x y : Course) where
  -- a row that keeps them
  keeps : (z : Course) → Same x z → ◌≡◌ {A = Result Course Which} (Ok z) (Ok y) → Still x y
  keeps z same e = inl (subst (Same x) (ok_is z y e) same)

  drops : ◌≡◌ {A = Result Course Which} (Ok x) (Ok y) → Still x y
  drops e = keeps x (record { changes = refl; phase = refl; requester = refl }) e

  drops_if : (b : Bool) (r : Result Course Which) → b ≡ true → ◌≡◌ {A = Result Course Which} (cond b (Ok x) r) (Ok y) → Still x y
  drops_if true r h e = drops e
  drops_if false r h e = absurd cc

  anew : bootstrap me now x ≡ Ok y → Still x y
  unfolding bootstrap
  anew e = let g = rw (lt-ltb 1 me.member.monitors several) at e in inr (subst (Anew x) (ok_is _ y g) (record { changes = refl; phase = refl }))

  module _ (A : IsAside x.state.phase) (marked : x.readings.marked ≡ true) where
    -- ---- messages

    probe : (f : ℕ) → hear_probe me f x ≡ Ok y → Still x y
    unfolding hear_probe
    probe f e = drops_if x.readings.marked _ marked e

    propose : (f t : ℕ) (table : Option Scores) → hear_propose me now f t table x ≡ Ok y → Still x y
    unfolding hear_propose
    propose f t table e = let no = A.votes in let g = rw no at e in drops g

    ack : (f t : ℕ) → hear_ack me now f t x ≡ Ok y → Still x y
    unfolding hear_ack
    ack f t e = let no = A.votes in let g = rw no at e in drops g

    victory : (f t : ℕ) (q : List Bool) → hear_victory me now f t q x ≡ Ok y → Still x y
    unfolding hear_victory
    victory f t q e = let no = A.votes in let g = rw no at e in drops g

    collect : (f t pn first last : ℕ) → hear_collect me now f t pn first last x ≡ Ok y → Still x y
    unfolding hear_collect
    collect f t pn first last e = let no = A.peon in let g = rw no at e in drops g

    last : (f t pn first own : ℕ) (whole : Bool) (from : ℕ) (values : List (List Op)) (told : Option Told) → hear_last me now f t pn first own whole from values told x ≡ Ok y → Still x y
    unfolding hear_last
    last f t pn first own whole from values told e = let no = A.collecting in let g = rw no at e in drops g

    begin : (f t pn v : ℕ) (value : List Op) → hear_begin me f t pn v value x ≡ Ok y → Still x y
    unfolding hear_begin
    begin f t pn v value e = let no = A.peon in let g = rw no at e in drops g

    accept : (f t pn v : ℕ) → hear_accept me now f t pn v x ≡ Ok y → Still x y
    unfolding hear_accept
    accept f t pn v e = let no = A.previous in let nor = A.updating in let g = rw (no, nor) at e in drops g

    commit : (f t from : ℕ) (values : List (List Op)) → hear_commit f t from values x ≡ Ok y → Still x y
    unfolding hear_commit
    commit f t from values e = let no = A.peon in let g = rw no at e in drops g

    lease : (f t own : ℕ) → hear_lease me now f t own x ≡ Ok y → Still x y
    unfolding hear_lease
    lease f t own e = let no = A.peon in let g = rw no at e in drops g

    lease_ack : (f t own : ℕ) → hear_lease_ack me f t own x ≡ Ok y → Still x y
    unfolding hear_lease_ack
    lease_ack f t own e = let no = A.active in let g = rw no at e in drops g

    forward : (f t seq : ℕ) (c : Command) → hear_forward me now f t seq c x ≡ Ok y → Still x y
    unfolding hear_forward
    forward f t seq c e =
        let a = A.collecting in let b = A.previous in let d = A.active in let u = A.updating in
        let g = rw (a, b, d, u) at e in drops g

    route : (f t seq : ℕ) (r : Reply) → hear_route f t seq r x ≡ Ok y → Still x y
    unfolding hear_route
    route f t seq r e = let no = A.peon in let g = rw no at e in drops g

    get_cookie_full : (f : ℕ) → hear_get_cookie_full me f x ≡ Ok y → Still x y
    unfolding hear_get_cookie_full
    get_cookie_full f e = drops_if x.readings.marked _ marked e

    get_cookie_recent : (f own : ℕ) → hear_get_cookie_recent me f own x ≡ Ok y → Still x y
    unfolding hear_get_cookie_recent
    get_cookie_recent f own e = drops_if x.readings.marked _ marked e

    get_chunk : (shared : List Entry) (f : ℕ) (c : Cookie) (p : ChunkPlace) → hear_get_chunk me shared f c p x ≡ Ok y → Still x y
    unfolding hear_get_chunk
    get_chunk shared f c p e = drops_if x.readings.marked _ marked e

    no_cookie : (f : ℕ) (c : Cookie) → hear_no_cookie me now f c x ≡ Ok y → Still x y
    unfolding hear_no_cookie
    no_cookie f c = by (of_provider f x && (is_cookie c x.state.requester.cookie || (awaits_cookie x.state.requester.stage && not x.state.requester.full && same_cookie c places.no_cookie)))
      where
        by : (b : Bool) → ◌≡◌ {A = Result Course Which} (cond b (bootstrap me now x) (Ok x)) (Ok y) → Still x y
        by true e = anew e
        by false e = drops e

    ping_comes : (f : ℕ) (table : Option Scores) → hear_ping me f table x ≡ Ok y → Still x y
    unfolding hear_ping
    ping_comes f None e = drops e
    ping_comes f (Some table) e = keeps _ (record { changes = refl; phase = refl; requester = refl }) e

    ping_reply : (f : ℕ) (table : Option Scores) → hear_ping_reply f table x ≡ Ok y → Still x y
    unfolding hear_ping_reply
    ping_reply f None e = drops e
    ping_reply f (Some table) e = keeps _ (record { changes = refl; phase = refl; requester = refl }) e

    -- messages about its own synchronization, and about another monitor's versions, are those of other rows
    abbrev pub IsElse : Body → Type 0
    IsElse (body.ProbeReply quorum first own) = ⊥
    IsElse (body.Cookie full cookie own) = ⊥
    IsElse (body.Chunk cookie p values entries done) = ⊥
    IsElse (body.LastChunk cookie p values entries own) = ⊥
    IsElse other = Unit {0}

    pub hears_else : (shared : List Entry) (f t : ℕ) (b : Body) → IsElse b → hear me shared now f t b x ≡ Ok y → Still x y
    hears_else shared f t body.Probe h e = probe f e
    hears_else shared f t (body.Propose table) h e = propose f t table e
    hears_else shared f t body.Ack h e = ack f t e
    hears_else shared f t (body.Victory quorum) h e = victory f t quorum e
    hears_else shared f t (body.Collect pn first own) h e = collect f t pn first own e
    hears_else shared f t (body.Last pn first own whole from values pending) h e = last f t pn first own whole from values pending e
    hears_else shared f t (body.Begin pn v value) h e = begin f t pn v value e
    hears_else shared f t (body.Accept pn v) h e = accept f t pn v e
    hears_else shared f t (body.Commit from values) h e = commit f t from values e
    hears_else shared f t (body.Lease own) h e = lease f t own e
    hears_else shared f t (body.LeaseAck own) h e = lease_ack f t own e
    hears_else shared f t (body.Forward seq c) h e = forward f t seq c e
    hears_else shared f t (body.Route seq r) h e = route f t seq r e
    hears_else shared f t body.GetCookieFull h e = get_cookie_full f e
    hears_else shared f t (body.GetCookieRecent own) h e = get_cookie_recent f own e
    hears_else shared f t (body.GetChunk cookie p) h e = get_chunk shared f cookie p e
    hears_else shared f t (body.NoCookie cookie) h e = no_cookie f cookie e
    hears_else shared f t (body.Ping table) h e = ping_comes f table e
    hears_else shared f t (body.PingReply table) h e = ping_reply f table e
    hears_else shared f t (body.Request id r) h e = drops e
    hears_else shared f t (body.Reply id r) h e = drops e
    hears_else shared f t other h e = absurd h

    -- ---- clients

    asks : (s : Session) (c : Command) → ask me now s c x ≡ Ok y → Still x y
    unfolding ask
    asks s c e = let no = A.leading in let nor = A.peon in let g = rw (no, nor) at e in keeps _ (record { changes = refl; phase = refl; requester = refl }) g

    reads : (s : Session) (reading : Readings → Reply) → read me now s reading x ≡ Ok y → Still x y
    reads s reading e = let no = A.leading in let nor = A.peon in let g = rw (no, nor) at e in keeps _ (record { changes = refl; phase = refl; requester = refl }) g

    pub hears_client : (s : Session) (r : Request) → hear_client me now s r x ≡ Ok y → Still x y
    unfolding hear_client
    hears_client s (request.Set key value) e = asks s (command.Set key value) e
    hears_client s (request.Remove key) e = asks s (command.Remove key) e
    hears_client s (request.Log text) e = asks s (command.Log text) e
    hears_client s (request.Show service) e = reads s (λ w. shown w service) e
    hears_client s (request.Since service v) e = reads s (λ w. since w service v) e

    -- ---- timers

    election : election_ends me now x ≡ Ok y → Still x y
    unfolding election_ends
    election e = let no = A.electing in let g = rw no at e in drops g

    renews : renew me now x ≡ Ok y → Still x y
    unfolding renew
    renews e = let no = A.active in let g = rw no at e in drops g

    proposes : propose_due me now x ≡ Ok y → Still x y
    unfolding propose_due
    proposes e = let no = A.active in let g = rw no at e in drops g

    pings : ping me now x ≡ Ok y → Still x y
    unfolding ping
    pings e = keeps _ (record { changes = refl; phase = refl; requester = refl }) e

    -- all but that of the replay
    abbrev pub IsElseTimer : Timer → Type 0
    IsElseTimer timer.Step = ⊥
    IsElseTimer other = Unit {0}

    pub rings_else : (t : Timer) → IsElseTimer t → timer_comes me now t x ≡ Ok y → Still x y
    rings_else timer.Election h e = election e
    rings_else timer.Renew h e = renews e
    rings_else timer.Step h e = absurd h
    rings_else timer.Propose h e = proposes e
    rings_else timer.Ping h e = pings e
    rings_else other h e = anew e
