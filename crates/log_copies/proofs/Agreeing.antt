-- An unmarked monitor that has versions of the log still has such versions after any input, or it begins a full
-- synchronization.
use Rattle.law_names.proofs.Runs.{AllValues}
use Rattle.law_names.proofs.Table.{Asked, Body, Cookie, Course, Entry, Me, Op, Place as ChunkPlace, Readings, Reply, Requester, Scores, Session, Store, SyncStage, ask_chunk, awaits_cookie, bootstrap, chunk, copy, epoch_of, first_place, grant, hear_chunk, hear_cookie, hear_get_chunk, hear_get_cookie_full, hear_get_cookie_recent, hear_last_chunk, hear_lease, hear_lease_ack, hear_no_cookie, hear_ping, hear_ping_reply, hear_probe, hear_route, is_after, is_cookie, is_member, is_ours, is_standing, lease_of, message_to, next_place, note_table, of_leader, of_member, of_provider, own_table, pending, quorum_of, read, readable, readings_of, replay_or_end, replay_step, reply_to, requester_is, same_cookie, same_flag, same_phase, same_place, say, shared_entries, step_in, take, takes_chunks, ◌▸◌}
use Rattle.log_copies.proofs.Acts.{Then, and_then, done, learns, says, where_fits, within}
use Rattle.log_copies.proofs.Given.{given}
use Rattle.log_copies.proofs.Rows.{OnLog, boots, branch, sends, tells_reply}
use Rattle.log_copies.proofs.Sending.{AllMatch, BodyMatches, ReplyMatches, chunk_tells}
use Rattle.log_copies.proofs.UnderWay.{place_same}
use Rattle.log_copies.specs.Versions.{HasVersions}
use Rattle.log_model.proofs.Records.{AreVersions}
use Rattle.mon_msg.specs.Protocol.Places as places
use Rattle.mon_msg.specs.declared.plan.Sent.TheVariants as sent
use Rattle.mon_msg.specs.declared.synchronization.SyncStage.TheVariants as sync
use Rattle.mon_types.specs.declared.names.Which.TheVariants as which
use Rattle.mon_wire.specs.declared.body.Body.TheVariants as body
use Rattle.mon_wire.specs.declared.phase.Phase.TheVariants as phase
use Rattle.mon_wire.specs.declared.reply.Reply.TheVariants as reply
use Rattle.std.proofs.Common.{Bool, List, None, Ok, Option, Some, [], ap, eqb, false, filter, is_some, length, ltb, map, not, slice_index_or, subst, suc, sym, true, ℕ, ◌&&◌, ◌+◌, ◌<◌, ◌^◌, ◌||◌, ◌∙◌, ◌∷◌, ◌≡◌, ◌≤◌}
use Rattle.std.proofs.lemmas.Bool.{and_parts}

-- ---- a monitor that takes the versions that it lacks

abbrev pub RecentStage : Readings → SyncStage → ChunkPlace → Type 0
RecentStage w sync.Cookie p = Unit {0}
RecentStage w sync.Chunks p = p.version ≡ w.last
RecentStage w (sync.Replay next end) p = ⊥

pub record IsRecent (w : Readings) (q : Requester) : Type 0 where
  pub full : q.full ≡ false
  pub stage : RecentStage w q.stage q.place

module _ (log : List (List ℕ)) (fits : length log ≤ 2 ^ 62) (all : AllValues log) (m : Store) (me : Me) (several : 1 < me.member.monitors) (now : ℕ) where
  abbrev pub Here : Course → Type 0
  Here x = OnLog log fits all m me several now x

  pub stay : {x : Course} → Here x → Then Here (Ok x)
  stay {x} H = done Here x H

  tells : (x : Course) (e : ℕ) (b : Body) (to : ℕ) → BodyMatches log b → Here x → Then Here (Ok (say (message_to me e b to ∷ []) x))
  tells x e b to h H = done Here (say (message_to me e b to ∷ []) x) (sends log fits all m me several now e b to h H)

  pub again : (x : Course) → Here x → Then Here (bootstrap me now x)
  again x H = boots log fits all m me several now x H

  -- ---- rows that learn nothing

  pub probe_comes : (f : ℕ) (x : Course) → Here x → Then Here (hear_probe me f x)
  unfolding hear_probe
  probe_comes f x H = branch {b = x.readings.marked} (λ t. stay H) (λ t. tells x (epoch_of x.readings) (body.ProbeReply (quorum_of x.state) x.readings.first x.readings.last) f (within log fits all m H) H)

  pub lease_comes : (f e last : ℕ) (x : Course) → Here x → Then Here (hear_lease me now f e last x)
  unfolding hear_lease
  lease_comes f e last x H =
      branch {b = not (of_leader f e x) || not (eqb last x.readings.last) || is_some (pending x.readings)} (λ t. stay H)
      (λ t. done Here _ (sends log fits all m me several now (epoch_of x.readings) (body.LeaseAck x.readings.last) f (within log fits all m H) H))

  pub lease_ack_comes : (f e last : ℕ) (x : Course) → Here x → Then Here (hear_lease_ack me f e last x)
  unfolding hear_lease_ack
  lease_ack_comes f e last x H = branch {b = not (of_member (phase.Active ∷ []) f e x && eqb last x.readings.last)} (λ t. stay H) (λ t. stay H)

  pub route_comes : (f e seq : ℕ) (r : Reply) (x : Course) → ReplyMatches log r → Here x → Then Here (hear_route f e seq r x)
  unfolding hear_route
  route_comes f e seq r x told H = branch {b = not (of_leader f e x)} (λ t. stay H) (λ t. done Here _ (says log fits all m (map (λ a. sent.Reply a.session r) asked) (replied asked) H))
    where
      asked : List Asked
      asked = filter (λ a. eqb a.seq seq) x.state.clients.sessions

      replied : (asked : List Asked) → AllMatch log (map (λ a. sent.Reply a.session r) asked)
      replied [] = tt
      replied (a ∷ asked) = (told, replied asked)

  grants : (full : Bool) (f : ℕ) (x : Course) → Here x → Then Here (grant me full f x)
  grants full f x H =
      where_fits Here which.Cookie x.state.provider.next_cookie _ (done Here _
      (sends log fits all m me several now (epoch_of x.readings) (body.Cookie full (record { boot = x.readings.boot; seq = x.state.provider.next_cookie }) x.readings.last) f (within log fits all m H) H))

  pub get_cookie_full : (f : ℕ) (x : Course) → Here x → Then Here (hear_get_cookie_full me f x)
  unfolding hear_get_cookie_full
  get_cookie_full f x H = branch {b = x.readings.marked} (λ t. stay H) (λ t. grants true f x H)

  pub get_cookie_recent : (f own : ℕ) (x : Course) → Here x → Then Here (hear_get_cookie_recent me f own x)
  unfolding hear_get_cookie_recent
  get_cookie_recent f own x H =
      branch {b = x.readings.marked} (λ t. stay H) (λ t. branch {b = ltb (suc own) x.readings.first}
      (λ u. tells x (epoch_of x.readings) (body.NoCookie places.no_cookie) f tt H) (λ u. grants false f x H))

  pub get_chunk : (f : ℕ) (c : Cookie) (p : ChunkPlace) (x : Course) → HasVersions log x.readings.last m → x.readings ≡ readings_of m → p.version ≤ x.readings.last → Here x
      → Then Here (hear_get_chunk me (shared_entries m) f c p x)
  unfolding hear_get_chunk readings_of
  get_chunk f c p x V is low H =
      let n = me.member.monitors in
      let left = filter (is_after p.key) (shared_entries m) in
      branch {b = x.readings.marked} (λ t. stay H)
      (λ t. branch {b = not (is_cookie c (slice_index_or x.state.provider.cookies f None)) || ltb (suc p.version) x.readings.first} (λ u. tells x (epoch_of x.readings) (body.NoCookie c) f tt H)
      (λ u. tells x (epoch_of x.readings) (chunk x.readings.last c p left n x.readings.record_of) f
      (subst (λ (w : Readings). BodyMatches log (chunk x.readings.last c p left n w.record_of)) (sym is) (chunk_tells log x.readings.last c p left n (let w = readings_of m in w.record_of) (given log fits all x.readings.last V.within m V.folded V.last p low c n))) H))

  pub cookie_comes : (f : ℕ) (full : Bool) (c : Cookie) (last : ℕ) (x : Course) → Here x → Then Here (hear_cookie me now f full c last x)
  unfolding hear_cookie
  cookie_comes f full c last x H =
      branch {b = not (of_provider f x && awaits_cookie x.state.requester.stage && same_flag full x.state.requester.full) || (full && ltb last x.readings.floor)} (λ t. stay H)
      (λ t. done Here _ (sends log fits all m me several now (epoch_of x.readings) (body.GetChunk c (first_place full last x.readings.last)) x.state.requester.provider tt H))

  pub no_cookie : (f : ℕ) (c : Cookie) (x : Course) → Here x → Then Here (hear_no_cookie me now f c x)
  unfolding hear_no_cookie
  no_cookie f c x H =
      branch {b = of_provider f x && (is_cookie c x.state.requester.cookie || (awaits_cookie x.state.requester.stage && not x.state.requester.full && same_cookie c places.no_cookie))}
      (λ t. again x H) (λ t. stay H)

  pub ping_comes : (f : ℕ) (table : Option Scores) (x : Course) → Here x → Then Here (hear_ping me f table x)
  unfolding hear_ping
  ping_comes f None x H = stay H
  ping_comes f (Some table) x H = done Here _ (sends log fits all m me several now (epoch_of x.readings) (body.PingReply (own_table me (note_table f table x))) f tt H)

  pub ping_reply : (f : ℕ) (table : Option Scores) (x : Course) → Here x → Then Here (hear_ping_reply f table x)
  unfolding hear_ping_reply
  ping_reply f None x H = stay H
  ping_reply f (Some table) x H = stay H

  -- ---- the versions that it lacks

  module _ (x : Course) (recent : same_phase x.state.phase phase.Synchronizing ≡ true → IsRecent x.readings x.state.requester) (H : Here x) where
    in_chunks : (g : SyncStage) (p : ChunkPlace) → takes_chunks g ≡ true → RecentStage x.readings g p → p.version ≡ x.readings.last
    in_chunks sync.Cookie p e h = absurd cc
    in_chunks sync.Chunks p e h = h
    in_chunks (sync.Replay next end) p e h = absurd cc

    copies : (b : Bool) (v : ℕ) (values : List (List Op)) (entries : List Entry) → b ≡ false → v ≡ suc x.readings.last → AreVersions log v values → Then Here (copy b v values entries x)
    copies true v values entries e is W = absurd cc
    copies false v values entries e is W = learns log fits all m v values x is W H

    -- a chunk of its provider begins after its last version
    record Ours (p : ChunkPlace) : Type 0 where
      full : x.state.requester.full ≡ false
      next : suc p.version ≡ suc x.readings.last

    ours : (f : ℕ) (c : Cookie) (p : ChunkPlace) → is_ours f c p x ≡ true → Ours p
    ours f c p h =
        let a = and_parts (of_provider f x && takes_chunks x.state.requester.stage && is_cookie c x.state.requester.cookie) (same_place p x.state.requester.place) h in
        let b = and_parts (of_provider f x && takes_chunks x.state.requester.stage) (is_cookie c x.state.requester.cookie) a.0 in
        let d = and_parts (of_provider f x) (takes_chunks x.state.requester.stage) b.0 in
        let R = recent (and_parts (same_phase x.state.phase phase.Synchronizing) _ d.0).0 in
        record {
          full = R.full;
          next = ap (λ (q : ChunkPlace). suc q.version) (place_same p x.state.requester.place a.1) ∙ ap suc (in_chunks x.state.requester.stage x.state.requester.place d.1 R.stage);
        }

    takes : (p : ChunkPlace) (values : List (List Op)) (entries : List Entry) (end : Bool) → Ours p → AreVersions log (suc p.version) values → Then Here (take p values entries end x)
    takes p values entries end O W =
        where_fits Here which.Version (p.version + length values) _
        (and_then Here Here (copy x.state.requester.full (suc p.version) values entries x) (λ y. Ok (y ▸ requester_is (record y.state.requester { place = next_place p (p.version + length values) entries end })))
        (copies x.state.requester.full (suc p.version) values entries O.full O.next W) (λ y K. stay K))

    pub chunk_comes : (f : ℕ) (c : Cookie) (p : ChunkPlace) (values : List (List Op)) (entries : List Entry) (end : Bool) → AreVersions log (suc p.version) values → Then Here (hear_chunk me now f c p values entries end x)
    unfolding hear_chunk
    chunk_comes f c p values entries end W =
        branch {b = is_ours f c p x}
        (λ t. and_then Here Here (take p values entries end x) (λ y. Ok (ask_chunk me now c y.state.requester.place y)) (takes p values entries end (ours f c p t) W)
        (λ y K. done Here _ (sends log fits all m me several now (epoch_of y.readings) (body.GetChunk c y.state.requester.place) y.state.requester.provider tt K))) (λ t. stay H)

    pub last_chunk_comes : (f : ℕ) (c : Cookie) (p : ChunkPlace) (values : List (List Op)) (entries : List Entry) (own : ℕ) → AreVersions log (suc p.version) values
        → Then Here (hear_last_chunk me now f c p values entries own x)
    unfolding hear_last_chunk
    last_chunk_comes f c p values entries own W =
        branch {b = is_ours f c p x} (λ t. and_then Here Here (take p values entries true x) (replay_or_end me now own) (takes p values entries true (ours f c p t) W) (λ y K.
        branch {b = y.state.requester.full} (λ u. where_fits Here which.Version (suc y.state.requester.start) _ (stay K)) (λ u. again y K))) (λ t. stay H)

    no_replay : (g : SyncStage) (p : ChunkPlace) → RecentStage x.readings g p → Then Here (step_in me now g x)
    no_replay sync.Cookie p h = stay H
    no_replay sync.Chunks p h = stay H
    no_replay (sync.Replay next end) p h = absurd h

    pub steps_none : Then Here (replay_step me now x)
    unfolding replay_step
    steps_none = branch {b = same_phase x.state.phase phase.Synchronizing} (λ t. let R = recent t in no_replay x.state.requester.stage x.state.requester.place R.stage) (λ t. stay H)

  -- ---- clients that read

  pub reads : (s : Session) (reading : Readings → Reply) (x : Course) → ReplyMatches log (reading x.readings) → Here x → Then Here (read me now s reading x)
  reads s reading x told H =
      branch {b = not (is_member x.state.phase)} (λ t. replied reply.Unavailable tt) (λ t. branch {b = not (readable x.readings.last me.member.monitors (lease_of x.state) now)}
      (λ u. replied (reply.NotReadable x.readings.last (is_standing me now x.state)) tt) (λ u. replied (reading x.readings) told))
    where
      replied : (r : Reply) → ReplyMatches log r → Then Here (Ok (reply_to s r x))
      replied r h = done Here (reply_to s r x) (tells_reply log fits all m me several now s r h H)
