-- Each member answers each read at once while leases are valid.
use Rattle.law_names.proofs.Runs.{Arrives, Client, Monitors, World, happens, moved}
use Rattle.law_names.proofs.Table.{Course, Entry, Me, Readings, Reply, Request, Session, State, Which, at_rest, has, hear_client, is_member, lease_of, react, read, readable, readings_of, reply_to, same_phase, shared_entries, shown, since, stands}
use Rattle.mon_msg.specs.declared.input.Input.TheVariants as input
use Rattle.mon_wire.specs.declared.phase.Phase.TheVariants as phase
use Rattle.mon_wire.specs.declared.request.Request.TheVariants as request
use Rattle.quorum_model.proofs.Members.{member_of}
use Rattle.quorum_stays.proofs.Bounds.{inside}
use Rattle.quorum_stays.proofs.Coming.{member}
use Rattle.quorum_stays.proofs.Onward.{one_state, unpack}
use Rattle.quorum_stays.proofs.Stepping.{becomes}
use Rattle.quorum_stays.specs.Reading.{IsAnswered, LeasesStand, Reads, ShowsStore}
use Rattle.quorum_stays.specs.Steady.{Reign, Round, Steady}
use Rattle.quorum_timed.specs.Timed.{Pace, Timed}
use Rattle.std.proofs.Common.{Bool, List, Ok, Result, Some, ap, eqb, false, ltb, refl, subst, true, ℕ, ◌+◌, ◌<◌, ◌∙◌, ◌≡◌}
use Rattle.std.proofs.lemmas.Bool.{lt-ltb, or_right}

-- a member whose lease is valid shows what its store keeps
module _ (ms : Monitors) (i : ℕ) (lt : ltb i ms.count ≡ true) (sh : List Entry) (now : ℕ) (w : Readings) (s : State) where
  abbrev me : Me
  me = member_of ms i lt

  pub record Shows (r : Request) (session : Session) (z : Result Course Which) : Type 0 where
    pub reply : Reply
    pub is : z ≡ Ok (reply_to session reply (at_rest w s))
    pub shows : ShowsStore w r reply

  module _ (member : is_member s.phase ≡ true) (some : ltb 0 w.last ≡ true) (valid : stands (lease_of s) now ≡ true) where
    can : readable w.last ms.count (lease_of s) now ≡ true
    can = let either = or_right (eqb ms.count 1) (stands (lease_of s) now) valid in rw (some, either) refl

    reads : (session : Session) (reading : Readings → Reply) → read me now session reading (at_rest w s) ≡ Ok (reply_to session (reading w) (at_rest w s))
    reads session reading = rw (member, can) refl

    asks : (session : Session) (r : Request) → Reads r → Shows r session (hear_client me now session r (at_rest w s))
    unfolding hear_client
    asks session (request.Show service) k = record { reply = shown w service; is = reads session (λ z. shown z service); shows = refl }
    asks session (request.Since service version) k = record { reply = since w service version; is = reads session (λ z. since z service version); shows = refl }
    asks session other k = absurd k

    pub show_row : (session : Session) (r : Request) → Reads r → same_phase s.phase phase.Booting ≡ false → Shows r session (react me sh now w s (input.Client session r))
    unfolding react
    show_row session r k up = rw up (asks session r k)

module _ (ms : Monitors) (q : List Bool) (pace : Pace) (reign : Reign) (r : Round) (t : Timed) (S : Steady ms q pace reign r t) (valid : LeasesStand q pace t)
    (i : ℕ) (qi : has q i ≡ true) (some : 0 < (readings_of (t.world.store i)).last) (session : Session) (request : Request) (k : Reads request) (after : World)
    (happened : happens ms t.world (Arrives (Client i (t.time + pace.clock i) session request)) ≡ Ok after) where
  abbrev now : ℕ
  now = t.time + pace.clock i

  abbrev L : (s : State) × (t.world.state i ≡ Some s) × (stands (lease_of s) now ≡ true)
  L = unpack (λ s. stands (lease_of s) now ≡ true) (t.world.state i) (valid i qi)

  abbrev lt : ltb i ms.count ≡ true
  lt = inside ms q pace reign r t S i qi

  row : Shows ms i lt (shared_entries (t.world.store i)) now (readings_of (t.world.store i)) L.0 request session (react (member_of ms i lt) (shared_entries (t.world.store i)) now (readings_of (t.world.store i)) L.0 (input.Client session request))
  row =
      let m = member ms q pace reign r t S i qi lt in
      let same : m.state ≡ L.0 = one_state (t.world.state i) m.state L.0 m.up L.1 in
      let in_quorum = subst (λ (z : State). is_member z.phase ≡ true) same m.in_quorum in
      let up = subst (λ (z : State). same_phase z.phase phase.Booting ≡ false) same m.awake in
      show_row ms i lt (shared_entries (t.world.store i)) now (readings_of (t.world.store i)) L.0 in_quorum (lt-ltb 0 (readings_of (t.world.store i)).last some) L.2 session request k up

  pub answers : IsAnswered t.world after i session request
  unfolding moved
  answers =
      let A = row in
      let next = becomes ms t.world after (Client i now session request) i lt now (input.Client session request) L.0 refl L.1 happened (reply_to session A.reply (at_rest (readings_of (t.world.store i)) L.0)) A.is in
      record { answer = _; one = ap (λ (z : World). z.replied) next ∙ refl; rank_is = refl; session_is = refl; shows = A.shows }
