-- A quorum stays led while clients' commands are remembered and answered.
use Rattle.law_names.proofs.Runs.{Envelope, Event, Monitors}
use Rattle.law_names.proofs.Table.{AllByRecursion, Clients, Readings, State, epoch_of, promise_of, readings_of}
use Rattle.mon_wire.specs.declared.phase.Phase.TheVariants as phase
use Rattle.quorum_stays.proofs.Carrying.{gives_none}
use Rattle.quorum_stays.proofs.Peering.{PeonIn}
use Rattle.quorum_stays.proofs.States.{quiet_follows, quiet_leads, quiet_lease, quiet_proposes}
use Rattle.quorum_stays.proofs.Stepping.{Did}
use Rattle.quorum_stays.proofs.Timers.{Tidy}
use Rattle.quorum_stays.proofs.Turning.{every_store, on_state, same_carried}
use Rattle.quorum_stays.specs.Steady.{Begun, FollowsSince, HasLease, IsOfClients, Keeps, Leads, Noted, Reign, Round, Steady, leased}
use Rattle.quorum_timed.proofs.Armed.{Timers}
use Rattle.quorum_timed.specs.Timed.{Pace, Timed, Went, at_time}
use Rattle.std.proofs.Common.{Bool, List, None, Option, Some, [], arith, refl, ℕ, ◌+◌, ◌≡◌, ◌≤◌}

quiet_leading : (n : ℕ) (q : List Bool) (pace : Pace) (reign : Reign) (r : Round) (o : Option Begun) (s : State) (clients : Clients) (ts : Timers) → Tidy s.timers ts → Leads n q pace reign r o s → Leads n q pace reign r o (record s { clients = clients; timers = ts })
quiet_leading n q pace reign r None s clients ts T F = quiet_leads reign q (r.latest + pace.clock reign.leader) s F clients ts T
quiet_leading n q pace reign r (Some b) s clients ts T P = record {
  proposes = quiet_proposes phase.Updating n reign q b.value (b.at + pace.clock reign.leader) s P.proposes clients ts T;
  made = P.made;
  fits = P.fits;
  after = P.after;
  before = P.before;
}

quiet_noted : (i taken : ℕ) (o : Option Begun) (s : State) (clients : Clients) (ts : Timers) → Noted i taken o s → Noted i taken o (record s { clients = clients; timers = ts })
quiet_noted i taken None s clients ts N = N
quiet_noted i taken (Some b) s clients ts N = N

module _ (ms : Monitors) (q : List Bool) (pace : Pace) (reign : Reign) (r : Round) (t next : Timed) (u : ℕ) (later : t.time ≤ u) (e : Event)
    (went : Went ms q pace (at_time ms q pace u t) e t.under_way next) (i : ℕ) (s : State) (clients : Clients) (ts : Timers) (T : Tidy s.timers ts) (es : List Envelope)
    (up : t.world.state i ≡ Some s) (D : Did t.world next.world i (record s { clients = clients; timers = ts }) [] es)
    (about : AllByRecursion (λ (m : Envelope). IsOfClients m.message.body) es) where
  abbrev after : State
  after = record s { clients = clients; timers = ts }

  store : (P : Readings → Type 0) (j : ℕ) → P (readings_of (t.world.store j)) → P (readings_of (next.world.store j))
  store P j k = every_store ms q pace reign t next u later e t.under_way went i s after [] es up D refl P j k

  -- a peon of a round
  pub quiet_peon : (j : ℕ) → PeonIn ms q pace reign r t j t.under_way → PeonIn ms q pace reign r next j next.under_way
  quiet_peon j F = record {
    heard = F.heard;
    taken = F.taken;
    sent = F.sent;
    answered = F.answered;
    follows = on_state ms q pace reign t next u later e t.under_way went i s after [] es up D (FollowsSince reign.leader q (leased r F.heard + pace.clock j)) (FollowsSince reign.leader q (leased r F.heard + pace.clock j)) j
        (λ _ G. quiet_follows reign.leader q (leased r F.heard + pace.clock j) s G clients ts T) (λ _ _ G. G) F.follows;
    lease = on_state ms q pace reign t next u later e t.under_way went i s after [] es up D (HasLease (pace.clock j) r F.heard) (HasLease (pace.clock j) r F.heard) j
        (λ _ G. quiet_lease (pace.clock j) r F.heard s clients ts G) (λ _ _ G. G) F.lease;
    epoch = store (λ w. epoch_of w ≡ reign.epoch) j F.epoch;
    promise = store (λ w. promise_of w ≡ reign.pn) j F.promise;
    keeps = store (Keeps r F.heard) j F.keeps;
    noted = on_state ms q pace reign t next u later e t.under_way went i s after [] es up D (Noted j F.taken r.next) (Noted j F.taken r.next) reign.leader
        (λ _ G. quiet_noted j F.taken r.next s clients ts G) (λ _ _ G. G) F.noted;
    to_come = same_carried ms q pace reign t next u later e t.under_way went i s after [] es up D reign.leader j _ F.to_come (gives_none ms reign reign.leader j es about);
    to_take = same_carried ms q pace reign t next u later e t.under_way went i s after [] es up D j reign.leader _ F.to_take (gives_none ms reign j reign.leader es about);
  }

  pub stays_quiet : Steady ms q pace reign r t → Steady ms q pace reign r next
  stays_quiet S = record {
    leads = S.leads;
    second = S.second;
    second_in = S.second_in;
    second_is = S.second_is;
    members = S.members;
    short = S.short;
    since = S.since;
    reached = (let a = S.reached in let c = went.time in omega arith);
    ordered = S.ordered;
    renewed = S.renewed;
    apart = S.apart;
    only_renewed = S.only_renewed;
    epoch = store (λ w. epoch_of w ≡ reign.epoch) reign.leader S.epoch;
    last = store (λ w. w.last ≡ r.version) reign.leader S.last;
    fits = S.fits;
    lead = on_state ms q pace reign t next u later e t.under_way went i s after [] es up D (Leads ms.count q pace reign r r.next) (Leads ms.count q pace reign r r.next) reign.leader
        (λ _ F. quiet_leading ms.count q pace reign r r.next s clients ts T F) (λ _ _ F. F) S.lead;
    peons = λ j qj nj. quiet_peon j (S.peons j qj nj);
    others = λ f j qf qj apart. same_carried ms q pace reign t next u later e t.under_way went i s after [] es up D f j [] (S.others f j qf qj apart) (gives_none ms reign f j es about);
  }
