-- A leader that found nothing leads calmly as soon as it gave the first leases.
use Rattle.law_names.proofs.Runs.{Monitors}
use Rattle.law_names.proofs.Table.{Op, State, has, readings_of}
use Rattle.quorum_stays.proofs.Onward.{pack, unpack}
use Rattle.quorum_stays.proofs.Peering.{PeonIn}
use Rattle.quorum_stays.specs.Steady.{Carries, FollowsSince, HasLease, LeadsSince, Noted, Reign, Steady}
use Rattle.quorum_timed.specs.Timed.{Pace, Timed}
use Rattle.std.proofs.Common.{Bool, List, None, Some, arith, false, refl, suc, true, zero, ℕ, ◌*◌, ◌+◌, ◌≡◌, ◌≤◌}
use Rattle.timed_failover.specs.Settling.{KeepsAtFirst, Opener, Opens, first_items, opening}

module _ (ms : Monitors) (q : List Bool) (pace : Pace) (reign : Reign) (version : ℕ) (value : List Op) (won : ℕ) (t : Timed) (short : 4 * pace.delay ≤ 3000) (S : Opens ms q pace reign version value won t) where
  lead : (s : State) × (t.world.state reign.leader ≡ Some s) × LeadsSince reign q (t.time + pace.clock reign.leader) s
  lead = unpack (LeadsSince reign q (t.time + pace.clock reign.leader)) (t.world.state reign.leader) S.lead

  peon : (i : ℕ) → has q i ≡ true → (i ≡ reign.leader → ⊥) → PeonIn ms q pace reign (opening version value won t.time) t i t.under_way
  peon i qi ni = by F.behind F.keeps F.to_come
    where
      F : Opener ms q pace reign version value won t.time t.world.messages (t.time + pace.delay) i (t.world.state i) (readings_of (t.world.store i)) (t.under_way reign.leader i) (t.under_way i reign.leader)
      F = S.peons i qi ni

      P : (s : State) × (t.world.state i ≡ Some s) × FollowsSince reign.leader q (won + pace.clock i) s
      P = unpack (FollowsSince reign.leader q (won + pace.clock i)) (t.world.state i) F.follows

      by : (b : Bool) → KeepsAtFirst b version value (readings_of (t.world.store i)) → Carries ms reign t.world.messages reign.leader i (t.time + pace.delay) (first_items reign pace b version value t.time) (t.under_way reign.leader i) → PeonIn ms q pace reign (opening version value won t.time) t i t.under_way
      by true keeps down = record {
        heard = zero;
        taken = zero;
        sent = omega arith;
        answered = omega arith;
        follows = F.follows;
        lease = pack (HasLease (pace.clock i) (opening version value won t.time) zero) (t.world.state i) P.0 P.1 tt;
        epoch = F.epoch;
        promise = F.promise;
        keeps = (keeps.0, keeps.1, keeps.2, refl);
        noted = pack (Noted i zero None) (t.world.state reign.leader) lead.0 lead.1 (λ z. absurd (omega arith));
        to_come = down;
        to_take = F.to_take;
      }
      by false keeps down = record {
        heard = suc zero;
        taken = zero;
        sent = omega arith;
        answered = omega arith;
        follows = F.follows;
        lease = pack (HasLease (pace.clock i) (opening version value won t.time) (suc zero)) (t.world.state i) P.0 P.1 (λ lt. absurd (omega arith));
        epoch = F.epoch;
        promise = F.promise;
        keeps = keeps;
        noted = pack (Noted i zero None) (t.world.state reign.leader) lead.0 lead.1 (λ z. absurd (omega arith));
        to_come = down;
        to_take = F.to_take;
      }

  pub opens : Steady ms q pace reign (opening version value won t.time) t
  opens = record {
    leads = S.leads;
    second = S.second;
    second_in = S.second_in;
    second_is = S.second_is;
    members = S.members;
    short = S.short;
    since = S.since;
    reached = omega arith;
    ordered = S.ordered;
    renewed = omega arith;
    apart = (let a = S.soon in omega arith);
    only_renewed = λ lt. absurd (omega arith);
    epoch = S.epoch;
    last = S.last;
    fits = S.fits;
    lead = S.lead;
    peons = peon;
    others = S.others;
  }
