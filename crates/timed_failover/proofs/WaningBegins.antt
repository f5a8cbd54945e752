-- A quorum that is led and loses a peon while nobody writes.
use Rattle.law_names.proofs.Runs.{Monitors}
use Rattle.law_names.proofs.Table.{State, has}
use Rattle.quorum_stays.proofs.Bounds.{leading}
use Rattle.quorum_stays.proofs.Onward.{pack}
use Rattle.quorum_stays.proofs.Peering.{PeonIn}
use Rattle.quorum_stays.specs.Serving.{NothingWaits}
use Rattle.quorum_stays.specs.Steady.{Begun, Leads, LeadsSince, Reign, Round, Steady}
use Rattle.quorum_timed.specs.Timed.{Pace, Timed}
use Rattle.std.proofs.Common.{Bool, IsSomeAnd, List, None, Option, [], arith, inl, inr, subst, sym, true, ℕ, ◌+◌, ◌∙◌, ◌≡◌, ◌≤◌}
use Rattle.std.proofs.lemmas.Bool.{cases_eq, false≢true}
use Rattle.timed_failover.proofs.Waning.{Waning, calm}
use Rattle.timed_failover.proofs.WaningFrame.{Renewer}
use Rattle.timed_failover.specs.Failover.{IsWithout, NoCallIsUnderWay, from_time}

module _ (ms : Monitors) (full q : List Bool) (pace : Pace) (earlier : ℕ) (reign : Reign) (r : Round) (t : Timed) (soon : pace.since ≤ r.latest + 3000 + pace.late)
    (S : Steady ms full (from_time earlier pace) reign r t) (lost : ℕ) (W : IsWithout full q lost) (other : lost ≡ reign.leader → ⊥) (none : r.next ≡ None) (N : NothingWaits q reign t) (silent : NoCallIsUnderWay q t) where
  abbrev before : Pace
  before = from_time earlier pace

  -- a member that is left was a member
  was_member : (i : ℕ) → has q i ≡ true → has full i ≡ true
  was_member i qi = elim (cases_eq i lost) [
    | inl e ↦ absurd (false≢true (sym W.gone ∙ subst (λ (z : ℕ). has q z ≡ true) e qi))
    | inr ne ↦ sym (W.others i ne) ∙ qi
  ]

  -- the leader
  renews : IsSomeAnd (t.world.state reign.leader) (Renewer ms full q pace reign r)
  renews =
      let l = leading ms full before reign r t S in
      let F : LeadsSince reign full (r.latest + pace.clock reign.leader) l.0 = subst (λ (o : Option Begun). Leads ms.count full before reign r o l.0) none l.2 in
      pack (Renewer ms full q pace reign r) (t.world.state reign.leader) l.0 l.1 (record {
        leads = F.leads;
        quorum = F.quorum;
        number = F.number;
        queue = subst (λ (o : Option State). IsSomeAnd o (λ s. s.clients.queue ≡ [])) l.1 N.queue;
        ranks = F.ranks;
        kinds = F.kinds;
        renews = F.renews;
        awaits = λ end e. (let a = F.awaits end e in let b = S.renewed in omega arith);
        only = F.only;
      })

  -- a peon
  follows : (i : ℕ) → has q i ≡ true → (i ≡ reign.leader → ⊥) → PeonIn ms full pace reign (calm r) t i t.under_way
  follows i qi ni =
      let same : r ≡ calm r = (λ d. record r { next = none d }) in
      let F : PeonIn ms full before reign (calm r) t i t.under_way = subst (λ (z : Round). PeonIn ms full before reign z t i t.under_way) same (S.peons i (was_member i qi) ni) in record {
        heard = F.heard;
        taken = F.taken;
        sent = F.sent;
        answered = F.answered;
        follows = F.follows;
        lease = F.lease;
        epoch = F.epoch;
        promise = F.promise;
        keeps = F.keeps;
        noted = F.noted;
        to_come = F.to_come;
        to_take = F.to_take;
      }

  pub begins : Waning ms full q pace reign r t
  begins = record {
    leads = W.others reign.leader (λ e. other (sym e)) ∙ S.leads;
    within = was_member;
    second = S.second;
    second_in = S.second_in;
    second_is = S.second_is;
    members = S.members;
    short = S.short;
    since = soon;
    reached = S.reached;
    ordered = S.ordered;
    renewed = S.renewed;
    apart = (let a = S.apart in omega arith);
    epoch = S.epoch;
    last = S.last;
    fits = S.fits;
    lead = renews;
    peons = follows;
    others = λ f i qf qi a. S.others f i (was_member f qf) (was_member i qi) a;
    quiet = N.under_way;
    uncalled = silent;
  }
