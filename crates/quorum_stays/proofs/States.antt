-- What a leader and its peons remember after each event of a round.
use Rattle.law_names.proofs.Table.{Clients, LeaderStage, Op, Origin, Phase, State, Timer, are_within, armed, disarmed, end_of, has, index_of, list_all, no_ranks, only, only_ping, range_with_len, with_rank}
use Rattle.mon_lease.specs.Lease as lease
use Rattle.mon_wire.specs.declared.phase.Phase.TheVariants as phase
use Rattle.mon_wire.specs.declared.phase.Timer.TheVariants as timer
use Rattle.quorum_stays.proofs.Timers.{Extended, Tidy, armed_size, disarmed_size, ends, no_end, off, one_end, only_ping_is, same_kind_or, still_ends, still_on}
use Rattle.quorum_stays.specs.Steady.{FollowsSince, HasLease, LeadsSince, ProposesSince, Reign, Round}
use Rattle.quorum_timed.proofs.Armed.{Timers}
use Rattle.quorum_walk.proofs.Ranks.{has_only, has_only_is, has_with, within_at}
use Rattle.std.proofs.Common.{Bool, List, None, Some, [], ap, arith, cond, false, inl, inr, length, not, refl, subst, suc, sym, true, zero, ℕ, ◌&&◌, ◌+◌, ◌<◌, ◌^◌, ◌||◌, ◌∙◌, ◌∷◌, ◌≡◌, ◌≤◌}
use Rattle.std.proofs.lemmas.Bool.{false≢true}
use Rattle.std.proofs.lemmas.List.{length-set}

-- kinds are told apart by their numbers
unlike : (a b : Timer) → (index_of a ≡ index_of b → ⊥) → a ≡ b → ⊥
unlike a b ne e = ne (ap index_of e)

-- ---- a peon

module _ (leader : ℕ) (q : List Bool) (at : ℕ) (s : State) (F : FollowsSince leader q at s) where
  -- clients' commands came
  pub quiet_follows : (clients : Clients) (ts : Timers) → Tidy s.timers ts → FollowsSince leader q at (record s { clients = clients; timers = ts })
  quiet_follows clients ts T = record {
    follows = F.follows;
    leader_is = F.leader_is;
    quorum = F.quorum;
    kinds = T.size ∙ F.kinds;
    waits = λ end e. F.waits end (sym (T.same timer.Lease (unlike timer.Lease timer.Propose (λ z. omega arith))) ∙ e);
    only = λ kind end e. elim (same_kind_or kind timer.Propose) [
      | inl same ↦ inr same
      | inr ne ↦ F.only kind end (sym (T.same kind (λ z. ne (ap index_of z))) ∙ e)
    ];
  }

  -- a BEGIN came
  pub begun_follows : FollowsSince leader q at (record s { peon = record s.peon { lease = None } })
  begun_follows = record { follows = F.follows; leader_is = F.leader_is; quorum = F.quorum; kinds = F.kinds; waits = F.waits; only = F.only }

  -- a LEASE came
  pub leased_follows : (later now : ℕ) → later ≤ now → now + 10000 ≤ 2 ^ 62
      → FollowsSince leader q later (record s { peon = record s.peon { lease = lease.extended now }; timers = armed now timer.Lease s.timers })
  leased_follows later now le room = record {
    follows = F.follows;
    leader_is = F.leader_is;
    quorum = F.quorum;
    kinds = armed_size now timer.Lease s.timers F.kinds;
    waits = λ end e. (let x = one_end _ end (now + 10000) e (ends now timer.Lease s.timers F.kinds room) in omega arith);
    only = λ kind end e. elim (same_kind_or kind timer.Lease) [
      | inl same ↦ inl same
      | inr other ↦ F.only kind end (sym (still_ends now kind timer.Lease s.timers other) ∙ e)
    ];
  }

pub quiet_lease : (clock : ℕ) (r : Round) (heard : ℕ) (s : State) (clients : Clients) (ts : Timers) → HasLease clock r heard s → HasLease clock r heard (record s { clients = clients; timers = ts })
quiet_lease clock r zero s clients ts k = tt
quiet_lease clock r (suc zero) s clients ts k = k
quiet_lease clock r (suc (suc zero)) s clients ts k = k
quiet_lease clock r (suc (suc (suc more))) s clients ts k = tt

-- ---- sets

-- if all ranks of a below n are in b, the test of each rank from `from` on passes
all_from : (n : ℕ) (a b : List Bool) → ((f : ℕ) → f < n → has a f ≡ true → has b f ≡ true) → (len from : ℕ) → from + len ≤ n → list_all (λ k. not (has a k) || has b k) (range_with_len from len) ≡ true
all_from n a b h zero from le = refl
all_from n a b h (suc len) from le = by (all_from n a b h len (from + 1) (omega arith)) (has a from) refl
  where
    by : list_all (λ k. not (has a k) || has b k) (range_with_len (from + 1) len) ≡ true → (x : Bool) → has a from ≡ x → ((not (has a from) || has b from) && list_all (λ k. not (has a k) || has b k) (range_with_len (from + 1) len)) ≡ true
    by later true is = λ j. (not (is j) || h from (omega arith) is j) && later j
    by later false is = λ j. (not (is j) || has b from) && later j

pub all_within : (n : ℕ) (a b : List Bool) → ((f : ℕ) → f < n → has a f ≡ true → has b f ≡ true) → are_within n a b ≡ true
all_within n a b h = all_from n a b h n 0 (omega arith)

-- one is missing
pub record Missing (a b : List Bool) : Type 0 where
  pub rank : ℕ
  pub member : has a rank ≡ true
  pub missing : has b rank ≡ false

missing_from : (a b : List Bool) (len from : ℕ) → list_all (λ k. not (has a k) || has b k) (range_with_len from len) ≡ false → Missing a b
missing_from a b zero from e = absurd cc
missing_from a b (suc len) from e = by (has a from) (has b from) refl refl e (missing_from a b len (from + 1))
  where
    by : (x y : Bool) → has a from ≡ x → has b from ≡ y → ((not x || y) && list_all (λ k. not (has a k) || has b k) (range_with_len (from + 1) len)) ≡ false
        → (list_all (λ k. not (has a k) || has b k) (range_with_len (from + 1) len) ≡ false → Missing a b) → Missing a b
    by true false p r e later = record { rank = from; member = p; missing = r }
    by true true p r e later = later e
    by false true p r e later = later e
    by false false p r e later = later e

pub one_missing : (n : ℕ) (a b : List Bool) → are_within n a b ≡ false → Missing a b
one_missing n a b e = missing_from a b n 0 e

-- a set has the rank that is put into it
pub has_self : (o : List Bool) (j : ℕ) → j < length o → has (with_rank o j) j ≡ true
has_self [] j lt = absurd (omega arith)
has_self (b ∷ o) zero lt = refl
has_self (b ∷ o) (suc j) lt = has_self o j (omega arith)

-- ---- a leader that has no value in progress

module _ (reign : Reign) (q : List Bool) (at : ℕ) (s : State) (F : LeadsSince reign q at s) where
  pub quiet_leads : (clients : Clients) (ts : Timers) → Tidy s.timers ts → LeadsSince reign q at (record s { clients = clients; timers = ts })
  quiet_leads clients ts T = record {
    leads = F.leads;
    quorum = F.quorum;
    number = F.number;
    lease = F.lease;
    ranks = F.ranks;
    own = F.own;
    kinds = T.size ∙ F.kinds;
    renews = T.same timer.Renew (unlike timer.Renew timer.Propose (λ z. omega arith)) ∙ F.renews;
    awaits = λ end e. F.awaits end (sym (T.same timer.LeaseAck (unlike timer.LeaseAck timer.Propose (λ z. omega arith))) ∙ e);
    heard = λ all. T.same timer.LeaseAck (unlike timer.LeaseAck timer.Propose (λ z. omega arith)) ∙ F.heard all;
    only = λ kind end e. elim (same_kind_or kind timer.Propose) [
      | inl same ↦ inr (inr same)
      | inr ne ↦ F.only kind end (sym (T.same kind (λ z. ne (ap index_of z))) ∙ e)
    ];
  }

  -- it got an acknowledgement
  pub acknowledged : (n f : ℕ)
      → LeadsSince reign q at (record s {
        leader = record s.leader { acks = with_rank s.leader.acks f };
        timers = cond (are_within n s.leader.quorum (with_rank s.leader.acks f)) (disarmed timer.LeaseAck s.timers) s.timers;
      })
  acknowledged n f = by (are_within n s.leader.quorum (with_rank s.leader.acks f)) refl
    where
      by : (b : Bool) → are_within n s.leader.quorum (with_rank s.leader.acks f) ≡ b
          → LeadsSince reign q at (record s { leader = record s.leader { acks = with_rank s.leader.acks f }; timers = cond b (disarmed timer.LeaseAck s.timers) s.timers })
      by true is = record {
        leads = F.leads;
        quorum = F.quorum;
        number = F.number;
        lease = F.lease;
        ranks = length-set s.leader.acks f true ∙ F.ranks;
        own = has_with s.leader.acks f reign.leader F.own;
        kinds = disarmed_size timer.LeaseAck s.timers F.kinds;
        renews = still_on timer.Renew timer.LeaseAck s.timers (λ e. omega arith) ∙ F.renews;
        awaits = λ end e. no_end _ end (off timer.LeaseAck s.timers F.kinds) e;
        heard = λ _. off timer.LeaseAck s.timers F.kinds;
        only = λ kind end e. elim (same_kind_or kind timer.LeaseAck) [
          | inl same ↦ inr (inl same)
          | inr other ↦ F.only kind end (sym (still_on kind timer.LeaseAck s.timers other) ∙ e)
        ];
      }
      by false is = record {
        leads = F.leads;
        quorum = F.quorum;
        number = F.number;
        lease = F.lease;
        ranks = length-set s.leader.acks f true ∙ F.ranks;
        own = has_with s.leader.acks f reign.leader F.own;
        kinds = F.kinds;
        renews = F.renews;
        awaits = F.awaits;
        heard = λ all. absurd (false≢true (sym is ∙ all_within n s.leader.quorum (with_rank s.leader.acks f) (λ i lt k. all i (subst (λ (z : List Bool). has z i ≡ true) F.quorum k))));
        only = F.only;
      }

  -- the timers before it renews the leases
  pub bare_renewing : end_of timer.LeaseAck s.timers ≡ None → (kind : Timer) (end : ℕ) → end_of kind (disarmed timer.Renew s.timers) ≡ Some end → kind ≡ timer.Propose
  bare_renewing none kind end e = elim (same_kind_or kind timer.Renew) [
    | inl same ↦ no_end _ end (off timer.Renew s.timers F.kinds) (subst (λ (z : Timer). end_of z (disarmed timer.Renew s.timers) ≡ Some end) same e)
    | inr ne ↦ (let old = sym (still_on kind timer.Renew s.timers ne) ∙ e in elim (F.only kind end old) [
      | inl is ↦ absurd (ne (ap index_of is))
      | inr (inl is) ↦ no_end _ end none (subst (λ (z : Timer). end_of z s.timers ≡ Some end) is old)
      | inr (inr is) ↦ is
    ])
  ]

  -- it begins a value
  pub begun : (n second now : ℕ) (x : List Op) (o : Origin) (st : LeaderStage) (clients : Clients) (ts : Timers) → n ≤ 15 → reign.leader < 15 → second < n → has q second ≡ true → (second ≡ reign.leader → ⊥)
      → now + 10000 ≤ 2 ^ 62 → Tidy s.timers ts
      → ProposesSince phase.Updating n reign q x now (record s {
        phase = phase.Updating;
        leader = record s.leader { stage = st; accepted = only reign.leader; value = Some x; origin = Some o };
        clients = clients;
        timers = armed now timer.Accept (disarmed timer.LeaseAck (disarmed timer.Renew (only_ping ts)));
      })
  begun n second now x o st clients ts most few below inside other room T = record {
    leads = refl;
    quorum = F.quorum;
    number = F.number;
    proposed = refl;
    ranks = length-set no_ranks reign.leader true;
    own = has_only reign.leader few;
    more = fewer (are_within n q (only reign.leader)) refl;
    only = λ kind end e. elim (same_kind_or kind timer.Accept) [
      | inl same ↦ inr (same, (let x = one_end _ end (now + 10000) (subst (λ (z : Timer). end_of z (armed now timer.Accept left) ≡ Some end) same e) (ends now timer.Accept left size room) in omega arith))
      | inr ne ↦ (let p = only_ping_is ts kind end (kept kind end (sym (still_ends now kind timer.Accept left ne) ∙ e)) in
          absurd (no_ping end (sym (T.same timer.Ping (unlike timer.Ping timer.Propose (λ z. omega arith))) ∙ p.1)))
    ];
  }
    where
      left : Timers
      left = disarmed timer.LeaseAck (disarmed timer.Renew (only_ping ts))

      size : length (disarmed timer.LeaseAck (disarmed timer.Renew (only_ping ts))) ≡ 11
      size = refl

      kept : (kind : Timer) (end : ℕ) → end_of kind (disarmed timer.LeaseAck (disarmed timer.Renew (only_ping ts))) ≡ Some end → end_of kind (only_ping ts) ≡ Some end
      kept kind end e = elim (same_kind_or kind timer.LeaseAck) [
        | inl same ↦ no_end _ end (off timer.LeaseAck (disarmed timer.Renew (only_ping ts)) refl) (subst (λ (z : Timer). end_of z (disarmed timer.LeaseAck (disarmed timer.Renew (only_ping ts))) ≡ Some end) same e)
        | inr ne ↦ (let old = sym (still_on kind timer.LeaseAck (disarmed timer.Renew (only_ping ts)) ne) ∙ e in elim (same_kind_or kind timer.Renew) [
          | inl same ↦ no_end _ end (off timer.Renew (only_ping ts) refl) (subst (λ (z : Timer). end_of z (disarmed timer.Renew (only_ping ts)) ≡ Some end) same old)
          | inr ne2 ↦ sym (still_on kind timer.Renew (only_ping ts) ne2) ∙ old
        ])
      ]

      no_ping : (end : ℕ) → end_of timer.Ping s.timers ≡ Some end → ⊥
      no_ping end e = elim (F.only timer.Ping end e) [
        | inl is ↦ unlike timer.Ping timer.Renew (λ z. omega arith) is
        | inr (inl is) ↦ unlike timer.Ping timer.LeaseAck (λ z. omega arith) is
        | inr (inr is) ↦ unlike timer.Ping timer.Propose (λ z. omega arith) is
      ]

      fewer : (b : Bool) → are_within n q (only reign.leader) ≡ b → b ≡ false
      fewer false e = refl
      fewer true e = absurd (other (has_only_is reign.leader second (within_at n q (only reign.leader) second e below inside)))

-- It gave new leases.
pub extends : (reign : Reign) (q : List Bool) (second now : ℕ) (s : State) → reign.leader < 15 → has q second ≡ true → (second ≡ reign.leader → ⊥)
    → s.phase ≡ phase.Active → s.leader.quorum ≡ q → s.leader.pn ≡ reign.pn → s.leader.lease ≡ lease.extended now → s.leader.acks ≡ only reign.leader
    → now + 10000 ≤ 2 ^ 62 → (ts : Timers) (size : length ts ≡ 11) (bare : (kind : Timer) (end : ℕ) → end_of kind ts ≡ Some end → kind ≡ timer.Propose) (room : now + 10000 ≤ 2 ^ 62)
    → Extended now room ts size bare s.timers → LeadsSince reign q now s
extends reign q second now s few inside other leads quorum number gives acks le ts size bare room E = record {
  leads = leads;
  quorum = quorum;
  number = number;
  lease = gives ∙ ap Some (omega arith);
  ranks = ap length acks ∙ length-set no_ranks reign.leader true;
  own = subst (λ (z : List Bool). has z reign.leader ≡ true) (sym acks) (has_only reign.leader few);
  kinds = E.kinds;
  renews = E.renews;
  awaits = E.awaits;
  heard = λ all. absurd (other (has_only_is reign.leader second (subst (λ (z : List Bool). has z second ≡ true) acks (all second inside))));
  only = E.only;
}

-- ---- a leader that has a value in progress

module _ (p : Phase) (n : ℕ) (reign : Reign) (q : List Bool) (x : List Op) (at : ℕ) (s : State) (F : ProposesSince p n reign q x at s) where
  pub quiet_proposes : (clients : Clients) (ts : Timers) → Tidy s.timers ts → ProposesSince p n reign q x at (record s { clients = clients; timers = ts })
  quiet_proposes clients ts T = record {
    leads = F.leads;
    quorum = F.quorum;
    number = F.number;
    proposed = F.proposed;
    ranks = F.ranks;
    own = F.own;
    more = F.more;
    only = λ kind end e. elim (same_kind_or kind timer.Propose) [
      | inl same ↦ inl same
      | inr ne ↦ F.only kind end (sym (T.same kind (λ z. ne (ap index_of z))) ∙ e)
    ];
  }

  -- another member accepted it, and others are missing
  pub accepted : (f : ℕ) → are_within n q (with_rank s.leader.accepted f) ≡ false → ProposesSince p n reign q x at (record s { leader = record s.leader { accepted = with_rank s.leader.accepted f } })
  accepted f more = record {
    leads = F.leads;
    quorum = F.quorum;
    number = F.number;
    proposed = F.proposed;
    ranks = length-set s.leader.accepted f true ∙ F.ranks;
    own = has_with s.leader.accepted f reign.leader F.own;
    more = more;
    only = F.only;
  }

  -- the timers before it commits
  pub bare_committing : (kind : Timer) (end : ℕ) → end_of kind (only_ping (disarmed timer.Accept s.timers)) ≡ Some end → kind ≡ timer.Propose
  bare_committing kind end e =
      let p = only_ping_is (disarmed timer.Accept s.timers) kind end e in
      let old = sym (still_on timer.Ping timer.Accept s.timers (λ z. omega arith)) ∙ p.1 in
      elim (F.only timer.Ping end old) [
        | inl is ↦ absurd (unlike timer.Ping timer.Propose (λ z. omega arith) is)
        | inr is ↦ absurd (unlike timer.Ping timer.Accept (λ z. omega arith) is.0)
      ]
