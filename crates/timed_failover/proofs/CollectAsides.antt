-- A new leader still asks after an event that is no part of its round arrives at it, or to a member that follows it.
use Rattle.law_names.proofs.Runs.{Envelope, Event, Monitors, messages_of}
use Rattle.law_names.proofs.Table.{Clients, Course, Entry, Input, Me, Origin, Readings, Reply, Session, State, index_of, same_phase}
use Rattle.log_model.proofs.Lists.{all_map}
use Rattle.mon_wire.specs.declared.phase.Phase.TheVariants as phase
use Rattle.mon_wire.specs.declared.phase.Timer.TheVariants as timer
use Rattle.quorum_stays.proofs.Outcomes.{Outcome, messages_for_clients}
use Rattle.quorum_stays.proofs.States.{quiet_follows}
use Rattle.quorum_stays.proofs.Stepping.{Did}
use Rattle.quorum_stays.proofs.Timers.{Tidy, same_kind_or}
use Rattle.quorum_stays.specs.Steady.{IsOfClients}
use Rattle.quorum_timed.proofs.Armed.{Timers}
use Rattle.quorum_timed.specs.Timed.{Owed, Pace, Timed, Went, at_time}
use Rattle.std.proofs.Common.{Bool, List, Option, Some, ap, false, inl, inr, subst, sym, ℕ, ◌+◌, ◌∙◌, ◌≡◌, ◌≤◌}
use Rattle.std.proofs.lemmas.Bool.{false≢true}
use Rattle.timed_election.proofs.Coming.{How}
use Rattle.timed_failover.proofs.CollectKeeps.{IsApart, L}
use Rattle.timed_failover.proofs.CollectQuiets.{still_asked}
use Rattle.timed_failover.specs.Collecting.{Collects, Electing, Following, IsAs, IsAsked, IsNoted, Noted, Progress, Promised, Query}

-- ---- clients' commands came

quiet_collects : (n : ℕ) (q : List Bool) (x : Query) (at : ℕ) (w : Readings) (s : State) (clients : Clients) (ts : Timers) → Tidy s.timers ts → Collects n q x at w s → Collects n q x at w (record s { clients = clients; timers = ts })
quiet_collects n q x at w s clients ts T K = record {
  collects = K.collects;
  quorum = K.quorum;
  number = K.number;
  ranks = K.ranks;
  long = K.long;
  own = K.own;
  more = K.more;
  found = K.found;
  kinds = T.size ∙ K.kinds;
  only = λ kind end e. elim (same_kind_or kind timer.Propose) [
    | inl same ↦ inl same
    | inr ne ↦ K.only kind end (sym (T.same kind (λ z. ne (ap index_of z))) ∙ e)
  ];
}

quiet_noted : (n : ℕ) (pace : Pace) (x : Query) (j : ℕ) (l w : Readings) (p : Progress) (s : State) (clients : Clients) (ts : Timers) → IsNoted n pace x j l w p s → IsNoted n pace x j l w p (record s { clients = clients; timers = ts })
quiet_noted n pace x j l w Electing s clients ts k = k
quiet_noted n pace x j l w Following s clients ts k = k
quiet_noted n pace x j l w Promised s clients ts k = k
quiet_noted n pace x j l w Noted s clients ts k = k

quiet_member : (n : ℕ) (pace : Pace) (x : Query) (q : List Bool) (i : ℕ) (p : Progress) (s : State) (clients : Clients) (ts : Timers) → Tidy s.timers ts → s.phase ≡ phase.Peon → IsAs n pace x q i p s → IsAs n pace x q i p (record s { clients = clients; timers = ts })
quiet_member n pace x q i Electing s clients ts T follows k = let e = k.elects in absurd cc
quiet_member n pace x q i Following s clients ts T follows k = quiet_follows x.election.best q (x.won + pace.clock i) s k clients ts T
quiet_member n pace x q i Promised s clients ts T follows k = quiet_follows x.election.best q (x.won + pace.clock i) s k clients ts T
quiet_member n pace x q i Noted s clients ts T follows k = quiet_follows x.election.best q (x.won + pace.clock i) s k clients ts T

-- ---- the event

module _ (ms : Monitors) (q : List Bool) (pace : Pace) (x : Query) (t : Timed) (u : ℕ) (later : t.time ≤ u) (next : Timed) (e : Event) (left : ℕ → ℕ → List Owed) (X : IsAsked ms q pace x (record t { under_way = left })) (went : Went ms q pace (at_time ms q pace u t) e left next)
    (i : ℕ) (came : Input) (s : State) (up : t.world.state i ≡ Some s) (y : Course) (how : How ms q pace t u i came e left s) (D : Did t.world next.world i y.state y.changes (messages_of y.out))
    (me : Me) (sh : List Entry) (now : ℕ) (w : Readings) (taken : Option Origin) (Asks : Session → Type 0) (Brings : ℕ → Reply → Type 0) where
  pub aside_asked : Outcome me sh now w s taken Asks Brings y → same_phase s.phase phase.Active ≡ false → ((i ≡ L ms q pace x → ⊥) → s.phase ≡ phase.Peon) → IsAsked ms q pace x next
  aside_asked (inr B) active peon = absurd (false≢true (sym active ∙ B.active))
  aside_asked (inl Q) active peon = still_asked ms q pace x t u later next e left X went i came s up y how D Q.unwritten
      (all_map (λ (m : Envelope). IsOfClients m.message.body) (IsApart ms q pace x) (λ m k. inl k) (messages_of y.out) (messages_for_clients y.out Q.about))
      (λ _ v K. subst (Collects ms.count q x (x.won + pace.clock x.election.best) v) (sym Q.state) (quiet_collects ms.count q x (x.won + pace.clock x.election.best) v s Q.clients Q.timers Q.tidy K))
      (λ _ j l v p k. subst (IsNoted ms.count pace x j l v p) (sym Q.state) (quiet_noted ms.count pace x j l v p s Q.clients Q.timers k))
      (λ ne p k. subst (IsAs ms.count pace x q i p) (sym Q.state) (quiet_member ms.count pace x q i p s Q.clients Q.timers Q.tidy (peon ne) k))
