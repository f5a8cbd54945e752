-- What arrives at a peon of a quorum that lost another, and what changes nothing at any member.
use Rattle.law_names.proofs.Runs.{Arrives, Client, Deliver, Envelope, Monitors, Ring, message_at}
use Rattle.law_names.proofs.Table.{Request, Session, State, epoch_of, has, readings_of, shared_entries}
use Rattle.mon_msg.specs.declared.input.Input.TheVariants as input
use Rattle.mon_wire.specs.declared.phase.Timer.TheVariants as timer
use Rattle.mon_wire.specs.declared.request.Request.TheVariants as request
use Rattle.quorum_model.proofs.Members.{member_of}
use Rattle.quorum_stays.proofs.Onward.{other_left}
use Rattle.quorum_stays.proofs.Outcomes.{AsksAs, BringsNone, BringsRoute, NobodyAsks, aside_row, client_row, propose_row}
use Rattle.quorum_stays.proofs.Peering.{PeonIn, Popped, pop_down, pop_other, pop_up}
use Rattle.quorum_stays.proofs.Peons.{P, Took, takes_commit, takes_lease}
use Rattle.quorum_stays.proofs.Stepping.{brought}
use Rattle.quorum_stays.proofs.Taking.{no_forward, taken_request}
use Rattle.quorum_stays.proofs.Turning.{other_state, other_store}
use Rattle.quorum_stays.specs.Reading.{ClocksGoOn, Reads}
use Rattle.quorum_stays.specs.Serving.{HandsOnNothing, IsForward}
use Rattle.quorum_stays.specs.Steady.{AreApart, Carries, FollowsSince, IsAside, IsItem, Item, Noted, Reign, Round, leased, said, to_leader, to_peon}
use Rattle.quorum_timed.specs.Begins.{IsQuick}
use Rattle.quorum_timed.specs.Timed.{MayBe, Owed, Pace, Timed, Went, at_time, without_first}
use Rattle.std.proofs.Common.{Bool, IfSome, List, None, Option, Some, [], ap, arith, drop, inl, inr, option_map, refl, subst, suc, sym, take, true, zero, ℕ, ◌+◌, ◌∙◌, ◌∷◌, ◌≡◌}
use Rattle.timed_failover.proofs.Waning.{Waning, calm}
use Rattle.timed_failover.proofs.WaningFrame.{Renewer, about_peon, calm_popped, wanes_on, went_full}
use Rattle.timed_failover.proofs.WaningQuiets.{quiet}
use Rattle.timed_failover.proofs.WaningTimes.{by_lease, inside}

module _ (ms : Monitors) (full q : List Bool) (pace : Pace) (reign : Reign) (r : Round) (t : Timed) (S : Waning ms full q pace reign r t) where
  -- ---- a message is gone that is of no round

  wanes_popped : (f i : ℕ) → has q f ≡ true → has q i ≡ true → (o : Owed) (others : List Owed) → t.under_way f i ≡ o ∷ others → Popped ms full pace reign (calm r) t q S.peons S.others f i others
      → Waning ms full q pace reign r (record t { under_way = without_first f i others t.under_way })
  wanes_popped f i qf qi o others first k = wanes_on ms full q pace reign r t S (record t { under_way = without_first f i others t.under_way }) (omega arith) S.epoch S.last S.lead k (calm_popped ms full q pace reign r t S f i qf qi o others first)

  -- ---- what changes nothing but what is remembered of clients

  module _ (u : ℕ) (M : MayBe ms q pace t u) (next : Timed) where
    -- a message of no round, to any member
    aside_comes : (f i : ℕ) (qf : has q f ≡ true) (qi : has q i ≡ true) (o : Owed) (others : List Owed) (first : t.under_way f i ≡ o ∷ others) → Popped ms full pace reign (calm r) t q S.peons S.others f i others → (c : IsAside reign.epoch t.world.messages f i o)
        → Went ms q pace (at_time ms q pace u t) (Arrives (Deliver o.number (u + pace.clock i))) (without_first f i others t.under_way) next → Waning ms full q pace reign r next
    aside_comes f i qf qi o others first k c went =
        let T : Waning ms full q pace reign r (record t { under_way = without_first f i others t.under_way }) = wanes_popped f i qf qi o others first k in
        quiet ms full q pace reign r (record t { under_way = without_first f i others t.under_way }) T u M.later next (Deliver o.number (u + pace.clock i))
        (record { happened = went.happened; time = went.time; sent = went.sent; calls = went.calls }) i qi (input.Deliver c.envelope.message) comes (λ s. refl) NobodyAsks
        (λ s. BringsRoute (member_of ms i (inside ms full q pace reign r (record t { under_way = without_first f i others t.under_way }) T i qi)) (readings_of (t.world.store i)) s c.envelope.message c.envelope.message.body) (λ y k. k)
        (λ s same. no_forward (member_of ms i (inside ms full q pace reign r (record t { under_way = without_first f i others t.under_way }) T i qi)) (readings_of (t.world.store i)) s c.envelope.message (plain same))
        (λ m. aside_row (member_of ms i (inside ms full q pace reign r (record t { under_way = without_first f i others t.under_way }) T i qi)) (shared_entries (t.world.store i)) (u + pace.clock i) (readings_of (t.world.store i)) m.state m.several m.awake reign.epoch f c.envelope.message m.epoch
        (subst (λ (a : List Bool). has a f ≡ true) (sym m.quorum) (S.within f qf)) c.aside)
      where
        comes : option_map (brought (u + pace.clock i)) (message_at t.world.messages o.number) ≡ Some (record { rank = i; at = u + pace.clock i; input = input.Deliver c.envelope.message })
        comes = ap (option_map (brought (u + pace.clock i))) c.there ∙ (λ d. Some (record { rank = c.receiver d; at = u + pace.clock i; input = input.Deliver c.envelope.message }))

        -- it hands on no command
        plain : i ≡ reign.leader → IsForward c.envelope.message.body → ⊥
        plain same =
            let list : t.under_way f reign.leader ≡ o ∷ others = subst (λ (z : ℕ). t.under_way f z ≡ o ∷ others) same first in
            let all : HandsOnNothing t.world.messages (o ∷ others) = subst (HandsOnNothing t.world.messages) list (S.quiet f qf) in
            subst (λ (z : Option Envelope). IfSome z (λ m. IsForward m.message.body → ⊥)) c.there all.0

    -- a message of no round, from a peon to the leader
    pub aside_up : (f : ℕ) (qf : has q f ≡ true) (nf : f ≡ reign.leader → ⊥) (o : Owed) (others : List Owed) → t.under_way f reign.leader ≡ o ∷ others → (F : PeonIn ms full pace reign (calm r) t f t.under_way)
        → Carries ms reign t.world.messages f reign.leader (t.time + pace.delay) (drop F.taken (take (said F.heard) (to_leader reign pace (calm r)))) others → IsAside reign.epoch t.world.messages f reign.leader o
        → Went ms q pace (at_time ms q pace u t) (Arrives (Deliver o.number (u + pace.clock reign.leader))) (without_first f reign.leader others t.under_way) next → Waning ms full q pace reign r next
    aside_up f qf nf o others first F C c went = aside_comes f reign.leader qf S.leads o others first (pop_up ms full pace reign (calm r) t q S.peons S.others f nf others F C) c went

    -- a message between two that are both peons, or both the leader
    pub apart_comes : (f i : ℕ) (qf : has q f ≡ true) (qi : has q i ≡ true) → AreApart reign.leader f i → (o : Owed) (others : List Owed) → t.under_way f i ≡ o ∷ others
        → Went ms q pace (at_time ms q pace u t) (Arrives (Deliver o.number (u + pace.clock i))) (without_first f i others t.under_way) next → Waning ms full q pace reign r next
    apart_comes f i qf qi a o others first went = by (subst (Carries ms reign t.world.messages f i (t.time + pace.delay) []) first (S.others f i qf qi a))
      where
        by : Carries ms reign t.world.messages f i (t.time + pace.delay) [] (o ∷ others) → Waning ms full q pace reign r next
        by (le, inl k) = aside_comes f i qf qi o others first (pop_other ms full pace reign (calm r) t q S.peons S.others f i a others k.2) k.0 went
        by (le, inr k) = absurd (no_item k.0 k.1 k.2)
          where
            no_item : (x : Item) (rest : List Item) → [] ≡ x ∷ rest → ⊥
            no_item x rest e = absurd cc

    -- the timer of commands that wait
    pub proposes : (i : ℕ) → has q i ≡ true → Went ms q pace (at_time ms q pace u t) (Arrives (Ring i timer.Propose (u + pace.clock i))) t.under_way next → Waning ms full q pace reign r next
    proposes i qi went = quiet ms full q pace reign r t S u M.later next (Ring i timer.Propose (u + pace.clock i)) went i qi (input.Timer timer.Propose) refl (λ s. refl) NobodyAsks (λ s. BringsNone) (λ y k. k) (λ s same. refl)
        (λ m. propose_row (member_of ms i (inside ms full q pace reign r t S i qi)) (shared_entries (t.world.store i)) (u + pace.clock i) (readings_of (t.world.store i)) m.state m.several m.awake)

    -- a client reads
    pub asks : (i : ℕ) → has q i ≡ true → (session : Session) (x : Request) → Reads x → Went ms q pace (at_time ms q pace u t) (Arrives (Client i (u + pace.clock i) session x)) t.under_way next → Waning ms full q pace reign r next
    asks i qi session x reads went = quiet ms full q pace reign r t S u M.later next (Client i (u + pace.clock i) session x) went i qi (input.Client session x) refl (λ s. refl) (AsksAs session x) (λ s. BringsNone) (λ y k. k.1 reads) (λ s same. nothing s x reads)
        (λ m. client_row (member_of ms i (inside ms full q pace reign r t S i qi)) (shared_entries (t.world.store i)) (u + pace.clock i) (readings_of (t.world.store i)) m.state m.several m.awake session x)
      where
        nothing : (s : State) (x : Request) → Reads x → taken_request (member_of ms i (inside ms full q pace reign r t S i qi)) (readings_of (t.world.store i)) s session x ≡ None
        nothing s (request.Show service) k = refl
        nothing s (request.Since service version) k = refl
        nothing s other k = absurd k

    -- ---- a message of the round

    module _ (K : IsQuick pace) (room : ClocksGoOn q pace u) (i : ℕ) (qi : has q i ≡ true) (ni : i ≡ reign.leader → ⊥) (o : Owed) (others : List Owed) (first : t.under_way reign.leader i ≡ o ∷ others)
        (went : Went ms q pace (at_time ms q pace u t) (Arrives (Deliver o.number (u + pace.clock i))) (without_first reign.leader i others t.under_way) next) where
      abbrev left : ℕ → ℕ → List Owed
      left = without_first reign.leader i others t.under_way

      went_on : Went ms full pace (at_time ms full pace u t) (Arrives (Deliver o.number (u + pace.clock i))) (without_first reign.leader i others t.under_way) next
      went_on = went_full ms full q pace reign r t S next u M.later _ _ went []

      not_leader : reign.leader ≡ i → ⊥
      not_leader e = ni (sym e)

      module _ (F : PeonIn ms full pace reign (calm r) t i t.under_way) (x : Item) (rest : List Item) (items : drop F.heard (to_peon reign pace (calm r)) ≡ x ∷ rest) (it : IsItem ms reign t.world.messages reign.leader i (t.time + pace.delay) x o)
          (C : Carries ms reign t.world.messages reign.leader i (t.time + pace.delay) rest others) where
        took : Took ms full pace reign (calm r) t u M.later next i ni F o others x rest items it C went_on → Waning ms full q pace reign r next
        took T =
            let Q : (s : State) × (t.world.state i ≡ Some s) × FollowsSince reign.leader full (leased (calm r) F.heard + pace.clock i) s = P ms full pace reign (calm r) t u M.later next i ni F o others x rest items it C went_on in
            about_peon ms full q pace reign r t S next u M.later _ left went T.sent i Q.0 T.after T.changes Q.1 T.did_it i ni (inl refl) T.peon
            (λ j ne nj. (other_left reign.leader i others t.under_way reign.leader j (λ _ b. ne b), other_left reign.leader i others t.under_way j reign.leader (λ a _. nj a)))
            (λ f j a. other_left reign.leader i others t.under_way f j (λ y z. ni (sym z ∙ a.0 y))) (
              other_store ms full pace reign t next u M.later _ left went_on i Q.0 T.after T.changes T.sent Q.1 T.did_it (λ w. epoch_of w ≡ reign.epoch) reign.leader not_leader S.epoch,
              other_store ms full pace reign t next u M.later _ left went_on i Q.0 T.after T.changes T.sent Q.1 T.did_it (λ w. w.last ≡ r.version) reign.leader not_leader S.last,
            )
            (other_state ms full pace reign t next u M.later _ left went_on i Q.0 T.after T.changes T.sent Q.1 T.did_it (Renewer ms full q pace reign r) reign.leader not_leader S.lead)
            (λ j ne taken k. other_state ms full pace reign t next u M.later _ left went_on i Q.0 T.after T.changes T.sent Q.1 T.did_it (Noted j taken None) reign.leader not_leader k) (λ f j _ b. T.gives f j b)
            (calm_popped ms full q pace reign r t S reign.leader i S.leads qi o others first) (T.hands_on_none, T.calls_none)

        item_comes : Waning ms full q pace reign r next
        item_comes = by F.heard refl items
          where
            by : (h : ℕ) → F.heard ≡ h → drop h (to_peon reign pace (calm r)) ≡ x ∷ rest → Waning ms full q pace reign r next
            by zero is e = took (takes_commit ms full pace reign (calm r) t u M.later next i ni F o others x rest items it C went_on (inside ms full q pace reign r t S i qi) S.fits is)
            by (suc zero) is e = took (takes_lease ms full pace reign (calm r) t u M.later next i ni F o others x rest items it C went_on (inside ms full q pace reign r t S i qi) S.reached (by_lease ms full q pace reign r t S K u M i qi F) (room i qi) is)
            by (suc (suc h)) is e = absurd (nothing h e)
              where
                nothing : (h : ℕ) → drop h [] ≡ x ∷ rest → ⊥
                nothing zero e = absurd cc
                nothing (suc h) e = absurd cc

      -- the next message of the leader comes
      pub down_comes : Waning ms full q pace reign r next
      down_comes = by (S.peons i qi ni) (subst (Carries ms reign t.world.messages reign.leader i (t.time + pace.delay) (drop (S.peons i qi ni).heard (to_peon reign pace (calm r)))) first (S.peons i qi ni).to_come)
        where
          by : (F : PeonIn ms full pace reign (calm r) t i t.under_way) → Carries ms reign t.world.messages reign.leader i (t.time + pace.delay) (drop F.heard (to_peon reign pace (calm r))) (o ∷ others) → Waning ms full q pace reign r next
          by F (le, inl k) = aside_comes reign.leader i S.leads qi o others first (pop_down ms full pace reign (calm r) t q S.peons S.others i ni others F k.2) k.0 went
          by F (le, inr k) = item_comes F k.0 k.1 k.2 k.3 k.4
