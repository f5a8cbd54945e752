-- A peon takes the last version that it lacks, and accepts the value that its leader found.
use Rattle.law_names.proofs.Runs.{Arrives, Deliver, Envelope, Monitors, message_at}
use Rattle.law_names.proofs.Table.{Body, Change, Last, Learn, Readings, State, Vote, epoch_of, has, played, promise_of, readings_of, shared_entries}
use Rattle.mon_msg.specs.declared.input.Input.TheVariants as input
use Rattle.mon_wire.specs.declared.body.Body.TheVariants as body
use Rattle.quorum_stays.proofs.Carrying.{Gives}
use Rattle.quorum_stays.proofs.Onward.{here_left, lands, other_left, pack, unpack}
use Rattle.quorum_stays.proofs.Peons.{gives_elsewhere, gives_one}
use Rattle.quorum_stays.proofs.Rows.{begin_row, commit_row}
use Rattle.quorum_stays.proofs.States.{begun_follows}
use Rattle.quorum_stays.proofs.Stepping.{Did, brought, did}
use Rattle.quorum_stays.proofs.Stores.{learned_epoch, learned_promise}
use Rattle.quorum_stays.proofs.Turning.{other_state, other_store, same_carried}
use Rattle.quorum_stays.specs.Steady.{Carries, FollowsSince, IsItem, Item, Reign, in_reign}
use Rattle.quorum_timed.specs.Timed.{MayBe, Owed, Pace, Timed, Went, at_time, without_first}
use Rattle.std.proofs.Common.{Bool, IsSomeAnd, List, None, Some, [], ap, arith, false, inl, inr, option_map, refl, subst, suc, sym, true, ℕ, ◌*◌, ◌+◌, ◌^◌, ◌∙◌, ◌∷◌, ◌≡◌, ◌≤◌}
use Rattle.std.proofs.lemmas.Bool.{cases_eq}
use Rattle.timed_failover.proofs.Settlers.{PeerAt, Proposer, first_of, goes_on, inside, rests}
use Rattle.timed_failover.specs.Settling.{Accepted, Behind, Counted, KeepsAs, Level, Progress, Settles, Settling, begin_item, commit_item, from_such, is_counted, to_such}

module _ (ms : Monitors) (q : List Bool) (pace : Pace) (reign : Reign) (x : Settling) (t : Timed) (S : Settles ms q pace reign x t) (u : ℕ) (M : MayBe ms q pace t u)
    (next : Timed) (i : ℕ) (qi : has q i ≡ true) (ni : i ≡ reign.leader → ⊥) (F : PeerAt ms q pace reign x t i t.under_way) (o : Owed) (others : List Owed)
    (went : Went ms q pace (at_time ms q pace u t) (Arrives (Deliver o.number (u + pace.clock i))) (without_first reign.leader i others t.under_way) next) where
  abbrev now : ℕ
  now = u + pace.clock i

  abbrev left : ℕ → ℕ → List Owed
  left = without_first reign.leader i others t.under_way

  abbrev w : Readings
  w = readings_of (t.world.store i)

  P : (s : State) × (t.world.state i ≡ Some s) × FollowsSince reign.leader q (x.won + pace.clock i) s
  P = unpack (FollowsSince reign.leader q (x.won + pace.clock i)) (t.world.state i) F.follows

  abbrev s : State
  s = P.0

  later : t.time ≤ u
  later = M.later

  comes : (b : Body) → message_at t.world.messages o.number ≡ Some (in_reign ms reign reign.leader i b) → option_map (brought now) (message_at t.world.messages o.number)
      ≡ Some (record { rank = i; at = now; input = input.Deliver (in_reign ms reign reign.leader i b).message })
  comes b there = ap (option_map (brought now)) there

  -- what is under way to it now, and from it
  come : (ys : List Item) → Carries ms reign t.world.messages reign.leader i (t.time + pace.delay) ys others → Carries ms reign t.world.messages reign.leader i (t.time + pace.delay) ys (left reign.leader i)
  come ys C = subst (Carries ms reign t.world.messages reign.leader i (t.time + pace.delay) ys) (sym (here_left reign.leader i others t.under_way)) C

  take : (ys : List Item) → Carries ms reign t.world.messages i reign.leader (t.time + pace.delay) ys (t.under_way i reign.leader) → Carries ms reign t.world.messages i reign.leader (t.time + pace.delay) ys (left i reign.leader)
  take ys C = subst (Carries ms reign t.world.messages i reign.leader (t.time + pace.delay) ys) (sym (other_left reign.leader i others t.under_way i reign.leader (λ a _. ni a))) C

  -- what the peon remembers then, what it changed, and what it sent
  module _ (after : State) (cs : List Change) (es : List Envelope) (D : Did t.world next.world i after cs es) where
    not_leader : reign.leader ≡ i → ⊥
    not_leader e = ni (sym e)

    on_leader : (Q : State → Type 0) → IsSomeAnd (t.world.state reign.leader) Q → IsSomeAnd (next.world.state reign.leader) Q
    on_leader Q k = other_state ms q pace reign t next u later _ left went i s after cs es P.1 D Q reign.leader not_leader k

    done : PeerAt ms q pace reign x next i next.under_way → ((f j : ℕ) → (f ≡ i → j ≡ reign.leader → ⊥) → Gives ms reign f j [] es) → Settles ms q pace reign x next
    done G gives = goes_on ms q pace reign x t S next (let a = later in let c = went.time in omega arith)
        (other_store ms q pace reign t next u later _ left went i s after cs es P.1 D (λ w. epoch_of w ≡ reign.epoch) reign.leader not_leader S.epoch)
        (other_store ms q pace reign t next u later _ left went i s after cs es P.1 D (λ w. w.last ≡ x.version) reign.leader not_leader S.last)
        (on_leader (Proposer ms q pace reign x) S.lead) peers
        (λ f j qf qj a. same_carried ms q pace reign t next u later _ left went i s after cs es P.1 D f j []
        (subst (Carries ms reign t.world.messages f j (t.time + pace.delay) []) (sym (other_left reign.leader i others t.under_way f j (λ y z. ni (sym z ∙ a.0 y)))) (S.others f j qf qj a))
        (gives f j (λ y z. ni (sym y ∙ a.1 z))))
      where
        peers : (j : ℕ) → has q j ≡ true → (j ≡ reign.leader → ⊥) → PeerAt ms q pace reign x next j next.under_way
        peers j qj nj = elim (cases_eq j i) [
          | inl e ↦ subst (λ (z : ℕ). PeerAt ms q pace reign x next z next.under_way) (sym e) G
          | inr ne ↦ (let H = S.peons j qj nj in
              rests ms q pace reign x t next u later _ left went i s after cs es P.1 D j ne H H.progress H.keeps
              (subst (Carries ms reign t.world.messages reign.leader j (t.time + pace.delay) (to_such reign pace x H.progress)) (sym (other_left reign.leader i others t.under_way reign.leader j (λ _ b. ne b))) H.to_come)
              (subst (Carries ms reign t.world.messages j reign.leader (t.time + pace.delay) (from_such reign pace x H.progress)) (sym (other_left reign.leader i others t.under_way j reign.leader (λ a _. nj a))) H.to_take)
              (on_leader (λ (z : State). has z.leader.accepted j ≡ is_counted H.progress) H.noted) (gives reign.leader j (λ a _. ni (sym a))) (gives j reign.leader (λ a _. ne a)))
        ]

  -- ---- a COMMIT

  commit_comes : IsItem ms reign t.world.messages reign.leader i (t.time + pace.delay) (commit_item reign pace x) o → KeepsAs reign pace x Behind w
      → IsSomeAnd (t.world.state reign.leader) (λ (z : State). has z.leader.accepted i ≡ false)
      → Carries ms reign t.world.messages reign.leader i (t.time + pace.delay) (begin_item reign pace x ∷ []) others → Carries ms reign t.world.messages i reign.leader (t.time + pace.delay) [] (t.under_way i reign.leader) → Settles ms q pace reign x next
  commit_comes it keeps noted down back = done s (Learn (suc w.last) x.value ∷ Last (suc w.last) ∷ []) [] D new (λ f j ne. refl)
    where
      fits : suc w.last ≤ 2 ^ 62
      fits = let a = S.fits in let b = keeps.0 in omega arith

      there : message_at t.world.messages o.number ≡ Some (in_reign ms reign reign.leader i (body.Commit (suc w.last) (x.value ∷ [])))
      there = it.there ∙ ap (λ (v : ℕ). Some (in_reign ms reign reign.leader i (body.Commit v (x.value ∷ [])))) (sym keeps.0)

      D : Did t.world next.world i s (Learn (suc w.last) x.value ∷ Last (suc w.last) ∷ []) []
      D = let lt = inside ms q pace reign x t S i qi in let G = P.2 in
          did ms t.world next.world (Deliver o.number now) i lt now (input.Deliver (in_reign ms reign reign.leader i (body.Commit (suc w.last) (x.value ∷ []))).message) s (comes _ there) P.1 went.happened _
          (commit_row ms i lt (shared_entries (t.world.store i)) now w s reign.leader reign.epoch (λ e. ni (sym e)) G.follows G.leader_is F.epoch x.value fits)

      kept : readings_of (next.world.store i) ≡ played (Learn (suc w.last) x.value ∷ Last (suc w.last) ∷ []) w
      kept = D.kept (tt, (fits, tt))

      new : PeerAt ms q pace reign x next i next.under_way
      new = record {
        progress = Level;
        follows = pack (FollowsSince reign.leader q (x.won + pace.clock i)) (next.world.state i) s D.up P.2;
        epoch = ap epoch_of kept ∙ learned_epoch (suc w.last) x.value w keeps.1 ∙ F.epoch;
        promise = ap promise_of kept ∙ learned_promise (suc w.last) x.value w keeps.1 ∙ F.promise;
        keeps = subst (λ (z : Readings). z.last ≡ x.version) (sym kept) keeps.0;
        noted = on_leader s _ [] D (λ (z : State). has z.leader.accepted i ≡ false) noted;
        to_come = same_carried ms q pace reign t next u later _ left went i s s _ [] P.1 D reign.leader i (begin_item reign pace x ∷ []) (come _ down) refl;
        to_take = same_carried ms q pace reign t next u later _ left went i s s _ [] P.1 D i reign.leader [] (take [] back) refl;
      }

  -- ---- a BEGIN

  begin_comes : IsItem ms reign t.world.messages reign.leader i (t.time + pace.delay) (begin_item reign pace x) o → u ≤ x.found.at + pace.delay → w.last ≡ x.version
      → IsSomeAnd (t.world.state reign.leader) (λ (z : State). has z.leader.accepted i ≡ false)
      → Carries ms reign t.world.messages reign.leader i (t.time + pace.delay) [] others → Carries ms reign t.world.messages i reign.leader (t.time + pace.delay) [] (t.under_way i reign.leader) → Settles ms q pace reign x next
  begin_comes it soon keeps noted down back = done after (Vote (suc w.last) (promise_of w) x.found.value ∷ []) (in_reign ms reign i reign.leader (body.Accept reign.pn (suc x.version)) ∷ []) D new
      (λ f j ne. gives_elsewhere ms reign i reign.leader (body.Accept reign.pn (suc x.version)) f j ne)
    where
      after : State
      after = record s { peon = record s.peon { lease = None } }

      there : message_at t.world.messages o.number ≡ Some (in_reign ms reign reign.leader i (body.Begin (promise_of w) (suc w.last) x.found.value))
      there = let e = F.promise in
          it.there ∙ sym (λ d. Some (in_reign ms reign reign.leader i (body.Begin (e d) (suc (keeps d)) x.found.value)))

      D : Did t.world next.world i (record s { peon = record s.peon { lease = None } }) (Vote (suc w.last) (promise_of w) x.found.value ∷ []) (in_reign ms reign i reign.leader (body.Accept reign.pn (suc x.version)) ∷ [])
      D = let lt = inside ms q pace reign x t S i qi in let G = P.2 in
          let e = F.epoch in
          let p = F.promise in
          let same : record { to = reign.leader; message = record { from = i; monitors = ms.count; epoch = epoch_of w; body = body.Accept (promise_of w) (suc w.last) } } ∷ [] ≡ in_reign ms reign i reign.leader (body.Accept reign.pn (suc x.version)) ∷ [] = (λ d. record { to = reign.leader; message = record { from = i; monitors = ms.count; epoch = e d; body = body.Accept (p d) (suc (keeps d)) } } ∷ []) in
          subst (Did t.world next.world i (record s { peon = record s.peon { lease = None } }) (Vote (suc w.last) (promise_of w) x.found.value ∷ [])) same
          (did ms t.world next.world (Deliver o.number now) i lt now (input.Deliver (in_reign ms reign reign.leader i (body.Begin (promise_of w) (suc w.last) x.found.value)).message) s (comes _ there) P.1 went.happened _
          (begin_row ms i lt (shared_entries (t.world.store i)) now w s reign.leader reign.epoch (λ e. ni (sym e)) G.follows G.leader_is F.epoch x.found.value))

      fits : (suc w.last ≤ 2 ^ 62) × (promise_of w ≤ 2 ^ 62)
      fits = let a = S.fits in let c = S.short in let p = F.promise in (omega arith, omega arith)

      kept : readings_of (next.world.store i) ≡ played (Vote (suc w.last) (promise_of w) x.found.value ∷ []) w
      kept = D.kept (fits, tt)

      new : PeerAt ms q pace reign x next i next.under_way
      new = record {
        progress = Accepted;
        follows = pack (FollowsSince reign.leader q (x.won + pace.clock i)) (next.world.state i) _ D.up (begun_follows reign.leader q (x.won + pace.clock i) s P.2);
        epoch = subst (λ (z : Readings). epoch_of z ≡ reign.epoch) (sym kept) F.epoch;
        promise = subst (λ (z : Readings). promise_of z ≡ reign.pn) (sym kept) F.promise;
        keeps = subst (KeepsAs reign pace x Accepted) (sym kept) (keeps, ap suc keeps);
        noted = on_leader after _ _ D (λ (z : State). has z.leader.accepted i ≡ false) noted;
        to_come = same_carried ms q pace reign t next u later _ left went i s _ _ _ P.1 D reign.leader i [] (come [] down) (gives_elsewhere ms reign i reign.leader (body.Accept reign.pn (suc x.version)) reign.leader i (λ a _. ni (sym a)));
        to_take = lands ms q pace reign (at_time ms q pace u t) next _ left went i _ _ _ D i reign.leader (t.time + pace.delay) (x.found.at + 2 * pace.delay) [] (body.Accept reign.pn (suc x.version) ∷ [])
            (let a = later in omega arith) (omega arith) (take [] back) (gives_one ms reign i reign.leader (body.Accept reign.pn (suc x.version)));
      }

  -- ---- the first of these messages comes

  pub hears : (y : Item) (rest : List Item) → to_such reign pace x F.progress ≡ y ∷ rest → IsItem ms reign t.world.messages reign.leader i (t.time + pace.delay) y o
      → Carries ms reign t.world.messages reign.leader i (t.time + pace.delay) rest others → t.under_way reign.leader i ≡ o ∷ others → Settles ms q pace reign x next
  hears y rest items it C list = by F.progress items F.keeps F.noted F.to_come F.to_take
    where
      by : (p : Progress) → to_such reign pace x p ≡ y ∷ rest → KeepsAs reign pace x p w → IsSomeAnd (t.world.state reign.leader) (λ (z : State). has z.leader.accepted i ≡ is_counted p)
          → Carries ms reign t.world.messages reign.leader i (t.time + pace.delay) (to_such reign pace x p) (t.under_way reign.leader i)
          → Carries ms reign t.world.messages i reign.leader (t.time + pace.delay) (from_such reign pace x p) (t.under_way i reign.leader) → Settles ms q pace reign x next
      by Behind is keeps noted down back =
          let a : commit_item reign pace x ≡ y = cc in
          let b : begin_item reign pace x ∷ [] ≡ rest = cc in
          commit_comes (subst (λ (z : Item). IsItem ms reign t.world.messages reign.leader i (t.time + pace.delay) z o) (sym a) it) keeps noted
          (subst (λ (z : List Item). Carries ms reign t.world.messages reign.leader i (t.time + pace.delay) z others) (sym b) C) back
      by Level is keeps noted down back =
          let a : begin_item reign pace x ≡ y = cc in
          let b : [] ≡ rest = cc in
          begin_comes (subst (λ (z : Item). IsItem ms reign t.world.messages reign.leader i (t.time + pace.delay) z o) (sym a) it) (first_of ms q pace reign x t S u M reign.leader i S.leads qi _ _ down) keeps noted
          (subst (λ (z : List Item). Carries ms reign t.world.messages reign.leader i (t.time + pace.delay) z others) (sym b) C) back
      by Accepted is keeps noted down back = absurd cc
      by Counted is keeps noted down back = absurd cc
