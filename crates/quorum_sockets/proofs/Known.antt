-- What the datagrams of a process show of it, after any steps of a network.
use Rattle.law_names.proofs.Runs.{Arrives, Meeting, Monitors, Plain, PlainFits, Reached, Reacts, Stop, World, after_meeting, epoch, happens, me_of, meets, most_size, moved, put_at, size_of}
use Rattle.law_names.proofs.Table.{AllByRecursion, Contains, Input, Me, Reaction, Sent, State, Store, Which, apply, due, epoch_of, readings_of}
use Rattle.mon_bounds.specs.Fitting.{answer_in}
use Rattle.mon_frag.specs.Pieces.{u64_bytes}
use Rattle.mon_msg.specs.declared.input.Input.TheVariants as input
use Rattle.mon_msg.specs.declared.plan.Sent.TheVariants as sent
use Rattle.mon_node.proofs.Sending.{all_numbered as numbers_found}
use Rattle.mon_node.specs.declared.end.NodeEnd.TheVariants as end
use Rattle.mon_types.specs.declared.names.Which.TheVariants as which
use Rattle.mon_watch.specs.Kinds.{kind_at, kind_named}
use Rattle.mon_watch.specs.Seen.{after_header, header_read, nothing_seen}
use Rattle.mon_watch.specs.declared.seen.Seen.{Seen}
use Rattle.mon_wire.specs.Message.Whole.{text}
use Rattle.mon_wire.specs.declared.kind.Kind.{Kind}
use Rattle.quorum_laws.proofs.Events.{all_runs}
use Rattle.quorum_laws.proofs.Invariant.{InvOf}
use Rattle.quorum_laws.proofs.Meetings.{member_of}
use Rattle.quorum_model.proofs.Reached.{world_is}
use Rattle.quorum_model.specs.Happens as model
use Rattle.quorum_network.proofs.Assembled.{assembly}
use Rattle.quorum_network.proofs.Events.{IsMe, known}
use Rattle.quorum_network.proofs.Inputs.{CameFine, HeardFine, heard_fine}
use Rattle.quorum_network.proofs.Invariant.{IfUp, Inv, IsAlive, IsUp}
use Rattle.quorum_network.proofs.Kept.{bounded, epoch_short, happens_so, met, named}
use Rattle.quorum_network.proofs.Letters.{Letter}
use Rattle.quorum_network.proofs.Lives.{process_alone}
use Rattle.quorum_network.proofs.Names.{AllMay, Alone, Begins, Client, Doing, Down, Given, Heard, IsAsked, Iterates, Iteration, Kept, Lost, May, Monitor, Network, Node, NodeEnd, Observed, Outgoing, Peer, Process, Readings, Serving, Step, StepOutcome, StoreView, TimedInput, Until, Up, Whole, acknowledgements, alone, at_end, boot_in, clock_read, datagrams, done, down, due_by, ended_iteration, heard, iteration, iteration_of, kept_reaction, leaderships, letters, life, lives_then, map_after, map_of, network, newest, next_after_message, next_number, number_of, numbered_by, of_input, outcome_of, own, pieces_of, reacted, reaction_to, renumbered, requests, sends_of, sent_by, start, under, unstarted, wait_until}
use Rattle.quorum_network.proofs.Sends.{SentHasText, have_texts}
use Rattle.quorum_network.proofs.Steps.{EventFine, IterationFine, begins_fine, entered_holds, has_here, kept_kv, newest_here, none_has, turns_fine}
use Rattle.quorum_network.proofs.Whole.{Stands, facts, stands}
use Rattle.quorum_network.specs.Lives.{outcome_at}
use Rattle.std.proofs.Common.{Bool, Err, IfOk, List, None, Ok, Option, Result, Some, [], ap, append_assoc, cond, drop, eqb, false, length, ltb, map, nat_lt, refl, subst, sym, take, true, ℕ, ◌++◌, ◌+◌, ◌<◌, ◌^◌, ◌∙◌, ◌∷◌, ◌≡◌}
use Rattle.std.proofs.lemmas.Bool.{eq-eqb, eqb-true, lt-ltb, ltb-false}
use Rattle.std.proofs.lemmas.List.{append_cancel_left, map-append}
use Rattle.watch_laws.proofs.Datagrams.{all, one, reads_short, sent_all}
use Rattle.watch_laws.proofs.Runs.{GoodAt, follows, is_so, unseen}
use Rattle.watch_laws.proofs.Showing.{At}
use Rattle.watch_laws.specs.Datagrams.{AreOf, IsToClient, is_short, to_peer}
use Rattle.watch_laws.specs.Watching.{IsSo, after_all, seen_at, seen_before}

-- ---- datagrams

clients_only : (c : ℕ) (pieces : List (List ℕ)) → AllByRecursion IsToClient (map (to_peer (Client c)) pieces)
clients_only c [] = tt
clients_only c (x ∷ pieces) = ((c, refl), clients_only c pieces)

-- the datagrams of what a core sends
are_of : (me : Me) (m : Store) (boot next : ℕ) (sends : List Sent) → AllByRecursion (SentHasText me (epoch m)) sends → AreOf sends (datagrams boot next (letters me m sends))
are_of me m boot next [] h = refl
are_of me m boot next (sent.Message to x ∷ sends) h =
    let later : ℕ = next_after_message next (length (text x)) in
    (h.0, (boot, next, datagrams boot later (letters me m sends), refl, are_of me m boot later sends h.1))
are_of me m boot next (sent.Reply session r ∷ sends) h =
    let bytes : List ℕ = text (answer_in me (epoch m) session r) in
    let later : ℕ = next_after_message next (length bytes) in
    (map (to_peer (Client session.client)) (pieces_of bytes boot next), datagrams boot later (letters me m sends), clients_only session.client (pieces_of bytes boot next), refl, are_of me m boot later sends h.1)

all_then : (i : ℕ) (xs ys : List Outgoing) (z : Seen) → all i (xs ++ ys) z ≡ all i ys (all i xs z)
all_then i [] ys z = refl
all_then i (x ∷ xs) ys z = all_then i xs ys (one i x.to x.bytes z)

-- pieces aren't read, so the number of a life changes nothing
no_kind : (b : ℕ) (xs : List ℕ) → b ≡ 2 → kind_named (b ∷ xs) ≡ None
no_kind b [] e = refl
no_kind b (c ∷ xs) e = ap (λ (k : ℕ). cond (eqb k 1) (kind_at c) None) e

unread : (i j b : ℕ) (xs : List ℕ) (z : Seen) → b ≡ 2 → one i (Monitor j) (b ∷ xs) z ≡ z
unread i j b xs z e = ap (λ (k : Option Kind). after_header i j (header_read k (b ∷ xs)) z) (no_kind b xs e)

one_under : (i number : ℕ) (to : Peer) (bytes : List ℕ) (z : Seen) → one i to (renumbered number bytes) z ≡ one i to bytes z
one_under i number (Client c) bytes z = refl
one_under i number (Monitor j) [] z = refl
one_under i number (Monitor j) (b ∷ xs) z = by (eqb b 2) refl
  where
    by : (q : Bool) → eqb b 2 ≡ q → one i (Monitor j) (cond q (take 4 (b ∷ xs) ++ u64_bytes number ++ drop 12 (b ∷ xs)) (b ∷ xs)) z ≡ one i (Monitor j) (b ∷ xs) z
    by true e = unread i j b (take 3 xs ++ u64_bytes number ++ drop 11 xs) z (eqb-true b 2 e) ∙ sym (unread i j b xs z (eqb-true b 2 e))
    by false e = refl

all_under : (i number : ℕ) (ds : List Outgoing) (z : Seen) → all i (map (under number) ds) z ≡ all i ds z
all_under i number [] z = refl
all_under i number (d ∷ ds) z = ap (all i (map (under number) ds)) (one_under i number d.to d.bytes z) ∙ all_under i number ds (one i d.to d.bytes z)

-- ---- what a life sent, before it got its number

abbrev since : Doing → List Outgoing → List Outgoing
since (Begins number store_view clock link first) before = []
since (Iterates g) before = before

abbrev sends_then : Me → Step → List Outgoing → Option Iteration → List Outgoing
sends_then me s before None = before
sends_then me s before (Some t) = since s.doing before ++ (outcome_of me t s.up_to).sends

unfoldable pub life_sends : Me → List Step → List Outgoing
life_sends me [] = []
life_sends me (s ∷ earlier) = sends_then me s (life_sends me earlier) (iteration_of me (alone me earlier).process s.doing)

module _ (i : ℕ) (me : Me) (number : ℕ) (store_view : StoreView) (clock : Option Readings) (link : Option Observed) (first : ℕ) (earlier : List Step) where
  abbrev lived : List Given → Until → List Step
  lived given u = life i number store_view clock link first given u earlier

  abbrev sent_before : List Outgoing
  sent_before = (alone me earlier).sends

  abbrev HasSent : Alone → List Outgoing → Type 0
  HasSent a ds = (newest a.lives ≡ number) × (a.sends ≡ sent_before ++ map (under number) ds)

  one_more : (s : Step) (a : Alone) (ds : List Outgoing) (g : Given) → s.doing ≡ Iterates g → HasSent a ds → (o : Option Iteration) → HasSent (outcome_at me s a o) (sends_then me s ds o)
  one_more s a ds g e h None = h
  one_more s a ds g e h (Some t) =
      let out : List Outgoing = (outcome_of me t s.up_to).sends in
      let lives : lives_then s.doing a.lives ≡ a.lives = ap (λ (d : Doing). lives_then d a.lives) e in
      let number_is : newest (lives_then s.doing a.lives) ≡ number = ap newest lives ∙ h.0 in (
        number_is,
        ap (λ (k : ℕ). a.sends ++ map (under k) out) number_is
            ∙ ap (λ (xs : List Outgoing). xs ++ map (under number) out) h.1
            ∙ append_assoc sent_before (map (under number) ds) (map (under number) out)
            ∙ ap (λ (xs : List Outgoing). sent_before ++ xs) (sym (map-append (under number) ds out))
            ∙ ap (λ (d : Doing). sent_before ++ map (under number) (since d ds ++ out)) (sym e),
      )

  has_sent : (given : List Given) (u : Until) → HasSent (alone me (lived given u)) (life_sends me (lived given u))
  unfolding alone life_sends
  has_sent [] u = (refl, refl)
  has_sent (g ∷ given) u =
      let a : Alone = alone me (lived given Whole) in
      one_more (record { rank = i; doing = Iterates g; up_to = u }) a (life_sends me (lived given Whole)) g refl (has_sent given Whole) (iteration_of me a.process (Iterates g))

  -- what a life's link was asked to send shows what the datagrams of its steps do
  pub seen_alike : (steps : List Step) (given : List Given) → steps ≡ lived given Whole → (ds : List Outgoing) → (alone me steps).sends ≡ sent_before ++ map (under number) ds → (z : Seen)
      → all i ds z ≡ all i (life_sends me steps) z
  seen_alike steps given is ds sends z =
      let both : HasSent (alone me steps) (life_sends me steps) = subst (λ (xs : List Step). HasSent (alone me xs) (life_sends me xs)) (sym is) (has_sent given Whole) in
      let same : map (under number) ds ≡ map (under number) (life_sends me steps) = append_cancel_left sent_before (map (under number) ds) (map (under number) (life_sends me steps)) (sym sends ∙ both.1) in
      sym (all_under i number ds z) ∙ ap (λ (xs : List Outgoing). all i xs z) same ∙ all_under i number (life_sends me steps) z

-- ---- one monitor

module _ (ms : Monitors) (several : 1 < ms.count) (i : ℕ) (me : Me) (is : me_of ms i ≡ Some me) where
  abbrev M : IsMe ms i me
  M = known ms i me is

  many : ltb 1 ms.count ≡ true
  many = lt-ltb 1 ms.count several

  -- what is seen of the monitor is so, if it has this map and state
  abbrev Knows : Seen → Store → State → Type 0
  Knows z m s = (lt : ltb i ms.count ≡ true) × At (member_of ms i lt) is_short false z (epoch_of (readings_of m)) s.phase s.leader.quorum s.peon.leader s.requester.provider

  abbrev Good : World → Seen → Type 0
  Good w z = GoodAt ms many is_short reads_short i w z

  abbrev OfProcess : Process → Seen → Type 0
  OfProcess (Up s) z = Knows z s.node.store.kv s.node.state
  OfProcess (Down m) z = Unit {0}

  -- nothing is seen before a start
  good_first : (w : World) → Good w nothing_seen
  good_first w s up =
      let lt : ltb i ms.count ≡ true = lt-ltb i ms.count M.below in
      (lt, unseen (member_of ms i lt) is_short false nothing_seen (epoch_of (readings_of (w.store i))) s refl s.phase)

  -- ---- an event of the run

  module _ (w : World) (R : Reached ms w) (p : Plain) (fits : PlainFits ms.count p) (came : Input) (r : Reaction) (meeting : meets ms w p ≡ Reacts i came (Ok r))
      (moves : happens ms w (Arrives p) ≡ Ok (moved w p i r)) (z : Seen) (G : Good w z) where
    invariant : InvOf ms w
    invariant = subst (InvOf ms) (world_is ms w R) (all_runs ms R.events R.fit)

    abbrev Next : Meeting → Type 0
    Next m = IfOk (after_meeting w (Arrives p) m) (λ next. Good next (seen_at i is_short (Arrives p) m z))

    abbrev seen_next : Seen
    seen_next = seen_at i is_short (Arrives p) (Reacts i came (Ok r)) z

    there : Next (Reacts i came (Ok r))
    there = subst Next meeting (follows ms many is_short reads_short i w invariant z G (Arrives p) fits)

    goes : after_meeting w (Arrives p) (Reacts i came (Ok r)) ≡ Ok (moved w p i r)
    goes = sym (ap (after_meeting w (Arrives p)) meeting) ∙ moves

    good : Good (moved w p i r) seen_next
    good = subst (λ (x : Result World Stop). IfOk x (λ next. Good next seen_next)) goes there

    state_is : (moved w p i r).state i ≡ Some r.state
    unfolding moved
    state_is = ap (λ (b : Bool). cond b (Some r.state) (w.state i)) (eq-eqb i i refl)

    store_is : (moved w p i r).store i ≡ apply r.transaction (w.store i)
    unfolding moved
    store_is = ap (λ (b : Bool). cond b (model.map_after w i r) (w.store i)) (eq-eqb i i refl)

    seen_is : seen_next ≡ after_all i is_short r.sends (seen_before i is_short came z)
    seen_is = ap (λ (b : Bool). cond b (after_all i is_short r.sends (seen_before i is_short came z)) z) (eq-eqb i i refl)

    knows : Knows (after_all i is_short r.sends (seen_before i is_short came z)) (apply r.transaction (w.store i)) r.state
    knows =
        subst (λ (x : Seen). Knows x (apply r.transaction (w.store i)) r.state) seen_is
        (subst (λ (m : Store). Knows seen_next m r.state) store_is (good r.state state_is))

  -- ---- an iteration

  module _ (net : Network) (w : World) (R : Reached ms w) (I : Inv assembly ms net w) where
    module _ (s : Serving) (it : TimedInput) (T : IterationFine assembly ms (facts ms) net w R I i me is (Ok (Some it)) s) (z : Seen) (G : Good w z) where
      abbrev t : Iteration
      t = record { came = Ok (Some it); serving = s }

      abbrev n : Node
      n = s.node

      abbrev E : EventFine assembly ms (facts ms) net w R I i me is n it
      E = T.so

      here : n.store.kv ≡ w.store i
      here = T.kv ∙ (I.mine i M.below).map

      abbrev before : Seen
      before = seen_before i is_short it.input z

      abbrev After : StepOutcome → Type 0
      After o = OfProcess o.process (all i o.sends before)

      module _ (r : Reaction) (e : reaction_to me n it ≡ Ok r) (small : nat_lt most_size (size_of (map_after n r)) ≡ false) where
        meeting_is : meets ms w E.plain ≡ Reacts i it.input (Ok r)
        meeting_is = met assembly ms (facts ms) net w R I i me is n it.at it.input E.plain E.fits E.there here E.up E.may T.remembers r e (E.own r e)

        moves_so : happens ms w (Arrives E.plain) ≡ Ok (moved w E.plain i r)
        moves_so = happens_so assembly ms (facts ms) net w R I i me is n it.at it.input E.plain E.fits E.there here E.up E.may T.remembers r e (E.own r e) small

        texts : AllByRecursion (SentHasText me (epoch (map_after n r))) r.sends
        texts = have_texts me (epoch (map_after n r)) r.sends (epoch_short (map_after n r))
            (bounded assembly ms (facts ms) net w R I i me is n it.at it.input E.plain E.fits E.there here E.up E.may T.remembers r e (E.own r e) small).sends
            (named assembly ms (facts ms) net w R I i me is n it.at it.input E.plain E.fits E.there here E.up E.may T.remembers r e (E.own r e) small)

        seen_sends : all i (sent_by me n r) before ≡ after_all i is_short r.sends before
        seen_sends = sent_all i r.sends (sent_by me n r) before (are_of me (map_after n r) (boot_in (map_after n r)) n.next r.sends texts)

        kept_is : apply r.transaction (w.store i) ≡ (done me s r).node.store.kv
        kept_is = sym (ap (apply r.transaction) here) ∙ sym (kept_kv r.transaction n.store)

        up_knows : OfProcess (Up (done me s r)) (all i (sent_by me n r) before)
        up_knows =
            subst (λ (x : Seen). Knows x (done me s r).node.store.kv r.state) (sym seen_sends)
            (subst (λ (m : Store). Knows (after_all i is_short r.sends before) m r.state) kept_is (knows w R E.plain E.fits it.input r meeting_is moves_so z G))

        sends_are : nat_lt (2 ^ 62 + 1) (next_number me n r) ≡ false → sent_by me n r ≡ sends_of me t
        sends_are few =
            sym (ap (of_input [] (λ (q : Reaction). cond (nat_lt most_size (size_of (map_after n q))) [] (numbered_by me n q))) e
            ∙ ap (λ (b : Bool). cond b [] (numbered_by me n r)) small
            ∙ ap (datagrams (boot_in (map_after n r)) n.next) (numbers_found n.next (letters me (map_after n r) r.sends) (ltb-false _ _ few)))

      down_after : (k : ℕ) (o : Option Reaction) → After (down me n k o)
      down_after k None = tt
      down_after k (Some r) = tt

      whole_after : (x : Result Reaction Which) → reaction_to me n it ≡ x → After (at_end me t (reacted me s x))
      whole_after (Err spent) e = down_after 0 (kept_reaction me t)
      whole_after (Ok r) e = by (nat_lt most_size (size_of (map_after n r))) refl (nat_lt (2 ^ 62 + 1) (next_number me n r)) refl
        where
          by : (b : Bool) → nat_lt most_size (size_of (map_after n r)) ≡ b → (f : Bool) → nat_lt (2 ^ 62 + 1) (next_number me n r) ≡ f
              → After (at_end me t (cond b (Err (end.Full (size_of (map_after n r)))) (cond f (Err (end.Spent which.Seq)) (Ok (done me s r)))))
          by true large f few = down_after 0 (kept_reaction me t)
          by false small true few = down_after 0 (kept_reaction me t)
          by false small false few = subst (λ (ds : List Outgoing). OfProcess (Up (done me s r)) (all i ds before)) (sends_are r e small few) (up_knows r e small)

    -- what was seen before an iteration's input
    abbrev Before : Result (Option TimedInput) NodeEnd → Serving → (z zb : Seen) → Type 0
    Before (Ok (Some it)) s z zb = Good w z × (seen_before i is_short it.input z ≡ zb)
    Before (Ok None) s z zb = OfProcess (Up s) zb
    Before (Err e) s z zb = Unit {0}

    stopped : (s : Serving) (came : Result (Option TimedInput) NodeEnd) (k : ℕ) (zb : Seen) (o : Option Reaction) → OfProcess (down me s.node k o).process (all i (down me s.node k o).sends zb)
    stopped s came k zb None = tt
    stopped s came k zb (Some r) = tt

    after_iteration : (came : Result (Option TimedInput) NodeEnd) (s : Serving) (u : Until) (z zb : Seen) → IterationFine assembly ms (facts ms) net w R I i me is came s → Before came s z zb
        → OfProcess (outcome_of me (record { came = came; serving = s }) u).process (all i (outcome_of me (record { came = came; serving = s }) u).sends zb)
    unfolding ended_iteration
    after_iteration (Err e) s Lost z zb T b = tt
    after_iteration (Err e) s Whole z zb T b = stopped s (Err e) 0 zb (kept_reaction me (record { came = Err e; serving = s }))
    after_iteration (Err e) s (Kept k) z zb T b = stopped s (Err e) k zb (kept_reaction me (record { came = Err e; serving = s }))
    after_iteration (Ok None) s Lost z zb T b = tt
    after_iteration (Ok None) s Whole z zb T b = b
    after_iteration (Ok None) s (Kept k) z zb T b = stopped s (Ok None) k zb (kept_reaction me (record { came = Ok None; serving = s }))
    after_iteration (Ok (Some it)) s Lost z zb T b = tt
    after_iteration (Ok (Some it)) s Whole z zb T b =
        subst (λ (x : Seen). OfProcess (outcome_of me (record { came = Ok (Some it); serving = s }) Whole).process (all i (outcome_of me (record { came = Ok (Some it); serving = s }) Whole).sends x)) b.1
        (whole_after s it T z b.0 (reaction_to me s.node it) refl)
    after_iteration (Ok (Some it)) s (Kept k) z zb T b = stopped s (Ok (Some it)) k zb (kept_reaction me (record { came = Ok (Some it); serving = s }))

    -- ---- an iteration of a process that is up

    not_started : (came : Input) → (came ≡ input.Start → ⊥) → (z : Seen) → seen_before i is_short came z ≡ z
    not_started input.Start other z = absurd (other refl)
    not_started (input.Deliver m) other z = refl
    not_started (input.Timer x) other z = refl
    not_started (input.Client session q) other z = refl

    module _ (s : Serving) (up : net.process i ≡ Up s) (z : Seen) (k : OfProcess (Up s) z) (g : Given) (asked : IsAsked net i (due_by g.began (due s.node.state.timers)) g.answer) where
      is_up : IsUp assembly ms I.ls (number_of net.lives i) i (w.state i) s
      is_up = subst (IfUp assembly ms I.ls (number_of net.lives i) i (w.state i)) up (I.mine i M.below).up

      good_now : Good w z
      good_now x there =
          let some : Some s.node.state ≡ Some x = sym is_up.state ∙ there in
          let same : s.node.state ≡ x = cc in
          let map : s.node.store.kv ≡ w.store i = ap map_of (sym up) ∙ (I.mine i M.below).map in
          subst (λ (m : Store). Knows z m x) map (subst (λ (y : State). Knows z s.node.store.kv y) same k)

      before_of : (came : Result (Option TimedInput) NodeEnd) (o : Serving) → o.node ≡ s.node → CameFine assembly ms w i M.below I.ls I.said came → Before came o z z
      before_of (Ok (Some it)) o same c = (good_now, not_started it.input c.other z)
      before_of (Ok None) o same c = subst (λ (x : Node). Knows z x.store.kv x.state) (sym same) k
      before_of (Err e) o same c = tt

      before_iteration : Before (iteration me g s).came (iteration me g s).serving z z
      unfolding iteration
      before_iteration =
          let next = due s.node.state.timers in
          let h : Heard = heard me.member.monitors next g s.outside in
          let f : HeardFine assembly ms w i M.below I.ls I.said h =
          heard_fine assembly ms w i M.below I.ls I.said net I.posted I.letters (due_by g.began next) me.member.monitors (wait_until g.began next) g (clock_read s.outside) is_up.parts asked in
          before_of h.came (record s { outside = h.outside }) refl f.came

      iterates : (u : Until) → OfProcess (outcome_of me (iteration me g s) u).process (all i (outcome_of me (iteration me g s) u).sends z)
      iterates u =
          let t : Iteration = iteration me g s in
          let alive : Contains (net.lives i) (number_of net.lives i) = subst (IsAlive (net.lives i)) up (I.alive i M.below) in
          after_iteration t.came t.serving u z z (turns_fine assembly ms (facts ms) net w R I i me is s up is_up alive g asked) before_iteration

  -- ---- a start

  begins : (net : Network) (w : World) (R : Reached ms w) (I : Inv assembly ms net w) (number : ℕ) (store_view : StoreView) (clock : Option Readings) (link : Option Observed) (first : ℕ) (u : Until)
      → May net i (net.process i) (Begins number store_view clock link first)
      → OfProcess (outcome_of me (start first (unstarted me.member.rank store_view clock link)) u).process (all i (outcome_of me (start first (unstarted me.member.rank store_view clock link)) u).sends nothing_seen)
  begins net w R I number store_view clock link first u may =
      let t : Iteration = start first (unstarted me.member.rank store_view clock link) in
      let then_net : Network = record { process = net.process; lives = put_at net.lives i (number ∷ net.lives i); sent = net.sent } in
      let J = entered_holds assembly ms net w I i number may.1.0 may.1.1 in
      let one : eqb i i ≡ true = eq-eqb i i refl in
      let none : (l : Letter) → Contains J.0.ls l → l.by ≡ i → l.boot ≡ number_of then_net.lives i → ⊥ =
      λ l c by boot. none_has assembly ms net w I i number may.1.0 may.1.1 l (subst (λ (ls : List Letter). Contains ls l) J.1 c) by (boot ∙ newest_here assembly ms (facts ms) net w R I i number (eqb i i) one) in
      after_iteration then_net w R J.0 t.came t.serving u nothing_seen nothing_seen
      (begins_fine assembly ms (facts ms) then_net w R J.0 i me is store_view clock link first may.0 (has_here assembly ms (facts ms) net w R I i number (eqb i i) one) none) (good_first w, refl)

  -- ---- all steps

  module _ (earlier : List Step) (may : AllMay ms earlier) where
    abbrev net : Network
    net = network ms earlier

    abbrev a : Alone
    a = alone me (own i earlier)

    abbrev sent_so_far : List Outgoing
    sent_so_far = life_sends me (own i earlier)

    abbrev KnowsThen : Step → Option Iteration → Type 0
    KnowsThen s o = OfProcess (outcome_at me s a o).process (all i (sends_then me s sent_so_far o) nothing_seen)

    S : Stands assembly ms (requests ms earlier) (acknowledgements ms earlier) (leaderships ms earlier) net
    S = stands assembly ms (facts ms) earlier may

    own_step : (doing : Doing) (u : Until) → May net i (net.process i) doing → OfProcess a.process (all i sent_so_far nothing_seen)
        → KnowsThen (record { rank = i; doing = doing; up_to = u }) (iteration_of me a.process doing)
    own_step (Begins number store_view clock link first) u allowed k = begins net S.w S.reach S.inv number store_view clock link first u allowed
    own_step (Iterates g) u allowed k = by a.process refl allowed k
      where
        there : net.process i ≡ a.process
        there = process_alone ms i me is earlier

        by : (p : Process) → a.process ≡ p → May net i (net.process i) (Iterates g) → OfProcess p (all i sent_so_far nothing_seen) → KnowsThen (record { rank = i; doing = Iterates g; up_to = u }) (iteration_of me p (Iterates g))
        by (Down m) e allowed k = subst (λ (p : Process). OfProcess p (all i sent_so_far nothing_seen)) (sym e) tt
        by (Up s) e allowed k =
            let up : net.process i ≡ Up s = there ∙ e in
            let out : List Outgoing = (outcome_of me (iteration me g s) u).sends in
            let asked : IsAsked net i (due_by g.began (due s.node.state.timers)) g.answer = subst (λ (p : Process). May net i p (Iterates g)) up allowed in
            subst (OfProcess (outcome_of me (iteration me g s) u).process) (sym (all_then i sent_so_far out nothing_seen))
            (iterates net S.w S.reach S.inv s up (all i sent_so_far nothing_seen) k g asked u)

  knows_always : (steps : List Step) → AllMay ms steps → OfProcess (alone me (own i steps)).process (all i (life_sends me (own i steps)) nothing_seen)
  unfolding AllMay alone life_sends
  knows_always [] may = tt
  knows_always (s ∷ earlier) may = by (eqb s.rank i) refl (knows_always earlier may.0)
    where
      by : (b : Bool) → eqb s.rank i ≡ b → OfProcess (alone me (own i earlier)).process (all i (life_sends me (own i earlier)) nothing_seen)
          → OfProcess (alone me (cond b (s ∷ own i earlier) (own i earlier))).process (all i (life_sends me (cond b (s ∷ own i earlier) (own i earlier))) nothing_seen)
      by true e k =
          own_step earlier may.0 s.doing s.up_to (subst (λ (j : ℕ). May (network ms earlier) j ((network ms earlier).process j) s.doing) (eqb-true s.rank i e) may.1) k
      by false e k = k

  -- what the datagrams of the newest life show of its process is so
  pub shows_process : (steps : List Step) → AllMay ms steps → (s : Serving) → (network ms steps).process i ≡ Up s
      → IsSo i (all i (life_sends me (own i steps)) nothing_seen) (epoch_of (readings_of s.node.store.kv)) s.node.state
  shows_process steps may s up =
      let z : Seen = all i (life_sends me (own i steps)) nothing_seen in
      let k : OfProcess (Up s) z = subst (λ (p : Process). OfProcess p z) (sym (process_alone ms i me is steps) ∙ up) (knows_always steps may) in
      is_so (member_of ms i k.0) is_short false z (epoch_of (readings_of s.node.store.kv)) s.node.state s.node.state.phase refl k.1
