-- Each step of a network keeps what holds, with at most one event.
use Rattle.law_names.proofs.Runs.{Acknowledgement, Arrival, Asked, Client, Crash, Deliver, Envelope, Monitors, Plain, PlainFits, Reached, Ring, Start, World, after_meeting, arrival, lost, me_of, message_at, most_size, moved, put_at, size_of, state_at, with_asked}
use Rattle.law_names.proofs.Table.{AllByRecursion, Contains, Input, Me, Op, Reaction, State, Store, Which, apply, booting, due, reaction}
use Rattle.mon_bounds.proofs.Table.{boot_ok}
use Rattle.mon_frag.proofs.Lists.{all_append}
use Rattle.mon_msg.specs.declared.input.Input.TheVariants as input
use Rattle.mon_node.proofs.Sending.{all_numbered as numbers_found}
use Rattle.mon_node.specs.declared.end.NodeEnd.TheVariants as end
use Rattle.mon_store.specs.Calls.{journal_after}
use Rattle.mon_store.specs.Sound.{is_due, next_journal}
use Rattle.mon_types.specs.Sides.{other as other_side}
use Rattle.mon_types.specs.declared.names.Which.TheVariants as which
use Rattle.quorum_network.proofs.Acts.{Act, act_at, act_by, act_in, act_in_iteration}
use Rattle.quorum_network.proofs.Assembled.{contains_first, contains_later}
use Rattle.quorum_network.proofs.Assembling.{Assembly}
use Rattle.quorum_network.proofs.Events.{IsMe, known, meets_it}
use Rattle.quorum_network.proofs.Facts.{Facts}
use Rattle.quorum_network.proofs.Inputs.{CameFine, HeardFine, heard_fine}
use Rattle.quorum_network.proofs.Invariant.{IfUp, Inv, IsAlive, IsUp, Mine, Moved, Next, Still}
use Rattle.quorum_network.proofs.Kept.{bounded, moves, new, next_now}
use Rattle.quorum_network.proofs.Letters.{IsLong, IsPosted, Letter}
use Rattle.quorum_network.proofs.Names.{Begins, Doing, Down, Given, Heard, IsAsked, IsValidInput, Iterates, Iteration, Kept, Leadership, Lost, May, MayRemember, Network, Node, NodeEnd, Observed, Outgoing, Process, Readings, Serving, Step, StepOutcome, StoreView, TimedInput, Until, Up, Whole, acknowledged_at, after_step, asked_by, at_end, boot_in, clock_read, datagrams, done, down, due_by, ended_iteration, heard, if_made, iteration, iteration_of, kept, kept_by, kept_reaction, led_at, letters, made_by, map_after, map_of, newest, next_after, next_number, number_of, numbered_by, of_input, outcome_of, reacted, reaction_to, sends_of, sent_by, start, unstarted, wait_until, with_number, with_outcome}
use Rattle.quorum_network.proofs.Sends.{IsOwn, all_with_number, numbers_within, posted_front}
use Rattle.quorum_network.specs.Requests.{acknowledged_by, acknowledged_in_iteration, asked_in_iteration, asks_in, led_by, led_in_iteration, requests_in}
use Rattle.std.proofs.Common.{Bool, Err, List, None, Ok, Option, Result, Some, [], ap, arith, cond, eqb, false, nat_lt, option_map, refl, subst, sym, take, true, ℕ, ◌++◌, ◌+◌, ◌<◌, ◌^◌, ◌∙◌, ◌∷◌, ◌≡◌, ◌≤◌}
use Rattle.std.proofs.lemmas.Bool.{eq-eqb, eqb-true, ltb-false}
use Rattle.std.proofs.lemmas.List.{append-nil}

pub kept_kv : (ops : List Op) (s : StoreView) → (kept ops s).kv ≡ apply ops s.kv
kept_kv ops s = by (is_due (journal_after s.journal ops) (apply ops s.kv))
  where
    by : (b : Bool) → (cond {A = StoreView} b (record { side = other_side s.side; journal = next_journal (journal_after s.journal ops) (apply ops s.kv); kv = apply ops s.kv }) (record { side = s.side; journal = journal_after s.journal ops; kv = apply ops s.kv })).kv ≡ apply ops s.kv
    by true = refl
    by false = refl

-- ---- what is asked

moved_asked : (w : World) (p : Plain) (i : ℕ) (r : Reaction) → (moved w p i r).asked ≡ with_asked p w.asked
unfolding moved
moved_asked w p i r = refl

same_arrival : (olds bs : List Asked) (a b : Arrival) → Some a ≡ Some b → bs ≡ olds ++ asks_in a.rank a.input → bs ≡ olds ++ asks_in b.rank b.input
same_arrival olds bs a b e h = let same : a ≡ b = cc (e) in subst (λ (x : Arrival). bs ≡ olds ++ asks_in x.rank x.input) same h

delivered_asks : (olds : List Asked) (at : ℕ) (o : Option Envelope) (b : Arrival) → option_map (λ e. record { rank = e.to; at = at; input = input.Deliver e.message }) o ≡ Some b → olds ≡ olds ++ asks_in b.rank b.input
delivered_asks olds at None b e = absurd cc
delivered_asks olds at (Some m) b e = same_arrival olds olds (record { rank = m.to; at = at; input = input.Deliver m.message }) b e (sym (append-nil olds))

-- what an event brings is what is asked by it
brings : (w : World) (p : Plain) (olds : List Asked) (b : Arrival) → arrival w p ≡ Some b → with_asked p olds ≡ olds ++ asks_in b.rank b.input
brings w (Start rank at) olds b e = same_arrival olds olds (record { rank = rank; at = at; input = input.Start }) b e (sym (append-nil olds))
brings w (Deliver k at) olds b e = delivered_asks olds at (message_at w.messages k) b e
brings w (Ring rank t at) olds b e = same_arrival olds olds (record { rank = rank; at = at; input = input.Timer t }) b e (sym (append-nil olds))
brings w (Client rank at session q) olds b e = same_arrival olds (olds ++ record { rank = rank; session = session; request = q } ∷ []) (record { rank = rank; at = at; input = input.Client session q }) b e refl

lost_asked : (w : World) (p : Plain) (i at : ℕ) (came : Input) → arrival w p ≡ Some (record { rank = i; at = at; input = came }) → (lost w p i).asked ≡ w.asked ++ asks_in i came
unfolding lost
lost_asked w p i at came there = brings w p w.asked (record { rank = i; at = at; input = came }) there

asked_so : (w : World) (p : Plain) (i at : ℕ) (came : Input) (r : Reaction) → arrival w p ≡ Some (record { rank = i; at = at; input = came }) → (moved w p i r).asked ≡ w.asked ++ asks_in i came
asked_so w p i at came r there = moved_asked w p i r ∙ brings w p w.asked (record { rank = i; at = at; input = came }) there

module _ (A : Assembly) (ms : Monitors) (F : Facts ms) (net : Network) (w : World) (R : Reached ms w) (I : Inv A ms net w) (i : ℕ) (me : Me) (is : me_of ms i ≡ Some me) where
  abbrev M : IsMe ms i me
  M = known ms i me is

  -- a process that sends nothing, and keeps its map
  still_holds : (q : Process) → map_of q ≡ map_of (net.process i) → IfUp A ms I.ls (number_of net.lives i) i (w.state i) q → IsAlive (net.lives i) q → (J : Inv A ms (with_outcome net i (record { process = q; sends = [] })) w) × (J.ls ≡ I.ls)
  still_holds q e u a = (
    record {
      ls = I.ls;
      mine = λ j lt. mine_by j lt (eqb j i) refl;
      posted = all_append (IsPosted I.ls) net.sent [] I.posted tt;
      letters = I.letters;
      said = I.said;
      known = I.known;
      alive = λ j lt. alive_by j lt (eqb j i) refl;
      numbers = I.numbers;
    },
    refl,
  )
    where
      mine_by : (j : ℕ) → j < ms.count → (b : Bool) → eqb j i ≡ b → Mine A ms I.ls (number_of net.lives j) j (cond b q (net.process j)) (w.store j) (w.state j)
      mine_by j lt true k = subst (λ (x : ℕ). Mine A ms I.ls (number_of net.lives x) x q (w.store x) (w.state x)) (sym (eqb-true j i k)) (record { map = e ∙ (I.mine i M.below).map; up = u })
      mine_by j lt false k = I.mine j lt

      alive_by : (j : ℕ) → j < ms.count → (b : Bool) → eqb j i ≡ b → IsAlive (net.lives j) (cond b q (net.process j))
      alive_by j lt true k = subst (λ (x : ℕ). IsAlive (net.lives x) q) (sym (eqb-true j i k)) a
      alive_by j lt false k = I.alive j lt

  -- ---- what holds of an iteration

  -- its input comes by an event
  pub record EventFine (n : Node) (it : TimedInput) : Type 0 where
    pub plain : Plain
    pub fits : PlainFits ms.count plain
    pub there : arrival w plain ≡ Some (record { rank = i; at = it.at; input = it.input })
    pub up : state_at i (w.state i) it.input ≡ Some n.state
    pub may : IsValidInput it.input
    pub own : (r : Reaction) → reaction_to me n it ≡ Ok r → AllByRecursion (IsOwn me) r.sends
    pub fresh : (l : Letter) → Contains I.ls l → IsLong l → l.by ≡ i → l.boot ≡ number_of net.lives i → l.seq < n.next

  abbrev pub CameSo : Serving → Result (Option TimedInput) NodeEnd → Type 0
  CameSo s (Ok (Some it)) = EventFine s.node it
  CameSo s (Ok None) = IsUp A ms I.ls (number_of net.lives i) i (w.state i) s
  CameSo s (Err e) = Unit {0}

  pub record IterationFine (came : Result (Option TimedInput) NodeEnd) (s : Serving) : Type 0 where
    pub kv : s.node.store.kv ≡ map_of (net.process i)
    pub parts : A.Keeps I.ls i s.outside.parts
    pub most : s.node.next ≤ 2 ^ 62 + 1
    pub remembers : MayRemember me s.node.state
    pub alive : Contains (net.lives i) (number_of net.lives i)
    pub so : CameSo s came

  abbrev NextOf : List Asked → List Acknowledgement → List Leadership → Option Act → StepOutcome → Type 0
  NextOf olds acks leads act l = Next A ms olds acks leads act net.sent I.ls (with_outcome net i l) w

  -- nothing is kept, and nothing is sent
  unkept : (q : Process) → map_of q ≡ map_of (net.process i) → IfUp A ms I.ls (number_of net.lives i) i (w.state i) q → IsAlive (net.lives i) q → NextOf [] [] [] None (record { process = q; sends = [] })
  unkept q e u a = let holds = still_holds q e u a in Still (append-nil net.sent) refl refl refl refl holds.0 holds.1

  still_down : (came : Result (Option TimedInput) NodeEnd) (s : Serving) → IterationFine came s → NextOf [] [] [] None (record { process = Down s.node.store.kv; sends = [] })
  still_down came s T = unkept (Down s.node.store.kv) T.kv tt tt

  -- ---- an iteration with an input
  module _ (s : Serving) (it : TimedInput) (T : IterationFine (Ok (Some it)) s) where
    abbrev t : Iteration
    t = record { came = Ok (Some it); serving = s }

    abbrev n : Node
    n = s.node

    abbrev E : EventFine n it
    E = T.so

    abbrev small_of : Reaction → Option Reaction
    small_of r = cond (nat_lt most_size (size_of (map_after n r))) None (Some r)

    here : n.store.kv ≡ w.store i
    here = T.kv ∙ (I.mine i M.below).map

    -- the run's monitor went down too, before it kept anything
    lost_holds : Inv A ms (with_outcome net i (record { process = Down n.store.kv; sends = [] })) (lost w E.plain i)
    unfolding lost
    lost_holds = record {
      ls = I.ls;
      mine = λ j lt. mine_by j lt (eqb j i) refl;
      posted = all_append (IsPosted I.ls) net.sent [] I.posted tt;
      letters = I.letters;
      said = I.said;
      known = I.known;
      alive = λ j lt. alive_by j lt (eqb j i);
      numbers = I.numbers;
    }
      where
        mine_by : (j : ℕ) → j < ms.count → (b : Bool) → eqb j i ≡ b → Mine A ms I.ls (number_of net.lives j) j (cond b (Down n.store.kv) (net.process j)) (w.store j) (cond b None (w.state j))
        mine_by j lt true k = subst (λ (x : ℕ). Mine A ms I.ls (number_of net.lives x) x (Down n.store.kv) (w.store x) None) (sym (eqb-true j i k)) (record { map = here; up = tt })
        mine_by j lt false k = I.mine j lt

        alive_by : (j : ℕ) → j < ms.count → (b : Bool) → IsAlive (net.lives j) (cond b (Down n.store.kv) (net.process j))
        alive_by j lt true = tt
        alive_by j lt false = I.alive j lt

    -- it is a crash of the run, which notes what was asked
    lost_next : NextOf (asks_in i it.input) [] [] None (record { process = Down n.store.kv; sends = [] })
    unfolding lost lost_holds
    lost_next = Moved (record {
      event = Crash E.plain false;
      world = lost w E.plain i;
      fits = E.fits;
      next = ap (after_meeting w (Crash E.plain false)) (meets_it ms w E.plain i it.at it.input me n.state E.there is E.up);
      did = (refl, refl);
      sent = [];
      wire = refl;
      adds = record {
        asked = lost_asked w E.plain i it.at it.input E.there;
        events = refl;
        new = [];
        acknowledged = sym (append-nil w.acknowledged);
        given_are = refl;
        numbered = tt;
        replies = [];
        replied = sym (append-nil w.replied);
        answered = tt;
        active = sym (append-nil w.active);
        letters = [];
        posted = tt;
        later = λ l c. absurd (omega (arith, c.1));
      };
      inv = lost_holds;
      old = λ l c. c;
      new = λ l c. absurd (omega (arith, c.1));
    })

    -- down, with some of its datagrams sent
    down_next : (k : ℕ) (r : Reaction) → reaction_to me n it ≡ Ok r → nat_lt most_size (size_of (map_after n r)) ≡ false
        → NextOf (asks_in i it.input) (acknowledged_by n (Some r)) (led_by i n (Some r)) (act_by i me n it (Some r)) (down me n k (Some r))
    down_next k r e small =
        let outs : List Outgoing = with_number n.next (letters me (map_after n r) r.sends) in
        Moved (moves A ms F net w R I i me is n it.at it.input E.plain E.fits E.there here E.up E.may T.remembers r e (E.own r e) small
        outs (λ P all. all_with_number P n.next (letters me (map_after n r) r.sends) all) T.most (numbers_within n.next (letters me (map_after n r) r.sends) T.most) E.fresh T.alive
        (Down (map_after n r)) (take k (numbered_by me n r)) (λ P all. posted_front P i k (datagrams (boot_in (map_after n r)) n.next outs) all) refl tt
        (asks_in i it.input) (asked_so w E.plain i it.at it.input r E.there))

    -- down, by what it keeps
    abbrev DownNext : ℕ → Option Reaction → Type 0
    DownNext k o = NextOf (asks_in i it.input) (acknowledged_by n o) (led_by i n o) (act_by i me n it o) (down me n k o)

    kept_next : (k : ℕ) (x : Result Reaction Which) → reaction_to me n it ≡ x → DownNext k (kept_reaction me t)
    kept_next k (Err which) e = subst (DownNext k) (sym (ap (of_input None small_of) e)) lost_next
    kept_next k (Ok r) e = subst (DownNext k) (sym (ap (of_input None small_of) e)) (by (nat_lt most_size (size_of (map_after n r))) refl)
      where
        by : (b : Bool) → nat_lt most_size (size_of (map_after n r)) ≡ b → DownNext k (cond b None (Some r))
        by true small = lost_next
        by false small = down_next k r e small

    -- up, with all of them sent
    up_next : (r : Reaction) → reaction_to me n it ≡ Ok r → nat_lt most_size (size_of (map_after n r)) ≡ false → nat_lt (2 ^ 62 + 1) (next_number me n r) ≡ false
        → NextOf (asks_in i it.input) (acknowledged_by n (Some r)) (led_by i n (Some r)) (act_by i me n it (Some r)) (record { process = Up (done me s r); sends = sent_by me n r })
    up_next r e small few =
        let outs : List Outgoing = letters me (map_after n r) r.sends in
        let last : next_after n.next outs ≤ 2 ^ 62 + 1 = ltb-false _ _ few in
        let same : (done me s r).node.store.kv ≡ map_after n r = kept_kv r.transaction n.store in
        let labels : List Letter = new A ms F net w R I i me is n it.at it.input E.plain E.fits E.there here E.up E.may T.remembers r e (E.own r e) small outs (λ P all. all) T.most last E.fresh T.alive in
        let u : IsUp A ms (I.ls ++ labels) (number_of net.lives i) i (Some r.state) (done me s r) = record {
          state = refl;
          parts = A.more I.ls labels i s.outside.parts T.parts;
          next = λ l c long own boot. next_now A ms F net w R I i me is n it.at it.input E.plain E.fits E.there here E.up E.may T.remembers r e (E.own r e) small outs (λ P all. all) T.most last E.fresh T.alive l c long own boot;
          most = last;
          remembers = λ other o. let one : Some me ≡ Some other = sym is ∙ o in let both : me ≡ other = cc in
              subst (λ (x : Me). MayRemember x r.state) both (bounded A ms F net w R I i me is n it.at it.input E.plain E.fits E.there here E.up E.may T.remembers r e (E.own r e) small).state;
        } in
        Moved (moves A ms F net w R I i me is n it.at it.input E.plain E.fits E.there here E.up E.may T.remembers r e (E.own r e) small
        outs (λ P all. all) T.most last E.fresh T.alive (Up (done me s r)) (sent_by me n r) (λ P all. all) same u
        (asks_in i it.input) (asked_so w E.plain i it.at it.input r E.there))

    -- all of them find a number
    all_of_them : (r : Reaction) → reaction_to me n it ≡ Ok r → nat_lt most_size (size_of (map_after n r)) ≡ false → nat_lt (2 ^ 62 + 1) (next_number me n r) ≡ false → sent_by me n r ≡ sends_of me t
    all_of_them r e small few =
        let outs : List Outgoing = letters me (map_after n r) r.sends in
        sym (ap (of_input [] (λ (q : Reaction). cond (nat_lt most_size (size_of (map_after n q))) [] (numbered_by me n q))) e ∙ ap (λ (b : Bool). cond b [] (numbered_by me n r)) small
        ∙ ap (datagrams (boot_in (map_after n r)) n.next) (numbers_found n.next outs (ltb-false _ _ few)))

    whole_next : (x : Result Reaction Which) → reaction_to me n it ≡ x → NextOf (asks_in i it.input) (acknowledged_by n (kept_reaction me t)) (led_by i n (kept_reaction me t)) (act_by i me n it (kept_reaction me t)) (at_end me t (reacted me s x))
    whole_next (Err which) e = kept_next 0 (Err which) e
    whole_next (Ok r) e = by (nat_lt most_size (size_of (map_after n r))) refl (nat_lt (2 ^ 62 + 1) (next_number me n r)) refl
      where
        by : (b : Bool) → nat_lt most_size (size_of (map_after n r)) ≡ b → (f : Bool) → nat_lt (2 ^ 62 + 1) (next_number me n r) ≡ f
            → NextOf (asks_in i it.input) (acknowledged_by n (kept_reaction me t)) (led_by i n (kept_reaction me t)) (act_by i me n it (kept_reaction me t)) (at_end me t (cond b (Err (end.Full (size_of (map_after n r)))) (cond f (Err (end.Spent which.Seq)) (Ok (done me s r)))))
        by true small f few = kept_next 0 (Ok r) e
        by false small true few = kept_next 0 (Ok r) e
        by false small false few =
            let kept_is : kept_reaction me t ≡ Some r = ap (of_input None small_of) e ∙ ap (λ (b : Bool). cond b None (Some r)) small in
            subst (λ (o : Option Reaction). NextOf (asks_in i it.input) (acknowledged_by n o) (led_by i n o) (act_by i me n it o) (record { process = Up (done me s r); sends = sends_of me t })) (sym kept_is)
            (subst (λ (ds : List Outgoing). NextOf (asks_in i it.input) (acknowledged_by n (Some r)) (led_by i n (Some r)) (act_by i me n it (Some r)) (record { process = Up (done me s r); sends = ds })) (all_of_them r e small few) (up_next r e small few))

  iteration_next : (came : Result (Option TimedInput) NodeEnd) (s : Serving) (u : Until) → IterationFine came s
      → NextOf (requests_in i came) (acknowledged_by s.node (kept_by me (record { came = came; serving = s }) u)) (led_by i s.node (kept_by me (record { came = came; serving = s }) u)) (act_in i me s.node came (kept_by me (record { came = came; serving = s }) u)) (outcome_of me (record { came = came; serving = s }) u)
  unfolding ended_iteration
  iteration_next (Err e) s Lost T = still_down (Err e) s T
  iteration_next (Err e) s Whole T = still_down (Err e) s T
  iteration_next (Err e) s (Kept k) T = still_down (Err e) s T
  iteration_next (Ok None) s Lost T = still_down (Ok None) s T
  iteration_next (Ok None) s Whole T = unkept (Up s) T.kv T.so T.alive
  iteration_next (Ok None) s (Kept k) T = still_down (Ok None) s T
  iteration_next (Ok (Some it)) s Lost T = lost_next s it T
  iteration_next (Ok (Some it)) s Whole T = whole_next s it T (reaction_to me s.node it) refl
  iteration_next (Ok (Some it)) s (Kept k) T = kept_next s it T k (reaction_to me s.node it) refl

  -- ---- a start, or an iteration of a process that is up

  pub begins_fine : (store_view : StoreView) (clock : Option Readings) (link : Option Observed) (first : ℕ) → store_view.kv ≡ map_of (net.process i) → Contains (net.lives i) (number_of net.lives i)
      → ((l : Letter) → Contains I.ls l → l.by ≡ i → l.boot ≡ number_of net.lives i → ⊥)
      → IterationFine (start first (unstarted me.member.rank store_view clock link)).came (start first (unstarted me.member.rank store_view clock link)).serving
  begins_fine store_view clock link first kv alive none = record {
    kv = kv;
    parts = A.nothing I.ls i;
    most = omega arith;
    remembers = boot_ok me;
    alive = alive;
    so = record {
      plain = Start i first;
      fits = M.below;
      there = refl;
      up = started_up;
      may = tt;
      own = λ r e. F.started_own w i first me r R (subst (λ (m : Store). reaction me first m (booting me.member.rank) input.Start ≡ Ok r) here e);
      fresh = λ l c long own boot. absurd (none l c own boot);
    };
  }
    where
      n : Node
      n = record { state = booting me.member.rank; store = store_view; next = 1 }

      here : store_view.kv ≡ w.store i
      here = kv ∙ (I.mine i M.below).map

      started_up : Some (booting i) ≡ Some (booting me.member.rank)
      started_up = ap (λ (k : ℕ). Some (booting k)) (sym M.rank)

  -- a process that is up
  module _ (s : Serving) (here : net.process i ≡ Up s) (u : IsUp A ms I.ls (number_of net.lives i) i (w.state i) s) (alive : Contains (net.lives i) (number_of net.lives i)) where
    map_here : s.node.store.kv ≡ map_of (net.process i)
    map_here = ap map_of (sym here)

    store_here : s.node.store.kv ≡ w.store i
    store_here = map_here ∙ (I.mine i M.below).map

    so_heard : (h : Heard) (came : Result (Option TimedInput) NodeEnd) → CameFine A ms w i M.below I.ls I.said came → A.Keeps I.ls i h.outside.parts → CameSo (record s { outside = h.outside }) came
    so_heard h (Err e) c keeps = tt
    so_heard h (Ok None) c keeps = record { state = u.state; parts = keeps; next = u.next; most = u.most; remembers = u.remembers }
    so_heard h (Ok (Some it)) c keeps = record {
      plain = c.plain;
      fits = c.fits;
      there = c.there;
      up = c.running ∙ u.state;
      may = c.may;
      own = λ r e. F.own w c.plain i it.at it.input me s.node.state r R c.fits c.there u.state c.other (subst (λ (m : Store). reaction me it.at m s.node.state it.input ≡ Ok r) store_here e);
      fresh = u.next;
    }

    pub turns_fine : (g : Given) → IsAsked net i (due_by g.began (due s.node.state.timers)) g.answer → IterationFine (iteration me g s).came (iteration me g s).serving
    unfolding iteration
    turns_fine g asked =
        let next = due s.node.state.timers in
        let h : Heard = heard me.member.monitors next g s.outside in
        let f : HeardFine A ms w i M.below I.ls I.said h = heard_fine A ms w i M.below I.ls I.said net I.posted I.letters (due_by g.began next) me.member.monitors (wait_until g.began next) g (clock_read s.outside) u.parts asked in
        record { kv = map_here; parts = f.parts; most = u.most; remembers = u.remembers me is; alive = alive; so = so_heard h h.came f.came f.parts }

  turns_next : (s : Serving) (g : Given) (u : Until) → net.process i ≡ Up s → IsAsked net i (due_by g.began (due s.node.state.timers)) g.answer → IfUp A ms I.ls (number_of net.lives i) i (w.state i) (Up s) → IsAlive (net.lives i) (Up s)
      → Next A ms (asked_in_iteration i (Some (iteration me g s))) (acknowledged_in_iteration me u (Some (iteration me g s))) (led_in_iteration i me u (Some (iteration me g s))) (act_in_iteration i me u (Some (iteration me g s))) net.sent I.ls (with_outcome net i (outcome_of me (iteration me g s) u)) w
  turns_next s g u e may up alive = let t : Iteration = iteration me g s in iteration_next t.came t.serving u (turns_fine s e up alive g may)

  begins_next : (store_view : StoreView) (clock : Option Readings) (link : Option Observed) (first : ℕ) (u : Until) → store_view.kv ≡ map_of (net.process i) → Contains (net.lives i) (number_of net.lives i)
      → ((l : Letter) → Contains I.ls l → l.by ≡ i → l.boot ≡ number_of net.lives i → ⊥) → (t : Iteration) → t ≡ start first (unstarted me.member.rank store_view clock link)
      → Next A ms (asked_in_iteration i (Some t)) (acknowledged_in_iteration me u (Some t)) (led_in_iteration i me u (Some t)) (act_in_iteration i me u (Some t)) net.sent I.ls (with_outcome net i (outcome_of me t u)) w
  begins_next store_view clock link first u kv alive none t is_start =
      let s : Iteration = start first (unstarted me.member.rank store_view clock link) in
      subst (λ (t : Iteration). Next A ms (asked_in_iteration i (Some t)) (acknowledged_in_iteration me u (Some t)) (led_in_iteration i me u (Some t)) (act_in_iteration i me u (Some t)) net.sent I.ls (with_outcome net i (outcome_of me t u)) w) (sym is_start)
      (iteration_next s.came s.serving u (begins_fine store_view clock link first kv alive none))

-- ---- a life begins

module _ (A : Assembly) (ms : Monitors) (net : Network) (w : World) (I : Inv A ms net w) (i life : ℕ) (small : life ≤ 2 ^ 62) (new_one : Contains (net.lives i) life → ⊥) where
  abbrev lives_by : Bool → ℕ → List ℕ
  lives_by b j = cond b (life ∷ net.lives i) (net.lives j)

  -- no letter has its number yet
  pub none_has : (l : Letter) → Contains I.ls l → l.by ≡ i → l.boot ≡ life → ⊥
  none_has l c own boot = new_one (subst (λ (x : ℕ). Contains (net.lives i) x) boot (subst (λ (x : ℕ). Contains (net.lives x) l.boot) own (I.known l c)))

  entered_up : (j : ℕ) (st : Option State) (p : Process) → j ≡ i → IfUp A ms I.ls (number_of net.lives j) j st p → IfUp A ms I.ls life j st p
  entered_up j st (Down m) e u = tt
  entered_up j st (Up s) e u = record { state = u.state; parts = u.parts; next = λ l c long own boot. absurd (none_has l c (own ∙ e) boot); most = u.most; remembers = u.remembers }

  entered_alive : (p : Process) → IsAlive (life ∷ net.lives i) p
  entered_alive (Up s) = contains_first life (net.lives i)
  entered_alive (Down m) = tt

  pub entered_holds : (J : Inv A ms (record { process = net.process; lives = put_at net.lives i (life ∷ net.lives i); sent = net.sent }) w) × (J.ls ≡ I.ls)
  entered_holds = (
    record {
      ls = I.ls;
      mine = λ j lt. mine_by j lt (eqb j i) refl;
      posted = I.posted;
      letters = I.letters;
      said = I.said;
      known = λ l c. known_by l c (eqb l.by i) refl;
      alive = λ j lt. alive_by j lt (eqb j i) refl;
      numbers = λ j. numbers_by j (eqb j i);
    },
    refl,
  )
    where
      mine_by : (j : ℕ) → j < ms.count → (b : Bool) → eqb j i ≡ b → Mine A ms I.ls (newest (lives_by b j)) j (net.process j) (w.store j) (w.state j)
      mine_by j lt true e = record { map = (I.mine j lt).map; up = entered_up j (w.state j) (net.process j) (eqb-true j i e) (I.mine j lt).up }
      mine_by j lt false e = I.mine j lt

      known_by : (l : Letter) → Contains I.ls l → (b : Bool) → eqb l.by i ≡ b → Contains (lives_by b l.by) l.boot
      known_by l c true e = contains_later life (net.lives i) l.boot (subst (λ (x : ℕ). Contains (net.lives x) l.boot) (eqb-true l.by i e) (I.known l c))
      known_by l c false e = I.known l c

      alive_by : (j : ℕ) → j < ms.count → (b : Bool) → eqb j i ≡ b → IsAlive (lives_by b j) (net.process j)
      alive_by j lt true e = entered_alive (net.process j)
      alive_by j lt false e = I.alive j lt

      numbers_by : (j : ℕ) (b : Bool) → newest (lives_by b j) ≤ 2 ^ 62
      numbers_by j true = small
      numbers_by j false = I.numbers j

-- ---- a step

module _ (A : Assembly) (ms : Monitors) (F : Facts ms) (net : Network) (w : World) (R : Reached ms w) (I : Inv A ms net w) where
  pub newest_here : (i life : ℕ) (b : Bool) → b ≡ true → newest (cond b (life ∷ net.lives i) (net.lives i)) ≡ life
  newest_here i life true e = refl
  newest_here i life false e = absurd cc

  pub has_here : (i life : ℕ) (b : Bool) → b ≡ true → Contains (cond b (life ∷ net.lives i) (net.lives i)) (newest (cond b (life ∷ net.lives i) (net.lives i)))
  has_here i life true e = contains_first life (net.lives i)
  has_here i life false e = absurd cc

  made_next : (i : ℕ) (me : Me) → me_of ms i ≡ Some me → (p : Process) (doing : Doing) (u : Until) → net.process i ≡ p → May net i p doing → IfUp A ms I.ls (number_of net.lives i) i (w.state i) p → IsAlive (net.lives i) p
      → Next A ms (asked_in_iteration i (iteration_of me p doing)) (acknowledged_in_iteration me u (iteration_of me p doing)) (led_in_iteration i me u (iteration_of me p doing)) (act_in_iteration i me u (iteration_of me p doing)) net.sent I.ls (if_made me net (record { rank = i; doing = doing; up_to = u }) (iteration_of me p doing)) w
  made_next i me is p (Begins life store_view clock link first) u e may up alive =
      let t : Iteration = start first (unstarted me.member.rank store_view clock link) in
      let then_net : Network = record { process = net.process; lives = put_at net.lives i (life ∷ net.lives i); sent = net.sent } in
      let J = entered_holds A ms net w I i life may.1.0 may.1.1 in
      let one : eqb i i ≡ true = eq-eqb i i refl in
      let none : (l : Letter) → Contains J.0.ls l → l.by ≡ i → l.boot ≡ number_of then_net.lives i → ⊥ =
      λ l c own boot. none_has A ms net w I i life may.1.0 may.1.1 l (subst (λ (ls : List Letter). Contains ls l) J.1 c) own (boot ∙ newest_here i life (eqb i i) one) in
      subst (λ (ls : List Letter). Next A ms (asked_in_iteration i (Some t)) (acknowledged_in_iteration me u (Some t)) (led_in_iteration i me u (Some t)) (act_in_iteration i me u (Some t)) net.sent ls (with_outcome then_net i (outcome_of me t u)) w) J.1
      (begins_next A ms F then_net w R J.0 i me is store_view clock link first u (may.0 ∙ ap map_of (sym e)) (has_here i life (eqb i i) one) none t refl)
  made_next i me is (Up s) (Iterates g) u e may up alive = turns_next A ms F net w R I i me is s g u e may up alive
  made_next i me is (Down m) (Iterates g) u e may up alive = Still refl refl refl refl refl I refl

  pub step_next : (s : Step) → May net s.rank (net.process s.rank) s.doing → Next A ms (asked_by net s (me_of ms s.rank)) (acknowledged_at net s (me_of ms s.rank)) (led_at net s (me_of ms s.rank)) (act_at net s (me_of ms s.rank)) net.sent I.ls (after_step ms net s) w
  step_next s may = by (me_of ms s.rank) refl
    where
      by : (x : Option Me) → me_of ms s.rank ≡ x → Next A ms (asked_by net s x) (acknowledged_at net s x) (led_at net s x) (act_at net s x) net.sent I.ls (made_by net s x) w
      by None e = Still refl refl refl refl refl I refl
      by (Some me) e = made_next s.rank me e (net.process s.rank) s.doing s.up_to refl may (I.mine s.rank (known ms s.rank me e).below).up (I.alive s.rank (known ms s.rank me e).below)
