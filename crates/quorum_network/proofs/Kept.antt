-- A reaction whose transaction is kept: the network with some of its datagrams, and the world of its event.
use Rattle.law_names.proofs.Runs.{Arrives, Asked, Envelope, Monitors, Plain, PlainFits, Reached, Reacts, Replied, World, acknowledgements_of, arrival, epoch, happens, is_active, me_of, meets, messages_of, most_size, moved, replies_of, size_of, state_at}
use Rattle.law_names.proofs.Table.{AllByRecursion, Cell, Contains, Input, Me, Reaction, Sent, State, Store, Which, apply, cell, epoch_of, number_in, reaction, readings_of}
use Rattle.log_model.proofs.Lists.{of_all}
use Rattle.mon_bounds.proofs.Table.{reaction_ok}
use Rattle.mon_bounds.specs.Fitting.{IsBounded}
use Rattle.mon_bounds.specs.Remembered.{IsNumber}
use Rattle.mon_frag.proofs.Lists.{all_append}
use Rattle.mon_msg.specs.declared.plan.Sent.TheVariants as sent
use Rattle.mon_tx.proofs.Places.{number_in-low}
use Rattle.mon_tx.specs.declared.key.Area.TheVariants as area
use Rattle.mon_tx.specs.declared.key.Key.TheVariants as key
use Rattle.quorum_model.proofs.Reached.{reached_next}
use Rattle.quorum_model.specs.Happens as model
use Rattle.quorum_network.proofs.Adding.{AllLater, IsLater, IsRepliedAt, all_numbered, all_replied, given_same, noted_as, noted_same}
use Rattle.quorum_network.proofs.Assembling.{Assembly, IsLabelled}
use Rattle.quorum_network.proofs.Events.{IsMe, known, meets_it, reacts_moves}
use Rattle.quorum_network.proofs.Facts.{Facts}
use Rattle.quorum_network.proofs.Invariant.{IfUp, Inv, IsAlive, IsSaid, Mine, Moves, Says}
use Rattle.quorum_network.proofs.Letters.{CanBeCut, IsLong, IsPosted, Letter, Numbered, labelled}
use Rattle.quorum_network.proofs.Names.{Client, Down, IsNamed, IsValidInput, MayRemember, Monitor, Network, Node, Outgoing, Peer, Posted, Process, SendsNamed, Up, boot_in, datagrams, entries_in, letters, map_after, map_of, next_after, number_of, posted, under, with_outcome}
use Rattle.quorum_network.proofs.Sends.{IsCuttable, IsOwn, SaysOf, SentHasText, all_cuttable, all_say, have_texts, label_of, posted_behind, posted_more, says_behind, says_more}
use Rattle.quorum_network.proofs.Under.{Under, all_before, all_under, under_datagrams}
use Rattle.quorum_network.specs.Requests.{acknowledged_in, led_in}
use Rattle.std.proofs.Common.{Bool, IfOk, List, None, Ok, Option, Result, Some, [], ap, arith, cond, eqb, false, inl, inr, map, nat_lt, option_map, refl, subst, suc, sym, true, unwrap_or, ℕ, ◌++◌, ◌+◌, ◌<◌, ◌^◌, ◌∙◌, ◌∷◌, ◌≡◌, ◌≤◌}
use Rattle.std.proofs.lemmas.Bool.Decides.{nat_tests}
use Rattle.std.proofs.lemmas.Bool.{eqb-true}
use Rattle.std.proofs.lemmas.List.Elements.{Contains-append_cases, Contains-append_left, Contains-append_right}

abbrev Named : Envelope → Type 0
Named e = AllByRecursion IsNamed (entries_in e.message.body)

named_sends : (sends : List Sent) → ((e : Envelope) → Contains (messages_of sends) e → Named e) → AllByRecursion SendsNamed sends
named_sends [] h = tt
named_sends (sent.Message to m ∷ sends) h = (h (record { to = to; message = m }) (0, omega arith, refl), named_sends sends (λ e c. h e (suc c.0, omega (arith, c.1), c.2)))
named_sends (sent.Reply to r ∷ sends) h = (tt, named_sends sends h)

messages_moved : (w : World) (p : Plain) (i : ℕ) (r : Reaction) → (moved w p i r).messages ≡ w.messages ++ messages_of r.sends
unfolding moved
messages_moved w p i r = refl

events_moved : (w : World) (p : Plain) (i : ℕ) (r : Reaction) → (moved w p i r).events ≡ suc w.events
unfolding moved
events_moved w p i r = refl

acknowledged_moved : (w : World) (p : Plain) (i : ℕ) (r : Reaction) → (moved w p i r).acknowledged ≡ w.acknowledged ++ acknowledgements_of (suc w.events) (model.map_after w i r) r.state r.sends
unfolding moved
acknowledged_moved w p i r = refl

active_moved : (w : World) (p : Plain) (i : ℕ) (r : Reaction) → (moved w p i r).active ≡ w.active ++ map noted_as (led_in i (model.map_after w i r) r.state)
unfolding moved
active_moved w p i r = ap (λ (xs : List (ℕ × ℕ)). w.active ++ xs) (noted_same i (epoch_of (readings_of (model.map_after w i r))) (is_active r.state.phase))

replied_moved : (w : World) (p : Plain) (i : ℕ) (r : Reaction) → (moved w p i r).replied ≡ w.replied ++ replies_of (suc w.events) i (model.map_after w i r) r.sends
unfolding moved
replied_moved w p i r = refl

new_replied : (w : World) (p : Plain) (i : ℕ) (r : Reaction) (q : Replied) → Contains (replies_of (suc w.events) i (model.map_after w i r) r.sends) q → Contains (moved w p i r).replied q
unfolding moved
new_replied w p i r q c = Contains-append_right w.replied (replies_of (suc w.events) i (model.map_after w i r) r.sends) q c

not_eq : (j i : ℕ) → eqb j i ≡ false → j ≡ i → ⊥
not_eq j i e is = grind (arith, nat_tests)

epoch_by : (c : Cell) → unwrap_or (option_map (λ (bytes : List ℕ). number_in (Some bytes)) c) 1 ≤ 2 ^ 62
epoch_by None = omega arith
epoch_by (Some bytes) = number_in-low (Some bytes)

pub epoch_short : (m : Store) → epoch m ≤ 2 ^ 62
epoch_short m = epoch_by (cell m area.Monitor key.ElectionEpoch)

-- what holds of the other processes still holds when monitor i sends letters
module _ (A : Assembly) (ms : Monitors) (i : ℕ) (ls ks : List Letter) (by : (l : Letter) → Contains ks l → l.by ≡ i) where
  if_up_more : (life j : ℕ) (st : Option State) (p : Process) → (j ≡ i → ⊥) → IfUp A ms ls life j st p → IfUp A ms (ls ++ ks) life j st p
  if_up_more life j st (Up s) ne u = record {
    state = u.state;
    parts = A.more ls ks j s.outside.parts u.parts;
    next = λ l c long own boot. elim (Contains-append_cases ls ks l c) [ inl old ↦ u.next l old long own boot | inr new ↦ absurd (ne (sym own ∙ by l new)) ];
    most = u.most;
    remembers = u.remembers;
  }
  if_up_more life j st (Down m) ne u = tt

  mine_more : (life j : ℕ) (p : Process) (m : Store) (st : Option State) → (j ≡ i → ⊥) → Mine A ms ls life j p m st → Mine A ms (ls ++ ks) life j p m st
  mine_more life j p m st ne k = record { map = k.map; up = if_up_more life j st p ne k.up }

module _ (A : Assembly) (ms : Monitors) (F : Facts ms) (net : Network) (w : World) (R : Reached ms w) (I : Inv A ms net w) (i : ℕ) (me : Me) (is : me_of ms i ≡ Some me)
    (n : Node) (at : ℕ) (came : Input) (p : Plain) (fits : PlainFits ms.count p) (there : arrival w p ≡ Some (record { rank = i; at = at; input = came }))
    (kv : n.store.kv ≡ w.store i) (up : state_at i (w.state i) came ≡ Some n.state) (may : IsValidInput came) (remembers : MayRemember me n.state)
    (r : Reaction) (reacts : reaction me at n.store.kv n.state came ≡ Ok r) (own : AllByRecursion (IsOwn me) r.sends) where
  abbrev M : IsMe ms i me
  M = known ms i me is

  -- the event
  pub met : meets ms w p ≡ Reacts i came (Ok r)
  met = meets_it ms w p i at came me n.state there is up ∙ ap (λ (x : Result Reaction Which). Reacts i came x) (subst (λ (m : Store). reaction me at m n.state came ≡ Ok r) kv reacts)

  same_map : map_after n r ≡ model.map_after w i r
  same_map = ap (apply r.transaction) kv

  module _ (small : nat_lt most_size (size_of (map_after n r)) ≡ false) where
    pub happens_so : happens ms w (Arrives p) ≡ Ok (moved w p i r)
    happens_so = reacts_moves ms w p i came r met (subst (λ (m : Store). nat_lt most_size (size_of m) ≡ false) same_map small)

    pub reach : Reached ms (moved w p i r)
    reach = reached_next ms w (moved w p i r) (Arrives p) fits happens_so R

    pub bounded : IsBounded me r
    bounded = subst (λ (x : Result Reaction Which). IfOk x (IsBounded me)) reacts (reaction_ok me at n.store.kv n.state came remembers may)

    pub named : AllByRecursion SendsNamed r.sends
    named = named_sends r.sends (λ e c. F.named (moved w p i r) reach e (subst (λ (es : List Envelope). Contains es e) (sym (messages_moved w p i r)) (Contains-append_right w.messages (messages_of r.sends) e c)))

    texts : IsNumber (epoch (map_after n r)) → AllByRecursion (SentHasText me (epoch (map_after n r))) r.sends
    texts k = have_texts me (epoch (map_after n r)) r.sends k bounded.sends named

    -- ---- with some of its datagrams sent

    -- the letters, and their numbers
    module _ (outs : List Outgoing) (among : (P : Outgoing → Type 0) → AllByRecursion P (letters me (map_after n r) r.sends) → AllByRecursion P outs)
        (most : n.next ≤ 2 ^ 62 + 1) (last : next_after n.next outs ≤ 2 ^ 62 + 1)
        (fresh : (l : Letter) → Contains I.ls l → IsLong l → l.by ≡ i → l.boot ≡ number_of net.lives i → l.seq < n.next)
        (alive : Contains (net.lives i) (number_of net.lives i)) where
      abbrev boot : ℕ
      boot = number_of net.lives i

      abbrev pub new : List Letter
      new = labelled i boot n.next outs

      abbrev v : World
      v = moved w p i r

      labels : IsLabelled i boot n.next outs new
      labels = A.labels i boot n.next outs

      says_new : (l : Letter) → Contains new l → Says ms.count i (messages_of r.sends) (replies_of (suc w.events) i (model.map_after w i r) r.sends) l.to l.bytes
      says_new l c = label_of (λ to bytes. Says ms.count i (messages_of r.sends) (replies_of (suc w.events) i (model.map_after w i r) r.sends) to bytes) i boot n.next outs
          (among (SaysOf ms.count i (messages_of r.sends) (replies_of (suc w.events) i (model.map_after w i r) r.sends))
          (subst (λ (m : Store). AllByRecursion (SaysOf ms.count i (messages_of r.sends) (replies_of (suc w.events) i m r.sends)) (letters me (map_after n r) r.sends)) same_map
          (all_say me (map_after n r) ms.count (suc w.events) i M.rank M.count r.sends (texts (epoch_short (map_after n r))) own))) l c

      said_now : (l : Letter) → Contains (I.ls ++ new) l → IsSaid ms.count v l l.to
      unfolding moved
      said_now l c = elim (Contains-append_cases I.ls new l c) [
        | inl old ↦ says_more ms.count l.by w.messages (messages_of r.sends) w.replied (replies_of (suc w.events) i (model.map_after w i r) r.sends) l.to l.bytes (I.said l old)
        | inr now ↦ says_behind ms.count l.by w.messages (messages_of r.sends) w.replied (replies_of (suc w.events) i (model.map_after w i r) r.sends) l.to l.bytes
            (subst (λ (k : ℕ). Says ms.count k (messages_of r.sends) (replies_of (suc w.events) i (model.map_after w i r) r.sends) l.to l.bytes) (sym (labels.by l now).0) (says_new l now))
      ]

      all_cut : AllByRecursion (λ (o : Outgoing). IsCuttable o.bytes) outs
      all_cut = among (λ o. IsCuttable o.bytes) (all_cuttable me (map_after n r) r.sends (texts (epoch_short (map_after n r))))

      cuttable : (l : Letter) → Contains new l → IsCuttable l.bytes
      cuttable l c = label_of (λ to bytes. IsCuttable bytes) i boot n.next outs
          all_cut l c

      cut_now : (l : Letter) → Contains (I.ls ++ new) l → CanBeCut l
      cut_now l c = elim (Contains-append_cases I.ls new l c) [
        | inl old ↦ I.letters.cut l old
        | inr now ↦
            let k = cuttable l now in
            let b = labels.by l now in
            let short = I.numbers i in
            record { most = k.most; boot = omega (arith, b.1, short); seq = omega (arith, b.3, last); no_piece = k.no_piece }
      ]

      old_new : (l k : Letter) → Contains I.ls l → Contains new k → IsLong l → l.by ≡ k.by → l.boot ≡ k.boot → l.seq ≡ k.seq → ⊥
      old_new l k old now long by boots seqs =
          let b = labels.by k now in
          let f = fresh l old long (by ∙ b.0) (boots ∙ b.1) in
          omega (arith, f, b.2, seqs)

      numbered_now : Numbered (I.ls ++ new)
      numbered_now l k c d long longer by boots seqs = elim (Contains-append_cases I.ls new l c) [
        | inl old ↦ elim (Contains-append_cases I.ls new k d) [
          | inl both ↦ I.letters.numbered l k old both long longer by boots seqs
          | inr now ↦ absurd (old_new l k old now long by boots seqs)
        ]
        | inr now ↦ elim (Contains-append_cases I.ls new k d) [
          | inl old ↦ absurd (old_new k l old now longer (sym by) (sym boots) (sym seqs))
          | inr both ↦ labels.once l k now both long longer seqs
        ]
      ]

      -- the number that is next is above those of this life
      pub next_now : (l : Letter) → Contains (I.ls ++ new) l → IsLong l → l.by ≡ i → l.boot ≡ boot → l.seq < next_after n.next outs
      next_now l c long by boots = elim (Contains-append_cases I.ls new l c) [
        | inl old ↦ let f = fresh l old long by boots in omega (arith, f, labels.up)
        | inr now ↦ labels.long l now long
      ]

      -- ---- the network then
      module _ (q : Process) (ds : List Outgoing) (front : (P : Posted → Type 0) → AllByRecursion P (map (posted i) (datagrams (boot_in (map_after n r)) n.next outs)) → AllByRecursion P (map (posted i) ds))
          (q_map : map_of q ≡ map_after n r) (q_up : IfUp A ms (I.ls ++ new) boot i (Some r.state) q) where
        abbrev pub then_net : Network
        then_net = with_outcome net i (record { process = q; sends = ds })

        mine_now : (j : ℕ) → j < ms.count → Mine A ms (I.ls ++ new) (number_of net.lives j) j (then_net.process j) (v.store j) (v.state j)
        unfolding moved
        mine_now j lt = mine_by (eqb j i) refl
          where
            mine_by : (b : Bool) → eqb j i ≡ b → Mine A ms (I.ls ++ new) (number_of net.lives j) j (cond b q (net.process j)) (cond b (model.map_after w i r) (w.store j)) (cond b (Some r.state) (w.state j))
            mine_by true e = subst (λ (k : ℕ). Mine A ms (I.ls ++ new) (number_of net.lives k) k q (model.map_after w i r) (Some r.state)) (sym (eqb-true j i e)) (record { map = q_map ∙ same_map; up = q_up })
            mine_by false e = mine_more A ms i I.ls new (λ l c. (labels.by l c).0) (number_of net.lives j) j (net.process j) (w.store j) (w.state j) (not_eq j i e) (I.mine j lt)

        known_now : (l : Letter) → Contains (I.ls ++ new) l → Contains (net.lives l.by) l.boot
        known_now l c = elim (Contains-append_cases I.ls new l c) [
          | inl old ↦ I.known l old
          | inr now ↦
              let b = labels.by l now in
              subst (λ (k : ℕ). Contains (net.lives k) l.boot) (sym b.0) (subst (λ (k : ℕ). Contains (net.lives i) k) (sym b.1) alive)
        ]

        alive_now : (j : ℕ) → j < ms.count → IsAlive (net.lives j) (then_net.process j)
        alive_now j lt = alive_by (eqb j i) refl
          where
            of_process : (p : Process) → IsAlive (net.lives i) p
            of_process (Up s) = alive
            of_process (Down m) = tt

            alive_by : (b : Bool) → eqb j i ≡ b → IsAlive (net.lives j) (cond b q (net.process j))
            alive_by true e = subst (λ (k : ℕ). IsAlive (net.lives k) q) (sym (eqb-true j i e)) (of_process q)
            alive_by false e = I.alive j lt

        -- as it goes over the wire
        abbrev wire : List Posted
        wire = map (posted i) (map (under boot) ds)

        wire_front : (P : Posted → Type 0) → AllByRecursion P (map (posted i) (datagrams boot n.next outs)) → AllByRecursion P wire
        wire_front P all = all_under P i boot ds (front (Under boot P) (all_before P i boot (datagrams (boot_in (map_after n r)) n.next outs)
            (subst (λ (xs : List Outgoing). AllByRecursion P (map (posted i) xs)) (sym (under_datagrams boot (boot_in (map_after n r)) n.next outs all_cut)) all)))

        -- what it sends are datagrams of letters of its own
        posted_new : AllByRecursion (IsPosted new) wire
        posted_new = wire_front (IsPosted new) (A.pieces i boot n.next outs)

        later_new : AllLater ms.count w.events v new
        later_new l c = is_later l.to (says_new l c)
          where
            is_later : (to : Peer) → Says ms.count i (messages_of r.sends) (replies_of (suc w.events) i (model.map_after w i r) r.sends) to l.bytes → IsLater ms.count w.events v l.by to l.bytes
            is_later (Monitor j) says = tt
            is_later (Client k) says =
                let event = of_all (IsRepliedAt (suc w.events)) (replies_of (suc w.events) i (model.map_after w i r) r.sends) (all_replied (suc w.events) i (model.map_after w i r) r.sends) says.0 says.1 in
                (says.0, new_replied w p i r says.0 says.1, omega (arith, event), says.2, says.3 ∙ sym (labels.by l c).0, says.4, says.5)

        -- the world moves, and it holds then
        pub moves : (asks : List Asked) → v.asked ≡ w.asked ++ asks
            → Moves A ms asks (acknowledged_in (map_after n r) r.state r.sends) (led_in i (map_after n r) r.state) (Some (record { rank = i; me = me; node = n; at = at; input = came; reaction = r })) net.sent I.ls then_net w
        moves asks asked = record {
          event = Arrives p;
          world = v;
          fits = fits;
          next = happens_so;
          did = record { known = is; plain = p; fits = fits; there = there; up = up; kv = kv; reacts = subst (λ (m : Store). reaction me at m n.state came ≡ Ok r) kv reacts; replied = replied_moved w p i r; messages = messages_moved w p i r };
          sent = wire;
          wire = refl;
          adds = record {
            asked = asked;
            events = events_moved w p i r;
            new = acknowledgements_of (suc w.events) (model.map_after w i r) r.state r.sends;
            acknowledged = acknowledged_moved w p i r;
            given_are = given_same (suc w.events) (model.map_after w i r) r.state r.sends ∙ ap (λ (m : Store). acknowledged_in m r.state r.sends) (sym same_map);
            numbered = all_numbered (suc w.events) (model.map_after w i r) r.state r.sends;
            replies = replies_of (suc w.events) i (model.map_after w i r) r.sends;
            replied = replied_moved w p i r;
            answered = all_replied (suc w.events) i (model.map_after w i r) r.sends;
            active = subst (λ (m : Store). v.active ≡ w.active ++ map noted_as (led_in i m r.state)) (sym same_map) (active_moved w p i r);
            letters = new;
            posted = posted_new;
            later = later_new;
          };
          inv = record {
            ls = I.ls ++ new;
            mine = mine_now;
            posted = all_append (IsPosted (I.ls ++ new)) net.sent wire (posted_more I.ls new net.sent I.posted)
                (wire_front (IsPosted (I.ls ++ new)) (posted_behind I.ls new (map (posted i) (datagrams boot n.next outs)) (A.pieces i boot n.next outs)));
            letters = record { cut = cut_now; numbered = numbered_now };
            said = said_now;
            known = known_now;
            alive = alive_now;
            numbers = I.numbers;
          };
          old = λ l c. Contains-append_left I.ls new l c;
          new = λ l c. Contains-append_right I.ls new l c;
        }
