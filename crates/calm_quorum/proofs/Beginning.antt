-- The first calm run.
use Rattle.calm_quorum.proofs.Blocks.{everyone, from_each, length_each, length_flat, length_from, none_told, sent_each, to_each}
use Rattle.calm_quorum.proofs.Election.{all, collects, defers, follows, heard, idle, last0, leased, leases, probes, proposals, round_a, round_b, round_c, round_d, round_ef, round_g, round_h, round_i, victory}
use Rattle.calm_quorum.proofs.Handling.{Place, Settles, Shows, Told, comes, place, settled_is, settles_more, takes}
use Rattle.calm_quorum.proofs.Hearing.{takes_is}
use Rattle.calm_quorum.proofs.Rounds.{at_other, at_team, crew, did, first_of_them, flat, mixed_more, mixed_none}
use Rattle.calm_quorum.proofs.Rows.{start_row}
use Rattle.calm_quorum.proofs.Sets.{all_in, chosen}
use Rattle.calm_quorum.proofs.States.{acked, alone, alone_is, born, born_is, following, leasing, me_at, promised, reacts, unacked}
use Rattle.calm_quorum.proofs.Stores.{IsFirst, alone_first, alone_small, alone_told, born_small, born_told, empty_told, led_first, no_version, promised_first, unborn}
use Rattle.law_names.proofs.Runs.{Arrival, Arrives, Envelope, Event, HasAll, IsCalm, Monitors, Ran, Replied, Start, World, answers, answers_of, classic, deliveries, first_world, goes_on, log_of, numbers_delivered, orders, put_at, ran, ran_from, run, starts}
use Rattle.law_names.proofs.Table.{Boot, Clients, Entry, Epoch, Numbers, State, Store, any_reaction, be_active, booting, bootstrap, collect, collect_with, extend, has, message_to, no_clients, no_ranks, only, others, pending_of, range_with_len, react, reign, settle, stands, start, start_leader}
use Rattle.mon_msg.specs.declared.input.Input.TheVariants as input
use Rattle.mon_msg.specs.declared.paxos.LeaderStage.TheVariants as stage
use Rattle.mon_wire.specs.declared.body.Body.TheVariants as body
use Rattle.mon_wire.specs.declared.phase.Phase.TheVariants as phase
use Rattle.quorum_model.proofs.Continuing.{ran_next, ran_on}
use Rattle.quorum_model.specs.CalmRun.{AreAll, IsCalmAt, ServesCalmly, is_done}
use Rattle.quorum_model.specs.CalmSchedule.{asks_all, number_delivered}
use Rattle.std.proofs.Common.{Bool, List, None, Ok, Option, Some, [], ap, arith, eqb, filter, inl, inr, length, length-append, map, not, refl, replicate, slice_index_or, subst, suc, sym, zero, ℕ, ◌*◌, ◌++◌, ◌+◌, ◌<◌, ◌∙◌, ◌∷◌, ◌≡◌, ◌≤◌, ◌⊎◌}
use Rattle.std.proofs.lemmas.Bool.{cases_eq, le-ltb, lt-ltb}
use Rattle.std.proofs.lemmas.List.Elements.{filter_map-append}

-- ---- how the monitors stand

-- monitor 0 leads all n under a lease, and nobody has asked anything
pub record LeadsFirst (n : ℕ) (s : State) : Type 0 where
  pub active : s.phase ≡ phase.Active
  pub quorum : s.leader.quorum ≡ chosen n
  pub pn : s.leader.pn ≡ 100
  pub lease : s.leader.lease ≡ Some 5000
  pub acks : s.leader.acks ≡ chosen n
  pub clients : s.clients ≡ no_clients

-- another follows it
pub record FollowsFirst (n : ℕ) (s : State) : Type 0 where
  pub peon : s.phase ≡ phase.Peon
  pub leader : s.peon.leader ≡ 0
  pub quorum : s.peon.quorum ≡ chosen n
  pub lease : s.peon.lease ≡ Some 5000
  pub clients : s.clients ≡ no_clients

abbrev pub ServesFirst : (n i : ℕ) → State → Type 0
ServesFirst n zero s = LeadsFirst n s
ServesFirst n (suc i) s = FollowsFirst n s

pub record IsFirstPlace (n i : ℕ) (m : Store) (o : Option State) : Type 0 where
  pub state : State
  pub up : o ≡ Some state
  pub serves : ServesFirst n i state
  pub store : IsFirst m

-- the run until then: each message was delivered once, in order
pub record BeginsCalmly (n : ℕ) (most : n ≤ 15) : Type 0 where
  pub world : World
  pub goes : ran (classic n most) (starts (classic n most)) ≡ record { world = world; stop = None }
  pub numbers : numbers_delivered (starts (classic n most)) ≡ range_with_len 1 (length world.messages)
  pub each : (i : ℕ) → i < n → IsFirstPlace n i (world.store i) (world.state i)
  pub entries : world.log ≡ []
  pub said : answers world ≡ []

no_items : {A B : Type 0} (f : A → B) (xs : List A) → map f xs ≡ [] → xs ≡ []
no_items f [] e = refl
no_items f (x ∷ xs) e = absurd cc

begins_by : (n : ℕ) (most : n ≤ 15) (w : World) (S : ℕ → Place) (sent : List Envelope)
    → ran (classic n most) (starts (classic n most)) ≡ record { world = w; stop = None }
    → numbers_delivered (starts (classic n most)) ≡ range_with_len 1 (length sent) → Shows [] S sent [] w
    → ((i : ℕ) → i < n → IsFirstPlace n i (S i).store (S i).state) → BeginsCalmly n most
begins_by n most w S sent goes numbers H each = record {
  world = w;
  goes = goes;
  numbers = numbers ∙ ap (λ (es : List Envelope). range_with_len 1 (length es)) (sym H.messages);
  each = λ i lt. rw (H.store i, H.state i) (each i lt);
  entries = H.entries;
  said = no_items Told (answers w) H.said;
}

-- ---- it is calm

none_taken : (k m : ℕ) → ◌≡◌ {A = ℕ} (slice_index_or (replicate m 0) k 0) 0
none_taken k zero = refl
none_taken zero (suc m) = refl
none_taken (suc k) (suc m) = none_taken k m

module _ (n : ℕ) (some : 1 ≤ n) (most : n ≤ 15) where
  are_all : (q : List Bool) → q ≡ chosen n → AreAll n q
  are_all q e k = ap (λ (r : List Bool). has r k) e ∙ all_in n k some most

  serves_so : (i : ℕ) (s : State) → ServesFirst n i s → ServesCalmly n i s
  serves_so zero s L =
      record {
        active = L.active;
        quorum = are_all _ L.quorum;
        pn = L.pn;
        lease = ap (λ (l : Option ℕ). stands l 0) L.lease;
        acks = L.acks ∙ sym L.quorum;
        queue = ap (λ (c : Clients). c.queue) L.clients;
      }
  serves_so (suc i) s F =
      record {
        peon = F.peon;
        leader = F.leader;
        quorum = are_all _ F.quorum;
        lease = ap (λ (l : Option ℕ). stands l 0) F.lease;
      }

  untouched : (i : ℕ) (s : State) → ServesFirst n i s → s.clients ≡ no_clients
  untouched zero s L = L.clients
  untouched (suc i) s F = F.clients

  pub calm_first : BeginsCalmly n most → IsCalm (classic n most) [] (orders (classic n most) [])
  unfolding log_of answers_of asks_all
  calm_first B =
      let w = B.world in
      let at : run (classic n most) (starts (classic n most)) ≡ w = ap (λ (x : Ran). x.world) B.goes in
      let L = B.each 0 some in
      let here : (i : ℕ) → i < n → IsCalmAt n w L.state i = λ i lt.
      let P = B.each i lt in
      record {
        state = P.state;
        up = P.up;
        serves = serves_so i P.state P.serves;
        has = subst (λ (log : List (List ℕ)). HasAll log (w.store i)) (sym B.entries) P.store.has;
        sessions = ap (λ (c : Clients). c.sessions) (untouched i P.state P.serves);
        seqs = λ pos. rw (untouched 0 L.state L.serves, untouched i P.state P.serves, none_taken i 15) refl;
      } in
      let replied : w.replied ≡ [] = no_items _ w.replied B.said in
      record {
        goes_on = ap (λ (x : Ran). x.stop) B.goes;
        once = B.numbers ∙ ap (λ (v : World). range_with_len 1 (length v.messages)) (sym at);
        leader = L.state;
        leads = ap (λ (v : World). v.state 0) at ∙ L.up;
        each = λ i lt. subst (λ (v : World). IsCalmAt n v L.state i) (sym at) (here i lt);
        log = ap (λ (v : World). v.log) at ∙ B.entries;
        done = subst (λ (v : World). length (filter (λ (r : Replied). is_done r.reply) v.replied) ≡ length v.log)
            (sym at) (rw (replied, B.entries) refl);
        answered = ap answers at ∙ B.said;
      }

-- ---- the starts

abbrev start_events : ℕ → ℕ → List Event
start_events a k = map (λ i. Arrives (Start i 0)) (range_with_len a k)

none_delivered : (a k : ℕ) → numbers_delivered (start_events a k) ≡ []
none_delivered a zero = refl
none_delivered a (suc k) = none_delivered (a + 1) k

at_first : Shows [] (λ _. place Rattle.std.specs.FinMap.empty None) [] [] first_world
at_first = record { store = λ i. refl; state = λ i. refl; messages = refl; entries = refl; said = refl }

module _ (n : ℕ) (most : n ≤ 15) where
  abbrev ms : Monitors
  ms = classic n most

  abbrev asked : List Envelope
  asked = flat n (λ i. to_each n everyone i 1 body.Probe)

  start_is : (i : ℕ) → 1 < n → i < n → takes ms [] (record { rank = i; at = 0; input = input.Start }) (idle n most)
      ≡ did (probes n most i) (to_each n everyone i 1 body.Probe) []
  start_is i two lt =
      let e = lt-ltb i n lt in
      let me = me_at n i most e in
      takes_is n most (record { rank = i; at = 0; input = input.Start }) e (idle n most) unborn (booting i)
      (Boot 1 ∷ Epoch 1 ∷ []) (map (message_to me 1 body.Probe) (others me)) born _ refl empty_told
      (λ sh. start_row n most sh i e two) born_is born_small (no_version born _ _ _ born_told)
      (none_told i me 1 body.Probe (others me))
      ∙ rw (sent_each me 1 body.Probe (λ k. not (eqb k i)) n) refl

  record Begun (a k : ℕ) (w : World) : Type 0 where
    last : World
    goes : ran_from ms w (start_events a k) ≡ record { world = last; stop = None }
    shows : Shows [] (all n most (probes n most)) asked [] last

  begins : (k a : ℕ) (w : World) → 1 < n → a + k ≡ n → Shows [] (first_of_them a (probes n most) (λ _. idle n most))
      (flat a (λ i. to_each n everyone i 1 body.Probe)) [] w → Begun a k w
  unfolding ran_from
  begins zero a w two e H =
      let z : a ≡ n = omega arith in
      record { last = w; goes = refl; shows = rw z at H }
  begins (suc k) a w two e H =
      let z : a + 1 ≡ suc a = omega arith in
      let S = first_of_them a (probes n most) (λ _. idle n most) in
      let here : S a ≡ idle n most = rw (le-ltb a a (omega arith)) refl in
      let t : takes ms [] (record { rank = a; at = 0; input = input.Start }) (S a)
      ≡ did (probes n most a) (to_each n everyone a 1 body.Probe) [] = rw here (start_is a two (omega arith)) in
      let C = comes ms [] S (flat a (λ i. to_each n everyone i 1 body.Probe)) [] w (Start a 0)
      (record { rank = a; at = 0; input = input.Start }) H refl (rw t tt) in
      let shows : Shows [] (first_of_them (suc a) (probes n most) (λ _. idle n most))
      (flat (suc a) (λ i. to_each n everyone i 1 body.Probe)) [] C.next =
      rw (t, mixed_more (probes n most) (λ _. idle n most) a) at C.shows in
      let B = begins k (suc a) C.next two (omega arith) shows in
      record {
        last = B.last;
        goes = rw z (ran_next ms w C.next (Arrives (Start a 0)) (start_events (suc a) k) C.happened ∙ B.goes);
        shows = B.shows;
      }

  -- ---- all that is sent

  abbrev answers_sent : List Envelope
  answers_sent = flat n (λ i. from_each n i 1 (body.ProbeReply no_ranks 0 0))

  abbrev sent_until : List Envelope
  sent_until =
      asked ++ (answers_sent ++ (flat n (proposals n most) ++ (from_each n 0 1 body.Ack
      ++ (victory n most
      ++ (from_each n 0 2 (last0 n most) ++ (leased n most ++ (from_each n 0 2 (body.LeaseAck 0) ++ [])))))))

  abbrev calm_places : ℕ → Place
  calm_places = all n most (crew (leases n most (chosen n) acked) (follows n most promised (Some 5000)))

  pub settles : 1 < n → Settles ms [] (all n most (probes n most)) asked sent_until calm_places []
  settles two =
      settles_more ms [] _ _ _ asked _ _ [] [] tt (round_a n most)
      (settles_more ms [] _ _ _ answers_sent _ _ [] [] tt (round_b n most two)
      (settles_more ms [] _ _ _ (flat n (proposals n most)) _ _ [] [] tt (round_c n most two)
      (settles_more ms [] _ _ _ (from_each n 0 1 body.Ack) _ _ [] [] tt (round_d n most (defers n most) two)
      (settles_more ms [] _ _ _ (victory n most) _ _ [] [] tt (round_ef n most (collects n most (only 0)) two)
      (settles_more ms [] _ _ _ (from_each n 0 2 (last0 n most)) _ _ [] [] tt
      (round_g n most (follows n most promised None) two)
      (settles_more ms [] _ _ _ (leased n most) _ _ [] [] tt (round_h n most (leases n most (only 0) unacked))
      (settles_more ms [] _ _ _ (from_each n 0 2 (body.LeaseAck 0)) _ _ [] [] tt
      (round_i n most (follows n most promised (Some 5000)) two)
      (settled_is ms [] _))))))))

  length_sent : length sent_until ≤ 1000
  length_sent =
      let a : length asked ≤ n * 15 =
      length_flat n 15 _ (λ k lt. let t = length_each n k 1 everyone body.Probe in omega arith) in
      let b : length answers_sent ≤ n * 15 =
      length_flat n 15 _ (λ k lt. let t = length_from n k 1 (body.ProbeReply no_ranks 0 0) in omega arith) in
      let c : length (flat n (proposals n most)) ≤ n * 15 =
      length_flat n 15 _ (λ k lt. let t = length_each n k 1 everyone (body.Propose None) in omega arith) in
      let d = length_from n 0 1 body.Ack in
      let e = length_each n 0 2 (has (chosen n)) (body.Victory (chosen n)) in
      let f = length_each n 0 2 (has (chosen n)) (body.Collect 100 0 0) in
      let g = length_from n 0 2 (last0 n most) in
      let h = length_each n 0 2 (has (chosen n)) (body.Lease 0) in
      let i = length_from n 0 2 (body.LeaseAck 0) in
      let v : length (victory n most) ≡ length (to_each n (has (chosen n)) 0 2 (body.Victory (chosen n)))
      + length (to_each n (has (chosen n)) 0 2 (body.Collect 100 0 0)) = length-append _ _ in
      let s1 : length sent_until ≡ length asked + length (answers_sent ++ rest1) =
      length-append asked (answers_sent ++ rest1) in
      let s2 : length (answers_sent ++ rest1) ≡ length answers_sent + length rest1 = length-append answers_sent rest1 in
      let s3 : length rest1 ≡ length (flat n (proposals n most)) + length rest2 =
      length-append (flat n (proposals n most)) rest2 in
      let s4 : length rest2 ≡ length (from_each n 0 1 body.Ack) + length rest3 =
      length-append (from_each n 0 1 body.Ack) rest3 in
      let s5 : length rest3 ≡ length (victory n most) + length rest4 = length-append (victory n most) rest4 in
      let s6 : length rest4 ≡ length (from_each n 0 2 (last0 n most)) + length rest5 =
      length-append (from_each n 0 2 (last0 n most)) rest5 in
      let s7 : length rest5 ≡ length (leased n most) + length rest6 = length-append (leased n most) rest6 in
      let s8 : length rest6 ≡ length (from_each n 0 2 (body.LeaseAck 0)) + 0 =
      length-append (from_each n 0 2 (body.LeaseAck 0)) [] in
      omega arith
    where
      rest6 : List Envelope
      rest6 = from_each n 0 2 (body.LeaseAck 0) ++ []

      rest5 : List Envelope
      rest5 = leased n most ++ rest6

      rest4 : List Envelope
      rest4 = from_each n 0 2 (last0 n most) ++ rest5

      rest3 : List Envelope
      rest3 = victory n most ++ rest4

      rest2 : List Envelope
      rest2 = from_each n 0 1 body.Ack ++ rest3

      rest1 : List Envelope
      rest1 = flat n (proposals n most) ++ rest2

  -- ---- the end

  leads_so : IsFirstPlace n 0 (leases n most (chosen n) acked).store (leases n most (chosen n) acked).state
  leads_so = record {
    state = leasing n (heard n most 0) (chosen n) acked;
    up = refl;
    serves = record { active = refl; quorum = refl; pn = refl; lease = refl; acks = refl; clients = refl };
    store = led_first;
  }

  follows_first : (i : ℕ) → 0 < i → ServesFirst n i (following n i (heard n most i) (Some 5000))
  follows_first zero lt = absurd (omega arith)
  follows_first (suc i) lt = record { peon = refl; leader = refl; quorum = refl; lease = refl; clients = refl }

  follows_so : (i : ℕ) → 0 < i
      → IsFirstPlace n i (follows n most promised (Some 5000) i).store (follows n most promised (Some 5000) i).state
  follows_so i lt = record {
    state = following n i (heard n most i) (Some 5000);
    up = refl;
    serves = follows_first i lt;
    store = promised_first;
  }

  abbrev At : ℕ → Place → Type 0
  At i p = IsFirstPlace n i p.store p.state

  first_at : (i : ℕ) → 1 < n → i < n → At i (calm_places i)
  first_at i two lt = by i lt (cases_eq i 0)
    where
      by : (i : ℕ) → i < n → (i ≡ 0) ⊎ (i ≡ 0 → ⊥) → At i (calm_places i)
      by i lt (inl z) =
          subst (λ (j : ℕ). At j (calm_places j)) (sym z) (subst (At 0) (sym (at_team (idle n most) n
          (crew (leases n most (chosen n) acked) (follows n most promised (Some 5000))) 0 (omega arith))) leads_so)
      by i lt (inr nz) =
          subst (At i) (sym (at_other (idle n most) n i (leases n most (chosen n) acked)
          (follows n most promised (Some 5000)) (omega arith) lt)) (follows_so i (omega arith))

  pub calm_two : 1 < n → BeginsCalmly n most
  calm_two two =
      let B = begins n 0 first_world two (omega arith) (rw (mixed_none (probes n most) (λ _. idle n most)) at_first) in
      let at : run ms (start_events 0 n) ≡ B.last = ap (λ (r : Ran). r.world) B.goes in
      let E = settles two 1000 [] [] B.last length_sent B.shows in
      let d : deliveries ms 1000 1 (run ms (start_events 0 n)) ≡ deliveries ms 1000 1 B.last =
      ap (deliveries ms 1000 1) at in
      begins_by n most E.last calm_places sent_until
      (ap (λ (es : List Event). ran ms (start_events 0 n ++ es)) d
      ∙ ran_on ms first_world B.last (start_events 0 n) (deliveries ms 1000 1 B.last) B.goes
      ∙ E.ran)
      (filter_map-append number_delivered (start_events 0 n) (deliveries ms 1000 1 (run ms (start_events 0 n)))
      ∙ rw (none_delivered 0 n) (ap numbers_delivered d ∙ E.numbers))
      E.shows
      (λ i lt. first_at i two lt)

-- ---- one alone

abbrev alone_leads : State
alone_leads = record (booting 0) {
  phase = phase.Active;
  prober = record { outside = only 0 };
  leader = record start_leader {
    quorum = only 0;
    pn = 100;
    stage = stage.Active;
    answered = only 0;
    lease = Some 5000;
    acks = only 0;
  };
  timers = acked;
}

alone_row : (most : 1 ≤ 15) (shared : List Entry) → any_reaction
    (react (me_at 1 0 most refl) shared 0 unborn (booting 0) input.Start)
    ≡ Ok (reacts (Boot 1 ∷ Epoch 1 ∷ Epoch 2 ∷ Numbers 100 ∷ []) [] alone_leads)
unfolding react start bootstrap reign collect collect_with settle be_active extend pending_of
alone_row most shared = refl

abbrev nobody_up : Place
nobody_up = place Rattle.std.specs.FinMap.empty None

abbrev alone_up : Place
alone_up = place alone (Some alone_leads)

alone_so : (i : ℕ) → i < 1
    → IsFirstPlace 1 i (put_at (λ _. nobody_up) 0 alone_up i).store (put_at (λ _. nobody_up) 0 alone_up i).state
alone_so zero lt = record {
  state = alone_leads;
  up = refl;
  serves = record { active = refl; quorum = refl; pn = refl; lease = refl; acks = refl; clients = refl };
  store = alone_first;
}
alone_so (suc i) lt = absurd (omega arith)

calm_one : (most : 1 ≤ 15) → BeginsCalmly 1 most
unfolding ran_from
calm_one most =
    let ms = classic 1 most in
    let a : Arrival = record { rank = 0; at = 0; input = input.Start } in
    let t : takes ms [] a nobody_up ≡ did alone_up [] [] = takes_is 1 most a refl nobody_up unborn (booting 0)
    (Boot 1 ∷ Epoch 1 ∷ Epoch 2 ∷ Numbers 100 ∷ []) [] alone alone_leads refl empty_told (alone_row most)
    alone_is alone_small (no_version alone _ _ _ alone_told) refl in
    let C = comes ms [] (λ _. nobody_up) [] [] first_world (Start 0 0) a at_first refl (rw t tt) in
    let shows : Shows [] (put_at (λ _. nobody_up) 0 alone_up) [] [] C.next = rw t at C.shows in
    let E = settled_is ms [] (put_at (λ _. nobody_up) 0 alone_up) 1000 [] [] C.next (omega arith) shows in
    let goes : ran_from ms first_world (start_events 0 1) ≡ record { world = C.next; stop = None } =
    ran_next ms first_world C.next (Arrives (Start 0 0)) [] C.happened in
    let at : run ms (start_events 0 1) ≡ C.next = ap (λ (r : Ran). r.world) goes in
    let d : deliveries ms 1000 1 (run ms (start_events 0 1)) ≡ deliveries ms 1000 1 C.next =
    ap (deliveries ms 1000 1) at in
    begins_by 1 most E.last (put_at (λ _. nobody_up) 0 alone_up) []
    (ap (λ (es : List Event). ran ms (start_events 0 1 ++ es)) d
    ∙ ran_on ms first_world C.next (start_events 0 1) (deliveries ms 1000 1 C.next) goes
    ∙ E.ran)
    (filter_map-append number_delivered (start_events 0 1) (deliveries ms 1000 1 (run ms (start_events 0 1)))
    ∙ (ap numbers_delivered d ∙ E.numbers))
    E.shows
    alone_so

pub begins_calmly : (n : ℕ) → 1 ≤ n → (most : n ≤ 15) → BeginsCalmly n most
begins_calmly n some most = by (cases_eq n 1)
  where
    by : (n ≡ 1) ⊎ (n ≡ 1 → ⊥) → BeginsCalmly n most
    by (inl e) = subst (λ (m : ℕ). (most : m ≤ 15) → BeginsCalmly m most) (sym e) calm_one most
    by (inr ne) = calm_two n most (omega arith)
