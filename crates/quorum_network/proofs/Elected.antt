-- Two of three processes elect a leader. One datagram comes twice, some never come, and one comes late. The third
-- process is killed in its start, when it has sent one of two datagrams, and is started again. Each has a clock of its
-- own: when the first one's election ends by its timer, the second one's timer isn't due.
use Rattle.calm_quorum.proofs.Rows.{probe_row, propose_row, reply_enough, start_row}
use Rattle.calm_quorum.proofs.States.{born, born_is, electing, led, led_is, probing, promised, promised_is, reacts, served, served_is, tells}
use Rattle.calm_quorum.proofs.Stores.{born_small, born_told, empty_told, led_small, led_told, promised_small, promised_told, served_small, served_told, unborn}
use Rattle.law_names.proofs.Runs.{me_of}
use Rattle.law_names.proofs.Table.{AllByRecursion, Boot, Change, Contains, Entry, Epoch, Me, Message, Numbers, Promise, Readings, Sent, State, Store, answer_of, any_reaction, apply, armed, be_active, booting, collect, collect_with, due, election_ends, empty, encoded, epoch_of, extend, hear_ack, hear_collect, hear_last, hear_victory, joined, learn, message_to, missed, no_ranks, only, others, pending_of, react, readings_of, reign, run_of, settle, shared_entries, start_elector, start_leader, unarmed, win}
use Rattle.mon_msg.specs.declared.input.Input.TheVariants as input
use Rattle.mon_msg.specs.declared.paxos.LeaderStage.TheVariants as stage
use Rattle.mon_wire.specs.Message.Whole.{text}
use Rattle.mon_wire.specs.declared.body.Body.TheVariants as body
use Rattle.mon_wire.specs.declared.phase.Phase.TheVariants as phase
use Rattle.mon_wire.specs.declared.phase.Timer.TheVariants as timer
use Rattle.quorum_model.proofs.Members.{me_is}
use Rattle.quorum_network.proofs.Assembled.{contains_cases}
use Rattle.quorum_network.proofs.Lives.{other_rank}
use Rattle.quorum_network.proofs.Mails.{IsMail, ack, ack_mail, answer, answer_mail, both, collect_mail, collects, last, last_mail, lease, lease_short, me, me_0, me_1, probe, probe_mail, propose, propose_mail, three, victory, victory_mail}
use Rattle.quorum_network.proofs.Names.{AllMay, Alone, Begins, Doing, Down, Iteration, Kept, Network, Posted, Step, Whole, after_step, due_by, entered, first_network, if_made, iteration_of, letters, made_by, map_of, network, number_of, outcome_of, posted, under, with_outcome}
use Rattle.quorum_network.proofs.Played.{AreNew, Arrives, Play, Starts, Waits, all_may, comes, datagram_at, if_sent, network_is, played, played_on, step_of, steps_of, store_with, to_monitor}
use Rattle.quorum_network.proofs.Playing.{Goes, IsShort, IsSmall, Sits, dies, hears, moves, outcome_as, rings, serving_with, stays}
use Rattle.quorum_network.specs.Promises.{Leads}
use Rattle.std.proofs.Common.{List, None, Ok, Option, Some, [], ap, arith, false, inl, inr, length, lit≤, map, nat_lt, refl, subst, sym, take, true, ℕ, ◌++◌, ◌<◌, ◌∙◌, ◌∷◌, ◌≡◌, ◌≤◌}
use Rattle.std.proofs.lemmas.List.{append-nil}

-- ---- the maps

record IsMap (m : Store) (w : Readings) : Type 0 where
  told : readings_of m ≡ w
  small : IsSmall m

abbrev at_birth : Readings
at_birth = tells (Some 1) None None

born_map : IsMap born at_birth
born_map = record { told = born_told; small = born_small }

led_map : IsMap led (tells (Some 2) (Some 100) (Some 100))
led_map = record { told = led_told; small = led_small }

served_map : IsMap served (tells (Some 2) None None)
served_map = record { told = served_told; small = served_small }

promised_map : IsMap promised (tells (Some 2) None (Some 100))
promised_map = record { told = promised_told; small = promised_small }

-- a reaction that writes nothing
same : (m : Store) → apply (joined (encoded [])) m ≡ m
unfolding joined
same m = refl

-- ---- the states

abbrev probes : ℕ → State
probes i = probing i (only i)

abbrev stands : ℕ → State
stands i = electing i both true (only i) None

abbrev defers : State
defers = electing 1 both false no_ranks (Some 0)

abbrev has_both : State
has_both = electing 0 both true both None

abbrev wins : State
wins = record (booting 0) {
  phase = phase.Collecting;
  elector = record (start_elector 0) { candidate = true; acked = both };
  prober = record { outside = both };
  leader = record start_leader { quorum = both; pn = 100; answered = only 0; found = None };
  timers = armed 5000 timer.Collect unarmed;
}

abbrev leads : State
leads = record (booting 0) {
  phase = phase.Active;
  elector = record (start_elector 0) { candidate = true; acked = both };
  prober = record { outside = both };
  leader = record start_leader { quorum = both; pn = 100; stage = stage.Active; answered = both; found = None; lease = Some 10000; acks = only 0 };
  timers = armed 5000 timer.LeaseAck (armed 5000 timer.Renew unarmed);
}

abbrev follows : State
follows = record (booting 1) {
  phase = phase.Peon;
  elector = record (start_elector 1) { candidate = false; acked = no_ranks; deferred = Some 0 };
  prober = record { outside = both };
  peon = record { leader = 0; quorum = both; lease = None };
  timers = armed 4000 timer.Lease unarmed;
}

-- ---- the rows that a calm run doesn't have

ack_row : (shared : List Entry) → any_reaction (react me_0 shared 0 at_birth (stands 0) (input.Deliver ack)) ≡ Ok (reacts [] [] has_both)
unfolding react hear_ack
ack_row shared = refl

win_row : (shared : List Entry) → any_reaction (react me_0 shared 5000 at_birth has_both (input.Timer timer.Election))
    ≡ Ok (reacts (Epoch 2 ∷ Numbers 100 ∷ []) (message_to me_0 2 (body.Victory both) 1 ∷ message_to me_0 2 (body.Collect 100 0 0) 1 ∷ []) wins)
unfolding react election_ends win reign collect collect_with missed pending_of
win_row shared = refl

victory_row : (shared : List Entry) → any_reaction (react me_1 shared 4000 at_birth defers (input.Deliver victory)) ≡ Ok (reacts (Epoch 2 ∷ []) [] follows)
unfolding react hear_victory
victory_row shared = refl

collect_row : (shared : List Entry) → any_reaction (react me_1 shared 4000 (tells (Some 2) None None) follows (input.Deliver collects))
    ≡ Ok (reacts (Promise 100 ∷ []) (message_to me_1 2 (body.Last 100 0 0 true 1 [] None) 0 ∷ []) follows)
unfolding react hear_collect answer_of run_of pending_of
collect_row shared = refl

last_row : (shared : List Entry) → any_reaction (react me_0 shared 5000 (tells (Some 2) (Some 100) (Some 100)) wins (input.Deliver last)) ≡ Ok (reacts [] (message_to me_0 2 (body.Lease 0) 1 ∷ []) leads)
unfolding react hear_last learn settle be_active extend
last_row shared = refl

-- ---- one step after the other

-- what the first two keep and remember, and what was sent
record Scene (net : Network) (kv_0 : Store) (st_0 : State) (kv_1 : Store) (st_1 : State) (sent : List Posted) : Type 0 where
  first : Sits net 0 kv_0 st_0
  second : Sits net 1 kv_1 st_1
  wire : net.sent ≡ sent

module _ (net next : Network) (kv_0 : Store) (st_0 : State) (kv_1 : Store) (st_1 : State) (sent more : List Posted) (kv : Store) (st : State) (S : Scene net kv_0 st_0 kv_1 st_1 sent) where
  by_first : Goes net next 0 kv st more → Scene next kv st kv_1 st_1 (sent ++ more)
  by_first G = record { first = G.sits; second = stays net next 0 1 kv_1 kv st_1 st more G refl S.second; wire = G.wire ∙ ap (λ (ds : List Posted). ds ++ more) S.wire }

  by_second : Goes net next 1 kv st more → Scene next kv_0 st_0 kv st (sent ++ more)
  by_second G = record { first = stays net next 1 0 kv_0 kv st_0 st more G refl S.first; second = G.sits; wire = G.wire ∙ ap (λ (ds : List Posted). ds ++ more) S.wire }

abbrev on : Network → Play → Network
on net p = played_on three me_0.member net p

module _ (i : ℕ) (lt : nat_lt i 3 ≡ true) (net : Network) (kv : Store) (w : Readings) (M : IsMap kv w) (st : State) (S : Sits net i kv st) (becomes : Store) (after : Readings) (B : IsMap becomes after)
    (cs : List Change) (out : List Sent) (st_after : State) (is : apply (joined (encoded cs)) kv ≡ becomes) (short : AllByRecursion IsShort (letters (me i lt) becomes out)) where
  abbrev goes_on : Network → Type 0
  goes_on next = Goes net next i becomes st_after (map (posted i) (letters (me i lt) becomes out))

  -- datagram k comes, a message of monitor j
  hear : (sent : List Posted) → net.sent ≡ sent → (k j : ℕ) (m : Message) → IsMail j m → datagram_at sent k ≡ Some (to_monitor j i (text m)) → (clock : ℕ) → due_by clock (due st.timers) ≡ None
      → ((shared : List Entry) → any_reaction (react (me i lt) shared clock w st (input.Deliver m)) ≡ Ok (reacts cs out st_after)) → goes_on (on net (Arrives k clock Whole))
  hear sent wire k j m A found clock rests row =
      subst goes_on (sym (ap (λ (ds : List Posted). after_step three net (if_sent (datagram_at ds k) clock Whole)) wire ∙ ap (λ (o : Option Posted). after_step three net (if_sent o clock Whole)) found))
      (hears three i (me i lt) (me_is three i lt) kv w M.told st (reacts cs out st_after) becomes is B.small short net S j m A.has A.short A.from A.count A.tells clock rests (row (shared_entries kv)))

-- ---- the starts

abbrev probed : (i : ℕ) (lt : nat_lt i 3 ≡ true) → List Sent
probed i lt = map (message_to (me i lt) 1 body.Probe) (others (me i lt))

module _ (i number : ℕ) (lt : nat_lt i 3 ≡ true) (net : Network) (fresh : map_of (net.process i) ≡ empty) (short : AllByRecursion IsShort (letters (me i lt) born (probed i lt))) where
  abbrev begins : Doing
  begins = Begins number (store_with me_0.member (map_of (net.process i))) None None 0

  starts : Goes net (on net (Starts i number Whole)) i born (probing i (only i)) (map (posted i) (letters (me i lt) born (probed i lt)))
  starts = moves three i (me i lt) (me_is three i lt) empty unborn empty_told (booting i) (reacts (Boot 1 ∷ Epoch 1 ∷ []) (probed i lt) (probing i (only i))) born born_is born_small short
      (store_with me_0.member (map_of (net.process i))) fresh (record { input = input.Start; at = 0 }) (start_row 3 (lit≤ tt) (shared_entries empty) i lt (lit≤ tt)) net begins refl

  start_killed : (k : ℕ) → on net (Starts i number (Kept k)) ≡ with_outcome (entered net i begins) i (outcome_as (Down born) (take k (letters (me i lt) born (probed i lt))))
  start_killed k = dies three i (me i lt) (me_is three i lt) empty unborn empty_told (booting i) (reacts (Boot 1 ∷ Epoch 1 ∷ []) (probed i lt) (probing i (only i))) born born_is born_small short
      (store_with me_0.member (map_of (net.process i))) fresh (record { input = input.Start; at = 0 }) (start_row 3 (lit≤ tt) (shared_entries empty) i lt (lit≤ tt)) net begins k refl

probe_short : (i : ℕ) → i < 3 → length (text (probe i)) ≤ 60000
probe_short i lt = (probe_mail i lt).short

abbrev net_1 : Network
net_1 = on first_network (Starts 0 7 Whole)

abbrev net_2 : Network
net_2 = on net_1 (Starts 1 7 Whole)

abbrev net_3 : Network
net_3 = on net_2 (Starts 2 9 (Kept 1))

-- the datagrams 0 to 4
abbrev sent_2 : List Posted
sent_2 = to_monitor 0 1 (text (probe 0)) ∷ to_monitor 0 2 (text (probe 0)) ∷ to_monitor 1 0 (text (probe 1)) ∷ to_monitor 1 2 (text (probe 1)) ∷ []

abbrev sent_3 : List Posted
sent_3 = sent_2 ++ to_monitor 2 0 (text (probe 2)) ∷ []

start_0 : Goes first_network net_1 0 born (probes 0) (to_monitor 0 1 (text (probe 0)) ∷ to_monitor 0 2 (text (probe 0)) ∷ [])
start_0 = starts 0 7 refl first_network refl (probe_short 0 (lit≤ tt), (probe_short 0 (lit≤ tt), tt))

start_1 : Goes net_1 net_2 1 born (probes 1) (to_monitor 1 0 (text (probe 1)) ∷ to_monitor 1 2 (text (probe 1)) ∷ [])
start_1 = starts 1 7 refl net_1 (ap map_of (start_0.others 1 refl)) (probe_short 1 (lit≤ tt), (probe_short 1 (lit≤ tt), tt))

scene_2 : Scene net_2 born (probes 0) born (probes 1) sent_2
scene_2 = record {
  first = stays net_1 net_2 1 0 born born (probes 0) (probes 1) (to_monitor 1 0 (text (probe 1)) ∷ to_monitor 1 2 (text (probe 1)) ∷ []) start_1 refl start_0.sits;
  second = start_1.sits;
  wire = start_1.wire ∙ ap (λ (ds : List Posted). ds ++ to_monitor 1 0 (text (probe 1)) ∷ to_monitor 1 2 (text (probe 1)) ∷ []) start_0.wire;
}

-- the third process is killed when it has kept its start and sent one of two datagrams
scene_3 : Scene net_3 born (probes 0) born (probes 1) sent_3
scene_3 =
    let S = scene_2 in
    let killed = start_killed 2 9 refl net_2 (ap map_of (start_1.others 2 refl ∙ start_0.others 2 refl)) (probe_short 2 (lit≤ tt), (probe_short 2 (lit≤ tt), tt)) 1 in
    subst (λ (net : Network). Scene net born (probes 0) born (probes 1) sent_3) (sym killed) (record {
      first = record { store_view = S.first.store_view; map = S.first.map; up = S.first.up };
      second = record { store_view = S.second.store_view; map = S.second.map; up = S.second.up };
      wire = ap (λ (ds : List Posted). ds ++ to_monitor 2 0 (text (probe 2)) ∷ []) S.wire;
    })

-- ---- the election

module _ (net : Network) where
  -- datagram 0 comes, and comes again: the second process answers each time
  abbrev answer_1 : List Posted
  answer_1 = to_monitor 1 0 (text (answer 1)) ∷ []

  answers : (sent : List Posted) → datagram_at sent 0 ≡ Some (to_monitor 0 1 (text (probe 0))) → Scene net born (probes 0) born (probes 1) sent → Scene (on net (Arrives 0 0 Whole)) born (probes 0) born (probes 1) (sent ++ answer_1)
  answers sent found S =
      by_second net (on net (Arrives 0 0 Whole)) born (probes 0) born (probes 1) sent answer_1 born (probes 1) S
      (hear 1 refl net born at_birth born_map (probes 1) S.second born at_birth born_map [] (message_to me_1 1 (body.ProbeReply no_ranks 0 0) 0 ∷ []) (probes 1) (same born) ((answer_mail 1 (lit≤ tt)).short, tt)
      sent S.wire 0 0 (probe 0) (probe_mail 0 (lit≤ tt)) found 0 refl (λ shared. probe_row 3 (lit≤ tt) shared 0 1 refl (only 1) (λ e. absurd (omega (arith, e)))))

  abbrev sent_5 : List Posted
  sent_5 = (sent_3 ++ answer_1) ++ answer_1

  -- datagram 2 comes, and the first process answers with datagram 7
  abbrev sent_6 : List Posted
  sent_6 = sent_5 ++ to_monitor 0 1 (text (answer 0)) ∷ []

  step_6 : Scene net born (probes 0) born (probes 1) sent_5 → Scene (on net (Arrives 2 0 Whole)) born (probes 0) born (probes 1) sent_6
  step_6 S =
      by_first net (on net (Arrives 2 0 Whole)) born (probes 0) born (probes 1) sent_5 (to_monitor 0 1 (text (answer 0)) ∷ []) born (probes 0) S
      (hear 0 refl net born at_birth born_map (probes 0) S.first born at_birth born_map [] (message_to me_0 1 (body.ProbeReply no_ranks 0 0) 1 ∷ []) (probes 0) (same born) ((answer_mail 0 (lit≤ tt)).short, tt)
      sent_5 S.wire 2 1 (probe 1) (probe_mail 1 (lit≤ tt)) refl 0 refl (λ shared. probe_row 3 (lit≤ tt) shared 1 0 refl (only 0) (λ e. absurd (omega (arith, e)))))

  -- the second process stands, and sends 8 and 9
  abbrev sent_7 : List Posted
  sent_7 = sent_6 ++ to_monitor 1 0 (text (propose 1)) ∷ to_monitor 1 2 (text (propose 1)) ∷ []

  step_7 : Scene net born (probes 0) born (probes 1) sent_6 → Scene (on net (Arrives 7 0 Whole)) born (probes 0) born (stands 1) sent_7
  step_7 S =
      by_second net (on net (Arrives 7 0 Whole)) born (probes 0) born (probes 1) sent_6 (to_monitor 1 0 (text (propose 1)) ∷ to_monitor 1 2 (text (propose 1)) ∷ []) born (stands 1) S
      (hear 1 refl net born at_birth born_map (probes 1) S.second born at_birth born_map [] (map (message_to me_1 1 (body.Propose None)) (others me_1)) (stands 1) (same born) ((propose_mail 1 (lit≤ tt)).short, ((propose_mail 1 (lit≤ tt)).short, tt))
      sent_6 S.wire 7 0 (answer 0) (answer_mail 0 (lit≤ tt)) refl 0 refl (λ shared. reply_enough 3 (lit≤ tt) shared 1 0 refl (only 1) (λ e. absurd (omega (arith, e))) refl))

  -- so does the first, with 10 and 11
  abbrev sent_8 : List Posted
  sent_8 = sent_7 ++ to_monitor 0 1 (text (propose 0)) ∷ to_monitor 0 2 (text (propose 0)) ∷ []

  step_8 : Scene net born (probes 0) born (stands 1) sent_7 → Scene (on net (Arrives 5 0 Whole)) born (stands 0) born (stands 1) sent_8
  step_8 S =
      by_first net (on net (Arrives 5 0 Whole)) born (probes 0) born (stands 1) sent_7 (to_monitor 0 1 (text (propose 0)) ∷ to_monitor 0 2 (text (propose 0)) ∷ []) born (stands 0) S
      (hear 0 refl net born at_birth born_map (probes 0) S.first born at_birth born_map [] (map (message_to me_0 1 (body.Propose None)) (others me_0)) (stands 0) (same born) ((propose_mail 0 (lit≤ tt)).short, ((propose_mail 0 (lit≤ tt)).short, tt))
      sent_7 S.wire 5 1 (answer 1) (answer_mail 1 (lit≤ tt)) refl 0 refl (λ shared. reply_enough 3 (lit≤ tt) shared 0 1 refl (only 0) (λ e. absurd (omega (arith, e))) refl))

  -- the second defers, with 12
  abbrev sent_9 : List Posted
  sent_9 = sent_8 ++ to_monitor 1 0 (text ack) ∷ []

  step_9 : Scene net born (stands 0) born (stands 1) sent_8 → Scene (on net (Arrives 10 0 Whole)) born (stands 0) born defers sent_9
  step_9 S =
      by_second net (on net (Arrives 10 0 Whole)) born (stands 0) born (stands 1) sent_8 (to_monitor 1 0 (text ack) ∷ []) born defers S
      (hear 1 refl net born at_birth born_map (stands 1) S.second born at_birth born_map [] (message_to me_1 1 body.Ack 0 ∷ []) defers (same born) (ack_mail.short, tt)
      sent_8 S.wire 10 0 (propose 0) (propose_mail 0 (lit≤ tt)) refl 0 refl (λ shared. propose_row 3 (lit≤ tt) shared 1 refl both (lit≤ tt)))

  step_10 : Scene net born (stands 0) born defers sent_9 → Scene (on net (Arrives 12 0 Whole)) born has_both born defers sent_9
  step_10 S =
      by_first net (on net (Arrives 12 0 Whole)) born (stands 0) born defers sent_9 [] born has_both S
      (hear 0 refl net born at_birth born_map (stands 0) S.first born at_birth born_map [] [] has_both (same born) tt
      sent_9 S.wire 12 1 ack ack_mail refl 0 refl ack_row)

  -- the election ends: 13 and 14
  abbrev sent_11 : List Posted
  sent_11 = sent_9 ++ to_monitor 0 1 (text victory) ∷ to_monitor 0 1 (text collects) ∷ []

  step_11 : Scene net born has_both born defers sent_9 → Scene (on net (Waits 0 5000 Whole)) led wins born defers sent_11
  step_11 S =
      by_first net (on net (Waits 0 5000 Whole)) born has_both born defers sent_9 (to_monitor 0 1 (text victory) ∷ to_monitor 0 1 (text collects) ∷ []) led wins S
      (rings three 0 me_0 (me_is three 0 refl) born at_birth born_told has_both (reacts (Epoch 2 ∷ Numbers 100 ∷ []) (message_to me_0 2 (body.Victory both) 1 ∷ message_to me_0 2 (body.Collect 100 0 0) 1 ∷ []) wins) led led_is led_small
      (victory_mail.short, (collect_mail.short, tt)) net S.first 5000 timer.Election refl (win_row (shared_entries born)))

  step_12 : Scene net led wins born defers sent_11 → Scene (on net (Arrives 13 4000 Whole)) led wins served follows sent_11
  step_12 S =
      by_second net (on net (Arrives 13 4000 Whole)) led wins born defers sent_11 [] served follows S
      (hear 1 refl net born at_birth born_map defers S.second served (tells (Some 2) None None) served_map (Epoch 2 ∷ []) [] follows served_is tt
      sent_11 S.wire 13 0 victory victory_mail refl 4000 refl victory_row)

  -- 15
  abbrev sent_13 : List Posted
  sent_13 = sent_11 ++ to_monitor 1 0 (text last) ∷ []

  step_13 : Scene net led wins served follows sent_11 → Scene (on net (Arrives 14 4000 Whole)) led wins promised follows sent_13
  step_13 S =
      by_second net (on net (Arrives 14 4000 Whole)) led wins served follows sent_11 (to_monitor 1 0 (text last) ∷ []) promised follows S
      (hear 1 refl net served (tells (Some 2) None None) served_map follows S.second promised (tells (Some 2) None (Some 100)) promised_map (Promise 100 ∷ []) (message_to me_1 2 (body.Last 100 0 0 true 1 [] None) 0 ∷ []) follows promised_is (last_mail.short, tt)
      sent_11 S.wire 14 0 collects collect_mail refl 4000 refl collect_row)

  -- the first process leads
  abbrev sent_14 : List Posted
  sent_14 = sent_13 ++ to_monitor 0 1 (text lease) ∷ []

  step_14 : Scene net led wins promised follows sent_13 → Scene (on net (Arrives 15 5000 Whole)) led leads promised follows sent_14
  step_14 S =
      by_first net (on net (Arrives 15 5000 Whole)) led wins promised follows sent_13 (to_monitor 0 1 (text lease) ∷ []) led leads S
      (hear 0 refl net led (tells (Some 2) (Some 100) (Some 100)) led_map wins S.first led (tells (Some 2) (Some 100) (Some 100)) led_map [] (message_to me_0 2 (body.Lease 0) 1 ∷ []) leads (same led) (lease_short, tt)
      sent_13 S.wire 15 1 last last_mail refl 5000 refl last_row)

-- ---- all of it

-- the newest first
abbrev begun : List Play
begun = Starts 2 9 (Kept 1) ∷ Starts 1 7 Whole ∷ Starts 0 7 Whole ∷ []

abbrev until_elected : List Play
until_elected =
    Arrives 15 5000 Whole ∷ Arrives 14 4000 Whole ∷ Arrives 13 4000 Whole ∷ Waits 0 5000 Whole ∷ Arrives 12 0 Whole ∷ Arrives 10 0 Whole ∷ Arrives 5 0 Whole ∷ Arrives 7 0 Whole ∷ Arrives 2 0 Whole
    ∷ Arrives 0 0 Whole ∷ Arrives 0 0 Whole ∷ begun

abbrev at : List Play → Network
at ps = played three me_0.member ps

abbrev net_8 : Network
net_8 = on (on (on (on (on net_3 (Arrives 0 0 Whole)) (Arrives 0 0 Whole)) (Arrives 2 0 Whole)) (Arrives 7 0 Whole)) (Arrives 5 0 Whole)

scene_8 : Scene net_8 born (stands 0) born (stands 1) (sent_8 net_3)
scene_8 =
    let n_4 : Network = on net_3 (Arrives 0 0 Whole) in
    let n_5 : Network = on n_4 (Arrives 0 0 Whole) in
    let n_6 : Network = on n_5 (Arrives 2 0 Whole) in
    let n_7 : Network = on n_6 (Arrives 7 0 Whole) in
    step_8 n_7 (step_7 n_6 (step_6 n_5 (answers n_4 (sent_3 ++ answer_1 net_3) refl (answers net_3 sent_3 refl scene_3))))

abbrev net_11 : Network
net_11 = on (on (on net_8 (Arrives 10 0 Whole)) (Arrives 12 0 Whole)) (Waits 0 5000 Whole)

scene_11 : Scene net_11 led wins born defers (sent_11 net_3)
scene_11 =
    let n_9 : Network = on net_8 (Arrives 10 0 Whole) in
    let n_10 : Network = on n_9 (Arrives 12 0 Whole) in
    step_11 n_10 (step_10 n_9 (step_9 net_8 scene_8))

elected : Scene (at until_elected) led leads promised follows (sent_14 net_3)
elected =
    let n_12 : Network = on net_11 (Arrives 13 4000 Whole) in
    let n_13 : Network = on n_12 (Arrives 14 4000 Whole) in
    step_14 n_13 (step_13 n_12 (step_12 net_11 scene_11))

-- it only grows
sent_more : (net : Network) (s : Step) → (more : List Posted) × ((after_step three net s).sent ≡ net.sent ++ more)
sent_more net s = by (me_of three s.rank)
  where
    made : (m : Me) (t : Option Iteration) → (more : List Posted) × ((if_made m net s t).sent ≡ net.sent ++ more)
    made m None = ([], sym (append-nil net.sent))
    made m (Some t) = (map (posted s.rank) (map (under (number_of (entered net s.rank s.doing).lives s.rank)) (outcome_of m t s.up_to).sends), refl)

    by : (x : Option Me) → (more : List Posted) × ((made_by net s x).sent ≡ net.sent ++ more)
    by None = ([], sym (append-nil net.sent))
    by (Some m) = made m (iteration_of m (net.process s.rank) s.doing)

-- The third process is started again, with another number, and datagram 1, which was sent to it before it was killed,
-- arrives at it.
abbrev pub plays : List Play
plays = Arrives 1 5000 Whole ∷ Starts 2 4 Whole ∷ until_elected

no_number : (number : ℕ) → ¬ Contains [] number
no_number number c = absurd (omega (arith, c.1))

another_number : ¬ Contains {X = ℕ} (9 ∷ []) 4
another_number c = elim (contains_cases 9 [] 4 c) [ inl nine ↦ absurd (omega (arith, nine)) | inr later ↦ no_number 4 later ]

begun_new : AreNew begun
begun_new = (((tt, (lit≤ tt, no_number 7)), (lit≤ tt, no_number 7)), (lit≤ tt, no_number 9))

pub is_played : AllMay three (steps_of three me_0.member plays)
is_played = all_may three me_0.member plays (((((((((((((begun_new, tt), tt), tt), tt), tt), tt), tt), tt), tt), tt), tt), (lit≤ tt, another_number)), tt)

pub one_leads : Leads (network three (steps_of three me_0.member plays)) 0 2
one_leads =
    let S = elected in
    let again : Network = at (Starts 2 4 Whole ∷ until_elected) in
    let more = sent_more (at until_elected) (step_of me_0.member (at until_elected) (Starts 2 4 Whole)) in
    let comes_to_it : datagram_at again.sent 1 ≡ Some (to_monitor 0 2 (text (probe 0))) = ap (λ (ds : List Posted). datagram_at ds 1) (more.1 ∙ ap (λ (ds : List Posted). ds ++ more.0) S.wire) in
    let is : step_of me_0.member again (Arrives 1 5000 Whole) ≡ comes 0 2 (text (probe 0)) 5000 Whole = ap (λ (o : Option Posted). if_sent o 5000 Whole) comes_to_it in
    let untouched : (at plays).process 0 ≡ (at until_elected).process 0 =
    ap (λ (s : Step). (after_step three again s).process 0) is
    ∙ ap (λ (a : Alone). a.process) (other_rank three 0 again (comes 0 2 (text (probe 0)) 5000 Whole) refl)
    ∙ ap (λ (a : Alone). a.process) (other_rank three 0 (at until_elected) (step_of me_0.member (at until_elected) (Starts 2 4 Whole)) refl) in
    subst (λ (net : Network). Leads net 0 2) (sym (network_is three me_0.member plays)) (record {
      serving = serving_with S.first.store_view leads;
      up = untouched ∙ S.first.up;
      active = refl;
      epoch = ap (λ (m : Store). epoch_of (readings_of m)) S.first.map ∙ ap epoch_of led_told;
    })
