-- A run that rests, and one more command.
use Rattle.calm_command.proofs.CommandRounds.{Goes, nobody}
use Rattle.calm_command.proofs.Deliveries.{Ends, drains_up, ends}
use Rattle.calm_command.proofs.Roles.{Holds, Leading, Role}
use Rattle.calm_command.proofs.Rounds.{Standing, crew}
use Rattle.calm_command.proofs.Sets.{firsts}
use Rattle.calm_command.proofs.ValueRounds.{peons}
use Rattle.calm_command.proofs.Worlds.{Is}
use Rattle.calm_command.specs.Resting.{IsResting, RestsAt}
use Rattle.law_names.proofs.Runs.{AllValues, Answer, Arrives, Client, Envelope, Event, Monitors, Order, Ran, World, answers_of, asks, deliveries, first_world, log_of, numbers_delivered, ran, ran_from, reply_over, request_of, run, session, value_over, view_at, with_value}
use Rattle.law_names.proofs.Table.{Command, Service, ShownMap, State, Store, incrementals, is_too_long, made, map_after, most_text, range_with_len, read_map, text_length, value, value_if_made}
use Rattle.log_model.proofs.Committed.{holds}
use Rattle.log_model.proofs.FoldWindows.{keeps_view}
use Rattle.log_model.proofs.RowReadings.{map_is}
use Rattle.log_model.proofs.Windows.{row_of}
use Rattle.mon_bytes.specs.declared.command.Command.TheVariants as command
use Rattle.mon_bytes.specs.declared.command.CommandRefused.TheVariants as refused
use Rattle.mon_wire.specs.declared.request.Service.TheVariants as service
use Rattle.quorum_model.proofs.Continuing.{at, ran_on, ran_one}
use Rattle.quorum_model.specs.CalmSchedule.{most_sent, number_delivered, then_delivered}
use Rattle.std.proofs.Common.{Err, List, None, Option, [], ap, append-nil, arith, length, refl, subst, suc, sym, true, zero, ℕ, ◌++◌, ◌+◌, ◌-◌, ◌^◌, ◌∙◌, ◌∷◌, ◌≡◌, ◌≤◌}
use Rattle.std.proofs.lemmas.List.Elements.{filter_map-append}
use Rattle.std.proofs.lemmas.List.FromFn.{length-range_with_len}

-- ---- commands in a row

pub log_push : (log : List (List ℕ)) (cs : List Order) (c : Order)
    → log_of log (cs ++ c ∷ []) ≡ with_value (log_of log cs) (value_over (log_of log cs) c)
unfolding log_of
log_push log [] c = refl
log_push log (d ∷ cs) c = log_push (with_value log (value_over log d)) cs c

-- the answer of the command that comes next
abbrev pub answer_next : (j : ℕ) → List (List ℕ) → Order → Answer
answer_next j log c = (c.0, session j, reply_over log (value_over log c))

pub answers_push : (j : ℕ) (log : List (List ℕ)) (cs : List Order) (c : Order) (k : ℕ) → j + length cs ≡ k
    → answers_of j log (cs ++ c ∷ []) ≡ answers_of j log cs ++ answer_next k (log_of log cs) c ∷ []
unfolding answers_of log_of
answers_push j log [] c k e = let f : j ≡ k = omega arith in ap (λ (q : ℕ). answer_next q log c ∷ []) f
answers_push j log (d ∷ cs) c k e =
    ap (λ (l : List Answer). answer_next j log d ∷ l)
    (answers_push (suc j) (with_value log (value_over log d)) cs c k (omega arith))

range_more : (a m n b : ℕ) → a + m ≡ b → range_with_len a (m + n) ≡ range_with_len a m ++ range_with_len b n
range_more a zero n b e =
    let f : a ≡ b = omega arith in
    let g : zero + n ≡ n = omega arith in
    ap (λ (q : ℕ). range_with_len a q) g ∙ ap (λ (q : ℕ). range_with_len q n) f
range_more a (suc m) n b e =
    let g : suc m + n ≡ suc (m + n) = omega arith in
    ap (λ (q : ℕ). range_with_len a q) g ∙ ap (λ (l : List ℕ). a ∷ l) (range_more (a + 1) m n b (omega arith))

-- ---- a command that is too long is refused

module _ (log : List (List ℕ)) (fits : length log ≤ 2 ^ 62) (all : AllValues log) where
  reads_map : (s : Service) → read_map (view_at log (length log)) s ≡ map_after s (incrementals s log (length log))
  reads_map s =
      let h = holds log fits all (length log) (omega arith) in
      map_is (view_at log (length log)) s (incrementals s log (length log))
      (row_of log (length log) (view_at log (length log)) s (keeps_view log (length log) fits h.keeps))
      (let f = h.chains.few s in omega arith) (h.chains.chain s)

  pub long_refused : (c : Command) (asked : ℕ) → is_too_long c ≡ true
      → value (view_at log (length log)) c asked ≡ Err (refused.TooLong (text_length c) (most_text c))
  unfolding value
  long_refused (command.Set key bytes) asked long =
      ap (λ (m : ShownMap).
      value_if_made (view_at log (length log)) service.Kv (made m asked (command.Set key bytes)))
      (reads_map service.Kv)
      ∙ rw long refl
  long_refused (command.Log bytes) asked long =
      ap (λ (m : ShownMap). value_if_made (view_at log (length log)) service.Log (made m asked (command.Log bytes)))
      (reads_map service.Log)
      ∙ rw long refl
  long_refused (command.Remove key) asked long = absurd cc

-- ---- how a run rests

module _ (ms : Monitors) where
  abbrev n : ℕ
  n = ms.count

  -- all of these versions, nothing under way
  abbrev pub At : (v : ℕ) → List ℕ → (ℕ → ℕ) → ℕ → Role
  At v taken seq = crew (Leading v v (firsts n) taken) (peons v v true nobody seq)

  stands_at : (log : List (List ℕ)) (taken : List ℕ) (seq : ℕ → ℕ) (i : ℕ) (m : Store) (o : Option State)
      → RestsAt n log taken seq i m o → Is ms Role (Holds ms log) (At (length log) taken seq i) m o
  stands_at log taken seq zero m o R = record { state = R.state; up = R.up; holds = (R.keeps, R.remembers) }
  stands_at log taken seq (suc i) m o R = record { state = R.state; up = R.up; holds = (R.keeps, R.remembers) }

  pub rests_at : (log : List (List ℕ)) (taken : List ℕ) (seq : ℕ → ℕ) (i : ℕ) (m : Store) (o : Option State)
      → Is ms Role (Holds ms log) (At (length log) taken seq i) m o → RestsAt n log taken seq i m o
  rests_at log taken seq zero m o I = record { state = I.state; up = I.up; keeps = I.holds.0; remembers = I.holds.1 }
  rests_at log taken seq (suc i) m o I = record { state = I.state; up = I.up; keeps = I.holds.0; remembers = I.holds.1 }

  -- each has this state
  pub all_stand : (cs : List Order) (events : List Event) (H : IsResting ms cs events)
      → Standing ms Role (Holds ms (log_of [] cs)) (At (length (log_of [] cs)) H.taken H.seq)
      (length (run ms events).messages) [] (log_of [] cs) (answers_of 1 [] cs) (run ms events)
  all_stand cs events H = record {
    each = λ i lt.
        stands_at (log_of [] cs) H.taken H.seq i ((run ms events).store i) ((run ms events).state i) (H.each i lt);
    done = (run ms events).messages;
    count = refl;
    messages = sym (append-nil (run ms events).messages);
    logged = H.log;
    answered = H.answered;
  }

  -- ---- the command comes, and all is delivered

  module _ (cs : List Order) (events : List Event) (H : IsResting ms cs events) (c : Order) (log : List (List ℕ))
      (told : List Answer) (taken : List ℕ) (seq : ℕ → ℕ) (q : ℕ) (few : q ≤ 1000) where
    abbrev w0 : World
    w0 = run ms events

    abbrev k0 : ℕ
    k0 = length w0.messages

    abbrev came : Event
    came = Arrives (Client c.0 0 (session (suc (length cs))) (request_of c.1))

    abbrev pub later : List Event
    later = then_delivered ms events (asks (suc (length cs)) c.0 (request_of c.1) ∷ [])

    pub record Comes_to : Type 0 where
      pub goes_on : (ran ms later).stop ≡ None
      pub once : numbers_delivered later ≡ range_with_len 1 (length (run ms later).messages)
      pub stands : Standing ms Role (Holds ms log) (At (length log) taken seq) (length (run ms later).messages)
          [] log told (run ms later)

    pub comes_to : Goes ms (Holds ms log) (At (length log) taken seq) log told q k0
        (Client c.0 0 (session (suc (length cs))) (request_of c.1)) w0 → Comes_to
    comes_to G = record {
      goes_on = ap (λ (r : Ran). r.stop) whole;
      once = numbered ∙ ap (λ (w : World). range_with_len 1 (length w.messages)) (sym there);
      stands =
          subst (λ (w : World).
          Standing ms Role (Holds ms log) (At (length log) taken seq) (length w.messages) [] log told w)
          (sym there)
          (subst (λ (z : ℕ).
          Standing ms Role (Holds ms log) (At (length log) taken seq) z [] log told G.later.next)
          (sym counted) G.later.stands);
    }
      where
        up_to : ran ms events ≡ at w0
        up_to = λ i. record { world = w0; stop = H.goes_on i }

        asked : ran ms (events ++ came ∷ []) ≡ at G.next
        asked = ran_on ms first_world w0 events (came ∷ []) up_to ∙ ran_one ms w0 G.next came G.is

        counted : length G.later.next.messages ≡ G.later.at
        counted =
            ap (λ (l : List Envelope). length l) (G.later.stands.messages ∙ append-nil G.later.stands.done)
            ∙ G.later.stands.count

        ended : Ends ms most_sent k0 G.next G.later.at G.later.next
        ended =
            ends ms most_sent k0 G.next G.later.at G.later.next G.later.drains (omega (arith, counted))
            (let f = G.later.few in omega arith)

        numbers : length (numbers_delivered events) ≡ k0
        numbers = ap (λ (l : List ℕ). length l) H.once ∙ length-range_with_len 1 k0

        same : deliveries ms most_sent (suc (length (numbers_delivered events))) (run ms (events ++ came ∷ []))
            ≡ deliveries ms most_sent (suc k0) G.next
        same = λ i. deliveries ms most_sent (suc (numbers i)) (asked i).world

        whole : ran ms later ≡ at G.later.next
        whole =
            ran_on ms first_world G.next (events ++ came ∷ [])
            (deliveries ms most_sent (suc (length (numbers_delivered events))) (run ms (events ++ came ∷ []))) asked
            ∙ ap (λ (l : List Event). ran_from ms G.next l) same
            ∙ ended.is

        there : run ms later ≡ G.later.next
        there = ap (λ (r : Ran). r.world) whole

        numbered : numbers_delivered later ≡ range_with_len 1 (length G.later.next.messages)
        numbered =
            filter_map-append number_delivered (events ++ came ∷ [])
            (deliveries ms most_sent (suc (length (numbers_delivered events))) (run ms (events ++ came ∷ [])))
            ∙ (λ i. (filter_map-append number_delivered events (came ∷ [])
            ∙ append-nil (numbers_delivered events)
            ∙ H.once) i ++ (ap (λ (l : List Event). numbers_delivered l) same ∙ ended.numbers) i)
            ∙ sym (range_more 1 k0 (G.later.at - k0) (suc k0) (omega arith))
            ∙ ap (λ (z : ℕ). range_with_len 1 z) (let u =
            drains_up ms k0 G.next G.later.at G.later.next G.later.drains in
            let e : k0 + (G.later.at - k0) ≡ G.later.at = omega arith in
            e)
            ∙ ap (λ (z : ℕ). range_with_len 1 z) (sym counted)
