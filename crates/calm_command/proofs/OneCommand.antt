-- A run that rests goes on with one more command, and rests again.
use Rattle.calm_command.proofs.CommandRounds.{Goes, alone, long_at_leader, long_at_peon, of_leader, of_peon, one_up, refused_at_leader, refused_at_peon}
use Rattle.calm_command.proofs.Resting.{At, Comes_to, all_stand, answers_push, comes_to, log_push, long_refused, rests_at}
use Rattle.calm_command.proofs.Roles.{Holds, Role}
use Rattle.calm_command.proofs.Rounds.{Standing}
use Rattle.calm_command.proofs.Stores.{Makes, values}
use Rattle.calm_command.specs.Resting.{IsResting}
use Rattle.law_names.proofs.Runs.{AllValues, Answer, Client, Event, IsCommand, Monitors, Order, answers_of, asks, log_of, reply_over, request_of, run, session, value_over, with_value}
use Rattle.law_names.proofs.Table.{Command, CommandRefused, Op, Reply, Store, is_too_long, readings_of, refusal, text, value}
use Rattle.log_copies.proofs.Matching.{monitor_keeps, read_last}
use Rattle.log_copies.specs.Versions.{HasVersions}
use Rattle.log_model.proofs.Committed.{value_told}
use Rattle.log_model.proofs.Lists.{length_push}
use Rattle.mon_wire.specs.declared.reply.Reply.TheVariants as reply
use Rattle.quorum_model.specs.CalmSchedule.{then_delivered}
use Rattle.std.proofs.Common.{Bool, Err, List, Ok, Result, [], ap, arith, cond, eqb, false, inl, inr, length, refl, slice_index_or, slice_set, subst, suc, sym, true, zero, ℕ, ◌++◌, ◌+◌, ◌-◌, ◌<◌, ◌^◌, ◌∙◌, ◌∷◌, ◌≡◌, ◌≤◌, ◌⊎◌}
use Rattle.std.proofs.Math.ListN.{length-set}
use Rattle.std.proofs.lemmas.Bool.{cases_eq, cases_order, eq-eqb, ne_eqb}
use Rattle.std.proofs.lemmas.Grind.{get_or-set_at}
use Rattle.std.proofs.lemmas.List.{get_or-set_other}

module _ (ms : Monitors) where
  abbrev n : ℕ
  n = ms.count

  module _ (cs : List Order) (events : List Event) (H : IsResting ms cs events) (short : length cs ≤ 100000) where
    abbrev log : List (List ℕ)
    log = log_of [] cs

    abbrev v : ℕ
    v = length log

    abbrev told : List Answer
    told = answers_of 1 [] cs

    abbrev j : ℕ
    j = suc (length cs)

    room : v < 2 ^ 62
    room = let s = H.short in omega arith

    -- what the run is after it
    abbrev pub Again : Order → Type 0
    Again c = IsResting ms (cs ++ c ∷ []) (then_delivered ms events (asks j c.0 (request_of c.1) ∷ []))

    abbrev GoesTo : (c : Order) (more : List (List ℕ)) (r : Reply) (taken : List ℕ) (seq : ℕ → ℕ) (q : ℕ) → Type 0
    GoesTo c more r taken seq q =
        Goes ms (Holds ms more) (At ms (length more) taken seq) more (told ++ (c.0, session j, r) ∷ []) q
        (length (run ms events).messages) (Client c.0 0 (session j) (request_of c.1)) (run ms events)

    again : (c : Order) (more : List (List ℕ)) (r : Reply) (taken : List ℕ) (seq : ℕ → ℕ) (q : ℕ) → q ≤ 1000
        → with_value log (value_over log c) ≡ more → reply_over log (value_over log c) ≡ r
        → length taken ≡ 15 → ((i : ℕ) → slice_index_or taken i 0 + 1 ≡ seq i) → ((i : ℕ) → seq i ≤ suc j)
        → AllValues more → length more ≤ suc (length cs) → GoesTo c more r taken seq q → Again c
    again c more r taken seq q few is replies places seqs up all least G = record {
      goes_on = C.goes_on;
      once = C.once;
      taken = taken;
      seq = seq;
      places = places;
      seqs = seqs;
      few = λ i. let u = up i in omega (arith, length_push cs c);
      values = subst AllValues (sym logged) all;
      short = (let e = ap (λ (l : List (List ℕ)). length l) logged in omega (arith, length_push cs c));
      each = λ i lt. rests_at ms (log_of [] (cs ++ c ∷ [])) taken seq i _ _ (stand.each i lt);
      log = stand.logged;
      answered = stand.answered;
    }
      where
        later : List Event
        later = then_delivered ms events (asks j c.0 (request_of c.1) ∷ [])

        C : Comes_to ms cs events H c more (told ++ (c.0, session j, r) ∷ []) taken seq q few
        C = comes_to ms cs events H c more (told ++ (c.0, session j, r) ∷ []) taken seq q few G

        logged : log_of [] (cs ++ c ∷ []) ≡ more
        logged = log_push [] cs c ∙ is

        answered : answers_of 1 [] (cs ++ c ∷ []) ≡ told ++ (c.0, session j, r) ∷ []
        answered = answers_push 1 [] cs c j (omega arith) ∙ ap (λ (r : Reply). told ++ (c.0, session j, r) ∷ []) replies

        stand : Standing ms Role (Holds ms (log_of [] (cs ++ c ∷ [])))
            (At ms (length (log_of [] (cs ++ c ∷ []))) taken seq) (length (run ms later).messages) []
            (log_of [] (cs ++ c ∷ [])) (answers_of 1 [] (cs ++ c ∷ [])) (run ms later)
        stand =
            subst (λ (l : List Answer). Standing ms Role (Holds ms (log_of [] (cs ++ c ∷ [])))
            (At ms (length (log_of [] (cs ++ c ∷ []))) taken seq) (length (run ms later).messages) []
            (log_of [] (cs ++ c ∷ [])) l (run ms later)) (sym answered)
            (subst (λ (l : List (List ℕ)). Standing ms Role (Holds ms l) (At ms (length l) taken seq)
            (length (run ms later).messages) [] l (told ++ (c.0, session j, r) ∷ []) (run ms later)) (sym logged)
            C.stands)

    -- ---- the next numbers of a peon that handed a command on

    next_taken : (r i : ℕ) → r < 15 → slice_index_or (slice_set H.taken r (H.seq r)) i 0 + 1 ≡ one_up r H.seq i
    next_taken r i lt = by (cases_eq i r)
      where
        by : (i ≡ r) ⊎ (i ≡ r → ⊥) → slice_index_or (slice_set H.taken r (H.seq r)) i 0 + 1 ≡ one_up r H.seq i
        by (inl e) =
            let p = H.places in
            rw (eq-eqb i r e) (omega (arith, get_or-set_at H.taken r i (H.seq r) 0 e (omega arith)))
        by (inr ne) = rw (ne_eqb i r ne) (omega (arith, get_or-set_other H.taken r i (H.seq r) 0 ne, H.seqs i))

    next_few : (r i : ℕ) → one_up r H.seq i ≤ suc j
    next_few r i = by (eqb i r)
      where
        by : (b : Bool) → cond b (suc (H.seq r)) (H.seq i) ≤ suc j
        by true = let f = H.few r in omega arith
        by false = let f = H.few i in omega arith

    -- ---- refused, or too long

    refuses : (e : CommandRefused) (c : Order) → value_over log c ≡ Err e → (m : Store) → HasVersions log v m
        → value (readings_of m) c.1 c.0 ≡ Err e
    refuses e c is m V =
        sym (value_told log (omega arith) H.values (readings_of m) (monitor_keeps log (omega arith) H.values v m V)
        (read_last log (omega arith) H.values v m V) c.1 c.0)
        ∙ is

    stays : (c : Order) (e : CommandRefused) (taken : List ℕ) (seq : ℕ → ℕ) (q : ℕ) → q ≤ 1000
        → value_over log c ≡ Err e
        → length taken ≡ 15 → ((i : ℕ) → slice_index_or taken i 0 + 1 ≡ seq i) → ((i : ℕ) → seq i ≤ suc j)
        → GoesTo c log (refusal e) taken seq q → Again c
    stays c e taken seq q few is places seqs up G =
        again c log (refusal e) taken seq q few (ap (λ (r : Result (List Op) CommandRefused). with_value log r) is)
        (ap (λ (r : Result (List Op) CommandRefused). reply_over log r) is) places seqs up H.values
        (let s = H.short in omega arith) G

    still : (i : ℕ) → H.seq i ≤ suc j
    still i = let f = H.few i in omega arith

    too_long_is : (r : ℕ) (c : Command) → r < n → is_too_long c ≡ true → Again (r, c)
    too_long_is zero c lt long =
        stays (zero, c) _ H.taken H.seq 0 (omega arith) (long_refused log (omega arith) H.values c zero long)
        H.places H.seqs still
        (long_at_leader ms log (omega arith) H.values H.seq H.taken
        (session j) c room long lt told _ _ (all_stand ms cs events H))
    too_long_is (suc r) c lt long =
        stays (suc r, c) _ H.taken H.seq 0 (omega arith) (long_refused log (omega arith) H.values c (suc r) long)
        H.places H.seqs still
        (long_at_peon ms log (omega arith) H.values H.seq H.taken
        (session j) c room (suc r) long (omega arith) lt told _ _ (all_stand ms cs events H))

    refused_is : (r : ℕ) (c : Command) → r < n → is_too_long c ≡ false → (e : CommandRefused)
        → value_over log (r, c) ≡ Err e → Again (r, c)
    refused_is zero c lt fits e is =
        stays (zero, c) e H.taken H.seq 0 (omega arith) is H.places H.seqs still
        (refused_at_leader ms log (omega arith) H.values H.seq H.taken
        (session j) c room fits e (refuses e (zero, c) is) lt told _ _ (all_stand ms cs events H))
    refused_is (suc r) c lt fits e is =
        let most = ms.most in
        stays (suc r, c) e (slice_set H.taken (suc r) (H.seq (suc r))) (one_up (suc r) H.seq) 2 (omega arith) is
        (length-set H.taken (suc r) (H.seq (suc r)) ∙ H.places) (λ i. next_taken (suc r) i (omega arith))
        (next_few (suc r))
        (refused_at_peon ms log (omega arith) H.values H.seq H.taken
        (session j) c room fits e (suc r) (omega arith) lt (refuses e (suc r, c) is)
        (let s = H.seqs (suc r) in omega arith) (let f = H.few (suc r) in omega arith) told _ _
        (all_stand ms cs events H))

    -- ---- accepted

    module _ (c : Command) (form : IsCommand c) (fits : is_too_long c ≡ false) (x : List Op) where
      abbrev makes : (r : ℕ) → r < n → value_over log (r, c) ≡ Ok x → Makes log x
      makes r lt is = record {
        room = room;
        all = H.values;
        command = c;
        form = form;
        asked = r;
        rank = (let m = ms.most in omega arith);
        made = is;
      }

      grows : (r : ℕ) → r < n → (is : value_over log (r, c) ≡ Ok x) (taken : List ℕ) (seq : ℕ → ℕ) (q : ℕ) → q ≤ 1000
          → length taken ≡ 15 → ((i : ℕ) → slice_index_or taken i 0 + 1 ≡ seq i) → ((i : ℕ) → seq i ≤ suc j)
          → GoesTo (r, c) (log ++ text x ∷ []) (reply.Done (suc v)) taken seq q → Again (r, c)
      grows r lt is taken seq q few places seqs up G =
          again (r, c) (log ++ text x ∷ []) (reply.Done (suc v)) taken seq q few
          (ap (λ (r : Result (List Op) CommandRefused). with_value log r) is)
          (ap (λ (r : Result (List Op) CommandRefused). reply_over log r) is) places seqs up
          (values log x (makes r lt is)) (let s = H.short in omega (arith, length_push log (text x))) G

      accepted_is : (r : ℕ) → r < n → value_over log (r, c) ≡ Ok x → Again (r, c)
      accepted_is zero lt is = by (cases_order n 1)
        where
          longer : (q : ℕ) → Goes ms (Holds ms (log ++ text x ∷ [])) (At ms (suc v) H.taken H.seq)
              (log ++ text x ∷ []) (told ++ (0, session j, reply.Done (suc v)) ∷ []) q
              (length (run ms events).messages) (Client 0 0 (session j) (request_of c)) (run ms events)
              → GoesTo (zero, c) (log ++ text x ∷ []) (reply.Done (suc v)) H.taken H.seq q
          longer q G =
              subst (λ (u : ℕ). Goes ms (Holds ms (log ++ text x ∷ [])) (At ms u H.taken H.seq)
              (log ++ text x ∷ []) (told ++ (0, session j, reply.Done (suc v)) ∷ []) q
              (length (run ms events).messages) (Client 0 0 (session j) (request_of c)) (run ms events))
              (sym (length_push log (text x))) G

          by : (n ≡ 1) ⊎ ((n < 1) ⊎ (1 < n)) → Again (zero, c)
          by (inl one) = grows zero lt is H.taken H.seq 0 (omega arith) H.places H.seqs still
              (longer 0 (alone ms log x (makes zero lt is) H.seq H.taken (session j) fits refl one told _ _
              (all_stand ms cs events H)))
          by (inr (inl none)) = absurd (omega arith)
          by (inr (inr several)) =
              let most = ms.most in
              grows zero lt is H.taken H.seq ((n - 1) + (((n - 2) + 1) + ((n - 1) + ((n - 1) + (1 + (n - 1))))))
              (omega arith) H.places H.seqs still
              (longer _ (of_leader ms log x (makes zero lt is) H.seq H.taken (session j) fits several refl told
              _ _ (all_stand ms cs events H)))
      accepted_is (suc r) lt is =
          let most = ms.most in
          grows (suc r) lt is (slice_set H.taken (suc r) (H.seq (suc r))) (one_up (suc r) H.seq)
          (1 + ((n - 1) + (((n - 2) + 1) + ((n - 1) + ((n - 1) + (1 + (n - 1))))))) (omega arith)
          (length-set H.taken (suc r) (H.seq (suc r)) ∙ H.places) (λ i. next_taken (suc r) i (omega arith))
          (next_few (suc r))
          (subst (λ (u : ℕ). Goes ms (Holds ms (log ++ text x ∷ []))
          (At ms u (slice_set H.taken (suc r) (H.seq (suc r))) (one_up (suc r) H.seq)) (log ++ text x ∷ [])
          (told ++ (suc r, session j, reply.Done (suc v)) ∷ [])
          (1 + ((n - 1) + (((n - 2) + 1) + ((n - 1) + ((n - 1) + (1 + (n - 1)))))))
          (length (run ms events).messages) (Client (suc r) 0 (session j) (request_of c)) (run ms events))
          (sym (length_push log (text x)))
          (of_peon ms log x (makes (suc r) lt is) H.seq H.taken (session j) fits (omega arith) (omega arith) lt
          (let s = H.seqs (suc r) in omega arith) (let f = H.few (suc r) in omega arith) told _ _
          (all_stand ms cs events H)))

    -- ---- any command, of any monitor

    pub next_rests : (c : Order) → c.0 < n → IsCommand c.1 → Again c
    next_rests c lt form = by (is_too_long c.1) refl (value_over log c) refl
      where
        by : (b : Bool) → is_too_long c.1 ≡ b → (r : Result (List Op) CommandRefused) → value_over log c ≡ r → Again c
        by true long r is = too_long_is c.0 c.1 lt long
        by false fits (Err e) is = refused_is c.0 c.1 lt fits e is
        by false fits (Ok x) is = accepted_is c.1 form fits x c.0 lt is
