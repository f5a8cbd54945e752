-- The rows by which monitors start and probe, and how one becomes a candidate.
use Rattle.calm_sizes.proofs.Stores.{ChangeShort}
use Rattle.election_rules.specs.Table.{start_scores}
use Rattle.law_names.proofs.Runs.{Monitors}
use Rattle.law_names.proofs.Table.{Boot, Change, Course, Entry, Epoch, Fits, Me, Readings, Rule, Scores, State, arm_if, armed, at_rest, booting, change, change_if, count_of, elect, elector_is, epoch_of, epoch_or_first, first_elector, is_even, is_majority, lag, message_to, no_ranks, only, only_ping, own_table, play, prober_is, quorum_of, react, same_phase, scores_count, start_elector, with_rank, ◌▸◌}
use Rattle.mon_msg.specs.Protocol.Hearing.{fits_rule}
use Rattle.mon_msg.specs.Protocol.Sending as sending
use Rattle.mon_msg.specs.declared.input.Input.TheVariants as input
use Rattle.mon_msg.specs.declared.plan.Sent.TheVariants as send
use Rattle.mon_wire.specs.declared.body.Body.TheVariants as body
use Rattle.mon_wire.specs.declared.phase.Phase.TheVariants as phase
use Rattle.mon_wire.specs.declared.phase.Timer.TheVariants as timer
use Rattle.quorum_elects.proofs.Moving.{Sound}
use Rattle.quorum_elects.proofs.Ranking.{FullIf, IsFull, full_start}
use Rattle.quorum_elects.proofs.Standing.{Close, CloseAt, HasNumbers, IsCandidate, IsProbing, SaysAll, among_map, among_others, armed_there, letter}
use Rattle.quorum_elects.proofs.Walking.{Surely, by_test, done, so, weaken}
use Rattle.quorum_elects.specs.Ready.{HasRoom}
use Rattle.quorum_model.proofs.Members.{member_of}
use Rattle.quorum_walk.proofs.Lists.{Among, all_append, among_right}
use Rattle.quorum_walk.proofs.Parity.{odd_of_even}
use Rattle.quorum_walk.proofs.Sparing.{played_more}
use Rattle.std.proofs.Common.{Bool, List, None, Ok, Option, Some, [], ap, arith, cond, false, inl, inr, is_some, length, ltb, map, not, refl, subst, suc, sym, true, ℕ, ◌&&◌, ◌+◌, ◌<◌, ◌^◌, ◌∙◌, ◌∷◌, ◌≡◌, ◌≤◌, ◌⊎◌}
use Rattle.std.proofs.lemmas.Bool.{and_parts, cond_both, false≢true, le-ltb, lt-ltb, ltb-true}
use Rattle.std.proofs.lemmas.List.{length-set}
use Rattle.table_rows.proofs.Electing.{elects_next, elects_now, near_reply_row, probe_row, probes, probing, standing, start_row}
use Rattle.table_rows.proofs.Hearing.{another}

-- ---- numbers, tables and changes

-- an epoch, or the next one if it is even
abbrev pub odd_from : ℕ → ℕ
odd_from e = cond (is_even e) (suc e) e

pub odd_from_is : (e : ℕ) → is_even (odd_from e) ≡ false
odd_from_is e = by (is_even e) refl
  where
    by : (b : Bool) → is_even e ≡ b → is_even (cond b (suc e) e) ≡ false
    by true t = odd_of_even e t
    by false t = t

-- it is the epoch or the next one
pub odd_most : (e : ℕ) → odd_from e ≤ suc e
odd_most e = cond_both (is_even e) (suc e) e (λ x. x ≤ suc e) (λ _. omega arith) (λ _. omega arith)

odd_high : (e : ℕ) → is_even e ≡ true → suc e ≤ odd_from e
odd_high e t = subst (λ (b : Bool). suc e ≤ cond b (suc e) e) (sym t) (omega arith)

none_first : (o : Option ℕ) → not (is_some o) ≡ true → epoch_or_first o ≡ 1
none_first None t = refl
none_first (Some e) t = absurd (false≢true t)

pub sound_more : (w : Readings) (x : Course) (d : Change) → Fits d → ChangeShort d → (play d x.readings).marked ≡ false → Sound w x → Sound w (change d x)
sound_more w x d f s u S = record {
  tells = ap (play d) S.tells ∙ sym (played_more x.changes (d ∷ []) w);
  fits = all_append Fits x.changes (d ∷ []) S.fits (f, tt);
  short = all_append ChangeShort x.changes (d ∷ []) S.short (s, tt);
  unmarked = u;
}

-- a table is sent if and only if scores count
abbrev pub Fitting : Rule → Option Scores → Type 0
Fitting rule None = not (scores_count rule) ≡ true
Fitting rule (Some table) = scores_count rule ≡ true

pub own_fits : (me : Me) (x : Course) → Fitting me.rule (own_table me x)
own_fits me x = by (scores_count me.rule) refl
  where
    by : (b : Bool) → scores_count me.rule ≡ b → Fitting me.rule (cond b (Some x.state.elector.scores) None)
    by true e = e
    by false e = ap not e

own_full : (me : Me) (x : Course) → IsFull x.state.elector.scores → FullIf (own_table me x)
own_full me x F = by (scores_count me.rule)
  where
    by : (b : Bool) → FullIf (cond b (Some x.state.elector.scores) None)
    by true = F
    by false = tt

pub fits_there : (me : Me) (table : Option Scores) → Fitting me.rule table → fits_rule me table ≡ true
fits_there me None k = k
fits_there me (Some table) k = k

pub pinged : (ts : List (Option ℕ)) → 1 < length (only_ping ts)
pinged ts = omega arith

module _ (ms : Monitors) (several : 1 < ms.count) (c : ℕ) (i : ℕ) (lt : ltb i ms.count ≡ true) (sh : List Entry) (now : ℕ) where
  abbrev n : ℕ
  n = ms.count

  abbrev me : Me
  me = member_of ms i lt

  -- a course of a monitor is sound, and this is so
  abbrev pub And : Readings → (Course → Type 0) → Course → Type 0
  And w R y = Sound w y × R y

  -- ---- the start

  pub record Starts (e : ℕ) (y : Course) : Type 0 where
    pub stands : IsProbing c e (only i) y.readings y.state
    pub at : ℕ
    pub says : SaysAll n i at body.Probe y.out

  -- once it counted its start, and put an epoch if it had none
  abbrev pub counted : Readings → Bool → Course
  counted w b =
      change_if b (Epoch 1) (change (Boot (suc w.boot)) (at_rest w (booting i)))
      ▸ elector_is (first_elector me now (suc w.boot) (booting i).elector)
      ▸ arm_if (scores_count me.rule) now timer.Ping

  first_full : (boot : ℕ) → IsFull (first_elector me now boot (start_elector i)).scores
  first_full boot = by (scores_count me.rule)
    where
      low : i < 15
      low = let m = ms.most in let z = ltb-true i n lt in omega arith

      by : (b : Bool) → IsFull (cond b (record (start_elector i) { scores = start_scores i boot; heard = no_ranks; pinged = now }) (start_elector i)).scores
      by true = full_start i boot low
      by false = full_start i 0 low

  armed_long : (ts : List (Option ℕ)) → 1 < length (armed now timer.Probe (only_ping ts))
  armed_long ts = omega arith

  pub starts : (w : Readings) → Close c w → HasNumbers w → HasRoom w.boot → epoch_of w + 9 ≤ 2 ^ 62 → Surely (And w (Starts (epoch_of w))) (react me sh now w (booting i) input.Start)
  starts w C N boot room =
      so (start_row me sh now w (booting i) refl (omega arith) ∙ probes me now (counted w (not (is_some w.epoch))) (lt-ltb 1 n several)) (by (omega arith) (not (is_some w.epoch)) refl)
    where
      by : suc w.boot ≤ 2 ^ 62 → (b : Bool) → not (is_some w.epoch) ≡ b → Surely (And w (Starts (epoch_of w))) (Ok (probing me now (counted w b)))
      by fits true t = done (
        record { tells = refl; fits = (fits, (omega arith, tt)); short = (tt, (tt, tt)); unmarked = C.unmarked },
        record {
          stands = record { close = C; numbers = N; room = room; epoch = sym (none_first w.epoch t); phase = refl; outside = refl; timers = armed_long (counted w true).state.timers; scores = first_full (suc w.boot) };
          at = 1;
          says = λ g lt ne. among_map (message_to me 1 body.Probe) g (sending.others me) (among_others me g lt ne);
        },
      )
      by fits false t = done (
        record { tells = refl; fits = (fits, tt); short = (tt, tt); unmarked = C.unmarked },
        record {
          stands = record { close = C; numbers = N; room = room; epoch = refl; phase = refl; outside = refl; timers = armed_long (counted w false).state.timers; scores = first_full (suc w.boot) };
          at = epoch_of w;
          says = λ g lt ne. among_map (message_to me (epoch_of w) body.Probe) g (sending.others me) (among_others me g lt ne);
        },
      )

  -- ---- probes

  pub record Answers (w : Readings) (s : State) (f : ℕ) (y : Course) : Type 0 where
    pub same : y.state ≡ s
    pub reads : y.readings ≡ w
    pub still : y.changes ≡ []
    pub at : ℕ
    pub says : Among (send.Message f (letter n i at (body.ProbeReply (quorum_of s) w.first w.last))) y.out

  pub probed : (w : Readings) (s : State) (f e : ℕ) → (f ≡ i → ⊥) → w.marked ≡ false → same_phase s.phase phase.Booting ≡ false → Surely (And w (Answers w s f)) (react me sh now w s (input.Deliver (letter n f e body.Probe)))
  probed w s f e ne unmarked up =
      so (probe_row me sh now w s e (another ne up) unmarked)
      (done (record { tells = refl; fits = tt; short = tt; unmarked = unmarked }, record { same = refl; reads = refl; still = refl; at = epoch_of w; says = inl refl }))

  -- ---- elections

  pub record Elects (e : ℕ) (y : Course) : Type 0 where
    pub stands : IsCandidate c e (only i) y.readings y.state
    pub table : Option Scores
    pub fits : Fitting ms.rule table
    pub full : FullIf table
    pub says : SaysAll n i e (body.Propose table) y.out

  record InOdd (w : Readings) (x y : Course) : Type 0 where
    pub sound : Sound w y
    pub out : y.out ≡ x.out
    pub close : Close c y.readings
    pub numbers : HasNumbers y.readings
    pub state : y.state ≡ x.state
    pub epoch : epoch_of y.readings ≡ odd_from (epoch_of x.readings)
    pub room : odd_from (epoch_of x.readings) + 8 ≤ 2 ^ 62

  odd_now : (w : Readings) (x : Course) → Sound w x → Close c x.readings → HasNumbers x.readings → odd_from (epoch_of x.readings) + 8 ≤ 2 ^ 62 → is_even (epoch_of x.readings) ≡ false → InOdd w x x
  odd_now w x S C N room t = record { sound = S; out = refl; close = C; numbers = N; state = refl; epoch = sym (ap (λ b. cond b (suc (epoch_of x.readings)) (epoch_of x.readings)) t); room = room }

  odd_next : (w : Readings) (x : Course) → Sound w x → Close c x.readings → HasNumbers x.readings → odd_from (epoch_of x.readings) + 8 ≤ 2 ^ 62 → is_even (epoch_of x.readings) ≡ true → suc (epoch_of x.readings) ≤ 2 ^ 62 → InOdd w x (change (Epoch (suc (epoch_of x.readings))) x)
  odd_next w x S C N room t fits = record { sound = sound_more w x (Epoch (suc (epoch_of x.readings))) fits tt S.unmarked S; out = refl; close = C; numbers = N; state = refl; epoch = sym (ap (λ b. cond b (suc (epoch_of x.readings)) (epoch_of x.readings)) t); room = room }

  -- by a course that sent nothing yet, of a monitor that has its timers
  pub elected : (w : Readings) (x : Course) → Sound w x → Close c x.readings → HasNumbers x.readings → odd_from (epoch_of x.readings) + 8 ≤ 2 ^ 62 → 1 < length x.state.timers → IsFull x.state.elector.scores
      → Surely (And w (Elects (odd_from (epoch_of x.readings)))) (elect me now x)
  elected w x S C N room long F = by (is_even (epoch_of x.readings)) refl
    where
      stood : (y : Course) → InOdd w x y → Surely (And w (Elects (odd_from (epoch_of x.readings)))) (Ok (standing me now y))
      stood y M =
          let ts = cond (same_phase y.state.phase phase.Electing) y.state.timers (only_ping y.state.timers) in
          let many : 1 < length ts = cond_both (same_phase y.state.phase phase.Electing) y.state.timers (only_ping y.state.timers) (λ (l : List (Option ℕ)). 1 < length l) (λ _. subst (λ (s : State). 1 < length s.timers) (sym M.state) long) (λ _. pinged y.state.timers) in
          let full : IsFull y.state.elector.scores = subst (λ (s : State). IsFull s.elector.scores) (sym M.state) F in
          done (
            record { tells = (let s = M.sound in s.tells); fits = (let s = M.sound in s.fits); short = (let s = M.sound in s.short); unmarked = (let s = M.sound in s.unmarked) },
            record {
              stands = record {
                close = M.close;
                numbers = M.numbers;
                room = M.room;
                epoch = M.epoch;
                odd = odd_from_is (epoch_of x.readings);
                phase = refl;
                candidate = refl;
                acked = refl;
                deferred = refl;
                armed = ap is_some (armed_there ts (Some _) many);
                timers = subst (λ (k : ℕ). 1 < k) (sym (length-set ts 1 (Some _))) many;
                clients = refl;
                scores = full;
              };
              table = own_table me y;
              fits = own_fits me y;
              full = own_full me y full;
              says = λ g lt ne. among_right (send.Message g (letter n i (odd_from (epoch_of x.readings)) (body.Propose (own_table me y)))) y.out (map (message_to me (epoch_of y.readings) (body.Propose (own_table me y))) (sending.others me))
                  (subst (λ (e : ℕ). Among (send.Message g (letter n i e (body.Propose (own_table me y)))) (map (message_to me (epoch_of y.readings) (body.Propose (own_table me y))) (sending.others me))) M.epoch
                  (among_map (message_to me (epoch_of y.readings) (body.Propose (own_table me y))) g (sending.others me) (among_others me g lt ne)));
            },
          )

      by : (b : Bool) → is_even (epoch_of x.readings) ≡ b → Surely (And w (Elects (odd_from (epoch_of x.readings)))) (elect me now x)
      by false t = so (elects_now me now x t) (stood x (odd_now w x S C N room t))
      by true t =
          let fits : suc (epoch_of x.readings) ≤ 2 ^ 62 = (let z = odd_high (epoch_of x.readings) t in omega arith) in
          so (elects_next me now x t fits) (stood (change (Epoch (suc (epoch_of x.readings))) x) (odd_next w x S C N room t fits))

  rest : (w : Readings) (s : State) → w.marked ≡ false → Sound w (at_rest w s)
  rest w s u = record { tells = refl; fits = tt; short = tt; unmarked = u }

  -- an answer to a PROBE
  abbrev pub Hears : ℕ → List Bool → ℕ → Course → Type 0
  Hears e o f y = Elects (odd_from e) y ⊎ (IsProbing c e (with_rank o f) y.readings y.state × (is_majority n (with_rank o f) ≡ false))

  pub replied : (w : Readings) (s : State) (e : ℕ) (o : List Bool) → IsProbing c e o w s → (f at : ℕ) (quorum : List Bool) (first last : ℕ) (marked : Bool) → (f ≡ i → ⊥) → CloseAt c marked first last
      → Surely (And w (Hears e o f)) (react me sh now w s (input.Deliver (letter n f at (body.ProbeReply quorum first last))))
  replied w s e o P f at quorum first last marked ne K =
      so (near_reply_row me sh now w s at quorum first last ne P.phase close.unmarked (by (ltb w.last first && ltb 1 first) refl) (le-ltb (w.last + lag) last (let a = K.most in let b = close.least in omega arith)))
      (by_test (ltb 0 (count_of quorum)) (λ _. wins x0 (elected w x0 (rest w s close.unmarked) close P.numbers room P.timers P.scores)) (λ _.
      by_test (is_majority n (with_rank s.prober.outside f)) (λ _. wins y0 (elected w y0 (record { tells = refl; fits = tt; short = tt; unmarked = close.unmarked }) close P.numbers room P.timers P.scores))
      (λ t. done (record { tells = refl; fits = tt; short = tt; unmarked = close.unmarked }, inr (record { close = close; numbers = P.numbers; room = P.room; epoch = P.epoch; phase = P.phase; outside = ap (λ (o : List Bool). with_rank o f) P.outside; timers = P.timers; scores = P.scores }, sym (ap (λ (o : List Bool). is_majority n (with_rank o f)) P.outside) ∙ t)))))
    where
      x0 : Course
      x0 = at_rest w s

      y0 : Course
      y0 = prober_is (record { outside = with_rank s.prober.outside f }) (at_rest w s)

      close : Close c w
      close = P.close

      room : odd_from (epoch_of w) + 8 ≤ 2 ^ 62
      room = let z = P.room in let q = P.epoch in let h = odd_most (epoch_of w) in omega arith

      wins : (x : Course) → Surely (And w (Elects (odd_from (epoch_of w)))) (elect me now x) → Surely (And w (Hears e o f)) (elect me now x)
      wins x T = weaken (And w (Elects (odd_from (epoch_of w)))) (And w (Hears e o f)) (elect me now x) (λ y k. (k.0, inl (subst (λ (z : ℕ). Elects (odd_from z) y) P.epoch k.1))) T

      too_far : (ltb w.last first && ltb 1 first) ≡ true → (first ≤ 1) ⊎ (first + 501 ≤ last) → ⊥
      too_far t (inl few) = let p = and_parts (ltb w.last first) (ltb 1 first) t in let q = ltb-true 1 first p.1 in omega arith
      too_far t (inr low) = let p = and_parts (ltb w.last first) (ltb 1 first) t in let q = ltb-true w.last first p.0 in let a = K.most in let b = close.least in omega arith

      by : (b : Bool) → (ltb w.last first && ltb 1 first) ≡ b → b ≡ false
      by true t = absurd (too_far t K.low)
      by false t = refl
