-- What an event leaves of a marked monitor: it still takes a copy, or looks for another monitor, or it is finished.
use Rattle.law_names.proofs.Runs.{AllValues}
use Rattle.law_names.proofs.Table.{Body, Boot, Change, Course, Entry, Epoch, Input, Me, Message, Phase, Readings, Requester, State, Store, Timer, Which, apply, arm_if, at_rest, before_start, bootstrap, change, change_if, deliver, disarm, elector_is, encoded, end_of, epoch_of, epoch_or_first, first_elector, full_sync, hear, hear_probe_reply, is_heard, joined, played, react, readings_of, reply_to, running, same_phase, scores_count, start, timer_comes, ◌>>=◌, ◌▸◌}
use Rattle.log_copies.proofs.Aside.{IsAside, IsElse, IsElseTimer, Still, hears_client, hears_else, probing_aside, rings_else, synchronizing_aside}
use Rattle.log_copies.proofs.Chunks.{ChunkOf}
use Rattle.log_copies.proofs.Copying.{begun, takes_chunk, takes_cookie, takes_last}
use Rattle.log_copies.proofs.Own.{own_number}
use Rattle.log_copies.proofs.Replaying.{steps, under_way_shaped}
use Rattle.log_copies.proofs.Shape.{still_shaped}
use Rattle.log_copies.proofs.UnderWay.{InStage, Marked, Noted, Stands, stays}
use Rattle.log_copies.specs.Synchronizing.{IsShaped, written}
use Rattle.mon_bytes.proofs.Fields.{ok_is}
use Rattle.mon_msg.proofs.Changed.{readings-joined}
use Rattle.mon_msg.proofs.Joining.{apply-joined}
use Rattle.mon_msg.specs.Protocol.Probing.{copy_again}
use Rattle.mon_msg.specs.Protocol.Table.{take_timer}
use Rattle.mon_msg.specs.declared.input.Input.TheVariants as input
use Rattle.mon_tx.specs.declared.key.Area.TheVariants as area
use Rattle.mon_tx.specs.declared.key.Key.TheVariants as key
use Rattle.mon_types.specs.declared.names.Which.TheVariants as which
use Rattle.mon_wire.specs.declared.body.Body.TheVariants as body
use Rattle.mon_wire.specs.declared.phase.Phase.TheVariants as phase
use Rattle.mon_wire.specs.declared.phase.Timer.TheVariants as timer
use Rattle.mon_wire.specs.declared.reply.Reply.TheVariants as reply
use Rattle.std.proofs.Common.{Bool, Err, List, None, Ok, Option, Result, Some, [], ap, arith, cond, false, inl, inr, is_some, leb, length, lit≤, not, refl, subst, suc, sym, true, ℕ, ◌&&◌, ◌<◌, ◌^◌, ◌∙◌, ◌∷◌, ◌≡◌, ◌≤◌, ◌⊎◌}
use Rattle.std.proofs.lemmas.Bool.{leb-true, lt-ltb}

-- Cookies come from monitors of the log, and chunks hold what is the log's. Any other message may come.
abbrev pub BodyOf : List (List ℕ) → Body → Type 0
BodyOf log (body.Cookie full cookie last) = last ≤ length log
BodyOf log (body.Chunk cookie p values entries done) = ChunkOf log (body.Chunk cookie p values entries done)
BodyOf log (body.LastChunk cookie p values entries last) = ChunkOf log (body.LastChunk cookie p values entries last)
BodyOf log other = Unit {0}

abbrev pub InputOf : List (List ℕ) → Input → Type 0
InputOf log (input.Deliver m) = BodyOf log m.body
InputOf log other = Unit {0}

module _ (log : List (List ℕ)) (fits : length log ≤ 2 ^ 62) (all : AllValues log) (me : Me) (several : 1 < me.member.monitors) (before : Readings) (floor : ℕ) (now : ℕ) (m : Store) where
  pub marked_is : (s : State) → Marked log before floor m s → Noted log before floor m
  marked_is s (inl U) = U.noted
  marked_is s (inr W) = W.noted

  pub marked_shaped : (s : State) → Marked log before floor m s → IsShaped m
  marked_shaped s (inl U) = under_way_shaped log fits all me several before floor m s U
  marked_shaped s (inr W) = W.shaped

  -- ---- what leaves the store, and the synchronization or its phase

  module _ (s : State) (I : Marked log before floor m s) (y : Course) where
    unchanged : y.changes ≡ [] → m ≡ written m y
    unchanged none = sym (ap (λ (cs : List Change). apply (joined (encoded cs)) m) none ∙ apply-joined [] m)

    waits : y.changes ≡ [] → (y.state.phase ≡ phase.Probing) ⊎ (y.state.phase ≡ phase.Booting) → Stands log before floor (written m y) y.state
    waits none p =
        inl (inr (record { in_phase = p; noted = subst (Noted log before floor) (unchanged none) (marked_is s I); shaped = subst IsShaped (unchanged none) (marked_shaped s I) }))

    keeps : y.changes ≡ [] → y.state.phase ≡ s.phase → y.state.requester ≡ s.requester → Stands log before floor (written m y) y.state
    keeps none p r = by I
      where
        moved : (n : Store) → m ≡ n → (q : Requester) → s.requester ≡ q → InStage log before floor m s.requester.stage s.requester.start s.requester.place → InStage log before floor n q.stage q.start q.place
        moved n is q same h = subst (λ (n : Store). InStage log before floor n q.stage q.start q.place) is (subst (λ (q : Requester). InStage log before floor m q.stage q.start q.place) same h)

        by : Marked log before floor m s → Stands log before floor (written m y) y.state
        by (inl U) = inl (inl (record {
          in_phase = p ∙ U.in_phase;
          full = ap (λ (q : Requester). q.full) r ∙ U.full;
          noted = subst (Noted log before floor) (unchanged none) U.noted;
          stage = moved (written m y) (unchanged none) y.state.requester (sym r) U.stage;
        }))
        by (inr W) = waits none (elim W.in_phase [ inl e ↦ inl (p ∙ e) | inr e ↦ inr (p ∙ e) ])

    -- from a course at which nothing is changed
    still : (x : Course) → x.changes ≡ [] → x.state.phase ≡ s.phase → x.state.requester ≡ s.requester → Still x y → Stands log before floor (written m y) y.state
    still x none p r (inl S) = keeps (S.changes ∙ none) (S.phase ∙ p) (S.requester ∙ r)
    still x none p r (inr A) = waits (A.changes ∙ none) (inl A.phase)

  -- ---- a monitor that runs

  module _ (s : State) (I : Marked log before floor m s) (shared : List Entry) (A : IsAside s.phase) where
    abbrev x0 : Course
    x0 = at_rest (readings_of m) s

    is_marked : (readings_of m).marked ≡ true
    is_marked = let N = marked_is s I in N.marked

    -- it takes another whole copy, or goes on
    probe_reply : (f : ℕ) (quorum : List Bool) (first last : ℕ) (y : Course) → hear_probe_reply me now f quorum first last x0 ≡ Ok y → Stands log before floor (written m y) y.state
    unfolding hear_probe_reply
    probe_reply f quorum first last y e = by (not (same_phase s.phase phase.Probing)) _ e
      where
        again : (b : Bool) → ◌≡◌ {A = Result Course Which} (cond b (Ok (full_sync me now f x0)) (Ok x0)) (Ok y) → Stands log before floor (written m y) y.state
        again true q =
            let N = marked_is s I in
            subst (λ (z : Course). Stands log before floor (written m z) z.state) (ok_is (full_sync me now f x0) y q)
            (inl (inl (begun log fits all me before floor now f m s N.numbers (let k = N.kept_floor in omega arith) (marked_shaped s I))))
        again false q = stays log before floor m s y q I

        marked_one : (b : Bool) (r : Result Course Which) → b ≡ true → cond b (copy_again me now f last x0) r ≡ Ok y → Stands log before floor (written m y) y.state
        marked_one true r h q = again (leb 1 last && leb (readings_of m).floor last) q
        marked_one false r h q = absurd cc

        by : (b : Bool) (rest : Result Course Which) → ◌≡◌ {A = Result Course Which} (cond b (Ok x0) (cond (readings_of m).marked (copy_again me now f last x0) rest)) (Ok y) → Stands log before floor (written m y) y.state
        by true rest q = stays log before floor m s y q I
        by false rest q = marked_one (readings_of m).marked rest is_marked q

    other : (f t : ℕ) (b : Body) (y : Course) → IsElse me several now x0 y A is_marked b → hear me shared now f t b x0 ≡ Ok y → Stands log before floor (written m y) y.state
    other f t b y h e = still s I y x0 refl refl refl (hears_else me several now x0 y A is_marked shared f t b h e)

    other_timer : (t : Timer) (y : Course) → IsElseTimer me several now (disarm t x0) y A is_marked t → timer_comes me now t (disarm t x0) ≡ Ok y → Stands log before floor (written m y) y.state
    other_timer t y h e = still s I y (disarm t x0) refl refl refl (rings_else me several now (disarm t x0) y A is_marked t h e)

    heard : (f t : ℕ) (b : Body) (y : Course) → BodyOf log b → hear me shared now f t b x0 ≡ Ok y → Stands log before floor (written m y) y.state
    heard f t (body.Cookie full cookie last) y h e = takes_cookie log fits all me before floor m s now f full cookie last y h e I
    heard f t (body.Chunk cookie p values entries done) y h e = takes_chunk log fits all me before floor m s now f cookie p values entries done y h e I
    heard f t (body.LastChunk cookie p values entries last) y h e = takes_last log fits all me before floor m s now f cookie p values entries last y h e I
    heard f t (body.ProbeReply quorum first last) y h e = probe_reply f quorum first last y e
    heard f t rest y h e = other f t rest y tt e

    delivered : (d : Message) (y : Course) → BodyOf log d.body → deliver me shared now d x0 ≡ Ok y → Stands log before floor (written m y) y.state
    delivered d y h = by (is_heard me d)
      where
        by : (b : Bool) → ◌≡◌ {A = Result Course Which} (cond b (hear me shared now d.from d.epoch d.body x0) (Ok x0)) (Ok y) → Stands log before floor (written m y) y.state
        by true e = heard d.from d.epoch d.body y h e
        by false e = stays log before floor m s y e I

    -- a timer that was armed is disarmed first
    step : (y : Course) → timer_comes me now timer.Step (disarm timer.Step x0) ≡ Ok y → Stands log before floor (written m y) y.state
    step y e = steps log fits all me several before floor m ((disarm timer.Step x0).state) now y e (disarmed I)
      where
        disarmed : Marked log before floor m s → Marked log before floor m ((disarm timer.Step x0).state)
        disarmed (inl U) = inl (record { in_phase = U.in_phase; full = U.full; noted = U.noted; stage = U.stage })
        disarmed (inr W) = inr (record { in_phase = W.in_phase; noted = W.noted; shaped = W.shaped })

    rung : (t : Timer) (y : Course) → timer_comes me now t (disarm t x0) ≡ Ok y → Stands log before floor (written m y) y.state
    rung timer.Step y e = step y e
    rung rest y e = other_timer rest y tt e

    takes_timer : (t : Timer) (y : Course) → take_timer me now t x0 ≡ Ok y → Stands log before floor (written m y) y.state
    takes_timer t y = by (is_some (end_of t s.timers))
      where
        by : (b : Bool) → ◌≡◌ {A = Result Course Which} (cond b (timer_comes me now t (disarm t x0)) (Ok x0)) (Ok y) → Stands log before floor (written m y) y.state
        by true e = rung t y e
        by false e = stays log before floor m s y e I

    runs : (came : Input) (y : Course) → InputOf log came → running me shared now came x0 ≡ Ok y → Stands log before floor (written m y) y.state
    runs input.Start y h e = stays log before floor m s y e I
    runs (input.Deliver d) y h e = delivered d y h e
    runs (input.Timer t) y h e = takes_timer t y e
    runs (input.Client session r) y h e = still s I y x0 refl refl refl (hears_client me several now x0 y A is_marked session r e)

  -- ---- a monitor that starts

  module _ (s : State) (I : Marked log before floor m s) where
    abbrev w : Readings
    w = readings_of m

    abbrev first_epoch : List Change
    first_epoch = cond (not (is_some w.epoch)) (Epoch 1 ∷ []) []

    abbrev started : List Change
    started = Boot (suc w.boot) ∷ first_epoch

    starts : suc w.boot ≤ 2 ^ 62 → (y : Course) → y.changes ≡ started → y.state.phase ≡ phase.Probing → Stands log before floor (written m y) y.state
    starts short y changes probing = inl (inr (record { in_phase = inl probing; noted = subst (Noted log before floor) wrote noted; shaped = subst IsShaped wrote shaped }))
      where
        after : Store
        after = apply (joined (encoded (Boot (suc (readings_of m).boot) ∷ cond (not (is_some (readings_of m).epoch)) (Epoch 1 ∷ []) []))) m

        wrote : apply (joined (encoded (Boot (suc (readings_of m).boot) ∷ cond (not (is_some (readings_of m).epoch)) (Epoch 1 ∷ []) []))) m ≡ written m y
        wrote = ap (λ (cs : List Change). apply (joined (encoded cs)) m) (sym changes)

        noted : Noted log before floor (apply (joined (encoded (Boot (suc (readings_of m).boot) ∷ cond (not (is_some (readings_of m).epoch)) (Epoch 1 ∷ []) []))) m)
        noted = by (readings_of m).epoch refl
          where
            N : Noted log before floor m
            N = marked_is s I

            of_told : (cs : List Change) → readings_of (apply (joined (encoded cs)) m) ≡ played cs (readings_of m) → (played cs (readings_of m)).last_pn ≡ (readings_of m).last_pn
                → (played cs (readings_of m)).promise ≡ (readings_of m).promise → epoch_of (played cs (readings_of m)) ≡ epoch_of (readings_of m) → (played cs (readings_of m)).floor ≡ (readings_of m).floor
                → (played cs (readings_of m)).marked ≡ (readings_of m).marked → Noted log before floor (apply (joined (encoded cs)) m)
            of_told cs told pn promise epoch low mark =
                let numbers = (N).numbers in
                record {
                  numbers = record {
                    last_pn = ap (λ (v : Readings). v.last_pn) told ∙ pn ∙ numbers.last_pn;
                    promise = ap (λ (v : Readings). v.promise) told ∙ promise ∙ numbers.promise;
                    epoch = ap (λ (v : Readings). epoch_of v) told ∙ epoch ∙ numbers.epoch;
                  };
                  kept_floor = (let k = (N).kept_floor in omega (arith, ap (λ (v : Readings). v.floor) told, low));
                  marked = ap (λ (v : Readings). v.marked) told ∙ mark ∙ (N).marked;
                }

            by : (o : Option ℕ) → (readings_of m).epoch ≡ o → Noted log before floor (apply (joined (encoded (Boot (suc (readings_of m).boot) ∷ cond (not (is_some (readings_of m).epoch)) (Epoch 1 ∷ []) []))) m)
            by (Some e) is =
                let none : cond (not (is_some (readings_of m).epoch)) (Epoch 1 ∷ []) [] ≡ [] = ap (λ (p : Option ℕ). cond (not (is_some p)) (Epoch 1 ∷ []) []) is in
                subst (λ (cs : List Change). Noted log before floor (apply (joined (encoded (Boot (suc (readings_of m).boot) ∷ cs))) m)) (sym none)
                (of_told (Boot (suc (readings_of m).boot) ∷ []) (readings-joined (Boot (suc (readings_of m).boot) ∷ []) (short, tt) m) refl refl refl refl refl)
            by None is =
                let one : cond (not (is_some (readings_of m).epoch)) (Epoch 1 ∷ []) [] ≡ Epoch 1 ∷ [] = ap (λ (p : Option ℕ). cond (not (is_some p)) (Epoch 1 ∷ []) []) is in
                subst (λ (cs : List Change). Noted log before floor (apply (joined (encoded (Boot (suc (readings_of m).boot) ∷ cs))) m)) (sym one)
                (of_told (Boot (suc (readings_of m).boot) ∷ Epoch 1 ∷ []) (readings-joined (Boot (suc (readings_of m).boot) ∷ Epoch 1 ∷ []) (short, (lit≤ tt, tt)) m) refl refl
                (sym (ap epoch_or_first is)) refl refl)

        shaped : IsShaped (apply (joined (encoded (Boot (suc (readings_of m).boot) ∷ cond (not (is_some (readings_of m).epoch)) (Epoch 1 ∷ []) []))) m)
        shaped = subst IsShaped (sym (apply-joined (encoded (Boot (suc (readings_of m).boot) ∷ cond (not (is_some (readings_of m).epoch)) (Epoch 1 ∷ []) [])) m)) (by (not (is_some (readings_of m).epoch)))
          where
            by : (b : Bool) → IsShaped (apply (encoded (Boot (suc (readings_of m).boot) ∷ cond b (Epoch 1 ∷ []) [])) m)
            by true = still_shaped (encoded (Boot (suc (readings_of m).boot) ∷ Epoch 1 ∷ [])) m (inl (own_number area.Monitor key.BootCount refl), (inl (own_number area.Monitor key.ElectionEpoch refl), tt)) (marked_shaped s I)
            by false = still_shaped (encoded (Boot (suc (readings_of m).boot) ∷ [])) m (inl (own_number area.Monitor key.BootCount refl), tt) (marked_shaped s I)

    begins : (y : Course) → start me now (at_rest w s) ≡ Ok y → Stands log before floor (written m y) y.state
    unfolding start bootstrap
    begins y e = by (leb (suc w.boot) (2 ^ 62)) refl e
      where
        by : (b : Bool) → leb (suc (readings_of m).boot) (2 ^ 62) ≡ b
            → (cond {A = Result ℕ Which} b (Ok (suc (readings_of m).boot)) (Err which.Boot) >>= λ boot.
            at_rest (readings_of m) s ▸ change (Boot boot) ▸ change_if (not (is_some (readings_of m).epoch)) (Epoch 1) ▸ elector_is (first_elector me now boot s.elector) ▸ arm_if (scores_count me.rule) now timer.Ping ▸ bootstrap me now) ≡ Ok y
            → Stands log before floor (written m y) y.state
        by true t q = let g = rw (lt-ltb 1 me.member.monitors several) at q in starts (leb-true (suc (readings_of m).boot) (2 ^ 62) t) y (ap (λ (z : Course). z.changes) (sym (ok_is _ y g))) (ap (λ (z : Course). z.state.phase) (sym (ok_is _ y g)))
        by false t q = absurd cc

    comes_before : (came : Input) (y : Course) → before_start me now came (at_rest w s) ≡ Ok y → Stands log before floor (written m y) y.state
    comes_before input.Start y e = begins y e
    comes_before (input.Deliver d) y e = stays log before floor m s y e I
    comes_before (input.Timer t) y e = stays log before floor m s y e I
    comes_before (input.Client session r) y e =
        let told : Course = reply_to session reply.Unavailable (at_rest w s) in
        subst (λ (z : Course). Stands log before floor (written m z) z.state) (ok_is told y e) (keeps s I told refl refl refl)

  -- ---- whatever comes

  pub reacts : (s : State) → Marked log before floor m s → (shared : List Entry) (came : Input) (y : Course) → InputOf log came → react me shared now (readings_of m) s came ≡ Ok y → Stands log before floor (written m y) y.state
  unfolding react
  reacts s I shared came y h e = by I
    where
      before_it : s.phase ≡ phase.Booting → Stands log before floor (written m y) y.state
      before_it p = comes_before s I came y (sym (ap (λ (q : Phase). cond (same_phase q phase.Booting) (before_start me now came (at_rest (readings_of m) s)) (running me shared now came (at_rest (readings_of m) s))) p) ∙ e)

      after_it : same_phase s.phase phase.Booting ≡ false → IsAside s.phase → Stands log before floor (written m y) y.state
      after_it p A = runs s I shared A came y h (sym (ap (λ b. cond b (before_start me now came (at_rest (readings_of m) s)) (running me shared now came (at_rest (readings_of m) s))) p) ∙ e)

      by : Marked log before floor m s → Stands log before floor (written m y) y.state
      by (inl U) = after_it (ap (λ (q : Phase). same_phase q phase.Booting) U.in_phase) (subst IsAside (sym U.in_phase) synchronizing_aside)
      by (inr W) = elim W.in_phase [ inl p ↦ after_it (ap (λ (q : Phase). same_phase q phase.Booting) p) (subst IsAside (sym p) probing_aside) | inr p ↦ before_it p ]
