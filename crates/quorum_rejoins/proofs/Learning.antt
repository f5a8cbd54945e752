-- The rows by which a monitor takes the versions that it lacks.
use Rattle.calm_sizes.proofs.Stores.{ChangeShort}
use Rattle.calm_sizes.specs.Sizes.{longest}
use Rattle.law_names.proofs.Runs.{Monitors}
use Rattle.law_names.proofs.Table.{AllByRecursion, Cookie, Course, Entry, Fits, Last, Me, Op, Place, Readings, Sent, State, Which, ask_chunk, at_rest, bootstrap, change, change_all, epoch_of, learn, learn_changes, next_place, played, react, replay_or_end, requester_is, take, take_and_ask, take_last, text, ◌>>=◌, ◌▸◌}
use Rattle.log_model.proofs.Lists.{all_append}
use Rattle.mon_bytes.specs.declared.entry.KeyPlace.TheVariants as key_place
use Rattle.mon_msg.specs.declared.input.Input.TheVariants as input
use Rattle.mon_msg.specs.declared.plan.Sent.TheVariants as send
use Rattle.mon_msg.specs.declared.synchronization.SyncStage.TheVariants as sync
use Rattle.mon_wire.specs.declared.body.Body.TheVariants as body
use Rattle.mon_wire.specs.declared.phase.Phase.TheVariants as phase
use Rattle.quorum_elects.proofs.Moving.{Sound}
use Rattle.quorum_elects.proofs.Standing.{letter}
use Rattle.quorum_elects.proofs.Walking.{Surely, done, so}
use Rattle.quorum_model.proofs.Members.{member_of}
use Rattle.quorum_rejoins.proofs.Taking.{Chunks, Takes, gives_to, is_ours_now}
use Rattle.quorum_walk.proofs.Lists.{Among}
use Rattle.quorum_walk.proofs.Sparing.{Own, Spares, learned_own, own_of, played_more}
use Rattle.std.proofs.Common.{Bool, List, Ok, Result, Some, [], ap, arith, false, inl, leb, length, ltb, refl, subst, suc, sym, true, ℕ, ◌++◌, ◌+◌, ◌<◌, ◌^◌, ◌∙◌, ◌∷◌, ◌≡◌, ◌≤◌}
use Rattle.std.proofs.lemmas.Bool.{le-leb, lt-ltb}
use Rattle.std.proofs.lemmas.List.{length-set}
use Rattle.table_rows.proofs.Electing.{probes}
use Rattle.table_rows.proofs.Serving.{chunk_row, last_chunk_row}

-- ---- values that are learned

-- it leaves a monitor's own numbers, and is no longer than a transaction may be
abbrev pub IsPlain : List Op → Type 0
IsPlain x = Spares x × (length (text x) ≤ longest)

spares_all : (xs : List (List Op)) → AllByRecursion IsPlain xs → AllByRecursion Spares xs
spares_all [] h = tt
spares_all (x ∷ xs) h = (h.0.0, spares_all xs h.1)

fit_all : (v : ℕ) (xs : List (List Op)) → AllByRecursion Fits (learn_changes v xs)
fit_all v [] = tt
fit_all v (x ∷ xs) = (tt, fit_all (suc v) xs)

short_all : (v : ℕ) (xs : List (List Op)) → AllByRecursion IsPlain xs → AllByRecursion ChangeShort (learn_changes v xs)
short_all v [] h = tt
short_all v (x ∷ xs) h = (h.0.1, short_all (suc v) xs h.1)

-- the course that learns values from version v on
learned : Readings → State → ℕ → List (List Op) → Course
learned w s v [] = at_rest w s
learned w s v (x ∷ xs) = at_rest w s ▸ change_all (learn_changes v (x ∷ xs)) ▸ change (Last (v + length xs))

-- it is sound, and its last version is that of the last value
record IsLearned (w : Readings) (s : State) (last : ℕ) (y : Course) : Type 0 where
  sound : Sound w y
  own : own_of y.readings ≡ record (own_of w) { last = last }
  state : y.state ≡ s
  out : y.out ≡ []

learned_is : (w : Readings) (s : State) (v : ℕ) (xs : List (List Op)) → w.marked ≡ false → w.last ≡ v → AllByRecursion IsPlain xs → v + length xs ≤ 2 ^ 62 → IsLearned w s (v + length xs) (learned w s (suc v) xs)
unfolding learned
learned_is w s v [] unmarked at h room = record { sound = record { tells = refl; fits = tt; short = tt; unmarked = unmarked }; own = ap (λ (l : ℕ). record (own_of w) { last = l }) (let e : w.last ≡ v + 0 = omega arith in e); state = refl; out = refl }
learned_is w s v (x ∷ xs) unmarked at h room = record {
  sound = record {
    tells = sym (played_more (learn_changes (suc v) (x ∷ xs)) (Last (suc v + length xs) ∷ []) w);
    fits = all_append Fits (learn_changes (suc v) (x ∷ xs)) (Last (suc v + length xs) ∷ []) (fit_all (suc v) (x ∷ xs)) (omega arith, tt);
    short = all_append ChangeShort (learn_changes (suc v) (x ∷ xs)) (Last (suc v + length xs) ∷ []) (short_all (suc v) (x ∷ xs) h) (tt, tt);
    unmarked = ap (λ (o : Own). o.marked) own ∙ unmarked;
  };
  own = ap (λ (o : Own). record o { last = suc v + length xs }) own ∙ ap (λ (l : ℕ). record (own_of w) { last = l }) (let e : suc v + length xs ≡ v + suc (length xs) = omega arith in e);
  state = refl;
  out = refl;
}
  where
    own : own_of (played (learn_changes (suc v) (x ∷ xs)) w) ≡ own_of w
    own = learned_own (suc v) (x ∷ xs) w (spares_all (x ∷ xs) h)

-- ---- rows

module _ (ms : Monitors) (several : 1 < ms.count) (i : ℕ) (lt : ltb i ms.count ≡ true) (sh : List Entry) (now : ℕ) where
  abbrev n : ℕ
  n = ms.count

  abbrev me : Me
  me = member_of ms i lt

  -- after its values a recent copy goes on from the next version
  abbrev pub at_version : ℕ → Place
  at_version v = record { version = v; key = key_place.Done }

  abbrev moved : Readings → State → ℕ → List (List Op) → Bool → Course
  moved w s v xs end = learned w s (suc v) xs ▸ requester_is (record s.requester { place = next_place (at_version v) (v + length xs) [] end })

  take_is : (w : Readings) (s : State) (v : ℕ) (xs : List (List Op)) (end : Bool) → s.requester.full ≡ false → v + length xs ≤ 2 ^ 62 → take (at_version v) xs [] end (at_rest w s) ≡ Ok (moved w s v xs end)
  unfolding learn learned
  take_is w s v [] end full room = let short : leb (v + 0) (2 ^ 62) ≡ true = le-leb (v + 0) (2 ^ 62) (omega arith) in rw (short, full) refl
  take_is w s v (x ∷ xs) end full room =
      let short : leb (v + suc (length xs)) (2 ^ 62) ≡ true = le-leb (v + suc (length xs)) (2 ^ 62) (omega arith) in
      let next : leb (suc v + length xs) (2 ^ 62) ≡ true = le-leb (suc v + length xs) (2 ^ 62) (omega arith) in
      rw (short, full, next) refl

  pub record Learns (f : ℕ) (c : Cookie) (start v : ℕ) (xs : List (List Op)) (w : Readings) (y : Course) : Type 0 where
    pub chunks : Chunks f false c start (at_version (v + length xs)) y.state
    pub own : own_of y.readings ≡ record (own_of w) { last = v + length xs }
    pub says : Among (send.Message f (letter n i (epoch_of y.readings) (body.GetChunk c (at_version (v + length xs))))) y.out

  pub learns_chunk : (w : Readings) (s : State) (f e : ℕ) (c : Cookie) (start v : ℕ) (xs : List (List Op)) → (f ≡ i → ⊥) → Chunks f false c start (at_version v) s → w.marked ≡ false → w.last ≡ v → AllByRecursion IsPlain xs → v + length xs ≤ 2 ^ 62
      → Surely (λ y. Sound w y × Learns f c start v xs w y) (react me sh now w s (input.Deliver (letter n f e (body.Chunk c (at_version v) xs [] true))))
  learns_chunk w s f e c start v xs ne C unmarked at h room =
      so (chunk_row me sh now w e (gives_to T ne) c (at_version v) xs [] (is_ours_now s f false c start (at_version v) C) true ∙ is) (done (after (learned w s (suc v) xs) (learned_is w s v xs unmarked at h room)))
    where
      T : Takes f false sync.Chunks s
      T = C.takes

      is : take_and_ask me now c (at_version v) xs [] true (at_rest w s) ≡ Ok (ask_chunk me now c (at_version (v + length xs)) (learned w s (suc v) xs ▸ requester_is (record s.requester { place = at_version (v + length xs) })))
      is = ap (λ (r : Result Course Which). r >>= λ z. Ok (ask_chunk me now c z.state.requester.place z)) (take_is w s v xs true T.full room)

      after : (y : Course) → IsLearned w s (v + length xs) y
          → Sound w (ask_chunk me now c (at_version (v + length xs)) (y ▸ requester_is (record s.requester { place = at_version (v + length xs) }))) × Learns f c start v xs w (ask_chunk me now c (at_version (v + length xs)) (y ▸ requester_is (record s.requester { place = at_version (v + length xs) })))
      after y L = (
        record { tells = (let S = L.sound in S.tells); fits = (let S = L.sound in S.fits); short = (let S = L.sound in S.short); unmarked = (let S = L.sound in S.unmarked) },
        record {
          chunks = record {
            takes = record {
              phase = ap (λ (z : State). z.phase) L.state ∙ T.phase;
              provider = T.provider;
              full = T.full;
              stage = T.stage;
              timers = subst (λ (k : ℕ). 8 < k) (sym (length-set y.state.timers 7 (Some _) ∙ ap (λ (z : State). length z.timers) L.state)) T.timers;
            };
            cookie = C.cookie;
            start = C.start;
            place = refl;
          };
          own = L.own;
          says = subst (λ (out : List Sent). Among (send.Message f (letter n i (epoch_of y.readings) (body.GetChunk c (at_version (v + length xs))))) (out ++ send.Message s.requester.provider (letter n i (epoch_of y.readings) (body.GetChunk c (at_version (v + length xs)))) ∷ [])) (sym L.out)
              (inl (ap (λ (z : ℕ). send.Message z (letter n i (epoch_of y.readings) (body.GetChunk c (at_version (v + length xs))))) (sym T.provider)));
        },
      )

  -- the last chunk ends the copy
  pub record Stops (v : ℕ) (xs : List (List Op)) (w : Readings) (y : Course) : Type 0 where
    pub phase : y.state.phase ≡ phase.Probing
    pub own : own_of y.readings ≡ record (own_of w) { last = v + length xs }

  stops : (w : Readings) (s : State) (v : ℕ) (xs : List (List Op)) (y : Course) → IsLearned w s (v + length xs) y → Surely (λ y. Sound w y × Stops v xs w y) (bootstrap me now (y ▸ requester_is (record s.requester { place = at_version (v + length xs) })))
  stops w s v xs y L = so (probes me now _ (lt-ltb 1 n several)) (done (
    record { tells = (let S = L.sound in S.tells); fits = (let S = L.sound in S.fits); short = (let S = L.sound in S.short); unmarked = (let S = L.sound in S.unmarked) },
    record { phase = refl; own = L.own },
  ))

  pub learns_last : (w : Readings) (s : State) (f e : ℕ) (c : Cookie) (start v : ℕ) (xs : List (List Op)) (last : ℕ) → (f ≡ i → ⊥) → Chunks f false c start (at_version v) s → w.marked ≡ false → w.last ≡ v → AllByRecursion IsPlain xs → v + length xs ≤ 2 ^ 62
      → Surely (λ y. Sound w y × Stops v xs w y) (react me sh now w s (input.Deliver (letter n f e (body.LastChunk c (at_version v) xs [] last))))
  learns_last w s f e c start v xs last ne C unmarked at h room =
      so (last_chunk_row me sh now w e (gives_to T ne) c (at_version v) xs [] (is_ours_now s f false c start (at_version v) C) last ∙ is) (stops w s v xs (learned w s (suc v) xs) (learned_is w s v xs unmarked at h room))
    where
      T : Takes f false sync.Chunks s
      T = C.takes

      over : (y : Course) → replay_or_end me now last (y ▸ requester_is (record s.requester { place = at_version (v + length xs) })) ≡ bootstrap me now (y ▸ requester_is (record s.requester { place = at_version (v + length xs) }))
      over y = let full = T.full in rw full refl

      is : take_last me now (at_version v) xs [] last (at_rest w s) ≡ bootstrap me now (learned w s (suc v) xs ▸ requester_is (record s.requester { place = at_version (v + length xs) }))
      is = ap (λ (r : Result Course Which). r >>= λ z. replay_or_end me now last z) (take_is w s v xs true T.full room) ∙ over (learned w s (suc v) xs)
