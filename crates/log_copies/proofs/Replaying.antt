-- A step of the replay, after the last of which a full synchronization is over.
use Rattle.law_names.proofs.Runs.{AllValues}
use Rattle.law_names.proofs.Table.{Change, Course, Decision, Last, Me, Op, Phase, Place as ChunkPlace, Readings, State, Store, SyncStage, Unmark, apply, arm, at_rest, bootstrap, cell, change, change_all, encoded, epoch_of, joined, learn_changes, or_before, place, played, readings_of, replay, replay_any, replay_step, requester_is, same_phase, step_in, step_of, ◌▸◌}
use Rattle.log_copies.proofs.Ends.{ended, ended_last, ended_shared}
use Rattle.log_copies.proofs.Replayed.{replayed, step_is}
use Rattle.log_copies.proofs.Shape.{copy_shaped, nothing_shaped}
use Rattle.log_copies.proofs.Taken.{encoded_append}
use Rattle.log_copies.proofs.UnderWay.{InStage, Marked, Noted, Replaying, SameCells, Stands, UnderWay, Waits, stays, still_noted}
use Rattle.log_copies.specs.Copies.{IsFuzzyCopy}
use Rattle.log_copies.specs.Synchronizing.{IsShaped, IsSynchronized, written}
use Rattle.log_model.proofs.Records.{IsStep, versions_spare}
use Rattle.log_model.proofs.Spares.{Spares, at_name}
use Rattle.mon_bytes.proofs.Fields.{ok_is}
use Rattle.mon_bytes.specs.declared.entry.KeyPlace.TheVariants as key_place
use Rattle.mon_msg.proofs.Afterwards.{apply-append}
use Rattle.mon_msg.proofs.Changed.{readings-joined}
use Rattle.mon_msg.proofs.Joining.{apply-joined}
use Rattle.mon_msg.specs.declared.synchronization.SyncStage.TheVariants as sync
use Rattle.mon_tx.proofs.After.{get-apply}
use Rattle.mon_wire.specs.declared.phase.Phase.TheVariants as phase
use Rattle.mon_wire.specs.declared.phase.Timer.TheVariants as timer
use Rattle.std.proofs.Common.{Bool, List, None, Ok, Option, Some, [], ap, append_assoc, arith, cond, false, inl, inr, length, ltb, refl, subst, suc, sym, true, ℕ, ◌++◌, ◌+◌, ◌-◌, ◌<◌, ◌^◌, ◌∙◌, ◌∷◌, ◌≡◌, ◌≤◌, ◌⊎◌}
use Rattle.std.proofs.lemmas.Bool.{lt-ltb, ltb-false, ltb-true}

module _ (log : List (List ℕ)) (fits : length log ≤ 2 ^ 62) (all : AllValues log) (me : Me) (several : 1 < me.member.monitors) (before : Readings) (floor : ℕ) (m : Store) (s : State) where
  abbrev x0 : Course
  x0 = at_rest (readings_of m) s

  -- ---- it begins again

  -- the monitor probes, and writes nothing more
  record Probes (y x : Course) : Type 0 where
    changes : x.changes ≡ y.changes
    phase : x.state.phase ≡ phase.Probing

  probes : (now : ℕ) (y x : Course) → bootstrap me now y ≡ Ok x → Probes y x
  unfolding bootstrap
  probes now y x e = let g = rw (lt-ltb 1 me.member.monitors several) at e in subst (Probes y) (ok_is _ x g) (record { changes = refl; phase = refl })

  -- ---- a step

  module _ (next end : ℕ) (U : UnderWay log before floor m s) (R : Replaying log before floor m next end) (values : List (List Op)) (S : IsStep log fits all (readings_of m).record_of (end - R.done) R.done values) where
    abbrev upto : ℕ
    upto = R.done + length values

    abbrev changes : List Change
    changes = learn_changes next values

    below : upto ≤ end
    below = let f = S.few in let o = R.order in omega arith

    copied : IsFuzzyCopy log upto end key_place.Done (apply (encoded changes) m)
    copied = subst (λ (v : ℕ). IsFuzzyCopy log upto end key_place.Done (apply (encoded (learn_changes v values)) m)) (sym R.is) (replayed log values R.done end S.versions below m R.copy)

    spare : Spares (encoded changes)
    spare = subst (λ (v : ℕ). Spares (encoded (learn_changes v values))) (sym R.is) (versions_spare log fits all values R.done (let w = R.within in let b = below in omega arith) S.versions)

    noted : Noted log before floor (apply (encoded changes) m)
    noted = let N = U.noted in still_noted log before floor m (apply (encoded changes) m) same N
      where
        same : SameCells m (apply (encoded changes) m)
        same a k own = get-apply (encoded changes) m (place a k) ∙ ap (λ (d : Decision). or_before d (cell m a k)) (at_name (encoded changes) spare a k own)

    stepped : Course
    stepped = x0 ▸ change_all changes

    -- there are more
    goes_on : (now : ℕ) → next + length values ≤ end → UnderWay log before floor (written m stepped) ((stepped ▸ requester_is (record s.requester { stage = sync.Replay (next + length values) end }) ▸ arm now timer.Step).state)
    unfolding stepped
    goes_on now more =
        subst (λ (n : Store). UnderWay log before floor n ((x0 ▸ change_all changes ▸ requester_is (record s.requester { stage = sync.Replay (next + length values) end }) ▸ arm now timer.Step).state)) (sym (apply-joined (encoded changes) m))
        (record {
          in_phase = U.in_phase;
          full = U.full;
          noted = noted;
          stage = record { done = upto; is = (let i = R.is in omega arith); above = (let a = R.above in omega arith); order = (let i = R.is in omega arith); within = R.within; copy = copied };
        })

    -- these were the last
    module _ (finished : end < next + length values) where
      at_end : upto ≡ end
      at_end = let b = below in let i = R.is in omega arith

      m1 : Store
      m1 = apply (encoded changes) m

      copy_at_end : IsFuzzyCopy log end end key_place.Done m1
      unfolding m1
      copy_at_end = subst (λ (v : ℕ). IsFuzzyCopy log v end key_place.Done (apply (encoded changes) m)) at_end copied

      over : Store
      over = ended log fits all end R.within m1 copy_at_end

      told : readings_of over ≡ played (Last end ∷ Unmark ∷ []) (readings_of m1)
      unfolding over
      told = ap readings_of (sym (apply-joined (encoded (Last end ∷ Unmark ∷ [])) m1)) ∙ readings-joined (Last end ∷ Unmark ∷ []) ((let w = R.within in omega arith), (tt, tt)) m1

      synchronized : IsSynchronized log before floor over
      unfolding over m1
      synchronized =
          let numbers = (noted).numbers in
          record {
            last = end;
            versions = record { within = R.within; last = ended_last log fits all end R.within m1 copy_at_end; folded = ended_shared log fits all end R.within m1 copy_at_end };
            reached = (let a = R.above in let o = R.order in omega arith);
            unmarked = ap (λ (w : Readings). w.marked) told;
            numbers = record {
              last_pn = ap (λ (w : Readings). w.last_pn) told ∙ numbers.last_pn;
              promise = ap (λ (w : Readings). w.promise) told ∙ numbers.promise;
              epoch = ap (λ (w : Readings). epoch_of w) told ∙ numbers.epoch;
            };
          }

      wrote : apply (joined (encoded ((changes ++ Last end ∷ []) ++ Unmark ∷ []))) m ≡ over
      unfolding over m1
      wrote =
          apply-joined (encoded ((changes ++ Last end ∷ []) ++ Unmark ∷ [])) m
          ∙ ap (λ (cs : List Change). apply (encoded cs) m) (append_assoc changes (Last end ∷ []) (Unmark ∷ []))
          ∙ ap (λ (ops : List Op). apply ops m) (encoded_append changes (Last end ∷ Unmark ∷ []))
          ∙ apply-append (encoded changes) (encoded (Last end ∷ Unmark ∷ [])) m

      ends : (now : ℕ) (x : Course) → bootstrap me now (x0 ▸ change_all changes ▸ change (Last end) ▸ change Unmark) ≡ Ok x → IsSynchronized log before floor (written m x)
      ends now x e =
          let P = probes now (x0 ▸ change_all changes ▸ change (Last end) ▸ change Unmark) x e in
          subst (IsSynchronized log before floor) (sym (ap (λ (cs : List Change). apply (joined (encoded cs)) m) P.changes ∙ wrote)) synchronized

    replays : (now : ℕ) (x : Course) → replay me now next end values x0 ≡ Ok x → Stands log before floor (written m x) x.state
    unfolding stepped
    replays now x e = by (ltb end (next + length values)) refl e
      where
        by : (t : Bool) → ltb end (next + length values) ≡ t
            → cond t (bootstrap me now (x0 ▸ change_all changes ▸ change (Last end) ▸ change Unmark))
            (Ok (x0 ▸ change_all changes ▸ requester_is (record s.requester { stage = sync.Replay (next + length values) end }) ▸ arm now timer.Step)) ≡ Ok x
            → Stands log before floor (written m x) x.state
        by true t r = inr (ends (ltb-true end (next + length values) t) now x r)
        by false t r =
            subst (λ (z : Course). Stands log before floor (written m z) z.state) (ok_is (x0 ▸ change_all changes ▸ requester_is (record s.requester { stage = sync.Replay (next + length values) end }) ▸ arm now timer.Step) x r)
            (inl (inl (goes_on now (ltb-false end (next + length values) t))))

  in_stage_shaped : (g : SyncStage) (start : ℕ) (p : ChunkPlace) → InStage log before floor m g start p → IsShaped m
  in_stage_shaped sync.Cookie start p h = nothing_shaped m h
  in_stage_shaped sync.Chunks start p h = copy_shaped log fits all start p.version p.key h.within m h.copy
  in_stage_shaped (sync.Replay next end) start p h = copy_shaped log fits all h.done end key_place.Done h.within m h.copy

  pub under_way_shaped : UnderWay log before floor m s → IsShaped m
  under_way_shaped U = in_stage_shaped s.requester.stage s.requester.start s.requester.place U.stage

  -- a record is missing
  gives_up : UnderWay log before floor m s → (now : ℕ) (x : Course) → bootstrap me now x0 ≡ Ok x → Waits log before floor (written m x) x.state
  gives_up U now x e =
      let P = probes now x0 x e in
      let same : m ≡ written m x = sym (ap (λ (cs : List Change). apply (joined (encoded cs)) m) P.changes ∙ apply-joined [] m) in
      record { in_phase = inl P.phase; noted = subst (Noted log before floor) same U.noted; shaped = subst IsShaped same (under_way_shaped U) }

  pub steps : (now : ℕ) (x : Course) → replay_step me now x0 ≡ Ok x → Marked log before floor m s → Stands log before floor (written m x) x.state
  unfolding replay_step
  steps now x h (inr W) = stays log before floor m s x (sym (ap (λ b. cond b (step_in me now s.requester.stage x0) (Ok x0)) (not_under_way W.in_phase)) ∙ h) (inr W)
    where
      not_under_way : (s.phase ≡ phase.Probing) ⊎ (s.phase ≡ phase.Booting) → same_phase s.phase phase.Synchronizing ≡ false
      not_under_way (inl e) = ap (λ (p : Phase). same_phase p phase.Synchronizing) e
      not_under_way (inr e) = ap (λ (p : Phase). same_phase p phase.Synchronizing) e
  steps now x h (inl U) = by s.requester.stage refl U.stage (sym (ap (λ (p : Phase). cond (same_phase p phase.Synchronizing) (step_in me now s.requester.stage x0) (Ok x0)) U.in_phase) ∙ h)
    where
      by : (g : SyncStage) → s.requester.stage ≡ g → InStage log before floor m g s.requester.start s.requester.place → step_in me now g x0 ≡ Ok x → Stands log before floor (written m x) x.state
      by sync.Cookie is h e = stays log before floor m s x e (inl U)
      by sync.Chunks is h e = stays log before floor m s x e (inl U)
      by (sync.Replay next end) is R e = any (step_of (readings_of m).record_of (suc end - next) next) refl e
        where
          any : (o : Option (List (List Op))) → step_of (readings_of m).record_of (suc end - next) next ≡ o → replay_any me now next end o x0 ≡ Ok x → Stands log before floor (written m x) x.state
          any None t r = inl (inr (gives_up U now x r))
          any (Some values) t r =
              let same : step_of (readings_of m).record_of (suc end - suc R.done) (suc R.done) ≡ Some values = ap (λ (v : ℕ). step_of (readings_of m).record_of (suc end - v) v) (sym R.is) ∙ t in
              replays next end U R values (step_is log fits all R.done end R.order R.within m R.copy values same) now x r
