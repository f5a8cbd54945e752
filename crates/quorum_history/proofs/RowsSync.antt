-- The rows of synchronization keep what holds.
use Rattle.law_names.proofs.Table.{AllByRecursion, Cell, Change, Cookie, Course, Last, Me, Op, Phase, Place, SyncStage, Unmark, arm, ask_chunk, awaits_cookie, bootstrap, change, change_all, chunk, chunk_with, copy, copy_changes, disarm, epoch_of, first_place, fits, given_entries, given_values, grant, hear_chunk, hear_cookie, hear_get_chunk, hear_get_cookie_full, hear_get_cookie_recent, hear_last_chunk, hear_no_cookie, is_after, is_cookie, is_done, is_finished, is_ours, learn, learn_changes, next_place, no_cookie, of_provider, reach, record_changes, replay, replay_any, replay_or_end, replay_step, requester_is, run_from, same_cookie, same_flag, same_key_place, same_phase, same_place, shared, start_chunks, step_in, step_of, take, takes_chunks, ◌>>=◌, ◌▸◌}
use Rattle.mon_msg.specs.declared.synchronization.SyncStage.TheVariants as sync
use Rattle.mon_types.specs.declared.names.Which.TheVariants as which
use Rattle.mon_wire.specs.declared.body.Body.TheVariants as body
use Rattle.mon_wire.specs.declared.phase.Phase.TheVariants as phase
use Rattle.mon_wire.specs.declared.phase.Timer.TheVariants as timer
use Rattle.quorum_history.proofs.ActsElections.{bootstrap_holds}
use Rattle.quorum_history.proofs.ActsLeading.{sound}
use Rattle.quorum_history.proofs.Frame.{stage_lasts}
use Rattle.quorum_history.proofs.History.{ALevel, Ext, Ghost, Had, ext_trans, had_lasts}
use Rattle.quorum_history.proofs.Holds.{At, BodyHolds, Core, Good, Nothing, RequestsIn, StageHolds, With, core, core_of}
use Rattle.quorum_history.proofs.Learned.{changed_at, copied_plain, learn_then, learned_at, learned_plain, recorded_plain}
use Rattle.quorum_history.proofs.Numbers.{ends_copy, had_down, level_is, unmarked_at}
use Rattle.quorum_history.proofs.Phases.{as_known, in_known, no}
use Rattle.quorum_history.proofs.RowsElections.{own_level}
use Rattle.quorum_history.proofs.Runs.{longest_short, run_short}
use Rattle.quorum_history.proofs.Steps.{tells, weaken}
use Rattle.quorum_walk.proofs.FineCourses.{EntryFine, RecordsFine, Val}
use Rattle.quorum_walk.proofs.FineReading.{all_spare, entries_spare, step_of_fine}
use Rattle.quorum_walk.proofs.Sparing.{Copied, Own, copied_own, learned_own, own_of, records_own}
use Rattle.quorum_walk.proofs.Walk.{Then, and_then, and_three, by_test, done, where_fits}
use Rattle.std.proofs.Common.{Bool, IfSome, List, None, Ok, Option, Some, [], ap, arith, cond, eqb, false, filter, length, ltb, not, refl, slice_index_or, subst, suc, sym, true, ℕ, ◌&&◌, ◌++◌, ◌+◌, ◌-◌, ◌<◌, ◌||◌, ◌∙◌, ◌∷◌, ◌≡◌, ◌≤◌}
use Rattle.std.proofs.lemmas.Bool.{and_parts, eqb-true, false≢true, leb-true, ltb-false, not-false, not-true, or_parts}
use Rattle.std.proofs.lemmas.List.{append_assoc}

module _ (me : Me) (now : ℕ) (g : Ghost) (Known : ℕ → List Op → Type 0) where
  abbrev n : ℕ
  n = me.member.monitors

  abbrev i : ℕ
  i = me.member.rank

  pub anew_holds : (x : Course) → Good me g Known x → Then (Good me g Known) (bootstrap me now x)
  anew_holds x A = bootstrap_holds me now g Known x (sound me g Known _ x A)

  -- ---- a provider

  grant_holds : (full : Bool) (f : ℕ) (x : Course) → x.readings.marked ≡ false → Good me g Known x → Then (Good me g Known) (grant me full f x)
  grant_holds full f x u A = where_fits (Good me g Known) which.Cookie x.state.provider.next_cookie _ (λ _.
      done (tells me _ (body.Cookie full (record { boot = x.readings.boot; seq = x.state.provider.next_cookie }) x.readings.last) f A (λ h E G D p. own_level me now g Known h x.readings u D.numbers)))

  pub hear_get_cookie_full_holds : (f : ℕ) (x : Course) → Good me g Known x → Then (Good me g Known) (hear_get_cookie_full me f x)
  unfolding hear_get_cookie_full
  hear_get_cookie_full_holds f x A = by_test x.readings.marked (λ _. done A) (λ u. grant_holds true f x u A)

  pub hear_get_cookie_recent_holds : (f last : ℕ) (x : Course) → Good me g Known x → Then (Good me g Known) (hear_get_cookie_recent me f last x)
  unfolding hear_get_cookie_recent
  hear_get_cookie_recent_holds f last x A = by_test x.readings.marked (λ _. done A) (λ u.
      by_test (ltb (suc last) x.readings.first) (λ _. done (tells me _ (body.NoCookie no_cookie) f A (λ h E G D p. tt))) (λ _. grant_holds false f x u A))

  -- its records end at its last version
  chunk_with_holds : (h : Ghost) (f e last : ℕ) (c : Cookie) (p : Place) (left : List Copied) (values : List (List Op)) (entries : List Copied) → Had h ALevel i last → p.version + length values ≤ last → BodyHolds h i f e (chunk_with last c p left values entries)
  chunk_with_holds h f e last c p left values entries level le = by (reach last p values && is_finished p left entries) refl
    where
      by : (b : Bool) → (reach last p values && is_finished p left entries) ≡ b → BodyHolds h i f e (cond b (body.LastChunk c p values entries last) (body.Chunk c p values entries (is_finished p left entries)))
      by true t = (level, let s = leb-true last (p.version + length values) ((and_parts (reach last p values) _ t).0) in omega arith)
      by false t = had_down h ALevel i last (p.version + length values) level le

  chunk_holds : (h : Ghost) (f e last : ℕ) (c : Cookie) (p : Place) (left : List Copied) (records : ℕ → Cell) → Had h ALevel i last → p.version ≤ last → BodyHolds h i f e (chunk last c p left n records)
  unfolding chunk
  chunk_holds h f e last c p left records level le =
      let test : List (List Op) → Bool = λ values. fits n (chunk_with last c p left values []) in
      let a = longest_short test (run_from records last (suc p.version)) in
      let b = run_short records (suc last - suc p.version) (suc p.version) in
      chunk_with_holds h f e last c p left (given_values last c p left n records) (given_entries last c p left n (given_values last c p left n records)) level (omega arith)

  pub hear_get_chunk_holds : (shared : List Copied) (f : ℕ) (c : Cookie) (p : Place) (x : Course) → Had g ALevel i p.version → Good me g Known x → Then (Good me g Known) (hear_get_chunk me shared f c p x)
  unfolding hear_get_chunk
  hear_get_chunk_holds shared f c p x K A = by_test x.readings.marked (λ _. done A) (λ u.
      by_test (not (is_cookie c (slice_index_or x.state.provider.cookies f None)) || ltb (suc p.version) x.readings.first)
      (λ _. done (tells me _ (body.NoCookie c) f A (λ h E G D p. tt)))
      (λ _. done (tells me _ (chunk x.readings.last c p (filter (is_after p.key) shared) n x.readings.record_of) f A (λ h E G D k.
      let top = D.numbers.top ALevel p.version (had_lasts E ALevel i p.version K) in
      let level = level_is (own_of x.readings) u in
      chunk_holds h f (epoch_of x.readings) x.readings.last c p (filter (is_after p.key) shared) x.readings.record_of (own_level me now g Known h x.readings u D.numbers) (omega arith)))))

  -- ---- a requester

  sync_is : (p : Phase) → same_phase p phase.Synchronizing ≡ true → p ≡ phase.Synchronizing
  sync_is phase.Synchronizing t = refl
  sync_is other t = no t

  cookie_is : (s : SyncStage) → awaits_cookie s ≡ true → s ≡ sync.Cookie
  cookie_is sync.Cookie t = refl
  cookie_is sync.Chunks t = no t
  cookie_is (sync.Replay next end) t = no t

  chunks_is : (s : SyncStage) → takes_chunks s ≡ true → s ≡ sync.Chunks
  chunks_is sync.Chunks t = refl
  chunks_is sync.Cookie t = no t
  chunks_is (sync.Replay next end) t = no t

  abbrev StageOf : Ghost → Core → SyncStage → Type 0
  StageOf h c s = StageHolds h c.own.last c.own.floor c.provider c.full c.start c.version s

  requesting : (x : Course) → x.state.phase ≡ phase.Synchronizing → Good me g Known x → At me g Known (λ h. RequestsIn h (core x)) x
  requesting x e A = in_known me g Known x phase.Synchronizing e A

  starts : (c : Cookie) (p : Place) (x : Course) → x.state.phase ≡ phase.Synchronizing → ((h : Ghost) → Ext i g h → RequestsIn h (core x) → Had h ALevel x.state.requester.provider p.version
      × (x.state.requester.full ≡ false → p.version ≡ x.readings.last) × (x.state.requester.full ≡ true → (x.readings.floor ≤ p.version) × (p.version ≤ p.version))) → Good me g Known x → Good me g Known (start_chunks me now c p x)
  starts c p x e new A =
      let y : Course = x ▸ requester_is (record x.state.requester { stage = sync.Chunks; cookie = Some c; start = p.version; place = p }) in
      let B : At me g Known (λ h. RequestsIn h (core y)) y = weaken _ _ (requesting x e A) (λ h E G D k. (k.0, new h E k)) in
      as_known me g Known (start_chunks me now c p x) phase.Synchronizing e (tells me _ (body.GetChunk c p) x.state.requester.provider B (λ h E G D k. k.1.0))

  cookie_holds : (f : ℕ) (full : Bool) (c : Cookie) (last : ℕ) (x : Course) → Had g ALevel f last → x.state.phase ≡ phase.Synchronizing → f ≡ x.state.requester.provider → x.state.requester.stage ≡ sync.Cookie → same_flag full x.state.requester.full ≡ true → (full && ltb last x.readings.floor) ≡ false
      → Good me g Known x → Good me g Known (start_chunks me now c (first_place full last x.readings.last) x)
  cookie_holds f true c last x K e from at same low A = starts c (first_place true last x.readings.last) x e (λ h E k. (
    subst (λ (z : ℕ). Had h ALevel z last) from (had_lasts E ALevel f last K),
    λ t. absurd (false≢true (sym t ∙ same)),
    λ t. (ltb-false last x.readings.floor low, omega arith),
  )) A
  cookie_holds f false c last x K e from at same low A = starts c (first_place false last x.readings.last) x e (λ h E k. (
    subst (StageOf h (core x)) at k.1 (not-true x.state.requester.full same),
    λ t. refl,
    λ t. absurd (false≢true (sym (not-true x.state.requester.full same) ∙ t)),
  )) A

  pub hear_cookie_holds : (f : ℕ) (full : Bool) (c : Cookie) (last : ℕ) (x : Course) → Had g ALevel f last → Good me g Known x → Then (Good me g Known) (hear_cookie me now f full c last x)
  unfolding hear_cookie
  hear_cookie_holds f full c last x K A =
      by_test (not (of_provider f x && awaits_cookie x.state.requester.stage && same_flag full x.state.requester.full) || (full && ltb last x.readings.floor)) (λ _. done A) (λ heard.
      let o = or_parts (not (of_provider f x && awaits_cookie x.state.requester.stage && same_flag full x.state.requester.full)) (full && ltb last x.readings.floor) heard in
      let t = and_three (of_provider f x) (awaits_cookie x.state.requester.stage) (same_flag full x.state.requester.full) (not-false _ o.0) in
      let s = and_parts (same_phase x.state.phase phase.Synchronizing) (eqb f x.state.requester.provider) t.0 in
      done (cookie_holds f full c last x K (sync_is x.state.phase s.0) (eqb-true f x.state.requester.provider s.1) (cookie_is x.state.requester.stage t.1) t.2 o.1 A))

  pub hear_no_cookie_holds : (f : ℕ) (c : Cookie) (x : Course) → Good me g Known x → Then (Good me g Known) (hear_no_cookie me now f c x)
  unfolding hear_no_cookie
  hear_no_cookie_holds f c x A =
      by_test (of_provider f x && (is_cookie c x.state.requester.cookie || (awaits_cookie x.state.requester.stage && not x.state.requester.full && same_cookie c no_cookie))) (λ _. anew_holds x A) (λ _. done A)

  -- ---- chunks

  -- a chunk for this place was taken, up to this version
  pub record Took (version : ℕ) (y : Course) : Type 0 where
    pub phase : y.state.phase ≡ phase.Synchronizing
    pub stage : y.state.requester.stage ≡ sync.Chunks
    pub at : y.state.requester.place.version ≡ version
    pub holds : At me g Known (λ h. (y.state.requester.full ≡ y.readings.marked) × StageOf h (core y) sync.Chunks) y

  abbrev placed : Place → Course → Course
  placed p x = x ▸ requester_is (record x.state.requester { place = p })

  -- what holds of a requester once it took a chunk
  taken : (h : Ghost) (o : Own) (x : Course) (p next : Place) (k : ℕ) → next.version ≡ p.version + k → p.version ≡ x.state.requester.place.version → Had h ALevel x.state.requester.provider (p.version + k) → x.state.requester.full ≡ true
      → StageOf h (core_of o x.state) sync.Chunks → StageOf h (core_of o (placed next x).state) sync.Chunks
  taken h o x p next k at from K full old = (subst (λ (z : ℕ). Had h ALevel x.state.requester.provider z) (sym at) K, λ t. absurd (false≢true (sym t ∙ full)), λ t. let z = old.2 t in (z.0, let w = z.1 in omega arith))

  -- a full requester takes the records and the entries as they are
  copies_whole : (p : Place) (values : List (List Op)) (entries : List Copied) (next : Place) (x : Course) → next.version ≡ p.version + length values → p.version ≡ x.state.requester.place.version → Had g ALevel x.state.requester.provider (p.version + length values) → x.state.phase ≡ phase.Synchronizing → x.state.requester.stage ≡ sync.Chunks
      → x.state.requester.full ≡ true → AllByRecursion EntryFine entries → Good me g Known x → Took next.version (placed next (x ▸ change_all (record_changes (suc p.version) values) ▸ change_all (copy_changes entries)))
  copies_whole p values entries next x at from K e s full V A =
      let B = requesting x e A in
      let marked : x.readings.marked ≡ true = sym B.fact.0 ∙ full in
      let y = x ▸ change_all (record_changes (suc p.version) values) in
      let first = records_own (suc p.version) values x.readings in
      let C = changed_at me g Known (λ h. RequestsIn h (core x)) (λ o h. RequestsIn h (core_of o x.state)) (record_changes (suc p.version) values) x (recorded_plain (suc p.version) values) first marked B
      (λ h k X E r. (r.0, stage_lasts i h k E x.readings.last x.readings.floor x.state.requester.provider x.state.requester.full x.state.requester.start x.state.requester.place.version x.state.requester.stage r.1)) in
      let D = changed_at me g Known (λ h. RequestsIn h (core_of (own_of y.readings) x.state)) (λ o h. (x.state.requester.full ≡ o.marked) × StageOf h (core_of o (placed next x).state) sync.Chunks) (copy_changes entries) y (copied_plain entries) (copied_own entries y.readings (entries_spare entries V))
      (ap (λ (o : Own). o.marked) first ∙ marked) C
      (λ h k X E r. (
        r.0,
        taken k (own_of y.readings) x p next (length values) at from (had_lasts (ext_trans X E) ALevel x.state.requester.provider (p.version + length values) K) full
            (stage_lasts i h k E y.readings.last y.readings.floor x.state.requester.provider x.state.requester.full x.state.requester.start x.state.requester.place.version sync.Chunks (subst (StageOf h (core_of (own_of y.readings) x.state)) s r.1)),
      )) in
      record { phase = e; stage = s; at = refl; holds = D }

  -- a recent requester learns the values
  learns_recent : (p : Place) (values : List (List Op)) (next : Place) (x : Course) → next.version ≡ p.version + length values → p.version ≡ x.state.requester.place.version → Had g ALevel x.state.requester.provider (p.version + length values) → x.state.phase ≡ phase.Synchronizing → x.state.requester.stage ≡ sync.Chunks
      → x.state.requester.full ≡ false → AllByRecursion Val values → Good me g Known x → Then (λ y. Took next.version (placed next y)) (learn (suc p.version) values x)
  learns_recent p values next x at from K e s recent V A =
      let B = requesting x e A in
      let u : x.readings.marked ≡ false = sym B.fact.0 ∙ recent in
      let here : x.state.requester.place.version ≡ x.readings.last = (subst (StageOf B.h (core x)) s B.fact.1).1 recent in
      learn_then (λ y. Took next.version (placed next y)) (suc p.version) values x
      (λ none. record {
        phase = e;
        stage = s;
        at = refl;
        holds = weaken _ _ B (λ h E G D r. (
          r.0,
          (
            subst (λ (z : ℕ). Had h ALevel x.state.requester.provider z) (sym at) (had_lasts E ALevel x.state.requester.provider (p.version + length values) K),
            (λ t. let z = ap length none in omega arith),
            (λ t. absurd (false≢true (sym recent ∙ t))),
          ),
        ));
      })
      (λ last is le. record {
        phase = e;
        stage = s;
        at = refl;
        holds = learned_at me g Known (λ h. RequestsIn h (core x)) (λ o h. (x.state.requester.full ≡ o.marked) × StageOf h (core_of o (placed next x).state) sync.Chunks) (suc p.version) values last x V u (omega arith) B
            (λ h k X E D r level same hands. (
              r.0,
              (
                subst (λ (z : ℕ). Had k ALevel x.state.requester.provider z) (sym at) (had_lasts (ext_trans X E) ALevel x.state.requester.provider (p.version + length values) K),
                (λ t. omega arith),
                (λ t. absurd (false≢true (sym recent ∙ t))),
              ),
            ));
      })

  takes : (p : Place) (values : List (List Op)) (entries : List Copied) (is_done : Bool) (x : Course) → p.version ≡ x.state.requester.place.version → Had g ALevel x.state.requester.provider (p.version + length values) → x.state.phase ≡ phase.Synchronizing → x.state.requester.stage ≡ sync.Chunks
      → AllByRecursion Val values → AllByRecursion EntryFine entries → Good me g Known x → Then (Took (p.version + length values)) (take p values entries is_done x)
  takes p values entries is_done x from K e s V W A = where_fits (Took (p.version + length values)) which.Version (p.version + length values) _ (λ _. by x.state.requester.full refl)
    where
      next : Place
      next = next_place p (p.version + length values) entries is_done

      by : (full : Bool) → x.state.requester.full ≡ full → Then (Took (p.version + length values)) (copy full (suc p.version) values entries x >>= (λ y. Ok (placed next y)))
      by true t = done (copies_whole p values entries next x refl from K e s t W A)
      by false t = and_then (λ y. Took (p.version + length values) (placed next y)) (Took (p.version + length values)) (learn (suc p.version) values x) _ (learns_recent p values next x refl from K e s t V A) (λ y B. done B)

  -- what a chunk for its place holds
  record Ours (f : ℕ) (p : Place) (x : Course) : Type 0 where
    pub phase : x.state.phase ≡ phase.Synchronizing
    pub stage : x.state.requester.stage ≡ sync.Chunks
    pub provider : f ≡ x.state.requester.provider
    pub place : p.version ≡ x.state.requester.place.version

  ours : (f : ℕ) (c : Cookie) (p : Place) (x : Course) → is_ours f c p x ≡ true → Ours f p x
  ours f c p x t =
      let a = and_parts (of_provider f x && takes_chunks x.state.requester.stage && is_cookie c x.state.requester.cookie) (same_place p x.state.requester.place) t in
      let b = and_three (of_provider f x) (takes_chunks x.state.requester.stage) (is_cookie c x.state.requester.cookie) a.0 in
      let s = and_parts (same_phase x.state.phase phase.Synchronizing) (eqb f x.state.requester.provider) b.0 in
      let q = and_parts (eqb p.version x.state.requester.place.version) (same_key_place p.key x.state.requester.place.key) a.1 in
      record { phase = sync_is x.state.phase s.0; stage = chunks_is x.state.requester.stage b.1; provider = eqb-true f x.state.requester.provider s.1; place = eqb-true p.version x.state.requester.place.version q.0 }

  abbrev Reaches : ℕ → Place → List (List Op) → Type 0
  Reaches f p values = Had g ALevel f (p.version + length values)

  takes_ours : (f : ℕ) (c : Cookie) (p : Place) (values : List (List Op)) (entries : List Copied) (is_done : Bool) (x : Course) → Reaches f p values → AllByRecursion Val values → AllByRecursion EntryFine entries → is_ours f c p x ≡ true → Good me g Known x → Then (Took (p.version + length values)) (take p values entries is_done x)
  takes_ours f c p values entries is_done x K V W t A = let o = ours f c p x t in takes p values entries is_done x o.place (subst (λ (z : ℕ). Had g ALevel z (p.version + length values)) o.provider K) o.phase o.stage V W A

  pub hear_chunk_holds : (f : ℕ) (c : Cookie) (p : Place) (values : List (List Op)) (entries : List Copied) (is_done : Bool) (x : Course) → Reaches f p values → AllByRecursion Val values → AllByRecursion EntryFine entries → Good me g Known x
      → Then (Good me g Known) (hear_chunk me now f c p values entries is_done x)
  unfolding hear_chunk
  hear_chunk_holds f c p values entries is_done x K V W A = by_test (is_ours f c p x)
      (λ t. and_then (Took (p.version + length values)) (Good me g Known) (take p values entries is_done x) _ (takes_ours f c p values entries is_done x K V W t A) (λ y B.
      let C : At me g Known (λ h. RequestsIn h (core y)) y = weaken _ _ B.holds (λ h E G D r. (r.0, subst (StageOf h (core y)) (sym B.stage) r.1)) in
      let D = tells me (λ h. RequestsIn h (core y)) (body.GetChunk c y.state.requester.place) y.state.requester.provider C (λ h E G D r. (subst (StageOf h (core y)) B.stage r.1).0) in
      done (as_known me g Known (ask_chunk me now c y.state.requester.place y) phase.Synchronizing B.phase D)))
      (λ _. done A)

  replay_or_end_holds : (last : ℕ) (y : Course) → Took last y → Then (Good me g Known) (replay_or_end me now last y)
  replay_or_end_holds last y B = by_test y.state.requester.full
      (λ full. where_fits (Good me g Known) which.Version (suc y.state.requester.start) _ (λ _.
      let z : Course = y ▸ requester_is (record y.state.requester { stage = sync.Replay (suc y.state.requester.start) last }) ▸ disarm timer.Sync ▸ arm now timer.Step in
      done (as_known me g Known z phase.Synchronizing B.phase (weaken _ _ B.holds (λ h E G D r. let k = r.1.2 full in let at = B.at in (r.0, (full, k.0, (let w = k.1 in omega arith), (let w = k.1 in omega arith))))))))
      (λ _. bootstrap_holds me now g Known y (weaken _ _ B.holds (λ h E G D r. tt)))

  pub hear_last_chunk_holds : (f : ℕ) (c : Cookie) (p : Place) (values : List (List Op)) (entries : List Copied) (last : ℕ) (x : Course) → Had g ALevel f last → last ≡ p.version + length values → AllByRecursion Val values → AllByRecursion EntryFine entries → Good me g Known x
      → Then (Good me g Known) (hear_last_chunk me now f c p values entries last x)
  unfolding hear_last_chunk
  hear_last_chunk_holds f c p values entries last x K at V W A = by_test (is_ours f c p x)
      (λ t. and_then (Took (p.version + length values)) (Good me g Known) (take p values entries true x) _ (takes_ours f c p values entries true x (subst (λ (z : ℕ). Had g ALevel f z) at K) V W t A) (λ y B.
      replay_or_end_holds last y (subst (λ (z : ℕ). Took z y) (sym at) B)))
      (λ _. done A)

  -- ---- the replay

  replays : (next end : ℕ) (values : List (List Op)) (x : Course) → AllByRecursion Val values → x.state.phase ≡ phase.Synchronizing → x.state.requester.stage ≡ sync.Replay next end → Good me g Known x → Then (Good me g Known) (replay me now next end values x)
  replays next end values x V e s A =
      let B = requesting x e A in
      let R = subst (StageOf B.h (core x)) s B.fact.1 in
      let marked : x.readings.marked ≡ true = sym B.fact.0 ∙ R.0 in
      let cs = learn_changes next values in
      let y = x ▸ change_all cs in
      let same = learned_own next values x.readings (all_spare values V) in
      let C = changed_at me g Known (λ h. RequestsIn h (core x)) (λ o h. (x.state.requester.full ≡ o.marked) × (x.state.requester.full ≡ true) × (o.floor ≤ x.state.requester.start) × (x.state.requester.start < next) × (next ≤ suc end)) cs x (learned_plain next values) same marked B
      (λ h k X E r. let q = subst (StageOf h (core x)) s r.1 in (r.0, q.0, q.1, q.2, q.3)) in
      let z : Course = y ▸ change (Last end) ▸ change Unmark in
      by_test (ltb end (next + length values))
      (λ _.
      let D : With n i g Known (unmarked_at end (own_of y.readings)) y.readings.record_of (y.changes ++ Last end ∷ Unmark ∷ []) x.out Nothing =
      ends_copy _ Nothing y.readings.record_of end (Last end ∷ Unmark ∷ []) (tt, (tt, tt)) (ap (λ (o : Own). o.marked) same ∙ marked) (let q = C.fact in let a = q.2 in let b = q.3 in let c = q.4 in omega arith) C (λ h k E p. tt) in
      bootstrap_holds me now g Known z (subst (λ (ds : List Change). With n i g Known (unmarked_at end (own_of y.readings)) y.readings.record_of ds x.out Nothing) (sym (append_assoc y.changes (Last end ∷ []) (Unmark ∷ []))) D))
      (λ t. let ge = ltb-false end (next + length values) t in
      let w : Course = y ▸ requester_is (record y.state.requester { stage = sync.Replay (next + length values) end }) ▸ arm now timer.Step in
      done (as_known me g Known w phase.Synchronizing e (weaken _ _ C (λ h E G D q. (q.0, (q.1, q.2, (let a = q.3 in omega arith), omega arith))))))

  replay_any_holds : (next end : ℕ) (values : Option (List (List Op))) (x : Course) → IfSome values (AllByRecursion Val) → x.state.phase ≡ phase.Synchronizing → x.state.requester.stage ≡ sync.Replay next end → Good me g Known x → Then (Good me g Known) (replay_any me now next end values x)
  replay_any_holds next end None x V e s A = anew_holds x A
  replay_any_holds next end (Some values) x V e s A = replays next end values x V e s A

  step_holds : (s : SyncStage) (x : Course) → s ≡ x.state.requester.stage → RecordsFine x.readings.record_of → x.state.phase ≡ phase.Synchronizing → Good me g Known x → Then (Good me g Known) (step_in me now s x)
  step_holds sync.Cookie x is R e A = done A
  step_holds sync.Chunks x is R e A = done A
  step_holds (sync.Replay next end) x is R e A = replay_any_holds next end (step_of x.readings.record_of (suc end - next) next) x (step_of_fine x.readings.record_of R (suc end - next) next) e (sym is) A

  pub replay_step_holds : (x : Course) → RecordsFine x.readings.record_of → Good me g Known x → Then (Good me g Known) (replay_step me now x)
  unfolding replay_step
  replay_step_holds x R A = by_test (same_phase x.state.phase phase.Synchronizing) (λ t. step_holds x.state.requester.stage x refl R (sync_is x.state.phase t) A) (λ _. done A)
