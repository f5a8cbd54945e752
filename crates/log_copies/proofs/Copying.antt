-- The rows by which a full synchronization begins, and by which it takes its cookie and its chunks.
use Rattle.law_names.proofs.Runs.{AllValues}
use Rattle.law_names.proofs.Table.{Change, Cookie, Course, Entry, KeyPlace, Mark, Me, Op, Phase, Place as ChunkPlace, Readings, State, Store, SyncStage, Which, after_entries, apply, arm, ask_chunk, at_rest, awaits_cookie, bootstrap, cell, change_all, copy_changes, disarm, empty, encoded, epoch_of, first_place, floor_of, full_sync, hear_chunk, hear_cookie, hear_last_chunk, is_cookie, is_ours, joined, next_place, of_provider, place, play, readings_of, record_changes, replay_or_end, requester_is, same_flag, same_phase, same_place, start_chunks, take, take_and_ask, take_last, takes_chunks, ◌>>=◌, ◌▸◌}
use Rattle.log_copies.proofs.Chunks.{ChunkOf, Continues, IsOpen}
use Rattle.log_copies.proofs.Ends.{copy_begins}
use Rattle.log_copies.proofs.Own.{own_local, own_number}
use Rattle.log_copies.proofs.Shape.{nothing_shared}
use Rattle.log_copies.proofs.Taken.{carried_on, own_kept, taken}
use Rattle.log_copies.proofs.UnderWay.{Chunking, InStage, Marked, Noted, SameCells, Stands, UnderWay, floor_short, place_same, stays, still_noted, there_short}
use Rattle.log_copies.specs.Copies.{IsFuzzyCopy, shared_with_records}
use Rattle.log_copies.specs.Synchronizing.{IsShaped, SameNumbers, written}
use Rattle.log_model.proofs.Committed.{holds}
use Rattle.log_model.proofs.KeptKeys.{no_local}
use Rattle.mon_bytes.proofs.Fields.{ok_is}
use Rattle.mon_bytes.specs.declared.entry.KeyPlace.TheVariants as key_place
use Rattle.mon_msg.proofs.Changed.{readings-joined}
use Rattle.mon_msg.proofs.Joining.{apply-joined}
use Rattle.mon_msg.specs.Protocol.Chunks.{begin_replay}
use Rattle.mon_msg.specs.declared.synchronization.SyncStage.TheVariants as sync
use Rattle.mon_tx.specs.declared.key.Area.TheVariants as area
use Rattle.mon_tx.specs.declared.key.Key.TheVariants as key
use Rattle.mon_types.specs.declared.names.Which.TheVariants as which
use Rattle.mon_wire.specs.declared.body.Body.TheVariants as body
use Rattle.mon_wire.specs.declared.phase.Phase.TheVariants as phase
use Rattle.mon_wire.specs.declared.phase.Timer.TheVariants as timer
use Rattle.std.proofs.Common.{Bool, Err, List, Ok, Result, [], ap, arith, cond, false, inl, inr, leb, length, ltb, not, refl, subst, suc, sym, true, ℕ, ◌&&◌, ◌++◌, ◌+◌, ◌^◌, ◌||◌, ◌∙◌, ◌∷◌, ◌≡◌, ◌≤◌, ◌⊎◌}
use Rattle.std.proofs.lemmas.Bool.{and_parts, le-leb, ltb-false}

module _ (log : List (List ℕ)) (fits : length log ≤ 2 ^ 62) (all : AllValues log) (me : Me) (before : Readings) (floor : ℕ) where
  -- ---- it begins

  module _ (now from : ℕ) (m : Store) (s : State) (numbers : SameNumbers before (readings_of m)) (low : floor ≤ floor_of (readings_of m)) (shaped : IsShaped m) where
    abbrev w : Readings
    w = readings_of m

    abbrev mark : List Change
    mark = Mark (floor_of w) w.last_pn w.promise ∷ []

    told : readings_of (apply (joined (encoded mark)) m) ≡ play (Mark (floor_of w) w.last_pn w.promise) w
    unfolding readings_of
    told = readings-joined mark ((floor_short m, there_short (cell m area.Paxos key.LastPn), there_short (cell m area.Paxos key.AcceptedPn)), tt) m

    pub begun : UnderWay log before floor (written m (full_sync me now from (at_rest w s))) ((full_sync me now from (at_rest w s)).state)
    unfolding full_sync
    begun = record {
      in_phase = refl;
      full = refl;
      noted = record {
        numbers = record {
          last_pn = ap (λ (v : Readings). v.last_pn) told ∙ numbers.last_pn;
          promise = ap (λ (v : Readings). v.promise) told ∙ numbers.promise;
          epoch = ap (λ (v : Readings). epoch_of v) told ∙ numbers.epoch;
        };
        kept_floor = omega (arith, ap (λ (v : Readings). v.floor) told);
        marked = ap (λ (v : Readings). v.marked) told;
      };
      stage = ap shared_with_records (apply-joined (encoded mark) m) ∙ nothing_shared (floor_of w) w.last_pn w.promise m shaped;
    }

  -- ---- a row at a monitor

  module _ (m : Store) (s : State) where
    abbrev x0 : Course
    x0 = at_rest (readings_of m) s

    -- only a monitor that synchronizes takes what comes
    is_under_way : Marked log before floor m s → same_phase s.phase phase.Synchronizing ≡ true → UnderWay log before floor m s
    is_under_way (inl U) h = U
    is_under_way (inr W) h = by W.in_phase
      where
        by : (s.phase ≡ phase.Probing) ⊎ (s.phase ≡ phase.Booting) → UnderWay log before floor m s
        by (inl e) = let g : true ≡ false = sym h ∙ ap (λ (p : Phase). same_phase p phase.Synchronizing) e in absurd cc
        by (inr e) = let g : true ≡ false = sym h ∙ ap (λ (p : Phase). same_phase p phase.Synchronizing) e in absurd cc

    -- ---- a cookie

    in_cookie : (g : SyncStage) (start : ℕ) (p : ChunkPlace) → awaits_cookie g ≡ true → InStage log before floor m g start p → shared_with_records m ≡ empty
    in_cookie sync.Cookie start p e h = h
    in_cookie sync.Chunks start p e h = absurd cc
    in_cookie (sync.Replay next end) start p e h = absurd cc

    flags : (a b : Bool) → same_flag a b ≡ true → b ≡ true → a ≡ true
    flags true b e h = refl
    flags false true e h = absurd cc
    flags false false e h = absurd cc

    neither : (a b : Bool) → (not a || b) ≡ false → (a ≡ true) × (b ≡ false)
    neither true b e = (refl, e)
    neither false b e = absurd cc

    pub takes_cookie : (now f : ℕ) (full : Bool) (c : Cookie) (last : ℕ) (x : Course) → last ≤ length log → hear_cookie me now f full c last x0 ≡ Ok x → Marked log before floor m s → Stands log before floor (written m x) x.state
    unfolding hear_cookie
    takes_cookie now f full c last x le h I =
        by (not (of_provider f x0 && awaits_cookie s.requester.stage && same_flag full s.requester.full) || (full && ltb last (readings_of m).floor)) refl h
      where
        begins : of_provider f x0 ≡ true → awaits_cookie s.requester.stage ≡ true → same_flag full s.requester.full ≡ true → (full && ltb last (readings_of m).floor) ≡ false
            → start_chunks me now c (first_place full last (readings_of m).last) x0 ≡ x → Stands log before floor (written m x) x.state
        begins p a g l is =
            let U = is_under_way I (and_parts (same_phase s.phase phase.Synchronizing) _ p).0 in
            let whole = flags full s.requester.full g U.full in
            let N = U.noted in
            let reached : floor ≤ last = omega (arith, ltb-false last (readings_of m).floor (sym (ap (λ b. b && ltb last (readings_of m).floor) whole) ∙ l), N.kept_floor) in
            let place_is : first_place full last (readings_of m).last ≡ record { version = last; key = key_place.Start } = ap (λ b. first_place b last (readings_of m).last) whole in
            let none = in_cookie s.requester.stage s.requester.start s.requester.place a U.stage in
            let chunking : Chunking log before floor m last (record { version = last; key = key_place.Start }) =
            record { above = reached; order = omega arith; within = le; goes_on = refl; copy = copy_begins log last m none } in
            subst (λ (y : Course). Stands log before floor (written m y) y.state) is
            (subst (λ (n : Store). Stands log before floor n ((start_chunks me now c (first_place full last (readings_of m).last) x0).state)) (sym (apply-joined [] m))
            (inl (inl (record {
              in_phase = U.in_phase;
              full = U.full;
              noted = U.noted;
              stage = subst (λ (q : ChunkPlace). Chunking log before floor m q.version q) (sym place_is) chunking;
            }))))

        by : (t : Bool) → (not (of_provider f x0 && awaits_cookie s.requester.stage && same_flag full s.requester.full) || (full && ltb last (readings_of m).floor)) ≡ t
            → ◌≡◌ {A = Result Course Which} (cond t (Ok x0) (Ok (start_chunks me now c (first_place full last (readings_of m).last) x0))) (Ok x) → Stands log before floor (written m x) x.state
        by true t e = stays log before floor m s x e I
        by false t e =
            let parts = neither (of_provider f x0 && awaits_cookie s.requester.stage && same_flag full s.requester.full) (full && ltb last (readings_of m).floor) t in
            let ours = and_parts (of_provider f x0 && awaits_cookie s.requester.stage) (same_flag full s.requester.full) parts.0 in
            let two = and_parts (of_provider f x0) (awaits_cookie s.requester.stage) ours.0 in
            begins two.0 two.1 ours.1 parts.1 (ok_is (start_chunks me now c (first_place full last (readings_of m).last) x0) x e)

    -- ---- chunks

    in_chunks : (g : SyncStage) (start : ℕ) (p : ChunkPlace) → takes_chunks g ≡ true → InStage log before floor m g start p → Chunking log before floor m start p
    in_chunks sync.Cookie start p e h = absurd cc
    in_chunks sync.Chunks start p e h = h
    in_chunks (sync.Replay next end) start p e h = absurd cc

    -- one of the provider's, for exactly our place
    pub record Ours (p : ChunkPlace) : Type 0 where
      pub under_way : UnderWay log before floor m s
      pub taking : takes_chunks s.requester.stage ≡ true
      pub at_place : p ≡ s.requester.place
      pub chunking : Chunking log before floor m s.requester.start s.requester.place

    ours : (f : ℕ) (c : Cookie) (p : ChunkPlace) → Marked log before floor m s → is_ours f c p x0 ≡ true → Ours p
    ours f c p I h =
        let a = and_parts (of_provider f x0 && takes_chunks s.requester.stage && is_cookie c s.requester.cookie) (same_place p s.requester.place) h in
        let b = and_parts (of_provider f x0 && takes_chunks s.requester.stage) (is_cookie c s.requester.cookie) a.0 in
        let d = and_parts (of_provider f x0) (takes_chunks s.requester.stage) b.0 in
        let U = is_under_way I (and_parts (same_phase s.phase phase.Synchronizing) _ d.0).0 in
        record { under_way = U; taking = d.1; at_place = place_same p s.requester.place a.1; chunking = in_chunks s.requester.stage s.requester.start s.requester.place d.1 U.stage }

    module _ (p : ChunkPlace) (values : List (List Op)) (entries : List Entry) (done : Bool) (y : KeyPlace) (C : Continues log p y values entries) (O : Ours p) where
      abbrev version : ℕ
      version = p.version + length values

      abbrev next : ChunkPlace
      next = next_place p version entries done

      abbrev filled : Course
      filled = x0 ▸ change_all (record_changes (suc p.version) values) ▸ change_all (copy_changes entries)

      abbrev moved : Course
      moved = filled ▸ requester_is (record s.requester { place = next })

      take_is : take p values entries done x0 ≡ Ok moved
      take_is =
          let U = O.under_way in
          let short = le-leb version (2 ^ 62) (let w = C.within in omega arith) in
          let full = U.full in
          rw (short, full) refl

      chunked : Chunking log before floor m s.requester.start p
      chunked = subst (λ (q : ChunkPlace). Chunking log before floor m s.requester.start q) (sym O.at_place) O.chunking

      start_low : s.requester.start ≤ p.version
      start_low = let K = chunked in K.order

      copied : IsFuzzyCopy log s.requester.start version y (taken log p y values entries C s.requester.start start_low m (let K = chunked in K.copy))
      copied = let K = chunked in carried_on log p y values entries C s.requester.start start_low m K.copy

      wrote : written m moved ≡ taken log p y values entries C s.requester.start start_low m (let K = chunked in K.copy)
      wrote = apply-joined (encoded (record_changes (suc p.version) values ++ copy_changes entries)) m

      pub copied_written : IsFuzzyCopy log s.requester.start version y (written m moved)
      copied_written = subst (λ (n : Store). IsFuzzyCopy log s.requester.start version y n) (sym wrote) copied

      pub noted_written : Noted log before floor (written m moved)
      noted_written = let U = O.under_way in still_noted log before floor m (written m moved) same U.noted
        where
          same : SameCells m (written m moved)
          same a k own =
              let K = chunked in
              ap (λ (n : Store). cell n a k) wrote
              ∙ own_kept log p y values entries C s.requester.start start_low m K.copy (place a k) (own_number a k own)
              (no_local log version (holds log fits all version C.within) (place a k) (own_local version (place a k) (own_number a k own)))

      in_stage : (n : Store) (g : SyncStage) (q : ChunkPlace) → takes_chunks g ≡ true → Chunking log before floor n s.requester.start q → InStage log before floor n g s.requester.start q
      in_stage n sync.Cookie q e h = absurd cc
      in_stage n sync.Chunks q e h = h
      in_stage n (sync.Replay from to) q e h = absurd cc

      -- the next chunk goes on after this one
      pub goes_on : next ≡ record { version = version; key = y } → IsOpen y → UnderWay log before floor (written m moved) ((moved).state)
      goes_on is open_there =
          let U = O.under_way in
          let K = chunked in
          let chunking : Chunking log before floor (written m moved) s.requester.start (record { version = version; key = y }) =
          record { above = K.above; order = (let o = K.order in omega arith); within = C.within; goes_on = open_there; copy = copied_written } in
          record {
            in_phase = U.in_phase;
            full = U.full;
            noted = noted_written;
            stage = in_stage (written m moved) s.requester.stage next O.taking (subst (λ (q : ChunkPlace). Chunking log before floor (written m moved) s.requester.start q) (sym is) chunking);
          }

    pub takes_chunk : (now f : ℕ) (c : Cookie) (p : ChunkPlace) (values : List (List Op)) (entries : List Entry) (done : Bool) (x : Course) → ChunkOf log (body.Chunk c p values entries done)
        → hear_chunk me now f c p values entries done x0 ≡ Ok x → Marked log before floor m s → Stands log before floor (written m x) x.state
    unfolding hear_chunk
    takes_chunk now f c p values entries done x K h I = by (is_ours f c p x0) refl h
      where
        y : KeyPlace
        y = after_entries entries p.key

        one : (O : Ours p) → take_and_ask me now c p values entries done x0 ≡ Ok x → Stands log before floor (written m x) x.state
        one O e =
            let Q = chunked p values entries done (after_entries entries p.key) K.0 O in
            let flag = K.1 Q.goes_on in
            let place_is : next_place p (p.version + length values) entries done ≡ record { version = p.version + length values; key = after_entries entries p.key } =
            ap (λ b. next_place p (p.version + length values) entries b) flag.0 in
            let asked : Course = ask_chunk me now c (next_place p (p.version + length values) entries done) (moved p values entries done (after_entries entries p.key) K.0 O) in
            let is : asked ≡ x =
            ok_is asked x (sym (ap (λ (r : Result Course Which). r >>= λ z. Ok (ask_chunk me now c z.state.requester.place z)) (take_is p values entries done (after_entries entries p.key) K.0 O)) ∙ e) in
            subst (λ (z : Course). Stands log before floor (written m z) z.state) is (inl (inl (goes_on_asked (goes_on p values entries done (after_entries entries p.key) K.0 O place_is flag.1))))
          where
            goes_on_asked : UnderWay log before floor (written m (moved p values entries done (after_entries entries p.key) K.0 O)) ((moved p values entries done (after_entries entries p.key) K.0 O).state)
                → UnderWay log before floor (written m (moved p values entries done (after_entries entries p.key) K.0 O))
                ((ask_chunk me now c (next_place p (p.version + length values) entries done) (moved p values entries done (after_entries entries p.key) K.0 O)).state)
            goes_on_asked U = record { in_phase = U.in_phase; full = U.full; noted = U.noted; stage = U.stage }

        by : (t : Bool) → is_ours f c p x0 ≡ t → cond t (take_and_ask me now c p values entries done x0) (Ok x0) ≡ Ok x → Stands log before floor (written m x) x.state
        by true t e = one (ours f c p I t) e
        by false t e = stays log before floor m s x e I

    -- ---- the last chunk

    pub takes_last : (now f : ℕ) (c : Cookie) (p : ChunkPlace) (values : List (List Op)) (entries : List Entry) (last : ℕ) (x : Course) → ChunkOf log (body.LastChunk c p values entries last)
        → hear_last_chunk me now f c p values entries last x0 ≡ Ok x → Marked log before floor m s → Stands log before floor (written m x) x.state
    unfolding hear_last_chunk
    takes_last now f c p values entries last x K h I = by (is_ours f c p x0) refl h
      where
        replays : (O : Ours p) (x1 : Course) → moved p values entries true key_place.Done K.0 O ≡ x1 → begin_replay now last x1 ≡ Ok x → Stands log before floor (written m x) x.state
        replays O x1 is e = in_range (leb (suc x1.state.requester.start) (2 ^ 62)) e
          where
            started : Course → Course
            started z = z ▸ requester_is (record z.state.requester { stage = sync.Replay (suc z.state.requester.start) last }) ▸ disarm timer.Sync ▸ arm now timer.Step

            begun_replay : UnderWay log before floor (written m (moved p values entries true key_place.Done K.0 O)) ((started (moved p values entries true key_place.Done K.0 O)).state)
            begun_replay =
                let U = O.under_way in
                let Q = chunked p values entries true key_place.Done K.0 O in
                let C = K.0 in
                record {
                  in_phase = U.in_phase;
                  full = U.full;
                  noted = noted_written p values entries true key_place.Done K.0 O;
                  stage = record {
                    done = s.requester.start;
                    is = refl;
                    above = Q.above;
                    order = (let o = Q.order in omega (arith, K.1));
                    within = (let w = C.within in omega (arith, K.1));
                    copy = subst (λ (t : ℕ). IsFuzzyCopy log s.requester.start t key_place.Done (written m (moved p values entries true key_place.Done K.0 O))) (sym K.1) (copied_written p values entries true key_place.Done K.0 O);
                  };
                }

            in_range : (t : Bool)
                → (cond {A = Result ℕ Which} t (Ok (suc x1.state.requester.start)) (Err which.Version) >>= λ next. Ok (x1 ▸ requester_is (record x1.state.requester { stage = sync.Replay next last }) ▸ disarm timer.Sync ▸ arm now timer.Step)) ≡ Ok x
                → Stands log before floor (written m x) x.state
            in_range true r = subst (λ (z : Course). Stands log before floor (written m z) z.state) (ap started is ∙ ok_is (started x1) x r) (inl (inl begun_replay))
            in_range false r = absurd cc

        one : (O : Ours p) → take_last me now p values entries last x0 ≡ Ok x → Stands log before floor (written m x) x.state
        one O e =
            let U = O.under_way in
            let full : (moved p values entries true key_place.Done K.0 O).state.requester.full ≡ true = U.full in
            replays O (moved p values entries true key_place.Done K.0 O) refl
            (sym (ap (λ b. cond b (begin_replay now last (moved p values entries true key_place.Done K.0 O)) (bootstrap me now (moved p values entries true key_place.Done K.0 O))) full)
            ∙ sym (ap (λ (r : Result Course Which). r >>= λ z. replay_or_end me now last z) (take_is p values entries true key_place.Done K.0 O)) ∙ e)

        by : (t : Bool) → is_ours f c p x0 ≡ t → cond t (take_last me now p values entries last x0) (Ok x0) ≡ Ok x → Stands log before floor (written m x) x.state
        by true t e = one (ours f c p I t) e
        by false t e = stays log before floor m s x e I
