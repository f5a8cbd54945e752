-- The rows by which a monitor starts, and takes a whole copy.
use Rattle.calm_sizes.proofs.Stores.{ChangeShort}
use Rattle.law_names.proofs.Runs.{Monitors}
use Rattle.law_names.proofs.Table.{AllByRecursion, Boot, Change, Cookie, Course, Entry, Epoch, Fits, KeyPlace, Last, Mark, Me, Place, Readings, State, SyncStage, Unmark, Which, after_entries, arm, armed, ask_chunk, at_rest, awaits_cookie, booting, change_all, copy_changes, disarm, epoch_of, first_place, floor_of, full_sync, is_armed, is_cookie, lag, message_to, next_place, only_ping, play, played, react, recent_sync, replay_any, replay_or_end, requester_is, same_flag, same_key_place, same_phase, same_place, start, step_of, take, take_and_ask, take_last, takes_chunks, ◌>>=◌, ◌▸◌}
use Rattle.mon_bytes.specs.declared.entry.KeyPlace.TheVariants as key_place
use Rattle.mon_msg.specs.Protocol.Sending as sending
use Rattle.mon_msg.specs.declared.input.Input.TheVariants as input
use Rattle.mon_msg.specs.declared.plan.Sent.TheVariants as send
use Rattle.mon_msg.specs.declared.synchronization.SyncStage.TheVariants as sync
use Rattle.mon_wire.specs.declared.body.Body.TheVariants as body
use Rattle.mon_wire.specs.declared.phase.Phase.TheVariants as phase
use Rattle.mon_wire.specs.declared.phase.Timer.TheVariants as timer
use Rattle.quorum_elects.proofs.Rows.{counted}
use Rattle.quorum_elects.proofs.Standing.{SaysAll, among_map, among_others, letter}
use Rattle.quorum_elects.proofs.Walking.{Surely, by_test, done, never, so}
use Rattle.quorum_elects.specs.Ready.{HasRoom}
use Rattle.quorum_model.proofs.Members.{member_of}
use Rattle.quorum_rejoins.proofs.Giving.{same_cookie_is}
use Rattle.quorum_walk.proofs.Lists.{Among}
use Rattle.std.proofs.Common.{Bool, List, None, Ok, Option, Result, Some, [], ap, arith, false, if◌then◌else◌, inl, inr, is_some, leb, length, ltb, not, refl, slice_index_or, slice_set, subst, suc, sym, true, ℕ, ◌&&◌, ◌+◌, ◌-◌, ◌<◌, ◌^◌, ◌∙◌, ◌∷◌, ◌≡◌, ◌≤◌, ◌⊎◌}
use Rattle.std.proofs.lemmas.Bool.{eq-eqb, le-leb, lt-ltb}
use Rattle.std.proofs.lemmas.List.{length-set}
use Rattle.std.proofs.lemmas.Slice.Eq.{bytes_eq-Decides}
use Rattle.table_rows.proofs.Electing.{asks_recent_row, copies_again_row, copies_row, probes, probing, start_row}
use Rattle.table_rows.proofs.Hearing.{IsProvider}
use Rattle.table_rows.proofs.Serving.{chunk_row, cookie_row, last_chunk_row, step_row}

-- ---- places

same_key_is : (k : KeyPlace) → same_key_place k k ≡ true
same_key_is key_place.Start = refl
same_key_is (key_place.After p k) = λ j. (bytes_eq-Decides p p).1 refl j && (bytes_eq-Decides k k).1 refl j
same_key_is key_place.Done = refl

same_place_is : (p : Place) → same_place p p ≡ true
same_place_is p = λ j. eq-eqb p.version p.version refl j && same_key_is p.key j

-- ---- timers

armed_step : (ts : List (Option ℕ)) (x : ℕ) → 8 < length ts → is_some (slice_index_or (slice_set ts 8 (Some x)) 8 None) ≡ true
armed_step (a ∷ b ∷ c ∷ d ∷ e ∷ f ∷ g ∷ h ∷ i ∷ ts) x lt = refl
armed_step [] x lt = absurd (omega arith)
armed_step (a ∷ []) x lt = absurd (omega arith)
armed_step (a ∷ b ∷ []) x lt = absurd (omega arith)
armed_step (a ∷ b ∷ c ∷ []) x lt = absurd (omega arith)
armed_step (a ∷ b ∷ c ∷ d ∷ []) x lt = absurd (omega arith)
armed_step (a ∷ b ∷ c ∷ d ∷ e ∷ []) x lt = absurd (omega arith)
armed_step (a ∷ b ∷ c ∷ d ∷ e ∷ f ∷ []) x lt = absurd (omega arith)
armed_step (a ∷ b ∷ c ∷ d ∷ e ∷ f ∷ g ∷ []) x lt = absurd (omega arith)
armed_step (a ∷ b ∷ c ∷ d ∷ e ∷ f ∷ g ∷ h ∷ []) x lt = absurd (omega arith)

-- A PROBE_REPLY with these versions makes a monitor copy the whole store. The monitor is marked and the last version
-- reaches its floor, or it is unmarked and its own last version is below the first one.
abbrev pub MustCopy : Readings → (first last : ℕ) → Type 0
MustCopy w first last = ((w.marked ≡ true) × (1 ≤ last) × (w.floor ≤ last)) ⊎ ((w.marked ≡ false) × (w.last < first) × (1 < first))

abbrev pub mark : Readings → Change
mark w = Mark (floor_of w) w.last_pn w.promise

-- ---- the state of a monitor that takes a copy from f

pub record Takes (f : ℕ) (whole : Bool) (kind : SyncStage) (s : State) : Type 0 where
  pub phase : s.phase ≡ phase.Synchronizing
  pub provider : s.requester.provider ≡ f
  pub full : s.requester.full ≡ whole
  pub stage : s.requester.stage ≡ kind
  pub timers : 8 < length s.timers

-- it takes a copy from f, and asks for chunks from this place on
pub record Chunks (f : ℕ) (whole : Bool) (c : Cookie) (first : ℕ) (p : Place) (s : State) : Type 0 where
  pub takes : Takes f whole sync.Chunks s
  pub cookie : s.requester.cookie ≡ Some c
  pub start : s.requester.start ≡ first
  pub place : s.requester.place ≡ p

pub gives_to : {me : Me} {f : ℕ} {whole : Bool} {kind : SyncStage} {s : State} → Takes f whole kind s → (f ≡ me.member.rank → ⊥) → IsProvider me s f
gives_to T ne = record { other = ne; takes = T.phase; provider = T.provider }

-- a chunk for its place is its own
pub is_ours_now : (s : State) (f : ℕ) (full : Bool) (c : Cookie) (start : ℕ) (p : Place) → Chunks f full c start p s → (takes_chunks s.requester.stage && is_cookie c s.requester.cookie && same_place p s.requester.place) ≡ true
is_ours_now s f full c start p C =
    let T = C.takes in
    (λ j. takes_chunks (T.stage j) && is_cookie c (C.cookie j) && same_place p (C.place j)) ∙ (λ j. true && same_cookie_is c j && same_place_is p j)

module _ (ms : Monitors) (several : 1 < ms.count) (i : ℕ) (lt : ltb i ms.count ≡ true) (sh : List Entry) (now : ℕ) where
  abbrev n : ℕ
  n = ms.count

  abbrev me : Me
  me = member_of ms i lt

  -- ---- a start

  pub record Begins (w : Readings) (y : Course) : Type 0 where
    pub phase : y.state.phase ≡ phase.Probing
    pub provider : y.state.provider ≡ (booting i).provider
    pub own : y.readings ≡ record w { boot = suc w.boot; epoch = y.readings.epoch }
    pub epoch : epoch_of y.readings ≡ epoch_of w
    pub tells : y.readings ≡ played y.changes w
    pub fits : AllByRecursion Fits y.changes
    pub short : AllByRecursion ChangeShort y.changes
    pub puts : (y.changes ≡ Boot (suc w.boot) ∷ []) ⊎ (y.changes ≡ Boot (suc w.boot) ∷ Epoch 1 ∷ [])
    pub at : ℕ
    pub says : SaysAll n i at body.Probe y.out

  none_one : (o : Option ℕ) → not (is_some o) ≡ true → o ≡ None
  none_one None t = refl
  none_one (Some e) t = absurd cc

  pub begins : (w : Readings) → HasRoom w.boot → Surely (Begins w) (react me sh now w (booting i) input.Start)
  begins w boot =
      so (start_row me sh now w (booting i) refl (omega arith) ∙ probes me now (counted ms several 0 i lt sh now w (not (is_some w.epoch))) (lt-ltb 1 n several)) (by (omega arith) (not (is_some w.epoch)) refl)
    where
      by : suc w.boot ≤ 2 ^ 62 → (b : Bool) → not (is_some w.epoch) ≡ b → Surely (Begins w) (Ok (probing me now (counted ms several 0 i lt sh now w b)))
      by fits true t = done (record {
        phase = refl;
        provider = refl;
        own = refl;
        epoch = sym (ap (λ (o : Option ℕ). epoch_of (record w { epoch = o })) (none_one w.epoch t));
        tells = refl;
        fits = (fits, (omega arith, tt));
        short = (tt, (tt, tt));
        puts = inr refl;
        at = 1;
        says = λ g less ne. among_map (message_to me 1 body.Probe) g (sending.others me) (among_others me g less ne);
      })
      by fits false t = done (record {
        phase = refl;
        provider = refl;
        own = refl;
        epoch = refl;
        tells = refl;
        fits = (fits, tt);
        short = (tt, tt);
        puts = inl refl;
        at = epoch_of w;
        says = λ g less ne. among_map (message_to me (epoch_of w) body.Probe) g (sending.others me) (among_others me g less ne);
      })

  -- ---- a whole copy begins

  pub record Marks (f : ℕ) (w : Readings) (y : Course) : Type 0 where
    pub takes : Takes f true sync.Cookie y.state
    pub changes : y.changes ≡ mark w ∷ []
    pub reads : y.readings ≡ play (mark w) w
    pub says : Among (send.Message f (letter n i (epoch_of w) body.GetCookieFull)) y.out

  timers_are : (ts : List (Option ℕ)) → 8 < length (armed now timer.Sync (only_ping ts))
  timers_are ts = omega arith

  marks : (f : ℕ) (w : Readings) (s : State) → s.phase ≡ phase.Probing → Surely (Marks f w) (Ok (full_sync me now f (at_rest w s)))
  unfolding full_sync
  marks f w s is = done (record {
    takes = record {
      phase = refl;
      provider = refl;
      full = refl;
      stage = refl;
      timers = subst (λ p. 8 < length (armed now timer.Sync (if same_phase p phase.Synchronizing then s.timers else only_ping s.timers))) (sym is) (timers_are s.timers);
    };
    changes = refl;
    reads = refl;
    says = inl refl;
  })

  pub must_copy : (w : Readings) (s : State) (f e : ℕ) (quorum : List Bool) (first last : ℕ) → (f ≡ i → ⊥) → s.phase ≡ phase.Probing → MustCopy w first last
      → Surely (Marks f w) (react me sh now w s (input.Deliver (letter n f e (body.ProbeReply quorum first last))))
  must_copy w s f e quorum first last ne is why = elim why [
    | inl k ↦ so (copies_again_row me sh now w s e quorum first last ne is k.0 k.1 k.2) (marks f w s is)
    | inr k ↦ so (copies_row me sh now w s e quorum first last ne is k.0 k.1 k.2) (marks f w s is)
  ]

  -- ---- a recent copy begins

  pub record Asks (f : ℕ) (w : Readings) (y : Course) : Type 0 where
    pub takes : Takes f false sync.Cookie y.state
    pub still : y.changes ≡ []
    pub reads : y.readings ≡ w
    pub says : Among (send.Message f (letter n i (epoch_of w) (body.GetCookieRecent w.last))) y.out

  pub must_ask : (w : Readings) (s : State) (f e : ℕ) (quorum : List Bool) (first last : ℕ) → (f ≡ i → ⊥) → s.phase ≡ phase.Probing → w.marked ≡ false → (ltb w.last first && ltb 1 first) ≡ false → w.last + lag < last
      → Surely (Asks f w) (react me sh now w s (input.Deliver (letter n f e (body.ProbeReply quorum first last))))
  unfolding recent_sync
  must_ask w s f e quorum first last ne is unmarked near late =
      so (asks_recent_row me sh now w s e quorum first last ne is unmarked near late) (done (record {
        takes = record {
          phase = refl;
          provider = refl;
          full = refl;
          stage = refl;
          timers = subst (λ p. 8 < length (armed now timer.Sync (if same_phase p phase.Synchronizing then s.timers else only_ping s.timers))) (sym is) (timers_are s.timers);
        };
        still = refl;
        reads = refl;
        says = inl refl;
      }))

  -- ---- a cookie

  pub record Asked (f : ℕ) (full : Bool) (c : Cookie) (p : Place) (w : Readings) (y : Course) : Type 0 where
    pub chunks : Chunks f full c p.version p y.state
    pub still : y.changes ≡ []
    pub reads : y.readings ≡ w
    pub says : Among (send.Message f (letter n i (epoch_of w) (body.GetChunk c p))) y.out

  same_flag_is : (b : Bool) → same_flag b b ≡ true
  same_flag_is true = refl
  same_flag_is false = refl

  pub takes_cookie : (w : Readings) (s : State) (f e : ℕ) (full : Bool) (c : Cookie) (last : ℕ) → (f ≡ i → ⊥) → Takes f full sync.Cookie s → (full && ltb last w.floor) ≡ false
      → Surely (Asked f full c (first_place full last w.last) w) (react me sh now w s (input.Deliver (letter n f e (body.Cookie full c last))))
  takes_cookie w s f e full c last ne T low =
      so (cookie_row me sh now w e (gives_to T ne) full c last (ap awaits_cookie T.stage) (ap (same_flag full) T.full ∙ same_flag_is full) low) (done (record {
        chunks = record {
          takes = record { phase = T.phase; provider = T.provider; full = T.full; stage = refl; timers = subst (λ (k : ℕ). 8 < k) (sym (length-set s.timers 7 (Some _))) T.timers };
          cookie = refl;
          start = refl;
          place = refl;
        };
        still = refl;
        reads = refl;
        says = inl (ap (λ (z : ℕ). send.Message z (letter n i (epoch_of w) (body.GetChunk c (first_place full last w.last)))) (sym T.provider));
      }))

  -- ---- chunks

  -- a chunk of a whole copy, with entries alone
  abbrev filled : Readings → State → Place → List Entry → Bool → Course
  filled w s p entries end = at_rest w s ▸ change_all [] ▸ change_all (copy_changes entries) ▸ requester_is (record s.requester { place = next_place p (p.version + 0) entries end })

  take_is : (w : Readings) (s : State) (p : Place) (entries : List Entry) (end : Bool) → s.requester.full ≡ true → p.version ≤ 2 ^ 62 → take p [] entries end (at_rest w s) ≡ Ok (filled w s p entries end)
  take_is w s p entries end full room = let short : leb (p.version + 0) (2 ^ 62) ≡ true = le-leb (p.version + 0) (2 ^ 62) (omega arith) in rw (short, full) refl

  pub record Copies (f : ℕ) (c : Cookie) (start : ℕ) (p : Place) (entries : List Entry) (w : Readings) (y : Course) : Type 0 where
    pub chunks : Chunks f true c start (record { version = p.version; key = after_entries entries p.key }) y.state
    pub changes : y.changes ≡ copy_changes entries
    pub reads : y.readings ≡ played (copy_changes entries) w
    pub says : Among (send.Message f (letter n i (epoch_of y.readings) (body.GetChunk c (record { version = p.version; key = after_entries entries p.key })))) y.out

  pub takes_chunk : (w : Readings) (s : State) (f e : ℕ) (c : Cookie) (start : ℕ) (p : Place) (entries : List Entry) → (f ≡ i → ⊥) → Chunks f true c start p s → p.version ≤ 2 ^ 62
      → Surely (Copies f c start p entries w) (react me sh now w s (input.Deliver (letter n f e (body.Chunk c p [] entries false))))
  takes_chunk w s f e c start p entries ne C room =
      so (chunk_row me sh now w e (gives_to T ne) c p [] entries (is_ours_now s f true c start p C) false ∙ is) (done (record {
        chunks = record {
          takes = record { phase = T.phase; provider = T.provider; full = T.full; stage = T.stage; timers = subst (λ (k : ℕ). 8 < k) (sym (length-set s.timers 7 (Some _))) T.timers };
          cookie = C.cookie;
          start = C.start;
          place = λ j. record { version = same j; key = after_entries entries p.key };
        };
        changes = refl;
        reads = refl;
        says = inl (λ j. send.Message (sym T.provider j) (letter n i (epoch_of (played (copy_changes entries) w)) (body.GetChunk c (record { version = sym same j; key = after_entries entries p.key }))));
      }))
    where
      T : Takes f true sync.Chunks s
      T = C.takes

      same : p.version + 0 ≡ p.version
      same = omega arith

      is : take_and_ask me now c p [] entries false (at_rest w s) ≡ Ok (ask_chunk me now c (next_place p (p.version + 0) entries false) (filled w s p entries false))
      is = ap (λ (r : Result Course Which). r >>= λ z. Ok (ask_chunk me now c z.state.requester.place z)) (take_is w s p entries false T.full room)

  -- ---- the last chunk of a whole copy

  pub record Replays (f start last : ℕ) (entries : List Entry) (w : Readings) (y : Course) : Type 0 where
    pub takes : Takes f true (sync.Replay (suc start) last) y.state
    pub armed_now : is_armed timer.Step y.state.timers ≡ true
    pub changes : y.changes ≡ copy_changes entries
    pub reads : y.readings ≡ played (copy_changes entries) w

  abbrev begun_replay : ℕ → Course → Course
  begun_replay last z = z ▸ requester_is (record z.state.requester { stage = sync.Replay (suc z.state.requester.start) last }) ▸ disarm timer.Sync ▸ arm now timer.Step

  pub takes_last : (w : Readings) (s : State) (f e : ℕ) (c : Cookie) (start : ℕ) (p : Place) (entries : List Entry) (last : ℕ) → (f ≡ i → ⊥) → Chunks f true c start p s → p.version ≤ 2 ^ 62 → suc start ≤ 2 ^ 62
      → Surely (Replays f start last entries w) (react me sh now w s (input.Deliver (letter n f e (body.LastChunk c p [] entries last))))
  takes_last w s f e c start p entries last ne C room more =
      so (last_chunk_row me sh now w e (gives_to T ne) c p [] entries (is_ours_now s f true c start p C) last ∙ is) (done (record {
        takes = record { phase = T.phase; provider = T.provider; full = T.full; stage = ap (λ (z : ℕ). sync.Replay (suc z) last) C.start; timers = subst (λ (k : ℕ). 8 < k) (sym (length-set (slice_set s.timers 7 None) 8 (Some _))) long };
        armed_now = armed_step (slice_set s.timers 7 None) _ long;
        changes = refl;
        reads = refl;
      }))
    where
      T : Takes f true sync.Chunks s
      T = C.takes

      long : 8 < length (slice_set s.timers 7 None)
      long = subst (λ (k : ℕ). 8 < k) (sym (length-set s.timers 7 None)) T.timers

      begins_then : replay_or_end me now last (filled w s p entries true) ≡ Ok (begun_replay last (filled w s p entries true))
      begins_then = let full = T.full in let short : leb (suc s.requester.start) (2 ^ 62) ≡ true = le-leb (suc s.requester.start) (2 ^ 62) (let z = C.start in omega arith) in rw (full, short) refl

      is : take_last me now p [] entries last (at_rest w s) ≡ Ok (begun_replay last (filled w s p entries true))
      is = ap (λ (r : Result Course Which). r >>= λ z. replay_or_end me now last z) (take_is w s p entries true T.full room) ∙ begins_then

  -- ---- nothing is replayed, and the copy is over

  pub record Ends (t : ℕ) (w : Readings) (y : Course) : Type 0 where
    pub phase : y.state.phase ≡ phase.Probing
    pub changes : y.changes ≡ Last t ∷ Unmark ∷ []
    pub reads : y.readings ≡ play Unmark (play (Last t) w)

  pub ends : (w : Readings) (s : State) (f t : ℕ) → Takes f true (sync.Replay (suc t) t) s → is_armed timer.Step s.timers ≡ true → Surely (Ends t w) (react me sh now w s (input.Timer timer.Step))
  unfolding step_of
  ends w s f t T on =
      so (step_row me sh now w s T.phase on (suc t) t T.stage)
      (subst (λ (k : ℕ). Surely (Ends t w) (replay_any me now (suc t) t (step_of w.record_of k (suc t)) x1)) (sym none)
      (by_test (ltb t (suc t + 0)) (λ _. so (probes me now _ (lt-ltb 1 n several)) (done (record { phase = refl; changes = refl; reads = refl }))) (λ u. never u (lt-ltb t (suc t + 0) (omega arith)))))
    where
      x1 : Course
      x1 = disarm timer.Step (at_rest w s)

      none : suc t - suc t ≡ 0
      none = omega arith
