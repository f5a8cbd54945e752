-- The rows of synchronization: of a provider, of a requester, and of a copy's replay.
use Rattle.std.proofs.Common.{◌≡◌, ℕ, suc, ◌+◌, ◌-◌, ◌*◌, ◌<◌, ◌≤◌, ◌^◌, Bool, true, false, not, ◌&&◌, ◌||◌, cond, ltb, leb, min, List, [], ◌∷◌, length, filter, Option, Some, None, Result, Ok, Err, refl, inl, inr, arith}
use Rattle.std.proofs.lemmas.Bool.{and_parts, cond_both, leb-true}
use Rattle.std.proofs.lemmas.List.Sums.{sum_by-cons}
use Rattle.std.specs.List.{AllByRecursion}
use Rattle.std.specs.Prelude.{slice_index_or, sum_by}
use Rattle.mon_bytes.specs.declared.entry.Entry.{Entry}
use Rattle.mon_bytes.specs.declared.entry.KeyPlace.TheVariants as key_place
use Rattle.mon_bytes.specs.declared.entry.KeyPlace.{KeyPlace}
use Rattle.mon_msg.specs.Protocol.Changes.{Last, Unmark}
use Rattle.mon_msg.specs.Protocol.Chunks.{copy, copy_changes, hear_chunk, hear_last_chunk, is_ours, next_place, record_changes, replay_or_end, take}
use Rattle.mon_msg.specs.Protocol.Copying.{ask_chunk, awaits_cookie, first_place, hear_cookie, hear_no_cookie, of_provider, same_flag}
use Rattle.mon_msg.specs.Protocol.Course.{Course, requester_is, ◌▸◌}
use Rattle.mon_msg.specs.Protocol.Learning.{learn, learn_changes}
use Rattle.mon_msg.specs.Protocol.Length.{fits}
use Rattle.mon_msg.specs.Protocol.Phases.{same_phase}
use Rattle.mon_msg.specs.Protocol.Places.{after_entries, is_after, is_cookie, is_done, no_cookie, same_cookie}
use Rattle.mon_msg.specs.Protocol.Providing.{chunk, chunk_with, given_entries, given_values, grant, hear_get_chunk, hear_get_cookie_full, hear_get_cookie_recent, is_finished, reach}
use Rattle.mon_msg.specs.Protocol.Records.{longest, run_from}
use Rattle.mon_msg.specs.Protocol.Replay.{replay_any, replay_step, step_in, step_of}
use Rattle.mon_msg.specs.declared.synchronization.SyncStage.TheVariants as sync
use Rattle.mon_msg.specs.declared.synchronization.SyncStage.{SyncStage}
use Rattle.mon_msg.specs.declared.view.Me.{Me}
use Rattle.mon_tx.specs.Decision.{Cell}
use Rattle.mon_tx.specs.Decode.{HasText}
use Rattle.mon_tx.specs.declared.op.Op.{Op}
use Rattle.mon_types.specs.declared.names.Which.TheVariants as which
use Rattle.mon_types.specs.declared.names.Which.{Which}
use Rattle.mon_wire.specs.Message.PartLengths.{entry_length, key_place_length}
use Rattle.mon_wire.specs.Message.Parts as parts
use Rattle.mon_wire.specs.declared.body.Body.TheVariants as body
use Rattle.mon_wire.specs.declared.parts.Cookie.{Cookie}
use Rattle.mon_wire.specs.declared.parts.Place.{Place}
use Rattle.mon_wire.specs.declared.phase.Phase.TheVariants as phase
use Rattle.mon_bounds.proofs.Acts.{bootstrap_ok, learn_ok, learned_tells}
use Rattle.mon_bounds.proofs.Courses.{Over, Tells, Under, copying, over, raise, tells, writes}
use Rattle.mon_bounds.proofs.Messages as said
use Rattle.mon_bounds.proofs.Messages.{IsCookie, IsPlace, Said, few, fits_length, fits_lists, within}
use Rattle.mon_bounds.proofs.Reading.{AreFew, IfFew, longest_passes, run_texts, step_few}
use Rattle.mon_bounds.proofs.Sizes.{copied_size, last_size, learned_size, load, recorded_size, size, unmark_size, word_short}
use Rattle.quorum_walk.proofs.FineReading.{longest_fine}
use Rattle.quorum_walk.proofs.Walk.{Then, and_then, by_test, done, where_fits}
use Rattle.mon_bounds.specs.Fitting.{IsNamed}
use Rattle.mon_bounds.specs.Remembered.{EndsWithin}

place_short : (k : KeyPlace) → parts.key_place.Form k → key_place_length k ≤ 300
place_short key_place.Start h = omega arith
place_short (key_place.After p k) h = let a = word_short 32 p h.0 in let b = word_short 255 k h.1 in omega arith
place_short key_place.Done h = omega arith

-- ---- entries

entries_form : (es : List Entry) → sum_by entry_length es ≤ 1048576 → AllByRecursion IsNamed es → AllByRecursion parts.entry.Form es
entries_form [] h k = tt
entries_form (e ∷ es) h k = let s = sum_by-cons entry_length e es in ((k.0.0, (k.0.1, omega arith)), entries_form es (omega arith) k.1)

-- the place after entries
after_form : (es : List Entry) (k : KeyPlace) → AllByRecursion parts.entry.Form es → parts.key_place.Form k → parts.key_place.Form (after_entries es k)
after_form [] k h p = p
after_form (e ∷ es) k h p = after_form es (key_place.After e.prefix e.key) h.1 (h.0.0, h.0.1.0)

next_form : (p : Place) (version : ℕ) (es : List Entry) (done : Bool) → version ≤ 2 ^ 62 → AllByRecursion parts.entry.Form es → parts.key_place.Form p.key → parts.place.Form (next_place p version es done)
next_form p version es true h E k = (h, tt)
next_form p version es false h E k = (h, after_form es p.key E k)

recorded_tells : (v : ℕ) (values : List (List Op)) → AllByRecursion Tells (record_changes v values)
recorded_tells v [] = tt
recorded_tells v (x ∷ xs) = (tt, recorded_tells (suc v) xs)

copied_tells : (es : List Entry) → AllByRecursion Tells (copy_changes es)
copied_tells [] = tt
copied_tells (e ∷ es) = (tt, copied_tells es)

module _ (me : Me) (now : ℕ) where
  abbrev n : ℕ
  n = me.member.monitors

  -- ---- a provider

  get_chunk_said : (c : Cookie) (p : Place) → IsCookie me c → IsPlace me p → Said me (body.GetChunk c p)
  get_chunk_said c p k h = record { form = λ _. (k, h); fits = within n (body.GetChunk c p) (let l = place_short p.key h.1 in omega arith) refl; plain = refl }

  chunk_said : (c : Cookie) (p : Place) (values : List (List Op)) (es : List Entry) (done : Bool) → IsCookie me c → IsPlace me p → AllByRecursion HasText values → fits n (body.Chunk c p values es done) ≡ true
      → Said me (body.Chunk c p values es done)
  chunk_said c p values es done k h each ok =
      let lists = and_parts (leb (length values) 65535) (leb (length es) 65535) (fits_lists n (body.Chunk c p values es done) ok) in
      let long = fits_length n (body.Chunk c p values es done) ok in
      record { form = λ named. (k, (h, ((few values lists.0, each), ((few es lists.1, entries_form es (omega arith) named), tt)))); fits = ok; plain = refl }

  last_chunk_said : (c : Cookie) (p : Place) (values : List (List Op)) (es : List Entry) (last : ℕ) → last ≤ 2 ^ 62 → IsCookie me c → IsPlace me p → AllByRecursion HasText values → fits n (body.LastChunk c p values es last) ≡ true
      → Said me (body.LastChunk c p values es last)
  last_chunk_said c p values es last l k h each ok =
      let lists = and_parts (leb (length values) 65535) (leb (length es) 65535) (fits_lists n (body.LastChunk c p values es last) ok) in
      let long = fits_length n (body.LastChunk c p values es last) ok in
      record { form = λ named. (k, (h, ((few values lists.0, each), ((few es lists.1, entries_form es (omega arith) named), l)))); fits = ok; plain = refl }

  module _ (last : ℕ) (c : Cookie) (p : Place) (left : List Entry) (l : last ≤ 2 ^ 62) (k : IsCookie me c) (h : IsPlace me p) where
    with_said : (values : List (List Op)) (es : List Entry) → AllByRecursion HasText values → fits n (chunk_with last c p left values es) ≡ true → Said me (chunk_with last c p left values es)
    with_said values es each ok = by (reach last p values && is_finished p left es) ok
      where
        by : (b : Bool) → fits n (cond b (body.LastChunk c p values es last) (body.Chunk c p values es (is_finished p left es))) ≡ true
            → Said me (cond b (body.LastChunk c p values es last) (body.Chunk c p values es (is_finished p left es)))
        by true t = last_chunk_said c p values es last l k h each t
        by false t = chunk_said c p values es (is_finished p left es) k h each t

    nothing_fits : fits n (chunk_with last c p left [] []) ≡ true
    nothing_fits = by (reach last p [] && is_finished p left [])
      where
        by : (b : Bool) → fits n (cond b (body.LastChunk c p [] [] last) (body.Chunk c p [] [] (is_finished p left []))) ≡ true
        by true = within n (body.LastChunk c p [] [] last) (let s = place_short p.key h.1 in omega arith) refl
        by false = within n (body.Chunk c p [] [] (is_finished p left [])) (let s = place_short p.key h.1 in omega arith) refl

    given_said : (records : ℕ → Cell) → Said me (chunk last c p left n records)
    unfolding chunk
    given_said records =
        let values = given_values last c p left n records in
        let test = λ (vs : List (List Op)). fits n (chunk_with last c p left vs []) in
        let run = run_from records last (suc p.version) in
        let texts : AllByRecursion HasText values = longest_fine HasText test run (run_texts records last (suc p.version)) in
        let alone : fits n (chunk_with last c p left values []) ≡ true = longest_passes test run nothing_fits in
        let all = λ (es : List Entry). fits n (chunk_with last c p left values es) in
        with_said values (given_entries last c p left n values) texts
        (cond_both (reach last p values && not (is_done p.key)) (longest all left) [] (λ es. all es ≡ true) (λ _. longest_passes all left alone) (λ _. alone))

  grant_ok : (full : Bool) (f : ℕ) (x : Course) → f < n → Under me 0 x → Then (Over me) (grant me full f x)
  grant_ok full f x lt A = where_fits (Over me) which.Cookie x.state.provider.next_cookie _ (λ seq.
      let c : Cookie = record { boot = x.readings.boot; seq = x.state.provider.next_cookie } in
      over me 0 _ (omega arith) (tells me (body.Cookie full c x.readings.last) f 0 _ _ _ (said.cookie me full c x.readings.last (A.0.numbers.boot, seq) A.0.numbers.last) lt A.0, A.1))

  pub hear_get_cookie_full_ok : (f : ℕ) (x : Course) → f < n → Under me 0 x → Then (Over me) (hear_get_cookie_full me f x)
  unfolding hear_get_cookie_full
  hear_get_cookie_full_ok f x lt A = by_test x.readings.marked (λ _. over me 0 x (omega arith) A) (λ _. grant_ok true f x lt A)

  pub hear_get_cookie_recent_ok : (f : ℕ) (last : ℕ) (x : Course) → f < n → Under me 0 x → Then (Over me) (hear_get_cookie_recent me f last x)
  unfolding hear_get_cookie_recent
  hear_get_cookie_recent_ok f last x lt A = by_test x.readings.marked (λ _. over me 0 x (omega arith) A) (λ _.
      by_test (ltb (suc last) x.readings.first)
      (λ _. over me 0 _ (omega arith) (tells me (body.NoCookie no_cookie) f 0 _ _ _ (said.no_cookie me no_cookie (omega arith, omega arith)) lt A.0, A.1)) (λ _. grant_ok false f x lt A))

  pub hear_get_chunk_ok : (shared : List Entry) (f : ℕ) (c : Cookie) (p : Place) (x : Course) → f < n → IsCookie me c → IsPlace me p → Under me 0 x → Then (Over me) (hear_get_chunk me shared f c p x)
  unfolding hear_get_chunk
  hear_get_chunk_ok shared f c p x lt k h A =
      let w = x.readings in
      let left = filter (is_after p.key) shared in
      by_test w.marked (λ _. over me 0 x (omega arith) A) (λ _.
      by_test (not (is_cookie c (slice_index_or x.state.provider.cookies f None)) || ltb (suc p.version) w.first)
      (λ _. over me 0 _ (omega arith) (tells me (body.NoCookie c) f 0 _ _ _ (said.no_cookie me c k) lt A.0, A.1))
      (λ _. over me 0 _ (omega arith) (tells me (chunk w.last c p left n w.record_of) f 0 _ _ _ (given_said w.last c p left A.0.numbers.last k h w.record_of) lt A.0, A.1)))

  -- ---- a requester

  asks_chunk : (c : Cookie) (p : Place) (b : ℕ) (x : Course) → IsCookie me c → IsPlace me p → Under me b x → Under me b (ask_chunk me now c p x)
  asks_chunk c p b x k h A = (tells me (body.GetChunk c p) x.state.requester.provider b _ _ _ (get_chunk_said c p k h) A.1.others.requester.provider A.0, A.1)

  first_form : (full : Bool) (last own : ℕ) → last ≤ 2 ^ 62 → own ≤ 2 ^ 62 → IsPlace me (first_place full last own)
  first_form true last own h k = (h, tt)
  first_form false last own h k = (k, tt)

  pub hear_cookie_ok : (f : ℕ) (full : Bool) (c : Cookie) (last : ℕ) (x : Course) → IsCookie me c → last ≤ 2 ^ 62 → Under me 0 x → Then (Over me) (hear_cookie me now f full c last x)
  unfolding hear_cookie
  hear_cookie_ok f full c last x k l A =
      let q = A.1.others.requester in
      let p = first_place full last x.readings.last in
      let y : Course = x ▸ requester_is (record x.state.requester { stage = sync.Chunks; cookie = Some c; start = p.version; place = p }) in
      by_test (not (of_provider f x && awaits_cookie x.state.requester.stage && same_flag full x.state.requester.full) || (full && ltb last x.readings.floor)) (λ _. over me 0 x (omega arith) A)
      (λ _. over me 0 _ (omega arith) (asks_chunk c p 0 y k (first_form full last x.readings.last l A.0.numbers.last) (A.0, copying me _ A.1 (record { provider = q.provider; stage = tt }))))

  pub hear_no_cookie_ok : (f : ℕ) (c : Cookie) (x : Course) → Under me 0 x → Then (Over me) (hear_no_cookie me now f c x)
  unfolding hear_no_cookie
  hear_no_cookie_ok f c x A =
      by_test (of_provider f x && (is_cookie c x.state.requester.cookie || (awaits_cookie x.state.requester.stage && not x.state.requester.full && same_cookie c no_cookie))) (λ _. bootstrap_ok me now 0 x (inl (omega arith)) A)
      (λ _. over me 0 x (omega arith) A)

  -- what a chunk holds, if the chunk fits
  record Holds (values : List (List Op)) (es : List Entry) : Type 0 where
    few : length values ≤ 65535
    some : length es ≤ 65535
    short : load values ≤ 1048576
    all : load values + sum_by entry_length es ≤ 1048576

  abbrev most_copied : ℕ
  most_copied = 3400000

  copy_ok : (full : Bool) (b v : ℕ) (values : List (List Op)) (es : List Entry) (x : Course) → Holds values es → v + length values ≤ suc (2 ^ 62) → Under me 0 x
      → Then (λ y. Under me most_copied y × Unit {0}) (copy full v values es x)
  copy_ok true b v values es x H short A =
      let few = H.few in
      let some = H.some in
      let all = H.all in
      let B = writes me (record_changes v values) (28 * length values + load values) 0 _ _ _ (recorded_size v values short) (recorded_tells v values) A.0 in
      let C = writes me (copy_changes es) (length es + sum_by entry_length es) (0 + (28 * length values + load values)) _ _ _ (copied_size es) (copied_tells es) B in
      done ((raise me (0 + (28 * length values + load values) + (length es + sum_by entry_length es)) most_copied _ _ _ (omega arith) C, A.1), tt)
  copy_ok false b v values es x H short A =
      ends (learn v values x) (learn_ok me now (λ s. Unit {0}) 0 most_copied v values x (let few = H.few in let l = H.short in omega arith) tt A)
    where
      ends : (r : Result Course Which) → Then (λ y. Under me (0 + most_copied) y × Unit {0}) r → Then (λ y. Under me most_copied y × Unit {0}) r
      ends (Ok y) h = let A = h.holds.0 in done ((raise me (0 + most_copied) most_copied _ _ _ (omega arith) A.0, A.1), tt)
      ends (Err w) h = record { holds = tt }

  take_ok : (p : Place) (values : List (List Op)) (es : List Entry) (is_last : Bool) (x : Course) → IsPlace me p → AllByRecursion parts.entry.Form es → Holds values es → Under me 0 x
      → Then (λ y. Under me most_copied y × IsPlace me y.state.requester.place) (take p values es is_last x)
  take_ok p values es is_last x h E H A = where_fits _ which.Version (p.version + length values) _ (λ short.
      and_then (λ y. Under me most_copied y × Unit {0}) _ (copy x.state.requester.full (suc p.version) values es x) _ (copy_ok x.state.requester.full 0 (suc p.version) values es x H (omega arith) A) (λ y B.
      let q = B.0.1.others.requester in
      done ((B.0.0, copying me _ B.0.1 (record { provider = q.provider; stage = q.stage })), next_form p (p.version + length values) es is_last short E h.1)))

  chunk_holds : (c : Cookie) (p : Place) (values : List (List Op)) (es : List Entry) (is_last : Bool) → fits n (body.Chunk c p values es is_last) ≡ true → Holds values es
  chunk_holds c p values es is_last ok =
      let lists = and_parts (leb (length values) 65535) (leb (length es) 65535) (fits_lists n (body.Chunk c p values es is_last) ok) in
      let long = fits_length n (body.Chunk c p values es is_last) ok in
      record { few = leb-true (length values) 65535 lists.0; some = leb-true (length es) 65535 lists.1; short = omega arith; all = omega arith }

  last_chunk_holds : (c : Cookie) (p : Place) (values : List (List Op)) (es : List Entry) (last : ℕ) → fits n (body.LastChunk c p values es last) ≡ true → Holds values es
  last_chunk_holds c p values es last ok =
      let lists = and_parts (leb (length values) 65535) (leb (length es) 65535) (fits_lists n (body.LastChunk c p values es last) ok) in
      let long = fits_length n (body.LastChunk c p values es last) ok in
      record { few = leb-true (length values) 65535 lists.0; some = leb-true (length es) 65535 lists.1; short = omega arith; all = omega arith }

  pub hear_chunk_ok : (f : ℕ) (c : Cookie) (p : Place) (values : List (List Op)) (es : List Entry) (is_last : Bool) (x : Course) → IsCookie me c → IsPlace me p → AllByRecursion parts.entry.Form es
      → fits n (body.Chunk c p values es is_last) ≡ true → Under me 0 x → Then (Over me) (hear_chunk me now f c p values es is_last x)
  unfolding hear_chunk
  hear_chunk_ok f c p values es is_last x k h E ok A = by_test (is_ours f c p x)
      (λ _. and_then _ (Over me) (take p values es is_last x) _ (take_ok p values es is_last x h E (chunk_holds c p values es is_last ok) A) (λ y B.
      over me most_copied _ (omega arith) (asks_chunk c y.state.requester.place most_copied y k B.1 B.0)))
      (λ _. over me 0 x (omega arith) A)

  replay_or_end_ok : (last : ℕ) (x : Course) → last ≤ 2 ^ 62 → ltb 1 n ≡ true → Under me most_copied x → Then (Over me) (replay_or_end me now last x)
  replay_or_end_ok last x short many A =
      let q = A.1.others.requester in
      by_test x.state.requester.full
      (λ _. where_fits (Over me) which.Version (suc x.state.requester.start) _ (λ _. over me most_copied _ (omega arith) (A.0, copying me _ A.1 (record { provider = q.provider; stage = short }))))
      (λ _. bootstrap_ok me now most_copied x (inr (many, omega arith)) A)

  pub hear_last_chunk_ok : (f : ℕ) (c : Cookie) (p : Place) (values : List (List Op)) (es : List Entry) (last : ℕ) (x : Course) → IsPlace me p → AllByRecursion parts.entry.Form es → last ≤ 2 ^ 62 → ltb 1 n ≡ true
      → fits n (body.LastChunk c p values es last) ≡ true → Under me 0 x → Then (Over me) (hear_last_chunk me now f c p values es last x)
  unfolding hear_last_chunk
  hear_last_chunk_ok f c p values es last x h E short many ok A = by_test (is_ours f c p x)
      (λ _. and_then _ (Over me) (take p values es true x) _ (take_ok p values es true x h E (last_chunk_holds c p values es last ok) A) (λ y B. replay_or_end_ok last y short many B.0))
      (λ _. over me 0 x (omega arith) A)

  -- ---- the replay

  replayed_size : (next end : ℕ) (values : List (List Op)) → end ≤ 2 ^ 62 → AreFew (min (suc end - next) 64) 1048544 values → size (learn_changes next values) ≤ 2200000
  replayed_size next end [] short F = omega arith
  replayed_size next end (v ∷ vs) short F =
      let count = F.count in
      let bytes = F.bytes in
      let s = learned_size next (v ∷ vs) (omega arith) in
      omega (arith, s)

  replay_ok : (next end : ℕ) (values : Option (List (List Op))) (x : Course) → end ≤ 2 ^ 62 → IfFew (min (suc end - next) 64) 1048544 values → Under me 0 x → Then (Over me) (replay_any me now next end values x)
  replay_ok next end None x short F A = bootstrap_ok me now 0 x (inl (omega arith)) A
  replay_ok next end (Some values) x short F A =
      let q = A.1.others.requester in
      let B = writes me (learn_changes next values) 2200000 0 _ _ _ (replayed_size next end values short F) (learned_tells next values) A.0 in
      let C = writes me (Last end ∷ []) 100 (0 + 2200000) _ _ _ (last_size end) (short, tt) B in
      let D = writes me (Unmark ∷ []) 100 (0 + 2200000 + 100) _ _ _ unmark_size (tt, tt) C in
      by_test (ltb end (next + length values)) (λ _. bootstrap_ok me now (0 + 2200000 + 100 + 100) _ (inl (omega arith)) (D, A.1))
      (λ _. over me (0 + 2200000) _ (omega arith) (B, copying me _ A.1 (record { provider = q.provider; stage = short })))

  step_ok : (s : SyncStage) (x : Course) → EndsWithin s → Under me 0 x → Then (Over me) (step_in me now s x)
  step_ok sync.Cookie x k A = over me 0 x (omega arith) A
  step_ok sync.Chunks x k A = over me 0 x (omega arith) A
  step_ok (sync.Replay next end) x k A = replay_ok next end (step_of x.readings.record_of (suc end - next) next) x k (step_few x.readings.record_of (suc end - next) next) A

  pub replay_step_ok : (x : Course) → Under me 0 x → Then (Over me) (replay_step me now x)
  unfolding replay_step
  replay_step_ok x A = by_test (same_phase x.state.phase phase.Synchronizing) (λ _. step_ok x.state.requester.stage x A.1.others.requester.stage A) (λ _. over me 0 x (omega arith) A)
