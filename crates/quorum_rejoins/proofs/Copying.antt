-- One member copies the whole store of another one.
use Rattle.calm_sizes.proofs.Shorts.{PutsShort, short_apply}
use Rattle.calm_sizes.proofs.Stores.{number_short}
use Rattle.calm_sizes.specs.Sizes.{AllShort, longest}
use Rattle.law_names.proofs.Runs.{World}
use Rattle.law_names.proofs.Table.{AllByRecursion, Body, Change, Cookie, Course, Entry, Fits, Key, KeyPlace, Last, Mark, Place, Readings, State, Store, SyncStage, Unmark, after_entries, apply, chunk, copy_changes, encoded, epoch_of, has, is_after, is_armed, is_done, joined, ops_of, played, readings_of, shared_entries}
use Rattle.log_model.proofs.Lists.{all_append, all_front}
use Rattle.log_model.proofs.SharedEntries.{shared_spares}
use Rattle.mon_bytes.specs.declared.entry.KeyPlace.TheVariants as key_place
use Rattle.mon_msg.proofs.Changed.{readings-joined}
use Rattle.mon_msg.proofs.Joining.{apply-joined}
use Rattle.mon_msg.specs.Protocol.Changes.{put_back}
use Rattle.mon_msg.specs.declared.synchronization.SyncStage.TheVariants as sync
use Rattle.mon_tx.specs.declared.key.Key.TheVariants as key
use Rattle.mon_wire.specs.Message.PartLengths.{key_place_length}
use Rattle.mon_wire.specs.declared.body.Body.TheVariants as body
use Rattle.mon_wire.specs.declared.phase.Phase.TheVariants as phase
use Rattle.mon_wire.specs.declared.phase.Timer.TheVariants as timer
use Rattle.quorum_elects.proofs.Can.{Can, New, Onward, Scope, reached_holds, rests, then, weaker}
use Rattle.quorum_elects.proofs.Moving.{Bears, Did}
use Rattle.quorum_elects.proofs.Standing.{Is, letter}
use Rattle.quorum_elects.proofs.Steps.{is_now, is_stays}
use Rattle.quorum_elects.proofs.Walking.{weaken}
use Rattle.quorum_laws.specs.Accepting.{readings_at}
use Rattle.quorum_rejoins.proofs.Events.{deliver, deliver_copy, ring_copy}
use Rattle.quorum_rejoins.proofs.Giving.{Gives as GivesChunk, Grants, gives, grants_full, held_set, next_cookie}
use Rattle.quorum_rejoins.proofs.Progress.{Brings, IsBrief, all_filter, brief_place, brings, filter_within, left_less, not_done}
use Rattle.quorum_rejoins.proofs.Sizes.{IsStill, copy_small, over_small}
use Rattle.quorum_rejoins.proofs.Taking.{Asked, Chunks, Copies, Ends, Replays, Takes, ends, takes_chunk, takes_cookie, takes_last}
use Rattle.quorum_rejoins.proofs.Turns.{AddsNone, Gives, Provider, Turn, turn_k, turn_p}
use Rattle.quorum_walk.proofs.Sparing.{EntrySpares, Own, copied_own, own_of}
use Rattle.std.proofs.Common.{List, None, Option, Some, [], ap, arith, false, filter, inl, inr, length, ltb, refl, slice_index_or, subst, suc, sym, true, zero, ℕ, ◌*◌, ◌++◌, ◌+◌, ◌<◌, ◌^◌, ◌∙◌, ◌∷◌, ◌≡◌, ◌≤◌, ◌⊎◌}
use Rattle.std.proofs.lemmas.Bool.{false≢true, le-ltb}
use Rattle.std.proofs.lemmas.List.{length-set}

-- ---- what changes of a copy put

puts_back : (k : Key) (o : Option ℕ) → AllByRecursion (PutsShort longest) (put_back k o)
puts_back k None = tt
puts_back k (Some n) = (number_short n, tt)

pub puts_mark : (floor : ℕ) (a b : Option ℕ) → AllByRecursion (PutsShort longest) (encoded (Mark floor a b ∷ []))
puts_mark floor a b =
    all_append (PutsShort longest) (ops_of (Mark floor a b)) [] (
      number_short 1,
      (number_short floor, (tt, (tt, (tt, all_append (PutsShort longest) (put_back key.LastPn a) (put_back key.AcceptedPn b) (puts_back key.LastPn a) (puts_back key.AcceptedPn b))))),
    ) tt

puts_end : (t : ℕ) → AllByRecursion (PutsShort longest) (encoded (Last t ∷ Unmark ∷ []))
puts_end t = (number_short t, (tt, (tt, tt)))

puts_copies : (es : List Entry) → AllByRecursion IsBrief es → AllByRecursion (PutsShort longest) (encoded (copy_changes es))
puts_copies [] h = tt
puts_copies (e ∷ es) h = ((let z = h.0.1 in omega arith), puts_copies es h.1)

copies_fit : (es : List Entry) → AllByRecursion Fits (copy_changes es)
copies_fit [] = tt
copies_fit (e ∷ es) = (tt, copies_fit es)

short_written : (cs : List Change) (m : Store) → AllByRecursion (PutsShort longest) (encoded cs) → AllShort longest m → AllShort longest (apply (joined (encoded cs)) m)
short_written cs m h all = subst (AllShort longest) (sym (apply-joined (encoded cs) m)) (short_apply longest (encoded cs) m h all)

-- a course of a monitor whose copy is of one version
pub bears : (m : Store) (y : Course) (cs : List Change) → y.changes ≡ cs → y.readings ≡ played cs (readings_of m) → AllByRecursion Fits cs → AllByRecursion (PutsShort longest) (encoded cs) → y.state.phase ≡ phase.Synchronizing
    → IsStill y.state.requester.stage y.state.requester.start y.state.requester.place.version → Bears m y
bears m y cs is reads fits puts at still = record {
  tells = reads ∙ ap (λ (xs : List Change). played xs (readings_of m)) (sym is);
  fits = subst (AllByRecursion Fits) (sym is) fits;
  short = λ all. subst (λ (xs : List Change). AllShort longest (apply (joined (encoded xs)) m)) (sym is) (short_written cs m puts all);
  small = λ short L. copy_small (apply (joined (encoded y.changes)) m) y.state at still short L;
}

-- ---- it begins

module _ (S : Scope) (several : 1 < S.ms.count) (P : Provider S) (k : ℕ) (other : k ≡ P.p → ⊥) (from : World) (lt_k : ltb k S.ms.count ≡ true) (in_k : has S.q k ≡ true) (lt_p : ltb P.p S.ms.count ≡ true) (in_p : has S.q P.p ≡ true) where
  abbrev n : ℕ
  n = S.ms.count

  abbrev t : ℕ
  t = (readings_of P.given).last

  abbrev entries : List Entry
  entries = shared_entries P.given

  abbrev place_at : KeyPlace → Place
  place_at x = record { version = t; key = x }

  abbrev pub T1 : ℕ → World → Type 0
  T1 most w = Turn S P k other from most w

  -- a message waits, of some epoch
  abbrev pub Mail : ℕ → ℕ → Body → World → Type 0
  Mail f g b w = (e : ℕ) × New S.sent w (record { to = g; message = letter n f e b })

  -- it has a mark, and waits for a cookie
  pub record Waiting (most : ℕ) (o : Own) (w : World) : Type 0 where
    pub turn : T1 most w
    pub member : Is (λ r s. Takes P.p true sync.Cookie s × (own_of r ≡ o)) w k
    pub asks : Mail k P.p body.GetCookieFull w

  -- the cookie is on its way
  pub record Granted (most : ℕ) (o : Own) (c : Cookie) (w : World) : Type 0 where
    pub turn : T1 most w
    pub held : slice_index_or turn.state.provider.cookies k None ≡ Some c
    pub member : Is (λ r s. Takes P.p true sync.Cookie s × (own_of r ≡ o)) w k
    pub offer : Mail P.p k (body.Cookie true c t) w

  -- it takes chunks from a place on
  pub record InChunks (most : ℕ) (o : Own) (c : Cookie) (x : KeyPlace) (w : World) : Type 0 where
    pub turn : T1 most w
    pub held : slice_index_or turn.state.provider.cookies k None ≡ Some c
    pub member : Is (λ r s. Chunks P.p true c t (place_at x) s × (own_of r ≡ o)) w k
    pub unfinished : is_done x ≡ false
    pub low : key_place_length x ≤ 36

  -- it asks for the next one, and at most m entries are left
  pub record Chunking (most : ℕ) (o : Own) (c : Cookie) (x : KeyPlace) (m : ℕ) (w : World) : Type 0 where
    pub stands : InChunks most o c x w
    pub asks : Mail k P.p (body.GetChunk c (place_at x)) w
    pub left : length (filter (is_after x) entries) ≤ m

  -- the chunk is on its way
  pub record Offered (most : ℕ) (o : Own) (c : Cookie) (x : KeyPlace) (w : World) : Type 0 where
    pub stands : InChunks most o c x w
    pub offer : Mail P.p k (chunk t c (place_at x) (filter (is_after x) entries) n (readings_of P.given).record_of) w

  -- it has all entries
  pub record Whole (most : ℕ) (o : Own) (w : World) : Type 0 where
    pub turn : T1 most w
    pub member : Is (λ r s. Takes P.p true (sync.Replay (suc t) t) s × ((own_of r ≡ o) × (is_armed timer.Step s.timers ≡ true))) w k

  -- it has the versions of the provider, and is in no full synchronization
  pub record Joined (most : ℕ) (o : Own) (w : World) : Type 0 where
    pub turn : T1 most w
    pub own : own_of (readings_at w k) ≡ record o { last = t; marked = false; floor = 0 }

  module _ (few : k < 15) (unmarked : (readings_of P.given).marked ≡ false) (within : t ≤ length P.log) (short : length P.log < 2 ^ 62) (near : length P.log ≤ suc t) (kept : (readings_of P.given).first ≤ suc t)
      (brief : AllByRecursion IsBrief (shared_entries P.given)) (most : ℕ) (room : suc most ≤ 2 ^ 62) (o : Own) (marks : o.marked ≡ true) where
    unmarked_now : {less : ℕ} (w : World) → T1 less w → (readings_of (w.store P.p)).marked ≡ false
    unmarked_now w T = ap (λ (m : Store). (readings_of m).marked) T.given ∙ unmarked

    -- ---- a cookie

    grants : (w : World) → Waiting most o w → Can S 1 (λ v. (c : Cookie) × Granted (suc most) o c v) w
    grants w W = weaker S (omega arith) after
        (deliver S w T.room P.p lt_p in_p (Grants S.ms several P.p lt_p (shared_entries (w.store P.p)) (S.clock.event w) k true (readings_at w P.p) T.state) (letter n k (W.asks).0 body.GetCookieFull) (W.asks).1 T.state T.up
        (grants_full S.ms several P.p lt_p (shared_entries (w.store P.p)) (S.clock.event w) (readings_at w P.p) T.state k (W.asks).0 other (unmarked_now w T) G.runs (let z = G.next in omega arith)))
      where
        T : T1 most w
        T = W.turn

        G : Gives most T.state
        G = T.gives

        c : Cookie
        c = next_cookie S.ms several P.p lt_p (shared_entries (w.store P.p)) (S.clock.event w) (readings_at w P.p) T.state

        after : (v : World) → Onward S w v → Did S (Grants S.ms several P.p lt_p (shared_entries (w.store P.p)) (S.clock.event w) k true (readings_at w P.p) T.state) w P.p v → (c : Cookie) × Granted (suc most) o c v
        after v on D = (
          c,
          record {
            turn = turn_p S P k other from (suc most) D.y T on D.moved D.did.still (subst (Gives (suc most)) (sym D.did.state) (record { runs = G.runs; long = length-set T.state.provider.cookies k (Some c) ∙ G.long; next = (let z = G.next in omega arith) }));
            held = subst (λ (s : State). slice_index_or s.provider.cookies k None ≡ Some c) (sym D.did.state) (held_set T.state.provider.cookies k (Some c) (let z = G.long in omega arith));
            member = is_stays (λ r s. Takes P.p true sync.Cookie s × (own_of r ≡ o)) w v k (D.moved.others k other) W.member;
            offer = (epoch_of (readings_at w P.p), subst (λ (m : Store). New S.sent v (record { to = k; message = letter n P.p (epoch_of (readings_at w P.p)) (body.Cookie true c (readings_of m).last) })) T.given (D.moved.says k (letter n P.p (epoch_of (readings_at w P.p)) (body.Cookie true c (readings_at w P.p).last)) D.did.says));
          },
        )

    -- a course at a monitor that copies leaves the log as it is
    no_more : (r : Readings) → own_of r ≡ o → AddsNone P.log r
    no_more r e = inl (ap (λ (x : Own). x.marked) e ∙ marks)

    takes : (c : Cookie) (w : World) → Granted (suc most) o c w → Can S 1 (Chunking (suc most) o c key_place.Start (length entries)) w
    takes c w W = weaker S (omega arith) after
        (deliver_copy S w T.room k lt_k in_k (Asked S.ms several k lt_k (shared_entries (w.store k)) (S.clock.event w) P.p true c (place_at key_place.Start) (readings_at w k)) (letter n P.p (W.offer).0 (body.Cookie true c t)) (W.offer).1 M.state M.up
        (weaken (Asked S.ms several k lt_k (shared_entries (w.store k)) (S.clock.event w) P.p true c (place_at key_place.Start) (readings_at w k)) _ _ (λ y A. (bearing y A, A))
        (takes_cookie S.ms several k lt_k (shared_entries (w.store k)) (S.clock.event w) (readings_at w k) M.state P.p (W.offer).0 true c t (λ e. other (sym e)) (M.holds).0 (le-ltb t (readings_at w k).floor low))))
      where
        T : T1 (suc most) w
        T = W.turn

        M : Is (λ r s. Takes P.p true sync.Cookie s × (own_of r ≡ o)) w k
        M = W.member

        marked : (readings_at w k).marked ≡ true
        marked = ap (λ (x : Own). x.marked) (M.holds).1 ∙ marks

        low : (readings_at w k).floor ≤ t
        low = let R = T.room in let H = reached_holds S.ms several w R.reached in let A = H.1 in elim (A.stores k) [
          | inl none ↦ absurd (false≢true (sym none.0 ∙ marked))
          | inr far ↦ (let e = ap (λ (l : List (List ℕ)). length l) T.log in omega arith)
        ]

        bearing : (y : Course) → Asked S.ms several k lt_k (shared_entries (w.store k)) (S.clock.event w) P.p true c (place_at key_place.Start) (readings_at w k) y → Bears (w.store k) y
        bearing y A =
            let C = A.chunks in
            let K = C.takes in
            bears (w.store k) y [] A.still A.reads tt tt K.phase (subst (λ (z : SyncStage). IsStill z y.state.requester.start y.state.requester.place.version) (sym K.stage) (C.start ∙ sym (ap (λ (q : Place). q.version) C.place)))

        after : (v : World) → Onward S w v → Did S (Asked S.ms several k lt_k (shared_entries (w.store k)) (S.clock.event w) P.p true c (place_at key_place.Start) (readings_at w k)) w k v → Chunking (suc most) o c key_place.Start (length entries) v
        after v on D =
            let A = D.did in
            let own : own_of D.y.readings ≡ o = ap own_of A.reads ∙ (M.holds).1 in
            record {
              stands = record {
                turn = turn_k S P k other from D.y T on D.moved (no_more D.y.readings own);
                held = W.held;
                member = is_now S (λ r s. Chunks P.p true c t (place_at key_place.Start) s × (own_of r ≡ o)) w v k D.y D.moved (A.chunks, own);
                unfinished = refl;
                low = omega arith;
              };
              asks = (epoch_of (readings_at w k), D.moved.says P.p (letter n k (epoch_of (readings_at w k)) (body.GetChunk c (place_at key_place.Start))) A.says);
              left = filter_within (is_after key_place.Start) entries;
            }

    -- ---- chunks

    give : (c : Cookie) (x : KeyPlace) (m : ℕ) (w : World) → Chunking (suc most) o c x m w → Can S 1 (Offered (suc most) o c x) w
    give c x m w C = weaker S (omega arith) after
        (deliver S w T.room P.p lt_p in_p (R (w.store P.p)) (letter n k (C.asks).0 (body.GetChunk c (place_at x))) (C.asks).1 T.state T.up
        (gives S.ms several P.p lt_p (shared_entries (w.store P.p)) (S.clock.event w) (readings_at w P.p) T.state k (C.asks).0 c (place_at x) other (unmarked_now w T) G.runs Z.held (subst (λ (m : Store). (readings_of m).first ≤ suc t) (sym T.given) kept)))
      where
        Z : InChunks (suc most) o c x w
        Z = C.stands

        T : T1 (suc most) w
        T = Z.turn

        G : Gives (suc most) T.state
        G = T.gives

        given_by : Store → Body
        given_by m = chunk (readings_of m).last c (place_at x) (filter (is_after x) (shared_entries m)) n (readings_of m).record_of

        R : Store → Course → Type 0
        R m = GivesChunk S.ms several P.p lt_p (shared_entries (w.store P.p)) (S.clock.event w) k (chunk (readings_of m).last c (place_at x) (filter (is_after x) (shared_entries m)) n (readings_of m).record_of) (readings_at w P.p) T.state

        after : (v : World) → Onward S w v → Did S (R (w.store P.p)) w P.p v → Offered (suc most) o c x v
        after v on D = record {
          stands = record {
            turn = turn_p S P k other from (suc most) D.y T on D.moved D.did.still (subst (Gives (suc most)) (sym D.did.state) G);
            held = subst (λ (s : State). slice_index_or s.provider.cookies k None ≡ Some c) (sym D.did.state) Z.held;
            member = is_stays (λ r s. Chunks P.p true c t (place_at x) s × (own_of r ≡ o)) w v k (D.moved.others k other) Z.member;
            unfinished = Z.unfinished;
            low = Z.low;
          };
          offer = (
            epoch_of (readings_at w P.p),
            subst (λ (m : Store). New S.sent v (record { to = k; message = letter n P.p (epoch_of (readings_at w P.p)) (chunk (readings_of m).last c (place_at x) (filter (is_after x) (shared_entries m)) n (readings_of m).record_of) })) T.given
                (D.moved.says k (letter n P.p (epoch_of (readings_at w P.p)) (chunk (readings_at w P.p).last c (place_at x) (filter (is_after x) (shared_entries (w.store P.p))) n (readings_at w P.p).record_of)) D.did.says),
          );
        }

    -- it has all entries, or fewer are left
    abbrev Took : Cookie → KeyPlace → World → Type 0
    Took c x v = Whole (suc most) o v ⊎ ((y : KeyPlace) × (m : ℕ) × Chunking (suc most) o c y m v × (m < length (filter (is_after x) entries)))

    take : (c : Cookie) (x : KeyPlace) (w : World) → Offered (suc most) o c x w → Can S 1 (Took c x) w
    take c x w F = by B.is
      where
        Z : InChunks (suc most) o c x w
        Z = F.stands

        T : T1 (suc most) w
        T = Z.turn

        M : Is (λ r s. Chunks P.p true c t (place_at x) s × (own_of r ≡ o)) w k
        M = Z.member

        K : Takes P.p true sync.Chunks M.state
        K = let C = (M.holds).0 in C.takes

        left : List Entry
        left = filter (is_after x) entries

        brief_left : AllByRecursion IsBrief (filter (is_after x) entries)
        brief_left = all_filter IsBrief (is_after x) entries brief

        B : Brings t c (place_at x) (filter (is_after x) entries) (chunk t c (place_at x) (filter (is_after x) entries) n (readings_of P.given).record_of)
        B = brings t c (place_at x) (filter (is_after x) entries) n (readings_of P.given).record_of refl Z.unfinished Z.low brief_left

        brief_found : AllByRecursion IsBrief B.found
        brief_found = all_front IsBrief B.found B.rest (subst (AllByRecursion IsBrief) (sym B.begins) brief_left)

        spares_found : AllByRecursion EntrySpares B.found
        spares_found = all_front EntrySpares B.found B.rest (subst (AllByRecursion EntrySpares) (sym B.begins) (all_filter EntrySpares (is_after x) entries (shared_spares P.given)))

        own_then : (y : Course) → y.readings ≡ played (copy_changes B.found) (readings_at w k) → own_of y.readings ≡ o
        own_then y e = ap own_of e ∙ copied_own B.found (readings_at w k) spares_found ∙ (M.holds).1

        -- ---- the last one

        last_bears : (y : Course) → Replays S.ms several k lt_k (shared_entries (w.store k)) (S.clock.event w) P.p t t B.found (readings_at w k) y → Bears (w.store k) y
        last_bears y A =
            let K = A.takes in
            bears (w.store k) y (copy_changes B.found) A.changes A.reads (copies_fit B.found) (puts_copies B.found brief_found) K.phase (subst (λ (z : SyncStage). IsStill z y.state.requester.start y.state.requester.place.version) (sym K.stage) refl)

        last_then : (v : World) → Onward S w v → Did S (Replays S.ms several k lt_k (shared_entries (w.store k)) (S.clock.event w) P.p t t B.found (readings_at w k)) w k v → Took c x v
        last_then v on D =
            let A = D.did in
            inl (record {
              turn = turn_k S P k other from D.y T on D.moved (no_more D.y.readings (own_then D.y A.reads));
              member = is_now S (λ r s. Takes P.p true (sync.Replay (suc t) t) s × ((own_of r ≡ o) × (is_armed timer.Step s.timers ≡ true))) w v k D.y D.moved (A.takes, (own_then D.y A.reads, A.armed_now));
            })

        -- ---- another one

        chunk_bears : (y : Course) → Copies S.ms several k lt_k (shared_entries (w.store k)) (S.clock.event w) P.p c t (place_at x) B.found (readings_at w k) y → Bears (w.store k) y
        chunk_bears y A =
            let C = A.chunks in
            let K = C.takes in
            bears (w.store k) y (copy_changes B.found) A.changes A.reads (copies_fit B.found) (puts_copies B.found brief_found) K.phase
            (subst (λ (z : SyncStage). IsStill z y.state.requester.start y.state.requester.place.version) (sym K.stage) (C.start ∙ sym (ap (λ (q : Place). q.version) C.place)))

        chunk_then : (e : Entry) (es : List Entry) → B.found ≡ e ∷ es → (v : World) → Onward S w v → Did S (Copies S.ms several k lt_k (shared_entries (w.store k)) (S.clock.event w) P.p c t (place_at x) B.found (readings_at w k)) w k v → Took c x v
        chunk_then e es some v on D =
            let A = D.did in
            inr (
              after_entries B.found x,
              length (filter (is_after (after_entries B.found x)) entries),
              record {
                stands = record {
                  turn = turn_k S P k other from D.y T on D.moved (no_more D.y.readings (own_then D.y A.reads));
                  held = Z.held;
                  member = is_now S (λ r s. Chunks P.p true c t (place_at (after_entries B.found x)) s × (own_of r ≡ o)) w v k D.y D.moved (A.chunks, own_then D.y A.reads);
                  unfinished = subst (λ (fs : List Entry). is_done (after_entries fs x) ≡ false) (sym some) (not_done x e es);
                  low = brief_place x B.found Z.low brief_found;
                };
                asks = (epoch_of D.y.readings, D.moved.says P.p (letter n k (epoch_of D.y.readings) (body.GetChunk c (place_at (after_entries B.found x)))) A.says);
                left = omega arith;
              },
              subst (λ (fs : List Entry). length (filter (is_after (after_entries fs x)) entries) < length (filter (is_after x) entries)) (sym some) (left_less entries x e es B.rest (ap (λ (fs : List Entry). fs ++ B.rest) (sym some) ∙ B.begins)),
            )

        mail : (b : Body) → chunk t c (place_at x) (filter (is_after x) entries) n (readings_of P.given).record_of ≡ b → New S.sent w (record { to = k; message = letter n P.p (F.offer).0 b })
        mail b e = subst (λ (z : Body). New S.sent w (record { to = k; message = letter n P.p (F.offer).0 z })) e (F.offer).1

        by : (chunk t c (place_at x) (filter (is_after x) entries) n (readings_of P.given).record_of ≡ body.LastChunk c (place_at x) [] B.found t)
            ⊎ ((chunk t c (place_at x) (filter (is_after x) entries) n (readings_of P.given).record_of ≡ body.Chunk c (place_at x) [] B.found false) × ((e : Entry) × (es : List Entry) × (B.found ≡ e ∷ es))) → Can S 1 (Took c x) w
        by (inl last) = weaker S (omega arith) last_then
            (deliver_copy S w T.room k lt_k in_k (Replays S.ms several k lt_k (shared_entries (w.store k)) (S.clock.event w) P.p t t B.found (readings_at w k)) (letter n P.p (F.offer).0 (body.LastChunk c (place_at x) [] B.found t)) (mail (body.LastChunk c (place_at x) [] B.found t) last) M.state M.up
            (weaken (Replays S.ms several k lt_k (shared_entries (w.store k)) (S.clock.event w) P.p t t B.found (readings_at w k)) _ _ (λ y A. (last_bears y A, A))
            (takes_last S.ms several k lt_k (shared_entries (w.store k)) (S.clock.event w) (readings_at w k) M.state P.p (F.offer).0 c t (place_at x) B.found t (λ e. other (sym e)) (M.holds).0 (omega arith) (omega arith))))
        by (inr more) = weaker S (omega arith) (chunk_then (more.1).0 (more.1).1 (more.1).2)
            (deliver_copy S w T.room k lt_k in_k (Copies S.ms several k lt_k (shared_entries (w.store k)) (S.clock.event w) P.p c t (place_at x) B.found (readings_at w k)) (letter n P.p (F.offer).0 (body.Chunk c (place_at x) [] B.found false)) (mail (body.Chunk c (place_at x) [] B.found false) more.0) M.state M.up
            (weaken (Copies S.ms several k lt_k (shared_entries (w.store k)) (S.clock.event w) P.p c t (place_at x) B.found (readings_at w k)) _ _ (λ y A. (chunk_bears y A, A))
            (takes_chunk S.ms several k lt_k (shared_entries (w.store k)) (S.clock.event w) (readings_at w k) M.state P.p (F.offer).0 c t (place_at x) B.found (λ e. other (sym e)) (M.holds).0 (omega arith))))

    -- none can be left
    over : (c : Cookie) (x : KeyPlace) (v : World) → length (filter (is_after x) entries) ≤ 0 → Took c x v → Can S 0 (Whole (suc most) o) v
    over c x v few (inl W) = rests S W
    over c x v few (inr Z) = absurd (let z = Z.3 in omega arith)

    goes_on : (m : ℕ) (c : Cookie) (x : KeyPlace) (v : World) → length (filter (is_after x) entries) ≤ suc m → ((y : KeyPlace) (u : World) → Chunking (suc most) o c y m u → Can S (2 * suc m) (Whole (suc most) o) u) → Took c x v → Can S (2 * suc m) (Whole (suc most) o) v
    goes_on m c x v few next (inl W) = rests S W
    goes_on m c x v few next (inr Z) = let C = Z.2 in next Z.0 v (record { stands = C.stands; asks = C.asks; left = (let z = Z.3 in let y = C.left in omega arith) })

    -- each chunk takes at least one of the entries that are left
    loop : (m : ℕ) (c : Cookie) (x : KeyPlace) (w : World) → Chunking (suc most) o c x m w → Can S (2 * suc m) (Whole (suc most) o) w
    loop zero c x w C = weaker S (omega arith) (λ v on p. p) (then S (then S (give c x zero w C) (λ v on F. take c x v F)) (λ v on R. over c x v C.left R))
    loop (suc m) c x w C = weaker S (omega arith) (λ v on p. p) (then S (then S (give c x (suc m) w C) (λ v on F. take c x v F)) (λ v on R. goes_on m c x v C.left (λ y u D. loop m c y u D) R))

    -- ---- the end

    finish : (w : World) → Whole (suc most) o w → Can S 1 (Joined (suc most) o) w
    finish w W = weaker S (omega arith) after
        (ring_copy S w T.room k lt_k in_k (Ends S.ms several k lt_k (shared_entries (w.store k)) (S.clock.event w) t (readings_at w k)) timer.Step M.state M.up
        (weaken (Ends S.ms several k lt_k (shared_entries (w.store k)) (S.clock.event w) t (readings_at w k)) _ _ (λ y A. (bearing y A, A))
        (ends S.ms several k lt_k (shared_entries (w.store k)) (S.clock.event w) (readings_at w k) M.state P.p t (M.holds).0 ((M.holds).1).1)))
      where
        T : T1 (suc most) w
        T = W.turn

        M : Is (λ r s. Takes P.p true (sync.Replay (suc t) t) s × ((own_of r ≡ o) × (is_armed timer.Step s.timers ≡ true))) w k
        M = W.member

        cs : List Change
        cs = Last t ∷ Unmark ∷ []

        fit : AllByRecursion Fits (Last t ∷ Unmark ∷ [])
        fit = (omega arith, (tt, tt))

        over : (y : Course) → y.changes ≡ Last t ∷ Unmark ∷ [] → (readings_of (apply (joined (encoded y.changes)) (w.store k))).marked ≡ false
        over y e = ap (λ (xs : List Change). (readings_of (apply (joined (encoded xs)) (w.store k))).marked) e ∙ ap (λ (r : Readings). r.marked) (readings-joined (Last t ∷ Unmark ∷ []) fit (w.store k))

        bearing : (y : Course) → Ends S.ms several k lt_k (shared_entries (w.store k)) (S.clock.event w) t (readings_at w k) y → Bears (w.store k) y
        bearing y A = record {
          tells = A.reads ∙ ap (λ (xs : List Change). played xs (readings_at w k)) (sym A.changes);
          fits = subst (AllByRecursion Fits) (sym A.changes) fit;
          short = λ all. subst (λ (xs : List Change). AllShort longest (apply (joined (encoded xs)) (w.store k))) (sym A.changes) (short_written (Last t ∷ Unmark ∷ []) (w.store k) (puts_end t) all);
          small = λ short L. over_small (apply (joined (encoded y.changes)) (w.store k)) y.state (over y A.changes) short L;
        }

        after : (v : World) → Onward S w v → Did S (Ends S.ms several k lt_k (shared_entries (w.store k)) (S.clock.event w) t (readings_at w k)) w k v → Joined (suc most) o v
        after v on D =
            let A = D.did in
            record {
              turn = turn_k S P k other from D.y T on D.moved (inr (subst (λ (r : Readings). r.last ≤ length P.log) (sym A.reads) within));
              own = ap own_of (D.moved.reads ∙ A.reads) ∙ ap (λ (x : Own). record x { last = t; marked = false; floor = 0 }) ((M.holds).1).0;
            }

    -- ---- from the mark on

    pub copies_whole : (w : World) → Waiting most o w → Can S (1 + (1 + (2 * suc (length entries) + 1))) (Joined (suc most) o) w
    copies_whole w W = then S (grants w W) (λ v1 o1 G. then S (takes G.0 v1 G.1) (λ v2 o2 C. then S (loop (length entries) G.0 key_place.Start v2 C) (λ v3 o3 H. finish v3 H)))
