-- One member copies the versions that it lacks from another one.
use Rattle.calm_sizes.proofs.Records.{entry_short}
use Rattle.calm_sizes.proofs.Stores.{ChangeShort}
use Rattle.law_names.proofs.Runs.{AllValues, World}
use Rattle.law_names.proofs.Table.{AllByRecursion, Body, Change, Cookie, Course, Fits, Op, Place, Readings, State, Store, chunk, epoch_of, has, is_after, played, readings_of, record_at, shared_entries, text}
use Rattle.log_model.proofs.Records.{AreVersions, version_spares}
use Rattle.mon_bytes.specs.declared.entry.KeyPlace.TheVariants as key_place
use Rattle.mon_msg.specs.declared.synchronization.SyncStage.TheVariants as sync
use Rattle.mon_wire.specs.declared.body.Body.TheVariants as body
use Rattle.quorum_elects.proofs.Can.{Can, New, Onward, Scope, reached_holds, rests, then, weaker}
use Rattle.quorum_elects.proofs.Moving.{Did, Sound}
use Rattle.quorum_elects.proofs.Standing.{Is, letter}
use Rattle.quorum_elects.proofs.Steps.{is_now, is_stays}
use Rattle.quorum_elects.proofs.Walking.{weaken}
use Rattle.quorum_laws.specs.Accepting.{readings_at}
use Rattle.quorum_near.proofs.Whole.{Holds}
use Rattle.quorum_recovers.proofs.Known.{message_tells}
use Rattle.quorum_rejoins.proofs.Copying.{Mail, T1}
use Rattle.quorum_rejoins.proofs.Events.{deliver}
use Rattle.quorum_rejoins.proofs.Giving.{Gives as GivesChunk, Grants, gives, grants_recent, held_set, next_cookie}
use Rattle.quorum_rejoins.proofs.Learning.{IsPlain, Learns, Stops, learns_chunk, learns_last}
use Rattle.quorum_rejoins.proofs.Progress.{BringsValues, brings_values}
use Rattle.quorum_rejoins.proofs.Taking.{Asked, Chunks, Takes, takes_cookie}
use Rattle.quorum_rejoins.proofs.Turns.{AddsNone, Gives, Provider, turn_k, turn_p}
use Rattle.quorum_walk.proofs.Sparing.{Own, own_of}
use Rattle.std.proofs.Common.{List, None, Some, [], ap, arith, false, filter, inl, inr, length, ltb, refl, slice_index_or, subst, suc, sym, true, zero, ℕ, ◌*◌, ◌+◌, ◌-◌, ◌<◌, ◌^◌, ◌∙◌, ◌∷◌, ◌≡◌, ◌≤◌, ◌⊎◌}
use Rattle.std.proofs.lemmas.List.{length-set}

-- versions of a log leave a monitor's own numbers, and are short
plain_all : (log : List (List ℕ)) (fits : length log ≤ 2 ^ 62) (all : AllValues log) (xs : List (List Op)) (v : ℕ) → v + length xs ≤ length log → AreVersions log (suc v) xs → AllByRecursion IsPlain xs
plain_all log fits all [] v le h = tt
plain_all log fits all (x ∷ xs) v le h = (
  (version_spares log fits all v (omega arith) x h.0, (let e = entry_short log fits all v (omega arith) in let s = ap length h.0.encodes in omega arith)),
  plain_all log fits all xs (suc v) (omega arith) h.1,
)

-- values that come are of the log
record AreFine (log : List (List ℕ)) (v : ℕ) (values : List (List Op)) : Type 0 where
  within : v + length values ≤ length log
  plain : AllByRecursion IsPlain values

-- a course of an unmarked monitor that writes nothing is sound
pub nothing : (w : Readings) (y : Course) → y.changes ≡ [] → y.readings ≡ w → w.marked ≡ false → Sound w y
nothing w y still reads unmarked = record {
  tells = reads ∙ ap (λ (cs : List Change). played cs w) (sym still);
  fits = subst (AllByRecursion Fits) (sym still) tt;
  short = subst (AllByRecursion ChangeShort) (sym still) tt;
  unmarked = ap (λ (r : Readings). r.marked) reads ∙ unmarked;
}

module _ (S : Scope) (several : 1 < S.ms.count) (P : Provider S) (k : ℕ) (other : k ≡ P.p → ⊥) (from : World) (lt_k : ltb k S.ms.count ≡ true) (in_k : has S.q k ≡ true) (lt_p : ltb P.p S.ms.count ≡ true) (in_p : has S.q P.p ≡ true) where
  abbrev n : ℕ
  n = S.ms.count

  abbrev t : ℕ
  t = (readings_of P.given).last

  abbrev Turn1 : ℕ → World → Type 0
  Turn1 most w = T1 S several P k other from lt_k in_k lt_p in_p most w

  abbrev Mail1 : ℕ → ℕ → Body → World → Type 0
  Mail1 f g b w = Mail S several P k other from lt_k in_k lt_p in_p f g b w

  abbrev place_at : ℕ → Place
  place_at v = record { version = v; key = key_place.Done }

  -- it waits for a cookie
  pub record Waiting (most : ℕ) (o : Own) (w : World) : Type 0 where
    pub turn : Turn1 most w
    pub member : Is (λ r s. Takes P.p false sync.Cookie s × (own_of r ≡ o)) w k
    pub asks : Mail1 k P.p (body.GetCookieRecent o.last) w

  pub record Granted (most : ℕ) (o : Own) (c : Cookie) (w : World) : Type 0 where
    pub turn : Turn1 most w
    pub held : slice_index_or turn.state.provider.cookies k None ≡ Some c
    pub member : Is (λ r s. Takes P.p false sync.Cookie s × (own_of r ≡ o)) w k
    pub offer : Mail1 P.p k (body.Cookie false c t) w

  -- it has versions up to v, and takes chunks from there on
  pub record InChunks (most : ℕ) (o : Own) (c : Cookie) (v : ℕ) (w : World) : Type 0 where
    pub turn : Turn1 most w
    pub held : slice_index_or turn.state.provider.cookies k None ≡ Some c
    pub member : Is (λ r s. Chunks P.p false c o.last (place_at v) s × (own_of r ≡ record o { last = v })) w k
    pub low : (readings_of P.given).first ≤ suc v
    pub high : v ≤ length P.log

  pub record Chunking (most : ℕ) (o : Own) (c : Cookie) (v m : ℕ) (w : World) : Type 0 where
    pub stands : InChunks most o c v w
    pub asks : Mail1 k P.p (body.GetChunk c (place_at v)) w
    pub left : t ≤ v + m

  pub record Offered (most : ℕ) (o : Own) (c : Cookie) (v : ℕ) (w : World) : Type 0 where
    pub stands : InChunks most o c v w
    pub offer : Mail1 P.p k (chunk t c (place_at v) (filter (is_after key_place.Done) (shared_entries P.given)) n (readings_of P.given).record_of) w

  -- it has at least the versions of the provider
  pub record Joined (most : ℕ) (o : Own) (w : World) : Type 0 where
    pub turn : Turn1 most w
    pub last : ℕ
    pub reached : t ≤ last
    pub within : last ≤ length P.log
    pub own : own_of (readings_at w k) ≡ record o { last = last }

  module _ (few : k < 15) (unmarked : (readings_of P.given).marked ≡ false) (short : length P.log < 2 ^ 62)
      (there : (v : ℕ) → (readings_of P.given).first ≤ suc v → v < (readings_of P.given).last → (x : List Op) × (record_at (readings_of P.given).record_of (suc v) ≡ Some x) × (length (text x) ≤ 524288))
      (most : ℕ) (room : suc most ≤ 2 ^ 62) (o : Own) (plain : o.marked ≡ false) (begins : o.last ≤ length P.log) (low : (readings_of P.given).first ≤ suc o.last) where
    unmarked_now : {less : ℕ} (w : World) → Turn1 less w → (readings_of (w.store P.p)).marked ≡ false
    unmarked_now w T = ap (λ (m : Store). (readings_of m).marked) T.given ∙ unmarked

    -- ---- a cookie

    grants : (w : World) → Waiting most o w → Can S 1 (λ v. (c : Cookie) × Granted (suc most) o c v) w
    grants w W = weaker S (omega arith) after
        (deliver S w T.room P.p lt_p in_p (Grants S.ms several P.p lt_p (shared_entries (w.store P.p)) (S.clock.event w) k false (readings_at w P.p) T.state) (letter n k (W.asks).0 (body.GetCookieRecent o.last)) (W.asks).1 T.state T.up
        (grants_recent S.ms several P.p lt_p (shared_entries (w.store P.p)) (S.clock.event w) (readings_at w P.p) T.state k (W.asks).0 o.last other (unmarked_now w T) G.runs (let z = G.next in omega arith) (subst (λ (m : Store). (readings_of m).first ≤ suc o.last) (sym T.given) low)))
      where
        T : Turn1 most w
        T = W.turn

        G : Gives most T.state
        G = T.gives

        c : Cookie
        c = next_cookie S.ms several P.p lt_p (shared_entries (w.store P.p)) (S.clock.event w) (readings_at w P.p) T.state

        after : (v : World) → Onward S w v → Did S (Grants S.ms several P.p lt_p (shared_entries (w.store P.p)) (S.clock.event w) k false (readings_at w P.p) T.state) w P.p v → (c : Cookie) × Granted (suc most) o c v
        after v on D = (
          c,
          record {
            turn = turn_p S P k other from (suc most) D.y T on D.moved D.did.still (subst (Gives (suc most)) (sym D.did.state) (record { runs = G.runs; long = length-set T.state.provider.cookies k (Some c) ∙ G.long; next = (let z = G.next in omega arith) }));
            held = subst (λ (s : State). slice_index_or s.provider.cookies k None ≡ Some c) (sym D.did.state) (held_set T.state.provider.cookies k (Some c) (let z = G.long in omega arith));
            member = is_stays (λ r s. Takes P.p false sync.Cookie s × (own_of r ≡ o)) w v k (D.moved.others k other) W.member;
            offer = (epoch_of (readings_at w P.p), subst (λ (m : Store). New S.sent v (record { to = k; message = letter n P.p (epoch_of (readings_at w P.p)) (body.Cookie false c (readings_of m).last) })) T.given (D.moved.says k (letter n P.p (epoch_of (readings_at w P.p)) (body.Cookie false c (readings_at w P.p).last)) D.did.says));
          },
        )

    takes : (c : Cookie) (w : World) → Granted (suc most) o c w → Can S 1 (Chunking (suc most) o c o.last (t - o.last)) w
    takes c w W = weaker S (omega arith) after
        (deliver S w T.room k lt_k in_k (Asked S.ms several k lt_k (shared_entries (w.store k)) (S.clock.event w) P.p false c (place_at (readings_at w k).last) (readings_at w k)) (letter n P.p (W.offer).0 (body.Cookie false c t)) (W.offer).1 M.state M.up
        (weaken (Asked S.ms several k lt_k (shared_entries (w.store k)) (S.clock.event w) P.p false c (place_at (readings_at w k).last) (readings_at w k)) _ _ (λ y A. (sound y A, A))
        (takes_cookie S.ms several k lt_k (shared_entries (w.store k)) (S.clock.event w) (readings_at w k) M.state P.p (W.offer).0 false c t (λ e. other (sym e)) (M.holds).0 refl)))
      where
        T : Turn1 (suc most) w
        T = W.turn

        M : Is (λ r s. Takes P.p false sync.Cookie s × (own_of r ≡ o)) w k
        M = W.member

        at : (readings_at w k).last ≡ o.last
        at = ap (λ (x : Own). x.last) (M.holds).1

        sound : (y : Course) → Asked S.ms several k lt_k (shared_entries (w.store k)) (S.clock.event w) P.p false c (place_at (readings_at w k).last) (readings_at w k) y → Sound (readings_at w k) y
        sound y A = nothing (readings_at w k) y A.still A.reads (ap (λ (x : Own). x.marked) (M.holds).1 ∙ plain)

        after : (v : World) → Onward S w v → Did S (Asked S.ms several k lt_k (shared_entries (w.store k)) (S.clock.event w) P.p false c (place_at (readings_at w k).last) (readings_at w k)) w k v → Chunking (suc most) o c o.last (t - o.last) v
        after v on D =
            let A = D.did in
            let own : own_of D.y.readings ≡ o = ap own_of A.reads ∙ (M.holds).1 in
            record {
              stands = record {
                turn = turn_k S P k other from D.y T on D.moved (inr (subst (λ (l : ℕ). l ≤ length P.log) (sym (ap (λ (x : Own). x.last) own)) begins));
                held = W.held;
                member = is_now S (λ r s. Chunks P.p false c o.last (place_at o.last) s × (own_of r ≡ record o { last = o.last })) w v k D.y D.moved (subst (λ (l : ℕ). Chunks P.p false c l (place_at l) D.y.state) at A.chunks, own);
                low = low;
                high = begins;
              };
              asks = (epoch_of (readings_at w k), subst (λ (l : ℕ). New S.sent v (record { to = P.p; message = letter n k (epoch_of (readings_at w k)) (body.GetChunk c (place_at l)) })) at (D.moved.says P.p (letter n k (epoch_of (readings_at w k)) (body.GetChunk c (place_at (readings_at w k).last))) A.says));
              left = omega arith;
            }

    -- ---- chunks

    give : (c : Cookie) (v m : ℕ) (w : World) → Chunking (suc most) o c v m w → Can S 1 (Offered (suc most) o c v) w
    give c v m w C = weaker S (omega arith) after
        (deliver S w T.room P.p lt_p in_p (R (w.store P.p)) (letter n k (C.asks).0 (body.GetChunk c (place_at v))) (C.asks).1 T.state T.up
        (gives S.ms several P.p lt_p (shared_entries (w.store P.p)) (S.clock.event w) (readings_at w P.p) T.state k (C.asks).0 c (place_at v) other (unmarked_now w T) G.runs Z.held (subst (λ (m : Store). (readings_of m).first ≤ suc v) (sym T.given) Z.low)))
      where
        Z : InChunks (suc most) o c v w
        Z = C.stands

        T : Turn1 (suc most) w
        T = Z.turn

        G : Gives (suc most) T.state
        G = T.gives

        R : Store → Course → Type 0
        R m = GivesChunk S.ms several P.p lt_p (shared_entries (w.store P.p)) (S.clock.event w) k (chunk (readings_of m).last c (place_at v) (filter (is_after key_place.Done) (shared_entries m)) n (readings_of m).record_of) (readings_at w P.p) T.state

        after : (u : World) → Onward S w u → Did S (R (w.store P.p)) w P.p u → Offered (suc most) o c v u
        after u on D = record {
          stands = record {
            turn = turn_p S P k other from (suc most) D.y T on D.moved D.did.still (subst (Gives (suc most)) (sym D.did.state) G);
            held = subst (λ (s : State). slice_index_or s.provider.cookies k None ≡ Some c) (sym D.did.state) Z.held;
            member = is_stays (λ r s. Chunks P.p false c o.last (place_at v) s × (own_of r ≡ record o { last = v })) w u k (D.moved.others k other) Z.member;
            low = Z.low;
            high = Z.high;
          };
          offer = (
            epoch_of (readings_at w P.p),
            subst (λ (m : Store). New S.sent u (record { to = k; message = letter n P.p (epoch_of (readings_at w P.p)) (chunk (readings_of m).last c (place_at v) (filter (is_after key_place.Done) (shared_entries m)) n (readings_of m).record_of) })) T.given
                (D.moved.says k (letter n P.p (epoch_of (readings_at w P.p)) (chunk (readings_at w P.p).last c (place_at v) (filter (is_after key_place.Done) (shared_entries (w.store P.p))) n (readings_at w P.p).record_of)) D.did.says),
          );
        }

    -- member k has all versions of the provider, or more of them than before
    abbrev Took : Cookie → ℕ → World → Type 0
    Took c v u = Joined (suc most) o u ⊎ ((x : ℕ) × Chunking (suc most) o c x (t - x) u × (v < x) × (x < t))

    take : (c : Cookie) (v : ℕ) (w : World) → Offered (suc most) o c v w → Can S 1 (Took c v) w
    take c v w F = by B.is
      where
        Z : InChunks (suc most) o c v w
        Z = F.stands

        T : Turn1 (suc most) w
        T = Z.turn

        H : Holds S.ms several w
        H = let R = T.room in reached_holds S.ms several w R.reached

        M : Is (λ r s. Chunks P.p false c o.last (place_at v) s × (own_of r ≡ record o { last = v })) w k
        M = Z.member

        unmarked_k : (readings_at w k).marked ≡ false
        unmarked_k = ap (λ (x : Own). x.marked) (M.holds).1 ∙ plain

        at : (readings_at w k).last ≡ v
        at = ap (λ (x : Own). x.last) (M.holds).1

        B : BringsValues t c v (chunk t c (place_at v) (filter (is_after key_place.Done) (shared_entries P.given)) n (readings_of P.given).record_of)
        B = brings_values t c v (filter (is_after key_place.Done) (shared_entries P.given)) n (readings_of P.given).record_of (there v Z.low)

        mail : (b : Body) → chunk t c (place_at v) (filter (is_after key_place.Done) (shared_entries P.given)) n (readings_of P.given).record_of ≡ b → New S.sent w (record { to = k; message = letter n P.p (F.offer).0 b })
        mail b e = subst (λ (z : Body). New S.sent w (record { to = k; message = letter n P.p (F.offer).0 z })) e (F.offer).1

        Fine : Type 0
        Fine = AreFine P.log v B.values

        fine_by : v + length B.values ≤ length w.log → AreVersions w.log (suc v) B.values → Fine
        fine_by le V = let O = H.0.1 in record { within = subst (λ (l : List (List ℕ)). v + length B.values ≤ length l) T.log le; plain = plain_all w.log O.short O.values B.values v le V }

        fine_last : New S.sent w (record { to = k; message = letter n P.p (F.offer).0 (body.LastChunk c (place_at v) B.values [] t) }) → Fine
        fine_last N = let C = (message_tells S.ms several w H N).0 in fine_by C.within C.versions

        fine_chunk : New S.sent w (record { to = k; message = letter n P.p (F.offer).0 (body.Chunk c (place_at v) B.values [] true) }) → Fine
        fine_chunk N = let C = (message_tells S.ms several w H N).0 in fine_by C.within C.versions

        own_then : (r : Readings) → own_of r ≡ record (own_of (readings_at w k)) { last = v + length B.values } → own_of r ≡ record o { last = v + length B.values }
        own_then r e = e ∙ ap (λ (x : Own). record x { last = v + length B.values }) (M.holds).1

        adds : (X : Fine) (r : Readings) → own_of r ≡ record o { last = v + length B.values } → AddsNone P.log r
        adds X r e = inr (subst (λ (l : ℕ). l ≤ length P.log) (sym (ap (λ (x : Own). x.last) e)) X.within)

        last_then : Fine → t ≤ v + length B.values → (u : World) → Onward S w u → Did S (Stops S.ms several k lt_k (shared_entries (w.store k)) (S.clock.event w) v B.values (readings_at w k)) w k u → Took c v u
        last_then X reached u on D =
            let own = own_then D.y.readings D.did.own in
            inl (record { turn = turn_k S P k other from D.y T on D.moved (adds X D.y.readings own); last = v + length B.values; reached = reached; within = X.within; own = ap own_of D.moved.reads ∙ own })

        chunk_then : Fine → v + length B.values < t → (x : List Op) (xs : List (List Op)) → B.values ≡ x ∷ xs → (u : World) → Onward S w u → Did S (Learns S.ms several k lt_k (shared_entries (w.store k)) (S.clock.event w) P.p c o.last v B.values (readings_at w k)) w k u → Took c v u
        chunk_then X less x xs some u on D =
            let A = D.did in
            let own = own_then D.y.readings A.own in
            inr (
              v + length B.values,
              record {
                stands = record {
                  turn = turn_k S P k other from D.y T on D.moved (adds X D.y.readings own);
                  held = Z.held;
                  member = is_now S (λ r s. Chunks P.p false c o.last (place_at (v + length B.values)) s × (own_of r ≡ record o { last = v + length B.values })) w u k D.y D.moved (A.chunks, own);
                  low = (let z = Z.low in omega arith);
                  high = X.within;
                };
                asks = (epoch_of D.y.readings, D.moved.says P.p (letter n k (epoch_of D.y.readings) (body.GetChunk c (place_at (v + length B.values)))) A.says);
                left = omega arith;
              },
              (let e = ap length some in omega arith),
              less,
            )

        last_goes : (N : New S.sent w (record { to = k; message = letter n P.p (F.offer).0 (body.LastChunk c (place_at v) B.values [] t) })) → t ≤ v + length B.values → Fine → Can S 1 (Took c v) w
        last_goes N reached X = weaker S (omega arith) (last_then X reached)
            (deliver S w T.room k lt_k in_k (Stops S.ms several k lt_k (shared_entries (w.store k)) (S.clock.event w) v B.values (readings_at w k)) (letter n P.p (F.offer).0 (body.LastChunk c (place_at v) B.values [] t)) N M.state M.up
            (learns_last S.ms several k lt_k (shared_entries (w.store k)) (S.clock.event w) (readings_at w k) M.state P.p (F.offer).0 c o.last v B.values t (λ e. other (sym e)) (M.holds).0 unmarked_k at X.plain (let z = X.within in omega arith)))

        chunk_goes : (N : New S.sent w (record { to = k; message = letter n P.p (F.offer).0 (body.Chunk c (place_at v) B.values [] true) })) → v + length B.values < t → (x : List Op) (xs : List (List Op)) → B.values ≡ x ∷ xs → Fine → Can S 1 (Took c v) w
        chunk_goes N less x xs some X = weaker S (omega arith) (chunk_then X less x xs some)
            (deliver S w T.room k lt_k in_k (Learns S.ms several k lt_k (shared_entries (w.store k)) (S.clock.event w) P.p c o.last v B.values (readings_at w k)) (letter n P.p (F.offer).0 (body.Chunk c (place_at v) B.values [] true)) N M.state M.up
            (learns_chunk S.ms several k lt_k (shared_entries (w.store k)) (S.clock.event w) (readings_at w k) M.state P.p (F.offer).0 c o.last v B.values (λ e. other (sym e)) (M.holds).0 unmarked_k at X.plain (let z = X.within in omega arith)))

        by : ((chunk t c (place_at v) (filter (is_after key_place.Done) (shared_entries P.given)) n (readings_of P.given).record_of ≡ body.LastChunk c (place_at v) B.values [] t) × (t ≤ v + length B.values))
            ⊎ ((chunk t c (place_at v) (filter (is_after key_place.Done) (shared_entries P.given)) n (readings_of P.given).record_of ≡ body.Chunk c (place_at v) B.values [] true) × (v + length B.values < t) × ((x : List Op) × (xs : List (List Op)) × (B.values ≡ x ∷ xs))) → Can S 1 (Took c v) w
        by (inl last) = let N = mail (body.LastChunk c (place_at v) B.values [] t) last.0 in last_goes N last.1 (fine_last N)
        by (inr more) = let N = mail (body.Chunk c (place_at v) B.values [] true) more.0 in chunk_goes N more.1 (more.2).0 (more.2).1 (more.2).2 (fine_chunk N)

    -- it can lack none
    over : (c : Cookie) (v : ℕ) (u : World) → t ≤ v + 0 → Took c v u → Can S 0 (Joined (suc most) o) u
    over c v u few (inl J) = rests S J
    over c v u few (inr Z) = absurd (let a = Z.2 in let b = Z.3 in omega arith)

    goes_on : (m : ℕ) (c : Cookie) (v : ℕ) (u : World) → t ≤ v + suc m → ((x : ℕ) (z : World) → Chunking (suc most) o c x m z → Can S (2 * suc m) (Joined (suc most) o) z) → Took c v u → Can S (2 * suc m) (Joined (suc most) o) u
    goes_on m c v u few next (inl J) = rests S J
    goes_on m c v u few next (inr Z) = let C = Z.1 in next Z.0 u (record { stands = C.stands; asks = C.asks; left = (let z = Z.2 in omega arith) })

    -- each chunk brings at least one of the versions that it lacks
    loop : (m : ℕ) (c : Cookie) (v : ℕ) (w : World) → Chunking (suc most) o c v m w → Can S (2 * suc m) (Joined (suc most) o) w
    loop zero c v w C = weaker S (omega arith) (λ u on p. p) (then S (then S (give c v zero w C) (λ u on F. take c v u F)) (λ u on R. over c v u C.left R))
    loop (suc m) c v w C = weaker S (omega arith) (λ u on p. p) (then S (then S (give c v (suc m) w C) (λ u on F. take c v u F)) (λ u on R. goes_on m c v u C.left (λ x z D. loop m c x z D) R))

    pub copies_recent : (w : World) → Waiting most o w → Can S (1 + (1 + 2 * suc (t - o.last))) (Joined (suc most) o) w
    copies_recent w W = then S (grants w W) (λ v1 o1 G. then S (takes G.0 v1 G.1) (λ v2 o2 C. loop (t - o.last) G.0 o.last v2 C))
