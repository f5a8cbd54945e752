-- What was said of a log lasts when the log grows.
use Rattle.law_names.proofs.Runs.{AllValues, IsValue, Keeps}
use Rattle.law_names.proofs.Table.{Body, Cell, Entry, KeyPlace, Last, Learn, Op, Place as ChunkPlace, Readings, State, Store, SyncStage, apply, encoded, get, joined, ops_in, retain_keys, text}
use Rattle.log_copies.proofs.Chunks.{ChunkOf, Continues, between}
use Rattle.log_copies.proofs.Learning.{learned}
use Rattle.log_copies.proofs.UnderWay.{InStage, Marked, Noted}
use Rattle.log_copies.specs.Copies.{IsFolded, IsFuzzyCopy, IsRecord}
use Rattle.log_copies.specs.Versions.{HasVersions}
use Rattle.log_model.proofs.Committed.{grown, ops_again, texts}
use Rattle.log_model.proofs.Lists.{length_push}
use Rattle.log_model.proofs.Logs.{IsPrefixOf, entry_push, entry_stays, fold_stays, log_prefix_push}
use Rattle.log_model.proofs.Records.{AreVersions, IsVersion}
use Rattle.mon_bytes.specs.declared.entry.KeyPlace.TheVariants as key_place
use Rattle.mon_msg.specs.declared.synchronization.SyncStage.TheVariants as sync
use Rattle.mon_tx.specs.Map.{Place}
use Rattle.mon_wire.specs.declared.body.Body.TheVariants as body
use Rattle.std.proofs.Common.{List, None, Some, [], ap, arith, inl, inr, length, subst, suc, sym, ℕ, ◌++◌, ◌+◌, ◌<◌, ◌^◌, ◌∙◌, ◌∷◌, ◌≡◌, ◌≤◌, ◌⊎◌}

module _ {log more : List (List ℕ)} (F : IsPrefixOf log more) where
  pub versions_stay : (c : ℕ) (m : Store) → HasVersions log c m → HasVersions more c m
  versions_stay c m V = record { within = (let w = V.within in let s = F.short in omega arith); last = V.last; folded = V.folded ∙ sym (fold_stays F c V.within) }

  pub values_stay : (xs : List (List Op)) (v : ℕ) → v + length xs ≤ length log → AreVersions log (suc v) xs → AreVersions more (suc v) xs
  values_stay [] v le h = tt
  values_stay (x ∷ xs) v le h =
      let one = h.0 in
      let same = entry_stays F (suc v) (omega arith) in
      (record { encodes = same ∙ one.encodes; reads = ap ops_in same ∙ one.reads }, values_stay xs (suc v) (omega arith) h.1)

  folded_stays : (s e : ℕ) → e ≤ length log → (at : Place) (c : Cell) → IsFolded log s e at c → IsFolded more s e at c
  folded_stays s e le at c h =
      record { version = h.version; from = h.from; to = h.to; is = h.is ∙ ap (λ (m : Store). get m at) (sym (fold_stays F h.version (let t = h.to in omega arith))) }

  record_stays : (s e : ℕ) → e ≤ length log → (at : Place) (c : Cell) → IsRecord log s e at c → IsRecord more s e at c
  record_stays s e le at c h = record { version = h.version; from = h.from; to = h.to; place = h.place; is = h.is ∙ ap (λ (x : List ℕ). Some x) (sym (entry_stays F h.version (let t = h.to in omega arith))) }

  pub copy_stays : (s e : ℕ) (x : KeyPlace) (m : Store) → e ≤ length log → IsFuzzyCopy log s e x m → IsFuzzyCopy more s e x m
  copy_stays s e x m le copy = record {
    made = λ at shared here. by at (copy.made at shared here);
    not_yet = λ at shared past. behind at (copy.not_yet at shared past);
  }
    where
      by : (at : Place) → IsFolded log s e at (get m at) ⊎ IsRecord log s e at (get m at) → IsFolded more s e at (get m at) ⊎ IsRecord more s e at (get m at)
      by at (inl h) = inl (folded_stays s e le at _ h)
      by at (inr h) = inr (record_stays s e le at _ h)

      behind : (at : Place) → (get m at ≡ None) ⊎ IsRecord log s e at (get m at) → (get m at ≡ None) ⊎ IsRecord more s e at (get m at)
      behind at (inl h) = inl h
      behind at (inr h) = inr (record_stays s e le at _ h)

  carries_stay : (p : ChunkPlace) (y : KeyPlace) (values : List (List Op)) (entries : List Entry) → Continues log p y values entries → Continues more p y values entries
  carries_stay p y values entries C = record {
    within = (let w = C.within in let s = F.short in omega arith);
    versions = values_stay values p.version C.within C.versions;
    onward = C.onward;
    made = C.made ∙ ap (λ (m : Store). retain_keys m (between p.key y)) (sym (fold_stays F (p.version + length values) C.within));
  }

  pub chunk_stays : (b : Body) → ChunkOf log b → ChunkOf more b
  chunk_stays (body.Chunk cookie p values entries done) h = (carries_stay p _ values entries h.0, h.1)
  chunk_stays (body.LastChunk cookie p values entries last) h = (carries_stay p _ values entries h.0, h.1)
  chunk_stays other h = tt

  -- ---- of a marked monitor, and of one that is finished

  module _ (before : Readings) (floor : ℕ) where
    in_stage_stays : (m : Store) (g : SyncStage) (start : ℕ) (p : ChunkPlace) → InStage log before floor m g start p → InStage more before floor m g start p
    in_stage_stays m sync.Cookie start p h = h
    in_stage_stays m sync.Chunks start p h = record {
      above = h.above;
      order = h.order;
      within = (let w = h.within in let s = F.short in omega arith);
      goes_on = h.goes_on;
      copy = copy_stays start p.version p.key m h.within h.copy;
    }
    in_stage_stays m (sync.Replay next end) start p h = record {
      done = h.done;
      is = h.is;
      above = h.above;
      order = h.order;
      within = (let w = h.within in let s = F.short in omega arith);
      copy = copy_stays h.done end key_place.Done m h.within h.copy;
    }

    noted_stays : (m : Store) → Noted log before floor m → Noted more before floor m
    noted_stays m N = record { numbers = N.numbers; kept_floor = N.kept_floor; marked = N.marked }

    pub marked_stays : (m : Store) (s : State) → Marked log before floor m s → Marked more before floor m s
    marked_stays m s (inl U) = inl (record { in_phase = U.in_phase; full = U.full; noted = noted_stays m U.noted; stage = in_stage_stays m s.requester.stage s.requester.start s.requester.place U.stage })
    marked_stays m s (inr W) = inr (record { in_phase = W.in_phase; noted = noted_stays m W.noted; shaped = W.shaped })

-- ---- a monitor that has the whole log commits one more value, over any store that keeps the log

module _ (log : List (List ℕ)) (room : length log < 2 ^ 62) (all : AllValues log) (w : Readings) (K : Keeps log (length log) w) (at : w.last ≡ length log) (x : List Op) (value : IsValue w x) where
  abbrev pub more : List (List ℕ)
  more = log ++ text x ∷ []

  pub more_values : AllValues more
  more_values = grown log room all w K at x value

  pub new_version : IsVersion more (suc (length log)) x
  new_version = record { encodes = entry_push log (text x); reads = ap ops_in (entry_push log (text x)) ∙ ops_again x (texts log room all w K at x value) }

  pub committed : (m : Store) → HasVersions log (length log) m → HasVersions more (suc (length log)) (apply (joined (encoded (Learn (suc (length log)) x ∷ Last (suc (length log)) ∷ []))) m)
  committed m V =
      let long = length_push log (text x) in
      let same : suc (length log) + 0 ≡ suc (length log) = omega arith in
      subst (λ (e : ℕ). HasVersions more e (apply (joined (encoded (Learn (suc (length log)) x ∷ Last e ∷ []))) m)) same
      (learned more (omega (arith, long)) more_values (length log) m (versions_stay (log_prefix_push log (text x)) (length log) m V) x [] (new_version, tt) (omega (arith, long)))
