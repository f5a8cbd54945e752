-- A chunk, by its parts.
use Rattle.std.proofs.Common.{◌≡◌, ℕ, zero, suc, ◌+◌, ◌≤◌, ◌<◌, Bool, true, false, not, ◌&&◌, ◌||◌, cond, eqb, leb, List, [], ◌∷◌, length, map, take, refl, sym, ap, subst, ◌∙◌, arith}
use Rattle.std.specs.Prelude.{sum_by}
use Rattle.std.proofs.lemmas.Bool.{and_parts, le-leb, leb-true, lt-leb, ne_eqb}
use Rattle.std.proofs.lemmas.List.{take_all}
use Rattle.mon_bytes.specs.declared.entry.Entry.{Entry}
use Rattle.mon_bytes.specs.declared.entry.KeyPlace.TheVariants as key_place
use Rattle.mon_bytes.specs.declared.entry.KeyPlace.{KeyPlace}
use Rattle.mon_kv.specs.Chunks.{IsLongestRun, run_of, shared_after}
use Rattle.mon_kv.specs.declared.chunk.KeyRun.{KeyRun}
use Rattle.mon_msg.specs.Protocol.Length.{fits}
use Rattle.mon_msg.specs.Protocol.Parts.{entry_length, place_length, value_length}
use Rattle.mon_msg.specs.Protocol.Places.{is_done}
use Rattle.mon_msg.specs.Protocol.Providing.{chunk, chunk_with, given_entries, given_values, is_finished, reach}
use Rattle.mon_msg.specs.Protocol.Readings.{shared_entries}
use Rattle.mon_msg.specs.Protocol.Records.{longest, run_from}
use Rattle.mon_msg.proofs.Fitting.{besides_entries, besides_records, given_entries-is, given_values-is}
use Rattle.mon_msg.proofs.Runs.{have_room, longest_is}
use Rattle.mon_tx.specs.Decision.{Cell}
use Rattle.mon_tx.specs.Map.{Store}
use Rattle.mon_tx.specs.declared.op.Op.{Op}
use Rattle.mon_wire.specs.declared.body.Body.TheVariants as body
use Rattle.mon_wire.specs.declared.body.Body.{Body}
use Rattle.mon_wire.specs.declared.parts.Cookie.{Cookie}
use Rattle.mon_wire.specs.declared.parts.Place.{Place}
use Rattle.sync_provider.specs.Rows.{remaining_after}
use Rattle.sync_provider.specs.Taken.{IsGiven, IsTaken, takes}
use Rattle.sync_provider.proofs.GivenLaws.{map_plain}
use Rattle.sync_provider.proofs.SharedLaws.{Entries, entry_of, filter_none, left-shared}

-- ---- no entries

empty_run : (all : Entries) → run_of 0 0 all ≡ []
empty_run [] = refl
empty_run (e ∷ all) = refl

module _ (m : Store) (p : Place) (run : KeyRun) (l : IsLongestRun (shared_after m p.key) 0 0 run) where
  pub none-items : run.entries.items ≡ []
  none-items = sym (map_plain run.entries.items) ∙ ap (map entry_of) (l.entries ∙ empty_run (shared_after m p.key))

  counted : run.done ≡ leb (length (remaining_after m p.key)) 0
  counted =
      l.done ∙ ap (λ (es : List Entry). eqb (length es) (length (shared_after m p.key))) none-items
      ∙ by (shared_after m p.key) ∙ sym (ap (λ (es : List Entry). leb (length es) 0) (left-shared m p.key))
    where
      by : (all : Entries) → eqb 0 (length all) ≡ leb (length (map entry_of all)) 0
      by [] = refl
      by (e ∷ all) = ne_eqb 0 (length (e ∷ all)) (λ h. omega (arith, h)) ∙ sym (lt-leb (length (map entry_of (e ∷ all))) 0 (omega arith))

  -- whether no entry is left after the place
  pub none-done : run.done ≡ is_finished p (remaining_after m p.key) []
  none-done = by p.key refl
    where
      by : (k : KeyPlace) → p.key ≡ k → run.done ≡ (is_done p.key || leb (length (remaining_after m p.key)) 0)
      by key_place.Start e = counted ∙ ap (λ (k : KeyPlace). is_done k || leb (length (remaining_after m p.key)) 0) (sym e)
      by (key_place.After prefix key) e = counted ∙ ap (λ (k : KeyPlace). is_done k || leb (length (remaining_after m p.key)) 0) (sym e)
      by key_place.Done e =
          counted ∙ (λ i. leb (length (remaining_after m (e i))) 0) ∙ ap (λ (es : List Entry). leb (length es) 0) (filter_none (shared_entries m))
          ∙ sym (ap (λ (k : KeyPlace). is_done k || leb (length (remaining_after m p.key)) 0) e)

-- ---- the entries of a chunk

module _ (last n : ℕ) (c : Cookie) (m : Store) (p : Place) (values : List (List Op)) (run : KeyRun) where
  abbrev left : List Entry
  left = remaining_after m p.key

  pub given-none : reach last p values ≡ false → IsLongestRun (shared_after m p.key) 0 0 run → IsGiven last c p left n values run
  given-none h l = record {
    entries = none-items m p run l ∙ sym (ap (λ b. cond (b && not (is_done p.key)) (longest (λ entries. fits n (chunk_with last c p left values entries)) left) []) h);
    done = none-done m p run l ∙ ap (is_finished p left) (sym (none-items m p run l));
  }

  -- if the values reach the last version, and the place isn't after all entries
  same_room : (bytes : ℕ) → bytes ≡ place_length p + sum_by value_length values → reach last p values ≡ true → is_done p.key ≡ false → (entries : List Entry)
      → have_room entry_length (besides_entries last c p left values) 1048576 entries ≡ takes left bytes entries
  same_room bytes size h k entries =
      (λ i. leb (cond (h i && (k i || leb (length left) (length entries))) 40 33 + place_length p + sum_by value_length values + sum_by entry_length entries) 1048576 && leb (length entries) 65535)
      ∙ ap (λ l. leb l 1048576 && leb (length entries) 65535) (by (cond (leb (length left) (length entries)) 40 33))
    where
      by : (b : ℕ) → b + place_length p + sum_by value_length values + sum_by entry_length entries ≡ b + bytes + sum_by entry_length entries
      by b = omega (arith, size)

  pub given-some : (bytes : ℕ) → bytes ≡ place_length p + sum_by value_length values → length values ≤ 65535 → reach last p values ≡ true → IsTaken left bytes run → IsGiven last c p left n values run
  given-some bytes size few h t = by p.key refl
    where
      open_place : is_done p.key ≡ false → IsGiven last c p left n values run
      open_place k = record {
        entries = t.entries ∙ sym (given_entries-is last c p left n values (le-leb (length values) 65535 few) (λ i. h i && not (k i)) ∙ (λ i. longest (λ entries. same_room bytes size h k entries i) left));
        done = t.done ∙ ap (λ b. b || leb (length left) (length run.entries.items)) (sym k);
      }

      by : (k : KeyPlace) → p.key ≡ k → IsGiven last c p left n values run
      by key_place.Start e = open_place (ap is_done e)
      by (key_place.After prefix key) e = open_place (ap is_done e)
      by key_place.Done e =
          let behind : left ≡ [] = ap (remaining_after m) e ∙ filter_none (shared_entries m) in
          record {
            entries = t.entries ∙ ap (λ (es : List Entry). longest (takes es bytes) es) behind
                ∙ sym (λ i. cond (h i && not (is_done (e i))) (longest (λ entries. fits n (chunk_with last c p left values entries)) left) []);
            done = t.done ∙ ap (λ (es : List Entry). leb (length es) (length run.entries.items)) behind ∙ le-leb 0 (length run.entries.items) (omega arith)
                ∙ sym (ap (λ (k : KeyPlace). is_done k || leb (length left) (length run.entries.items)) e);
          }

-- ---- what is taken of records has room

room-of : {A : Type 0} (size : A → ℕ) (besides : List A → ℕ) (room : ℕ) (whole found : List A) → found ≡ longest (have_room size besides room) whole → sum_by size found ≤ room
room-of {A} size besides room whole found is = by found (length found) refl (λ k below. subst (λ (xs : List A). have_room size besides room (take (suc k) xs) ≡ true) (sym is) ((longest_is (have_room size besides room) whole).passes k (subst (λ (xs : List A). k < length xs) is below)))
  where
    by : (xs : List A) (n : ℕ) → length xs ≡ n → ((k : ℕ) → k < length xs → have_room size besides room (take (suc k) xs) ≡ true) → sum_by size xs ≤ room
    by [] n l h = omega arith
    by (x ∷ xs) zero l h = absurd (omega (arith, l))
    by (x ∷ xs) (suc n) l h =
        let test = ap (have_room size besides room) (sym (take_all (suc n) (x ∷ xs) (omega (arith, l)))) ∙ h n (omega (arith, l)) in
        let le = leb-true (besides (x ∷ xs) + sum_by size (x ∷ xs)) room (and_parts (leb (besides (x ∷ xs) + sum_by size (x ∷ xs)) room) (leb (length (x ∷ xs)) 65535) test).0 in
        omega (arith, le)

pub given-short : (last n : ℕ) (c : Cookie) (p : Place) (left : List Entry) (records : ℕ → Cell) (values : List (List Op)) → values ≡ given_values last c p left n records → sum_by value_length values ≤ 1048576
given-short last n c p left records values is =
    room-of value_length (besides_records last c p left) 1048576 (run_from records last (suc p.version)) values (is ∙ given_values-is last c p left n records)

-- ---- the chunk

module _ (last n : ℕ) (c : Cookie) (p : Place) (left : List Entry) (records : ℕ → Cell) (values : List (List Op)) (run : KeyRun)
    (is : values ≡ given_values last c p left n records) (given : IsGiven last c p left n values run) where
  parts : chunk last c p left n records ≡ chunk_with last c p left values run.entries.items
  unfolding chunk
  parts = (λ i. chunk_with last c p left (sym is i) (given_entries last c p left n (sym is i))) ∙ ap (chunk_with last c p left values) (sym given.entries)

  abbrev chosen : Bool → Bool → Body
  chosen all finished = cond all (body.LastChunk c p values run.entries.items last) (body.Chunk c p values run.entries.items finished)

  pub chunk-last : (reach last p values && run.done) ≡ true → body.LastChunk c p values run.entries.items last ≡ chunk last c p left n records
  chunk-last h = sym (parts ∙ (λ i. chosen (reach last p values && sym given.done i) (sym given.done i)) ∙ ap (λ b. chosen b run.done) h)

  pub chunk-more : (reach last p values && run.done) ≡ false → body.Chunk c p values run.entries.items run.done ≡ chunk last c p left n records
  chunk-more h = sym (parts ∙ (λ i. chosen (reach last p values && sym given.done i) (sym given.done i)) ∙ ap (λ b. chosen b run.done) h)
