-- The chunk that a monitor of the log gives carries a copy on.
use Rattle.law_names.proofs.Runs.{AllValues, first_read, log_from}
use Rattle.law_names.proofs.Table.{AllByRecursion, Cell, Cookie, Entry, KeyPlace, Op, Place as ChunkPlace, Store, after_entries, apply, cell, chunk, chunk_with, copy_changes, empty, encoded, entries, find, fits, fold, get, given_values, is_after, is_done, is_finished, is_sorted, longest, number, number_in, place, place_cmp, reach, readings_of, run_from, same_map, shared, shared_entries}
use Rattle.log_copies.proofs.Chunks.{ChunkOf, Continues, IsOpen, between}
use Rattle.log_copies.proofs.Ordered.{AllPast, all_at, entry_of, find_front, made_of, onward, past_entry, past_up, rest_past}
use Rattle.log_copies.specs.Copies.{is_past}
use Rattle.log_model.proofs.Committed.{keeps, keeps_shared}
use Rattle.log_model.proofs.FoldKeys.{greatest_is}
use Rattle.log_model.proofs.Places.{get_kept}
use Rattle.log_model.proofs.Records.{AreVersions, first_versions, keeps_held, run_from_length, run_versions}
use Rattle.log_model.proofs.RowReadings.{none_read}
use Rattle.log_model.proofs.SharedEntries.{Pair, each_found}
use Rattle.map_kv.proofs.Pairs.{both, first, second}
use Rattle.mon_bytes.specs.declared.entry.KeyPlace.TheVariants as key_place
use Rattle.mon_msg.proofs.Runs.{longest_is}
use Rattle.mon_msg.specs.Protocol.Records.{IsLongest}
use Rattle.mon_tx.proofs.Places.{exact_places, places_total}
use Rattle.mon_tx.specs.Map.{Place}
use Rattle.mon_tx.specs.declared.key.Area.TheVariants as area
use Rattle.mon_tx.specs.declared.key.Key.TheVariants as key
use Rattle.mon_wire.specs.declared.body.Body.TheVariants as body
use Rattle.std.proofs.Common.{Bool, Less, List, None, Some, T, [], ap, arith, cond, false, filter, inl, inr, leb, length, length-append, map, not, refl, subst, suc, sym, true, zero, ℕ, ◌&&◌, ◌++◌, ◌+◌, ◌-◌, ◌<◌, ◌^◌, ◌||◌, ◌∙◌, ◌∷◌, ◌≡◌, ◌≤◌, ◌⊎◌}
use Rattle.std.proofs.lemmas.Bool.{and_parts, leb-false, leb-true}
use Rattle.std.proofs.lemmas.List.{append-nil, nil_from_length}
use Rattle.std.specs.FinMap.Entries.{below_all, find-where_key, is_sorted-where_key, where_key}
use Rattle.std.specs.FinMap.{entries_sorted, get-empty, get-entries}

-- ---- lists of entries and of pairs

entries_after : (x : KeyPlace) (es : List Pair) → filter (is_after x) (map entry_of es) ≡ map entry_of (where_key place_cmp (is_past x) es)
entries_after x [] = refl
entries_after x (e ∷ es) =
    ap (λ b. cond b (entry_of e ∷ filter (is_after x) (map entry_of es)) (filter (is_after x) (map entry_of es))) (past_entry x e) ∙ by (is_past x e.0) (entries_after x es)
  where
    by : (b : Bool) → filter (is_after x) (map entry_of es) ≡ map entry_of (where_key place_cmp (is_past x) es)
        → cond b (entry_of e ∷ filter (is_after x) (map entry_of es)) (filter (is_after x) (map entry_of es))
        ≡ map entry_of (cond b (e ∷ where_key place_cmp (is_past x) es) (where_key place_cmp (is_past x) es))
    by true h = ap (λ (zs : List Entry). entry_of e ∷ zs) h
    by false h = h

all_past : (x : KeyPlace) (es : List Pair) → AllPast x (where_key place_cmp (is_past x) es)
all_past x [] = tt
all_past x (e ∷ es) = by (is_past x e.0) refl (all_past x es)
  where
    by : (b : Bool) → is_past x e.0 ≡ b → AllPast x (where_key place_cmp (is_past x) es) → AllPast x (cond b (e ∷ where_key place_cmp (is_past x) es) (where_key place_cmp (is_past x) es))
    by true t h = (t, h)
    by false t h = h

-- a list of pairs, cut if its list of entries is
record Cut (found rest : List Entry) (ps : List Pair) : Type 0 where
  front : List Pair
  back : List Pair
  whole : front ++ back ≡ ps
  found_is : found ≡ map entry_of front
  rest_is : rest ≡ map entry_of back

cut_at : (found rest : List Entry) (ps : List Pair) → found ++ rest ≡ map entry_of ps → Cut found rest ps
cut_at [] rest ps e = record { front = []; back = ps; whole = refl; found_is = refl; rest_is = e }
cut_at (x ∷ found) rest [] e = absurd cc
cut_at (x ∷ found) rest (p ∷ ps) e =
    let first : x ≡ entry_of p = cc in
    let others : found ++ rest ≡ map entry_of ps = cc in
    let C = cut_at found rest ps others in
    record {
      front = p ∷ C.front;
      back = C.back;
      whole = ap (λ (qs : List Pair). p ∷ qs) C.whole;
      found_is = (λ i. first i ∷ C.found_is i);
      rest_is = C.rest_is;
    }

below_front : (q : Place) (xs ys : List Pair) → T (below_all place_cmp q (xs ++ ys)) → T (below_all place_cmp q xs)
below_front q [] ys h = tt
below_front q (x ∷ xs) ys h = both _ _ (first _ _ h) (below_front q xs ys (second _ _ h))

sorted_front : (xs ys : List Pair) → T (is_sorted place_cmp (xs ++ ys)) → T (is_sorted place_cmp xs)
sorted_front [] ys h = tt
sorted_front (x ∷ xs) ys h = both _ _ (below_front x.0 xs ys (first _ _ h)) (sorted_front xs ys (second _ _ h))

-- ---- a provider, whose last version is c

module _ (log : List (List ℕ)) (short : length log ≤ 2 ^ 62) (all : AllValues log) (c : ℕ) (le : c ≤ length log) (m : Store) (same : shared m ≡ fold log c)
    (at_last : number m area.Paxos key.LastCommitted ≡ c) (p : ChunkPlace) (low : p.version ≤ c) where
  abbrev pairs : List Pair
  pairs = where_key place_cmp (is_past p.key) (entries (shared m))

  abbrev left : List Entry
  left = filter (is_after p.key) (shared_entries m)

  left_is : left ≡ map entry_of pairs
  unfolding shared_entries
  left_is = entries_after p.key (entries (shared m))

  sorted : T (is_sorted place_cmp pairs)
  sorted = is_sorted-where_key place_cmp (is_past p.key) (entries (shared m)) (entries_sorted (shared m))

  past : AllPast p.key pairs
  past = all_past p.key (entries (shared m))

  found_in : (at : Place) → find place_cmp at pairs ≡ cond (is_past p.key at) (get (fold log c) at) None
  found_in at =
      find-where_key place_cmp (is_past p.key) at (λ q e. ap (is_past p.key) (sym (exact_places at q e))) (entries (shared m))
      ∙ ap (λ (x : Cell). cond (is_past p.key at) x None) (sym (get-entries (shared m) at) ∙ ap (λ (s : Store). get s at) same)

  -- the first entries of those that are left, and the others
  module _ (fs rs : List Pair) (whole : fs ++ rs ≡ pairs) where
    abbrev y : KeyPlace
    y = after_entries (map entry_of fs) p.key

    sorted_all : T (is_sorted place_cmp (fs ++ rs))
    sorted_all = subst (λ (qs : List Pair). T (is_sorted place_cmp qs)) (sym whole) sorted

    past_all : AllPast p.key (fs ++ rs)
    past_all = subst (AllPast p.key) (sym whole) past

    front_made : (at : Place) → get (apply (encoded (copy_changes (map entry_of fs))) empty) at ≡ cond (between p.key y at) (get (fold log c) at) None
    front_made at =
        made_of fs (sorted_front fs rs sorted_all) at ∙ find_front rs fs p.key sorted_all past_all at
        ∙ ap (λ (x : Cell). cond (between p.key y at) x None) (ap (find place_cmp at) whole ∙ found_in at) ∙ once (is_past p.key at) (not (is_past y at)) (get (fold log c) at)
      where
        once : (a b : Bool) (x : Cell) → cond (a && b) (cond a x None) None ≡ cond (a && b) x None
        once true b x = refl
        once false b x = refl

    continues_front : (values : List (List Op)) → AreVersions log (suc p.version) values → p.version + length values ≡ c → Continues log p y values (map entry_of fs)
    continues_front values versions at_end = record {
      within = omega arith;
      versions = versions;
      onward = onward rs fs p.key sorted_all past_all;
      made = same_map places_total exact_places _ _ (λ at.
          front_made at ∙ ap (λ (t : ℕ). cond (between p.key y at) (get (fold log t) at) None) (sym at_end) ∙ sym (get_kept (fold log (p.version + length values)) (between p.key y) at));
    }

  -- all of them
  continues_whole : (values : List (List Op)) → AreVersions log (suc p.version) values → p.version + length values ≡ c → Continues log p key_place.Done values (map entry_of pairs)
  continues_whole values versions at_end = record {
    within = omega arith;
    versions = versions;
    onward = λ at h. absurd cc;
    made = same_map places_total exact_places _ _ (λ at.
        made_of pairs sorted at ∙ found_in at ∙ to_end (is_past p.key at) (get (fold log c) at) ∙ ap (λ (t : ℕ). cond (is_past p.key at && true) (get (fold log t) at) None) (sym at_end)
        ∙ sym (get_kept (fold log (p.version + length values)) (between p.key key_place.Done) at));
  }
    where
      to_end : (a : Bool) (x : Cell) → cond a x None ≡ cond (a && true) x None
      to_end true x = refl
      to_end false x = refl

  -- none of them
  continues_none : (values : List (List Op)) → AreVersions log (suc p.version) values → p.version + length values ≤ c → Continues log p p.key values []
  continues_none values versions up = record {
    within = omega arith;
    versions = versions;
    onward = λ at h. h;
    made = same_map places_total exact_places _ _ (λ at.
        get-empty place_cmp at ∙ none (is_past p.key at) (get (fold log (p.version + length values)) at) ∙ sym (get_kept (fold log (p.version + length values)) (between p.key p.key) at));
  }
    where
      none : (a : Bool) (x : Cell) → None ≡ cond (a && not a) x None
      none true x = refl
      none false x = refl

  -- ---- the key of the log's first version is the last of those that are left

  abbrev first_place : Place
  first_place = place area.Paxos key.FirstCommitted

  first_there : 1 ≤ c → (x : List ℕ) × (get (fold log c) first_place ≡ Some x)
  unfolding readings_of
  first_there some = by (get (fold log c) first_place) refl
    where
      K : number_in (get (fold log c) first_place) ≡ first_read log_from c
      K = (keeps log short all c le).first

      positive : (n : ℕ) → 1 ≤ n → 1 ≤ first_read log_from n
      positive (suc n) h = omega arith
      positive zero h = absurd (omega arith)

      by : (o : Cell) → get (fold log c) first_place ≡ o → (x : List ℕ) × (get (fold log c) first_place ≡ Some x)
      by (Some x) e = (x, e)
      by None e = absurd (let none = ap number_in e ∙ none_read in let h = positive c some in omega (arith, K, none, h))

  -- it is among those that are left after an open place
  some_left : 1 ≤ c → IsOpen p.key → length left ≤ 0 → ⊥
  some_left some unclosed few = by pairs (found_in first_place) (omega (arith, ap length left_is))
    where
      there : (x : List ℕ) × (get (fold log c) first_place ≡ Some x)
      there = first_there some

      by : (ps : List Pair) → find place_cmp first_place ps ≡ cond (is_past p.key first_place) (get (fold log c) first_place) None → length (map entry_of ps) ≤ 0 → ⊥
      by [] e h = let g : None ≡ Some (there).0 = e ∙ ap (λ b. cond b (get (fold log c) first_place) None) unclosed ∙ (there).1 in cc
      by (q ∷ ps) e h = omega arith

  -- if entries are left after others, the place after these is open
  open_front : (fs : List Pair) (r : Pair) (rs : List Pair) → fs ++ r ∷ rs ≡ pairs → IsOpen (after_entries (map entry_of fs) p.key)
  open_front fs r rs whole =
      let behind = (rest_past (r ∷ rs) fs p.key (sorted_all fs (r ∷ rs) whole) (past_all fs (r ∷ rs) whole)).0 in
      by behind (greatest_is log short all c le r.0 r.1 held)
    where
      found : find place_cmp r.0 pairs ≡ Some r.1
      found = all_at (λ (e : Pair). find place_cmp e.0 pairs ≡ Some e.1) fs r rs (subst (λ (qs : List Pair). AllByRecursion (λ (e : Pair). find place_cmp e.0 pairs ≡ Some e.1) qs) (sym whole) (each_found pairs sorted))

      held : get (fold log c) r.0 ≡ Some r.1
      held = of_past (is_past p.key r.0) (sym (found_in r.0) ∙ found)
        where
          of_past : (b : Bool) → cond b (get (fold log c) r.0) None ≡ Some r.1 → get (fold log c) r.0 ≡ Some r.1
          of_past true e = e
          of_past false e = absurd cc

      by : is_past (after_entries (map entry_of fs) p.key) r.0 ≡ true → (r.0 ≡ first_place) ⊎ (place_cmp r.0 first_place ≡ Less) → IsOpen (after_entries (map entry_of fs) p.key)
      by h (inl is) = subst (λ (q : Place). is_past (after_entries (map entry_of fs) p.key) q ≡ true) is h
      by h (inr lt) = past_up (after_entries (map entry_of fs) p.key) r.0 first_place h lt

  -- ---- the chunk

  module _ (cookie : Cookie) (n : ℕ) where
    abbrev records : ℕ → Cell
    records = λ v. cell m area.Paxos (key.Version v)

    abbrev run : List (List Op)
    run = run_from records c (suc p.version)

    run_is : AreVersions log (suc p.version) run
    unfolding readings_of
    run_is = run_versions log short all records (suc c - suc p.version) p.version (omega arith)
        (λ u from to. keeps_held log short all c (readings_of m) (keeps_shared log c m same at_last (keeps log short all c le)) (suc u) (omega arith))

    abbrev values : List (List Op)
    values = given_values c cookie p left n records

    values_parts : IsLongest (λ vs. fits n (chunk_with c cookie p left vs [])) run values
    values_parts = longest_is (λ vs. fits n (chunk_with c cookie p left vs [])) run

    values_are : AreVersions log (suc p.version) values
    values_are = let L = values_parts in first_versions log values L.rest (suc p.version) (subst (AreVersions log (suc p.version)) (sym L.begins) run_is)

    values_low : p.version + length values ≤ c
    values_low = let L = values_parts in let l = run_from_length records c p.version in omega (arith, ap length L.begins, length-append values L.rest)

    at_end : reach c p values ≡ true → p.version + length values ≡ c
    at_end r = let l = leb-true c (p.version + length values) r in let h = values_low in omega arith

    -- with the first entries of those that are left, of which there are some only if the records reach the last version
    module _ (found rest : List Entry) (begins : found ++ rest ≡ left) (when : (found ≡ []) ⊎ (reach c p values ≡ true)) (none : is_done p.key ≡ true → found ≡ []) where
      parts : Cut found rest pairs
      parts = cut_at found rest pairs (begins ∙ left_is)

      carries : Continues log p (after_entries found p.key) values found
      carries = by when
        where
          by : (found ≡ []) ⊎ (reach c p values ≡ true) → Continues log p (after_entries found p.key) values found
          by (inl is) = subst (λ (es : List Entry). Continues log p (after_entries es p.key) values es) (sym is) (continues_none values values_are values_low)
          by (inr r) =
              let C = parts in
              subst (λ (es : List Entry). Continues log p (after_entries es p.key) values es) (sym C.found_is) (continues_front C.front C.back C.whole values values_are (at_end r))

      done_is : (x : KeyPlace) → is_done x ≡ true → x ≡ key_place.Done
      done_is key_place.Start e = absurd cc
      done_is (key_place.After prefix k) e = absurd cc
      done_is key_place.Done e = refl

      carries_all : reach c p values ≡ true → is_finished p left found ≡ true → Continues log p key_place.Done values found
      carries_all r f = by (is_done p.key) refl f
        where
          by : (d : Bool) → is_done p.key ≡ d → (d || leb (length left) (length found)) ≡ true → Continues log p key_place.Done values found
          by true t h =
              subst (λ (x : KeyPlace). Continues log p x values found) (done_is p.key t)
              (subst (λ (es : List Entry). Continues log p p.key values es) (sym (none t)) (continues_none values values_are values_low))
          by false t h =
              let l = leb-true (length left) (length found) h in
              let nothing : rest ≡ [] = nil_from_length rest (omega (arith, l, ap length begins, length-append found rest)) in
              let is : found ≡ map entry_of pairs = sym (append-nil found) ∙ ap (λ (es : List Entry). found ++ es) (sym nothing) ∙ begins ∙ left_is in
              subst (λ (es : List Entry). Continues log p key_place.Done values es) (sym is) (continues_whole values values_are (at_end r))

      not_done : IsOpen p.key → is_done p.key ≡ false
      not_done = by p.key
        where
          by : (x : KeyPlace) → IsOpen x → is_done x ≡ false
          by key_place.Start o = refl
          by (key_place.After prefix k) o = refl
          by key_place.Done o = absurd cc

      -- if something is left after them
      still_open : IsOpen p.key → is_finished p left found ≡ false → IsOpen (after_entries found p.key)
      still_open unclosed f = by parts
        where
          more : length found < length left
          more = leb-false (length left) (length found) (sym (ap (λ d. d || leb (length left) (length found)) (not_done unclosed)) ∙ f)

          by : Cut found rest pairs → IsOpen (after_entries found p.key)
          by C = in_back C.back C.whole (ap length C.rest_is)
            where
              in_back : (back : List Pair) → C.front ++ back ≡ pairs → length rest ≡ length (map entry_of back) → IsOpen (after_entries found p.key)
              in_back [] w l = absurd (omega (arith, more, l, ap length begins, length-append found rest))
              in_back (q ∷ back) w l = subst (λ (es : List Entry). IsOpen (after_entries es p.key)) (sym C.found_is) (open_front C.front q back w)

      -- something is left if the records don't reach the last version
      unfinished : IsOpen p.key → reach c p values ≡ false → is_finished p left found ≡ true → ⊥
      unfinished unclosed r f = by when
        where
          by : (found ≡ []) ⊎ (reach c p values ≡ true) → ⊥
          by (inl is) =
              let above = leb-false c (p.version + length values) r in
              let few = leb-true (length left) (length found) (sym (ap (λ d. d || leb (length left) (length found)) (not_done unclosed)) ∙ f) in
              some_left (omega arith) unclosed (omega (arith, few, ap length is))
          by (inr t) = let g : true ≡ false = sym t ∙ r in absurd cc

      chunk_of : ChunkOf log (chunk_with c cookie p left values found)
      chunk_of = by (reach c p values) refl (is_finished p left found) refl
        where
          by : (r : Bool) → reach c p values ≡ r → (f : Bool) → is_finished p left found ≡ f → ChunkOf log (cond (r && f) (body.LastChunk cookie p values found c) (body.Chunk cookie p values found f))
          by true r true f = (carries_all r f, sym (at_end r))
          by true r false f = (carries, λ unclosed. (refl, still_open unclosed f))
          by false r true f = (carries, λ unclosed. absurd (unfinished unclosed r f))
          by false r false f = (carries, λ unclosed. (refl, still_open unclosed f))

    -- the chunk that is given
    pub given : ChunkOf log (chunk c cookie p left n records)
    unfolding chunk
    given = by (reach c p values && not (is_done p.key)) refl
      where
        by : (b : Bool) → (reach c p values && not (is_done p.key)) ≡ b → ChunkOf log (chunk_with c cookie p left values (cond b (longest (λ es. fits n (chunk_with c cookie p left values es)) left) []))
        by true t =
            let L = longest_is (λ es. fits n (chunk_with c cookie p left values es)) left in
            let both = and_parts (reach c p values) (not (is_done p.key)) t in
            chunk_of (longest (λ es. fits n (chunk_with c cookie p left values es)) left) L.rest L.begins (inr both.0) (λ d. let g : not true ≡ true = sym (ap not d) ∙ both.1 in absurd cc)
        by false t = chunk_of [] left refl (inl refl) (λ d. refl)
