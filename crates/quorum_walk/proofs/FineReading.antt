-- What is read of a store whose records are values of commands, and that this holds after it learns or copies such
-- values.
use Rattle.mon_bytes.specs.declared.entry.Entry.{Entry}
use Rattle.mon_msg.specs.Protocol.Changes.{Copy, Learn, Record, ops_of}
use Rattle.mon_msg.specs.Protocol.Chunks.{copy_changes, record_changes}
use Rattle.mon_msg.specs.Protocol.Learning.{learn_changes}
use Rattle.mon_msg.specs.Protocol.Played.{play, played, with_record}
use Rattle.mon_msg.specs.Protocol.Readings.{Readings, after, cell_after}
use Rattle.mon_msg.specs.Protocol.Records.{found_as, longest, longest_onto, pending_of, record_at, run_from, run_of}
use Rattle.mon_msg.specs.Protocol.Replay.{more_of, most_bytes, most_versions, step_of}
use Rattle.mon_msg.specs.Protocol.Value.{value}
use Rattle.mon_msg.specs.Puts.{put}
use Rattle.mon_tx.specs.Decision.{Cell, Decision, decided, decision, later, or_before}
use Rattle.mon_tx.specs.Keys.{place}
use Rattle.mon_tx.specs.Map.{place_cmp}
use Rattle.mon_tx.specs.declared.key.Area.TheVariants as area
use Rattle.mon_tx.specs.declared.key.Key.TheVariants as key
use Rattle.mon_tx.specs.Text.{text}
use Rattle.mon_tx.specs.declared.op.Op.{Op}
use Rattle.quorum_walk.proofs.FineCourses.{Calm, CellFine, EntryFine, Fit, FoundFine, RecordsFine, Val}
use Rattle.table_walk.proofs.Lists.{all_append, all_map}
use Rattle.quorum_walk.proofs.Sparing.{EntrySpares, Spares}
use Rattle.std.proofs.Common.{Bool, IfSome, List, None, Option, Some, [], cond, false, inl, inr, leb, length, min, refl, subst, suc, sym, true, zero, ℕ, ◌++◌, ◌-◌, ◌∙◌, ◌∷◌, ◌≡◌, ◌⊎◌}
use Rattle.std.proofs.lemmas.Bool.{cond_both}
use Rattle.std.specs.List.{AllByRecursion}
use Rattle.std.specs.Option.{option_map}
use Rattle.std.specs.Ordering.{eq_by_cmp}
use Rattle.std.specs.Prelude.{if◌then◌else◌}

-- ---- records

pub missing_fine : CellFine None
missing_fine x e = absurd cc

pub text_fine : (value : List Op) → Val value → CellFine (Some (text value))
text_fine value V x e = let same : Some x ≡ Some value = sym e ∙ V.reads in let s : x ≡ value = cc in subst Val (sym s) V

pub put_fine : (v : ℕ) (value : List Op) (cells : ℕ → Cell) → Val value → RecordsFine cells → RecordsFine (with_record v (text value) cells)
put_fine v value cells V k u = cond_both _ (Some (text value)) (cells u) CellFine (λ _. text_fine value V) (λ _. k u)

-- the record of a version once a value was learned
learned_cell : (v : ℕ) (value : List Op) (u : ℕ) (c : Cell) → Val value → CellFine c → CellFine (cell_after (ops_of (Learn v value)) area.Paxos (key.Version u) c)
learned_cell v value u c V k = by (decision value (place area.Paxos (key.Version u))) (V.records u)
  where
    own : (b : Bool) → CellFine (or_before (cond b (Some (Some (text value))) None) c)
    own true = text_fine value V
    own false = k

    by : (d : Decision) → (d ≡ None) ⊎ (d ≡ Some None) → CellFine (or_before (later d (decided (put area.Paxos (key.Version v) (text value)) (place area.Paxos (key.Version u)))) c)
    by None (inl e) = own (eq_by_cmp place_cmp (place area.Paxos (key.Version u)) (place area.Paxos (key.Version v)))
    by None (inr e) = absurd cc
    by (Some None) k = missing_fine
    by (Some (Some bytes)) (inl e) = absurd cc
    by (Some (Some bytes)) (inr e) = absurd cc

pub learn_cells : (v : ℕ) (value : List Op) (w : Readings) → Val value → RecordsFine w.record_of → RecordsFine (play (Learn v value) w).record_of
unfolding after
learn_cells v value w V k u = learned_cell v value u (w.record_of u) V (k u)

pub learned_cells : (v : ℕ) (values : List (List Op)) (w : Readings) → AllByRecursion Val values → RecordsFine w.record_of → RecordsFine (played (learn_changes v values) w).record_of
learned_cells v [] w V k = k
learned_cells v (x ∷ xs) w V k = learned_cells (suc v) xs (play (Learn v x) w) V.1 (learn_cells v x w V.0 k)

pub recorded_cells : (v : ℕ) (values : List (List Op)) (w : Readings) → AllByRecursion Val values → RecordsFine w.record_of → RecordsFine (played (record_changes v values) w).record_of
recorded_cells v [] w V k = k
recorded_cells v (x ∷ xs) w V k = recorded_cells (suc v) xs (play (Record v x) w) V.1 (put_fine v x w.record_of V.0 k)

pub copied_cells : (es : List Entry) (w : Readings) → AllByRecursion EntryFine es → RecordsFine w.record_of → RecordsFine (played (copy_changes es) w).record_of
unfolding after
copied_cells [] w V k = k
copied_cells (e ∷ es) w V k = copied_cells es (play (Copy e) w) V.1 (λ u. V.0.cells u (w.record_of u) (k u))

pub all_spare : (values : List (List Op)) → AllByRecursion Val values → AllByRecursion Spares values
all_spare values V = all_map Val Spares (λ x k. k.spares) values V

pub entries_spare : (es : List Entry) → AllByRecursion EntryFine es → AllByRecursion EntrySpares es
entries_spare es V = all_map EntryFine EntrySpares (λ e k. k.spares) es V

-- ---- changes

pub learned_fits : (v : ℕ) (values : List (List Op)) → AllByRecursion Val values → AllByRecursion Fit (learn_changes v values)
learned_fits v [] V = tt
learned_fits v (x ∷ xs) V = (V.0.spares, learned_fits (suc v) xs V.1)

pub learned_calm : (v : ℕ) (values : List (List Op)) → Calm (learn_changes v values)
learned_calm v [] = tt
learned_calm v (x ∷ xs) = (tt, learned_calm (suc v) xs)

pub recorded_fits : (v : ℕ) (values : List (List Op)) → AllByRecursion Fit (record_changes v values)
recorded_fits v [] = tt
recorded_fits v (x ∷ xs) = (tt, recorded_fits (suc v) xs)

pub recorded_calm : (v : ℕ) (values : List (List Op)) → Calm (record_changes v values)
recorded_calm v [] = tt
recorded_calm v (x ∷ xs) = (tt, recorded_calm (suc v) xs)

pub copied_fits : (es : List Entry) → AllByRecursion EntryFine es → AllByRecursion Fit (copy_changes es)
copied_fits [] V = tt
copied_fits (e ∷ es) V = (V.0.spares, copied_fits es V.1)

pub copied_calm : (es : List Entry) → Calm (copy_changes es)
copied_calm [] = tt
copied_calm (e ∷ es) = (tt, copied_calm es)

-- ---- what is read

module _ (records : ℕ → Cell) (R : RecordsFine records) where
  pub record_fine : (v : ℕ) (x : List Op) → record_at records v ≡ Some x → Val x
  unfolding record_at
  record_fine v x e = R v x e

  pub run_of_fine : (count v : ℕ) → AllByRecursion Val (run_of records count v)
  unfolding run_of
  run_of_fine zero v = tt
  run_of_fine (suc count) v = by (record_at records v) refl (run_of_fine count (suc v))
    where
      by : (r : Option (List Op)) → record_at records v ≡ r → AllByRecursion Val (run_of records count (suc v)) → AllByRecursion Val (elim r as (λ _. List (List Op)) [ None ↦ [] | Some value ↦ value ∷ run_of records count (suc v) ])
      by None e k = tt
      by (Some x) e k = (record_fine v x e, k)

  pub run_fine : (last v : ℕ) → AllByRecursion Val (run_from records last v)
  run_fine last v = run_of_fine (suc last - v) v

  found_fine : (v pn u : ℕ) (r : Option (List Op)) → record_at records u ≡ r → FoundFine (found_as v pn r)
  found_fine v pn u None e = tt
  found_fine v pn u (Some x) e = cond_both _ (Some x) None (λ (o : Option (List Op)). FoundFine (option_map (λ short. record { version = v; pn = pn; value = short }) o)) (λ _. record_fine u x e) (λ _. tt)

  pub pending_fine : (v pn last : ℕ) → FoundFine (pending_of v pn last records)
  unfolding pending_of
  pending_fine v pn last = cond_both _ _ None FoundFine (λ _. found_fine v pn (suc last) (record_at records (suc last)) refl) (λ _. tt)

  after_value : (values : Option (List (List Op))) (x : List Op) → Val x → IfSome values (AllByRecursion Val) → IfSome (option_map (λ vs. x ∷ vs) values) (AllByRecursion Val)
  after_value None x V k = tt
  after_value (Some vs) x V k = (V, k)

  more_of_fine : (count room v : ℕ) → IfSome (more_of records count room v) (AllByRecursion Val)
  unfolding more_of
  more_of_fine zero room v = tt
  more_of_fine (suc count) room v = by (record_at records v) refl (λ (r : ℕ). more_of_fine count r (suc v))
    where
      by : (r : Option (List Op)) → record_at records v ≡ r → ((room : ℕ) → IfSome (more_of records count room (suc v)) (AllByRecursion Val)) → IfSome (elim r as (λ _. Option (List (List Op))) [
        | None ↦ None
        | Some value ↦ if leb (length (text value)) room then option_map (λ values. value ∷ values) (more_of records count (room - length (text value)) (suc v)) else Some []
      ]) (AllByRecursion Val)
      by None e k = tt
      by (Some x) e k = cond_both (leb (length (text x)) room) (option_map (λ values. x ∷ values) (more_of records count (room - length (text x)) (suc v))) (Some []) (λ (o : Option (List (List Op))). IfSome o (AllByRecursion Val))
          (λ _. after_value (more_of records count (room - length (text x)) (suc v)) x (record_fine v x e) (k (room - length (text x)))) (λ _. tt)

  pub step_of_fine : (left v : ℕ) → IfSome (step_of records left v) (AllByRecursion Val)
  unfolding step_of
  step_of_fine zero v = tt
  step_of_fine (suc left) v = by (record_at records v) refl
    where
      by : (r : Option (List Op)) → record_at records v ≡ r → IfSome (elim r as (λ _. Option (List (List Op))) [
        | None ↦ None
        | Some value ↦ option_map (λ values. value ∷ values) (more_of records (min left (most_versions - 1)) (most_bytes - length (text value)) (suc v))
      ]) (AllByRecursion Val)
      by None e = tt
      by (Some x) e = after_value (more_of records (min left (most_versions - 1)) (most_bytes - length (text x)) (suc v)) x (record_fine v x e) (more_of_fine (min left (most_versions - 1)) (most_bytes - length (text x)) (suc v))

longest_onto_fine : {A : Type 0} (P : A → Type 0) (test : List A → Bool) (front xs : List A) → AllByRecursion P front → AllByRecursion P xs → AllByRecursion P (longest_onto test front xs)
longest_onto_fine P test front [] f k = f
longest_onto_fine P test front (x ∷ xs) f k = cond_both (test (front ++ x ∷ [])) (longest_onto test (front ++ x ∷ []) xs) front (AllByRecursion P)
    (λ _. longest_onto_fine P test (front ++ x ∷ []) xs (all_append P front (x ∷ []) f (k.0, tt)) k.1) (λ _. f)

pub longest_fine : {A : Type 0} (P : A → Type 0) (test : List A → Bool) (xs : List A) → AllByRecursion P xs → AllByRecursion P (longest test xs)
longest_fine P test xs k = longest_onto_fine P test [] xs tt k
