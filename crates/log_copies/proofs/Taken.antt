-- A chunk's records and entries carry a copy on.
use Rattle.law_names.proofs.Table.{Cell, Change, Decision, Entry, KeyPlace, Op, Place as ChunkPlace, Put, Store, apply, copy_changes, decided, decision, empty, encoded, entry, fold, get, later, ops_of, or_before, place, place_cmp, put, record_changes, text}
use Rattle.log_copies.proofs.Chunks.{Continues, between}
use Rattle.log_copies.proofs.Own.{record_shared}
use Rattle.log_copies.specs.Copies.{IsFolded, IsFuzzyCopy, IsRecord, is_own, is_past}
use Rattle.log_model.proofs.Places.{get_kept, same_place}
use Rattle.log_model.proofs.Records.{AreVersions}
use Rattle.mon_tx.proofs.After.{decision-append, get-apply}
use Rattle.mon_tx.specs.Map.{Place}
use Rattle.mon_tx.specs.declared.key.Area.TheVariants as area
use Rattle.mon_tx.specs.declared.key.Key.TheVariants as key
use Rattle.std.proofs.Common.{Bool, List, None, Some, [], ap, append_assoc, arith, cond, false, inl, inr, length, not, refl, subst, suc, sym, true, ℕ, ◌&&◌, ◌++◌, ◌+◌, ◌<◌, ◌∙◌, ◌∷◌, ◌≡◌, ◌≤◌, ◌⊎◌}
use Rattle.std.specs.FinMap.{get-empty}
use Rattle.std.specs.Ordering.{eq_by_cmp}

pub encoded_append : (a b : List Change) → encoded (a ++ b) ≡ encoded a ++ encoded b
encoded_append [] b = refl
encoded_append (c ∷ a) b = ap (λ (ops : List Op). ops_of c ++ ops) (encoded_append a b) ∙ sym (append_assoc (ops_of c) (encoded a) (encoded b))

or_before-later : (a b : Decision) (c : Cell) → or_before (later a b) c ≡ or_before a (or_before b c)
or_before-later (Some x) b c = refl
or_before-later None b c = refl

-- ---- what entries and records decide

-- entries take nothing away
pub copies_put : (es : List Entry) (at : Place) → decision (encoded (copy_changes es)) at ≡ Some None → ⊥
copies_put [] at e = cc
copies_put (x ∷ es) at e = by (decision (encoded (copy_changes es)) at) (copies_put es at) e
  where
    put_is : (b : Bool) → ◌≡◌ {A = Decision} (cond b (Some (Some x.value)) None) (Some None) → ⊥
    put_is true q = cc
    put_is false q = cc

    by : (d : Decision) → (d ≡ Some None → ⊥) → later d (decided (Put x.prefix x.key x.value) at) ≡ Some None → ⊥
    by None more q = put_is (eq_by_cmp place_cmp at (x.prefix, x.key)) q
    by (Some c) more q = more q

-- the record of one of the versions after v up to e
record IsNew (log : List (List ℕ)) (v e : ℕ) (at : Place) (d : Decision) : Type 0 where
  version : ℕ
  from : v < version
  to : version ≤ e
  place : at ≡ place area.Paxos (key.Version version)
  is : d ≡ Some (Some (entry log version))

records_decide : (log : List (List ℕ)) (values : List (List Op)) (v e : ℕ) (at : Place) → v + length values ≡ e → AreVersions log (suc v) values
    → (decision (encoded (record_changes (suc v) values)) at ≡ None) ⊎ IsNew log v e at (decision (encoded (record_changes (suc v) values)) at)
records_decide log [] v e at is h = inl refl
records_decide log (x ∷ values) v e at is h = by (decision (encoded (record_changes (suc (suc v)) values)) at) (records_decide log values (suc v) e at (omega arith) h.1)
  where
    one : (b : Bool) → eq_by_cmp place_cmp at (place area.Paxos (key.Version (suc v))) ≡ b
        → (cond b (Some (Some (text x))) None ≡ None) ⊎ IsNew log v e at (cond b (Some (Some (text x))) None)
    one true t = inr (record { version = suc v; from = omega arith; to = omega arith; place = same_place at _ t; is = ap (λ (bytes : List ℕ). Some (Some bytes)) (sym h.0.encodes) })
    one false t = inl refl

    by : (d : Decision) → (d ≡ None) ⊎ IsNew log (suc v) e at d
        → (later d (decided (put area.Paxos (key.Version (suc v)) (text x)) at) ≡ None) ⊎ IsNew log v e at (later d (decided (put area.Paxos (key.Version (suc v)) (text x)) at))
    by None k = one (eq_by_cmp place_cmp at (place area.Paxos (key.Version (suc v)))) refl
    by (Some c) (inl n) = absurd cc
    by (Some c) (inr n) = inr (record { version = n.version; from = (let f = n.from in omega arith); to = n.to; place = n.place; is = n.is })

-- ---- a copy up to a later version

pub folded_more : (log : List (List ℕ)) (s e f : ℕ) (at : Place) (c : Cell) → e ≤ f → IsFolded log s e at c → IsFolded log s f at c
folded_more log s e f at c le h = record { version = h.version; from = h.from; to = (let t = h.to in omega arith); is = h.is }

pub record_more : (log : List (List ℕ)) (s e f : ℕ) (at : Place) (c : Cell) → e ≤ f → IsRecord log s e at c → IsRecord log s f at c
record_more log s e f at c le h = record { version = h.version; from = h.from; to = (let t = h.to in omega arith); place = h.place; is = h.is }

module _ (log : List (List ℕ)) (p : ChunkPlace) (y : KeyPlace) (values : List (List Op)) (entries : List Entry) (C : Continues log p y values entries)
    (s : ℕ) (le : s ≤ p.version) (m : Store) (copy : IsFuzzyCopy log s p.version p.key m) where
  abbrev e : ℕ
  e = p.version + length values

  abbrev records : List Op
  records = encoded (record_changes (suc p.version) values)

  abbrev copies : List Op
  copies = encoded (copy_changes entries)

  abbrev pub taken : Store
  taken = apply (encoded (record_changes (suc p.version) values ++ copy_changes entries)) m

  taken_is : (at : Place) → get taken at ≡ or_before (decision copies at) (or_before (decision records at) (get m at))
  taken_is at =
      ap (λ (ops : List Op). get (apply ops m) at) (encoded_append (record_changes (suc p.version) values) (copy_changes entries))
      ∙ get-apply (records ++ copies) m at ∙ ap (λ (d : Decision). or_before d (get m at)) (decision-append records copies at)
      ∙ or_before-later (decision copies at) (decision records at) (get m at)

  entries_are : (at : Place) → or_before (decision copies at) None ≡ cond (between p.key y at) (get (fold log e) at) None
  entries_are at =
      sym (get-apply copies empty at ∙ ap (or_before (decision copies at)) (get-empty place_cmp at)) ∙ ap (λ (n : Store). get n at) C.made
      ∙ get_kept (fold log e) (between p.key y) at

  -- nothing is put if the entries leave nothing of an empty map
  nothing_put : (at : Place) → or_before (decision copies at) None ≡ None → decision copies at ≡ None
  nothing_put at = by (decision copies at) (copies_put entries at)
    where
      by : (d : Decision) → (d ≡ Some None → ⊥) → or_before d None ≡ None → d ≡ None
      by None n h = refl
      by (Some None) n h = absurd (n refl)
      by (Some (Some x)) n h = absurd cc

  -- with the records alone
  with_records : (at : Place) → (P : Cell → Type 0) → ((c : Cell) → IsRecord log s e at c → P c) → P (get m at) → P (or_before (decision records at) (get m at))
  with_records at P new old = by (records_decide log values p.version e at refl C.versions)
    where
      by : (decision records at ≡ None) ⊎ IsNew log p.version e at (decision records at) → P (or_before (decision records at) (get m at))
      by (inl none) = subst (λ (d : Decision). P (or_before d (get m at))) (sym none) old
      by (inr n) = new _ (record { version = n.version; from = (let f = n.from in omega arith); to = n.to; place = n.place; is = ap (λ (d : Decision). or_before d (get m at)) n.is })

  abbrev IsMade : Place → Cell → Type 0
  IsMade at c = IsFolded log s e at c ⊎ IsRecord log s e at c

  unput : (at : Place) → decision copies at ≡ None → get taken at ≡ or_before (decision records at) (get m at)
  unput at none = taken_is at ∙ ap (λ (d : Decision). or_before d (or_before (decision records at) (get m at))) none

  -- a key before the place is as it was, unless it is a record's
  before : (at : Place) → is_own at ≡ false → is_past p.key at ≡ false → IsMade at (get taken at)
  before at shared here = subst (IsMade at) (sym (unput at (nothing_put at none))) (with_records at (IsMade at) (λ c r. inr r) (more (copy.made at shared here)))
    where
      none : or_before (decision copies at) None ≡ None
      none = entries_are at ∙ ap (λ b. cond (b && not (is_past y at)) (get (fold log e) at) None) here

      more : IsFolded log s p.version at (get m at) ⊎ IsRecord log s p.version at (get m at) → IsMade at (get m at)
      more (inl f) = inl (folded_more log s p.version e at _ (omega arith) f)
      more (inr r) = inr (record_more log s p.version e at _ (omega arith) r)

  -- a key after it is missing, or a record's
  abbrev IsMissing : Place → Cell → Type 0
  IsMissing at c = (c ≡ None) ⊎ IsRecord log s e at c

  missing : (at : Place) → is_own at ≡ false → is_past p.key at ≡ true → IsMissing at (or_before (decision records at) (get m at))
  missing at shared past = with_records at (IsMissing at) (λ c r. inr r) (more (copy.not_yet at shared past))
    where
      more : (get m at ≡ None) ⊎ IsRecord log s p.version at (get m at) → IsMissing at (get m at)
      more (inl none) = inl none
      more (inr r) = inr (record_more log s p.version e at _ (omega arith) r)

  -- between the places the entries put what is in the fold
  here : (at : Place) → is_own at ≡ false → is_past p.key at ≡ true → is_past y at ≡ false → IsMade at (get taken at)
  here at shared past in_time = by (decision copies at) refl
    where
      fold_is : or_before (decision copies at) None ≡ get (fold log e) at
      fold_is = entries_are at ∙ (λ i. cond (past i && not (in_time i)) (get (fold log e) at) None)

      by : (d : Decision) → decision copies at ≡ d → IsMade at (get taken at)
      by (Some c) t = inl (record {
        version = e;
        from = omega arith;
        to = omega arith;
        is = taken_is at ∙ ap (λ (d : Decision). or_before d (or_before (decision records at) (get m at))) t
            ∙ sym (ap (λ (d : Decision). or_before d None) t) ∙ fold_is;
      })
      by None t = subst (IsMade at) (sym (unput at t)) (still (missing at shared past))
        where
          absent : None ≡ get (fold log e) at
          absent = sym (ap (λ (d : Decision). or_before d None) t) ∙ fold_is

          still : IsMissing at (or_before (decision records at) (get m at)) → IsMade at (or_before (decision records at) (get m at))
          still (inl none) = inl (record { version = e; from = omega arith; to = omega arith; is = none ∙ absent })
          still (inr r) = inr r

  behind : (at : Place) → is_own at ≡ false → is_past y at ≡ true → IsMissing at (get taken at)
  behind at shared past = subst (IsMissing at) (sym (unput at (nothing_put at none))) (missing at shared (C.onward at past))
    where
      drop : (a : Bool) → cond (a && not true) (get (fold log e) at) None ≡ None
      drop true = refl
      drop false = refl

      none : or_before (decision copies at) None ≡ None
      none = entries_are at ∙ ap (λ b. cond (is_past p.key at && not b) (get (fold log e) at) None) past ∙ drop (is_past p.key at)

  -- the copy goes on to the chunk's last version, and to the key y
  pub carried_on : IsFuzzyCopy log s e y taken
  carried_on = record {
    made = λ at shared in_time. by at shared in_time (is_past p.key at) refl;
    not_yet = behind;
  }
    where
      by : (at : Place) → is_own at ≡ false → is_past y at ≡ false → (b : Bool) → is_past p.key at ≡ b → IsMade at (get taken at)
      by at shared in_time true past = here at shared past in_time
      by at shared in_time false earlier = before at shared earlier

  -- a monitor's own key is as it was, if the fold has none
  pub own_kept : (at : Place) → is_own at ≡ true → get (fold log e) at ≡ None → get taken at ≡ get m at
  own_kept at own none = unput at (nothing_put at (entries_are at ∙ absent (between p.key y at))) ∙ by (records_decide log values p.version e at refl C.versions)
    where
      absent : (b : Bool) → cond b (get (fold log e) at) None ≡ None
      absent true = none
      absent false = refl

      by : (decision records at ≡ None) ⊎ IsNew log p.version e at (decision records at) → or_before (decision records at) (get m at) ≡ get m at
      by (inl h) = ap (λ (d : Decision). or_before d (get m at)) h
      by (inr n) = let g : true ≡ false = sym own ∙ ap is_own n.place ∙ record_shared n.version in absurd cc
