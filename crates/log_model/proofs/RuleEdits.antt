-- The rules of a value as changes of one area.
use Rattle.std.proofs.Common.{◌≡◌, ℕ, ◌-◌, cond, eqb, leb, ltb, List, [], ◌∷◌, ◌++◌, map, refl, sym, ap, ◌∙◌, append_assoc}
use Rattle.std.proofs.lemmas.Bool.{cond_both}
use Rattle.mon_tx.specs.declared.key.Area.{Area}
use Rattle.mon_tx.specs.declared.key.Area.TheVariants as area
use Rattle.mon_tx.specs.declared.key.Key.TheVariants.{FirstCommitted, LastCommitted, FullLatest, Version, Full}
use Rattle.mon_tx.specs.declared.op.Op.{Op}
use Rattle.mon_tx.specs.Map.{number_bytes}
use Rattle.mon_msg.specs.Protocol.Changes.{erase}
use Rattle.mon_msg.specs.Protocol.Rules.{paxos_begins, new_version, full_version, full_between, service_to, service_trim, paxos_to, paxos_trim, value_ops}
use Rattle.log_model.specs.Windows.{is_full}
use Rattle.log_model.proofs.AreaEdits.{Edit, Set, Drop, DropRange, op_of, encoded, encoded_append}

abbrev pub first_set : ℕ → List Edit
first_set n = Set FirstCommitted (number_bytes n) ∷ []

abbrev pub begun : ℕ → List Edit
begun last = cond (eqb last 0) (first_set 1) []

abbrev pub new : ℕ → List ℕ → List Edit
new n x = Set (Version n) x ∷ (cond (eqb n 1) (first_set 1) [] ++ Set LastCommitted (number_bytes n) ∷ [])

abbrev pub full : ℕ → List ℕ → List Edit
full n t = cond (is_full n) (Set (Full n) t ∷ Set FullLatest (number_bytes n) ∷ []) []

abbrev pub full_drops : ℕ → ℕ → List Edit
full_drops from to = map (λ v. Drop (Full v)) (full_between from to)

abbrev pub cut : ℕ → ℕ → List Edit
cut from to = DropRange from to ∷ (full_drops from to ++ first_set to)

abbrev pub trimmed : ℕ → ℕ → List Edit
trimmed n first = cond (leb 75 (n - first)) (cut first (service_to n first)) []

abbrev pub log_cut : ℕ → ℕ → List Edit
log_cut from to = DropRange from to ∷ first_set to

abbrev pub log_trimmed : ℕ → ℕ → List Edit
log_trimmed first last = cond (ltb 750 (last - first)) (log_cut first (paxos_to first last)) []

-- ---- they are the rules

begun_is : (last : ℕ) → paxos_begins last ≡ encoded area.Paxos (begun last)
begun_is last = cond_both (eqb last 0) (first_set 1) [] (λ es. cond (eqb last 0) (encoded area.Paxos (first_set 1)) [] ≡ encoded area.Paxos es) (λ e. rw e refl) (λ e. rw e refl)

new_is : (a : Area) (n : ℕ) (x : List ℕ) → new_version a n x ≡ encoded a (new n x)
new_is a n x = cond_both (eqb n 1) (first_set 1) [] (λ es. new_version a n x ≡ encoded a (Set (Version n) x ∷ (es ++ Set LastCommitted (number_bytes n) ∷ []))) (λ e. rw e refl) (λ e. rw e refl)

full_is : (a : Area) (n : ℕ) (t : List ℕ) → full_version a n t ≡ encoded a (full n t)
full_is a n t = cond_both (is_full n) (Set (Full n) t ∷ Set FullLatest (number_bytes n) ∷ []) [] (λ es. full_version a n t ≡ encoded a es) (λ e. rw e refl) (λ e. rw e refl)

drops_are : (a : Area) (vs : List ℕ) (es : List Edit) → map (λ v. erase a (Full v)) vs ++ encoded a es ≡ encoded a (map (λ v. Drop (Full v)) vs ++ es)
drops_are a [] es = refl
drops_are a (v ∷ vs) es = ap (λ (z : List Op). erase a (Full v) ∷ z) (drops_are a vs es)

trimmed_is : (a : Area) (n first : ℕ) → service_trim a n first ≡ encoded a (trimmed n first)
trimmed_is a n first =
    cond_both (leb 75 (n - first)) (cut first (service_to n first)) [] (λ es. service_trim a n first ≡ encoded a es)
    (λ e. rw e (ap (λ (z : List Op). op_of a (DropRange first (service_to n first)) ∷ z) (drops_are a (full_between first (service_to n first)) (first_set (service_to n first))))) (λ e. rw e refl)

log_trimmed_is : (first last : ℕ) → paxos_trim first last ≡ encoded area.Paxos (log_trimmed first last)
log_trimmed_is first last = cond_both (ltb 750 (last - first)) (log_cut first (paxos_to first last)) [] (λ es. paxos_trim first last ≡ encoded area.Paxos es) (λ e. rw e refl) (λ e. rw e refl)

-- what a value does to its service's area
abbrev pub service_edits : (n first : ℕ) → (incremental text : List ℕ) → List Edit
service_edits n first x t = new n x ++ (full n t ++ trimmed n first)

service_is : (a : Area) (n first : ℕ) (x t : List ℕ) → new_version a n x ++ (full_version a n t ++ service_trim a n first) ≡ encoded a (service_edits n first x t)
service_is a n first x t =
    (λ i. new_is a n x i ++ (full_is a n t i ++ trimmed_is a n first i)) ∙ ap (λ (z : List Op). encoded a (new n x) ++ z) (sym (encoded_append a (full n t) (trimmed n first)))
    ∙ sym (encoded_append a (new n x) (full n t ++ trimmed n first))

-- a value: first the log's area, then the service's, and then the log's again
pub value_is : (first last : ℕ) (a : Area) (n service_first : ℕ) (x t : List ℕ)
    → value_ops first last a n service_first x t ≡ encoded area.Paxos (begun last) ++ (encoded a (service_edits n service_first x t) ++ encoded area.Paxos (log_trimmed first last))
unfolding value_ops
value_is first last a n service_first x t =
    (λ i. begun_is last i ++ (in_three (new_version a n x) (full_version a n t) (service_trim a n service_first) (log_trimmed_is first last i) i))
    ∙ ap (λ (z : List Op). encoded area.Paxos (begun last) ++ (z ++ encoded area.Paxos (log_trimmed first last))) (service_is a n service_first x t)
  where
    in_three : (p q r s : List Op) → p ++ (q ++ (r ++ s)) ≡ (p ++ (q ++ r)) ++ s
    in_three p q r s = simp append_assoc
