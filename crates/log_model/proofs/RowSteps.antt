-- A value makes of what is kept after n versions what is kept after n + 1: of a service's row, and of the log's own.
use Rattle.std.proofs.Common.{◌≡◌, ℕ, zero, suc, ◌*◌, ◌/◌, ◌%◌, ◌≤◌, ◌<◌, ◌&&◌, Bool, true, false, cond, eqb, ltb, List, Some, None, ◌⊎◌, inl, inr, refl, sym, ap, ◌∙◌, arith}
use Rattle.std.proofs.lemmas.Bool.{cases_eq, cases_lt, cases_order, eq-eqb, ne_eqb, lt-ltb, le-ltb}
use Rattle.std.proofs.lemmas.Bool.Decides.{nat_tests}
use Rattle.mon_tx.specs.declared.key.Area.TheVariants.{Paxos}
use Rattle.mon_tx.specs.declared.key.Key.{Key}
use Rattle.mon_tx.specs.declared.key.Key.TheVariants.{FirstCommitted, LastCommitted, LastPn, AcceptedPn, PendingV, PendingPn, FullLatest, ElectionEpoch, BootCount, InSync, Floor, Version, Full}
use Rattle.mon_tx.specs.Decision.{Cell}
use Rattle.mon_tx.specs.Keys.{same_key, covers}
use Rattle.mon_tx.specs.Map.{number_bytes}
use Rattle.log_model.specs.Windows.{service_from, log_from, is_kept_key, within, is_full, if_any, service_row, first_read}
use Rattle.log_model.proofs.AreaEdits.{Edit, final, final_append}
use Rattle.log_model.proofs.RuleEdits.{begun, new, full, trimmed, log_trimmed, service_edits}
use Rattle.log_model.proofs.RuleCells.{first_high, first_rises, log_high, log_rises, trim_version, trim_full, trim_first, trim_other, new_version, new_first, new_last, new_other, full_other, full_full, full_latest, log_trim_version, log_trim_other, log_trim_first, log_begun_other, log_begun_version}

-- The functions agree up to version n. At version n + 1 the second one is x.
pub record Grows (n : ℕ) (f g : ℕ → List ℕ) (x : List ℕ) : Type 0 where
  pub old : (v : ℕ) → v < suc n → g v ≡ f v
  pub newest : g (suc n) ≡ x

version_step : (n a b v : ℕ) (f g : ℕ → List ℕ) (x : List ℕ) → Grows n f g x → a ≤ b → b ≤ suc n
    → cond (within a b v) None (cond (eqb v (suc n)) (Some x) (cond (within a (suc n) v) (Some (f v)) None)) ≡ cond (within b (suc (suc n)) v) (Some (g v)) None
version_step n a b v f g x G ab bn = by (cases_order v (suc n))
  where
    by : (v ≡ suc n) ⊎ ((v < suc n) ⊎ (suc n < v)) → cond (within a b v) None (cond (eqb v (suc n)) (Some x) (cond (within a (suc n) v) (Some (f v)) None)) ≡ cond (within b (suc (suc n)) v) (Some (g v)) None
    by (inl e) = let q : g v ≡ x = ap g e ∙ G.newest in grind (arith, nat_tests, q)
    by (inr (inl lt)) = let q : g v ≡ f v = G.old v lt in grind (arith, nat_tests, q)
    by (inr (inr gt)) = grind (arith, nat_tests)

full_step : (n a b v : ℕ) (f g : ℕ → List ℕ) (x : List ℕ) → Grows n f g x → a ≤ b → b ≤ suc n
    → cond (within a b v && is_full v) None (cond (is_full (suc n) && eqb v (suc n)) (Some x) (cond (within a (suc n) v && is_full v) (Some (f v)) None)) ≡ cond (within b (suc (suc n)) v && is_full v) (Some (g v)) None
full_step n a b v f g x G ab bn = by (cases_order v (suc n))
  where
    by : (v ≡ suc n) ⊎ ((v < suc n) ⊎ (suc n < v))
        → cond (within a b v && is_full v) None (cond (is_full (suc n) && eqb v (suc n)) (Some x) (cond (within a (suc n) v && is_full v) (Some (f v)) None)) ≡ cond (within b (suc (suc n)) v && is_full v) (Some (g v)) None
    by (inl e) = let q : g v ≡ x = ap g e ∙ G.newest in let w : is_full (suc n) ≡ is_full v = ap is_full (sym e) in grind (arith, nat_tests, q, w)
    by (inr (inl lt)) = let q : g v ≡ f v = G.old v lt in grind (arith, nat_tests, q)
    by (inr (inr gt)) = grind (arith, nat_tests)

latest_step : (n : ℕ) → cond (is_full (suc n)) (Some (number_bytes (suc n))) (cond (ltb n 25) None (Some (number_bytes (25 * (n / 25))))) ≡ cond (ltb (suc n) 25) None (Some (number_bytes (25 * (suc n / 25))))
latest_step n = by (cases_eq (suc n % 25) 0) (cases_lt (suc n) 25)
  where
    by : (suc n % 25 ≡ 0) ⊎ (suc n % 25 ≡ 0 → ⊥) → (suc n < 25) ⊎ (25 ≤ suc n)
        → cond (is_full (suc n)) (Some (number_bytes (suc n))) (cond (ltb n 25) None (Some (number_bytes (25 * (n / 25))))) ≡ cond (ltb (suc n) 25) None (Some (number_bytes (25 * (suc n / 25))))
    by (inl e) (inl lt) = absurd (omega arith)
    by (inl e) (inr le) = let q : suc n ≡ 25 * (suc n / 25) = omega arith in rw (eq-eqb (suc n % 25) 0 e, le-ltb (suc n) 25 le) (ap (λ z. Some (number_bytes z)) q)
    by (inr ne) (inl lt) = let h : n < 25 = omega arith in rw (ne_eqb (suc n % 25) 0 ne, lt-ltb (suc n) 25 lt, lt-ltb n 25 h) refl
    by (inr ne) (inr le) = let h : 25 ≤ n = omega arith in let q : n / 25 ≡ suc n / 25 = omega arith in rw (ne_eqb (suc n % 25) 0 ne, le-ltb (suc n) 25 le, le-ltb n 25 h, q) refl

first_step : (n : ℕ) → cond (eqb (suc n) 1) (Some (number_bytes 1)) (if_any n (number_bytes (service_from n))) ≡ Some (number_bytes (service_from n))
first_step zero = refl
first_step (suc n) = rw (ne_eqb (suc (suc n)) 1 (λ e. omega arith)) refl

-- ---- a service

-- the edits of version n + 1
abbrev pub next_edits : ℕ → List ℕ → List ℕ → List Edit
next_edits n x t = service_edits (suc n) (first_read service_from n) x t

in_parts : (n : ℕ) (x t : List ℕ) (k : Key) (c : Cell)
    → final (next_edits n x t) k c ≡ final (trimmed (suc n) (first_read service_from n)) k (final (full (suc n) t) k (final (new (suc n) x) k c))
in_parts n x t k c = final_append (new (suc n) x) _ k c ∙ final_append (full (suc n) t) _ k _

-- a key that no edit names
unnamed : (n : ℕ) (x t : List ℕ) (k : Key) (c : Cell) → ((a b : ℕ) → covers a b k ≡ false) → ((w : ℕ) → same_key k (Version w) ≡ false) → ((w : ℕ) → same_key k (Full w) ≡ false)
    → same_key k FirstCommitted ≡ false → same_key k LastCommitted ≡ false → same_key k FullLatest ≡ false → final (next_edits n x t) k c ≡ c
unnamed n x t k c h v w f l g = in_parts n x t k c ∙ trim_other n k _ h f w ∙ full_other (suc n) t k _ (w (suc n)) g ∙ new_other (suc n) x k c (v (suc n)) f l

pub service_step : (n : ℕ) (f g p q : ℕ → List ℕ) (x t : List ℕ) → Grows n f g x → Grows n p q t → (k : Key) → final (next_edits n x t) k (service_row n f p k) ≡ service_row (suc n) g q k
service_step n f g p q x t F P FirstCommitted =
    in_parts n x t FirstCommitted _
    ∙ ap (λ c. final (trimmed (suc n) (first_read service_from n)) FirstCommitted (final (full (suc n) t) FirstCommitted c)) (new_first (suc n) x _ ∙ first_step n)
    ∙ ap (final (trimmed (suc n) (first_read service_from n)) FirstCommitted) (full_other (suc n) t FirstCommitted _ refl refl) ∙ trim_first n
service_step n f g p q x t F P LastCommitted =
    in_parts n x t LastCommitted _ ∙ trim_other n LastCommitted _ (λ a b. refl) refl (λ w. refl) ∙ full_other (suc n) t LastCommitted _ refl refl ∙ new_last (suc n) x _
service_step n f g p q x t F P FullLatest =
    in_parts n x t FullLatest _ ∙ trim_other n FullLatest _ (λ a b. refl) refl (λ w. refl) ∙ full_latest (suc n) t _
    ∙ ap (cond (is_full (suc n)) (Some (number_bytes (suc n)))) (new_other (suc n) x FullLatest _ refl refl refl) ∙ latest_step n
service_step n f g p q x t F P (Version v) =
    in_parts n x t (Version v) _ ∙ trim_version n v _
    ∙ ap (cond (within (service_from n) (service_from (suc n)) v) None) (full_other (suc n) t (Version v) _ refl refl ∙ new_version (suc n) x v _)
    ∙ version_step n (service_from n) (service_from (suc n)) v f g x F (first_rises n) (first_high (suc n) (omega arith))
service_step n f g p q x t F P (Full v) =
    in_parts n x t (Full v) _ ∙ trim_full n v _
    ∙ ap (cond (within (service_from n) (service_from (suc n)) v && is_full v) None) (full_full (suc n) t v _ ∙ ap (cond (is_full (suc n) && eqb v (suc n)) (Some t)) (new_other (suc n) x (Full v) _ refl refl refl))
    ∙ full_step n (service_from n) (service_from (suc n)) v p q t P (first_rises n) (first_high (suc n) (omega arith))
service_step n f g p q x t F P LastPn = unnamed n x t LastPn None (λ a b. refl) (λ w. refl) (λ w. refl) refl refl refl
service_step n f g p q x t F P AcceptedPn = unnamed n x t AcceptedPn None (λ a b. refl) (λ w. refl) (λ w. refl) refl refl refl
service_step n f g p q x t F P PendingV = unnamed n x t PendingV None (λ a b. refl) (λ w. refl) (λ w. refl) refl refl refl
service_step n f g p q x t F P PendingPn = unnamed n x t PendingPn None (λ a b. refl) (λ w. refl) (λ w. refl) refl refl refl
service_step n f g p q x t F P ElectionEpoch = unnamed n x t ElectionEpoch None (λ a b. refl) (λ w. refl) (λ w. refl) refl refl refl
service_step n f g p q x t F P BootCount = unnamed n x t BootCount None (λ a b. refl) (λ w. refl) (λ w. refl) refl refl refl
service_step n f g p q x t F P InSync = unnamed n x t InSync None (λ a b. refl) (λ w. refl) (λ w. refl) refl refl refl
service_step n f g p q x t F P Floor = unnamed n x t Floor None (λ a b. refl) (λ w. refl) (λ w. refl) refl refl refl

-- ---- the log

-- the record of version c + 1, and then the log's own edits
abbrev pub log_after : ℕ → List ℕ → Key → Cell → Cell
log_after c x k was = final (log_trimmed (first_read log_from c) c) k (final (begun c) k (cond (same_key k (Version (suc c))) (Some x) was))

log_begins : (c : ℕ) → final (begun c) FirstCommitted (if_any c (number_bytes (log_from c))) ≡ Some (number_bytes (log_from c))
log_begins zero = refl
log_begins (suc c) = rw (ne_eqb (suc c) 0 (λ e. omega arith)) refl

pub log_first_step : (c : ℕ) (x : List ℕ) → log_after c x FirstCommitted (if_any c (number_bytes (log_from c))) ≡ if_any (suc c) (number_bytes (log_from (suc c)))
log_first_step c x = ap (final (log_trimmed (first_read log_from c) c) FirstCommitted) (log_begins c) ∙ log_trim_first c

pub log_version_step : (c v : ℕ) (f g : ℕ → List ℕ) (x : List ℕ) → Grows c f g x → (was : Cell) → (v ≤ c → was ≡ cond (within (log_from c) (suc c) v) (Some (f v)) None) → v ≤ suc c
    → log_after c x (Version v) was ≡ cond (within (log_from (suc c)) (suc (suc c)) v) (Some (g v)) None
log_version_step c v f g x G was h le =
    log_trim_version c v _ ∙ ap (cond (within (log_from c) (log_from (suc c)) v) None) (log_begun_version c v _) ∙ by (cases_eq v (suc c))
  where
    whole : cond (within (log_from c) (log_from (suc c)) v) None (cond (eqb v (suc c)) (Some x) (cond (within (log_from c) (suc c) v) (Some (f v)) None)) ≡ cond (within (log_from (suc c)) (suc (suc c)) v) (Some (g v)) None
    whole = version_step c (log_from c) (log_from (suc c)) v f g x G (log_rises c) (log_high (suc c) (omega arith))

    new_cell : Bool → Cell → Cell
    new_cell b w = cond (within (log_from c) (log_from (suc c)) v) None (cond b (Some x) w)

    by : (v ≡ suc c) ⊎ (v ≡ suc c → ⊥) → cond (within (log_from c) (log_from (suc c)) v) None (cond (eqb v (suc c)) (Some x) was) ≡ cond (within (log_from (suc c)) (suc (suc c)) v) (Some (g v)) None
    by (inl e) =
        let t = eq-eqb v (suc c) e in
        let a : new_cell (eqb v (suc c)) was ≡ new_cell true was = ap (λ b. new_cell b was) t in
        let b : new_cell (eqb v (suc c)) (cond (within (log_from c) (suc c) v) (Some (f v)) None) ≡ new_cell true was = ap (λ b. new_cell b (cond (within (log_from c) (suc c) v) (Some (f v)) None)) t in
        a ∙ sym b ∙ whole
    by (inr ne) = ap (new_cell (eqb v (suc c))) (h (omega arith)) ∙ whole

-- a key that the log's own edits don't name, and a record after the new one
pub log_stays : (c : ℕ) (x : List ℕ) (k : Key) (was : Cell) → ((a b : ℕ) → covers a b k ≡ false) → same_key k FirstCommitted ≡ false → same_key k (Version (suc c)) ≡ false → log_after c x k was ≡ was
log_stays c x k was h f v = log_trim_other c k _ h f ∙ log_begun_other c k _ f ∙ ap (λ b. cond b (Some x) was) v

behind : (c a b v : ℕ) (x : List ℕ) (was : Cell) → b ≤ suc c → suc c < v → cond (within a b v) None (cond (eqb v (suc c)) (Some x) was) ≡ was
behind c a b v x was h lt = grind (arith, nat_tests)

pub log_behind : (c v : ℕ) (x : List ℕ) (was : Cell) → suc c < v → log_after c x (Version v) was ≡ was
log_behind c v x was lt =
    log_trim_version c v _ ∙ ap (cond (within (log_from c) (log_from (suc c)) v) None) (log_begun_version c v _)
    ∙ behind c (log_from c) (log_from (suc c)) v x was (log_high (suc c) (omega arith)) lt

-- only the first version's number and the records are kept in the log's area
pub log_other_step : (c : ℕ) (x : List ℕ) (k : Key) → is_kept_key Paxos k ≡ false → log_after c x k None ≡ None
log_other_step c x LastCommitted h = log_stays c x LastCommitted None (λ a b. refl) refl refl
log_other_step c x LastPn h = log_stays c x LastPn None (λ a b. refl) refl refl
log_other_step c x AcceptedPn h = log_stays c x AcceptedPn None (λ a b. refl) refl refl
log_other_step c x PendingV h = log_stays c x PendingV None (λ a b. refl) refl refl
log_other_step c x PendingPn h = log_stays c x PendingPn None (λ a b. refl) refl refl
log_other_step c x FullLatest h = log_stays c x FullLatest None (λ a b. refl) refl refl
log_other_step c x ElectionEpoch h = log_stays c x ElectionEpoch None (λ a b. refl) refl refl
log_other_step c x BootCount h = log_stays c x BootCount None (λ a b. refl) refl refl
log_other_step c x InSync h = log_stays c x InSync None (λ a b. refl) refl refl
log_other_step c x Floor h = log_stays c x Floor None (λ a b. refl) refl refl
log_other_step c x (Full v) h = log_stays c x (Full v) None (λ a b. refl) refl refl
log_other_step c x FirstCommitted h = absurd cc
log_other_step c x (Version v) h = absurd cc
