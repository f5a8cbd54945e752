-- What the rules of a value leave under each key.
use Rattle.std.proofs.Common.{◌≡◌, ℕ, zero, suc, ◌+◌, ◌-◌, ◌≤◌, ◌<◌, true, false, ◌&&◌, cond, eqb, leb, ltb, List, [], ◌∷◌, map, Some, None, ◌⊎◌, inl, inr, refl, ap, ◌∙◌, arith, lit≤}
use Rattle.std.proofs.lemmas.Bool.{cases_lt, cond_both, cond-true, cond-false, le-leb, lt-leb, lt-ltb, le-ltb}
use Rattle.std.proofs.lemmas.Bool.Decides.{nat_tests}
use Rattle.std.specs.List.{range_with_len, filter}
use Rattle.mon_tx.specs.declared.key.Key.{Key}
use Rattle.mon_tx.specs.declared.key.Key.TheVariants.{FirstCommitted, LastCommitted, FullLatest, Version, Full}
use Rattle.mon_tx.specs.Decision.{Cell}
use Rattle.mon_tx.specs.Keys.{same_key, covers}
use Rattle.mon_tx.specs.Map.{number_bytes}
use Rattle.mon_msg.specs.Protocol.Rules.{full_between, service_to, paxos_to}
use Rattle.log_model.specs.Windows.{service_from, log_from, within, is_full, first_read}
use Rattle.log_model.proofs.AreaEdits.{Edit, Set, Drop, final, final_append}
use Rattle.log_model.proofs.RuleEdits.{first_set, begun, new, full, full_drops, cut, trimmed, log_cut, log_trimmed}

-- ---- full maps that go

abbrev each : List ℕ → List Edit
each vs = map (λ v. Drop (Full v)) vs

each_other : (vs : List ℕ) (k : Key) (c : Cell) → ((w : ℕ) → same_key k (Full w) ≡ false) → final (each vs) k c ≡ c
each_other [] k c h = refl
each_other (w ∷ vs) k c h = rw (h w, final) (each_other vs k c h)

more_full : (from k v : ℕ) (c : Cell) → is_full from ≡ true → cond (within (from + 1) (from + 1 + k) v && is_full v) None (cond (eqb v from) None c) ≡ cond (within from (from + suc k) v && is_full v) None c
more_full from k v c h = grind (arith, nat_tests)

more_not_full : (from k v : ℕ) (c : Cell) → is_full from ≡ false → cond (within (from + 1) (from + 1 + k) v && is_full v) None c ≡ cond (within from (from + suc k) v && is_full v) None c
more_not_full from k v c h = grind (arith, nat_tests)

drops_full : (k from v : ℕ) (c : Cell) → final (each (filter is_full (range_with_len from k))) (Full v) c ≡ cond (within from (from + k) v && is_full v) None c
drops_full zero from v c = grind (arith, nat_tests)
drops_full (suc k) from v c =
    let ih : (c : Cell) → final (each (filter is_full (range_with_len (from + 1) k))) (Full v) c ≡ cond (within (from + 1) (from + 1 + k) v && is_full v) None c = λ c. drops_full k (from + 1) v c in
    cond_both (is_full from) (from ∷ filter is_full (range_with_len (from + 1) k)) (filter is_full (range_with_len (from + 1) k))
    (λ ws. final (each ws) (Full v) c ≡ cond (within from (from + suc k) v && is_full v) None c)
    (λ h. ih _ ∙ more_full from k v c h)
    (λ h. ih c ∙ more_not_full from k v c h)

-- ---- the first version of a service, after n versions

pub first_high : (n : ℕ) → 1 ≤ n → service_from n ≤ n
first_high n h = omega arith

pub first_rises : (n : ℕ) → service_from n ≤ service_from (suc n)
first_rises n = omega arith

-- the new version trims: the first version goes up by 25
pub record Trims (n a b : ℕ) : Type 0 where
  pub due : 75 ≤ suc n - a
  pub read : first_read service_from n ≡ a
  pub goal : service_to (suc n) a ≡ b

pub record Stays (n a b : ℕ) : Type 0 where
  pub not_due : suc n - first_read service_from n < 75
  pub same : b ≡ a

pub window : (n : ℕ) → Trims n (service_from n) (service_from (suc n)) ⊎ Stays n (service_from n) (service_from (suc n))
window zero = inr (record { not_due = lit≤ tt; same = refl })
window (suc m) = by (cases_lt (suc (suc m) - service_from (suc m)) 75)
  where
    by : (suc (suc m) - service_from (suc m) < 75) ⊎ (75 ≤ suc (suc m) - service_from (suc m)) → Trims (suc m) (service_from (suc m)) (service_from (suc (suc m))) ⊎ Stays (suc m) (service_from (suc m)) (service_from (suc (suc m)))
    by (inl lt) = inr (record { not_due = lt; same = omega arith })
    by (inr le) = inl (record { due = le; read = refl; goal = omega arith })

pub trim_cut : (n a b : ℕ) → Trims n a b → trimmed (suc n) (first_read service_from n) ≡ cut a b
trim_cut n a b t = ap (trimmed (suc n)) t.read ∙ cond-true (leb 75 (suc n - a)) _ _ (le-leb 75 (suc n - a) t.due) ∙ ap (cut a) t.goal

pub trim_nil : (n a b : ℕ) → Stays n a b → trimmed (suc n) (first_read service_from n) ≡ []
trim_nil n a b s = cond-false (leb 75 (suc n - first_read service_from n)) _ _ (lt-leb 75 (suc n - first_read service_from n) s.not_due)

-- ---- what a trim of a service leaves

cut_version : (a b v : ℕ) (c : Cell) → final (cut a b) (Version v) c ≡ cond (within a b v) None c
cut_version a b v c = final_append (full_drops a b) (first_set b) (Version v) _ ∙ each_other (full_between a b) (Version v) _ (λ w. refl)

cut_full : (a b v : ℕ) (c : Cell) → a ≤ b → final (cut a b) (Full v) c ≡ cond (within a b v && is_full v) None c
cut_full a b v c h =
    let e : a + (b - a) ≡ b = omega arith in
    final_append (full_drops a b) (first_set b) (Full v) c ∙ drops_full (b - a) a v c ∙ ap (λ z. cond (within a z v && is_full v) None c) e

cut_first : (a b : ℕ) (c : Cell) → final (cut a b) FirstCommitted c ≡ Some (number_bytes b)
cut_first a b c = final_append (full_drops a b) (first_set b) FirstCommitted c

cut_other : (a b : ℕ) (k : Key) (c : Cell) → covers a b k ≡ false → same_key k FirstCommitted ≡ false → ((w : ℕ) → same_key k (Full w) ≡ false) → final (cut a b) k c ≡ c
cut_other a b k c h f g = rw (h, final) (final_append (full_drops a b) (first_set b) k c ∙ rw (f, final) (each_other (full_between a b) k c g))

nothing_within : (a v : ℕ) (c : Cell) → c ≡ cond (within a a v) None c
nothing_within a v c = grind (arith, nat_tests)

no_full_within : (a v : ℕ) (c : Cell) → c ≡ cond (within a a v && is_full v) None c
no_full_within a v c = grind (arith, nat_tests)

-- a service with n versions gets version n + 1
module _ (n : ℕ) where
  abbrev trim : List Edit
  trim = trimmed (suc n) (first_read service_from n)

  -- what holds after a cut if the window moves, and without one if it stays, holds after the trim
  by_window : (P : List Edit → ℕ → Type 0) → P (cut (service_from n) (service_from (suc n))) (service_from (suc n)) → P [] (service_from n) → P trim (service_from (suc n))
  by_window P cuts nothing = by (window n)
    where
      by : Trims n (service_from n) (service_from (suc n)) ⊎ Stays n (service_from n) (service_from (suc n)) → P trim (service_from (suc n))
      by (inl t) = let e = trim_cut n _ _ t in rw e cuts
      by (inr s) = let e = trim_nil n _ _ s in let q = s.same in rw (e, q) nothing

  pub trim_version : (v : ℕ) (c : Cell) → final trim (Version v) c ≡ cond (within (service_from n) (service_from (suc n)) v) None c
  trim_version v c = by_window (λ es b. final es (Version v) c ≡ cond (within (service_from n) b v) None c) (cut_version (service_from n) (service_from (suc n)) v c) (nothing_within (service_from n) v c)

  pub trim_full : (v : ℕ) (c : Cell) → final trim (Full v) c ≡ cond (within (service_from n) (service_from (suc n)) v && is_full v) None c
  trim_full v c =
      by_window (λ es b. final es (Full v) c ≡ cond (within (service_from n) b v && is_full v) None c) (cut_full (service_from n) (service_from (suc n)) v c (first_rises n)) (no_full_within (service_from n) v c)

  pub trim_first : final trim FirstCommitted (Some (number_bytes (service_from n))) ≡ Some (number_bytes (service_from (suc n)))
  trim_first = by_window (λ es b. final es FirstCommitted (Some (number_bytes (service_from n))) ≡ Some (number_bytes b)) (cut_first (service_from n) (service_from (suc n)) _) refl

  pub trim_other : (k : Key) (c : Cell) → ((a b : ℕ) → covers a b k ≡ false) → same_key k FirstCommitted ≡ false → ((w : ℕ) → same_key k (Full w) ≡ false) → final trim k c ≡ c
  trim_other k c h f g = by_window (λ es b. final es k c ≡ c) (cut_other (service_from n) (service_from (suc n)) k c (h _ _) f g) refl

-- ---- the new version and its full map

begun_other : (n : ℕ) (k : Key) (c : Cell) → same_key k FirstCommitted ≡ false → final (cond (eqb n 1) (first_set 1) []) k c ≡ c
begun_other n k c h = cond_both (eqb n 1) (first_set 1) [] (λ es. final es k c ≡ c) (λ e. rw (h, final) refl) (λ e. refl)

pub new_version : (n : ℕ) (x : List ℕ) (v : ℕ) (c : Cell) → final (new n x) (Version v) c ≡ cond (eqb v n) (Some x) c
new_version n x v c = final_append (cond (eqb n 1) (first_set 1) []) (Set LastCommitted (number_bytes n) ∷ []) (Version v) _ ∙ begun_other n (Version v) _ refl

pub new_last : (n : ℕ) (x : List ℕ) (c : Cell) → final (new n x) LastCommitted c ≡ Some (number_bytes n)
new_last n x c = final_append (cond (eqb n 1) (first_set 1) []) (Set LastCommitted (number_bytes n) ∷ []) LastCommitted _

pub new_first : (n : ℕ) (x : List ℕ) (c : Cell) → final (new n x) FirstCommitted c ≡ cond (eqb n 1) (Some (number_bytes 1)) c
new_first n x c =
    final_append (cond (eqb n 1) (first_set 1) []) (Set LastCommitted (number_bytes n) ∷ []) FirstCommitted _
    ∙ cond_both (eqb n 1) (first_set 1) [] (λ es. final es FirstCommitted c ≡ cond (eqb n 1) (Some (number_bytes 1)) c) (λ e. rw e refl) (λ e. rw e refl)

pub new_other : (n : ℕ) (x : List ℕ) (k : Key) (c : Cell) → same_key k (Version n) ≡ false → same_key k FirstCommitted ≡ false → same_key k LastCommitted ≡ false → final (new n x) k c ≡ c
new_other n x k c v f l = rw (v, final) (final_append (cond (eqb n 1) (first_set 1) []) (Set LastCommitted (number_bytes n) ∷ []) k c ∙ rw (l, final) (begun_other n k c f))

pub full_other : (n : ℕ) (t : List ℕ) (k : Key) (c : Cell) → same_key k (Full n) ≡ false → same_key k FullLatest ≡ false → final (full n t) k c ≡ c
full_other n t k c h g = cond_both (is_full n) (Set (Full n) t ∷ Set FullLatest (number_bytes n) ∷ []) [] (λ es. final es k c ≡ c) (λ e. rw (h, g, final) refl) (λ e. refl)

pub full_full : (n : ℕ) (t : List ℕ) (v : ℕ) (c : Cell) → final (full n t) (Full v) c ≡ cond (is_full n && eqb v n) (Some t) c
full_full n t v c = cond_both (is_full n) (Set (Full n) t ∷ Set FullLatest (number_bytes n) ∷ []) [] (λ es. final es (Full v) c ≡ cond (is_full n && eqb v n) (Some t) c) (λ e. rw e refl) (λ e. rw e refl)

pub full_latest : (n : ℕ) (t : List ℕ) (c : Cell) → final (full n t) FullLatest c ≡ cond (is_full n) (Some (number_bytes n)) c
full_latest n t c = cond_both (is_full n) (Set (Full n) t ∷ Set FullLatest (number_bytes n) ∷ []) [] (λ es. final es FullLatest c ≡ cond (is_full n) (Some (number_bytes n)) c) (λ e. rw e refl) (λ e. rw e refl)

-- ---- the log, after c versions

pub log_high : (c : ℕ) → 1 ≤ c → log_from c ≤ c
log_high c h = omega arith

pub log_rises : (c : ℕ) → log_from c ≤ log_from (suc c)
log_rises c = omega arith

pub record Falls (c a b : ℕ) : Type 0 where
  pub due : 750 < c - a
  pub read : first_read log_from c ≡ a
  pub goal : paxos_to a c ≡ b

pub record Rests (c a b : ℕ) : Type 0 where
  pub not_due : c - first_read log_from c ≤ 750
  pub same : b ≡ a

pub log_window : (c : ℕ) → Falls c (log_from c) (log_from (suc c)) ⊎ Rests c (log_from c) (log_from (suc c))
log_window zero = inr (record { not_due = lit≤ tt; same = refl })
log_window (suc m) = by (cases_lt 750 (suc m - log_from (suc m)))
  where
    by : (750 < suc m - log_from (suc m)) ⊎ (suc m - log_from (suc m) ≤ 750) → Falls (suc m) (log_from (suc m)) (log_from (suc (suc m))) ⊎ Rests (suc m) (log_from (suc m)) (log_from (suc (suc m)))
    by (inl lt) = inl (record { due = lt; read = refl; goal = omega arith })
    by (inr le) = inr (record { not_due = le; same = omega arith })

pub fall_cut : (c a b : ℕ) → Falls c a b → log_trimmed (first_read log_from c) c ≡ log_cut a b
fall_cut c a b t = ap (λ z. log_trimmed z c) t.read ∙ cond-true (ltb 750 (c - a)) _ _ (lt-ltb 750 (c - a) t.due) ∙ ap (log_cut a) t.goal

pub rest_nil : (c a b : ℕ) → Rests c a b → log_trimmed (first_read log_from c) c ≡ []
rest_nil c a b t = cond-false (ltb 750 (c - first_read log_from c)) _ _ (le-ltb 750 (c - first_read log_from c) t.not_due)

module _ (c : ℕ) where
  abbrev log_trim : List Edit
  log_trim = log_trimmed (first_read log_from c) c

  by_log_window : (P : List Edit → ℕ → Type 0) → P (log_cut (log_from c) (log_from (suc c))) (log_from (suc c)) → P [] (log_from c) → P log_trim (log_from (suc c))
  by_log_window P cuts nothing = by (log_window c)
    where
      by : Falls c (log_from c) (log_from (suc c)) ⊎ Rests c (log_from c) (log_from (suc c)) → P log_trim (log_from (suc c))
      by (inl t) = let e = fall_cut c _ _ t in rw e cuts
      by (inr s) = let e = rest_nil c _ _ s in let q = s.same in rw (e, q) nothing

  pub log_trim_version : (v : ℕ) (x : Cell) → final log_trim (Version v) x ≡ cond (within (log_from c) (log_from (suc c)) v) None x
  log_trim_version v x = by_log_window (λ es b. final es (Version v) x ≡ cond (within (log_from c) b v) None x) refl (nothing_within (log_from c) v x)

  pub log_trim_other : (k : Key) (x : Cell) → ((a b : ℕ) → covers a b k ≡ false) → same_key k FirstCommitted ≡ false → final log_trim k x ≡ x
  log_trim_other k x h f = by_log_window (λ es b. final es k x ≡ x) (let e = h (log_from c) (log_from (suc c)) in rw (e, f) refl) refl

  pub log_trim_first : final log_trim FirstCommitted (Some (number_bytes (log_from c))) ≡ Some (number_bytes (log_from (suc c)))
  log_trim_first = by_log_window (λ es b. final es FirstCommitted (Some (number_bytes (log_from c))) ≡ Some (number_bytes b)) refl refl

pub log_begun_other : (c : ℕ) (k : Key) (x : Cell) → same_key k FirstCommitted ≡ false → final (begun c) k x ≡ x
log_begun_other c k x f = cond_both (eqb c 0) (first_set 1) [] (λ es. final es k x ≡ x) (λ e. rw f refl) (λ e. refl)

pub log_begun_version : (c v : ℕ) (x : Cell) → final (begun c) (Version v) x ≡ x
log_begun_version c v x = cond_both (eqb c 0) (first_set 1) [] (λ es. final es (Version v) x ≡ x) (λ e. refl) (λ e. refl)
