-- The keys that a fold of a log of values may have, and how much a store weighs under them.
use Rattle.calm_sizes.proofs.Listed.{In, here, in_left, in_right, in_run, run, there}
use Rattle.law_names.proofs.Runs.{AllValues, log_from, row_after, service_from, within}
use Rattle.law_names.proofs.Table.{Area, Cell, Key, Kv, Log, Service, area_of, cell, fold, get, incrementals, place, readings_of, version_of_log}
use Rattle.log_model.proofs.Committed.{holds}
use Rattle.log_model.proofs.FoldKeys.{kept_is}
use Rattle.log_model.proofs.FoldWindows.{Holds}
use Rattle.log_model.specs.Windows.{IsKeptKey, is_full, is_kept_key}
use Rattle.mon_tx.specs.Map.{Place}
use Rattle.mon_tx.specs.declared.key.Area.TheVariants as area
use Rattle.mon_tx.specs.declared.key.Key.TheVariants as key
use Rattle.std.proofs.Common.{Bool, List, None, Some, ap, arith, cond, false, inl, inr, leb, length, ltb, refl, subst, suc, sym, true, ℕ, ◌%◌, ◌++◌, ◌+◌, ◌-◌, ◌<◌, ◌^◌, ◌∙◌, ◌∷◌, ◌≡◌, ◌≤◌, ◌⊎◌}
use Rattle.std.proofs.lemmas.Bool.{and_parts, cases_lt, eqb-true, leb-true, ltb-true}

-- ---- a service's keys

abbrev pub version_at : Area → ℕ → Place
version_at a v = place a (key.Version v)

-- a window has at most 75 versions, and three of them may have full maps
abbrev pub service_keys : Area → ℕ → List Place
service_keys a from =
    place a key.FirstCommitted ∷ place a key.LastCommitted ∷ place a key.FullLatest
    ∷ place a (key.Full (from + 24)) ∷ place a (key.Full (from + 49)) ∷ place a (key.Full (from + 74))
    ∷ run (version_at a) from 75

-- the cell isn't empty
abbrev IsThere : Cell → Type 0
IsThere None = ⊥
IsThere (Some x) = Unit {0}

there_is : (c : Cell) (x : List ℕ) → c ≡ Some x → IsThere c
there_is None x e = absurd cc
there_is (Some y) x e = tt

chosen : (b : Bool) (x : List ℕ) → IsThere (cond b (Some x) None) → b ≡ true
chosen true x h = refl
chosen false x h = absurd h

-- from one version up to another
record IsWithin (from to v : ℕ) : Type 0 where
  low : from ≤ v
  high : v < to

is_within : (from to v : ℕ) → within from to v ≡ true → IsWithin from to v
is_within from to v h =
    let p = and_parts (leb from v) (ltb v to) h in record { low = leb-true from v p.0; high = ltb-true v to p.1 }

-- a multiple of 25 in the window
full_place : (a : Area) (from v : ℕ) → (v ≡ from + 24) ⊎ ((v ≡ from + 49) ⊎ (v ≡ from + 74))
    → In (place a (key.Full v)) (service_keys a from)
full_place a from v (inl e) =
    subst (λ (w : ℕ). In (place a (key.Full w)) (service_keys a from)) (sym e) (there (there (there here)))
full_place a from v (inr (inl e)) =
    subst (λ (w : ℕ). In (place a (key.Full w)) (service_keys a from)) (sym e) (there (there (there (there here))))
full_place a from v (inr (inr e)) =
    subst (λ (w : ℕ). In (place a (key.Full w)) (service_keys a from)) (sym e)
    (there (there (there (there (there here)))))

full_in : (n v : ℕ) → service_from n ≤ v → v ≤ n → v % 25 ≡ 0
    → (v ≡ service_from n + 24) ⊎ ((v ≡ service_from n + 49) ⊎ (v ≡ service_from n + 74))
full_in n v low high m = by (cases_lt v (service_from n + 25)) (cases_lt v (service_from n + 50))
  where
    by : (v < service_from n + 25) ⊎ (service_from n + 25 ≤ v)
        → (v < service_from n + 50) ⊎ (service_from n + 50 ≤ v)
        → (v ≡ service_from n + 24) ⊎ ((v ≡ service_from n + 49) ⊎ (v ≡ service_from n + 74))
    by (inl lt) k = inl (omega arith)
    by (inr le) (inl lt) = inr (inl (omega arith))
    by (inr le) (inr ge) = inr (inr (omega arith))

row_listed : (s : Service) (is : List (List ℕ)) (a : Area) (k : Key) → IsThere (row_after s is k)
    → In (place a k) (service_keys a (service_from (length is)))
row_listed s is a key.FirstCommitted h = here
row_listed s is a key.LastCommitted h = there here
row_listed s is a key.FullLatest h = there (there here)
row_listed s is a (key.Version v) h =
    let w = is_within (service_from (length is)) (suc (length is)) v
    (chosen (within (service_from (length is)) (suc (length is)) v) _ h) in
    let low = w.low in
    let high = w.high in
    there (there
    (there (there (there (there (in_run (version_at a) 75 (service_from (length is)) v low (omega arith)))))))
row_listed s is a (key.Full v) h =
    let p = and_parts (within (service_from (length is)) (suc (length is)) v) (is_full v) (chosen _ _ h) in
    let w = is_within (service_from (length is)) (suc (length is)) v p.0 in
    let low = w.low in
    let high = w.high in
    full_place a (service_from (length is)) v (full_in (length is) v low (omega arith) (eqb-true (v % 25) 0 p.1))
row_listed s is a key.LastPn h = absurd h
row_listed s is a key.AcceptedPn h = absurd h
row_listed s is a key.PendingV h = absurd h
row_listed s is a key.PendingPn h = absurd h
row_listed s is a key.ElectionEpoch h = absurd h
row_listed s is a key.BootCount h = absurd h
row_listed s is a key.InSync h = absurd h
row_listed s is a key.Floor h = absurd h

-- ---- all keys of a fold

abbrev pub log_keys : ℕ → List Place
log_keys c = place area.Paxos key.FirstCommitted ∷ run (version_at area.Paxos) (log_from c) (suc c - log_from c)

abbrev pub kept_from : Service → List (List ℕ) → ℕ → ℕ
kept_from s log c = service_from (version_of_log s log c)

abbrev pub fold_keys : List (List ℕ) → ℕ → List Place
fold_keys log c =
    log_keys c ++ (service_keys area.Kv (kept_from Kv log c) ++ service_keys area.Logm (kept_from Log log c))

module _ (log : List (List ℕ)) (short : length log ≤ 2 ^ 62) (all : AllValues log) (c : ℕ) (h : c ≤ length log) where
  kept : Holds log c
  kept = holds log short all c h

  row : (s : Service) (k : Key) → cell (fold log c) (area_of s) k ≡ row_after s (incrementals s log c) k
  unfolding readings_of
  row s k = kept.keeps.rows s k

  above : (v : ℕ) → c < v → cell (fold log c) area.Paxos (key.Version v) ≡ None
  unfolding readings_of
  above v gt = kept.above v gt

  record_is : (v : ℕ) → v ≤ c → IsThere (cell (fold log c) area.Paxos (key.Version v)) → log_from c ≤ v
  unfolding readings_of
  record_is v le t =
      let e = kept.keeps.records v le in
      let w = is_within (log_from c) (suc c) v (chosen (within (log_from c) (suc c) v) _ (subst IsThere e t)) in
      w.low

  version_listed : (v : ℕ) → IsThere (cell (fold log c) area.Paxos (key.Version v))
      → In (version_at area.Paxos v) (log_keys c)
  version_listed v t = by (cases_lt c v)
    where
      by : (c < v) ⊎ (v ≤ c) → In (version_at area.Paxos v) (log_keys c)
      by (inl gt) = absurd (subst IsThere (above v gt) t)
      by (inr le) =
          let low = record_is v le t in
          there (in_run (version_at area.Paxos) (suc c - log_from c) (log_from c) v low (omega arith))

  named_listed : (a : Area) (k : Key) → is_kept_key a k ≡ true → IsThere (cell (fold log c) a k)
      → In (place a k) (fold_keys log c)
  named_listed area.Kv k e t =
      in_right (log_keys c) _ (in_left (service_keys area.Kv (kept_from Kv log c)) _
      (row_listed Kv (incrementals Kv log c) area.Kv k (subst IsThere (row Kv k) t)))
  named_listed area.Logm k e t =
      in_right (log_keys c) _ (in_right (service_keys area.Kv (kept_from Kv log c)) _
      (row_listed Log (incrementals Log log c) area.Logm k (subst IsThere (row Log k) t)))
  named_listed area.Paxos key.FirstCommitted e t = here
  named_listed area.Paxos (key.Version v) e t = in_left (log_keys c) _ (version_listed v t)
  named_listed area.Paxos key.LastCommitted e t = absurd cc
  named_listed area.Paxos key.LastPn e t = absurd cc
  named_listed area.Paxos key.AcceptedPn e t = absurd cc
  named_listed area.Paxos key.PendingV e t = absurd cc
  named_listed area.Paxos key.PendingPn e t = absurd cc
  named_listed area.Paxos key.FullLatest e t = absurd cc
  named_listed area.Paxos key.ElectionEpoch e t = absurd cc
  named_listed area.Paxos key.BootCount e t = absurd cc
  named_listed area.Paxos key.InSync e t = absurd cc
  named_listed area.Paxos key.Floor e t = absurd cc
  named_listed area.Paxos (key.Full v) e t = absurd cc
  named_listed area.Monitor k e t = absurd cc
  named_listed area.Sync k e t = absurd cc

  pub fold_listed : (q : Place) (x : List ℕ) → get (fold log c) q ≡ Some x → In q (fold_keys log c)
  fold_listed q x e =
      let K : IsKeptKey q = kept_is log short all c h q x e in
      subst (λ (p : Place). In p (fold_keys log c)) (sym K.is)
      (named_listed K.area K.key K.kept
      (there_is (cell (fold log c) K.area K.key) x (sym (ap (get (fold log c)) K.is) ∙ e)))
