-- The keys of the fold of a log of values: none is a monitor's own, each is a named one, and none is above that of the log's
-- first version.
use Rattle.std.proofs.Common.{◌≡◌, ℕ, suc, ◌+◌, ◌-◌, ◌<◌, ◌≤◌, true, false, List, [], ◌∷◌, ◌++◌, length, map, get_or, codes, Some, None, Less, nat_cmp, ◌⊎◌, inl, inr, refl, sym, ap, subst, ◌∙◌, arith, lit≤}
use Rattle.std.specs.Cmp.{nat_cmp_is}
use Rattle.std.specs.Cmp.Lexicographic.{slice_cmp}
use Rattle.std.specs.FinMap.{get}
use Rattle.std.specs.List.{AllByRecursion, range_with_len}
use Rattle.mon_tx.specs.declared.key.Area.{Area}
use Rattle.mon_tx.specs.declared.key.Area.TheVariants as area
use Rattle.mon_tx.specs.declared.key.Key.{Key}
use Rattle.mon_tx.specs.declared.key.Key.TheVariants as key
use Rattle.mon_tx.specs.declared.op.Op.{Op}
use Rattle.mon_tx.specs.Keys.{decimal_text, place, cell, is_local}
use Rattle.mon_tx.specs.Map.{Place, place_cmp, Store}
use Rattle.mon_tx.proofs.Ties.{decimal_first}
use Rattle.mon_msg.specs.Fold.{fold, incrementals}
use Rattle.mon_msg.specs.Puts.{area_of}
use Rattle.mon_msg.specs.Protocol.Changes.{erase}
use Rattle.mon_msg.specs.Protocol.Parts.{map_text}
use Rattle.mon_msg.specs.Protocol.Readings.{readings_of}
use Rattle.log_model.specs.LogOfValues.{IsOlder, none, same, range}
use Rattle.log_model.specs.Windows.{is_kept_key, first_read, service_from, log_from}
use Rattle.log_model.proofs.AllPlaces.{AllPlaces, PutsAt}
use Rattle.log_model.proofs.AreaEdits.{Edit, Set, Drop, DropRange, encoded}
use Rattle.log_model.proofs.FoldWindows.{Holds}
use Rattle.log_model.proofs.Lists.{all_append}
use Rattle.log_model.proofs.RuleEdits.{begun, log_trimmed, service_edits, value_is}
use Rattle.log_model.proofs.Sharing.{of_own}
use Rattle.log_model.proofs.Windows.{Next}

-- ---- a monitor's own keys

pub no_local : (log : List (List ℕ)) (c : ℕ) → Holds log c → (q : Place) → is_local c q ≡ true → get (fold log c) q ≡ None
unfolding readings_of
no_local log c H q e =
    of_own (λ p. get (fold log c) p ≡ None) c (record {
      last_committed = paxos key.LastCommitted refl;
      last_pn = paxos key.LastPn refl;
      accepted_pn = paxos key.AcceptedPn refl;
      pending_v = paxos key.PendingV refl;
      pending_pn = paxos key.PendingPn refl;
      behind = above;
      epoch = H.others area.Monitor key.ElectionEpoch refl;
      boots = H.others area.Monitor key.BootCount refl;
      mark = H.others area.Sync key.InSync refl;
      floor = H.others area.Sync key.Floor refl;
    }) q e
  where
    above : cell (fold log c) area.Paxos (key.Version (c + 1)) ≡ None
    above = H.above (c + 1) (omega arith)

    paxos : (k : Key) → is_kept_key area.Paxos k ≡ false → cell (fold log c) area.Paxos k ≡ None
    paxos = H.others area.Paxos

-- ---- named keys

pub record IsNamed (q : Place) : Type 0 where
  pub area : Area
  pub key : Key
  pub is : q ≡ place area key

abbrev pub AllNamed : Store → Type 0
AllNamed = AllPlaces IsNamed

-- what a change puts has a name
abbrev pub PutsNamed : Op → Type 0
PutsNamed = PutsAt IsNamed

edits_named : (a : Area) (es : List Edit) → AllByRecursion PutsNamed (encoded a es)
edits_named a [] = tt
edits_named a (Set k x ∷ es) = (record { area = a; key = k; is = refl }, edits_named a es)
edits_named a (Drop k ∷ es) = (tt, edits_named a es)
edits_named a (DropRange from to ∷ es) = (tt, edits_named a es)

each_named : (a : Area) (vs : List ℕ) (ops : List Op) → AllByRecursion PutsNamed ops → AllByRecursion PutsNamed (map (λ v. erase a (key.Version v)) vs ++ ops)
each_named a [] ops h = h
each_named a (v ∷ vs) ops h = (tt, each_named a vs ops h)

older_named : {ops older : List Op} → IsOlder ops older → AllByRecursion PutsNamed ops → AllByRecursion PutsNamed older
older_named none h = tt
older_named (same op o) h = (h.0, older_named o h.1)
older_named (range a from to {older = older} o) h = each_named a (range_with_len from (to - from)) older (older_named o h.1)

three_named : (a b d : Area) (es fs gs : List Edit) → AllByRecursion PutsNamed (encoded a es ++ (encoded b fs ++ encoded d gs))
three_named a b d es fs gs =
    all_append PutsNamed (encoded a es) (encoded b fs ++ encoded d gs) (edits_named a es) (all_append PutsNamed (encoded b fs) (encoded d gs) (edits_named b fs) (edits_named d gs))

pub value_named : (log : List (List ℕ)) (c : ℕ) (newer older : List Op) → Next log c newer → IsOlder newer older → AllByRecursion PutsNamed older
value_named log c newer older N o =
    older_named o (subst (AllByRecursion PutsNamed) (sym (N.ops ∙ value_is (first_read log_from c) c (area_of N.service) _ _ N.incremental (map_text N.map)))
    (three_named area.Paxos (area_of N.service) area.Paxos (begun c)
    (service_edits (suc (length (incrementals N.service log c))) (first_read service_from (length (incrementals N.service log c))) N.incremental (map_text N.map)) (log_trimmed (first_read log_from c) c)))

-- ---- the greatest key

-- a decimal text is before a text that begins with a letter
decimal_before : (v c : ℕ) (cs : List ℕ) → 58 ≤ c → slice_cmp nat_cmp (decimal_text v) (c ∷ cs) ≡ Less
decimal_before v c cs h = by (decimal_text v) (decimal_first v)
  where
    before : (d : ℕ) → d < c → nat_cmp d c ≡ Less
    before d lt = sym (nat_cmp_is d c Less lt)

    by : (ds : List ℕ) → (48 ≤ get_or ds 0 0) × (get_or ds 0 0 < 58) → slice_cmp nat_cmp ds (c ∷ cs) ≡ Less
    by [] k = refl
    by (d ∷ ds) k = rw (before d (omega (arith, k.1))) refl

abbrev pub first_place : Place
first_place = place area.Paxos key.FirstCommitted

pub greatest : (log : List (List ℕ)) (c : ℕ) → Holds log c → AllNamed (fold log c) → (q : Place) (x : List ℕ) → get (fold log c) q ≡ Some x → (q ≡ first_place) ⊎ (place_cmp q first_place ≡ Less)
greatest log c H all q x e = by (all q x e).area (all q x e).key (all q x e).is
  where
    absent : (k : Key) → is_kept_key area.Paxos k ≡ false → q ≡ place area.Paxos k → (q ≡ first_place) ⊎ (place_cmp q first_place ≡ Less)
    absent k t i = let g : Some x ≡ None = sym e ∙ ap (get (fold log c)) i ∙ H.others area.Paxos k t in absurd cc

    by : (a : Area) (k : Key) → q ≡ place a k → (q ≡ first_place) ⊎ (place_cmp q first_place ≡ Less)
    by area.Kv k i = inr (ap (λ (p : Place). place_cmp p first_place) i)
    by area.Logm k i = inr (ap (λ (p : Place). place_cmp p first_place) i)
    by area.Monitor k i = inr (ap (λ (p : Place). place_cmp p first_place) i)
    by area.Sync k i = inr (ap (λ (p : Place). place_cmp p first_place) i)
    by area.Paxos key.FirstCommitted i = inl i
    by area.Paxos (key.Version v) i = inr (ap (λ (p : Place). place_cmp p first_place) i ∙ decimal_before v 102 (codes "irst_committed") (lit≤ tt))
    by area.Paxos key.LastCommitted i = absent key.LastCommitted refl i
    by area.Paxos key.LastPn i = absent key.LastPn refl i
    by area.Paxos key.AcceptedPn i = absent key.AcceptedPn refl i
    by area.Paxos key.PendingV i = absent key.PendingV refl i
    by area.Paxos key.PendingPn i = absent key.PendingPn refl i
    by area.Paxos key.FullLatest i = absent key.FullLatest refl i
    by area.Paxos key.ElectionEpoch i = absent key.ElectionEpoch refl i
    by area.Paxos key.BootCount i = absent key.BootCount refl i
    by area.Paxos key.InSync i = absent key.InSync refl i
    by area.Paxos key.Floor i = absent key.Floor refl i
    by area.Paxos (key.Full v) i = absent (key.Full v) refl i
