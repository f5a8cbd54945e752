-- The keys of the fold of a log of values; and a store that shares the fold shares the next one, once it learns the next version.
use Rattle.std.proofs.Common.{◌≡◌, ℕ, zero, suc, ◌+◌, ◌≤◌, ◌^◌, Bool, true, false, not, cond, List, [], ◌∷◌, ◌++◌, length, Some, None, Less, ◌⊎◌, refl, sym, ap, subst, ◌∙◌, arith}
use Rattle.std.specs.FinMap.{get, get-empty, same_map}
use Rattle.std.specs.List.{AllByRecursion}
use Rattle.std.specs.Ordering.{eq_by_cmp}
use Rattle.std.proofs.lemmas.Bool.{eq-eqb}
use Rattle.mon_tx.specs.declared.key.Area.{Area}
use Rattle.mon_tx.specs.declared.key.Area.TheVariants as area
use Rattle.mon_tx.specs.declared.key.Key.{Key}
use Rattle.mon_tx.specs.declared.key.Key.TheVariants as key
use Rattle.mon_tx.specs.declared.op.Op.{Op}
use Rattle.mon_tx.specs.Decision.{Cell, Decision, decided, later, decision, or_before}
use Rattle.mon_tx.specs.Decode.{ops_in}
use Rattle.mon_tx.specs.Keys.{place, number, is_local, shared}
use Rattle.mon_tx.specs.Map.{Place, place_cmp, Store, number_bytes, number_in, apply}
use Rattle.mon_tx.proofs.After.{get-apply, decision-append}
use Rattle.mon_tx.proofs.Places.{places_total, exact_places, number_in-bytes}
use Rattle.mon_tx.proofs.Named.{decided-put}
use Rattle.mon_msg.specs.Puts.{put, put_number}
use Rattle.mon_msg.specs.Fold.{entry, fold}
use Rattle.log_model.specs.LogOfValues.{view_at, AllValues}
use Rattle.log_model.specs.Windows.{is_kept_key, IsKeptKey}
use Rattle.log_model.proofs.Committed.{holds, encoded_text, next_at}
use Rattle.log_model.proofs.FoldWindows.{Holds, keeps_view, view_last}
use Rattle.log_model.proofs.AllPlaces.{all_places}
use Rattle.log_model.proofs.KeptKeys.{IsNamed, AllNamed, PutsNamed, value_named, no_local, first_place, greatest}
use Rattle.log_model.proofs.Sharing.{of_own}
use Rattle.log_model.proofs.Places.{same_place, get_kept, shared_is, is_shared, tied, local_named}

-- ---- named keys

named_none : (log : List (List ℕ)) → AllNamed (fold log 0)
unfolding fold
named_none log q x e = let g : None ≡ Some x = sym (get-empty place_cmp q) ∙ e in absurd cc

named_more : (log : List (List ℕ)) (c : ℕ) → AllByRecursion PutsNamed (ops_in (entry log (suc c))) → AllNamed (fold log c) → AllNamed (fold log (suc c))
unfolding fold
named_more log c h all = all_places IsNamed (put area.Paxos (key.Version (suc c)) (entry log (suc c)) ∷ ops_in (entry log (suc c))) (fold log c) (record { area = area.Paxos; key = key.Version (suc c); is = refl }, h) all

module _ (log : List (List ℕ)) (fits : length log ≤ 2 ^ 62) (all : AllValues log) where
  named : (c : ℕ) → c ≤ length log → AllNamed (fold log c)
  named zero h = named_none log
  named (suc c) h =
      let H = holds log fits all c (omega arith) in
      let S = all c h in
      let N = next_at log c (omega arith) H (view_at log c) (keeps_view log c (omega arith) H.keeps) (view_last log c (omega arith)) S.changes S.value in
      named_more log c (subst (AllByRecursion PutsNamed) (sym (encoded_text log c (omega arith) H S)) (value_named log c S.value.newer S.changes N S.value.encoded)) (named c (omega arith))

  pub kept_is : (c : ℕ) → c ≤ length log → (q : Place) (x : List ℕ) → get (fold log c) q ≡ Some x → IsKeptKey q
  kept_is c h q x e = record { area = N.area; key = N.key; is = N.is; kept = by (is_kept_key N.area N.key) refl }
    where
      N : IsNamed q
      N = named c h q x e

      by : (b : Bool) → is_kept_key N.area N.key ≡ b → b ≡ true
      by true t = refl
      by false t = let g : Some x ≡ None = sym e ∙ ap (get (fold log c)) N.is ∙ (holds log fits all c h).others N.area N.key t in absurd cc

  pub greatest_is : (c : ℕ) → c ≤ length log → (q : Place) (x : List ℕ) → get (fold log c) q ≡ Some x → (q ≡ first_place) ⊎ (place_cmp q first_place ≡ Less)
  greatest_is c h = greatest log c (holds log fits all c h) (named c h)

-- ---- what is shared after the next version

module _ (log : List (List ℕ)) (c : ℕ) (next : Holds log (suc c)) (low : suc c ≤ 2 ^ 62) (m : Store) (same : shared m ≡ fold log c) (at : number m area.Paxos key.LastCommitted ≡ c) where
  abbrev ops : List Op
  ops = put area.Paxos (key.Version (suc c)) (entry log (suc c)) ∷ ops_in (entry log (suc c))

  abbrev last_put : Op
  last_put = put_number area.Paxos key.LastCommitted (suc c)

  abbrev after : Store
  after = apply (ops ++ last_put ∷ []) m

  abbrev newest : Place
  newest = place area.Paxos (key.Version (suc c))

  own_stays : (a : Area) (k : Key) → tied (suc c) a k ≡ true → is_local (suc c) (place a k) ≡ false → place a k ≡ newest
  own_stays a k t f = let g : true ≡ false = sym (local_named (suc c) a k ∙ t) ∙ f in absurd cc

  -- what is local stays local, but for the record of the version
  only_record : (q : Place) → is_local c q ≡ true → is_local (suc c) q ≡ false → q ≡ newest
  only_record q e f =
      let one : c + 1 ≡ suc c = omega arith in
      of_own (λ p. is_local (suc c) p ≡ false → p ≡ newest) c (record {
        last_committed = own_stays area.Paxos key.LastCommitted refl;
        last_pn = own_stays area.Paxos key.LastPn refl;
        accepted_pn = own_stays area.Paxos key.AcceptedPn refl;
        pending_v = own_stays area.Paxos key.PendingV refl;
        pending_pn = own_stays area.Paxos key.PendingPn refl;
        behind = λ f. ap (λ (v : ℕ). place area.Paxos (key.Version v)) one;
        epoch = own_stays area.Monitor key.ElectionEpoch refl;
        boots = own_stays area.Monitor key.BootCount refl;
        mark = own_stays area.Sync key.InSync refl;
        floor = own_stays area.Sync key.Floor refl;
      }) q e f

  -- the version's own record is put, whatever was there
  put_decides : (d : Decision) (q : Place) (x y : Cell) → q ≡ newest → or_before (later d (decided (put area.Paxos (key.Version (suc c)) (entry log (suc c))) q)) x ≡ or_before (later d (decided (put area.Paxos (key.Version (suc c)) (entry log (suc c))) q)) y
  put_decides (Some z) q x y e = refl
  put_decides None q x y e =
      let t : decided (put area.Paxos (key.Version (suc c)) (entry log (suc c))) q ≡ Some (Some (entry log (suc c))) =
      ap (decided (put area.Paxos (key.Version (suc c)) (entry log (suc c)))) e ∙ decided-put area.Paxos (key.Version (suc c)) (entry log (suc c)) area.Paxos (key.Version (suc c))
      ∙ ap (λ (b : Bool). cond b (Some (Some (entry log (suc c)))) None) (eq-eqb (suc c) (suc c) refl) in
      ap (λ d. or_before d x) t ∙ sym (ap (λ d. or_before d y) t)

  -- the number of the last version is local
  last_unspoken : (q : Place) → is_local (suc c) q ≡ false → decision (last_put ∷ []) q ≡ None
  last_unspoken q f = by (eq_by_cmp place_cmp q (place area.Paxos key.LastCommitted)) refl
    where
      by : (b : Bool) → eq_by_cmp place_cmp q (place area.Paxos key.LastCommitted) ≡ b → ◌≡◌ {A = Decision} (cond (eq_by_cmp place_cmp q (place area.Paxos key.LastCommitted)) (Some (Some (number_bytes (suc c)))) None) None
      by true t = let g : true ≡ false = sym (ap (is_local (suc c)) (same_place q _ t) ∙ local_named (suc c) area.Paxos key.LastCommitted) ∙ f in absurd cc
      by false t = rw t refl

  last_there : number after area.Paxos key.LastCommitted ≡ suc c
  last_there =
      let q = place area.Paxos key.LastCommitted in
      ap number_in (get-apply (ops ++ last_put ∷ []) m q ∙ ap (λ d. or_before d (get m q)) (decision-append ops (last_put ∷ []) q
      ∙ ap (λ d. later d (decision ops q)) (decided-put area.Paxos key.LastCommitted (number_bytes (suc c)) area.Paxos key.LastCommitted)))
      ∙ number_in-bytes (suc c) low

  before_is : (q : Place) → get (fold log c) q ≡ cond (is_shared c q) (get m q) None
  before_is q = ap (λ (s : Store). get s q) (sym same ∙ shared_is m c at) ∙ get_kept m (is_shared c) q

  next_is : (q : Place) → get (fold log (suc c)) q ≡ or_before (decision ops q) (cond (is_shared c q) (get m q) None)
  unfolding fold
  next_is q = get-apply ops (fold log c) q ∙ ap (or_before (decision ops q)) (before_is q)

  there_is : (q : Place) → is_local (suc c) q ≡ false → get after q ≡ or_before (decision ops q) (get m q)
  there_is q f =
      get-apply (ops ++ last_put ∷ []) m q ∙ ap (λ d. or_before d (get m q)) (decision-append ops (last_put ∷ []) q ∙ ap (λ d. later d (decision ops q)) (last_unspoken q f))

  same_at : (q : Place) → cond (is_shared (suc c) q) (get after q) None ≡ get (fold log (suc c)) q
  same_at q = by (is_local (suc c) q) refl (is_local c q) refl
    where
      by : (t : Bool) → is_local (suc c) q ≡ t → (u : Bool) → is_local c q ≡ u → cond (is_shared (suc c) q) (get after q) None ≡ get (fold log (suc c)) q
      by true t u s = ap (λ (b : Bool). cond (not b) (get after q) None) t ∙ sym (no_local log (suc c) next q t)
      by false t false s =
          ap (λ (b : Bool). cond (not b) (get after q) None) t ∙ there_is q t ∙ sym (next_is q ∙ ap (λ (b : Bool). or_before (decision ops q) (cond (not b) (get m q) None)) s)
      by false t true s =
          ap (λ (b : Bool). cond (not b) (get after q) None) t ∙ there_is q t
          ∙ put_decides (decision (ops_in (entry log (suc c))) q) q (get m q) (cond (is_shared c q) (get m q) None) (only_record q s t) ∙ sym (next_is q)

  pub shares_next : shared after ≡ fold log (suc c)
  shares_next = shared_is after (suc c) last_there ∙ same_map places_total exact_places _ _ (λ q. get_kept after (is_shared (suc c)) q ∙ same_at q)
