-- How a run of entries goes on and ends.
use Rattle.std.proofs.Common.{◌≡◌, ◌≢◌, ℕ, suc, ◌+◌, ◌-◌, ◌<◌, ◌≤◌, Bool, true, false, cond, eqb, not, List, [], ◌∷◌, ◌++◌, length, Some, refl, sym, ap, subst, ◌∙◌, append_assoc, length-append, arith}
use Rattle.std.specs.declared.cmp.Ordering.{Ordering}
use Rattle.std.specs.declared.cmp.Ordering.TheVariants.{Less, Equal, Greater}
use Rattle.std.specs.List.{filter, list_all}
use Rattle.std.specs.Ordering.{is_lt, ordering_reverse}
use Rattle.std.specs.Cmp.{tied_itself}
use Rattle.std.specs.FinMap.{entries, entries_sorted}
use Rattle.std.specs.FinMap.Entries.{is_sorted, below_all}
use Rattle.std.proofs.lemmas.Bool.{and_parts, le-leb, ne_eqb, lt-leb}
use Rattle.std.proofs.lemmas.List.{append-nil}
use Rattle.mon_tx.specs.Map.{Place, place_cmp, Store}
use Rattle.mon_tx.proofs.Places.{places_total}
use Rattle.mon_bytes.specs.Texts.{is_prefix}
use Rattle.mon_kv.specs.Tree.{bytes_cmp, first}
use Rattle.mon_kv.specs.Readers.{after, entries_after}
use Rattle.mon_tx.specs.Keys.{is_local}
use Rattle.mon_kv.specs.Chunks.{shared_of, entry_len, run_of}
use Rattle.mon_kv.specs.Tree as trees
use Rattle.mon_kv.specs.Areas.{Records, places, store, is_area, IsWhole}
use Rattle.mon_kv.specs.declared.tree.Tree.{Tree}
use Rattle.mon_kv.proofs.AreaLaws.{from_T}
use Rattle.mon_kv.proofs.PlaceLaws.{entries-store, below_places}

-- After `taken` of `all` were taken and `rest` remains, with `left` bytes of room: the longest run of `all` is `taken`
-- and then the longest run of `rest`.
pub record RunsOn (all : List (Place × List ℕ)) (room most : ℕ) (taken : List (Place × List ℕ)) (left : ℕ) (rest : List (Place × List ℕ)) : Type 0 where
  pub run : taken ++ run_of left (most - length taken) rest ≡ run_of room most all
  pub within : length taken ≤ most
  pub count : length taken + length rest ≡ length all

abbrev Entries : Type 0
Entries = List (Place × List ℕ)

-- ---- the entries above an entry are those after it
less : (r : Ordering) → is_lt r ≡ true → r ≡ Less
less Less e = refl
less Equal e = absurd cc
less Greater e = absurd cc

below_first : (x : Place) (es : Entries) (e : Place × List ℕ) (q : Place × List ℕ → Bool) → below_all place_cmp x es ≡ true → first (filter q es) ≡ Some e → place_cmp x e.0 ≡ Less
below_first x [] e q h f = absurd cc
below_first x (y ∷ es) e q h f = by (q y) f (below_first x es e q parts.1)
  where
    parts : (is_lt (place_cmp x y.0) ≡ true) × (below_all place_cmp x es ≡ true)
    parts = and_parts (is_lt (place_cmp x y.0)) (below_all place_cmp x es) h

    same : (a b : Place × List ℕ) → Some a ≡ Some b → a ≡ b
    same a b g = cc

    by : (b : Bool) → first (cond b (y ∷ filter q es) (filter q es)) ≡ Some e → (first (filter q es) ≡ Some e → place_cmp x e.0 ≡ Less) → place_cmp x e.0 ≡ Less
    by true g r = subst (λ z. place_cmp x z.0 ≡ Less) (same y e g) (less _ parts.0)
    by false g r = r g

below_trans : (x y : Place) (es : Entries) → place_cmp x y ≡ Less → below_all place_cmp y es ≡ true → below_all place_cmp x es ≡ true
below_trans x y [] g h = refl
below_trans x y (e ∷ es) g h =
    let parts = and_parts (is_lt (place_cmp y e.0)) (below_all place_cmp y es) h in
    rw (places_total.trans x y e.0 g (less _ parts.0), below_trans x y es g parts.1) refl

all_after : (x : Place) (es : Entries) → below_all place_cmp x es ≡ true → after x es ≡ es
all_after x [] h = refl
all_after x (e ∷ es) h =
    let parts = and_parts (is_lt (place_cmp x e.0)) (below_all place_cmp x es) h in
    ap (λ b. cond b (e ∷ after x es) (after x es)) parts.0 ∙ ap (λ ys. e ∷ ys) (all_after x es parts.1)

after_tail : (place : Place) (es : Entries) (e : Place × List ℕ) → is_sorted place_cmp es ≡ true → first (after place es) ≡ Some e → after place es ≡ e ∷ after e.0 es
after_tail place [] e h f = absurd cc
after_tail place (y ∷ es) e h f = by (is_lt (place_cmp place y.0)) refl f (after_tail place es e parts.1)
  where
    parts : (below_all place_cmp y.0 es ≡ true) × (is_sorted place_cmp es ≡ true)
    parts = and_parts (below_all place_cmp y.0 es) (is_sorted place_cmp es) h

    same : (a b : Place × List ℕ) → Some a ≡ Some b → a ≡ b
    same a b g = cc

    not_itself : after y.0 (y ∷ es) ≡ es
    not_itself = ap (λ o. cond (is_lt o) (y ∷ after y.0 es) (after y.0 es)) (tied_itself places_total y.0) ∙ all_after y.0 es parts.0

    by : (b : Bool) → is_lt (place_cmp place y.0) ≡ b → first (cond b (y ∷ after place es) (after place es)) ≡ Some e → (first (after place es) ≡ Some e → after place es ≡ e ∷ after e.0 es) → cond b (y ∷ after place es) (after place es) ≡ e ∷ after e.0 (y ∷ es)
    by true l g r =
        subst (λ z. y ∷ after place es ≡ z ∷ after z.0 (y ∷ es)) (same y e g) (ap (λ ys. y ∷ ys) (all_after place es (below_trans place y.0 es (less _ l) parts.0) ∙ sym not_itself))
    by false l g r =
        let above = below_first y.0 es e (λ x. is_lt (place_cmp place x.0)) parts.0 g in
        r g ∙ ap (λ o. e ∷ cond (is_lt o) (y ∷ after e.0 es) (after e.0 es)) (sym (places_total.antisymm e.0 y.0 ∙ ap ordering_reverse above))

pub entries_after-tail : (m : Store) (place : Place) (e : Place × List ℕ) → first (entries_after m place) ≡ Some e → entries_after m place ≡ e ∷ entries_after m e.0
unfolding entries_after
entries_after-tail m place e f = after_tail place (entries m) e (from_T _ (entries_sorted m)) f

-- ---- a run
module _ (all : Entries) (room most : ℕ) where
  step : (left n : ℕ) (e : Place × List ℕ) (rest : Entries) → entry_len e ≤ left → run_of left (suc n) (e ∷ rest) ≡ e ∷ run_of (left - entry_len e) n rest
  step left n e rest le = ap (λ b. cond b (e ∷ run_of (left - entry_len e) n rest) []) (le-leb (entry_len e) left le)

  pub runs_push : (taken : Entries) (left : ℕ) (e : Place × List ℕ) (rest : Entries) → RunsOn all room most taken left (e ∷ rest) → length taken ≢ most → entry_len e ≤ left → RunsOn all room most (taken ++ e ∷ []) (left - entry_len e) rest
  runs_push taken left e rest r ne le =
      let n = most - suc (length taken) in
      let more : most - length taken ≡ suc n = omega (arith, r.within, ne) in
      let len : length (taken ++ e ∷ []) ≡ length taken + 1 = length-append taken (e ∷ []) in
      let fewer : most - length (taken ++ e ∷ []) ≡ n = omega (arith, len) in
      record {
        run = ap (λ k. (taken ++ e ∷ []) ++ run_of (left - entry_len e) k rest) fewer ∙ append_assoc taken (e ∷ []) (run_of (left - entry_len e) n rest)
            ∙ ap (λ ys. taken ++ ys) (sym (ap (λ k. run_of left k (e ∷ rest)) more ∙ step left n e rest le)) ∙ r.run;
        within = omega (arith, r.within, ne, len);
        count = omega (arith, r.count, len);
      }

  -- the run ends before the next entry
  stops : (taken : Entries) (left : ℕ) (e : Place × List ℕ) (rest : Entries) → RunsOn all room most taken left (e ∷ rest) → run_of left (most - length taken) (e ∷ rest) ≡ [] → taken ≡ run_of room most all
  stops taken left e rest r none = sym (append-nil taken) ∙ ap (λ ys. taken ++ ys) (sym none) ∙ r.run

  pub runs_full : (taken : Entries) (left : ℕ) (e : Place × List ℕ) (rest : Entries) → RunsOn all room most taken left (e ∷ rest) → length taken ≡ most → taken ≡ run_of room most all
  runs_full taken left e rest r full = stops taken left e rest r (ap (λ k. run_of left k (e ∷ rest)) (let z : most - length taken ≡ 0 = omega (arith, full) in z))

  pub runs_long : (taken : Entries) (left : ℕ) (e : Place × List ℕ) (rest : Entries) → RunsOn all room most taken left (e ∷ rest) → length taken ≢ most → left < entry_len e → taken ≡ run_of room most all
  runs_long taken left e rest r ne long =
      let n = most - suc (length taken) in
      let more : most - length taken ≡ suc n = omega (arith, r.within, ne) in
      stops taken left e rest r (ap (λ k. run_of left k (e ∷ rest)) more ∙ ap (λ b. cond b (e ∷ run_of (left - entry_len e) n rest) []) (lt-leb (entry_len e) left long))

  pub runs_more : (taken : Entries) (left : ℕ) (e : Place × List ℕ) (rest : Entries) → RunsOn all room most taken left (e ∷ rest) → eqb (length taken) (length all) ≡ false
  runs_more taken left e rest r = ne_eqb _ _ (λ same. let c = r.count in omega (arith, c, same))

-- nothing is at or before the empty pair
prefix_above : (p : List ℕ) → is_prefix p ≡ true → bytes_cmp [] p ≡ Less
prefix_above [] h = absurd cc
prefix_above (x ∷ p) h = refl

below_start : (areas : List (List ℕ × Records)) → list_all is_area areas ≡ true → below_all bytes_cmp [] areas ≡ true
below_start [] h = refl
below_start (a ∷ areas) h =
    let parts = and_parts (is_area a) (list_all is_area areas) h in
    let own = and_parts (is_prefix a.0) (is_sorted bytes_cmp (trees.entries a.1)) (and_parts _ (not (trees.is_empty (trees.entries a.1))) parts.0).0 in
    rw (prefix_above a.0 own.0, below_start areas parts.1) refl

pub entries_after-start : (areas : Tree Records) → IsWhole areas → entries_after (store areas) ([], []) ≡ entries (store areas)
unfolding entries_after
entries_after-start areas w =
    ap (after ([], [])) (entries-store areas w) ∙ all_after ([], []) (places (trees.entries areas)) (below_places [] [] (trees.entries areas) (below_start (trees.entries areas) w.areas)) ∙ sym (entries-store areas w)

-- ---- one step from an entry to the next
module _ (m : Store) (place : Place) (e : Place × List ℕ) (found : Some e ≡ first (entries_after m place)) where
  pub shorter : length (entries_after m e.0) < length (entries_after m place)
  shorter = let l = ap length (entries_after-tail m place e (sym found)) in omega (arith, l)

  pub skips : (last : ℕ) → is_local last e.0 ≡ true → shared_of last (entries_after m place) ≡ shared_of last (entries_after m e.0)
  skips last h = ap (shared_of last) (entries_after-tail m place e (sym found)) ∙ ap (λ b. cond (not b) (e ∷ shared_of last (entries_after m e.0)) (shared_of last (entries_after m e.0))) h

  pub takes : (last : ℕ) → is_local last e.0 ≡ false → shared_of last (entries_after m place) ≡ e ∷ shared_of last (entries_after m e.0)
  takes last h = ap (shared_of last) (entries_after-tail m place e (sym found)) ∙ ap (λ b. cond (not b) (e ∷ shared_of last (entries_after m e.0)) (shared_of last (entries_after m e.0))) h
