-- The points of a disk in memory.
use Rattle.std.proofs.Common.{inr, zero, ◌≡◌, ◌⊎◌, ⊎_elim, ℕ, suc, ◌≤◌, List, [], ◌∷◌, ◌++◌, map, length, get_or, refl, sym, ap, ◌∙◌, subst, arith, append_assoc, Some}
use Rattle.std.proofs.lemmas.List.{append-nil, map-append, length-append}
use Rattle.std.specs.List.{flat_map}
use Rattle.mon_disk.specs.declared.disk.DiskCall.{DiskCall}
use Rattle.mon_disk.specs.declared.disk.DiskCall.TheVariants.{Write, Sync}
use Rattle.mon_disk.specs.Images.{Content, images, TornFrom, Only, LeavesOnly}
use Rattle.mon_disk.specs.Memory.{begins_with, Lived, settled}
use Rattle.mon_disk.specs.MemoryDisk.{with_calls, and_call, Leaves, beginnings, before_calls, earlier, content_of}
use Rattle.mon_disk.specs.Laws.{as_now}
use Rattle.mon_disk.proofs.Writes.{torn_not}
use Rattle.mon_disk.proofs.Lives.{Cut, as_cut, settled_left, write_left, sync_left}

-- one call more: the life as it was is one of the earlier ones
beginnings_more : (calls : List DiskCall) (call : DiskCall) → beginnings (calls ++ call ∷ []) ≡ beginnings calls ++ calls ∷ []
beginnings_more [] call = refl
beginnings_more (first ∷ calls) call =
    let on = λ (cs : List DiskCall). first ∷ cs in
    ap (λ (l : List (List DiskCall)). [] ∷ map on l) (beginnings_more calls call) ∙ ap (λ (l : List (List DiskCall)). [] ∷ l) (map-append on (beginnings calls) (calls ∷ []))

earlier_call : (past : List Lived) (life : Lived) (call : DiskCall) → earlier past (and_call call life) ≡ earlier past life ++ life ∷ []
earlier_call past life call =
    let old = flat_map (λ (l : Lived). before_calls l ++ l ∷ []) past in
    ap (λ (l : List (List DiskCall)). old ++ map (with_calls life) l) (beginnings_more life.calls call)
    ∙ ap (λ (l : List Lived). old ++ l) (map-append (with_calls life) (beginnings life.calls) (life.calls ∷ []))
    ∙ sym (append_assoc old (before_calls life) (life ∷ []))

flat_more : (past : List Lived) (life : Lived) → flat_map (λ (l : Lived). before_calls l ++ l ∷ []) (past ++ life ∷ []) ≡ flat_map (λ (l : Lived). before_calls l ++ l ∷ []) past ++ (before_calls life ++ life ∷ [])
flat_more [] life = append-nil (before_calls life ++ life ∷ [])
flat_more (old ∷ past) life =
    let f = λ (l : Lived). before_calls l ++ l ∷ [] in
    ap (λ (l : List Lived). f old ++ l) (flat_more past life) ∙ sym (append_assoc (f old) (flat_map f past) (f life))

earlier_settled : (past : List Lived) (life : Lived) (file : List ℕ) → earlier (past ++ life ∷ []) (begins_with file) ≡ earlier past life ++ life ∷ []
earlier_settled past life file =
    append-nil (flat_map (λ (l : Lived). before_calls l ++ l ∷ []) (past ++ life ∷ []))
    ∙ flat_more past life
    ∙ sym (append_assoc (flat_map (λ (l : Lived). before_calls l ++ l ∷ []) past) (before_calls life) (life ∷ []))

-- what may be left now
pub leaves_now : (past : List Lived) (life : Lived) (c : List ℕ) → images (content_of past life) c → Cut life c
leaves_now past life c left = as_cut life c (subst (λ (l : Lived). Leaves l c) (as_now (earlier past life) life) left)

pub left_now : (past : List Lived) (life : Lived) (c : List ℕ) → Cut life c → images (content_of past life) c
left_now past life c left = subst (λ (l : Lived). Leaves l c) (sym (as_now (earlier past life) life)) (inr (inr left))

-- one point more
one_more : (old new : Content) (P : List ℕ → Type 0) → new.time ≡ suc old.time
    → ((t : ℕ) (c : List ℕ) → t ≤ old.time → new.images_at t c → old.images_at t c)
    → ((t : ℕ) (c : List ℕ) → t ≤ old.time → old.images_at t c → new.images_at t c)
    → ((c : List ℕ) → images old c → P c)
    → ((c : List ℕ) → images new c → P c)
    → LeavesOnly old new P
one_more old new P next back on before after = record {
  later = omega (arith, next);
  past = back;
  kept = on;
  each = λ t c from to left.
      ⊎_elim
      (λ (still : t ≤ old.time).
      let same : t ≡ old.time = omega (arith, from, still) in
      before c (subst (λ (m : ℕ). old.images_at m c) same (back t c still left)))
      (λ (past : suc old.time ≤ t).
      let same : t ≡ new.time = omega (arith, to, past, next) in
      after c (subst (λ (m : ℕ). new.images_at m c) same left))
      (le_or_gt t old.time);
}
  where
    le_or_gt : (m n : ℕ) → (m ≤ n) ⊎ (suc n ≤ m)
    le_or_gt m n = grind arith

stays : (lives : List Lived) (life next : Lived) (t : ℕ) → t ≤ length lives → get_or (lives ++ life ∷ []) t next ≡ get_or lives t life
stays [] life next t le =
    let none : t ≡ 0 = omega (arith, le) in
    ap (λ (n : ℕ). get_or (life ∷ []) n next) none
stays (l ∷ lives) life next zero le = refl
stays (l ∷ lives) life next (suc t) le = stays lives life next t (omega (arith, le))

module _ (past more : List Lived) (life next : Lived) (is : earlier more next ≡ earlier past life ++ life ∷ []) where
  at_time : (t : ℕ) → t ≤ length (earlier past life) → get_or (earlier more next) t next ≡ get_or (earlier past life) t life
  at_time t le = ap (λ (l : List Lived). get_or l t next) is ∙ stays (earlier past life) life next t le

  goes_to : (P : List ℕ → Type 0) → ((c : List ℕ) → images (content_of past life) c → P c) → ((c : List ℕ) → images (content_of more next) c → P c)
      → LeavesOnly (content_of past life) (content_of more next) P
  goes_to P =
      one_more
      (content_of past life)
      (content_of more next)
      P
      (ap length is ∙ omega (arith, length-append (earlier past life) (life ∷ [])))
      (λ t c le left. subst (λ (l : Lived). Leaves l c) (at_time t le) left)
      (λ t c le left. subst (λ (l : Lived). Leaves l c) (sym (at_time t le)) left)

-- one call more
pub write_goes : (past : List Lived) (life : Lived) (at : ℕ) (bytes : List ℕ) → LeavesOnly (content_of past life) (content_of past (and_call (Write at bytes) life)) (TornFrom (content_of past life) at bytes)
write_goes past life at bytes =
    let next = and_call (Write at bytes) life in
    goes_to past past life next (earlier_call past life (Write at bytes)) (TornFrom (content_of past life) at bytes)
    (λ c left. (c, left, torn_not at bytes c))
    (λ c left.
    let from = write_left life at bytes c (leaves_now past next c left) in
    (from.0, left_now past life from.0 from.1, from.2))

pub sync_goes : (past : List Lived) (life : Lived) → LeavesOnly (content_of past life) (content_of past (and_call Sync life)) (images (content_of past life))
sync_goes past life =
    let next = and_call Sync life in
    goes_to past past life next (earlier_call past life Sync) (images (content_of past life))
    (λ c left. left)
    (λ c left. left_now past life c (sync_left life c (leaves_now past next c left)))

-- a disk that settled
pub settled_only : (past : List Lived) (file : List ℕ) → Only (content_of past (begins_with file))
settled_only past file c left = ap Some (sym (leaves_now past (begins_with file) c left))

pub settle_goes : (past : List Lived) (life : Lived) → LeavesOnly (content_of past life) (content_of (past ++ life ∷ []) (begins_with (settled life))) (images (content_of past life))
settle_goes past life =
    let more = past ++ life ∷ [] in
    goes_to past more life (begins_with (settled life)) (earlier_settled past life (settled life)) (images (content_of past life))
    (λ c left. left)
    (λ c left.
    let is : c ≡ settled life = leaves_now more (begins_with (settled life)) c left in
    subst (images (content_of past life)) (sym is) (left_now past life (settled life) (settled_left life)))
