-- What holds of each element of a list, over the edits that an assembly makes.
use Rattle.std.proofs.Common.{◌≡◌, ◌⊎◌, ℕ, zero, suc, ◌+◌, ◌≤◌, ◌<◌, List, [], ◌∷◌, ◌++◌, length, map, take, drop, Option, Some, IsOk, Bool, true, false, cond, ◌&&◌, is_some, unwrap_or, append_assoc, sym, refl, ap, subst, ◌∙◌, inl, inr, add-one, arith}
use Rattle.std.proofs.lemmas.List.Edits.{remove-append_left}
use Rattle.mon_frag.specs.declared.header.Header.{Header}
use Rattle.mon_frag.specs.declared.partial.Partial.{Partial}
use Rattle.mon_frag.specs.declared.partial.Joined.{Joined}
use Rattle.mon_frag.specs.declared.partial.Joined.TheVariants.{Clash, Known, More, Whole}
use Rattle.mon_link.specs.declared.link.Peer.{Peer}
use Rattle.mon_link.specs.declared.link.Peer.TheVariants.{Monitor, Client}
use Rattle.mon_frag.specs.Keeping.{after_join, at_found, piece_taken, is_of, grown, same_peer, is_client, first_of, or_else, oldest_against}
use Rattle.std.proofs.lemmas.List.Folds.{list_all-append}
use Rattle.std.proofs.lemmas.List.Concat.{flat_map-append}
use Rattle.std.specs.List.{AllByRecursion, Contains, remove, slice_get, slice_set, range_with_len, list_all, flat_map, position}

pub all_append : {X : Type 0} (P : X → Type 0) (xs ys : List X) → AllByRecursion P xs → AllByRecursion P ys → AllByRecursion P (xs ++ ys)
all_append P [] ys a b = b
all_append P (x ∷ xs) ys a b = (a.0, all_append P xs ys a.1 b)

all_take : {X : Type 0} (P : X → Type 0) (n : ℕ) (xs : List X) → AllByRecursion P xs → AllByRecursion P (take n xs)
all_take P zero xs a = tt
all_take P (suc n) [] a = tt
all_take P (suc n) (x ∷ xs) a = (a.0, all_take P n xs a.1)

all_drop : {X : Type 0} (P : X → Type 0) (n : ℕ) (xs : List X) → AllByRecursion P xs → AllByRecursion P (drop n xs)
all_drop P zero xs a = a
all_drop P (suc n) [] a = tt
all_drop P (suc n) (x ∷ xs) a = all_drop P n xs a.1

pub all_remove : {X : Type 0} (P : X → Type 0) (xs : List X) (i : ℕ) → AllByRecursion P xs → AllByRecursion P (remove xs i)
all_remove P xs i a = all_append P (take i xs) (drop (suc i) xs) (all_take P i xs a) (all_drop P (suc i) xs a)

pub all_set : {X : Type 0} (P : X → Type 0) (xs : List X) (i : ℕ) (y : X) → AllByRecursion P xs → P y → AllByRecursion P (slice_set xs i y)
all_set P [] i y a p = tt
all_set P (x ∷ xs) zero y a p = (p, a.1)
all_set P (x ∷ xs) (suc i) y a p = (a.0, all_set P xs i y a.1 p)

pub all_at : {X : Type 0} (P : X → Type 0) (xs : List X) (i : ℕ) (x : X) → AllByRecursion P xs → slice_get xs i ≡ Some x → P x
all_at P [] i x a e = absurd cc
all_at P (y ∷ xs) zero x a e = let is : y ≡ x = cc in subst P is a.0
all_at P (y ∷ xs) (suc i) x a e = all_at P xs i x a.1 e

pub contains_one : {X : Type 0} (x y : X) → Contains (x ∷ []) y → x ≡ y
contains_one x y (zero, lt, e) = e
contains_one x y (suc k, lt, e) = absurd (omega arith)

pub contains_made : {X : Type 0} (f : ℕ → X) (from n : ℕ) (y : X) → Contains (map f (range_with_len from n)) y → (k : ℕ) × (from ≤ k) × (k < from + n) × (f k ≡ y)
contains_made f from zero y (k, lt, e) = absurd (omega arith)
contains_made f from (suc n) y (zero, lt, e) = (from, omega arith, omega arith, e)
contains_made f from (suc n) y (suc k, lt, e) =
    let later = contains_made f (from + 1) n y (k, omega arith, e) in
    (later.0, omega (arith, later.1), omega (arith, later.2), later.3)

-- what is in a list that was written at one place
pub get_written : {X : Type 0} (xs : List X) (i j : ℕ) (y z : X) → slice_get (slice_set xs i y) j ≡ Some z → ((i ≡ j) × (y ≡ z)) ⊎ (slice_get xs j ≡ Some z)
get_written [] i j y z e = inr e
get_written (x ∷ xs) zero zero y z e = inl (refl, cc)
get_written (x ∷ xs) zero (suc j) y z e = inr e
get_written (x ∷ xs) (suc i) zero y z e = inr e
get_written (x ∷ xs) (suc i) (suc j) y z e = elim (get_written xs i j y z e) [ inl h ↦ inl (ap suc h.0, h.1) | inr h ↦ inr h ]

made_suc : {X : Type 0} (f : ℕ → X) (from n : ℕ) → map f (range_with_len from (suc n)) ≡ map f (range_with_len from n) ++ f (from + n) ∷ []
made_suc f from zero = ap (λ (i : ℕ). f i ∷ []) (omega arith)
made_suc {X = X} f from (suc n) =
    let place : from + 1 + n ≡ from + suc n = omega arith in
    ap (λ (xs : List X). f from ∷ xs) (made_suc f (from + 1) n ∙ ap (λ (i : ℕ). map f (range_with_len (from + 1) n) ++ f i ∷ []) place)

-- a loop that makes one after the other
pub made_next : {X : Type 0} (f : ℕ → X) (n : ℕ) → map f (range_with_len 0 (n + 1)) ≡ map f (range_with_len 0 n) ++ f n ∷ []
made_next f n =
    let place : 0 + n ≡ n = omega arith in
    rw add-one (made_suc f 0 n ∙ ap (λ (i : ℕ). map f (range_with_len 0 n) ++ f i ∷ []) place)

-- a place before the end
pub remove_earlier : {X : Type 0} (xs : List X) (y : X) (i : ℕ) → i < length xs → remove (xs ++ y ∷ []) i ≡ remove xs i ++ y ∷ []
remove_earlier xs y i within = remove-append_left xs (y ∷ []) i within

-- what doesn't clash is taken
pub joined_ok : (kept : List Partial) (i : ℕ) (more : Partial) (j : Joined) → (j ≡ Clash → ⊥) → IsOk (after_join kept i more j)
joined_ok kept i more Clash clean = absurd (clean refl)
joined_ok kept i more Known clean = refl
joined_ok kept i more More clean = refl
joined_ok kept i more (Whole message) clean = refl

-- ---- a part that is put at its place

written_parts : {X : Type 0} (xs : List X) (i : ℕ) (y : X) → i < length xs → slice_set xs i y ≡ take i xs ++ y ∷ drop (suc i) xs
written_parts [] i y within = absurd (omega arith)
written_parts (x ∷ xs) zero y within = refl
written_parts {X = X} (x ∷ xs) (suc i) y within = ap (λ (l : List X). x ∷ l) (written_parts xs i y (omega arith))

all_written : (parts : List (Option (List ℕ))) (i : ℕ) (bytes : List ℕ) → i < length parts
    → list_all is_some (slice_set parts i (Some bytes)) ≡ (list_all is_some (take i parts) && list_all is_some (drop (i + 1) parts))
all_written parts i bytes within =
    rw add-one (ap (list_all is_some) (written_parts parts i (Some bytes) within) ∙ list_all-append is_some (take i parts) (Some bytes ∷ drop (suc i) parts))

bytes_written : (parts : List (Option (List ℕ))) (i : ℕ) (bytes : List ℕ) → i < length parts
    → flat_map (λ part. unwrap_or part []) (slice_set parts i (Some bytes)) ≡ flat_map (λ part. unwrap_or part []) (take i parts) ++ bytes ++ flat_map (λ part. unwrap_or part []) (drop (i + 1) parts)
bytes_written parts i bytes within =
    let f : Option (List ℕ) → List ℕ = λ part. unwrap_or part [] in
    rw add-one (ap (flat_map f) (written_parts parts i (Some bytes) within) ∙ flat_map-append f (take i parts) (Some bytes ∷ drop (suc i) parts)
    ∙ sym (append_assoc (flat_map f (take i parts)) bytes (flat_map f (drop (suc i) parts))))

-- the parts with one more, if another is missing
pub grown_more : (parts : List (Option (List ℕ))) (i : ℕ) (bytes : List ℕ) → i < length parts
    → (list_all is_some (take i parts) && list_all is_some (drop (i + 1) parts)) ≡ false → More ≡ grown (slice_set parts i (Some bytes))
grown_more parts i bytes within missing =
    let written = slice_set parts i (Some bytes) in
    sym (ap (λ (all : Bool). cond all (Whole (flat_map (λ part. unwrap_or part []) written)) More) (all_written parts i bytes within ∙ missing))

-- the whole message, if no other part is missing
pub grown_whole : (parts : List (Option (List ℕ))) (i : ℕ) (bytes whole : List ℕ) → i < length parts
    → (list_all is_some (take i parts) && list_all is_some (drop (i + 1) parts)) ≡ true
    → whole ≡ flat_map (λ part. unwrap_or part []) (take i parts) ++ bytes ++ flat_map (λ part. unwrap_or part []) (drop (i + 1) parts)
    → Whole whole ≡ grown (slice_set parts i (Some bytes))
grown_whole parts i bytes whole within there is =
    let written = slice_set parts i (Some bytes) in
    let all : list_all is_some written ≡ true = all_written parts i bytes within ∙ there in
    ap Whole (is ∙ sym (bytes_written parts i bytes within)) ∙ sym (ap (λ (b : Bool). cond b (Whole (flat_map (λ part. unwrap_or part []) written)) More) all)

by_all : (all : Bool) (whole : List ℕ) → cond all (Whole whole) More ≡ Clash → ⊥
by_all true whole e = cc
by_all false whole e = cc

-- what is grown doesn't clash
pub grown_is : (parts : List (Option (List ℕ))) → grown parts ≡ Clash → ⊥
grown_is parts e = by_all (list_all is_some parts) (flat_map (λ part. unwrap_or part []) parts) e

-- ---- the oldest message that is dropped for a new one

pub oldest_monitor : (from : Peer) (r : ℕ) (kept : List Partial) → from ≡ Monitor r → oldest_against from kept ≡ first_of 4 (λ p. same_peer from p.from) kept
oldest_monitor from r kept e = subst (λ (x : Peer). oldest_against x kept ≡ first_of 4 (λ p. same_peer x p.from) kept) (sym e) refl

pub oldest_client : (from : Peer) (c : ℕ) (kept : List Partial) → from ≡ Client c
    → oldest_against from kept ≡ or_else (first_of 1 (λ p. same_peer from p.from) kept) (first_of 64 (λ p. is_client p.from) kept)
oldest_client from c kept e =
    subst (λ (x : Peer). oldest_against x kept ≡ or_else (first_of 1 (λ p. same_peer x p.from) kept) (first_of 64 (λ p. is_client p.from) kept)) (sym e) refl

-- the place of a piece's message among those that are kept
pub piece_found : (from : Peer) (h : Header) (bytes : List ℕ) (kept : List Partial) (at : Option ℕ) → at ≡ position (is_of from h.boot h.seq) kept
    → at_found from h bytes kept at ≡ piece_taken from bytes kept h
piece_found from h bytes kept at e = ap (at_found from h bytes kept) e
