-- How long texts are, and what is dropped for it.
use Rattle.std.proofs.Common.{◌≡◌, ℕ, zero, suc, ◌+◌, ◌≤◌, ◌<◌, ◌^◌, Bool, true, false, ◌||◌, cond, ltb, List, [], ◌∷◌, ◌++◌, length, drop, get_or, ◌⊎◌, inl, inr, refl, ap, arith}
use Rattle.std.proofs.lemmas.List.{length-append}
use Rattle.std.proofs.lemmas.Bool.{le-ltb, lt-ltb}
use Rattle.std.specs.List.{flat_map, AllByRecursion}
use Rattle.mon_bytes.specs.Forms.{u32_bytes}
use Rattle.mon_bytes.proofs.Forms.{length-u32_bytes}
use Rattle.map_log.specs.declared.inc.LogInc.{LogInc}
use Rattle.map_log.specs.Map.{is_above, trimmed}
use Rattle.map_log.specs.Text.{inc_text, map_text, inc_size, size_of, IncFits, IncIsShort, IsEntry, IsKept, MapFits, MapIsShort}

length-inc_text : (r : ℕ) (t count : List ℕ) → length count ≡ 4 → length (r ∷ (count ++ t)) ≡ length t + 5
length-inc_text r t count four = omega (arith, four, length-append count t)

length-entries : (es : List LogInc) → length (flat_map inc_text es) ≡ size_of es
length-entries [] = refl
length-entries (inc ∷ es) =
    omega (arith, length-append (inc_text inc) (flat_map inc_text es), length-inc_text inc.rank inc.text (u32_bytes (length inc.text)) (length-u32_bytes (length inc.text)), length-entries es)

pub length-map_text : (es : List LogInc) → length (map_text es) ≡ 4 + size_of es
length-map_text es = omega (arith, length-append (u32_bytes (length es)) (flat_map inc_text es), length-u32_bytes (length es), length-entries es)

pub size_of-append : (es : List LogInc) (inc : LogInc) → size_of (es ++ inc ∷ []) ≡ size_of es + inc_size inc
size_of-append [] inc = omega arith
size_of-append (e ∷ es) inc = omega (arith, size_of-append es inc)

pub each-append : (es : List LogInc) (inc : LogInc) → AllByRecursion IsEntry es → IsEntry inc → AllByRecursion IsEntry (es ++ inc ∷ [])
each-append [] inc each new = (new, tt)
each-append (e ∷ es) inc each new = (each.0, each-append es inc each.1 new)

pub each-trimmed : (es : List LogInc) → AllByRecursion IsEntry es → AllByRecursion IsEntry (trimmed es)
each-trimmed [] each = tt
each-trimmed (e ∷ es) each = elim (is_above (e ∷ es)) as (λ b. AllByRecursion IsEntry (cond b (trimmed es) (e ∷ es))) [ true ↦ each-trimmed es each.1 | false ↦ each ]

pub size_of-trimmed : (es : List LogInc) → size_of (trimmed es) ≤ size_of es
size_of-trimmed [] = omega arith
size_of-trimmed (e ∷ es) = elim (is_above (e ∷ es)) as (λ b. size_of (cond b (trimmed es) (e ∷ es)) ≤ size_of (e ∷ es)) [ true ↦ omega (arith, size_of-trimmed es) | false ↦ omega arith ]

shorter : (n : ℕ) (es : List LogInc) → size_of es < n → AllByRecursion (λ inc. length inc.text < n) es
shorter n [] h = tt
shorter n (e ∷ es) h = (omega arith, shorter n es (omega arith))

counted : (es : List LogInc) → length es ≤ size_of es
counted [] = omega arith
counted (e ∷ es) = omega (arith, counted es)

-- a map whose text has fewer than 2 ^ 32 bytes
pub is_short : (es : List LogInc) → length (map_text es) < 2 ^ 32 → MapIsShort es
is_short es h =
    let small : size_of es < 2 ^ 32 = omega (arith, h, length-map_text es) in
    record { each = shorter (2 ^ 32) es small; count = omega (arith, counted es, small) }

each_fits : (es : List LogInc) → AllByRecursion IsEntry es → AllByRecursion IncIsShort es → AllByRecursion IncFits es
each_fits [] entry short = tt
each_fits (e ∷ es) entry short = ((entry.0.0, entry.0.1, short.0), each_fits es entry.1 short.1)

pub fits : (es : List LogInc) → AllByRecursion IsEntry es → MapIsShort es → MapFits es
fits es entry short = record { each = each_fits es entry short.each; count = short.count }

-- ---- what is dropped from the front

pub trimmed-within : (es : List LogInc) → length es ≤ 500 → 4 + size_of es ≤ 12288 → trimmed es ≡ es
trimmed-within [] few short = refl
trimmed-within (e ∷ es) few short =
    let count : ltb 500 (length (e ∷ es)) ≡ false = le-ltb _ _ few in
    let bytes : ltb 12288 (length (map_text (e ∷ es))) ≡ false = le-ltb _ _ (omega (arith, length-map_text (e ∷ es), short)) in
    rw (count, bytes) refl

pub trimmed-above : (e : LogInc) (es : List LogInc) → (500 < length (e ∷ es)) ⊎ (12288 < 4 + size_of (e ∷ es)) → trimmed (e ∷ es) ≡ trimmed es
trimmed-above e es (inl many) = rw (lt-ltb 500 (length (e ∷ es)) many) refl
trimmed-above e es (inr long) =
    let bytes : ltb 12288 (length (map_text (e ∷ es))) ≡ true = lt-ltb _ _ (omega (arith, length-map_text (e ∷ es), long)) in
    rw bytes (either (ltb 500 (length (e ∷ es))))
  where
    either : (b : Bool) → cond (b || true) (trimmed es) (e ∷ es) ≡ trimmed es
    either true = refl
    either false = refl

-- the first of the entries that stay
pub drop_first : (es : List LogInc) (i : ℕ) (d : LogInc) → i < length es → drop i es ≡ get_or es i d ∷ drop (suc i) es
drop_first [] i d lt = absurd (omega arith)
drop_first (e ∷ es) zero d lt = refl
drop_first (e ∷ es) (suc i) d lt = drop_first es i d (omega arith)

pub size_is : (es : List LogInc) (size : ℕ) (m : List LogInc) → IsKept es size → es ≡ m → size ≡ length (map_text m)
size_is es size m h is = omega (arith, h.sum, length-map_text es, ap (λ es. length (map_text es)) is)
