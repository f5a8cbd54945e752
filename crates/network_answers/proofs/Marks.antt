-- A change that a version of a log makes was asked for.
use Rattle.law_names.proofs.Runs.{AcknowledgedOnce, Acknowledgement, Asked, IsAsked, incremental_of, made_by, view_at}
use Rattle.law_names.proofs.Table.{AllByRecursion, Command, Contains, Service, area_of, entry, incrementals, ops_in, put_in, same_area, service_of}
use Rattle.log_model.proofs.Committed.{ops_again}
use Rattle.log_model.proofs.Lists.{of_all}
use Rattle.log_model.proofs.Logs.{IsPrefixOf, entry_stays}
use Rattle.mon_wire.specs.declared.request.Service.TheVariants as service
use Rattle.quorum_model.proofs.Made.{puts_in}
use Rattle.std.proofs.Common.{List, Some, [], ap, arith, cond, drop, inl, inr, length, length-append, option_map, subst, suc, sym, take, zero, ℕ, ◌++◌, ◌<◌, ◌∙◌, ◌∷◌, ◌≡◌, ◌≤◌}
use Rattle.std.proofs.lemmas.List.Elements.{Contains-append_cases}
use Rattle.std.proofs.lemmas.List.{get_or_append_left}

-- the only change of a value, which is its command's
only : (t s : Service) (x y : List ℕ) → Contains (cond (same_area (area_of t) (area_of s)) (x ∷ []) []) y → ◌≡◌ {A = Service × List ℕ} (t, x) (s, y)
only service.Kv service.Kv x y (zero, lt, e) = ap (λ (z : List ℕ). (service.Kv, z)) e
only service.Kv service.Kv x y (suc k, lt, e) = absurd (omega (arith, lt))
only service.Kv service.Log x y (k, lt, e) = absurd (omega (arith, lt))
only service.Log service.Kv x y (k, lt, e) = absurd (omega (arith, lt))
only service.Log service.Log x y (zero, lt, e) = ap (λ (z : List ℕ). (service.Log, z)) e
only service.Log service.Log x y (suc k, lt, e) = absurd (omega (arith, lt))

module _ (n : ℕ) (asked : List Asked) (log : List (List ℕ)) (v : ℕ) (A : IsAsked n asked log v) where
  ops_are : ops_in (entry log (suc v)) ≡ A.ops
  ops_are = ap ops_in A.encodes ∙ ops_again A.ops A.has_text

  puts : (s : Service) → put_in s (ops_in (entry log (suc v))) ≡ cond (same_area (area_of (service_of A.command)) (area_of s)) (incremental_of A.by.rank A.command ∷ []) []
  puts s = ap (put_in s) ops_are ∙ puts_in (view_at log v) A.command A.by.rank A.ops s A.made

  made_is : made_by A.by.rank A.by.request ≡ Some (service_of A.command, incremental_of A.by.rank A.command)
  made_is = ap (option_map (λ (c : Command). (service_of c, incremental_of A.by.rank c))) A.is

  pub asked_made : (s : Service) (incremental : List ℕ) → Contains (put_in s (ops_in (entry log (suc v)))) incremental → made_by A.by.rank A.by.request ≡ Some (s, incremental)
  asked_made s incremental c =
      made_is ∙ ap (λ (p : Service × List ℕ). Some p)
      (only (service_of A.command) s (incremental_of A.by.rank A.command) incremental (subst (λ (xs : List (List ℕ)). Contains xs incremental) (puts s) c))

-- a version of a log that goes on is new if nobody had asked for its change
pub above : (n : ℕ) (asked : List Asked) (old more : List (List ℕ)) (all : (v : ℕ) → v < length old → IsAsked n asked old v) (m : ℕ) (s : Service) (incremental : List ℕ)
    → 1 ≤ m → Contains (put_in s (ops_in (entry (old ++ more) m))) incremental → AllByRecursion (λ (a : Asked). ¬ (made_by a.rank a.request ≡ Some (s, incremental))) asked → ¬ (m ≤ length old)
above n asked old more all zero s incremental some c none le = absurd (omega (arith, some))
above n asked old more all (suc v) s incremental some c none le =
    let A = all v (omega (arith, le)) in
    let begins : IsPrefixOf old (old ++ more) = record { short = omega (arith, length-append old more); same = λ i h. get_or_append_left old more [] i h } in
    of_all (λ (a : Asked). ¬ (made_by a.rank a.request ≡ Some (s, incremental))) asked none A.by A.was_asked
    (asked_made n asked old v A s incremental (subst (λ (x : List ℕ). Contains (put_in s (ops_in x)) incremental) (entry_stays begins (suc v) le) c))

-- ---- changes that are told

in_take : (k : ℕ) (xs : List (List ℕ)) (x : List ℕ) → Contains (take k xs) x → Contains xs x
in_take zero xs x (j, lt, e) = absurd (omega (arith, lt))
in_take (suc k) [] x c = c
in_take (suc k) (y ∷ xs) x (zero, lt, e) = (0, omega arith, e)
in_take (suc k) (y ∷ xs) x (suc j, lt, e) = let c = in_take k xs x (j, omega (arith, lt), e) in (suc c.0, omega (arith, c.1), c.2)

in_drop : (k : ℕ) (xs : List (List ℕ)) (x : List ℕ) → Contains (drop k xs) x → Contains xs x
in_drop zero xs x c = c
in_drop (suc k) [] x c = c
in_drop (suc k) (y ∷ xs) x c = let later = in_drop k xs x c in (suc later.0, omega (arith, later.1), later.2)

-- the version that puts an incremental
pub record IsPut (s : Service) (log : List (List ℕ)) (c : ℕ) (incremental : List ℕ) : Type 0 where
  pub version : ℕ
  pub some : 1 ≤ version
  pub within : version ≤ c
  pub put : Contains (put_in s (ops_in (entry log version))) incremental

pub is_put : (s : Service) (log : List (List ℕ)) (c : ℕ) (incremental : List ℕ) → Contains (incrementals s log c) incremental → IsPut s log c incremental
unfolding incrementals
is_put s log zero incremental (k, lt, e) = absurd (omega (arith, lt))
is_put s log (suc c) incremental k = elim (Contains-append_cases (incrementals s log c) (put_in s (ops_in (entry log (suc c)))) incremental k) [
  | inl old ↦ let p = is_put s log c incremental old in record { version = p.version; some = p.some; within = (let w = p.within in omega (arith, w)); put = p.put }
  | inr new ↦ record { version = suc c; some = omega arith; within = omega arith; put = new }
]

pub told_put : (s : Service) (log : List (List ℕ)) (c from : ℕ) (told : List (List ℕ)) → told ≡ take (length told) (drop from (incrementals s log c)) → (incremental : List ℕ) → Contains told incremental → IsPut s log c incremental
told_put s log c from told is incremental k =
    is_put s log c incremental (in_drop from (incrementals s log c) incremental (in_take (length told) (drop from (incrementals s log c)) incremental (subst (λ (xs : List (List ℕ)). Contains xs incremental) is k)))

-- ---- acknowledgements

abbrev version_of : Acknowledgement → ℕ
version_of a = a.version

none_again : (v : ℕ) (xs : List Acknowledgement) (a : Acknowledgement) → AllByRecursion (λ (b : Acknowledgement). ¬ (b.version ≡ v)) xs → Contains xs a → ¬ (a.version ≡ v)
none_again v xs a h c = of_all (λ (b : Acknowledgement). ¬ (b.version ≡ v)) xs h a c

pub one_of_version : (xs : List Acknowledgement) (a b : Acknowledgement) → AcknowledgedOnce version_of xs → Contains xs a → Contains xs b → a.version ≡ b.version → a ≡ b
one_of_version [] a b h (k, lt, e) d same = absurd (omega (arith, lt))
one_of_version (x ∷ xs) a b h (zero, lt, e) (zero, lt2, e2) same = sym e ∙ e2
one_of_version (x ∷ xs) a b h (zero, lt, e) (suc k, lt2, e2) same = absurd (none_again x.version xs b h.0 (k, omega (arith, lt2), e2) (sym same ∙ ap version_of (sym e)))
one_of_version (x ∷ xs) a b h (suc k, lt, e) (zero, lt2, e2) same = absurd (none_again x.version xs a h.0 (k, omega (arith, lt), e) (same ∙ ap version_of (sym e2)))
one_of_version (x ∷ xs) a b h (suc k, lt, e) (suc l, lt2, e2) same = one_of_version xs a b h.1 (k, omega (arith, lt), e) (l, omega (arith, lt2), e2) same
