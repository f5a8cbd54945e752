-- Reading part after part.
use Rattle.std.proofs.Common.{◌≡◌, ℕ, suc, ◌+◌, ◌-◌, ◌<◌, Bool, true, false, List, [], ◌∷◌, ◌++◌, Option, Some, None, Result, Ok, Err, refl, sym, ap, ◌∙◌, append_assoc, arith}
use Rattle.std.specs.Prelude.{is_none, is_ok}
use Rattle.std.proofs.lemmas.List.{append-nil}
use Rattle.schedule_text.specs.declared.refusal.ScheduleKind.{ScheduleKind}
use Rattle.schedule_text.specs.Fields.{◌>>=◌}
use Rattle.task_words.specs.Parts.{part_of, parts_of}

-- what was read before, and what is still read
abbrev pub with_front : {A : Type 0} → List A → Result (List A) ScheduleKind → Result (List A) ScheduleKind
with_front front read = read >>= λ others. Ok (front ++ others)

pub no_front : {A : Type 0} (read : Result (List A) ScheduleKind) → with_front [] read ≡ read
no_front (Ok others) = refl
no_front (Err kind) = refl

regroup : {A : Type 0} (front : List A) (x : A) (read : Result (List A) ScheduleKind) → with_front front (read >>= λ others. Ok (x ∷ others)) ≡ with_front (front ++ x ∷ []) read
regroup front x (Ok others) = ap (λ (xs : List _). Ok xs) (sym (append_assoc front (x ∷ []) others))
regroup front x (Err kind) = refl

same_ok : {A : Type 0} (x : A) (read : Result (List A) ScheduleKind) → is_ok (read >>= λ others. Ok (x ∷ others)) ≡ is_ok read
same_ok x (Ok others) = refl
same_ok x (Err kind) = refl

module _ (A : Type 0) (separator : ℕ) (read : List ℕ → Result A ScheduleKind) where
  -- what is left of n parts after this many
  abbrev pub left : ℕ → ℕ → Option (List ℕ) → Result (List A) ScheduleKind
  left n done rest = parts_of separator read (n - done) rest

  next_left : (n done : ℕ) (rest : Option (List ℕ)) → done < n
      → left n done rest ≡ (part_of separator read rest >>= λ first. left n (done + 1) first.1 >>= λ others. Ok (first.0 ∷ others))
  unfolding parts_of
  next_left n done rest more = let one : n - done ≡ suc (n - (done + 1)) = omega arith in rw one refl

  last_left : (n done : ℕ) (rest : Option (List ℕ)) → n ≡ done → is_ok (left n done rest) ≡ is_none rest
  unfolding parts_of
  last_left n done None same = let none : n - done ≡ 0 = omega arith in rw none refl
  last_left n done (Some bytes) same = let none : n - done ≡ 0 = omega arith in rw none refl

  all_left : (n done : ℕ) (rest : Option (List ℕ)) → n ≡ done → is_none rest ≡ true → left n done rest ≡ Ok []
  unfolding parts_of
  all_left n done None same nothing = let none : n - done ≡ 0 = omega arith in rw none refl
  all_left n done (Some bytes) same nothing = absurd cc

  -- ---- a test

  pub tests_on : (n done : ℕ) (rest after : Option (List ℕ)) (x : A) (total : Bool) → done < n → part_of separator read rest ≡ Ok (x, after)
      → is_ok (left n done rest) ≡ total → is_ok (left n (done + 1) after) ≡ total
  tests_on n done rest after x total more e so_far =
      let one : is_ok (left n done rest) ≡ is_ok (left n (done + 1) after) = rw (next_left n done rest more, e) (same_ok x (left n (done + 1) after)) in
      sym one ∙ so_far

  pub test_stops : (n done : ℕ) (rest : Option (List ℕ)) (kind : ScheduleKind) (total : Bool) → done < n → part_of separator read rest ≡ Err kind
      → is_ok (left n done rest) ≡ total → false ≡ total
  test_stops n done rest kind total more e so_far =
      let one : is_ok (left n done rest) ≡ false = rw (next_left n done rest more, e) refl in
      sym one ∙ so_far

  pub test_ends : (n done : ℕ) (rest : Option (List ℕ)) (total : Bool) → n ≡ done → is_ok (left n done rest) ≡ total → is_none rest ≡ total
  test_ends n done rest total same so_far = sym (last_left n done rest same) ∙ so_far

  -- ---- the list

  pub reads_on : (n done : ℕ) (front : List A) (rest after : Option (List ℕ)) (x : A) (total : Result (List A) ScheduleKind) → done < n → part_of separator read rest ≡ Ok (x, after)
      → with_front front (left n done rest) ≡ total → with_front (front ++ x ∷ []) (left n (done + 1) after) ≡ total
  reads_on n done front rest after x total more e so_far =
      let one : with_front front (left n done rest) ≡ with_front (front ++ x ∷ []) (left n (done + 1) after) =
      rw (next_left n done rest more, e) (regroup front x (left n (done + 1) after)) in
      sym one ∙ so_far

  pub reading_stops : (n done : ℕ) (front : List A) (rest : Option (List ℕ)) (kind : ScheduleKind) (total : Result (List A) ScheduleKind) → done < n → part_of separator read rest ≡ Err kind
      → with_front front (left n done rest) ≡ total → is_ok total ≡ false
  reading_stops n done front rest kind total more e so_far =
      let one : with_front front (left n done rest) ≡ Err kind = rw (next_left n done rest more, e) refl in
      ap (λ (t : Result (List A) ScheduleKind). is_ok t) (sym so_far ∙ one)

  pub reading_ends : (n done : ℕ) (front : List A) (rest : Option (List ℕ)) (total : Result (List A) ScheduleKind) → n ≡ done → is_none rest ≡ true
      → with_front front (left n done rest) ≡ total → total ≡ Ok front
  reading_ends n done front rest total same nothing so_far =
      sym so_far ∙ ap (with_front front) (all_left n done rest same nothing) ∙ ap (λ (xs : List A). Ok xs) (append-nil front)

  more_left : (front : List A) (read : Result (List A) ScheduleKind) → is_ok (with_front front read) ≡ is_ok read
  more_left front (Ok xs) = refl
  more_left front (Err kind) = refl

  pub reading_leaves : (n done : ℕ) (front : List A) (rest : Option (List ℕ)) (total : Result (List A) ScheduleKind) → n ≡ done → is_none rest ≡ false
      → with_front front (left n done rest) ≡ total → is_ok total ≡ false
  reading_leaves n done front rest total same some so_far =
      ap (λ (t : Result (List A) ScheduleKind). is_ok t) (sym so_far) ∙ more_left front (left n done rest) ∙ last_left n done rest same ∙ some
