-- Parsing texts with a separator between them accepts exactly their joined text.
use Rattle.std.proofs.Common.{◌≡◌, ℕ, zero, suc, List, [], ◌∷◌, length, map, Option, Some, None, Result, Ok, IsTrue, refl, sym, ap, subst, ◌∙◌}
use Rattle.std.specs.List.{AllByRecursion, list_all}
use Rattle.schedule_text.specs.declared.refusal.ScheduleKind.{ScheduleKind}
use Rattle.schedule_text.specs.Fields.{cut}
use Rattle.mon_bytes.proofs.Fields.{ok_is}
use Rattle.mon_bytes.proofs.Formats.{bind_ok}
use Rattle.schedule_text.proofs.FieldLaws.{apart, cut_again, cut_joined, ended_takes}
use Rattle.schedule_text.proofs.FieldLaws as fields
use Rattle.task_words.specs.Parts.{joined, part_of, parts_of}

-- A part: how it is read, how a value is encoded, and which values have an encoding, in which there is no separator.
pub record IsPart (A : Type 0) (separator : ℕ) (read : List ℕ → Result A ScheduleKind) (text : A → List ℕ) (Fits : A → Type 0) : Type 0 where
  pub takes : (f : List ℕ) (x : A) → read f ≡ Ok x → (f ≡ text x) × Fits x
  pub again : (x : A) → Fits x → read (text x) ≡ Ok x
  pub apart_is : (x : A) → Fits x → IsTrue (list_all (apart separator) (text x))

-- what is left before some parts
abbrev pub before : ℕ → List (List ℕ) → Option (List ℕ)
before separator [] = None
before separator (text ∷ texts) = Some (joined separator (text ∷ texts))

joined-before : (separator : ℕ) (text : List ℕ) (texts : List (List ℕ)) → joined separator (text ∷ texts) ≡ fields.joined separator text (before separator texts)
joined-before separator text [] = refl
joined-before separator text (other ∷ texts) = refl

pub record ArePartsOf {A : Type 0} (separator : ℕ) (text : A → List ℕ) (Fits : A → Type 0) (n : ℕ) (rest : Option (List ℕ)) (xs : List A) : Type 0 where
  pub count : length xs ≡ n
  pub each : AllByRecursion Fits xs
  pub parsed : rest ≡ before separator (map text xs)

module _ (A : Type 0) (separator : ℕ) (read : List ℕ → Result A ScheduleKind) (text : A → List ℕ) (Fits : A → Type 0) (form : IsPart A separator read text Fits) where
  part_takes : (rest : Option (List ℕ)) (x : A) (after : Option (List ℕ)) → part_of separator read rest ≡ Ok (x, after)
      → (rest ≡ Some (fields.joined separator (text x) after)) × Fits x
  unfolding part_of
  part_takes None x after e = absurd cc
  part_takes (Some bytes) x after e =
      let b = bind_ok (read (cut separator bytes).0) (λ (y : A). Ok (y, (cut separator bytes).1)) (x, after) e in
      let same = ok_is (b.0, (cut separator bytes).1) (x, after) b.2 in
      let value : b.0 ≡ x = ap (λ (p : A × Option (List ℕ)). p.0) same in
      let left : (cut separator bytes).1 ≡ after = ap (λ (p : A × Option (List ℕ)). p.1) same in
      let t = form.takes (cut separator bytes).0 x (b.1 ∙ ap (λ (y : A). Ok y) value) in
      (ap (λ (f : List ℕ). Some f) (sym (cut_joined separator bytes) ∙ (λ i. fields.joined separator (t.0 i) (left i))), t.1)

  pub parts_take : (n : ℕ) (rest : Option (List ℕ)) (xs : List A) → parts_of separator read n rest ≡ Ok xs → ArePartsOf separator text Fits n rest xs
  unfolding parts_of
  parts_take zero rest xs e =
      let end = ended_takes rest [] xs e in
      subst (ArePartsOf separator text Fits 0 rest) end.1 (record { count = refl; each = tt; parsed = end.0 })
  parts_take (suc n) rest xs e =
      let a = bind_ok (part_of separator read rest) _ xs e in
      let b = bind_ok (parts_of separator read n a.0.1) (λ (ys : List A). Ok (a.0.0 ∷ ys)) xs a.2 in
      let first = part_takes rest a.0.0 a.0.1 a.1 in
      let others = parts_take n a.0.1 b.0 b.1 in
      subst (ArePartsOf separator text Fits (suc n) rest) (ok_is (a.0.0 ∷ b.0) xs b.2) (record {
        count = ap suc others.count;
        each = (first.1, others.each);
        parsed = first.0 ∙ ap (λ (r : Option (List ℕ)). Some (fields.joined separator (text a.0.0) r)) others.parsed
            ∙ ap (λ (t : List ℕ). Some t) (sym (joined-before separator (text a.0.0) (map text b.0)));
      })

  part_again : (x : A) (texts : List (List ℕ)) → Fits x → part_of separator read (Some (joined separator (text x ∷ texts))) ≡ Ok (x, before separator texts)
  unfolding part_of
  part_again x texts fits =
      rw (joined-before separator (text x) texts, cut_again separator (text x) (before separator texts) (form.apart_is x fits), form.again x fits) refl

  pub parts_again : (xs : List A) → AllByRecursion Fits xs → parts_of separator read (length xs) (before separator (map text xs)) ≡ Ok xs
  unfolding parts_of
  parts_again [] each = refl
  parts_again (x ∷ xs) each = rw (part_again x (map text xs) each.0, parts_again xs each.1) refl
