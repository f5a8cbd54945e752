-- The arguments of a command line as texts, and the numbers that they encode.
use Rattle.std.proofs.Common.{◌≡◌, ℕ, ◌<◌, ◌≤◌, Bool, true, String, string_bytes, List, [], ◌∷◌, ◌++◌, map, length, slice_index_or, sym, ap, ◌∙◌, arith}
use Rattle.std.specs.declared.alloc.Global.{Global}
use Rattle.std.specs.Str.{bytes_eq}
use Rattle.std.proofs.lemmas.Slice.Eq.{bytes_eq-Decides}

-- a text that passes the test for another is that one
pub same_text : (a b : List ℕ) (test : Bool) → test ≡ bytes_eq a b → test ≡ true → a ≡ b
same_text a b test is holds = (bytes_eq-Decides a b).0 (sym is ∙ holds)

pub passes : (a b : List ℕ) → a ≡ b → bytes_eq a b ≡ true
passes a b same = (bytes_eq-Decides a b).1 same

-- ---- the texts after a command's name

-- The arguments are these strings, as many as the length says, and these texts are their bytes.
pub two_texts : (texts : List (String Global)) (a b : String Global) (x y : List ℕ) → 2 ≤ length texts → length texts < 3 → a ≡ slice_index_or texts 0 a → b ≡ slice_index_or texts 1 b
    → x ≡ string_bytes a → y ≡ string_bytes b → map string_bytes texts ≡ x ∷ y ∷ []
two_texts [] a b x y some few first second is same = absurd (omega arith)
two_texts (s ∷ []) a b x y some few first second is same = absurd (omega arith)
two_texts (s ∷ t ∷ []) a b x y some few first second is same =
    (λ i. sym (is ∙ ap string_bytes first) i ∷ sym (same ∙ ap string_bytes second) i ∷ [])
two_texts (s ∷ t ∷ u ∷ more) a b x y some few first second is same = absurd (omega arith)

pub three_texts : (texts : List (String Global)) (a b c : String Global) (x y z : List ℕ) → 3 ≤ length texts → length texts < 4 → a ≡ slice_index_or texts 0 a
    → b ≡ slice_index_or texts 1 b → c ≡ slice_index_or texts 2 c → x ≡ string_bytes a → y ≡ string_bytes b → z ≡ string_bytes c → map string_bytes texts ≡ x ∷ y ∷ z ∷ []
three_texts [] a b c x y z some few first second third is same alike = absurd (omega arith)
three_texts (s ∷ []) a b c x y z some few first second third is same alike = absurd (omega arith)
three_texts (s ∷ t ∷ []) a b c x y z some few first second third is same alike = absurd (omega arith)
three_texts (s ∷ t ∷ u ∷ []) a b c x y z some few first second third is same alike =
    (λ i. sym (is ∙ ap string_bytes first) i ∷ sym (same ∙ ap string_bytes second) i ∷ sym (alike ∙ ap string_bytes third) i ∷ [])
three_texts (s ∷ t ∷ u ∷ v ∷ more) a b c x y z some few first second third is same alike = absurd (omega arith)

-- texts with the names of two files among them, which may be any
pub record WithFiles (before behind texts : List (List ℕ)) : Type 0 where
  pub disk_a : List ℕ
  pub disk_b : List ℕ
  pub are : texts ≡ before ++ disk_a ∷ disk_b ∷ behind

pub four_texts : (texts : List (String Global)) (a b : String Global) (x y : List ℕ) → 4 ≤ length texts → length texts < 5 → a ≡ slice_index_or texts 0 a → b ≡ slice_index_or texts 1 b
    → x ≡ string_bytes a → y ≡ string_bytes b → WithFiles (x ∷ y ∷ []) [] (map string_bytes texts)
four_texts [] a b x y some few first second is same = absurd (omega arith)
four_texts (s ∷ []) a b x y some few first second is same = absurd (omega arith)
four_texts (s ∷ t ∷ []) a b x y some few first second is same = absurd (omega arith)
four_texts (s ∷ t ∷ u ∷ []) a b x y some few first second is same = absurd (omega arith)
four_texts (s ∷ t ∷ u ∷ v ∷ []) a b x y some few first second is same = record {
  disk_a = string_bytes u;
  disk_b = string_bytes v;
  are = (λ i. sym (is ∙ ap string_bytes first) i ∷ sym (same ∙ ap string_bytes second) i ∷ string_bytes u ∷ string_bytes v ∷ []);
}
four_texts (s ∷ t ∷ u ∷ v ∷ w ∷ more) a b x y some few first second is same = absurd (omega arith)

pub six_texts : (texts : List (String Global)) (a b e f : String Global) (x y z w : List ℕ) → 6 ≤ length texts → length texts < 7 → a ≡ slice_index_or texts 0 a
    → b ≡ slice_index_or texts 1 b → e ≡ slice_index_or texts 4 e → f ≡ slice_index_or texts 5 f → x ≡ string_bytes a → y ≡ string_bytes b → z ≡ string_bytes e → w ≡ string_bytes f
    → WithFiles (x ∷ y ∷ []) (z ∷ w ∷ []) (map string_bytes texts)
six_texts [] a b e f x y z w some few i j k l m n o p = absurd (omega arith)
six_texts (q ∷ []) a b e f x y z w some few i j k l m n o p = absurd (omega arith)
six_texts (q ∷ r ∷ []) a b e f x y z w some few i j k l m n o p = absurd (omega arith)
six_texts (q ∷ r ∷ s ∷ []) a b e f x y z w some few i j k l m n o p = absurd (omega arith)
six_texts (q ∷ r ∷ s ∷ t ∷ []) a b e f x y z w some few i j k l m n o p = absurd (omega arith)
six_texts (q ∷ r ∷ s ∷ t ∷ u ∷ []) a b e f x y z w some few i j k l m n o p = absurd (omega arith)
six_texts (q ∷ r ∷ s ∷ t ∷ u ∷ v ∷ []) a b e f x y z w some few i j k l m n o p = record {
  disk_a = string_bytes s;
  disk_b = string_bytes t;
  are = (λ h. sym (m ∙ ap string_bytes i) h ∷ sym (n ∙ ap string_bytes j) h ∷ string_bytes s ∷ string_bytes t ∷ sym (o ∙ ap string_bytes k) h ∷ sym (p ∙ ap string_bytes l) h ∷ []);
}
six_texts (q ∷ r ∷ s ∷ t ∷ u ∷ v ∷ c ∷ more) a b e f x y z w some few i j k l m n o p = absurd (omega arith)

pub seven_texts : (texts : List (String Global)) (a b c d g : String Global) (v w x y z : List ℕ) → 7 ≤ length texts → length texts < 8 → a ≡ slice_index_or texts 0 a
    → b ≡ slice_index_or texts 1 b → c ≡ slice_index_or texts 2 c → d ≡ slice_index_or texts 3 d → g ≡ slice_index_or texts 6 g → v ≡ string_bytes a → w ≡ string_bytes b
    → x ≡ string_bytes c → y ≡ string_bytes d → z ≡ string_bytes g → WithFiles (v ∷ w ∷ x ∷ y ∷ []) (z ∷ []) (map string_bytes texts)
seven_texts [] a b c d g v w x y z some few h i j k l m n o p q = absurd (omega arith)
seven_texts (r ∷ []) a b c d g v w x y z some few h i j k l m n o p q = absurd (omega arith)
seven_texts (r ∷ s ∷ []) a b c d g v w x y z some few h i j k l m n o p q = absurd (omega arith)
seven_texts (r ∷ s ∷ t ∷ []) a b c d g v w x y z some few h i j k l m n o p q = absurd (omega arith)
seven_texts (r ∷ s ∷ t ∷ u ∷ []) a b c d g v w x y z some few h i j k l m n o p q = absurd (omega arith)
seven_texts (r ∷ s ∷ t ∷ u ∷ e ∷ []) a b c d g v w x y z some few h i j k l m n o p q = absurd (omega arith)
seven_texts (r ∷ s ∷ t ∷ u ∷ e ∷ f ∷ []) a b c d g v w x y z some few h i j k l m n o p q = absurd (omega arith)
seven_texts (r ∷ s ∷ t ∷ u ∷ e ∷ f ∷ last ∷ []) a b c d g v w x y z some few h i j k l m n o p q = record {
  disk_a = string_bytes e;
  disk_b = string_bytes f;
  are = (λ step. sym (m ∙ ap string_bytes h) step ∷ sym (n ∙ ap string_bytes i) step ∷ sym (o ∙ ap string_bytes j) step ∷ sym (p ∙ ap string_bytes k) step
      ∷ string_bytes e ∷ string_bytes f ∷ sym (q ∙ ap string_bytes l) step ∷ []);
}
seven_texts (r ∷ s ∷ t ∷ u ∷ e ∷ f ∷ last ∷ other ∷ more) a b c d g v w x y z some few h i j k l m n o p q = absurd (omega arith)
