-- What a crash leaves while a file is made, and what is there then.
use Rattle.std.proofs.Common.{◌≡◌, ◌≢◌, ◌⊎◌, ℕ, ◌+◌, ◌≤◌, max, Bool, true, false, ◌&&◌, eqb, List, [], ◌∷◌, ◌++◌, length, drop, get_or, Option, Some, None, inl, inr, refl, sym, ap, subst, ◌∙◌, length-append, length-drop, arith}
use Rattle.std.specs.Prelude.{IfSome}
use Rattle.std.proofs.lemmas.Bool.{cases_eq}
use Rattle.std.proofs.lemmas.Bool.Decides.{nat_tests}
use Rattle.mon_disk.specs.Images.{Content, images, Only, Torn, TornFrom, LeavesOnly, overwritten, written}
use Rattle.mon_journal.specs.Content.{content}
use Rattle.mon_journal.specs.Steps.{ByTest, ClosedFrom}
use Rattle.mon_journal.proofs.Gates.{torn_behind, written_behind, torn_gate, written_gate}
use Rattle.mon_disk.proofs.Following.{now, then_more, weaker}

pub closed_gate : (gate : ℕ) (bytes : List ℕ) → gate ≢ 1 → content (gate ∷ bytes) ≡ None
unfolding content
closed_gate gate [] shut = refl
closed_gate gate (byte ∷ bytes) shut = let test : eqb gate 1 ≡ false = grind (arith, nat_tests) in rw test refl

pub closed_short : (file : List ℕ) → length file ≤ 1 → content file ≡ None
unfolding content
closed_short [] short = refl
closed_short (gate ∷ []) short = refl
closed_short (gate ∷ byte ∷ bytes) short = absurd (omega arith)

module _ (head : List ℕ) (Q : List ℕ → Type 0) (is_made : (tail : List ℕ) → Q (1 ∷ (head ++ tail))) (most : ℕ) (long : most ≡ 1 + length head) (old : Content) (reads : (file : List ℕ) → old.seen ≡ Some file → images old file) where
  -- the new file isn't open yet: an image from before, or a closed file
  abbrev pub Shut : List ℕ → Type 0
  Shut c = images old c ⊎ ClosedFrom old most c

  abbrev R : List ℕ → Type 0
  R c = images old c ⊎ ClosedFrom old most c ⊎ Q c

  -- the new file if its gate is open and the write of the open gate was begun; otherwise `Shut`
  abbrev pub Opens : Bool → List ℕ → Type 0
  Opens opening c = ByTest (eqb (get_or c 0 0) 1 && opening) (Q c) (Shut c)

  pub not_opening : (opening : Bool) → opening ≡ false → (c : List ℕ) → Shut c → Opens opening c
  not_opening opening is c shut = rw is (by (eqb (get_or c 0 0) 1))
    where
      by : (b : Bool) → ByTest (b && false) (Q c) (Shut c)
      by true = shut
      by false = shut

  wider : (c : List ℕ) → Shut c → R c
  wider c (inl left) = inl left
  wider c (inr closed) = inr (inl closed)

  shut_at : (d c : List ℕ) (gate : ℕ) (behind : List ℕ) → images old d → gate ≢ 1 → c ≡ gate ∷ behind → length c ≤ max (length d) most → Shut c
  shut_at d c gate behind left shut is le = inr (ap content is ∙ closed_gate gate behind shut, (d, left, le))

  -- while the gate is closed
  in_closing : (d c : List ℕ) → images old d → Torn 0 (0 ∷ []) d c → Shut c
  in_closing [] c left torn = inr (closed_short c (omega (arith, torn.no_longer)), ([], left, omega (arith, torn.no_longer, long)))
  in_closing (gate ∷ behind) c left torn = each (torn_gate [] gate behind 0 c torn)
    where
      each : ((g : ℕ) × (c ≡ g ∷ behind) × ((g ≡ gate) ⊎ (g ≡ 0) ⊎ (g ≢ 1))) → Shut c
      each (g, is, inl same) = inl (subst (λ (l : List ℕ). images old l) (sym (is ∙ ap (λ (n : ℕ). n ∷ behind) same)) left)
      each (g, is, inr (inl zeroed)) = shut_at (gate ∷ behind) c g behind left (λ (one : g ≡ 1). omega (arith, one, zeroed)) is (omega (arith, ap length is))
      each (g, is, inr (inr shut)) = shut_at (gate ∷ behind) c g behind left shut is (omega (arith, ap length is))

  -- while the header is written after it
  in_head : (f c : List ℕ) → images old f → Torn 1 head (0 ∷ drop 1 f) c → Shut c
  in_head f c left torn = shut_at f c 0 (drop 1 c) left (omega arith) (torn_behind [] 0 (drop 1 f) head c torn) (omega (arith, torn.no_longer, length-drop 1 f, long))

  -- the file after the closed gate
  abbrev tail : List ℕ → List ℕ
  tail f = drop (1 + length head) (0 ∷ drop 1 f)

  staged : (f : List ℕ) → overwritten 1 head (0 ∷ drop 1 f) ≡ 0 ∷ (head ++ tail f)
  staged f = written_behind [] 0 (drop 1 f) head

  size : (f : List ℕ) → length (0 ∷ (head ++ tail f)) ≤ max (length f) most
  size f = omega (arith, length-append head (tail f), length-drop (1 + length head) (0 ∷ drop 1 f), length-drop 1 f, long)

  -- while the gate is opened
  in_opening : (f c : List ℕ) → images old f → Torn 0 (1 ∷ []) (overwritten 1 head (0 ∷ drop 1 f)) c → Opens true c
  in_opening f c left torn =
      let t = torn_gate [] 0 (head ++ tail f) 1 c (subst (λ (l : List ℕ). Torn 0 (1 ∷ []) l c) (staged f) torn) in
      subst (Opens true) (sym t.1) (elim (cases_eq t.0 1) [
        | inl is_open ↦ let test : eqb t.0 1 ≡ true = grind (arith, nat_tests) in rw test (subst (λ (n : ℕ). Q (n ∷ (head ++ tail f))) (sym is_open) (is_made (tail f)))
        | inr shut ↦
            let test : eqb t.0 1 ≡ false = grind (arith, nat_tests) in
            rw test (shut_at f (t.0 ∷ (head ++ tail f)) t.0 (head ++ tail f) left shut refl (omega (arith, size f)))
      ])

  at_last : (f : List ℕ) → Q (overwritten 0 (1 ∷ []) (overwritten 1 head (0 ∷ drop 1 f)))
  at_last f = subst (λ (l : List ℕ). Q (overwritten 0 (1 ∷ []) l)) (sym (staged f)) (subst Q (sym (written_gate [] 0 (head ++ tail f) 1)) (is_made (tail f)))

  opened_or : (c : List ℕ) → Opens true c → R c
  opened_or c = by (eqb (get_or c 0 0) 1)
    where
      by : (b : Bool) → ByTest (b && true) (Q c) (Shut c) → R c
      by true made = inr (inr made)
      by false shut = wider c shut

  -- ---- the same over what can be seen of a disk

  second : (s s1 : Option (List ℕ)) (d c : List ℕ) → ((f : List ℕ) → s ≡ Some f → images old f) → s1 ≡ written 0 (0 ∷ []) s → s1 ≡ Some d → Torn 1 head d c → Shut c
  second None s1 d c reads e1 e torn = absurd cc
  second (Some f) s1 d c reads e1 e torn =
      let is : d ≡ 0 ∷ drop 1 f = cc in
      in_head f c (reads f refl) (subst (λ (l : List ℕ). Torn 1 head l c) is torn)

  third : (s s1 s2 : Option (List ℕ)) (d c : List ℕ) → ((f : List ℕ) → s ≡ Some f → images old f) → s1 ≡ written 0 (0 ∷ []) s → s2 ≡ written 1 head s1 → s2 ≡ Some d → Torn 0 (1 ∷ []) d c → Opens true c
  third None s1 s2 d c reads e1 e2 e torn = absurd (cc (e2 ∙ ap (λ (t : Option (List ℕ)). written 1 head t) e1))
  third (Some f) s1 s2 d c reads e1 e2 e torn =
      let so : s2 ≡ Some (overwritten 1 head (0 ∷ drop 1 f)) = e2 ∙ ap (λ (t : Option (List ℕ)). written 1 head t) e1 in
      let is : d ≡ overwritten 1 head (0 ∷ drop 1 f) = cc in
      in_opening f c (reads f refl) (subst (λ (l : List ℕ). Torn 0 (1 ∷ []) l c) is torn)

  fourth : (s s1 s2 s3 : Option (List ℕ)) → s1 ≡ written 0 (0 ∷ []) s → s2 ≡ written 1 head s1 → s3 ≡ written 0 (1 ∷ []) s2 → IfSome s3 Q
  fourth None s1 s2 s3 e1 e2 e3 =
      let so : s3 ≡ None = e3 ∙ ap (λ (t : Option (List ℕ)). written 0 (1 ∷ []) t) (e2 ∙ ap (λ (t : Option (List ℕ)). written 1 head t) e1) in
      subst (λ (t : Option (List ℕ)). IfSome t Q) (sym so) tt
  fourth (Some f) s1 s2 s3 e1 e2 e3 =
      let so : s3 ≡ Some (overwritten 0 (1 ∷ []) (overwritten 1 head (0 ∷ drop 1 f))) = e3 ∙ ap (λ (t : Option (List ℕ)). written 0 (1 ∷ []) t) (e2 ∙ ap (λ (t : Option (List ℕ)). written 1 head t) e1) in
      subst (λ (t : Option (List ℕ)). IfSome t Q) (sym so) (at_last f)

  pub one_write : (c1 : Content) → LeavesOnly old c1 (TornFrom old 0 (0 ∷ [])) → LeavesOnly old c1 Shut
  one_write c1 one = weaker old c1 (TornFrom old 0 (0 ∷ [])) Shut one (λ c (d, left, torn). in_closing d c left torn)

  pub two_writes : (c1 c2 : Content) → LeavesOnly old c1 (TornFrom old 0 (0 ∷ [])) → c1.seen ≡ written 0 (0 ∷ []) old.seen → Only c1 → LeavesOnly c1 c2 (TornFrom c1 1 head) → LeavesOnly old c2 Shut
  two_writes c1 c2 one seen1 only1 two =
      then_more old c1 c2 Shut (TornFrom c1 1 head) Shut (one_write c1 one) two (λ c h. h) (λ c (d, left, torn). second old.seen c1.seen d c reads seen1 (only1 d left) torn)

  pub shut_only : (new : Content) → LeavesOnly old new Shut → LeavesOnly old new R
  shut_only new so_far = weaker old new Shut R so_far wider

  module _ (c1 c2 c3 : Content) (one : LeavesOnly old c1 (TornFrom old 0 (0 ∷ []))) (seen1 : c1.seen ≡ written 0 (0 ∷ []) old.seen) (only1 : Only c1) (two : LeavesOnly c1 c2 (TornFrom c1 1 head)) (seen2 : c2.seen ≡ written 1 head c1.seen) (only2 : Only c2)
      (three : LeavesOnly c2 c3 (TornFrom c2 0 (1 ∷ []))) where
    in_third : (c : List ℕ) → TornFrom c2 0 (1 ∷ []) c → Opens true c
    in_third c (d, left, torn) = third old.seen c1.seen c2.seen d c reads seen1 seen2 (only2 d left) torn

    pub three_writes : LeavesOnly old c3 R
    three_writes = then_more old c2 c3 Shut (TornFrom c2 0 (1 ∷ [])) R (two_writes c1 c2 one seen1 only1 two) three wider (λ c torn. opened_or c (in_third c torn))

    -- after its last write was begun, and before
    pub at_third : (opening : Bool) → (opening ≡ false → LeavesOnly c2 c3 (images c2)) → (c : List ℕ) → images c3 c → Opens opening c
    at_third true none c left = in_third c (now c2 c3 (TornFrom c2 0 (1 ∷ [])) three c left)
    at_third false none c left = not_opening false refl c (now old c2 Shut (two_writes c1 c2 one seen1 only1 two) c (now c2 c3 (images c2) (none refl) c left))

  pub is_there : (c1 c2 c3 : Content) → c1.seen ≡ written 0 (0 ∷ []) old.seen → c2.seen ≡ written 1 head c1.seen → c3.seen ≡ written 0 (1 ∷ []) c2.seen → IfSome c3.seen Q
  is_there c1 c2 c3 seen1 seen2 seen3 = fourth old.seen c1.seen c2.seen c3.seen seen1 seen2 seen3
