-- What a crash leaves in each step of an append, and what follows the last one.
use Rattle.std.proofs.Common.{◌≡◌, ◌≢◌, ℕ, ◌+◌, ◌<◌, ◌^◌, true, false, eqb, List, [], ◌∷◌, ◌++◌, length, drop, get_or, max, Option, Some, None, inl, inr, sym, ap, subst, ◌∙◌, append_assoc, length-append, arith}
use Rattle.std.specs.Prelude.{IfSome}
use Rattle.std.proofs.lemmas.Bool.{cases_eq}
use Rattle.std.proofs.lemmas.Bool.Decides.{nat_tests}
use Rattle.mon_bytes.specs.Forms.{u32_bytes}
use Rattle.mon_bytes.proofs.Forms.{length-u32_bytes}
use Rattle.mon_disk.specs.Images.{Content, images, Only, Torn, TornFrom, overwritten, written}
use Rattle.mon_journal.specs.declared.journal.Journal.{Journal}
use Rattle.mon_journal.specs.Content.{Held, content, payloads_of, held_by, Holds, appended, WithOrWithout}
use Rattle.mon_journal.specs.Written.{payload_bytes}
use Rattle.mon_journal.specs.Steps.{payloads_observed, payloads_seen, Stands, Keeps}
use Rattle.mon_journal.proofs.Keeping.{keeps_by, seen_holds}
use Rattle.mon_journal.proofs.Files.{FileParts, parts_of_file, same_shut, one_opened}
use Rattle.mon_journal.proofs.Gates.{torn_behind, written_behind, torn_gate, written_gate, gate_is}

-- the record and the closed gate after it
abbrev pub body : List ℕ → List ℕ
body payload = payload_bytes payload ++ 0 ∷ []

pub length-body : (payload : List ℕ) → length (body payload) ≡ length payload + 5
length-body payload = omega (arith, length-append (payload_bytes payload) (0 ∷ []), length-append (u32_bytes (length payload)) payload, length-u32_bytes (length payload))

module _ (journal : Journal) (payload : List ℕ) (short : length payload < 2 ^ 32) where
  abbrev P : List (List ℕ) → List ℕ → Type 0
  P payloads = WithOrWithout journal payloads payload

  without : (payloads : List (List ℕ)) (c : List ℕ) → Holds journal payloads c → get_or c journal.next_gate 0 ≢ 1 → P payloads c
  without payloads c holds shut = let test : eqb (get_or c journal.next_gate 0) 1 ≡ false = grind (arith, nat_tests) in rw test holds

  with_it : (payloads : List (List ℕ)) (c : List ℕ) → Holds (appended journal payload) (payloads ++ payload ∷ []) c → get_or c journal.next_gate 0 ≡ 1 → P payloads c
  with_it payloads c holds is_open = let test : eqb (get_or c journal.next_gate 0) 1 ≡ true = grind (arith, nat_tests) in rw test holds

  module _ (file : List ℕ) (holds : Holds journal (payloads_of file) file) where
    abbrev held : Held
    held = held_by journal (payloads_of file)

    abbrev q : FileParts file held
    q = parts_of_file file held holds

    gate_in : (gate : ℕ) (behind : List ℕ) → get_or (q.before ++ gate ∷ behind) journal.next_gate 0 ≡ gate
    gate_in gate behind = subst (λ (n : ℕ). get_or (q.before ++ gate ∷ behind) n 0 ≡ gate) q.place (gate_is q.before gate behind)

    shut_there : (gate : ℕ) (behind c : List ℕ) → gate ≢ 1 → c ≡ q.before ++ gate ∷ behind → P (payloads_of file) c
    shut_there gate behind c shut is =
        subst (P (payloads_of file)) (sym is)
        (without (payloads_of file) (q.before ++ gate ∷ behind) (same_shut file held holds gate behind shut) (λ one. shut (sym (gate_in gate behind) ∙ one)))

    opened_there : (behind : List ℕ) → Holds (appended journal payload) (payloads_of file ++ payload ∷ []) (q.before ++ 1 ∷ (body payload ++ behind))
    opened_there behind =
        ap (λ (l : List ℕ). content (q.before ++ 1 ∷ l)) (append_assoc (payload_bytes payload) (0 ∷ []) behind)
        ∙ one_opened file held holds payload 0 behind short (omega arith)

    -- before the first write
    pub at_first : P (payloads_of file) file
    at_first = shut_there q.gate q.behind file q.shut q.parts

    -- while the record is written
    pub in_record : (c : List ℕ) → Torn (journal.next_gate + 1) (body payload) file c → P (payloads_of file) c
    in_record c torn =
        let torn1 : Torn (length q.before + 1) (body payload) (q.before ++ q.gate ∷ q.behind) c =
        subst (λ (f : List ℕ). Torn (length q.before + 1) (body payload) f c) q.parts (subst (λ (n : ℕ). Torn (n + 1) (body payload) file c) (sym q.place) torn) in
        shut_there q.gate (drop (length q.before + 1) c) c q.shut (torn_behind q.before q.gate q.behind (body payload) c torn1)

    -- the file with the record after the closed gate
    abbrev rest : List ℕ
    rest = drop (length q.before + 1 + length (body payload)) (q.before ++ q.gate ∷ q.behind)

    staged : overwritten (journal.next_gate + 1) (body payload) file ≡ q.before ++ q.gate ∷ (body payload ++ rest)
    staged =
        ap (λ (f : List ℕ). overwritten (journal.next_gate + 1) (body payload) f) q.parts
        ∙ ap (λ (n : ℕ). overwritten (n + 1) (body payload) (q.before ++ q.gate ∷ q.behind)) (sym q.place)
        ∙ written_behind q.before q.gate q.behind (body payload)

    each_gate : (g : ℕ) (c : List ℕ) → c ≡ q.before ++ g ∷ (body payload ++ rest) → P (payloads_of file) c
    each_gate g c is = elim (cases_eq g 1) [
      | inl is_open ↦
          let same : c ≡ q.before ++ 1 ∷ (body payload ++ rest) = is ∙ ap (λ (n : ℕ). q.before ++ n ∷ (body payload ++ rest)) is_open in
          subst (P (payloads_of file)) (sym same)
          (with_it (payloads_of file) (q.before ++ 1 ∷ (body payload ++ rest)) (opened_there rest) (gate_in 1 (body payload ++ rest)))
      | inr shut ↦ shut_there g (body payload ++ rest) c shut is
    ]

    -- while the gate is opened
    pub in_gate : (c : List ℕ) → Torn journal.next_gate (1 ∷ []) (overwritten (journal.next_gate + 1) (body payload) file) c → P (payloads_of file) c
    in_gate c torn =
        let torn1 : Torn (length q.before) (1 ∷ []) (q.before ++ q.gate ∷ (body payload ++ rest)) c =
        subst (λ (f : List ℕ). Torn (length q.before) (1 ∷ []) f c) staged (subst (λ (n : ℕ). Torn n (1 ∷ []) (overwritten (journal.next_gate + 1) (body payload) file) c) (sym q.place) torn) in
        let g = torn_gate q.before q.gate (body payload ++ rest) 1 c torn1 in
        each_gate g.0 c g.1

    -- and then
    pub at_last : Holds (appended journal payload) (payloads_of file ++ payload ∷ []) (overwritten journal.next_gate (1 ∷ []) (overwritten (journal.next_gate + 1) (body payload) file))
    at_last =
        ap (λ (f : List ℕ). content (overwritten journal.next_gate (1 ∷ []) f)) staged
        ∙ ap (λ (n : ℕ). content (overwritten n (1 ∷ []) (q.before ++ q.gate ∷ (body payload ++ rest)))) (sym q.place)
        ∙ ap content (written_gate q.before q.gate (body payload ++ rest) 1)
        ∙ opened_there rest

  -- ---- the same over what can be seen of a disk

  first : (s : Option (List ℕ)) (c : List ℕ) → IfSome s (Holds journal (payloads_observed s)) → s ≡ Some c → P (payloads_observed s) c
  first s c holds e = subst (λ (t : Option (List ℕ)). P (payloads_observed t) c) (sym e) (at_first c (subst (λ (t : Option (List ℕ)). IfSome t (Holds journal (payloads_observed t))) e holds))

  second : (s : Option (List ℕ)) (d c : List ℕ) → IfSome s (Holds journal (payloads_observed s)) → s ≡ Some d → Torn (journal.next_gate + 1) (body payload) d c → P (payloads_observed s) c
  second s d c holds e torn = subst (λ (t : Option (List ℕ)). P (payloads_observed t) c) (sym e) (in_record d (subst (λ (t : Option (List ℕ)). IfSome t (Holds journal (payloads_observed t))) e holds) c torn)

  third : (s s1 : Option (List ℕ)) (d c : List ℕ) → IfSome s (Holds journal (payloads_observed s)) → s1 ≡ written (journal.next_gate + 1) (body payload) s → s1 ≡ Some d → Torn journal.next_gate (1 ∷ []) d c → P (payloads_observed s) c
  third None s1 d c holds e1 e torn = absurd cc
  third (Some file) s1 d c holds e1 e torn =
      let is : d ≡ overwritten (journal.next_gate + 1) (body payload) file = cc in
      in_gate file holds c (subst (λ (f : List ℕ). Torn journal.next_gate (1 ∷ []) f c) is torn)

  fourth : (s s1 s2 : Option (List ℕ)) → IfSome s (Holds journal (payloads_observed s)) → s1 ≡ written (journal.next_gate + 1) (body payload) s → s2 ≡ written journal.next_gate (1 ∷ []) s1
      → IfSome s2 (Holds (appended journal payload) (payloads_observed s ++ payload ∷ []))
  fourth None s1 s2 holds e1 e2 =
      subst (λ (t : Option (List ℕ)). IfSome t (Holds (appended journal payload) (payload ∷ []))) (sym (e2 ∙ ap (λ (t : Option (List ℕ)). written journal.next_gate (1 ∷ []) t) e1)) tt
  fourth (Some file) s1 s2 holds e1 e2 =
      subst (λ (t : Option (List ℕ)). IfSome t (Holds (appended journal payload) (payloads_of file ++ payload ∷ []))) (sym (e2 ∙ ap (λ (t : Option (List ℕ)). written journal.next_gate (1 ∷ []) t) e1)) (at_last file holds)

  module _ (old : Content) (known : ℕ) (stands : Stands journal known old) where
    pub before_it : (c : List ℕ) → images old c → P (payloads_seen old) c
    before_it c left = first old.seen c (seen_holds journal known old stands) (stands.only c left)

    pub behind_it : (c : List ℕ) → TornFrom old (journal.next_gate + 1) (body payload) c → P (payloads_seen old) c
    behind_it c (d, left, torn) = second old.seen d c (seen_holds journal known old stands) (stands.only d left) torn

    -- the second write, after the first
    pub in_second : (mid : Content) → mid.seen ≡ written (journal.next_gate + 1) (body payload) old.seen → Only mid → (c : List ℕ) → TornFrom mid journal.next_gate (1 ∷ []) c → P (payloads_seen old) c
    in_second mid seen only c (d, left, torn) = third old.seen mid.seen d c (seen_holds journal known old stands) seen (only d left) torn

    pub is_kept : (mid new : Content) (known1 known2 : ℕ) → mid.seen ≡ written (journal.next_gate + 1) (body payload) old.seen → new.seen ≡ written journal.next_gate (1 ∷ []) mid.seen → Only new
        → journal.next_gate + 1 + length (body payload) < 2 ^ 64 → known1 ≡ max known (journal.next_gate + 1 + length (body payload)) → known2 ≡ max known1 (journal.next_gate + 1) → Keeps (appended journal payload) (payloads_seen old ++ payload ∷ []) known2 new
    is_kept mid new known1 known2 seen1 seen2 only end reach1 reach2 =
        keeps_by (appended journal payload) (payloads_seen old ++ payload ∷ []) known2 new only
        (fourth old.seen mid.seen new.seen (seen_holds journal known old stands) seen1 seen2)
        (omega (arith, reach1, reach2, length-body payload))
        (omega (arith, end, length-body payload))
