-- What is on the live disk while a transaction is appended.
use Rattle.std.proofs.Common.{◌≡◌, ◌≢◌, ℕ, true, false, cond, eqb, List, [], ◌∷◌, ◌++◌, Option, Some, Ok, sym, ap, subst, ◌∙◌, arith}
use Rattle.std.specs.Prelude.{IfSome, slice_index_or}
use Rattle.std.proofs.lemmas.Bool.Decides.{nat_tests}
use Rattle.mon_disk.specs.Images.{Content, images}
use Rattle.mon_tx.specs.declared.op.Op.{Op}
use Rattle.mon_tx.specs.Map.{Store}
use Rattle.mon_tx.specs.Text.{text}
use Rattle.mon_journal.specs.declared.journal.Journal.{Journal}
use Rattle.mon_journal.specs.Content.{held_by, appended, Holds}
use Rattle.mon_journal.specs.Steps.{payloads_observed, payloads_seen, Stands}
use Rattle.mon_journal.proofs.Keeping.{seen_holds}
use Rattle.mon_store.specs.Sound.{WithChange}

module _ (journal : Journal) (known : ℕ) (x : Content) (stands : Stands journal known x) where
  -- each image that a crash may leave holds the journal and its payloads
  pub holds_now : (c : List ℕ) → images x c → Holds journal (payloads_seen x) c
  holds_now c left = by x.seen (seen_holds journal known x stands) (stands.only c left)
    where
      by : (s : Option (List ℕ)) → IfSome s (Holds journal (payloads_observed s)) → s ≡ Some c → Holds journal (payloads_observed s) c
      by s holds e = subst (λ (t : Option (List ℕ)). Holds journal (payloads_observed t) c) (sym e) (subst (λ (t : Option (List ℕ)). IfSome t (Holds journal (payloads_observed t))) e holds)

  -- and its first closed gate is closed
  pub shut : (c : List ℕ) → images x c → eqb (slice_index_or c journal.next_gate 0) 1 ≡ false
  shut c left =
      let not : slice_index_or c journal.next_gate 0 ≢ 1 = subst (λ (s : Option (List ℕ)). IfSome s (λ file. slice_index_or file journal.next_gate 0 ≢ 1)) (stands.only c left) stands.shut in
      grind (arith, nat_tests)

  pub not_changed : (m : Store) (ops : List Op) (c : List ℕ) → images x c → WithChange journal (payloads_seen x) m ops c
  not_changed m ops c left = (
    holds_now c left ∙ ap (λ b. Some (Ok (cond b (held_by (appended journal (text ops)) (payloads_seen x ++ text ops ∷ [])) (held_by journal (payloads_seen x))))) (sym (shut c left)),
    λ gate. let both : true ≡ false = sym (ap (λ n. eqb n 1) gate) ∙ shut c left in absurd cc,
  )
