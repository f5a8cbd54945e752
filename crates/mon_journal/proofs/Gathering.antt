-- The records of a file, gathered one after the other up to the first closed gate.
use Rattle.std.proofs.Common.{◌≡◌, ℕ, ◌+◌, List, [], ◌∷◌, ◌++◌, take, drop, Option, Some, None, Result, Ok, Err, sym, ap, ◌∙◌}
use Rattle.std.specs.Prelude.{IfSome}
use Rattle.std.proofs.lemmas.List.{drop-drop, append-nil}
use Rattle.mon_journal.specs.declared.stop.JournalStop.{JournalStop}
use Rattle.mon_journal.specs.declared.stop.JournalStop.TheVariants.{DiskFault, NotAStore, OutOfMemory}
use Rattle.mon_journal.specs.Content.{payloads_then, records_at, Finds, HeadAt}
use Rattle.mon_journal.specs.Pieces.{left_at}
use Rattle.mon_journal.proofs.Local.{from}
use Rattle.mon_journal.proofs.RecordParts.{Found, none_before, added}

-- some payloads precede this gate, and the others follow it
abbrev pub SoFar : Option (List ℕ) → ℕ → Type 0
SoFar seen at = IfSome seen (λ file. (before : List (List ℕ)) × (payloads_then before (records_at (left_at at file)) ≡ records_at (left_at 25 file)))

-- what gathering returns
abbrev pub Gathers : Option (List ℕ) → Result ℕ JournalStop → Type 0
Gathers seen result = IfSome seen (λ file. Finds (λ (gate : ℕ) (payloads : List (List ℕ)). (payloads, gate)) result (records_at (left_at 25 file)))

abbrev Head : Option (List ℕ) → ℕ → Result (Option ℕ) JournalStop → Type 0
Head seen at result = IfSome seen (λ file. HeadAt result (left_at at file))

pub begins : (seen : Option (List ℕ)) → SoFar seen 25
begins None = tt
begins (Some file) = ([], none_before (records_at (left_at 25 file)))

pub ends : (seen : Option (List ℕ)) (at : ℕ) → SoFar seen at → Head seen at (Ok None) → Gathers seen (Ok at)
ends None at so_far head = tt
ends (Some file) at (before, so_far) head =
    (before, sym so_far ∙ ap (λ (found : Found). payloads_then before found) head ∙ ap (λ (payloads : List (List ℕ)). Ok (payloads, at)) (append-nil before))

pub fails : (seen : Option (List ℕ)) (at : ℕ) (e : JournalStop) → SoFar seen at → Head seen at (Err e) → Gathers seen (Err e)
fails None at e so_far head = tt
fails (Some file) at DiskFault so_far head = tt
fails (Some file) at OutOfMemory so_far head = tt
fails (Some file) at (NotAStore place) (before, so_far) head = sym so_far ∙ ap (λ (found : Found). payloads_then before found) head

pub goes_on : (seen : Option (List ℕ)) (at n behind : ℕ) → behind ≡ at + (5 + n) → SoFar seen at → Head seen at (Ok (Some n)) → SoFar seen behind
goes_on None at n behind place so_far head = tt
goes_on (Some file) at n behind place (before, so_far) head =
    let payload = take n (drop 5 (drop at file)) in
    let rest : drop (5 + n) (drop at file) ≡ drop behind file = drop-drop (5 + n) at file ∙ ap (λ (k : ℕ). drop k file) (sym place) in (
      before ++ payload ∷ [],
      sym (ap (λ (k : ℕ). payloads_then (before ++ payload ∷ []) (records_at (from k (drop (5 + n) (drop at file))))) (sym place) ∙ ap (λ (l : List ℕ). payloads_then (before ++ payload ∷ []) (records_at (from behind l))) rest)
          ∙ sym (added before payload (records_at (from (at + (5 + n)) (drop (5 + n) (drop at file)))))
          ∙ ap (λ (found : Found). payloads_then before found) (sym head)
          ∙ so_far,
    )
