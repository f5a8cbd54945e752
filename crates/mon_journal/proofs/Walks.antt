-- The payloads of a store's file, read one after the other.
use Rattle.std.proofs.Common.{◌≡◌, ℕ, ◌+◌, List, [], ◌∷◌, take, drop, Option, Some, None, Result, Ok, Err, sym, ap, ◌∙◌}
use Rattle.std.specs.Prelude.{IfSome}
use Rattle.std.proofs.lemmas.List.{drop-drop}
use Rattle.mon_bytes.specs.Reading.{Reading}
use Rattle.mon_bytes.proofs.Fields.{ok_is}
use Rattle.mon_journal.specs.declared.stop.JournalStop.{JournalStop}
use Rattle.mon_journal.specs.declared.stop.JournalStop.TheVariants.{DiskFault, NotAStore, OutOfMemory}
use Rattle.mon_journal.specs.declared.journal.Journal.{Journal}
use Rattle.mon_journal.specs.Content.{Held, content, payloads_then, header_at, records_at, payloads_in, payloads_of, held_by, Holds, Fails, IsUnread, IsNext, HeadAt, NextIs}
use Rattle.mon_journal.specs.Pieces.{left_at}
use Rattle.mon_journal.proofs.Local.{from, bind_ok}
use Rattle.mon_journal.proofs.RecordParts.{one_found}
use Rattle.mon_journal.proofs.Files.{held_with, held_open, held_found, opened_file}
use Rattle.mon_journal.specs.Steps.{IsOutside}
use Rattle.mon_journal.proofs.Steady.{header_steady}
use Rattle.mon_journal.proofs.Heads.{each_file, both_files}

-- a file is open, and each field up to its first closed gate is valid
abbrev pub IsStore : List ℕ → Type 0
IsStore file = (held : Held) × (content file ≡ Some (Ok held))

-- after the gate and the header of a store's file all its payloads are left
pub all_left : (file : List ℕ) → IsStore file → IsUnread (payloads_of file) (left_at 25 file)
all_left file (held, is) =
    let o = opened_file file held is in
    let b = bind_ok (header_at (from 1 o.0)) (λ h. held_with h.0 (records_at h.1)) held (sym (held_open o.0) ∙ o.2) in
    let f = held_found b.0.0 (records_at b.0.1) held b.2 in
    let last_is : left_at 25 file ≡ b.0.1 = ap (λ (bytes : List ℕ). left_at 25 bytes) o.1 ∙ sym (header_steady.moves (from 1 o.0) b.0 b.1) in
    let payloads : held.payloads ≡ payloads_of file = sym (ap payloads_in is) in
    (held.next_gate, ap records_at last_is ∙ f.0 ∙ ap (λ (ps : List (List ℕ)). Ok (ps, held.next_gate)) payloads)

pub all_left_on : (s : Option (List ℕ)) (journal : Journal) → IfSome s (λ file. Holds journal (payloads_of file) file) → IfSome s (λ file. IsUnread (payloads_of file) (left_at 25 file))
all_left_on s journal holds = each_file s (λ file. Holds journal (payloads_of file) file) (λ file. IsUnread (payloads_of file) (left_at 25 file)) (λ file is. all_left file (held_by journal (payloads_of file), is)) holds

-- none is left at a closed gate
pub none_left : (payloads : List (List ℕ)) (c : Reading) → IsUnread payloads c → records_at c ≡ Ok ([], c.at) → payloads ≡ []
none_left payloads c left shut = sym (ap (λ p. p.0) (ok_is ([], c.at) (payloads, left.0) (sym shut ∙ left.1)))

-- one that is left, and those after it
pub one_left : (payloads : List (List ℕ)) (c behind : Reading) (payload : List ℕ) → IsUnread payloads c → records_at c ≡ payloads_then (payload ∷ []) (records_at behind) → IsNext (Some payload) payloads behind
one_left payloads c behind payload left is =
    let y = one_found payload (records_at behind) (payloads, left.0) (sym is ∙ left.1) in
    (y.0.0, ap (λ z. z.0) y.2, (y.0.1, y.1))

-- if some are left, none is at fault
pub fails_none : {V : Type 0} (view : V → List ℕ) (e : JournalStop) (payloads : List (List ℕ)) (c behind : Reading) → IsUnread payloads c → Fails e (records_at c) → NextIs view payloads behind (Err e)
fails_none view DiskFault payloads c behind left fails = tt
fails_none view (NotAStore at) payloads c behind left fails = absurd (cc (fails, left.1))
fails_none view OutOfMemory payloads c behind left fails = tt

-- ---- the same, if the file may be seen

abbrev pub Next : {V : Type 0} → (V → List ℕ) → Option (List ℕ) → ℕ → ℕ → Result (Option V) JournalStop → Type 0
Next view seen gate behind result = IfSome seen (λ file. (payloads : List (List ℕ)) → IsUnread payloads (left_at gate file) → NextIs view payloads (left_at behind file) result)

abbrev pub Head : Option (List ℕ) → ℕ → Result (Option ℕ) JournalStop → Type 0
Head seen gate result = IfSome seen (λ file. HeadAt result (left_at gate file))

module _ {V : Type 0} (view : V → List ℕ) (seen : Option (List ℕ)) (gate : ℕ) where
  pub next_fails : (behind : ℕ) (e : JournalStop) → Head seen gate (Err e) → Next view seen gate behind (Err e)
  next_fails behind e head =
      each_file seen (λ file. HeadAt (Err e) (left_at gate file)) (λ file. (payloads : List (List ℕ)) → IsUnread payloads (left_at gate file) → NextIs view payloads (left_at behind file) (Err e))
      (λ file fails payloads left. fails_none view e payloads (left_at gate file) (left_at behind file) left fails) head

  pub next_outside : (behind : ℕ) (e : JournalStop) → IsOutside e → Next view seen gate behind (Err e)
  next_outside behind e outside = by e outside seen
    where
      by : (e : JournalStop) → IsOutside e → (s : Option (List ℕ)) → Next view s gate behind (Err e)
      by e is None = tt
      by DiskFault is (Some file) = λ payloads left. tt
      by OutOfMemory is (Some file) = λ payloads left. tt
      by (NotAStore at) is (Some file) = absurd is

  pub next_none : (behind : ℕ) → Head seen gate (Ok None) → Next view seen gate behind (Ok None)
  next_none behind head =
      each_file seen (λ file. HeadAt (Ok None) (left_at gate file)) (λ file. (payloads : List (List ℕ)) → IsUnread payloads (left_at gate file) → payloads ≡ [])
      (λ file shut payloads left. none_left payloads (left_at gate file) left shut) head

  pub next_one : (behind n : ℕ) (v : V) → behind ≡ gate + (5 + n) → IfSome seen (λ file. view v ≡ take n (drop (gate + 5) file)) → Head seen gate (Ok (Some n)) → Next view seen gate behind (Ok (Some v))
  next_one behind n v place read head = both_files seen (λ file. view v ≡ take n (drop (gate + 5) file)) (λ file. HeadAt (Ok (Some n)) (left_at gate file))
      (λ file. (payloads : List (List ℕ)) → IsUnread payloads (left_at gate file) → IsNext (Some (view v)) payloads (left_at behind file))
      (λ file is more payloads left. one_left payloads (left_at gate file) (left_at behind file) (view v) left (here file is more)) read head
    where
      here : (file : List ℕ) → view v ≡ take n (drop (gate + 5) file) → HeadAt (Ok (Some n)) (left_at gate file) → records_at (left_at gate file) ≡ payloads_then (view v ∷ []) (records_at (left_at behind file))
      here file is more =
          let payload : take n (drop 5 (drop gate file)) ≡ view v = ap (λ (l : List ℕ). take n l) (drop-drop 5 gate file) ∙ sym is in
          let rest : drop (5 + n) (drop gate file) ≡ drop behind file = drop-drop (5 + n) gate file ∙ ap (λ (k : ℕ). drop k file) (sym place) in
          more
          ∙ ap (λ (p : List ℕ). payloads_then (p ∷ []) (records_at (from (gate + (5 + n)) (drop (5 + n) (drop gate file))))) payload
          ∙ ap (λ (k : ℕ). payloads_then (view v ∷ []) (records_at (from k (drop (5 + n) (drop gate file))))) (sym place)
          ∙ ap (λ (l : List ℕ). payloads_then (view v ∷ []) (records_at (from behind l))) rest
