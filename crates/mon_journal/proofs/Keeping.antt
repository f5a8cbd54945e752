-- `Stands` and `Keeps` from what a disk holds, and what it holds from these.
use Rattle.std.proofs.Common.{◌≡◌, ◌≢◌, ℕ, ◌+◌, ◌<◌, ◌^◌, ◌∷◌, ◌++◌, List, Option, Some, None, Result, get_or, sym, ap, subst, ◌∙◌}
use Rattle.std.specs.Prelude.{IfSome}
use Rattle.mon_disk.specs.Images.{Content, Only}
use Rattle.mon_journal.specs.declared.stop.JournalStop.{JournalStop}
use Rattle.mon_journal.specs.declared.journal.Journal.{Journal}
use Rattle.mon_journal.specs.Content.{Held, payloads_in, payloads_of, held_by, Holds}
use Rattle.mon_journal.specs.Steps.{payloads_observed, payloads_seen, Stands, Keeps}
use Rattle.mon_journal.proofs.Files.{FileParts, parts_of_file}
use Rattle.mon_journal.proofs.Gates.{gate_is}

these : (journal : Journal) (payloads : List (List ℕ)) (file : List ℕ) → Holds journal payloads file → payloads_of file ≡ payloads
these journal payloads file holds = ap (λ (k : Option (Result Held JournalStop)). payloads_in k) holds

itself : (journal : Journal) (payloads : List (List ℕ)) (s : Option (List ℕ)) → IfSome s (Holds journal payloads) → IfSome s (λ file. Holds journal (payloads_of file) file)
itself journal payloads None holds = tt
itself journal payloads (Some file) holds = subst (λ (ps : List (List ℕ)). Holds journal ps file) (sym (these journal payloads file holds)) holds

all_these : (journal : Journal) (payloads : List (List ℕ)) (s : Option (List ℕ)) → IfSome s (Holds journal payloads) → IfSome s (λ file. payloads_of file ≡ payloads)
all_these journal payloads None holds = tt
all_these journal payloads (Some file) holds = these journal payloads file holds

-- the first closed gate is closed
pub is_shut : (journal : Journal) (payloads : List (List ℕ)) (file : List ℕ) → Holds journal payloads file → get_or file journal.next_gate 0 ≢ 1
is_shut journal payloads file holds =
    let q : FileParts file (held_by journal payloads) = parts_of_file file (held_by journal payloads) holds in
    let there : get_or file journal.next_gate 0 ≡ q.gate =
    ap (λ (f : List ℕ). get_or f journal.next_gate 0) q.parts ∙ ap (λ (n : ℕ). get_or (q.before ++ q.gate ∷ q.behind) n 0) (sym q.place) ∙ gate_is q.before q.gate q.behind in
    λ one. q.shut (sym there ∙ one)

all_shut : (journal : Journal) (payloads : List (List ℕ)) (s : Option (List ℕ)) → IfSome s (Holds journal payloads) → IfSome s (λ file. get_or file journal.next_gate 0 ≢ 1)
all_shut journal payloads None holds = tt
all_shut journal payloads (Some file) holds = is_shut journal payloads file holds

pub keeps_by : (journal : Journal) (payloads : List (List ℕ)) (known : ℕ) (x : Content) → Only x → IfSome x.seen (Holds journal payloads) → journal.next_gate < known → journal.next_gate + 1 < 2 ^ 64 → Keeps journal payloads known x
keeps_by journal payloads known x only holds reach room = record {
  stands = record { only = only; holds = itself journal payloads x.seen holds; shut = all_shut journal payloads x.seen holds; reach = reach; room = room };
  payloads_are = all_these journal payloads x.seen holds;
}

observed : (journal : Journal) (s : Option (List ℕ)) → IfSome s (λ file. Holds journal (payloads_of file) file) → IfSome s (Holds journal (payloads_observed s))
observed journal None holds = tt
observed journal (Some file) holds = holds

pub seen_holds : (journal : Journal) (known : ℕ) (x : Content) → Stands journal known x → IfSome x.seen (Holds journal (payloads_seen x))
seen_holds journal known x stands = observed journal x.seen stands.holds
