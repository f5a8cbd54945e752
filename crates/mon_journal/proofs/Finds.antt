-- What opening finds, and what a crash leaves meanwhile.
use Rattle.std.proofs.Common.{◌≡◌, ◌≢◌, ◌⊎◌, ⊎_elim, ℕ, zero, suc, ◌+◌, ◌≤◌, ◌<◌, ◌^◌, min, max, true, false, not, eqb, List, [], ◌∷◌, ◌++◌, length, take, drop, Option, Some, None, Result, Ok, Err, inl, inr, refl, sym, ap, subst, ◌∙◌, length-append, arith}
use Rattle.std.proofs.lemmas.Bool.Decides.{nat_tests}
use Rattle.std.proofs.lemmas.List.{take_all, drop_all, take-append-drop, length-take, append-nil}
use Rattle.std.specs.Prelude.{IfSome}
use Rattle.mon_types.specs.declared.names.Stop.{Stop}
use Rattle.mon_types.specs.declared.names.Stop.TheVariants as stop
use Rattle.mon_disk.specs.declared.disk.DiskCall.{DiskCall}
use Rattle.mon_disk.specs.declared.disk.DiskCall.TheVariants.{Write, Sync}
use Rattle.mon_disk.specs.Calls.{DiskState, Called}
use Rattle.mon_disk.specs.Images.{Content, images, Only, Torn, TornFrom, overwritten, written}
use Rattle.mon_disk.proofs.Following.{now, widened, then_calls, stopped_at}
use Rattle.mon_journal.specs.declared.stop.JournalStop.{JournalStop}
use Rattle.mon_journal.specs.declared.stop.JournalStop.TheVariants.{DiskFault, NotAStore, OutOfMemory}
use Rattle.mon_journal.specs.declared.journal.Journal.{Journal}
use Rattle.mon_journal.specs.Fields.{◌>>=◌, whole}
use Rattle.mon_journal.specs.Content.{Header, Held, header_at, header_of_file, header_of, records_at, held_at, is_closed, content, payloads_in, payloads_of, held_by, Holds, Fails, Finds, FoundIn, HeaderIs}
use Rattle.mon_journal.specs.Pieces.{left_at, OnlyReads}
use Rattle.mon_journal.specs.Steps.{Closed, payloads_observed, Keeps, stop_in, IsOutside, open_calls, AlikeFrom, Opens, OpensBy}
use Rattle.mon_bytes.specs.Reading.{Reading, number}
use Rattle.mon_journal.proofs.Local.{from}
use Rattle.mon_journal.proofs.RecordParts.{Found, gate_read}
use Rattle.mon_journal.proofs.Steady.{behind, header_steady}
use Rattle.mon_journal.proofs.Keeping.{keeps_by}
use Rattle.mon_journal.proofs.Files.{FileParts, held_with, parts_of_file, same_shut}
use Rattle.mon_journal.proofs.Heads.{each_file, both_files, three_files}
use Rattle.mon_journal.proofs.Gates.{torn_gate, written_gate}

pub is_none : (file : List ℕ) → is_closed file ≡ true → content file ≡ None
unfolding content
is_none file closed = rw closed refl

pub is_some : (file : List ℕ) → is_closed file ≡ false → content file ≡ Some (held_at (from 0 file))
unfolding content
is_some file is_open = rw is_open refl

-- the calls after the first sync, of a file that is seen
abbrev rest_calls : Option (Result Held JournalStop) → List DiskCall
rest_calls (Some (Ok held)) = Write held.next_gate (0 ∷ []) ∷ Sync ∷ []
rest_calls (Some (Err e)) = []
rest_calls None = []

all_calls : (k : Option (Result Held JournalStop)) → Sync ∷ rest_calls k ≡ open_calls k
all_calls (Some (Ok held)) = refl
all_calls (Some (Err e)) = refl
all_calls None = refl

abbrev rest_seen : Option (List ℕ) → List DiskCall
rest_seen None = []
rest_seen (Some file) = rest_calls (content file)

each_seen : (s : Option (List ℕ)) → IfSome s (λ file. Sync ∷ rest_seen s ≡ open_calls (content file))
each_seen None = tt
each_seen (Some file) = all_calls (content file)

itself : (x : Content) (c : List ℕ) → images x c → AlikeFrom x c
itself x c left = (c, left, refl, refl)

-- a stop at the sync, or after it for lack of memory
pub stopped_first : (old new : DiskState) (stop : Stop) → Called (Sync ∷ []) (images old.content) (Some stop) old new → OpensBy (Some stop) old new
stopped_first old new stop c = (Sync ∷ rest_seen old.content.seen, stopped_at (rest_seen old.content.seen) (images old.content) (AlikeFrom old.content) c (itself old.content), each_seen old.content.seen)

pub refused_first : (T : Type 0) (e : JournalStop) (old new : DiskState) → IsOutside e → Called (Sync ∷ []) (images old.content) (stop_in {T = T} (Err e)) old new → OpensBy (stop_in {T = T} (Err e)) old new
refused_first T DiskFault old new outside c = stopped_first old new stop.Failed c
refused_first T OutOfMemory old new outside c = stopped_first old new stop.OutOfMemory c
refused_first T (NotAStore at) old new outside c = absurd outside

-- the sync alone, of a closed file
pub closed_calls : (old new : DiskState) → IfSome old.content.seen (λ file. content file ≡ None) → Called (Sync ∷ []) (images old.content) None old new → OpensBy None old new
closed_calls old new closed c = (
  Sync ∷ [],
  widened (images old.content) (AlikeFrom old.content) c (itself old.content),
  each_file old.content.seen (λ file. content file ≡ None) (λ file. Sync ∷ [] ≡ open_calls (content file)) (λ file none. ap open_calls (sym none)) closed,
)

-- what was found, or why nothing was
pub closed_found : (s : Option (List ℕ)) (known len : ℕ) (new : Content) → Only new → new.seen ≡ s → known ≡ len → IfSome s (λ file. len ≡ length file) → IfSome s (λ file. content file ≡ None) → Opens s known new (Ok (Closed len))
closed_found s known len new only seen reach long none = (
  only,
  seen,
  reach,
  both_files s (λ file. content file ≡ None) (λ file. len ≡ length file) (λ file. (content file ≡ None) × (len ≡ length file)) (λ file one two. (one, two)) none long,
)

pub fault_found : (e : JournalStop) (s : Option (List ℕ)) (known : ℕ) (new : Content) → Only new → new.seen ≡ s → IfSome s (FoundIn (Err e)) → Opens s known new (Err e)
fault_found OutOfMemory s known new only seen fails = tt
fault_found DiskFault s known new only seen fails = tt
fault_found (NotAStore at) s known new only seen fails = (only, seen, fails)

-- the form is at fault, or the outside refused
pub fault_calls : (T : Type 0) (e : JournalStop) (old new : DiskState) → IfSome old.content.seen (FoundIn (Err e)) → Called (Sync ∷ []) (images old.content) (stop_in {T = T} (Err e)) old new → OpensBy (stop_in {T = T} (Err e)) old new
fault_calls T DiskFault old new fails c = stopped_first old new stop.Failed c
fault_calls T OutOfMemory old new fails c = stopped_first old new stop.OutOfMemory c
fault_calls T (NotAStore at) old new fails c = (
  Sync ∷ [],
  widened (images old.content) (AlikeFrom old.content) c (itself old.content),
  each_file old.content.seen (λ file. content file ≡ Some (Err (NotAStore at))) (λ file. Sync ∷ [] ≡ open_calls (content file)) (λ file fault. ap open_calls (sym fault)) fails,
)

-- the payloads that can be seen on a disk are those of its file
pub observed_payloads : (journal : Journal) (s : Option (List ℕ)) → IfSome s (FoundIn (Ok (Some journal))) → IfSome s (Holds journal (payloads_observed s))
observed_payloads journal None found = tt
observed_payloads journal (Some file) (payloads, is) = subst (λ (ps : List (List ℕ)). Holds journal ps file) (sym (ap payloads_in is)) is

module _ (bytes : List ℕ) (journal : Journal) (payloads : List (List ℕ)) (holds : Holds journal payloads bytes) where
  abbrev held : Held
  held = held_by journal payloads

  abbrev q : FileParts bytes held
  q = parts_of_file bytes held holds

  -- the first closed gate is there
  pub within : journal.next_gate < length bytes
  within = omega (arith, ap length q.parts, length-append q.before (q.gate ∷ q.behind), q.place)

  -- zero at the first closed gate
  zeroed : overwritten journal.next_gate (0 ∷ []) bytes ≡ q.before ++ 0 ∷ q.behind
  zeroed = ap (λ (f : List ℕ). overwritten journal.next_gate (0 ∷ []) f) q.parts ∙ ap (λ (n : ℕ). overwritten n (0 ∷ []) (q.before ++ q.gate ∷ q.behind)) (sym q.place) ∙ written_gate q.before q.gate q.behind 0

  shut_again : (g : ℕ) (c : List ℕ) → g ≢ 1 → c ≡ q.before ++ g ∷ q.behind → (content c ≡ content bytes) × (length c ≡ length bytes)
  shut_again g c shut is = (
    ap content is ∙ same_shut bytes held holds g q.behind shut ∙ sym holds,
    omega (arith, ap length is, ap length q.parts, length-append q.before (g ∷ q.behind), length-append q.before (q.gate ∷ q.behind)),
  )

  torn_alike : (c : List ℕ) → Torn journal.next_gate (0 ∷ []) bytes c → (content c ≡ content bytes) × (length c ≡ length bytes)
  torn_alike c torn =
      let torn1 : Torn (length q.before) (0 ∷ []) (q.before ++ q.gate ∷ q.behind) c =
      subst (λ (f : List ℕ). Torn (length q.before) (0 ∷ []) f c) q.parts (subst (λ (n : ℕ). Torn n (0 ∷ []) bytes c) (sym q.place) torn) in
      each (torn_gate q.before q.gate q.behind 0 c torn1)
    where
      each : ((g : ℕ) × (c ≡ q.before ++ g ∷ q.behind) × ((g ≡ q.gate) ⊎ (g ≡ 0) ⊎ (g ≢ 1))) → (content c ≡ content bytes) × (length c ≡ length bytes)
      each (g, is, inl same) = shut_again g c (λ (one : g ≡ 1). q.shut (sym same ∙ one)) is
      each (g, is, inr (inl none)) = shut_again g c (λ (one : g ≡ 1). omega (arith, one, none)) is
      each (g, is, inr (inr shut)) = shut_again g c shut is

  zeroed_holds : Holds journal payloads (overwritten journal.next_gate (0 ∷ []) bytes)
  zeroed_holds = ap content zeroed ∙ same_shut bytes held holds 0 q.behind (omega arith)

-- a store's file isn't shorter than its journal says
pub not_short : (s : Option (List ℕ)) (journal : Journal) (end : ℕ) (P : Type 0) → IfSome s (λ file. Holds journal (payloads_of file) file) → IfSome s (λ file. end ≡ length file) → end ≤ journal.next_gate → IfSome s (λ file. P)
not_short s journal end P holds long short = both_files s (λ file. Holds journal (payloads_of file) file) (λ file. end ≡ length file) (λ file. P)
    (λ file here is. absurd (let there = within file journal (payloads_of file) here in omega (arith, there, is, short))) holds long

-- writing zero at the first closed gate of a store's file doesn't change its content
holds_seen : (journal : Journal) (payloads : List (List ℕ)) (s s1 : Option (List ℕ)) → IfSome s (Holds journal payloads) → s1 ≡ written journal.next_gate (0 ∷ []) s → IfSome s1 (Holds journal payloads)
holds_seen journal payloads None s1 holds is = subst (λ (t : Option (List ℕ)). IfSome t (Holds journal payloads)) (sym is) tt
holds_seen journal payloads (Some file) s1 holds is = subst (λ (t : Option (List ℕ)). IfSome t (Holds journal payloads)) (sym is) (zeroed_holds file journal payloads holds)

module _ (journal : Journal) (payloads : List (List ℕ)) where
  pub is_live : (old mid new : Content) (known1 known2 : ℕ) → IfSome old.seen (Holds journal payloads) → mid.seen ≡ old.seen → new.seen ≡ written journal.next_gate (0 ∷ []) mid.seen → Only new → journal.next_gate + 1 < 2 ^ 64 → known2 ≡ max known1 (journal.next_gate + 1)
      → Keeps journal payloads known2 new × IfSome old.seen (Holds journal payloads)
  is_live old mid new known1 known2 holds seen1 seen2 only end reach = (
    keeps_by journal payloads known2 new only (holds_seen journal payloads old.seen new.seen holds (seen2 ∙ ap (λ (t : Option (List ℕ)). written journal.next_gate (0 ∷ []) t) seen1)) (omega (arith, reach)) end,
    holds,
  )

  -- the sync, and then zero at the first closed gate
  pub live_calls : (old mid new : DiskState) (stop : Option Stop) → IfSome old.content.seen (Holds journal payloads) → mid.content.seen ≡ old.content.seen → Only mid.content → Called (Sync ∷ []) (images old.content) None old mid
      → Called (Write journal.next_gate (0 ∷ []) ∷ Sync ∷ []) (TornFrom mid.content journal.next_gate (0 ∷ [])) stop mid new → OpensBy stop old new
  live_calls old mid new stop holds seen only one two = (
    Sync ∷ Write journal.next_gate (0 ∷ []) ∷ Sync ∷ [],
    then_calls (images old.content) (TornFrom mid.content journal.next_gate (0 ∷ [])) (AlikeFrom old.content) one two (itself old.content) (λ c (d, left, torn).
        let here : Holds journal payloads d = subst (λ (s : Option (List ℕ)). IfSome s (Holds journal payloads)) (sym seen ∙ only d left) holds in
        let a = torn_alike d journal payloads here c torn in
        (d, now old.content mid.content (images old.content) one.any_time d left, a.0, a.1)),
    each_file old.content.seen (Holds journal payloads) (λ file. Sync ∷ Write journal.next_gate (0 ∷ []) ∷ Sync ∷ [] ≡ open_calls (content file)) (λ file is. ap open_calls (sym is)) holds,
  )

-- ---- the head of a file, as far as it is read

-- whether a file is closed is seen from its first 25 bytes
pub closed_head : (n : ℕ) (file : List ℕ) → n ≡ min (length file) 25 → is_closed (take n file) ≡ is_closed file
closed_head n [] is = ap is_closed (take_all n [] (omega arith))
closed_head n (gate ∷ []) is = ap is_closed (take_all n (gate ∷ []) (omega (arith, is)))
closed_head zero (gate ∷ byte ∷ bytes) is = absurd (omega (arith, is))
closed_head (suc zero) (gate ∷ byte ∷ bytes) is = absurd (omega (arith, is))
closed_head (suc (suc n)) (gate ∷ byte ∷ bytes) is = refl

-- an open file begins with 1
begins_open : (file : List ℕ) → is_closed file ≡ false → (rest : List ℕ) × (file ≡ 1 ∷ rest)
begins_open [] is = absurd cc
begins_open (gate ∷ []) is = absurd cc
begins_open (gate ∷ byte ∷ bytes) is = (byte ∷ bytes, ap (λ (g : ℕ). g ∷ byte ∷ bytes) (one gate is))
  where
    one : (g : ℕ) → not (eqb g 1) ≡ false → g ≡ 1
    one g h = grind (arith, nat_tests, h)

header_first : (rest : List ℕ) → header_of_file (1 ∷ rest) ≡ header_at (from 1 rest)
header_first rest = ap (λ (r : Result (ℕ × Reading) JournalStop). r >>= λ gate. header_at gate.1) (gate_read 0 1 rest)

held_header : (file : List ℕ) → held_at (from 0 file) ≡ (header_of_file file >>= λ header. held_with header.0 (records_at header.1))
unfolding held_at
held_header file = each (whole (number 1 (from 0 file)))
  where
    each : (r : Result (ℕ × Reading) JournalStop) → (r >>= λ gate. header_at gate.1 >>= λ header. held_with header.0 (records_at header.1)) ≡ ((r >>= λ gate. header_at gate.1) >>= λ header. held_with header.0 (records_at header.1))
    each (Ok x) = refl
    each (Err e) = refl

-- an open file's header is seen from its first 25 bytes
pub same_header : (n : ℕ) (file : List ℕ) → n ≡ min (length file) 25 → is_closed file ≡ false → header_of_file file ≡ behind (drop n file) (header_of_file (take n file))
same_header n file is is_open =
    let b = begins_open file is_open in
    let head : take n file ≡ 1 ∷ take 24 b.0 = cut b.0 n file b.1 is in
    let tail : drop n file ≡ drop 24 b.0 = left b.0 n file b.1 is in
    ap header_of_file b.1 ∙ header_first b.0 ∙ by b.0
    ∙ ap (λ (r : Result (Header × Reading) JournalStop). behind (drop 24 b.0) r) (sym (header_first (take 24 b.0)))
    ∙ ap (λ (l : List ℕ). behind (drop 24 b.0) (header_of_file l)) (sym head) ∙ ap (λ (l : List ℕ). behind l (header_of_file (take n file))) (sym tail)
  where
    le_or_ge : (m n : ℕ) → (m ≤ n) ⊎ (n ≤ m)
    le_or_ge m n = grind arith

    none : (r : Result (Header × Reading) JournalStop) → behind [] r ≡ r
    none (Ok x) = ap (λ (l : List ℕ). Ok (x.0, from x.1.at l)) (append-nil x.1.rest)
    none (Err e) = refl

    cut : (rest : List ℕ) (n : ℕ) (file : List ℕ) → file ≡ 1 ∷ rest → n ≡ min (length file) 25 → take n file ≡ 1 ∷ take 24 rest
    cut rest n file is n_is =
        ap (λ (l : List ℕ). take n l) is
        ∙ ⊎_elim
        (λ (short : length rest ≤ 24). take_all n (1 ∷ rest) (omega (arith, short, n_is, ap length is)) ∙ ap (λ (l : List ℕ). 1 ∷ l) (sym (take_all 24 rest short)))
        (λ (long : 24 ≤ length rest). ap (λ (k : ℕ). take k (1 ∷ rest)) (let m : n ≡ 25 = omega (arith, long, n_is, ap length is) in m))
        (le_or_ge (length rest) 24)

    left : (rest : List ℕ) (n : ℕ) (file : List ℕ) → file ≡ 1 ∷ rest → n ≡ min (length file) 25 → drop n file ≡ drop 24 rest
    left rest n file is n_is =
        ap (λ (l : List ℕ). drop n l) is
        ∙ ⊎_elim
        (λ (short : length rest ≤ 24). drop_all n (1 ∷ rest) (omega (arith, short, n_is, ap length is)) ∙ sym (drop_all 24 rest short))
        (λ (long : 24 ≤ length rest). ap (λ (k : ℕ). drop k (1 ∷ rest)) (let m : n ≡ 25 = omega (arith, long, n_is, ap length is) in m))
        (le_or_ge (length rest) 24)

    by : (rest : List ℕ) → header_at (from 1 rest) ≡ behind (drop 24 rest) (header_at (from 1 (take 24 rest)))
    by rest = ⊎_elim
        (λ (short : length rest ≤ 24).
        ap (λ (l : List ℕ). header_at (from 1 l)) (sym (take_all 24 rest short)) ∙ sym (none (header_at (from 1 (take 24 rest)))) ∙ ap (λ (l : List ℕ). behind l (header_at (from 1 (take 24 rest)))) (sym (drop_all 24 rest short)))
        (λ (long : 24 ≤ length rest).
        ap (λ (l : List ℕ). header_at (from 1 l)) (sym (take-append-drop 24 rest)) ∙ header_steady.same (from 1 (take 24 rest)) (drop 24 rest) (omega (arith, long, length-take 24 rest)))
        (le_or_ge (length rest) 24)

-- what the file holds, by its header and its records
module _ (n : ℕ) (file : List ℕ) (is : n ≡ min (length file) 25) (is_open : is_closed file ≡ false) where
  pub header_fault : (e : JournalStop) → Fails e (header_of_file (take n file)) → FoundIn (Err e) file
  header_fault DiskFault fails = tt
  header_fault OutOfMemory fails = tt
  header_fault (NotAStore at) fails =
      is_some file is_open
      ∙ ap (λ (r : Result Held JournalStop). Some r) (held_header file)
      ∙ ap (λ (r : Result (Header × Reading) JournalStop). Some (r >>= λ header. held_with header.0 (records_at header.1))) (same_header n file is is_open ∙ ap (λ (r : Result (Header × Reading) JournalStop). behind (drop n file) r) fails)

  module _ (journal : Journal) (header : HeaderIs (Ok journal) (header_of_file (take n file))) where
    header_there : header_of_file file ≡ Ok (header_of journal, left_at 25 file)
    header_there =
        let b = begins_open file is_open in
        let one : header_of_file file ≡ Ok (header_of journal, from header.0.at (header.0.rest ++ drop n file)) = same_header n file is is_open ∙ ap (λ (r : Result (Header × Reading) JournalStop). behind (drop n file) r) header.1 in
        let two : header_at (from 1 b.0) ≡ Ok (header_of journal, from header.0.at (header.0.rest ++ drop n file)) = sym (ap header_of_file b.1 ∙ header_first b.0) ∙ one in
        let moved_on = header_steady.moves (from 1 b.0) (header_of journal, from header.0.at (header.0.rest ++ drop n file)) two in
        one ∙ ap (λ (c : Reading). Ok (header_of journal, c)) (moved_on ∙ ap (λ (l : List ℕ). left_at 25 l) (sym b.1))

    held_there : content file ≡ Some (held_with (header_of journal) (records_at (left_at 25 file)))
    held_there =
        is_some file is_open
        ∙ ap (λ (r : Result Held JournalStop). Some r) (held_header file)
        ∙ ap (λ (r : Result (Header × Reading) JournalStop). Some (r >>= λ header. held_with header.0 (records_at header.1))) header_there

    pub records_fault : (e : JournalStop) → Fails e (records_at (left_at 25 file)) → FoundIn (Err e) file
    records_fault DiskFault fails = tt
    records_fault OutOfMemory fails = tt
    records_fault (NotAStore at) fails = held_there ∙ ap (λ (found : Found). Some (held_with (header_of journal) found)) fails

    pub records_there : (gate : ℕ) → Finds (λ (g : ℕ) (payloads : List (List ℕ)). (payloads, g)) (Ok gate) (records_at (left_at 25 file))
        → FoundIn (Ok (Some (record { member = journal.member; generation = journal.generation; next_gate = gate; form = journal.form }))) file
    records_there gate (payloads, found) = (payloads, held_there ∙ ap (λ (f : Found). Some (held_with (header_of journal) f)) found)

-- ---- the same, if the file may be seen

module _ (s : Option (List ℕ)) (end n : ℕ) (bytes : List ℕ) (long : IfSome s (λ file. end ≡ length file)) (n_is : n ≡ min end 25) (read : IfSome s (λ file. bytes ≡ take n (drop 0 file))) where
  short : (file : List ℕ) → end ≡ length file → n ≡ min (length file) 25
  short file is = n_is ∙ ap (λ (k : ℕ). min k 25) is

  same_closed : (file : List ℕ) → end ≡ length file → bytes ≡ take n (drop 0 file) → is_closed file ≡ is_closed bytes
  same_closed file is head = sym (closed_head n file (short file is)) ∙ ap is_closed (sym head)

  pub closed_on : is_closed bytes ≡ true → IfSome s (FoundIn (Ok None))
  closed_on closed = both_files s (λ file. end ≡ length file) (λ file. bytes ≡ take n (drop 0 file)) (FoundIn (Ok None)) (λ file is head. is_none file (same_closed file is head ∙ closed)) long read

  module _ (is_open : is_closed bytes ≡ false) where
    pub header_fault_on : (e : JournalStop) → Fails e (header_of_file bytes) → IfSome s (FoundIn (Err e))
    header_fault_on e fails = both_files s (λ file. end ≡ length file) (λ file. bytes ≡ take n (drop 0 file)) (FoundIn (Err e))
        (λ file is head. header_fault n file (short file is) (same_closed file is head ∙ is_open) e (subst (λ (l : List ℕ). Fails e (header_of_file l)) head fails)) long read

    module _ (journal : Journal) (header : HeaderIs (Ok journal) (header_of_file bytes)) where
      pub records_fault_on : (e : JournalStop) → IfSome s (λ file. Finds (λ (g : ℕ) (payloads : List (List ℕ)). (payloads, g)) (Err e) (records_at (left_at 25 file))) → IfSome s (FoundIn (Err e))
      records_fault_on e fails = three_files s (λ file. end ≡ length file) (λ file. bytes ≡ take n (drop 0 file)) (λ file. Finds (λ (g : ℕ) (payloads : List (List ℕ)). (payloads, g)) (Err e) (records_at (left_at 25 file))) (FoundIn (Err e))
          (λ file is head f. records_fault n file (short file is) (same_closed file is head ∙ is_open) journal (subst (λ (l : List ℕ). HeaderIs (Ok journal) (header_of_file l)) head header) e f) long read fails

      pub found_on : (gate : ℕ) → IfSome s (λ file. Finds (λ (g : ℕ) (payloads : List (List ℕ)). (payloads, g)) (Ok gate) (records_at (left_at 25 file)))
          → IfSome s (FoundIn (Ok (Some (record { member = journal.member; generation = journal.generation; next_gate = gate; form = journal.form }))))
      found_on gate found = three_files s (λ file. end ≡ length file) (λ file. bytes ≡ take n (drop 0 file)) (λ file. Finds (λ (g : ℕ) (payloads : List (List ℕ)). (payloads, g)) (Ok gate) (records_at (left_at 25 file)))
          (FoundIn (Ok (Some (record { member = journal.member; generation = journal.generation; next_gate = gate; form = journal.form }))))
          (λ file is head f. records_there n file (short file is) (same_closed file is head ∙ is_open) journal (subst (λ (l : List ℕ). HeaderIs (Ok journal) (header_of_file l)) head header) gate f) long read found

-- a disk is read after its sync
pub read_behind : (stop : Option Stop) (old mid new : DiskState) → Called (Sync ∷ []) (images old.content) None old mid → OnlyReads stop mid new → Called (Sync ∷ []) (images old.content) stop old new
read_behind stop old mid new one r = then_calls (images old.content) (images mid.content) (images old.content) one r.call (λ c left. left) (λ c left. now old.content mid.content (images old.content) one.any_time c left)

pub only_read : (stop : Option Stop) (old new : DiskState) → OnlyReads stop old new → Only old.content → Only new.content
only_read stop old new r only = λ c left. r.seen ∙ only c (now old.content new.content (images old.content) r.call.any_time c left)
