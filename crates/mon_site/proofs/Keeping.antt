-- A transaction, if the live disk has the injected fault.
use Rattle.std.proofs.Common.{◌≡◌, ℕ, zero, suc, ◌+◌, ◌<◌, ◌≤◌, Bool, true, false, nat_le, nat_lt, List, [], ◌∷◌, ◌++◌, length, reverse, get_or, Option, Some, None, refl, sym, ap, ◌∙◌, subst, arith, length-append}
use Rattle.std.specs.Prelude.{◌==◌, ◌&&◌, if◌then◌else◌, slice_index_or}
use Rattle.std.proofs.lemmas.Bool.Decides.{nat_tests}
use Rattle.mon_types.specs.declared.names.Side.{Side}
use Rattle.mon_types.specs.declared.names.Stop.TheVariants as disk
use Rattle.mon_disk.specs.Calls.{Observed, Makes}
use Rattle.mon_disk.specs.declared.disk.DiskCall.{DiskCall}
use Rattle.mon_types.specs.declared.names.Stop.{Stop}
use Rattle.mon_disk.specs.Memory.{InjectedFault, Lived, seen_after, imaged, seen_of, settled}
use Rattle.mon_disk.specs.MemoryDisk.{MemoryState, observed_of}
use Rattle.mon_disk.specs.Images.{Only}
use Rattle.mon_disk.specs.Laws.{settles}
use Rattle.mon_disk.proofs.InjectedFaults.{injected_after, all_done, all_begun}
use Rattle.mon_tx.specs.declared.op.Op.{Op}
use Rattle.mon_tx.specs.Map.{Store, apply}
use Rattle.mon_tx.specs.Text.{text}
use Rattle.mon_journal.specs.declared.journal.Journal.{Journal}
use Rattle.mon_journal.specs.Content.{Holds, held_by, payloads_of, appended}
use Rattle.mon_msg.specs.Protocol.Sets.{is_empty}
use Rattle.mon_store.specs.Calls.{journal_after}
use Rattle.mon_journal.specs.Steps.{append_calls}
use Rattle.mon_journal.proofs.Files.{parts_of_file}
use Rattle.mon_types.specs.Sides.{other as other_side}
use Rattle.mon_store.specs.Sound.{of_a, of_b, of_live, Sound, StandsOn, BeforeOrAfter}
use Rattle.mon_store.proofs.OnPairs.{live_is, other_is}
use Rattle.quorum_model.specs.Files.{Files, after_append}
use Rattle.quorum_model.specs.InjectedFaults.{opens_gate}
use Rattle.mon_site.specs.Disks.{file_in, content}
use Rattle.mon_site.specs.InjectedFault.{IsInjected, Leaves, files_on}
use Rattle.mon_site.proofs.Guarded.{guarded, cut_short, IsClean, Walked, walk}
use Rattle.mon_site.proofs.Gates.{is_opened, append_writes, append_gate}
use Rattle.mon_site.proofs.Standing.{files_with, file_by, files_are, append_is, as_it_reads, other_seen, by_name_a, by_name_b}

-- ---- a disk with an injected fault, of which no call failed yet

module _ (call image : ℕ) (d : MemoryState) (up : IsInjected call image d) (only : Only (content d)) where
  abbrev pub u : InjectedFault
  u = record { from = length up.like.calls + call; image = image }

  abbrev pub like_life : Lived
  like_life = injected_after up.like.first u up.like.calls

  pub not_yet : length up.like.calls < u.from
  not_yet = omega (arith, up.first)

  pub seen_is : seen_after up.like.first (reverse up.like.calls) ≡ seen_of d.life
  seen_is = sym (ap (λ (cs : List DiskCall). seen_after up.like.first cs) (all_done up.like.first u up.like.calls not_yet)) ∙ up.seen

  as_seen : settled d.life ≡ seen_of d.life
  as_seen = let h : Some (seen_of d.life) ≡ Some (settled d.life) = only (settled d.life) (settles d) in cc

  pub clean : IsClean up.like.first u up.like.calls
  clean =
      sym (ap (λ (cs : List DiskCall). imaged image up.like.first cs) (all_begun up.like.first u up.like.calls not_yet))
      ∙ sym (ap (λ (t : Observed). t.settles t.made) up.observed)
      ∙ as_seen
      ∙ sym seen_is

  pub count_is : length d.life.calls ≡ length up.like.calls
  count_is = ap (λ (t : Observed). length t.made) up.observed

  walked : (writes : List (ℕ × List ℕ)) (t : Observed) (stop : Option Stop) → Makes (guarded writes) stop (Some (observed_of d.life)) (Some t) → Walked up.like.first u up.like.calls writes t stop
  walked writes t stop m = walk up.like.first u writes up.like.calls t stop not_yet clean (subst (λ (s : Observed). Makes (guarded writes) stop (Some s) (Some t)) up.observed m)

  -- one of these writes or syncs fails
  pub record CutShort (writes : List (ℕ × List ℕ)) (t : Observed) : Type 0 where
    pub done : ℕ
    pub number : call ≡ suc done
    pub within : done < length (guarded writes)
    pub made : length t.made ≡ length d.life.calls + call
    pub leaves : t.settles t.made ≡ cut_short image done writes (seen_of d.life)

  pub cut_of : (writes : List (ℕ × List ℕ)) (t : Observed) → Makes (guarded writes) (Some disk.Failed) (Some (observed_of d.life)) (Some t) → CutShort writes t
  cut_of writes t m =
      let w = walked writes t (Some disk.Failed) m in
      record {
        done = w.done;
        number = omega (arith, w.number);
        within = w.within;
        made = omega (arith, w.made, count_is);
        leaves = w.settles ∙ ap (λ (file : List ℕ). cut_short image w.done writes file) seen_is;
      }

  -- none fails
  pub goes_of : (writes : List (ℕ × List ℕ)) (t : Observed) → Makes (guarded writes) None (Some (observed_of d.life)) (Some t) → length (guarded writes) < call
  goes_of writes t m = let w = walked writes t None m in omega (arith, w.before)

-- ---- an append on the live disk

is_shut : (file : List ℕ) (gate : ℕ) → (get_or file gate 0 ≡ 1 → ⊥) → is_opened file gate ≡ false
is_shut file gate shut = grind (arith, nat_tests)

within_file : (j : Journal) (file : List ℕ) → Holds j (payloads_of file) file → j.next_gate < length file
within_file j file holds =
    let p = parts_of_file file (held_by j (payloads_of file)) holds in
    let long : length file ≡ length (p.before ++ p.gate ∷ p.behind) = ap (λ (l : List ℕ). length l) p.parts in
    omega (arith, long, p.place, length-append p.before (p.gate ∷ p.behind))

shifted : (done : ℕ) → done < 4 → nat_le 2 done ≡ nat_le 3 (suc done)
shifted zero within = refl
shifted (suc zero) within = refl
shifted (suc (suc zero)) within = refl
shifted (suc (suc (suc zero))) within = refl
shifted (suc (suc (suc (suc n)))) within = absurd (omega (arith, within))

opens_is : (call done image : ℕ) → call ≡ suc done → done < 4 → (nat_le 2 done && image == 1) ≡ (nat_le 3 call && image == 1)
opens_is call done image number within = ap (λ (b : Bool). b && image == 1) (shifted done within ∙ ap (λ n. nat_le 3 n) (sym number))

pub opens_late : (call image : ℕ) → call ≤ 4 → opens_gate 3 call image ≡ (nat_le 3 call && image == 1)
opens_late call image late = let no : nat_lt 4 call ≡ false = grind (arith, nat_tests) in rw no refl

some_op : (j : Journal) (ops : List Op) → is_empty ops ≡ false → journal_after j ops ≡ appended j (text ops)
some_op j [] some = absurd cc
some_op j (op ∷ ops) some = refl

module _ (side : Side) (live other new : MemoryState) (j : Journal) (m : Store) (known : ℕ) (ops : List Op) (call image : ℕ)
    (sound : Sound j m known (content live) (content other)) (up : IsInjected call image live) (some : is_empty ops ≡ false)
    (made : Makes (append_calls j.next_gate (text ops)) (Some disk.Failed) (Some (observed_of live.life)) (Some (observed_of new.life)))
    (either : BeforeOrAfter side j m ops (settled (of_a side new other).life) (settled (of_b side new other).life)) where
  abbrev writes : List (ℕ × List ℕ)
  writes = append_writes j.next_gate (text ops)

  abbrev a : List ℕ
  a = settled (of_a side new other).life

  abbrev b : List ℕ
  b = settled (of_b side new other).life

  c : CutShort call image live up sound.stands_live.only writes (observed_of new.life)
  c = cut_of call image live up sound.stands_live.only writes (observed_of new.life) made

  pub late : call ≤ 4
  late = omega (arith, c.number, c.within)

  gate : is_opened (settled new.life) j.next_gate ≡ (nat_le 3 call && image == 1)
  gate =
      ap (λ (l : List ℕ). is_opened l j.next_gate) c.leaves
      ∙ append_gate image c.done j.next_gate (text ops) (seen_of live.life) (is_shut (seen_of live.life) j.next_gate sound.stands_live.shut)
      (within_file j (seen_of live.life) sound.stands_live.holds) c.within
      ∙ opens_is call c.done image c.number c.within

  live_is_it : of_live side a b ≡ settled new.life
  live_is_it = ap (λ (l : List ℕ). of_live side l b) (by_name_a (λ (d : MemoryState). settled d.life) side new other)
      ∙ ap (λ (l : List ℕ). of_live side (of_a side (settled new.life) (settled other.life)) l) (by_name_b (λ (d : MemoryState). settled d.life) side new other)
      ∙ live_is side (settled new.life) (settled other.life)

  other_is_it : of_live (other_side side) a b ≡ settled other.life
  other_is_it = ap (λ (l : List ℕ). of_live (other_side side) l b) (by_name_a (λ (d : MemoryState). settled d.life) side new other)
      ∙ ap (λ (l : List ℕ). of_live (other_side side) (of_a side (settled new.life) (settled other.life)) l) (by_name_b (λ (d : MemoryState). settled d.life) side new other)
      ∙ other_is side (settled new.life) (settled other.life)

  test : (slice_index_or (of_live side a b) j.next_gate 0 == 1) ≡ (nat_le 3 call && image == 1)
  test = ap (λ (l : List ℕ). is_opened l j.next_gate) live_is_it ∙ gate

  abbrev By : Bool → Type 0
  By kept = StandsOn side (if kept then appended j (text ops) else j) (if kept then apply ops m else m) a b

  by_test : By (nat_le 3 call && image == 1)
  by_test = subst By test either

  -- the files before
  abbrev f : Files
  f = files_on (of_a side live other) (of_b side live other)

  before : StandsOn side j m (seen_of (of_a side live other).life) (seen_of (of_b side live other).life)
  before = subst (λ (x : List ℕ). StandsOn side j m x (seen_of (of_b side live other).life)) (sym (by_name_a (λ (d : MemoryState). seen_of d.life) side live other))
      (subst (λ (y : List ℕ). StandsOn side j m (of_a side (seen_of live.life) (seen_of other.life)) y) (sym (by_name_b (λ (d : MemoryState). seen_of d.life) side live other))
      (as_it_reads side live other j m known sound))

  other_before : of_live (other_side side) (seen_of (of_a side live other).life) (seen_of (of_b side live other).life) ≡ seen_of other.life
  other_before = ap (λ (l : List ℕ). of_live (other_side side) l (seen_of (of_b side live other).life)) (by_name_a (λ (d : MemoryState). seen_of d.life) side live other)
      ∙ ap (λ (l : List ℕ). of_live (other_side side) (of_a side (seen_of live.life) (seen_of other.life)) l) (by_name_b (λ (d : MemoryState). seen_of d.life) side live other)
      ∙ other_is side (seen_of live.life) (seen_of other.life)

  same_other : settled other.life ≡ seen_of other.life
  same_other = other_seen side live other j m known sound

  left_by : (kept : Bool) → By kept → Leaves side (if kept then appended j (text ops) else j) (if kept then apply ops m else m) (if kept then after_append ops f else f) (of_a side new other) (of_b side new other)
  left_by true stands = record {
    stands = stands;
    files =
        files_are side (appended j (text ops)) (apply ops m) a b stands
        ∙ ap (λ (l : List ℕ). files_with side (file_by (appended j (text ops))) (file_in l)) (other_is_it ∙ same_other ∙ sym other_before)
        ∙ ap (λ (k : Journal). files_with side (file_by k) (file_in (of_live (other_side side) (seen_of (of_a side live other).life) (seen_of (of_b side live other).life)))) (sym (some_op j ops some))
        ∙ sym (append_is side j m ops (seen_of (of_a side live other).life) (seen_of (of_b side live other).life) before);
  }
  left_by false stands = record {
    stands = stands;
    files =
        files_are side j m a b stands
        ∙ ap (λ (l : List ℕ). files_with side (file_by j) (file_in l)) (other_is_it ∙ same_other ∙ sym other_before)
        ∙ sym (files_are side j m (seen_of (of_a side live other).life) (seen_of (of_b side live other).life) before);
  }

  abbrev is_kept : Bool
  is_kept = nat_le 3 call && image == 1

  -- what is left of the two disks
  pub left : Leaves side (if is_kept then appended j (text ops) else j) (if is_kept then apply ops m else m) (if is_kept then after_append ops f else f) (of_a side new other) (of_b side new other)
  left = left_by is_kept by_test
