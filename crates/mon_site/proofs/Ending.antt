-- The end of an event in which a disk fails: what its disks settle to.
use Rattle.std.proofs.Common.{◌≡◌, ℕ, ◌+◌, ◌<◌, ◌≤◌, Bool, true, false, nat_le, nat_lt, List, [], ◌∷◌, Some, None, refl, sym, ap, ◌∙◌, subst, arith}
use Rattle.std.specs.Prelude.{◌==◌, ◌&&◌, ◌||◌, if◌then◌else◌}
use Rattle.std.proofs.lemmas.Bool.Decides.{nat_tests}
use Rattle.mon_types.specs.declared.member.Member.{Member}
use Rattle.mon_types.specs.declared.names.Side.{Side}
use Rattle.mon_types.specs.declared.names.Side.TheVariants.{A, B}
use Rattle.mon_types.specs.declared.names.Stop.TheVariants as disk
use Rattle.mon_disk.specs.declared.disk.DiskCall.{DiskCall}
use Rattle.mon_disk.specs.Calls.{Makes}
use Rattle.mon_disk.specs.Memory.{from_of, seen_of, settled}
use Rattle.mon_disk.specs.MemoryDisk.{MemoryState, observed_of}
use Rattle.mon_tx.specs.declared.op.Op.{Op}
use Rattle.mon_tx.specs.Map.{Store, apply}
use Rattle.mon_tx.specs.Text.{text}
use Rattle.mon_journal.specs.declared.journal.Form.TheVariants.{Second}
use Rattle.mon_journal.specs.declared.journal.Journal.{Journal}
use Rattle.mon_journal.specs.Content.{appended}
use Rattle.mon_journal.specs.Steps.{create_calls, made_more}
use Rattle.mon_journal.specs.Written.{owner_of}
use Rattle.mon_msg.specs.Protocol.Sets.{is_empty}
use Rattle.mon_store.specs.Calls.{apply_calls, restart_calls, journal_after}
use Rattle.mon_store.specs.Checkpoint.{checkpoint_text}
use Rattle.mon_types.specs.Sides.{other as other_side}
use Rattle.mon_store.specs.Sound.{of_a, of_b, of_live, next_journal, Sound, BeforeOrAfter, Restarted}
use Rattle.mon_store.specs.Sound as stored
use Rattle.mon_store.proofs.OnPairs.{store_view_opens}
use Rattle.quorum_model.specs.Cuts.{checkpoint_begun}
use Rattle.quorum_model.specs.Files.{Files, live_side, after_append}
use Rattle.quorum_model.specs.InjectedFaults.{same_side, opens_gate}
use Rattle.mon_site.specs.Disks.{file_in, content}
use Rattle.mon_site.specs.InjectedFault.{IsInjected, Leaves, files_on}
use Rattle.mon_site.specs.Faults.{Settles}
use Rattle.mon_site.proofs.Checkpointing.{Ends, files_seen, stands_seen, seen_other, nothing_begun, whole_begun, cut_checkpoint}
use Rattle.mon_site.proofs.Gates.{append_writes, create_writes}
use Rattle.mon_site.proofs.Keeping.{goes_of, left, late, opens_late}
use Rattle.mon_site.proofs.Openings.{unfailing}
use Rattle.mon_site.proofs.Standing.{file_by, live_stands, append_is}
use Rattle.mon_site.proofs.Standing as standing

pub settles_so : (member : Member) (side : Side) (j : Journal) (m : Store) (f : Files) (a b : MemoryState) → Leaves side j m f a b → owner_of j.member ≡ owner_of member → j.form ≡ Second → Settles member m f a b
settles_so member side j m f a b l own second = record {
  opens = record { store_view = record { side = side; journal = j; kv = m }; opens = store_view_opens j m member side (settled a.life) (settled b.life) l.stands own; form = second; map = refl };
  files = l.files;
}

-- the live disk is the failing one, or the other one is
pub data Either (call image : ℕ) (disk side : Side) (live other : MemoryState) : Type 0 where
  OnLive : (same_side disk side ≡ true) → IsInjected call image live → (other.life.upset ≡ None) → Either call image disk side live other
  OnOther : (same_side disk side ≡ false) → IsInjected call image other → (live.life.upset ≡ None) → Either call image disk side live other

pub either : (call image : ℕ) (disk side : Side) (live other : MemoryState) → IsInjected call image (of_live disk (of_a side live other) (of_b side live other))
    → (of_live (other_side disk) (of_a side live other) (of_b side live other)).life.upset ≡ None → Either call image disk side live other
either call image A A live other up calm = OnLive refl up calm
either call image A B live other up calm = OnOther refl up calm
either call image B A live other up calm = OnOther refl up calm
either call image B B live other up calm = OnLive refl up calm

module _ (side : Side) (live other : MemoryState) (j : Journal) (m : Store) (known : ℕ) (sound : Sound j m known (content live) (content other)) where
  abbrev a : MemoryState
  a = of_a side live other

  abbrev b : MemoryState
  b = of_b side live other

  pub live_now : live_side (files_on a b) ≡ side
  live_now = live_stands side j m (seen_of a.life) (seen_of b.life) (stands_seen side live other j m known sound)

  -- a transaction that is kept whole
  pub files_grow : (new : MemoryState) (k : Journal) (n : Store) (later : ℕ) (ops : List Op) → Sound k n later (content new) (content other) → k ≡ journal_after j ops
      → files_on (of_a side new other) (of_b side new other) ≡ after_append ops (files_on a b)
  files_grow new k n later ops after is =
      files_seen side new other k n later after
      ∙ ap (λ (l : Journal). standing.files_with side (file_by l) (file_in (seen_of other.life))) is
      ∙ ap (λ (l : List ℕ). standing.files_with side (file_by (journal_after j ops)) (file_in l)) (sym (seen_other side live other j m known sound))
      ∙ sym (append_is side j m ops (seen_of a.life) (seen_of b.life) (stands_seen side live other j m known sound))

  pub uncut_by : (ops : List Op) (call image : ℕ) (new : MemoryState) → IsInjected call image live → Makes (apply_calls j.next_gate ops) None (Some (observed_of live.life)) (Some (observed_of new.life)) → (nat_lt 4 call || is_empty ops) ≡ true
  uncut_by [] call image new up made = by (nat_lt 4 call)
    where
      by : (t : Bool) → (t || true) ≡ true
      by true = refl
      by false = refl
  uncut_by (op ∷ ops) call image new up made =
      let more : 4 < call = goes_of call image live up sound.stands_live.only (append_writes j.next_gate (text (op ∷ ops))) (observed_of new.life) made in
      let test : nat_lt 4 call ≡ true = later call more in rw test refl
    where
      later : (n : ℕ) → 4 < n → nat_lt 4 n ≡ true
      later n h = grind (arith, nat_tests)

  -- a call of the live disk fails
  pub live_cut : (member : Member) (ops : List Op) (call image : ℕ) (disk_ : Side) (new : MemoryState) → Either call image disk_ side live other
      → Makes (apply_calls j.next_gate ops) (Some disk.Failed) (Some (observed_of live.life)) (Some (observed_of new.life))
      → BeforeOrAfter side j m ops (settled (of_a side new other).life) (settled (of_b side new other).life)
      → owner_of j.member ≡ owner_of member → j.form ≡ Second
      → (same_side disk_ side ≡ true) × (is_empty ops ≡ false) × (call ≤ 4) × ((nat_le 3 call && image == 1) ≡ opens_gate 3 call image)
      × Settles member (if nat_le 3 call && image == 1 then apply ops m else m) (if nat_le 3 call && image == 1 then after_append ops (files_on a b) else files_on a b) (of_a side new other) (of_b side new other)
  live_cut member ops call image disk_ new (OnOther apart up calm) made before own second =
      let r = unfailing (Some disk.Failed) (apply_calls j.next_gate ops) (observed_of live.life) (observed_of new.life) (ap from_of calm) made in absurd (r.0 refl)
  live_cut member [] call image disk_ new (OnLive same up calm) made before own second = absurd (made.1 refl)
  live_cut member (op ∷ ops) call image disk_ new (OnLive same up calm) made before own second =
      let l = left side live other new j m known (op ∷ ops) call image sound up refl made before in
      let early = late side live other new j m known (op ∷ ops) call image sound up refl made before in
      let test : Bool = nat_le 3 call && image == 1 in (
        same,
        refl,
        early,
        sym (opens_late call image early),
        settles_so member side (if test then appended j (text (op ∷ ops)) else j) (if test then apply (op ∷ ops) m else m) (if test then after_append (op ∷ ops) (files_on a b) else files_on a b) (of_a side new other) (of_b side new other) l
            (by test own) (formed test second),
      )
    where
      by : (t : Bool) → owner_of j.member ≡ owner_of member → owner_of (if t then appended j (text (op ∷ ops)) else j).member ≡ owner_of member
      by true own = own
      by false own = own

      formed : (t : Bool) → j.form ≡ Second → (if t then appended j (text (op ∷ ops)) else j).form ≡ Second
      formed true second = second
      formed false second = second

  -- the checkpoint that is due is cut short, or whole
  pub due_cut : (member : Member) (call image : ℕ) (new : MemoryState) → IsInjected call image other → j.form ≡ Second → stored.is_due j m ≡ true
      → Makes (restart_calls j m) (Some disk.Failed) (Some (observed_of other.life)) (Some (observed_of new.life))
      → Restarted side j m (content other) (made_more 4 (observed_of other.life) (observed_of new.life)) (of_a side (settled live.life) (settled new.life)) (of_b side (settled live.life) (settled new.life))
      → owner_of j.member ≡ owner_of member
      → Settles member m (checkpoint_begun call image m (files_on a b)) (of_a side live new) (of_b side live new)
  due_cut member call image new up second due made begun own =
      let e : Ends j m (checkpoint_begun call image m (files_on a b)) (of_a side live new) (of_b side live new) =
      cut_checkpoint side live other new j m known sound call image up second due
      (subst (λ (cs : List DiskCall). Makes cs (Some disk.Failed) (Some (observed_of other.life)) (Some (observed_of new.life))) (ap (λ (b : Bool). if b then create_calls (owner_of j.member) (j.generation + 1) (Some (checkpoint_text m)) else []) due) made) begun in
      settles_so member e.side e.journal m (checkpoint_begun call image m (files_on a b)) (of_a side live new) (of_b side live new) e.leaves (e.owner ∙ own) e.form

  -- how many calls a whole checkpoint makes
  pub due_beyond : (call image : ℕ) (new : MemoryState) → IsInjected call image other → stored.is_due j m ≡ true → Makes (restart_calls j m) None (Some (observed_of other.life)) (Some (observed_of new.life)) → 6 < call
  due_beyond call image new up due made =
      goes_of call image other up sound.only_other (create_writes (owner_of j.member) (j.generation + 1) (Some (checkpoint_text m))) (observed_of new.life)
      (subst (λ (cs : List DiskCall). Makes cs None (Some (observed_of other.life)) (Some (observed_of new.life))) (ap (λ (b : Bool). if b then create_calls (owner_of j.member) (j.generation + 1) (Some (checkpoint_text m)) else []) due) made)

  pub due_whole : (member : Member) (call image later : ℕ) (new : MemoryState) → Sound (next_journal j m) m later (content new) (content live) → 6 < call → j.form ≡ Second → stored.is_due j m ≡ true → owner_of j.member ≡ owner_of member
      → Settles member m (checkpoint_begun call image m (files_on a b)) (of_a (other_side side) new live) (of_b (other_side side) new live)
  due_whole member call image later new after beyond second due own =
      settles_so member (other_side side) (next_journal j m) m (checkpoint_begun call image m (files_on a b)) (of_a (other_side side) new live) (of_b (other_side side) new live)
      (whole_begun side live other new j m known later sound after call image beyond second due) own refl

  pub none_due : (member : Member) (call image : ℕ) → j.form ≡ Second → stored.is_due j m ≡ false → owner_of j.member ≡ owner_of member → Settles member m (checkpoint_begun call image m (files_on a b)) a b
  none_due member call image second idle own = settles_so member side j m (checkpoint_begun call image m (files_on a b)) a b (nothing_begun side live other j m known sound call image second idle) own second
