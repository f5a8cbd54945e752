-- A transaction of a store with an injected fault, and the checkpoint that is due.
use Rattle.std.proofs.Common.{◌≡◌, ◌⊎◌, inl, inr, ℕ, ◌<◌, ◌≤◌, Bool, true, false, nat_le, nat_lt, List, [], ◌∷◌, Some, None, Ok, refl, sym, ap, ◌∙◌, subst, arith}
use Rattle.std.specs.Prelude.{◌==◌, ◌&&◌, ◌||◌, not, if◌then◌else◌}
use Rattle.std.proofs.lemmas.Bool.Decides.{nat_tests}
use Rattle.mon_types.specs.declared.member.Member.{Member}
use Rattle.mon_types.specs.declared.names.Side.{Side}
use Rattle.mon_types.specs.declared.names.Side.TheVariants.{A, B}
use Rattle.mon_types.specs.declared.names.Stop.TheVariants as disk
use Rattle.mon_disk.specs.Calls.{Makes}
use Rattle.mon_disk.specs.Memory.{from_of, settled}
use Rattle.mon_disk.specs.MemoryDisk.{MemoryState, observed_of}
use Rattle.mon_tx.specs.declared.op.Op.{Op}
use Rattle.mon_tx.specs.Map.{Store, apply}
use Rattle.mon_kv.specs.Readers.{size_of, most_size}
use Rattle.mon_journal.specs.declared.journal.Journal.{Journal}
use Rattle.mon_journal.specs.Steps.{made_more}
use Rattle.mon_journal.specs.Written.{owner_of}
use Rattle.mon_msg.specs.Protocol.Sets.{is_empty}
use Rattle.mon_store.specs.declared.store.Store as kept
use Rattle.mon_store.specs.Calls.{apply_calls, restart_calls, journal_after}
use Rattle.mon_types.specs.Sides.{other as other_side}
use Rattle.mon_store.specs.Sound.{of_a, of_b, of_live, next_journal, Sound, BeforeOrAfter, Restarted}
use Rattle.mon_store.specs.Sound as stored
use Rattle.mon_store.specs.Whole.{disk_a, disk_b, disk_of}
use Rattle.quorum_model.specs.Cuts.{after_checkpoint, checkpoint_begun}
use Rattle.quorum_model.specs.Files.{Files, live_side, after_append}
use Rattle.quorum_model.specs.InjectedFaults.{same_side}
use Rattle.mon_site.specs.declared.finishing.Kept.TheVariants.{Whole, Cut}
use Rattle.mon_site.specs.declared.injected.InjectedFault.{InjectedFault}
use Rattle.mon_site.specs.Disks.{content}
use Rattle.mon_site.specs.Ending.{IsKept, Keeps, on_live, is_beyond}
use Rattle.mon_site.specs.Faults.{HasFault, Settles}
use Rattle.mon_site.specs.InjectedFault.{IsInjected, files_on}
use Rattle.mon_site.proofs.Ending.{Either, OnLive, OnOther, either, live_now, files_grow, uncut_by, live_cut, due_cut, due_beyond, due_whole, none_due}
use Rattle.mon_site.proofs.Openings.{unfailing}

abbrev Held : Type 0
Held = kept.Store MemoryState

pub after_form : (j : Journal) (ops : List Op) → (journal_after j ops).form ≡ j.form
after_form j [] = refl
after_form j (op ∷ ops) = refl

pub after_owner : (j : Journal) (ops : List Op) → owner_of (journal_after j ops).member ≡ owner_of j.member
after_owner j [] = refl
after_owner j (op ∷ ops) = refl

neither : (t : Bool) → (t && false) ≡ false
neither true = refl
neither false = refl

not_late : (n : ℕ) → n ≤ 4 → nat_lt 4 n ≡ false
not_late n h = grind (arith, nat_tests)

-- ---- a transaction

module _ (u : InjectedFault) (member : Member) (m : Store) (f : Files) (ops : List Op) (old new : Held) (faulty : HasFault u.disk u.call u.image member m f old) (side : new.side ≡ old.side) (other : new.other ≡ old.other) where
  which : Either u.call u.image u.disk old.side old.live old.other
  which = either u.call u.image u.disk old.side old.live old.other faulty.upset faulty.calm

  live_is : live_side f ≡ old.side
  live_is = ap live_side (sym faulty.files) ∙ live_now old.side old.live old.other old.journal old.kv old.live.known faulty.sound

  on_it : on_live u f ≡ same_side u.disk old.side
  on_it = ap (λ (s : Side). same_side u.disk s) live_is

  by_names : (P : MemoryState → MemoryState → Type 0) → P (of_a old.side new.live old.other) (of_b old.side new.live old.other) → P (disk_a new) (disk_b new)
  by_names P h =
      subst (λ (o : MemoryState). P (of_a new.side new.live o) (of_b new.side new.live o)) (sym other)
      (subst (λ (s : Side). P (of_a s new.live old.other) (of_b s new.live old.other)) (sym side) h)

  pub whole : new.broken ≡ false → Sound new.journal new.kv new.live.known (content new.live) (content new.other) → new.journal ≡ journal_after old.journal ops → size_of (apply ops old.kv) ≤ most_size → new.kv ≡ apply ops old.kv
      → Makes (apply_calls old.journal.next_gate ops) None (Some (observed_of old.live.life)) (Some (observed_of new.live.life)) → Keeps u member m f ops new (Ok Whole)
  whole unbroken sound journal small map made =
      let here : Sound new.journal new.kv new.live.known (content new.live) (content old.other) = subst (λ (o : MemoryState). Sound new.journal new.kv new.live.known (content new.live) (content o)) other sound in (
        uncut which,
        subst (λ (n : Store). size_of (apply ops n) ≤ most_size) faulty.map small,
        record {
          unbroken = unbroken;
          sound = sound;
          form = ap (λ (j : Journal). j.form) journal ∙ after_form old.journal ops ∙ faulty.form;
          owner = ap (λ (j : Journal). owner_of j.member) journal ∙ after_owner old.journal ops ∙ faulty.owner;
          map = map ∙ ap (λ (n : Store). apply ops n) faulty.map;
          files = by_names (λ a b. files_on a b ≡ after_append ops f)
              (files_grow old.side old.live old.other old.journal old.kv old.live.known faulty.sound new.live new.journal new.kv new.live.known ops here journal ∙ ap (after_append ops) faulty.files);
          other = others which;
        },
      )
    where
      uncut : Either u.call u.image u.disk old.side old.live old.other → (on_live u f && not (is_beyond u ops)) ≡ false
      uncut (OnLive same up calm) =
          let beyond : is_beyond u ops ≡ true = uncut_by old.side old.live old.other old.journal old.kv old.live.known faulty.sound ops u.call u.image new.live up made in
          ap (λ (b : Bool). on_live u f && not b) beyond ∙ neither (on_live u f)
      uncut (OnOther apart up calm) = ap (λ (b : Bool). b && not (is_beyond u ops)) (on_it ∙ apart)

      others : Either u.call u.image u.disk old.side old.live old.other → ((on_live u f ≡ true) × (new.other.life.upset ≡ None)) ⊎ ((on_live u f ≡ false) × IsInjected u.call u.image new.other)
      others (OnLive same up calm) = inl (on_it ∙ same, ap (λ (o : MemoryState). o.life.upset) other ∙ calm)
      others (OnOther apart up calm) = inr (on_it ∙ apart, subst (λ (o : MemoryState). IsInjected u.call u.image o) (sym other) up)

  pub cut : size_of (apply ops old.kv) ≤ most_size → Makes (apply_calls old.journal.next_gate ops) (Some disk.Failed) (Some (observed_of old.live.life)) (Some (observed_of new.live.life))
      → BeforeOrAfter old.side old.journal old.kv ops (settled (disk_a new).life) (settled (disk_b new).life) → Keeps u member m f ops new (Ok (Cut (nat_le 3 u.call && u.image == 1)))
  cut small made before =
      let test : Bool = nat_le 3 u.call && u.image == 1 in
      let here : BeforeOrAfter old.side old.journal old.kv ops (settled (of_a old.side new.live old.other).life) (settled (of_b old.side new.live old.other).life) =
      subst (λ (o : MemoryState). BeforeOrAfter old.side old.journal old.kv ops (settled (of_a old.side new.live o).life) (settled (of_b old.side new.live o).life)) other
      (subst (λ (s : Side). BeforeOrAfter old.side old.journal old.kv ops (settled (of_a s new.live new.other).life) (settled (of_b s new.live new.other).life)) side before) in
      let r = live_cut old.side old.live old.other old.journal old.kv old.live.known faulty.sound member ops u.call u.image u.disk new.live which made here faulty.owner faulty.form in
      let late : nat_lt 4 u.call ≡ false = not_late u.call r.2 in (
        on_it ∙ r.0,
        ap (λ (b : Bool). b || is_empty ops) late ∙ r.1,
        subst (λ (n : Store). size_of (apply ops n) ≤ most_size) faulty.map small,
        r.3,
        by_names (λ a b. Settles member (if test then apply ops m else m) (if test then after_append ops f else f) a b)
            (subst (λ (n : Store). Settles member (if test then apply ops n else n) (if test then after_append ops f else f) (of_a old.side new.live old.other) (of_b old.side new.live old.other)) faulty.map
            (subst (λ (g : Files). Settles member (if test then apply ops old.kv else old.kv) (if test then after_append ops g else g) (of_a old.side new.live old.other) (of_b old.side new.live old.other)) faulty.files r.4)),
      )

-- ---- a checkpoint

named : {X : Type 0} (side : Side) (a b : X) → of_a side (of_live side a b) (of_live (other_side side) a b) ≡ a
named A a b = refl
named B a b = refl

named_b : {X : Type 0} (side : Side) (a b : X) → of_b side (of_live side a b) (of_live (other_side side) a b) ≡ b
named_b A a b = refl
named_b B a b = refl

turned_live : {X : Type 0} (side : Side) (live other : X) → of_live side (of_a (other_side side) live other) (of_b (other_side side) live other) ≡ other
turned_live A live other = refl
turned_live B live other = refl

turned_other : {X : Type 0} (side : Side) (live other : X) → of_live (other_side side) (of_a (other_side side) live other) (of_b (other_side side) live other) ≡ live
turned_other A live other = refl
turned_other B live other = refl

module _ (live : Bool) (call image : ℕ) (member : Member) (m : Store) (f : Files) (old new : Held) (is : IsKept live call image member m f old) where
  abbrev wanted : Files
  wanted = if live then after_checkpoint m f else checkpoint_begun call image m f

  abbrev Wants : Type 0
  Wants = Settles member m wanted (disk_a new) (disk_b new)

  -- by which call the other disk fails
  by_call : (n i : ℕ) → Settles member old.kv (checkpoint_begun n i old.kv (files_on (disk_a old) (disk_b old))) (disk_a new) (disk_b new) → checkpoint_begun n i m f ≡ wanted → Wants
  by_call n i h e =
      subst (λ (g : Files). Settles member m g (disk_a new) (disk_b new)) e
      (subst (λ (k : Store). Settles member k (checkpoint_begun n i k f) (disk_a new) (disk_b new)) is.map
      (subst (λ (g : Files). Settles member old.kv (checkpoint_begun n i old.kv g) (disk_a new) (disk_b new)) is.files h))

  on_live_is : live ≡ true → checkpoint_begun 7 0 m f ≡ wanted
  on_live_is e = ap (λ (b : Bool). if b then after_checkpoint m f else checkpoint_begun call image m f) (sym e)

  on_other_is : live ≡ false → checkpoint_begun call image m f ≡ wanted
  on_other_is e = ap (λ (b : Bool). if b then after_checkpoint m f else checkpoint_begun call image m f) (sym e)

  pub not_due : stored.is_due old.journal old.kv ≡ false → new ≡ old → Wants
  not_due idle same = by is.other
    where
      with_call : (n i : ℕ) → Settles member old.kv (checkpoint_begun n i old.kv (files_on (disk_a old) (disk_b old))) (disk_a new) (disk_b new)
      with_call n i =
          subst (λ (s : Held). Settles member old.kv (checkpoint_begun n i old.kv (files_on (disk_a old) (disk_b old))) (disk_a s) (disk_b s)) (sym same)
          (none_due old.side old.live old.other old.journal old.kv old.live.known is.sound member n i is.form idle is.owner)

      by : ((live ≡ true) × (old.other.life.upset ≡ None)) ⊎ ((live ≡ false) × IsInjected call image old.other) → Wants
      by (inl (e, calm)) = by_call 7 0 (with_call 7 0) (on_live_is e)
      by (inr (e, up)) = by_call call image (with_call call image) (on_other_is e)

  abbrev aside : MemoryState
  aside = disk_of (other_side old.side) new

  pub made_whole : stored.is_due old.journal old.kv ≡ true → new.side ≡ other_side old.side → new.journal ≡ next_journal old.journal old.kv → new.kv ≡ old.kv → disk_of old.side new ≡ old.live
      → Sound new.journal new.kv new.live.known (content new.live) (content new.other) → Makes (restart_calls old.journal old.kv) None (Some (observed_of old.other.life)) (Some (observed_of aside.life)) → Wants
  made_whole due side journal map untouched sound made = by is.other
    where
      other_is : new.other ≡ old.live
      other_is = sym (turned_live old.side new.live new.other) ∙ ap (λ (s : Side). of_live old.side (of_a s new.live new.other) (of_b s new.live new.other)) (sym side) ∙ untouched

      live_now_is : aside ≡ new.live
      live_now_is = ap (λ (s : Side). of_live (other_side old.side) (of_a s new.live new.other) (of_b s new.live new.other)) side ∙ turned_other old.side new.live new.other

      after : Sound (next_journal old.journal old.kv) old.kv new.live.known (content new.live) (content old.live)
      after =
          subst (λ (j : Journal). Sound j old.kv new.live.known (content new.live) (content old.live)) journal
          (subst (λ (n : Store). Sound new.journal n new.live.known (content new.live) (content old.live)) map
          (subst (λ (o : MemoryState). Sound new.journal new.kv new.live.known (content new.live) (content o)) other_is sound))

      on_names : (P : MemoryState → MemoryState → Type 0) → P (of_a (other_side old.side) new.live old.live) (of_b (other_side old.side) new.live old.live) → P (disk_a new) (disk_b new)
      on_names P h =
          subst (λ (o : MemoryState). P (of_a new.side new.live o) (of_b new.side new.live o)) (sym other_is)
          (subst (λ (s : Side). P (of_a s new.live old.live) (of_b s new.live old.live)) (sym side) h)

      with_call : (n i : ℕ) → 6 < n → Settles member old.kv (checkpoint_begun n i old.kv (files_on (disk_a old) (disk_b old))) (disk_a new) (disk_b new)
      with_call n i beyond =
          on_names (λ a b. Settles member old.kv (checkpoint_begun n i old.kv (files_on (disk_a old) (disk_b old))) a b)
          (due_whole old.side old.live old.other old.journal old.kv old.live.known is.sound member n i new.live.known new.live after beyond is.form due is.owner)

      by : ((live ≡ true) × (old.other.life.upset ≡ None)) ⊎ ((live ≡ false) × IsInjected call image old.other) → Wants
      by (inl (e, calm)) = by_call 7 0 (with_call 7 0 (omega arith)) (on_live_is e)
      by (inr (e, up)) =
          by_call call image (with_call call image (due_beyond old.side old.live old.other old.journal old.kv old.live.known is.sound call image aside up due made)) (on_other_is e)

  pub made_short : stored.is_due old.journal old.kv ≡ true → disk_of old.side new ≡ old.live → Makes (restart_calls old.journal old.kv) (Some disk.Failed) (Some (observed_of old.other.life)) (Some (observed_of aside.life))
      → Restarted old.side old.journal old.kv (content old.other) (made_more 4 (observed_of old.other.life) (observed_of aside.life)) (of_a old.side (settled (disk_of old.side new).life) (settled aside.life)) (of_b old.side (settled (disk_of old.side new).life) (settled aside.life)) → Wants
  made_short due untouched made begun = by is.other
    where
      here : Restarted old.side old.journal old.kv (content old.other) (made_more 4 (observed_of old.other.life) (observed_of aside.life)) (of_a old.side (settled old.live.life) (settled aside.life)) (of_b old.side (settled old.live.life) (settled aside.life))
      here = subst (λ (l : MemoryState). Restarted old.side old.journal old.kv (content old.other) (made_more 4 (observed_of old.other.life) (observed_of aside.life)) (of_a old.side (settled l.life) (settled aside.life)) (of_b old.side (settled l.life) (settled aside.life))) untouched begun

      is_a : of_a old.side old.live aside ≡ disk_a new
      is_a = ap (λ (l : MemoryState). of_a old.side l aside) (sym untouched) ∙ named old.side (disk_a new) (disk_b new)

      is_b : of_b old.side old.live aside ≡ disk_b new
      is_b = ap (λ (l : MemoryState). of_b old.side l aside) (sym untouched) ∙ named_b old.side (disk_a new) (disk_b new)

      by : ((live ≡ true) × (old.other.life.upset ≡ None)) ⊎ ((live ≡ false) × IsInjected call image old.other) → Wants
      by (inl (e, calm)) = let r = unfailing (Some disk.Failed) (restart_calls old.journal old.kv) (observed_of old.other.life) (observed_of aside.life) (ap from_of calm) made in absurd (r.0 refl)
      by (inr (e, up)) =
          by_call call image
          (subst (λ (x : MemoryState). Settles member old.kv (checkpoint_begun call image old.kv (files_on (disk_a old) (disk_b old))) x (disk_b new)) is_a
          (subst (λ (y : MemoryState). Settles member old.kv (checkpoint_begun call image old.kv (files_on (disk_a old) (disk_b old))) (of_a old.side old.live aside) y) is_b
          (due_cut old.side old.live old.other old.journal old.kv old.live.known is.sound member call image aside up is.form due made here is.owner)))
          (on_other_is e)
