-- What two disks represent, during a call of their store, and during two.
use Rattle.std.proofs.Common.{◌≡◌, ℕ, ◌≤◌, ◌⊎◌, Bool, true, false, cond, eqb, is_some, inl, inr, List, [], ◌∷◌, Err, refl, sym, ap, subst, ◌∙◌, arith}
use Rattle.std.specs.Prelude.{slice_index_or}
use Rattle.mon_disk.specs.Calls.{DiskState}
use Rattle.mon_disk.specs.Images.{Content}
use Rattle.mon_journal.specs.Content.{appended}
use Rattle.mon_journal.specs.declared.journal.Journal.{Journal}
use Rattle.mon_store.proofs.Applying.{each_pair, stands_now}
use Rattle.mon_store.proofs.Times.{none_goes, weaker}
use Rattle.mon_store.specs.Times.{Lasts, Meanwhile}
use Rattle.mon_store.specs.Refusals.{Restarts}
use Rattle.mon_store.specs.Sound.{of_a, of_b, of_live, Sound, StandsOn, BeforeOrAfter, ThisOrNext, is_due, next_journal}
use Rattle.mon_store.specs.StoreView.{StoreView}
use Rattle.mon_store.specs.Whole.{IsSound, disk_a, disk_b}
use Rattle.mon_store.specs.declared.stop.StoreStop.TheVariants as stop
use Rattle.mon_store.specs.declared.stop.StoreStop.{StoreStop}
use Rattle.mon_store.specs.declared.store.Store.{Store as StoreOn}
use Rattle.mon_tx.specs.Map.{Store, apply}
use Rattle.mon_tx.specs.Text.{text}
use Rattle.mon_tx.specs.declared.op.Op.{Op}
use Rattle.mon_types.specs.Sides.{other as other_side}
use Rattle.mon_types.specs.declared.names.Side.TheVariants.{A, B}
use Rattle.mon_types.specs.declared.names.Side.{Side}
use Rattle.mon_node.specs.Keeping.{changed, renewed}
use Rattle.mon_node.specs.Lasting.{BothVisible, On, Leave, Between, Through, Pass, IsWithin, times, recorded}
use Rattle.mon_node.specs.Nodes.{Disks, disks, disks_of, store_view_of}
use Rattle.mon_node.proofs.Renewing.{by_due}

-- ---- images

pub on_as : (P Q : StoreView → Type 0) → ((s : StoreView) → P s → Q s) → (x y : List ℕ) → On P x y → On Q x y
on_as P Q h x y s = (s.0, s.1, h s.0 s.2)

pub leave_as : (d : Disks) (P Q : StoreView → Type 0) → ((s : StoreView) → P s → Q s) → Leave d P → Leave d Q
leave_as d P Q h k = λ x y left there. on_as P Q h x y (k x y left there)

-- where a store is while a record is written
abbrev pub IsRecording : List Op → StoreView → StoreView → Type 0
IsRecording ops old s = (s ≡ old) ⊎ (s ≡ recorded ops old)

-- and while a checkpoint is
abbrev pub IsRenewing : StoreView → StoreView → Type 0
IsRenewing old s = (s ≡ old) ⊎ (s ≡ renewed old)

recording_on : (old : StoreView) (ops : List Op) (x y : List ℕ) → BeforeOrAfter old.side old.journal old.kv ops x y → On (IsRecording ops old) x y
recording_on old ops x y h = by (eqb (slice_index_or (of_live old.side x y) old.journal.next_gate 0) 1) h
  where
    by : (b : Bool) → StandsOn old.side (cond b (appended old.journal (text ops)) old.journal) (cond b (apply ops old.kv) old.kv) x y → On (IsRecording ops old) x y
    by true s = (recorded ops old, s, inr refl)
    by false s = (old, s, inl refl)

renewing_on : (old : StoreView) → true ≡ is_due old.journal old.kv → (x y : List ℕ) → ThisOrNext old.side old.journal old.kv x y → On (IsRenewing old) x y
renewing_on old due x y (inl s) = (old, s, inl refl)
renewing_on old due x y (inr s) = (record { side = other_side old.side; journal = next_journal old.journal old.kv; kv = old.kv }, s, inr (ap (by_due old) due))

-- ---- a transaction

-- after a transaction was applied the store is where it was, if the transaction is empty, or after the record
changed_within : (ops : List Op) (old s : StoreView) → s ≡ changed ops old → IsWithin ops old s
changed_within [] old s e = inl e
changed_within (op ∷ ops) old s e = inr (inl e)

pub recording_within : (ops : List Op) (old s : StoreView) → IsRecording ops old s → IsWithin ops old s
recording_within ops old s (inl e) = inl e
recording_within ops old s (inr e) = inr (inl e)

pub renewing_within : (ops : List Op) (old mid s : StoreView) → mid ≡ changed ops old → IsRenewing mid s → IsWithin ops old s
renewing_within ops old mid s is (inl e) = changed_within ops old s (e ∙ is)
renewing_within ops old mid s is (inr e) = inr (inr (e ∙ ap renewed is))

-- ---- the disks of a store

module _ {D : Type 0} (state : D → DiskState) where
  -- a crash leaves the disks of a store in use with that store
  leaves_it : (side : Side) (live other : D) (j : Journal) (m : Store) → Sound j m (state live).known (state live).content (state other).content
      → Leave (disks state (of_a side live other) (of_b side live other)) (λ s. s ≡ record { side = side; journal = j; kv = m })
  leaves_it side live other j m sound = λ x y left there.
      let s : StandsOn side j m x y = each_pair state side live other (StandsOn side j m) (stands_now j m (state live).known (state live).content (state other).content sound side) x y left there in
      (record { side = side; journal = j; kv = m }, s, refl)

  -- the contents of both disks can be seen, if those of the live one still can and the other disk is the same
  pub live_visible : (side now : Side) (live new other left : D) → now ≡ side → left ≡ other → is_some (state new).content.seen ≡ is_some (state live).content.seen
      → BothVisible (disks state (of_a side live other) (of_b side live other)) → BothVisible (disks state (of_a now new left) (of_b now new left))
  live_visible side now live new other left same kept visible both = rw (same, kept) (by side both)
    where
      by : (side : Side) → BothVisible (disks state (of_a side live other) (of_b side live other)) → BothVisible (disks state (of_a side new other) (of_b side new other))
      by A both = (visible ∙ both.0, both.1)
      by B both = (both.0, visible ∙ both.1)

  -- or if those of the other one still can and the live disk is the same
  pub other_visible : (side : Side) (live other a b : D) → of_live side a b ≡ live → is_some (state (of_live (other_side side) a b)).content.seen ≡ is_some (state other).content.seen
      → BothVisible (disks state (of_a side live other) (of_b side live other)) → BothVisible (disks state a b)
  other_visible A live other a b kept visible both = (ap (λ (d : D). is_some (state d).content.seen) kept ∙ both.0, visible ∙ both.1)
  other_visible B live other a b kept visible both = (visible ∙ both.0, ap (λ (d : D). is_some (state d).content.seen) kept ∙ both.1)

  -- the contents of the live disk can be seen
  pub live_observed : (side : Side) (live other : D) → BothVisible (disks state (of_a side live other) (of_b side live other)) → is_some (state live).content.seen ≡ true
  live_observed A live other both = both.0
  live_observed B live other both = both.1

-- ---- the calls of a store

module _ {D : Type 0} (state : D → DiskState) (s n : StoreOn D) where
  pub visible_live : n.side ≡ s.side → n.other ≡ s.other → is_some (state n.live).content.seen ≡ is_some (state s.live).content.seen → BothVisible (disks_of state s) → BothVisible (disks_of state n)
  visible_live side other visible both = live_visible state s.side n.side s.live n.live s.other n.other side other visible both

  pub visible_other : of_live s.side (disk_a n) (disk_b n) ≡ s.live → is_some (state (of_live (other_side s.side) (disk_a n) (disk_b n))).content.seen ≡ is_some (state s.other).content.seen → BothVisible (disks_of state s) → BothVisible (disks_of state n)
  visible_other kept visible both = other_visible state s.side s.live s.other (disk_a n) (disk_b n) kept visible both

  abbrev While : (List ℕ → List ℕ → Type 0) → Type 0
  While P = Meanwhile (disks_of state s).a (disks_of state s).b (disks_of state n).a (disks_of state n).b P

  pub records : (tx : List Op) → (is_some (state s.live).content.seen ≡ true → While (BeforeOrAfter s.side s.journal s.kv tx)) → BothVisible (disks_of state s) → While (On (IsRecording tx (store_view_of s)))
  records tx call both = weaker _ _ _ _ (BeforeOrAfter s.side s.journal s.kv tx) (On (IsRecording tx (store_view_of s))) (call (live_observed state s.side s.live s.other both)) (recording_on (store_view_of s) tx)

  pub renews_due : true ≡ is_due s.journal s.kv → While (ThisOrNext s.side s.journal s.kv) → While (On (IsRenewing (store_view_of s)))
  renews_due due call = weaker _ _ _ _ (ThisOrNext s.side s.journal s.kv) (On (IsRenewing (store_view_of s))) call (renewing_on (store_view_of s) due)

  -- the same disks, if the live one is the same
  pub same_disks : n.side ≡ s.side → n.other ≡ s.other → n.live ≡ s.live → (disk_a n ≡ disk_a s) × (disk_b n ≡ disk_b s)
  same_disks side other live = (λ i. of_a (side i) (live i) (other i), λ i. of_b (side i) (live i) (other i))

-- a store in use
pub in_use_leaves : {D : Type 0} (state : D → DiskState) (s : StoreOn D) → s.broken ≡ false → IsSound state s → Leave (disks_of state s) (λ x. x ≡ store_view_of s)
in_use_leaves state s whole sound = leaves_it state s.side s.live s.other s.journal s.kv (sound whole)

-- whether a checkpoint was due or not
pub renews_if_due : {D : Type 0} (state : D → DiskState) (s n : StoreOn D) (due : Bool) → due ≡ is_due s.journal s.kv → (due ≡ false → n ≡ s) → s.broken ≡ false → IsSound state s → While state s n (ThisOrNext s.side s.journal s.kv)
    → While state s n (On (IsRenewing (store_view_of s)))
renews_if_due state s n true due same whole sound call = renews_due state s n due call
renews_if_due {D} state s n false due same whole sound call =
    subst (λ (x : StoreOn D). While state s x (On (IsRenewing (store_view_of s)))) (sym (same refl))
    (none_goes (disks_of state s).a (disks_of state s).b (On (IsRenewing (store_view_of s))) (leave_as (disks_of state s) (λ x. x ≡ store_view_of s) (IsRenewing (store_view_of s)) (λ x e. inl e) (in_use_leaves state s whole sound)))

-- what stops a checkpoint stops one that was due
pub was_due : (broken due : Bool) (e : StoreStop) → broken ≡ false → Restarts broken due (Err e) → due ≡ true
was_due broken due stop.DiskFault whole h = h.1
was_due broken due stop.OutOfMemory whole h = h.1
was_due broken due stop.Broken whole h = let bad : true ≡ false = sym h ∙ whole in absurd cc
was_due broken due (stop.TooLong len) whole h = absurd h
was_due broken due (stop.Full would_be) whole h = absurd h

-- ---- a call, and two

pub lasts_on : (x y z : Content) → Lasts x y → Lasts y z → Lasts x z
lasts_on x y z h k = record {
  later = omega (arith, h.later, k.later);
  past = λ t c le left. h.past t c le (k.past t c (let early : t ≤ y.time = omega (arith, le, h.later) in early) left);
  kept = λ t c le left. k.kept t c (let early : t ≤ y.time = omega (arith, le, h.later) in early) (h.kept t c le left);
}

module _ (old new : Disks) (P : StoreView → Type 0) (m : Meanwhile old.a old.b new.a new.b (On P)) where
  pub meanwhile : Between new P (times old) (times new)
  meanwhile = record { a_later = m.a.later; b_later = m.b.later; each = m.each }

  at_end : Between new P (times new) (times new)
  at_end = record {
    a_later = omega arith;
    b_later = omega arith;
    each = λ s t x y low high from to left there. m.each s t x y (let late : old.a.time ≤ s = omega (arith, m.a.later, low) in late) high (let late : old.b.time ≤ t = omega (arith, m.b.later, from) in late) to left there;
  }

  -- a call that is completed in one step
  pub one_step : BothVisible new → Pass P old new
  one_step both_visible = record { a = m.a; b = m.b; both_visible = both_visible; through = record { mid = times new; written = meanwhile; renewed = at_end } }

pub between_as : (d : Disks) (P Q : StoreView → Type 0) → ((s : StoreView) → P s → Q s) → (from to : ℕ × ℕ) → Between d P from to → Between d Q from to
between_as d P Q h from to k = record { a_later = k.a_later; b_later = k.b_later; each = λ s t x y low high from_b to_b left there. on_as P Q h x y (k.each s t x y low high from_b to_b left there) }

pub through_as : (d : Disks) (P Q : StoreView → Type 0) → ((s : StoreView) → P s → Q s) → (from to : ℕ × ℕ) → Through d P from to → Through d Q from to
through_as d P Q h from to k = record { mid = k.mid; written = between_as d P Q h from k.mid k.written; renewed = between_as d P Q h k.mid to k.renewed }

pub pass_as : (old new : Disks) (P Q : StoreView → Type 0) → ((s : StoreView) → P s → Q s) → Pass P old new → Pass Q old new
pass_as old new P Q h k = record { a = k.a; b = k.b; both_visible = k.both_visible; through = through_as new P Q h (times old) (times new) k.through }

-- later disks have the same images at earlier times
module _ (d e : Disks) (a : Lasts d.a e.a) (b : Lasts d.b e.b) where
  pub between_later : (P : StoreView → Type 0) (from to : ℕ × ℕ) → to.0 ≤ d.a.time → to.1 ≤ d.b.time → Between d P from to → Between e P from to
  between_later P from to past_a past_b k = record {
    a_later = k.a_later;
    b_later = k.b_later;
    each = λ s t x y low high from_b to_b left there.
        k.each s t x y low high from_b to_b (a.past s x (let early : s ≤ d.a.time = omega (arith, high, past_a) in early) left) (b.past t y (let early : t ≤ d.b.time = omega (arith, to_b, past_b) in early) there);
  }

  pub through_later : (P : StoreView → Type 0) (from to : ℕ × ℕ) → to.0 ≤ d.a.time → to.1 ≤ d.b.time → Through d P from to → Through e P from to
  through_later P from to past_a past_b k = record {
    mid = k.mid;
    written = between_later P from k.mid (omega (arith, k.renewed.a_later, past_a)) (omega (arith, k.renewed.b_later, past_b)) k.written;
    renewed = between_later P k.mid to past_a past_b k.renewed;
  }

pub meanwhile_as : (old new : Disks) (P Q : StoreView → Type 0) → ((s : StoreView) → P s → Q s) → Meanwhile old.a old.b new.a new.b (On P) → Meanwhile old.a old.b new.a new.b (On Q)
meanwhile_as old new P Q h m = weaker old.a old.b new.a new.b (On P) (On Q) m (on_as P Q h)

-- two calls, one after the other
pub two_steps : (old mid new : Disks) (P Q R : StoreView → Type 0) → ((s : StoreView) → P s → R s) → ((s : StoreView) → Q s → R s) → Meanwhile old.a old.b mid.a mid.b (On P) → Meanwhile mid.a mid.b new.a new.b (On Q) → BothVisible new → Pass R old new
two_steps old mid new P Q R h k first next both_visible = record {
  a = lasts_on old.a mid.a new.a first.a next.a;
  b = lasts_on old.b mid.b new.b first.b next.b;
  both_visible = both_visible;
  through = record {
    mid = times mid;
    written = between_later mid new next.a next.b R (times old) (times mid) (omega arith) (omega arith) (meanwhile old mid R (meanwhile_as old mid P R h first));
    renewed = meanwhile mid new R (meanwhile_as mid new Q R k next);
  };
}

-- no call
still : (x : Content) → Lasts x x
still x = record { later = omega arith; past = λ t c le h. h; kept = λ t c le h. h }

pub no_step : (d : Disks) (P : StoreView → Type 0) → BothVisible d → Leave d P → Pass P d d
no_step d P both_visible h = one_step d d P (record {
  a = still d.a;
  b = still d.b;
  each = λ s t x y low high from to left there. h x y (stays d.a s x low high left) (stays d.b t y from to there);
}) both_visible
  where
    stays : (x : Content) (t : ℕ) (c : List ℕ) → x.time ≤ t → t ≤ x.time → x.images_at t c → x.images_at x.time c
    stays x t c low high left = let same : t ≡ x.time = omega (arith, low, high) in subst (λ (k : ℕ). x.images_at k c) same left

-- what a pass leaves at its end
pub pass_left : (old new : Disks) (P : StoreView → Type 0) → Pass P old new → Leave new P
pass_left old new P k = λ x y left there.
    k.through.renewed.each new.a.time new.b.time x y k.through.renewed.a_later (omega arith) k.through.renewed.b_later (omega arith) left there
