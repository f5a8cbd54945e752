-- How a synchronization begins.
use Rattle.std.proofs.Common.{◌≡◌, ℕ, suc, ◌≤◌, ◌^◌, Bool, true, false, ◌&&◌, cond, eqb, leb, inl, inr, is_some, List, [], ◌∷◌, length, Option, Some, None, Result, Ok, refl, subst, ◌∙◌, arith}
use Rattle.std.specs.Option.{option_map}
use Rattle.std.proofs.lemmas.Bool.{cases_Bool, leb-true, eqb-true}
use Rattle.byteorder.specs.Endian.{little_number}
use Rattle.mon_msg.specs.Protocol.Changes.{Change, Mark, encoded}
use Rattle.mon_msg.specs.Protocol.Course.{Course, requester_is}
use Rattle.mon_msg.specs.Protocol.Readings.{Readings, epoch_of, readings_of}
use Rattle.mon_msg.specs.Protocol.Records.{found_as, pending, pending_of, record_at}
use Rattle.mon_msg.specs.Protocol.State.{start_requester}
use Rattle.mon_msg.specs.Protocol.Synchronizing.{floor_of, full_sync, pending_version, recent_sync}
use Rattle.mon_msg.specs.declared.paxos.Found.{Found}
use Rattle.mon_msg.specs.declared.plan.Next.TheVariants as next
use Rattle.mon_msg.specs.declared.view.Me.{Me}
use Rattle.mon_plan.specs.Plans.{act, done, entered}
use Rattle.mon_tx.specs.Decision.{Cell}
use Rattle.mon_tx.specs.Map.{Store, number_in}
use Rattle.mon_tx.specs.Text.{text}
use Rattle.mon_tx.specs.declared.op.Op.{Op}
use Rattle.mon_types.specs.declared.names.Which.{Which}
use Rattle.mon_wire.specs.declared.body.Body.TheVariants as body
use Rattle.sync_requester.specs.Rows.{IsEntering}
use Rattle.sync_requester.proofs.Planned.{asks}

-- ---- what must be reached

number-short : (c : Cell) → number_in c ≤ 2 ^ 62
unfolding number_in
number-short None = omega arith
number-short (Some bytes) = by (eqb (length bytes) 8) (leb (little_number 8 bytes) (2 ^ 62)) refl
  where
    by : (eight fits : Bool) → leb (little_number 8 bytes) (2 ^ 62) ≡ fits → cond (eight && fits) (little_number 8 bytes) 0 ≤ 2 ^ 62
    by false fits e = omega arith
    by true false e = omega arith
    by true true e = leb-true (little_number 8 bytes) (2 ^ 62) e

abbrev shortened : (v pn : ℕ) → List Op → Bool → Option Found
shortened v pn value t = option_map (λ short. record { version = v; pn = pn; value = short }) (cond t (Some value) None)

found_version : (v pn : ℕ) (value : Option (List Op)) → is_some (found_as v pn value) ≡ true → pending_version (found_as v pn value) ≡ v
found_version v pn None h = cc
found_version v pn (Some value) h = by (leb (length (text value)) 524288) h
  where
    by : (t : Bool) → is_some (shortened v pn value t) ≡ true → pending_version (shortened v pn value t) ≡ v
    by true h = refl
    by false h = cc

pub version-none : (o : Option Found) → is_some o ≡ false → pending_version o ≡ 0
version-none None h = refl
version-none (Some found) h = cc

version-some : (v pn last : ℕ) (records : ℕ → Cell) → is_some (pending_of v pn last records) ≡ true → (pending_version (pending_of v pn last records) ≡ v) × (v ≡ suc last)
unfolding pending_of
version-some v pn last records h = elim (cases_Bool (eqb v (suc last))) [
  | inl p ↦ let there = rw p at h in (rw p (found_version v pn (record_at records (suc last)) there), eqb-true v (suc last) p)
  | inr p ↦ let lost = rw p at h in absurd cc
]

short_pending : (m : Store) → (readings_of m).pending_v ≤ 2 ^ 62
unfolding readings_of
short_pending m = number-short _

pub floor-pending : (m : Store) → is_some (pending (readings_of m)) ≡ true → (pending_version (pending (readings_of m)) ≡ suc (readings_of m).last) × (suc (readings_of m).last ≤ 2 ^ 62)
floor-pending m h =
    let w = readings_of m in
    let found = version-some w.pending_v w.pending_pn w.last w.record_of h in
    let short = short_pending m in
    (found.0 ∙ found.1, omega (arith, short, found.1))

-- ---- the acts

abbrev pub mark : Readings → Change
mark w = Mark (floor_of w) w.last_pn w.promise

module _ (me : Me) (now epoch : ℕ) (w : Readings) (x : Course) (b : IsEntering epoch w x) (from : ℕ) where
  abbrev pub begun_full : Readings → (epoch : ℕ) → Result Course Which
  begun_full w epoch =
      Ok (done requester_is (mark w ∷ []) (asks me now (encoded (mark w ∷ [])) body.GetCookieFull (start_requester from true) epoch) (entered (next.FullSync from) x))

  pub full-begins : act me now (next.FullSync from) x ≡ begun_full w epoch
  unfolding full_sync
  full-begins =
      subst (λ (e : ℕ). act me now (next.FullSync from) x ≡ begun_full w e) b.epoch
      (subst (λ (r : Readings). act me now (next.FullSync from) x ≡ begun_full r (epoch_of x.readings)) b.kept refl)

  abbrev pub begun_recent : Readings → (epoch : ℕ) → Result Course Which
  begun_recent w epoch =
      Ok (done requester_is [] (asks me now [] (body.GetCookieRecent w.last) (start_requester from false) epoch) (entered (next.RecentSync from) x))

  pub recent-begins : act me now (next.RecentSync from) x ≡ begun_recent w epoch
  unfolding recent_sync
  recent-begins =
      subst (λ (e : ℕ). act me now (next.RecentSync from) x ≡ begun_recent w e) b.epoch
      (subst (λ (r : Readings). act me now (next.RecentSync from) x ≡ begun_recent r (epoch_of x.readings)) b.kept refl)
