-- A cache that follows a store follows it through a transaction.
use Rattle.std.proofs.Common.{◌≡◌, ℕ, zero, suc, ◌+◌, ◌-◌, ◌≤◌, Bool, true, false, cond, List, Option, Some, None, bytes_eq, refl, sym, ap, ◌∙◌, arith}
use Rattle.std.proofs.lemmas.Bool.{le-leb, ne_eqb, eq-eqb}
use Rattle.std.specs.Option.{option_and_then}
use Rattle.mon_tx.specs.Keys.{area_text, key_text}
use Rattle.mon_tx.specs.Map.{Store, number_in, apply_op}
use Rattle.mon_tx.specs.declared.key.Key.{Key}
use Rattle.mon_tx.specs.declared.key.Key.TheVariants as key
use Rattle.mon_tx.specs.declared.op.Op.{Op}
use Rattle.mon_tx.specs.declared.op.Op.TheVariants.{Put}
use Rattle.mon_msg.specs.Protocol.Maps.{empty_map, next_map, decoded_map}
use Rattle.mon_msg.specs.Protocol.Services.{service_last, full_latest, full_map, read_on, read_map}
use Rattle.mon_msg.specs.Protocol.Readings.{Readings, readings_of}
use Rattle.mon_msg.specs.Puts.{area_of}
use Rattle.mon_wire.specs.declared.reply.ShownMap.{ShownMap}
use Rattle.mon_wire.specs.declared.request.Service.{Service}
use Rattle.svc_core.specs.Onward.{step_at, goes_on, reaches_last}
use Rattle.svc_core.specs.declared.progress.Progress.{Progress}
use Rattle.svc_core.proofs.Onwards.{read-none, read-some, goes-none, goes-some}
use Rattle.svc_core.proofs.Rows.{prefix_of, row_stays, row_put}
use Rattle.svc_core.proofs.Starts.{read-full, reaches-full, read-empty, reaches-empty}

-- ---- readings up to a version

-- the full map that a reading begins with, if there is one
abbrev pub base : Readings → Service → Option ShownMap
base w s = option_and_then (decoded_map s) (w.row s (key.Full (full_latest w s)))

abbrev pub read_from : Readings → Service → ℕ → Option ShownMap → ShownMap
read_from w s n None = read_on w s n 1 (empty_map s)
read_from w s n (Some m) = read_on w s (n - full_latest w s) (suc (full_latest w s)) m

abbrev pub goes_from : Readings → Service → ℕ → Option ShownMap → Bool
goes_from w s n None = goes_on w s n 1 (empty_map s)
goes_from w s n (Some m) = goes_on w s (n - full_latest w s) (suc (full_latest w s)) m

full-base : (w : Readings) (s : Service) → full_latest w s ≤ service_last w s → full_map w s ≡ base w s
full-base w s le = ap (λ t. cond t (base w s) None) (le-leb _ _ le)

pub read_map-from : (w : Readings) (s : Service) → full_latest w s ≤ service_last w s → read_map w s ≡ read_from w s (service_last w s) (base w s)
read_map-from w s le = by (base w s) (full-base w s le)
  where
    by : (o : Option ShownMap) → full_map w s ≡ o → read_map w s ≡ read_from w s (service_last w s) o
    by None e = read-empty w s e
    by (Some m) e = read-full w s m e

pub reaches-from : (w : Readings) (s : Service) → full_latest w s ≤ service_last w s → reaches_last w s ≡ goes_from w s (service_last w s) (base w s)
reaches-from w s le = by (base w s) (full-base w s le)
  where
    by : (o : Option ShownMap) → full_map w s ≡ o → reaches_last w s ≡ goes_from w s (service_last w s) o
    by None e = reaches-empty w s e
    by (Some m) e = reaches-full w s m e

-- ---- the same row up to a version

record Agrees (w x : Readings) (s : Service) (n : ℕ) : Type 0 where
  latest : x.row s key.FullLatest ≡ w.row s key.FullLatest
  full : (v : ℕ) → x.row s (key.Full v) ≡ w.row s (key.Full v)
  version : (v : ℕ) → v ≤ n → x.row s (key.Version v) ≡ w.row s (key.Version v)

module _ (w x : Readings) (s : Service) (n : ℕ) (h : Agrees w x s n) where
  same_step : (v : ℕ) (m : ShownMap) → v ≤ n → step_at x s v m ≡ step_at w s v m
  same_step v m le = ap (option_and_then (next_map s m)) (h.version v le)

  record Same (count v : ℕ) (m : ShownMap) : Type 0 where
    read : read_on x s count v m ≡ read_on w s count v m
    goes : goes_on x s count v m ≡ goes_on w s count v m

  same_on : (count v : ℕ) (m : ShownMap) → v + count ≤ suc n → Same count v m
  unfolding read_on goes_on
  same_on zero v m le = record { read = refl; goes = refl }
  same_on (suc count) v m le = by (step_at w s v m) refl (same_step v m (omega arith)) (λ y. same_on count (suc v) y (omega arith))
    where
      by : (o : Option ShownMap) → step_at w s v m ≡ o → step_at x s v m ≡ step_at w s v m → ((y : ShownMap) → Same count (suc v) y) → Same (suc count) v m
      by None e f go = record {
        read = read-none x s count v m (f ∙ e) ∙ sym (read-none w s count v m e);
        goes = goes-none x s count v m (f ∙ e) ∙ sym (goes-none w s count v m e);
      }
      by (Some y) e f go = let g = go y in record {
        read = read-some x s count v m y (f ∙ e) ∙ g.read ∙ sym (read-some w s count v m y e);
        goes = goes-some x s count v m y (f ∙ e) ∙ g.goes ∙ sym (goes-some w s count v m y e);
      }

  same_latest : full_latest x s ≡ full_latest w s
  same_latest = ap number_in h.latest

  same_base : base x s ≡ base w s
  same_base = ap (λ (v : ℕ). option_and_then (decoded_map s) (x.row s (key.Full v))) same_latest ∙ ap (option_and_then (decoded_map s)) (h.full (full_latest w s))

  same_read : full_latest w s ≤ n → read_from x s n (base x s) ≡ read_from w s n (base w s)
  same_read le = ap (read_from x s n) same_base ∙ by (base w s)
    where
      by : (o : Option ShownMap) → read_from x s n o ≡ read_from w s n o
      by None = (same_on n 1 (empty_map s) (omega arith)).read
      by (Some m) = ap (λ (v : ℕ). read_on x s (n - v) (suc v) m) same_latest ∙ (same_on (n - full_latest w s) (suc (full_latest w s)) m (omega arith)).read

  same_goes : full_latest w s ≤ n → goes_from x s n (base x s) ≡ goes_from w s n (base w s)
  same_goes le = ap (goes_from x s n) same_base ∙ by (base w s)
    where
      by : (o : Option ShownMap) → goes_from x s n o ≡ goes_from w s n o
      by None = (same_on n 1 (empty_map s) (omega arith)).goes
      by (Some m) = ap (λ (v : ℕ). goes_on x s (n - v) (suc v) m) same_latest ∙ (same_on (n - full_latest w s) (suc (full_latest w s)) m (omega arith)).goes

-- ---- one version more

module _ (w : Readings) (s : Service) where
  record Comes (count v : ℕ) (m next : ShownMap) : Type 0 where
    read : read_on w s count v m ≡ next
    goes : goes_on w s count v m ≡ true

  one_more : (count v : ℕ) (m so_far next : ShownMap) → Comes count v m so_far → step_at w s (v + count) so_far ≡ Some next → Comes (suc count) v m next
  unfolding read_on goes_on
  one_more zero v m so_far next h e =
      let at : v + 0 ≡ v = omega arith in
      let f : step_at w s v m ≡ Some next = ap (step_at w s v) h.read ∙ ap (λ (k : ℕ). step_at w s k so_far) (sym at) ∙ e in
      record { read = read-some w s 0 v m next f; goes = goes-some w s 0 v m next f }
  one_more (suc count) v m so_far next h e = by (step_at w s v m) refl (λ y g. one_more count (suc v) y so_far next g (let at : suc v + count ≡ v + suc count = omega arith in rw at e))
    where
      by : (o : Option ShownMap) → step_at w s v m ≡ o → ((y : ShownMap) → Comes count (suc v) y so_far → Comes (suc count) (suc v) y next) → Comes (suc (suc count)) v m next
      by None f go = let no = sym (goes-none w s count v m f) ∙ h.goes in absurd cc
      by (Some y) f go =
          let g = go y (record { read = sym (read-some w s count v m y f) ∙ h.read; goes = sym (goes-some w s count v m y f) ∙ h.goes }) in
          record { read = read-some w s (suc count) v m y f ∙ g.read; goes = goes-some w s (suc count) v m y f ∙ g.goes }

  from_more : (n : ℕ) (so_far next : ShownMap) → full_latest w s ≤ n → read_from w s n (base w s) ≡ so_far → goes_from w s n (base w s) ≡ true → step_at w s (suc n) so_far ≡ Some next
      → (read_from w s (suc n) (base w s) ≡ next) × (goes_from w s (suc n) (base w s) ≡ true)
  from_more n so_far next le r g e = by (base w s) r g
    where
      by : (o : Option ShownMap) → read_from w s n o ≡ so_far → goes_from w s n o ≡ true → (read_from w s (suc n) o ≡ next) × (goes_from w s (suc n) o ≡ true)
      by None r g =
          let at : 1 + n ≡ suc n = omega arith in
          let c = one_more n 1 (empty_map s) so_far next (record { read = r; goes = g }) (rw at e) in
          (c.read, c.goes)
      by (Some m) r g =
          let at : suc (full_latest w s) + (n - full_latest w s) ≡ suc n = omega arith in
          let count : suc n - full_latest w s ≡ suc (n - full_latest w s) = omega arith in
          let c = one_more (n - full_latest w s) (suc (full_latest w s)) m so_far next (record { read = r; goes = g }) (rw at e) in
          (rw count c.read, rw count c.goes)

-- ---- what store an iteration represents

pub record IsMapAfter (w : Readings) (s : Service) (t : Progress) : Type 0 where
  pub read : read_from w s t.version (base w s) ≡ t.map
  pub goes : goes_from w s t.version (base w s) ≡ true
  pub not_newer : full_latest w s ≤ t.version
  pub version_written : t.version_written ≡ true → service_last w s ≡ t.version

stands : (w x : Readings) (s : Service) (t : Progress) → Agrees w x s t.version → x.row s key.LastCommitted ≡ w.row s key.LastCommitted → IsMapAfter w s t → IsMapAfter x s t
stands w x s t a last h = record {
  read = same_read w x s t.version a h.not_newer ∙ h.read;
  goes = same_goes w x s t.version a h.not_newer ∙ h.goes;
  not_newer = let l = same_latest w x s t.version a in rw l h.not_newer;
  version_written = λ e. ap number_in last ∙ h.version_written e;
}

-- a change of another prefix
pub unchanged : (op : Op) (m : Store) (s : Service) (t : Progress) → bytes_eq (prefix_of op) (area_text (area_of s)) ≡ false → IsMapAfter (readings_of m) s t → IsMapAfter (readings_of (apply_op op m)) s t
unchanged op m s t e h =
    stands (readings_of m) (readings_of (apply_op op m)) s t
    (record { latest = row_stays op m s key.FullLatest e; full = λ v. row_stays op m s (key.Full v) e; version = λ v le. row_stays op m s (key.Version v) e })
    (row_stays op m s key.LastCommitted e) h

module _ (m : Store) (s : Service) (value : List ℕ) (t : Progress) (h : IsMapAfter (readings_of m) s t) where
  abbrev with_put : Key → Readings
  with_put k = readings_of (apply_op (Put (area_text (area_of s)) (key_text k) value) m)

  pub first_put : IsMapAfter (with_put key.FirstCommitted) s t
  first_put =
      stands (readings_of m) (with_put key.FirstCommitted) s t
      (record { latest = row_put m s key.FirstCommitted value key.FullLatest; full = λ v. row_put m s key.FirstCommitted value (key.Full v); version = λ v le. row_put m s key.FirstCommitted value (key.Version v) })
      (row_put m s key.FirstCommitted value key.LastCommitted) h

  pub last_put : number_in (Some value) ≡ t.version → IsMapAfter (with_put key.LastCommitted) s (record { version = t.version; map = t.map; version_written = true })
  last_put e =
      let a : Agrees (readings_of m) (with_put key.LastCommitted) s t.version =
      record { latest = row_put m s key.LastCommitted value key.FullLatest; full = λ v. row_put m s key.LastCommitted value (key.Full v); version = λ v le. row_put m s key.LastCommitted value (key.Version v) } in
      record {
        read = same_read (readings_of m) (with_put key.LastCommitted) s t.version a h.not_newer ∙ h.read;
        goes = same_goes (readings_of m) (with_put key.LastCommitted) s t.version a h.not_newer ∙ h.goes;
        not_newer = let l = same_latest (readings_of m) (with_put key.LastCommitted) s t.version a in rw l h.not_newer;
        version_written = λ _. ap number_in (row_put m s key.LastCommitted value key.LastCommitted) ∙ e;
      }

  pub version_put : (next : ShownMap) → next_map s t.map value ≡ Some next → IsMapAfter (with_put (key.Version (suc t.version))) s (record { version = suc t.version; map = next; version_written = false })
  version_put next e =
      let k = key.Version (suc t.version) in
      let x = with_put k in
      let below : (v : ℕ) → v ≤ t.version → x.row s (key.Version v) ≡ (readings_of m).row s (key.Version v) =
      λ v le. row_put m s k value (key.Version v) ∙ ap (λ b. cond b (Some value) ((readings_of m).row s (key.Version v))) (ne_eqb v (suc t.version) (omega arith)) in
      let a : Agrees (readings_of m) x s t.version = record { latest = row_put m s k value key.FullLatest; full = λ v. row_put m s k value (key.Full v); version = below } in
      let there : x.row s k ≡ Some value = row_put m s k value k ∙ ap (λ b. cond b (Some value) ((readings_of m).row s k)) (eq-eqb (suc t.version) (suc t.version) refl) in
      let l = same_latest (readings_of m) x s t.version a in
      let le : full_latest x s ≤ t.version = rw l h.not_newer in
      let step : step_at x s (suc t.version) t.map ≡ Some next = ap (option_and_then (next_map s t.map)) there ∙ e in
      let more = from_more x s t.version t.map next le (same_read (readings_of m) x s t.version a h.not_newer ∙ h.read) (same_goes (readings_of m) x s t.version a h.not_newer ∙ h.goes) step in
      record { read = more.0; goes = more.1; not_newer = omega arith; version_written = λ e. absurd cc }
