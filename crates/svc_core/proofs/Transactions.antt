-- A cache that follows a store follows it through a whole transaction.
use Rattle.std.proofs.Common.{◌≡◌, ℕ, suc, ◌≤◌, Bool, true, false, cond, ◌&&◌, eqb, List, [], ◌∷◌, Option, Some, None, bytes_eq, refl, sym, ap, ◌∙◌, arith}
use Rattle.std.proofs.lemmas.Bool.{eqb-true}
use Rattle.std.specs.Option.{option_and_then, option_map}
use Rattle.std.specs.Prelude.{IfSome}
use Rattle.mon_tx.specs.Keys.{area_text, key_text}
use Rattle.mon_tx.specs.Map.{Store, number_in, apply_op, apply}
use Rattle.mon_tx.specs.declared.key.Key.TheVariants as key
use Rattle.mon_tx.specs.declared.op.Op.{Op}
use Rattle.mon_tx.specs.declared.op.Op.TheVariants.{Put, Erase, ErasePrefix, EraseRange}
use Rattle.mon_msg.specs.Protocol.Maps.{next_map}
use Rattle.mon_msg.specs.Protocol.Services.{service_last, full_latest}
use Rattle.mon_msg.specs.Protocol.Readings.{Readings, readings_of}
use Rattle.mon_msg.specs.Puts.{area_of}
use Rattle.mon_wire.specs.declared.reply.ShownMap.{ShownMap}
use Rattle.mon_wire.specs.declared.request.Service.{Service}
use Rattle.svc_core.specs.Cache.{known, Follows, IsCurrent, after_put, after_op, after_ops, of_service, if_version_written, known_after}
use Rattle.svc_core.specs.declared.cache.Cache.{Cache}
use Rattle.svc_core.specs.declared.cache.Known.{Known}
use Rattle.svc_core.specs.declared.progress.Progress.{Progress}
use Rattle.svc_core.proofs.Currents.{base, read_from, goes_from, read_map-from, reaches-from, IsMapAfter, unchanged, first_put, last_put, version_put}
use Rattle.svc_core.proofs.Rows.{same_bytes}

the_same : (t x : Progress) → ◌≡◌ {A = Option Progress} (Some t) (Some x) → t ≡ x
the_same t x e = cc

module _ (s : Service) where
  -- if the store represents the iteration after a change
  abbrev Stands : Op → Store → Progress → Type 0
  Stands op m x = IsMapAfter (readings_of (apply_op op m)) s x

  put_followed : (m : Store) (k value : List ℕ) (t x : Progress) → IsMapAfter (readings_of m) s t → after_put s k value t ≡ Some x → Stands (Put (area_text (area_of s)) k value) m x
  put_followed m k value t x h e =
      by (bytes_eq k (key_text (key.Version (suc t.version)))) (bytes_eq k (key_text key.FirstCommitted)) (bytes_eq k (key_text key.LastCommitted)) (eqb (number_in (Some value)) t.version) (next_map s t.map value) refl refl refl refl refl e
    where
      by : (a b c d : Bool) (o : Option ShownMap) → bytes_eq k (key_text (key.Version (suc t.version))) ≡ a → bytes_eq k (key_text key.FirstCommitted) ≡ b → bytes_eq k (key_text key.LastCommitted) ≡ c
          → eqb (number_in (Some value)) t.version ≡ d → next_map s t.map value ≡ o
          → cond a (option_map (λ m. record { version = suc t.version; map = m; version_written = false }) o) (cond b (Some t) (cond (c && d) (Some (record { version = t.version; map = t.map; version_written = true })) None)) ≡ Some x
          → Stands (Put (area_text (area_of s)) k value) m x
      by true b c d None p q r n f e = absurd cc
      by true b c d (Some next) p q r n f e =
          let same = same_bytes k (key_text (key.Version (suc t.version))) p in
          let is = the_same (record { version = suc t.version; map = next; version_written = false }) x e in
          rw (same, ← is) (version_put m s value t h next f)
      by false true c d o p q r n f e =
          let same = same_bytes k (key_text key.FirstCommitted) q in
          let is = the_same t x e in
          rw (same, ← is) (first_put m s value t h)
      by false false true true o p q r n f e =
          let same = same_bytes k (key_text key.LastCommitted) r in
          let is = the_same (record { version = t.version; map = t.map; version_written = true }) x e in
          rw (same, ← is) (last_put m s value t h (eqb-true _ _ n))
      by false false true false o p q r n f e = absurd cc
      by false false false d o p q r n f e = absurd cc

  passed : (op : Op) (m : Store) (t x : Progress) (b : Bool) → (b ≡ false → Stands op m t) → cond b None (Some t) ≡ Some x → Stands op m x
  passed op m t x true h e = absurd cc
  passed op m t x false h e = let is = the_same t x e in rw (← is) (h refl)

  op_followed : (op : Op) (m : Store) (t x : Progress) → IsMapAfter (readings_of m) s t → after_op s op t ≡ Some x → Stands op m x
  op_followed (Put prefix k value) m t x h e = by (of_service s prefix) refl e
    where
      by : (b : Bool) → of_service s prefix ≡ b → cond b (after_put s k value t) (Some t) ≡ Some x → Stands (Put prefix k value) m x
      by true p e = let same = same_bytes prefix (area_text (area_of s)) p in rw same (put_followed m k value t x h e)
      by false p e = let is = the_same t x e in rw (← is) (unchanged (Put prefix k value) m s t p h)
  op_followed (Erase prefix k) m t x h e = passed (Erase prefix k) m t x (of_service s prefix) (λ p. unchanged (Erase prefix k) m s t p h) e
  op_followed (ErasePrefix prefix) m t x h e = passed (ErasePrefix prefix) m t x (of_service s prefix) (λ p. unchanged (ErasePrefix prefix) m s t p h) e
  op_followed (EraseRange prefix from to) m t x h e = passed (EraseRange prefix from to) m t x (of_service s prefix) (λ p. unchanged (EraseRange prefix from to) m s t p h) e

  ops_followed : (ops : List Op) (m : Store) (t x : Progress) → IsMapAfter (readings_of m) s t → after_ops s ops t ≡ Some x → IsMapAfter (readings_of (apply ops m)) s x
  ops_followed [] m t x h e = let is = the_same t x e in rw (← is) h
  ops_followed (op ∷ ops) m t x h e = by (after_op s op t) refl e (λ y h. ops_followed ops (apply_op op m) y x h)
    where
      by : (o : Option Progress) → after_op s op t ≡ o → option_and_then (after_ops s ops) o ≡ Some x
          → ((y : Progress) → IsMapAfter (readings_of (apply_op op m)) s y → after_ops s ops y ≡ Some x → IsMapAfter (readings_of (apply ops (apply_op op m))) s x)
          → IsMapAfter (readings_of (apply ops (apply_op op m))) s x
      by None f e go = absurd cc
      by (Some y) f e go = go y (op_followed op m t y h f) e

  begun : (w : Readings) (k : Known) → IsCurrent w s k → IsMapAfter w s (record { version = k.version; map = k.map; version_written = true })
  begun w k h =
      let le : full_latest w s ≤ service_last w s = let n = h.not_newer in let v = h.version_is in omega arith in
      record {
        read = ap (λ (n : ℕ). read_from w s n (base w s)) h.version_is ∙ sym (read_map-from w s le) ∙ sym h.map_is;
        goes = ap (λ (n : ℕ). goes_from w s n (base w s)) h.version_is ∙ sym (reaches-from w s le) ∙ h.reached;
        not_newer = h.not_newer;
        version_written = λ _. sym h.version_is;
      }

  ended : (w : Readings) (t : Progress) → t.version_written ≡ true → IsMapAfter w s t → IsCurrent w s (record { version = t.version; map = t.map })
  ended w t version_written h =
      let last = h.version_written version_written in
      let le : full_latest w s ≤ service_last w s = let n = h.not_newer in omega arith in
      record {
        map_is = sym h.read ∙ ap (λ (n : ℕ). read_from w s n (base w s)) (sym last) ∙ sym (read_map-from w s le);
        version_is = sym last;
        reached = reaches-from w s le ∙ ap (λ (n : ℕ). goes_from w s n (base w s)) last ∙ h.goes;
        not_newer = h.not_newer;
      }

  pub current_after : (ops : List Op) (m : Store) (o : Option Known) → IfSome o (IsCurrent (readings_of m) s) → IfSome (known_after s ops o) (IsCurrent (readings_of (apply ops m)) s)
  current_after ops m None h = tt
  current_after ops m (Some k) h = by (after_ops s ops (record { version = k.version; map = k.map; version_written = true })) refl
    where
      by : (o : Option Progress) → after_ops s ops (record { version = k.version; map = k.map; version_written = true }) ≡ o → IfSome (option_and_then if_version_written o) (IsCurrent (readings_of (apply ops m)) s)
      by None e = tt
      by (Some t) e = version_written t.version_written refl (ops_followed ops m (record { version = k.version; map = k.map; version_written = true }) t (begun (readings_of m) k h) e)
        where
          version_written : (b : Bool) → t.version_written ≡ b → IsMapAfter (readings_of (apply ops m)) s t → IfSome (cond b (Some (record { version = t.version; map = t.map })) None) (IsCurrent (readings_of (apply ops m)) s)
          version_written true f g = ended (readings_of (apply ops m)) t f g
          version_written false f g = tt

pub follows_after : (old new : Cache) (ops : List Op) → ((s : Service) → known new s ≡ known_after s ops (known old s))
    → (m : Store) → Follows old (readings_of m) → Follows new (readings_of (apply ops m))
follows_after old new ops h m f s = rw (h s) (current_after s ops m (known old s) (f s))
