-- The map after each incremental of a log of values: no step of reading it fails, and it is read back from its text.
use Rattle.std.proofs.Common.{◌≡◌, ℕ, zero, suc, ◌≤◌, ◌<◌, Bool, true, false, cond, leb, ltb, List, [], ◌∷◌, ◌++◌, length, take, Option, Some, None, Result, Ok, Err, ◌⊎◌, inl, inr, refl, sym, ap, subst, ◌∙◌, arith, length-append}
use Rattle.std.proofs.lemmas.Bool.{cases_lt, ltb-false}
use Rattle.std.proofs.lemmas.List.{get_or_append_left, take-append-le}
use Rattle.std.proofs.Math.Seq.{get_or-append_seam}
use Rattle.std.specs.FinMap.{empty, insert, contains_key}
use Rattle.mon_bytes.specs.declared.command.Command.{Command}
use Rattle.mon_bytes.specs.declared.command.Command.TheVariants as command
use Rattle.mon_bytes.specs.declared.command.CommandRefused.{CommandRefused}
use Rattle.mon_bytes.specs.declared.command.MapRefused.{MapRefused}
use Rattle.map_kv.specs.Decode as kv_decode
use Rattle.map_kv.specs.Map as kv
use Rattle.map_kv.specs.Map.{Kv}
use Rattle.map_kv.specs.Text as kv_text
use Rattle.map_kv.specs.declared.inc.KvInc.{KvInc}
use Rattle.map_kv.specs.declared.inc.KvInc.TheVariants as inc
use Rattle.map_log.specs.Decode as log_decode
use Rattle.map_log.specs.Map as log
use Rattle.map_log.specs.Text as log_text
use Rattle.map_log.specs.declared.inc.LogInc.{LogInc}
use Rattle.mon_wire.specs.declared.reply.ShownMap.{ShownMap}
use Rattle.mon_wire.specs.declared.reply.ShownMap.TheVariants as map
use Rattle.mon_wire.specs.declared.request.Service.{Service}
use Rattle.mon_wire.specs.declared.request.Service.TheVariants as service
use Rattle.mon_msg.specs.Fold.{entry, stepped, after_all, stepped_log, log_after_all, map_after}
use Rattle.mon_msg.specs.Protocol.Maps.{if_ok, decoded_map, next_map}
use Rattle.mon_msg.specs.Protocol.Parts.{map_text}
use Rattle.mon_msg.specs.Protocol.Value.{service_of, made}
use Rattle.log_model.specs.LogOfValues.{IsCommand}
use Rattle.log_model.proofs.KvSteps as kv_steps
use Rattle.log_model.proofs.LogSteps as log_steps

abbrev pub IsFine : Service → ShownMap → Type 0
IsFine service.Kv (map.Kv m) = kv_steps.IsFine m
IsFine service.Log (map.Log es) = log_steps.IsFine es
IsFine s m = ⊥

pub read_back : (s : Service) (m : ShownMap) → IsFine s m → decoded_map s (map_text m) ≡ Some m
read_back service.Kv (map.Kv m) h = kv_steps.read_back m h
read_back service.Log (map.Log es) h = log_steps.read_back es h
read_back service.Kv (map.Log es) h = absurd h
read_back service.Log (map.Kv m) h = absurd h

pub fine_short : (s : Service) (m : ShownMap) → IsFine s m → length (map_text m) ≤ 393216
fine_short service.Kv (map.Kv m) h = h.short
fine_short service.Log (map.Log es) h = let l = h.short in omega arith
fine_short service.Kv (map.Log es) h = absurd h
fine_short service.Log (map.Kv m) h = absurd h

fine_empty : (s : Service) → IsFine s (map_after s [])
fine_empty service.Kv = kv_steps.fine_empty
fine_empty service.Log = log_steps.fine_empty

-- ---- what a command makes

pub record Makes (s : Service) (m : ShownMap) (x : List ℕ) (next : ShownMap) : Type 0 where
  pub fine : IsFine s next
  pub reads : next_map s m x ≡ Some next
  pub short : length x ≤ kv_steps.most_inc

kv_makes : (m : Kv) (i : KvInc) (x : List ℕ) (next : ShownMap) → kv_steps.Steps m i → ◌≡◌ {A = Result (List ℕ × ShownMap) CommandRefused} (Ok (kv_text.inc_text i, map.Kv (kv.with_inc m i))) (Ok (x, next)) → Makes service.Kv (map.Kv m) x next
kv_makes m i x next h e =
    let pair : (kv_text.inc_text i, map.Kv (kv.with_inc m i)) ≡ (x, next) = cc in
    subst (λ (p : List ℕ × ShownMap). Makes service.Kv (map.Kv m) p.0 p.1) pair (record { fine = h.fine; reads = h.next; short = h.short })

log_makes : (es : List LogInc) (i : LogInc) (x : List ℕ) (next : ShownMap) → log_steps.Steps es i → ◌≡◌ {A = Result (List ℕ × ShownMap) CommandRefused} (Ok (log_text.inc_text i, map.Log (log.with_inc es i))) (Ok (x, next)) → Makes service.Log (map.Log es) x next
log_makes es i x next h e =
    let pair : (log_text.inc_text i, map.Log (log.with_inc es i)) ≡ (x, next) = cc in
    subst (λ (p : List ℕ × ShownMap). Makes service.Log (map.Log es) p.0 p.1) pair (record { fine = h.fine; reads = h.next; short = let l = h.short in omega arith })

pub makes : (c : Command) (asked : ℕ) (m : ShownMap) (x : List ℕ) (next : ShownMap) → IsCommand c → asked ≤ 14 → IsFine (service_of c) m → made m asked c ≡ Ok (x, next) → Makes (service_of c) m x next
makes (command.Set k v) asked (map.Kv m) x next form low h e = long (ltb 65536 (length v)) refl (ltb 393216 (length (kv_text.map_text (insert m k v)))) refl
  where
    long : (a : Bool) → ltb 65536 (length v) ≡ a → (b : Bool) → ltb 393216 (length (kv_text.map_text (insert m k v))) ≡ b → Makes service.Kv (map.Kv m) x next
    long true p b q = let g = rw p at e in absurd cc
    long false p true q = let g = rw (p, q) at e in absurd cc
    long false p false q =
        let g = rw (p, q) at e in
        kv_makes m (inc.Set k v) x next (kv_steps.steps_set m k v h form (ltb-false 65536 (length v) p) (ltb-false 393216 (length (kv_text.map_text (insert m k v))) q)) g
makes (command.Remove k) asked (map.Kv m) x next form low h e = there (contains_key m k) refl
  where
    there : (a : Bool) → contains_key m k ≡ a → Makes service.Kv (map.Kv m) x next
    there true p = let g = rw p at e in kv_makes m (inc.Remove k) x next (kv_steps.steps_remove m k h form) g
    there false p = let g = rw p at e in absurd cc
makes (command.Log t) asked (map.Log es) x next form low h e = long (ltb 1024 (length t)) refl
  where
    long : (a : Bool) → ltb 1024 (length t) ≡ a → Makes service.Log (map.Log es) x next
    long true p = let g = rw p at e in absurd cc
    long false p = let g = rw p at e in log_makes es (record { rank = asked; text = t }) x next (log_steps.steps es (record { rank = asked; text = t }) h (low, form) (ltb-false 1024 (length t) p)) g
makes (command.Set k v) asked (map.Log es) x next form low h e = absurd h
makes (command.Remove k) asked (map.Log es) x next form low h e = absurd h
makes (command.Log t) asked (map.Kv m) x next form low h e = absurd h

-- ---- the map after one more incremental

after_all-append : (m : Kv) (is : List (List ℕ)) (x : List ℕ) → after_all m (is ++ x ∷ []) ≡ stepped (after_all m is) (if_ok (kv_decode.inc_of x))
after_all-append m [] x = refl
after_all-append m (y ∷ is) x = after_all-append (stepped m (if_ok (kv_decode.inc_of y))) is x

log_after_all-append : (es : List LogInc) (is : List (List ℕ)) (x : List ℕ) → log_after_all es (is ++ x ∷ []) ≡ stepped_log (log_after_all es is) (if_ok (log_decode.inc_of x))
log_after_all-append es [] x = refl
log_after_all-append es (y ∷ is) x = log_after_all-append (stepped_log es (if_ok (log_decode.inc_of y))) is x

kv_next : (m : Kv) (x : List ℕ) (next : ShownMap) → next_map service.Kv (map.Kv m) x ≡ Some next → map.Kv (stepped m (if_ok (kv_decode.inc_of x))) ≡ next
kv_next m x next e = by (kv_decode.inc_of x) refl
  where
    by : (r : Result KvInc MapRefused) → kv_decode.inc_of x ≡ r → map.Kv (stepped m (if_ok (kv_decode.inc_of x))) ≡ next
    by (Err f) p = let g = rw p at e in absurd cc
    by (Ok i) p = let g = rw p at e in rw p (short (leb (length (kv_text.map_text (kv.with_inc m i))) 393216) g)
      where
        short : (b : Bool) → ◌≡◌ {A = Option ShownMap} (cond b (Some (map.Kv (kv.with_inc m i))) None) (Some next) → map.Kv (kv.with_inc m i) ≡ next
        short true g = cc
        short false g = absurd cc

log_next : (es : List LogInc) (x : List ℕ) (next : ShownMap) → next_map service.Log (map.Log es) x ≡ Some next → map.Log (stepped_log es (if_ok (log_decode.inc_of x))) ≡ next
log_next es x next e = by (log_decode.inc_of x) refl
  where
    by : (r : Result LogInc MapRefused) → log_decode.inc_of x ≡ r → map.Log (stepped_log es (if_ok (log_decode.inc_of x))) ≡ next
    by (Err f) p = let g = rw p at e in absurd cc
    by (Ok i) p = let g = rw p at e in rw p (short (leb (length (log_text.map_text (log.with_inc es i))) 12288) g)
      where
        short : (b : Bool) → ◌≡◌ {A = Option ShownMap} (cond b (Some (map.Log (log.with_inc es i))) None) (Some next) → map.Log (log.with_inc es i) ≡ next
        short true g = cc
        short false g = absurd cc

pub after_more : (s : Service) (is : List (List ℕ)) (x : List ℕ) (next : ShownMap) → next_map s (map_after s is) x ≡ Some next → map_after s (is ++ x ∷ []) ≡ next
after_more service.Kv is x next e = ap map.Kv (after_all-append empty is x) ∙ kv_next (after_all empty is) x next e
after_more service.Log is x next e = ap map.Log (log_after_all-append [] is x) ∙ log_next (log_after_all [] is) x next e

-- ---- all of them

pub record Chain (s : Service) (is : List (List ℕ)) : Type 0 where
  pub next : (v : ℕ) → v < length is → next_map s (map_after s (take v is)) (entry is (suc v)) ≡ Some (map_after s (take (suc v) is))
  pub fine : (v : ℕ) → v ≤ length is → IsFine s (map_after s (take v is))

take_whole : (is : List (List ℕ)) → take (length is) is ≡ is
take_whole [] = refl
take_whole (x ∷ is) = ap (λ (z : List (List ℕ)). x ∷ z) (take_whole is)

take_more : (is : List (List ℕ)) (x : List ℕ) → take (suc (length is)) (is ++ x ∷ []) ≡ is ++ x ∷ []
take_more [] x = refl
take_more (y ∷ is) x = ap (λ (z : List (List ℕ)). y ∷ z) (take_more is x)

pub take_old : (is : List (List ℕ)) (x : List ℕ) (v : ℕ) → v ≤ length is → take v (is ++ x ∷ []) ≡ take v is
take_old is x v h = take-append-le v is (x ∷ []) h

pub after_last : (s : Service) (is : List (List ℕ)) → map_after s (take (length is) is) ≡ map_after s is
after_last s is = ap (map_after s) (take_whole is)

pub after_newest : (s : Service) (is : List (List ℕ)) (x : List ℕ) → map_after s (take (suc (length is)) (is ++ x ∷ [])) ≡ map_after s (is ++ x ∷ [])
after_newest s is x = ap (map_after s) (take_more is x)

pub entry_old : (is : List (List ℕ)) (x : List ℕ) (v : ℕ) → v ≤ length is → entry (is ++ x ∷ []) v ≡ entry is v
entry_old is x zero h = refl
entry_old is x (suc i) h = get_or_append_left is (x ∷ []) [] i (omega arith)

pub entry_newest : (is : List (List ℕ)) (x : List ℕ) → entry (is ++ x ∷ []) (suc (length is)) ≡ x
entry_newest is x = get_or-append_seam is x [] []

pub chain_none : (s : Service) → Chain s []
chain_none s = record { next = λ v h. absurd (omega arith); fine = none }
  where
    none : (v : ℕ) → v ≤ 0 → IsFine s (map_after s (take v []))
    none zero h = fine_empty s
    none (suc v) h = absurd (omega arith)

pub chain_more : (s : Service) (is : List (List ℕ)) (x : List ℕ) (next : ShownMap) → Chain s is → Makes s (map_after s is) x next → Chain s (is ++ x ∷ [])
chain_more s is x next C M = record { next = steps; fine = fine }
  where
    long : length (is ++ x ∷ []) ≡ suc (length is)
    long = omega (arith, length-append is (x ∷ []))

    newest : map_after s (is ++ x ∷ []) ≡ next
    newest = after_more s is x next M.reads

    last_step : next_map s (map_after s (take (length is) (is ++ x ∷ []))) (entry (is ++ x ∷ []) (suc (length is))) ≡ Some (map_after s (take (suc (length is)) (is ++ x ∷ [])))
    last_step =
        (λ i. next_map s ((ap (map_after s) (take_old is x (length is) (omega arith)) ∙ after_last s is) i) (entry_newest is x i)) ∙ M.reads
        ∙ ap (λ (m : ShownMap). Some m) (sym newest ∙ sym (after_newest s is x))

    steps : (v : ℕ) → v < length (is ++ x ∷ []) → next_map s (map_after s (take v (is ++ x ∷ []))) (entry (is ++ x ∷ []) (suc v)) ≡ Some (map_after s (take (suc v) (is ++ x ∷ [])))
    steps v h = by (cases_lt v (length is))
      where
        by : (v < length is) ⊎ (length is ≤ v) → next_map s (map_after s (take v (is ++ x ∷ []))) (entry (is ++ x ∷ []) (suc v)) ≡ Some (map_after s (take (suc v) (is ++ x ∷ [])))
        by (inl lt) =
            (λ i. next_map s (map_after s (take_old is x v (omega arith) i)) (entry_old is x (suc v) (omega arith) i)) ∙ C.next v lt ∙ ap (λ (z : List (List ℕ)). Some (map_after s z)) (sym (take_old is x (suc v) (omega arith)))
        by (inr le) =
            let e : v ≡ length is = omega (arith, long, h) in
            subst (λ (w : ℕ). next_map s (map_after s (take w (is ++ x ∷ []))) (entry (is ++ x ∷ []) (suc w)) ≡ Some (map_after s (take (suc w) (is ++ x ∷ [])))) (sym e) last_step

    fine : (v : ℕ) → v ≤ length (is ++ x ∷ []) → IsFine s (map_after s (take v (is ++ x ∷ [])))
    fine v h = by (cases_lt (length is) v)
      where
        by : (length is < v) ⊎ (v ≤ length is) → IsFine s (map_after s (take v (is ++ x ∷ [])))
        by (inr le) = subst (λ (z : List (List ℕ)). IsFine s (map_after s z)) (sym (take_old is x v le)) (C.fine v le)
        by (inl lt) =
            let e : v ≡ suc (length is) = omega (arith, long, h) in
            subst (λ (w : ℕ). IsFine s (map_after s (take w (is ++ x ∷ [])))) (sym e) (subst (IsFine s) (sym (after_newest s is x ∙ newest)) M.fine)
