-- A follower of one run holds what the run's log makes.
use Rattle.std.proofs.Common.{◌≡◌, ℕ, zero, suc, ◌+◌, ◌-◌, ◌<◌, ◌≤◌, ◌^◌, Bool, true, false, cond, ltb, leb, ◌&&◌, List, [], ◌∷◌, ◌++◌, length, take, drop, Option, Some, None, Result, Ok, Err, refl, sym, ap, subst, ◌∙◌, append_assoc, length-append, arith}
use Rattle.std.specs.Prelude.{min}
use Rattle.std.specs.Option.{option_map}
use Rattle.std.proofs.Math.Seq.{take-append_seam}
use Rattle.std.proofs.lemmas.List.{take-append-drop, append-nil, length-take, length-drop}
use Rattle.std.proofs.lemmas.Bool.{ltb-false, leb-false}
use Rattle.std.specs.FinMap.{empty}
use Rattle.std.specs.List.{AllByRecursion}
use Rattle.map_kv.specs.Decode as kv_decode
use Rattle.map_kv.specs.Map.{Kv}
use Rattle.map_kv.specs.Map as kv
use Rattle.map_kv.specs.declared.inc.KvInc.{KvInc}
use Rattle.map_log.specs.Decode as log_decode
use Rattle.map_log.specs.Map as log
use Rattle.map_log.specs.declared.inc.LogInc.{LogInc}
use Rattle.mon_tx.specs.Decode.{ops_in}
use Rattle.mon_msg.specs.Fold.{entry, put_in, incrementals, stepped, stepped_log, after_all, log_after_all, map_after, map_of_log, version_of_log}
use Rattle.mon_msg.specs.Protocol.Maps.{if_ok}
use Rattle.mon_wire.specs.declared.reply.Reply.{Reply}
use Rattle.mon_wire.specs.declared.reply.Reply.TheVariants as reply
use Rattle.mon_wire.specs.declared.reply.ShownMap.{ShownMap}
use Rattle.mon_wire.specs.declared.reply.ShownMap.TheVariants as map
use Rattle.mon_wire.specs.declared.request.Service.{Service}
use Rattle.mon_wire.specs.declared.request.Service.TheVariants as service
use Rattle.log_model.proofs.Lists.{of_all}
use Rattle.quorum_model.specs.Shown.{AreAfter, IsShown, Shown, ShowsLog}
use Rattle.quorum_model.specs.World.{World}
use Rattle.map_follower.specs.declared.follower.Follower.{Follower}
use Rattle.map_follower.specs.declared.took.Took.TheVariants as took
use Rattle.map_follower.specs.Copies.{applied_from, first, if_applied, is_of, since_taken, step_then, taken, taken_all, Taken}
use Rattle.map_follower.specs.Following.{Holds, WasGiven}

-- ---- the incrementals of a log's first versions are the first of its incrementals

abbrev Bytes : Type 0
Bytes = List (List ℕ)

record Begins (all front : Bytes) : Type 0 where
  rest : Bytes
  is : all ≡ front ++ rest

begins_by : (s : Service) (log : Bytes) (c more : ℕ) → Begins (incrementals s log (more + c)) (incrementals s log c)
unfolding incrementals
begins_by s log c zero =
    let n : zero + c ≡ c = omega arith in
    record { rest = []; is = ap (incrementals s log) n ∙ sym (append-nil (incrementals s log c)) }
begins_by s log c (suc more) =
    let b = begins_by s log c more in
    let n : suc more + c ≡ suc (more + c) = omega arith in
    record {
      rest = b.rest ++ put_in s (ops_in (entry log (suc (more + c))));
      is = ap (incrementals s log) n ∙ ap (λ is. is ++ put_in s (ops_in (entry log (suc (more + c))))) b.is ∙ append_assoc (incrementals s log c) b.rest (put_in s (ops_in (entry log (suc (more + c)))));
    }

begins_of : (s : Service) (log : Bytes) (c : ℕ) → c ≤ length log → Begins (incrementals s log (length log)) (incrementals s log c)
begins_of s log c h =
    let n : (length log - c) + c ≡ length log = omega (arith, h) in
    subst (λ k. Begins (incrementals s log k) (incrementals s log c)) n (begins_by s log c (length log - c))

-- ---- the map after some incrementals and others

kv_after : (m : Kv) (xs ys : Bytes) → after_all m (xs ++ ys) ≡ after_all (after_all m xs) ys
kv_after m [] ys = refl
kv_after m (x ∷ xs) ys = kv_after (stepped m (if_ok (kv_decode.inc_of x))) xs ys

log_after : (es : List LogInc) (xs ys : Bytes) → log_after_all es (xs ++ ys) ≡ log_after_all (log_after_all es xs) ys
log_after es [] ys = refl
log_after es (x ∷ xs) ys = log_after (stepped_log es (if_ok (log_decode.inc_of x))) xs ys

kv_told : (i : ℕ) (m : Kv) (updates : Bytes) (next : ShownMap) → applied_from i (map.Kv m) updates ≡ Ok next → map.Kv (after_all m updates) ≡ next
kv_told i m [] next h = cc
kv_told i m (x ∷ updates) next h = by (if_ok (kv_decode.inc_of x)) (λ n g. kv_told (suc i) n updates next g) h
  where
    by : (o : Option KvInc) → ((n : Kv) → applied_from (suc i) (map.Kv n) updates ≡ Ok next → map.Kv (after_all n updates) ≡ next)
        → step_then i (λ n. applied_from (suc i) n updates) (option_map (λ inc. map.Kv (kv.with_inc m inc)) o) ≡ Ok next → map.Kv (after_all (stepped m o) updates) ≡ next
    by None ih g = absurd cc
    by (Some inc) ih g = ih (kv.with_inc m inc) g

log_told : (i : ℕ) (es : List LogInc) (updates : Bytes) (next : ShownMap) → applied_from i (map.Log es) updates ≡ Ok next → map.Log (log_after_all es updates) ≡ next
log_told i es [] next h = cc
log_told i es (x ∷ updates) next h = by (if_ok (log_decode.inc_of x)) (λ n g. log_told (suc i) n updates next g) h
  where
    by : (o : Option LogInc) → ((n : List LogInc) → applied_from (suc i) (map.Log n) updates ≡ Ok next → map.Log (log_after_all n updates) ≡ next)
        → step_then i (λ n. applied_from (suc i) n updates) (option_map (λ inc. map.Log (log.with_inc es inc)) o) ≡ Ok next → map.Log (log_after_all (stepped_log es o) updates) ≡ next
    by None ih g = absurd cc
    by (Some inc) ih g = ih (log.with_inc es inc) g

after_others : (s : Service) (xs updates : Bytes) (i : ℕ) (next : ShownMap) → applied_from i (map_after s xs) updates ≡ Ok next → map_after s (xs ++ updates) ≡ next
after_others service.Kv xs updates i next h = ap map.Kv (kv_after empty xs updates) ∙ kv_told i (after_all empty xs) updates next h
after_others service.Log xs updates i next h = ap map.Log (log_after [] xs updates) ∙ log_told i (log_after_all [] xs) updates next h

same_service : (s t : Service) (xs : Bytes) → is_of s (map_after t xs) ≡ true → s ≡ t
same_service service.Kv service.Kv xs h = refl
same_service service.Log service.Log xs h = refl
same_service service.Kv service.Log xs h = absurd cc
same_service service.Log service.Kv xs h = absurd cc

-- ---- incrementals that were sent, of which some are known

take_front : (all front rest : Bytes) (n : ℕ) → all ≡ front ++ rest → n ≡ length front → take n all ≡ front
take_front all front rest n is long = (λ i. take (long i) (is i)) ∙ take-append_seam front rest

module _ (all some : Bytes) (b : Begins all some) (from k : ℕ) (updates : Bytes) (same : updates ≡ take (length updates) (drop from some)) (low : from ≤ k) (high : k < from + length updates) where
  abbrev known : Bytes
  known = take (k - from) updates

  abbrev unknown : Bytes
  unknown = drop (k - from) updates

  abbrev before : Bytes
  before = take from some

  abbrev rest : Bytes
  rest = drop (length updates) (drop from some)

  long : length updates ≡ min (length updates) (length (drop from some))
  long = ap length same ∙ length-take (length updates) (drop from some)

  there : from ≤ length some
  there = omega (arith, long, length-drop from some, low, high)

  parts : all ≡ ((before ++ known) ++ unknown) ++ (rest ++ b.rest)
  parts =
      let told_is : updates ++ rest ≡ drop from some = ap (λ t. t ++ rest) same ∙ take-append-drop (length updates) (drop from some) in
      b.is ∙ ap (λ xs. xs ++ b.rest) (sym (take-append-drop from some) ∙ ap (λ xs. before ++ xs) (sym told_is ∙ ap (λ t. t ++ rest) (sym (take-append-drop (k - from) updates))))
      ∙ simp append_assoc

  length_before : length before ≡ from
  length_before = let l = length-take from some in omega (arith, l, there)

  length_known : length (before ++ known) ≡ k
  length_known = let l = length-take (k - from) updates in omega (arith, length-append before known, length_before, l, low, high)

  length_told : length ((before ++ known) ++ unknown) ≡ from + length updates
  length_told = let l = length-drop (k - from) updates in omega (arith, length-append (before ++ known) unknown, length_known, l, low, high)

  take_known : take k all ≡ before ++ known
  take_known = take_front all (before ++ known) (unknown ++ (rest ++ b.rest)) k (parts ∙ append_assoc (before ++ known) unknown (rest ++ b.rest)) (sym length_known)

  take_told : take (from + length updates) all ≡ (before ++ known) ++ unknown
  take_told = take_front all ((before ++ known) ++ unknown) (rest ++ b.rest) (from + length updates) parts (sym length_told)

  told_within : from + length updates ≤ length all
  told_within =
      let l = ap length parts in
      omega (arith, l, length-append ((before ++ known) ++ unknown) (rest ++ b.rest), length_told)

-- ---- one reply

module _ (s : Service) (w : World) (shown : Shown w) where
  abbrev all : Bytes
  all = incrementals s w.log (length w.log)

  shows : (r : Reply) (g : WasGiven w r) → ShowsLog w g.replied r
  shows r g = subst (ShowsLog w g.replied) g.is (of_all (IsShown w) w.replied shown g.replied g.there).shows

  within : (r : Reply) (g : WasGiven w r) → g.replied.last ≤ length w.log
  within r g = (of_all (IsShown w) w.replied shown g.replied g.there).within

  is_this : (t : Service) (f : Follower) → Holds s w.log f → is_of t f.map ≡ true → t ≡ s
  is_this t f H h = same_service t s (take f.version all) (ap (is_of t) (sym H.map) ∙ h)

  holds_shown : (last version : ℕ) (m : ShownMap) → last ≤ length w.log → m ≡ map_of_log s w.log last → version ≡ version_of_log s w.log last → Holds s w.log (record { version = version; map = m })
  holds_shown last version m h e v =
      let b = begins_of s w.log last h in
      record {
        map = e ∙ ap (map_after s) (sym (take_front all (incrementals s w.log last) b.rest version b.is v));
        within = let l = ap length b.is in omega (arith, l, length-append (incrementals s w.log last) b.rest, v);
      }

  holds_told : (f : Follower) (last from : ℕ) (updates : Bytes) → Holds s w.log f → last ≤ length w.log → updates ≡ take (length updates) (drop from (incrementals s w.log last))
      → from ≤ f.version → f.version < from + length updates → (r : Result ShownMap ℕ) → applied_from (f.version - from) f.map (drop (f.version - from) updates) ≡ r
      → Holds s w.log (if_applied f (from + length updates) r).0
  holds_told f last from updates H h same low high (Err i) e = H
  holds_told f last from updates H h same low high (Ok m) e =
      let some = incrementals s w.log last in
      let b = begins_of s w.log last h in
      let k = f.version in
      let front = before all some b from k updates same low high ++ known all some b from k updates same low high in
      let is : f.map ≡ map_after s front = H.map ∙ ap (map_after s) (take_known all some b from k updates same low high) in
      let next = after_others s front (drop (k - from) updates) (k - from) m (ap (λ n. applied_from (k - from) n (drop (k - from) updates)) (sym is) ∙ e) in
      record {
        map = sym next ∙ ap (map_after s) (sym (take_told all some b from k updates same low high));
        within = told_within all some b from k updates same low high;
      }

  holds_since : (f : Follower) (last from : ℕ) (updates : Bytes) → Holds s w.log f → last ≤ length w.log → updates ≡ take (length updates) (drop from (incrementals s w.log last))
      → Holds s w.log (since_taken f from updates).0
  holds_since f last from updates H h same = by (ltb f.version from) (leb (from + length updates) f.version) refl refl
    where
      by : (a b : Bool) → ltb f.version from ≡ a → leb (from + length updates) f.version ≡ b
          → Holds s w.log (cond {A = Taken} a (f, took.Ahead from) (cond b (f, took.Known f.version) (if_applied f (from + length updates) (applied_from (f.version - from) f.map (drop (f.version - from) updates))))).0
      by true b p q = H
      by false true p q = H
      by false false p q = holds_told f last from updates H h same (ltb-false f.version from p) (leb-false (from + length updates) f.version q) _ refl

  step : (f : Follower) (r : Reply) → Holds s w.log f → WasGiven w r → Holds s w.log (taken f r).0
  step f (reply.Shown t paxos version m) H g = by (is_of t f.map) (is_of t m) (ltb f.version version) refl
    where
      updates : ShowsLog w g.replied (reply.Shown t paxos version m)
      updates = shows (reply.Shown t paxos version m) g

      by : (a b c : Bool) → is_of t f.map ≡ a → Holds s w.log (cond {A = Taken} (a && b) (cond c (record { version = version; map = m }, took.Newer version) (f, took.Known f.version)) (f, took.Other)).0
      by true true true p =
          let e = is_this t f H p in
          holds_shown g.replied.last version m (within _ g) (updates.1 ∙ ap (λ u. map_of_log u w.log g.replied.last) e) (updates.2 ∙ ap (λ u. version_of_log u w.log g.replied.last) e)
      by true true false p = H
      by true false c p = H
      by false b c p = H
  step f (reply.Since t from updates more) H g = by (is_of t f.map) (leb (from + length updates) (2 ^ 62)) refl
    where
      after : AreAfter (incrementals t w.log g.replied.last) from updates more
      after = shows (reply.Since t from updates more) g

      by : (a b : Bool) → is_of t f.map ≡ a → Holds s w.log (cond {A = Taken} (a && b) (since_taken f from updates) (f, took.Other)).0
      by true true p = holds_since f g.replied.last from updates H (within _ g) (after.same ∙ ap (λ u. take (length updates) (drop from (incrementals u w.log g.replied.last))) (is_this t f H p))
      by true false p = H
      by false b p = H
  step f other H g = H

  holds_from : (f : Follower) (rs : List Reply) → Holds s w.log f → AllByRecursion (WasGiven w) rs → Holds s w.log (taken_all f rs)
  holds_from f [] H g = H
  holds_from f (r ∷ rs) H g = holds_from (taken f r).0 rs (step f r H g.0) g.1

pub holds_all : (s : Service) (w : World) → Shown w → (rs : List Reply) → AllByRecursion (WasGiven w) rs → Holds s w.log (taken_all (first s) rs)
holds_all s w shown rs g = holds_from s w shown (first s) rs (begin s) g
  where
    begin : (s : Service) → Holds s w.log (first s)
    begin service.Kv = record { map = refl; within = omega arith }
    begin service.Log = record { map = refl; within = omega arith }
