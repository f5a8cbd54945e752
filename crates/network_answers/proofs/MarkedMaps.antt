-- What a map has was put by a version of the log. So a map with a marker is as new as the marker.
use Rattle.law_names.proofs.Runs.{Acknowledgement, Asked, Monitors}
use Rattle.law_names.proofs.Table.{Contains, Service, empty, get, incrementals, map_of_log}
use Rattle.log_model.proofs.Lists.{of_all}
use Rattle.map_kv.specs.Decode as kv_decode
use Rattle.map_kv.specs.Map.{Kv}
use Rattle.map_kv.specs.declared.inc.KvInc.TheVariants as kv
use Rattle.map_kv.specs.declared.inc.KvInc.{KvInc}
use Rattle.map_log.specs.Decode as log_decode
use Rattle.map_log.specs.Map.{is_above, trimmed}
use Rattle.map_log.specs.declared.inc.LogInc.{LogInc}
use Rattle.mon_bytes.specs.declared.command.MapRefused.{MapRefused}
use Rattle.mon_msg.specs.Fold.{after_all, log_after_all, stepped, stepped_log}
use Rattle.mon_msg.specs.Protocol.Maps.{if_ok}
use Rattle.mon_wire.specs.declared.reply.Reply.TheVariants as reply
use Rattle.mon_wire.specs.declared.request.Service.TheVariants as service
use Rattle.network_answers.proofs.Epochs.{linearizable}
use Rattle.network_answers.proofs.Marks.{IsPut, is_put}
use Rattle.network_answers.specs.Answers.{Answer, IsOfLog, IsOfThisLog}
use Rattle.network_answers.specs.Epochs.{IsUnasked, ShowsMark}
use Rattle.network_answers.specs.History.{HaveAnswers}
use Rattle.network_answers.specs.Marked.{HasMarker, Includes, ShowsMarker}
use Rattle.quorum_answers.specs.Reads.{Shows}
use Rattle.quorum_network.proofs.Assembled.{contains_first, contains_later}
use Rattle.quorum_network.proofs.Names.{AllMay, Step, acknowledgements, requests}
use Rattle.std.proofs.Common.{Bool, Err, List, None, Ok, Option, Result, Some, [], ap, arith, cond, false, inl, inr, nat_cmp, refl, subst, suc, sym, true, zero, ℕ, ◌++◌, ◌∙◌, ◌∷◌, ◌≡◌, ◌⊎◌}
use Rattle.std.proofs.lemmas.List.Elements.{Contains-append_cases}
use Rattle.std.specs.Cmp.Lexicographic.{nat_list_cmp_total, slice_cmp}
use Rattle.std.specs.Cmp.{Equal-is}
use Rattle.std.specs.FinMap.{IsAntisymmetric, get-empty, get-insert, get-remove, nat_cmp-IsAntisymmetric, slice_cmp-IsAntisymmetric}
use Rattle.std.specs.Ordering.{eq_by_cmp}

exact : IsAntisymmetric (slice_cmp nat_cmp)
exact = slice_cmp-IsAntisymmetric nat_cmp-IsAntisymmetric

-- ---- keys

-- one of these changes sets the key so
abbrev SetsKey : List (List ℕ) → (key value : List ℕ) → Type 0
SetsKey is key value = (x : List ℕ) × Contains is x × (kv_decode.inc_of x ≡ Ok (kv.Set key value))

-- a value was there, or a change set it
was_set : (m : Kv) (x : List ℕ) (key value : List ℕ) (r : Result KvInc MapRefused) → kv_decode.inc_of x ≡ r → get (stepped m (if_ok r)) key ≡ Some value
    → (get m key ≡ Some value) ⊎ (kv_decode.inc_of x ≡ Ok (kv.Set key value))
was_set m x key value (Err f) p h = inl h
was_set m x key value (Ok (kv.Set k v)) p h = tie (eq_by_cmp (slice_cmp nat_cmp) key k) refl (sym (get-insert nat_list_cmp_total m k v key) ∙ h)
  where
    tie : (b : Bool) → eq_by_cmp (slice_cmp nat_cmp) key k ≡ b → ◌≡◌ {A = Option (List ℕ)} (cond b (Some v) (get m key)) (Some value) → (get m key ≡ Some value) ⊎ (kv_decode.inc_of x ≡ Ok (kv.Set key value))
    tie true t e =
        let same : key ≡ k = exact key k ((Equal-is (slice_cmp nat_cmp key k)).0 t) in
        let one : v ≡ value = cc in
        inr (p ∙ ap (λ (q : List ℕ). Ok (kv.Set q v)) (sym same) ∙ ap (λ (q : List ℕ). Ok (kv.Set key q)) one)
    tie false t e = inl e
was_set m x key value (Ok (kv.Remove k)) p h = tie (eq_by_cmp (slice_cmp nat_cmp) key k) (sym (get-remove nat_list_cmp_total m k key) ∙ h)
  where
    tie : (b : Bool) → ◌≡◌ {A = Option (List ℕ)} (cond b None (get m key)) (Some value) → (get m key ≡ Some value) ⊎ (kv_decode.inc_of x ≡ Ok (kv.Set key value))
    tie true e = absurd cc
    tie false e = inl e

set_by : (m : Kv) (is : List (List ℕ)) (key value : List ℕ) → get (after_all m is) key ≡ Some value → (get m key ≡ Some value) ⊎ SetsKey is key value
set_by m [] key value e = inl e
set_by m (x ∷ is) key value e = elim (set_by (stepped m (if_ok (kv_decode.inc_of x))) is key value e) [
  | inl old ↦ elim (was_set m x key value (kv_decode.inc_of x) refl old) [ inl before ↦ inl before | inr now ↦ inr (x, contains_first x is, now) ]
  | inr new ↦ inr (new.0, contains_later x is new.0 new.1, new.2)
]

-- ---- entries of the cluster log

abbrev AddsEntry : List (List ℕ) → LogInc → Type 0
AddsEntry is entry = (x : List ℕ) × Contains is x × (log_decode.inc_of x ≡ Ok entry)

in_trimmed : (es : List LogInc) (entry : LogInc) → Contains (trimmed es) entry → Contains es entry
in_trimmed [] entry c = c
in_trimmed (e ∷ es) entry c = by (is_above (e ∷ es)) c (λ k. in_trimmed es entry k)
  where
    by : (b : Bool) → Contains (cond b (trimmed es) (e ∷ es)) entry → (Contains (trimmed es) entry → Contains es entry) → Contains (e ∷ es) entry
    by true k others = contains_later e es entry (others k)
    by false k others = k

one_is : (e entry : LogInc) → Contains (e ∷ []) entry → e ≡ entry
one_is e entry (zero, lt, is) = is
one_is e entry (suc k, lt, is) = absurd (omega (arith, lt))

was_added : (es : List LogInc) (x : List ℕ) (entry : LogInc) (r : Result LogInc MapRefused) → log_decode.inc_of x ≡ r → Contains (stepped_log es (if_ok r)) entry → Contains es entry ⊎ (log_decode.inc_of x ≡ Ok entry)
was_added es x entry (Err f) p c = inl c
was_added es x entry (Ok e) p c = elim (Contains-append_cases es (e ∷ []) entry (in_trimmed (es ++ e ∷ []) entry c)) [
  | inl old ↦ inl old
  | inr new ↦ inr (p ∙ ap (λ (q : LogInc). Ok q) (one_is e entry new))
]

added_by : (es : List LogInc) (is : List (List ℕ)) (entry : LogInc) → Contains (log_after_all es is) entry → Contains es entry ⊎ AddsEntry is entry
added_by es [] entry c = inl c
added_by es (x ∷ is) entry c = elim (added_by (stepped_log es (if_ok (log_decode.inc_of x))) is entry c) [
  | inl old ↦ elim (was_added es x entry (log_decode.inc_of x) refl old) [ inl before ↦ inl before | inr now ↦ inr (x, contains_first x is, now) ]
  | inr new ↦ inr (new.0, contains_later x is new.0 new.1, new.2)
]

-- ---- a map of the log

-- a version up to c puts a change of this service for which nobody asked
pub record PutsUnasked (before : List Asked) (s : Service) (log : List (List ℕ)) (c : ℕ) : Type 0 where
  pub incremental : List ℕ
  pub put : IsPut s log c incremental
  pub unasked : IsUnasked before s incremental

marker_put : (before : List Asked) (s : Service) (log : List (List ℕ)) (c : ℕ) → HasMarker before (map_of_log s log c) → PutsUnasked before s log c
marker_put before service.Kv log c (key, value, has, none) = elim (set_by empty (incrementals service.Kv log c) key value has) [
  | inl first ↦ absurd (let none : ◌≡◌ {A = Option (List ℕ)} None (Some value) = sym (get-empty (slice_cmp nat_cmp) key) ∙ first in cc)
  | inr set ↦ record { incremental = set.0; put = is_put service.Kv log c set.0 set.1; unasked = none set.0 set.2 }
]
marker_put before service.Log log c (entry, has, none) = elim (added_by [] (incrementals service.Log log c) entry has) [
  | inl first ↦ absurd (omega (arith, first.1))
  | inr added ↦ record { incremental = added.0; put = is_put service.Log log c added.0 added.1; unasked = none added.0 added.2 }
]

-- ---- a history

module _ (ms : Monitors) (H : HaveAnswers ms) (later earlier : List Step) (may : AllMay ms (later ++ earlier)) (a : Answer) (c : Contains (H.answers (later ++ earlier) may) a) (M : ShowsMarker (requests ms earlier) a) where
  abbrev log : List (List ℕ)
  log = H.log (later ++ earlier) may

  is_of_log : IsOfThisLog (requests ms (later ++ earlier)) (acknowledgements ms (later ++ earlier)) (H.log (later ++ earlier) may) a
  is_of_log = of_all (IsOfThisLog (requests ms (later ++ earlier)) (acknowledgements ms (later ++ earlier)) log) (H.answers (later ++ earlier) may) (H.of_log (later ++ earlier) may) a c

  abbrev shown_is : IsOfLog (requests ms (later ++ earlier)) (acknowledgements ms (later ++ earlier)) log a.rank a.session a.last (reply.Shown M.service M.paxos M.version M.map)
  shown_is = subst (IsOfLog (requests ms (later ++ earlier)) (acknowledgements ms (later ++ earlier)) log a.rank a.session a.last) M.is is_of_log.of_log

  last_is : M.paxos ≡ a.last
  last_is = shown_is.0

  map_is : M.map ≡ map_of_log M.service log M.paxos
  map_is = shown_is.1

  -- it shows a mark
  mark : ShowsMark (requests ms earlier) log a
  mark =
      let P : PutsUnasked (requests ms earlier) M.service log M.paxos = marker_put (requests ms earlier) M.service log M.paxos (subst (HasMarker (requests ms earlier)) map_is M.has) in
      let Q = P.put in
      record {
        shows = subst Shows (sym M.is) tt;
        mark = Q.version;
        is = record {
          some = Q.some;
          within = (let low = is_of_log.within in let high = Q.within in let e = last_is in omega (arith, low, high, e));
          service = M.service;
          incremental = P.incremental;
          put = Q.put;
          unasked = P.unasked;
        };
        to = (let high = Q.within in let e = last_is in omega (arith, high, e));
      }

  pub includes : (what : Acknowledgement) → Contains (acknowledgements ms earlier) what → Includes (H.log (later ++ earlier) may) (requests ms earlier) a M what
  includes what d = record {
    of_log = map_is;
    within =
        let L = linearizable ms H later earlier may in
        let le = L.write_read what a d c mark in
        let e = last_is in
        omega (arith, le, e);
  }
