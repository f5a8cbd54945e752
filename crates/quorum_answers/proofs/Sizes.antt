-- Each incremental of a log fits into a reply, so a reply has the next one.
use Rattle.law_names.proofs.Runs.{Asked, IsAsked, IsCommand, incremental_of, view_at}
use Rattle.law_names.proofs.Table.{AllByRecursion, Command, CommandRefused, Op, Readings, Service, ShownMap, area_of, entry, fits_reply, incrementals, longest, made, ops_in, put_in, read_map, same_area, service_of, value}
use Rattle.log_model.proofs.Committed.{ops_again}
use Rattle.log_model.proofs.KvSteps as kv_steps
use Rattle.log_model.proofs.Lists.{length_push}
use Rattle.log_model.proofs.LogSteps as log_steps
use Rattle.mon_bytes.specs.declared.command.Command.TheVariants as command
use Rattle.mon_msg.specs.Protocol.Records.{longest_onto}
use Rattle.mon_wire.specs.declared.reply.ShownMap.TheVariants as map
use Rattle.quorum_model.proofs.Made.{puts_in}
use Rattle.quorum_walk.proofs.Lists.{all_append}
use Rattle.std.proofs.Common.{Bool, Err, List, Ok, Result, [], ap, arith, false, length, ltb, refl, subst, suc, sum_by, sym, true, zero, ℕ, ◌++◌, ◌+◌, ◌<◌, ◌∙◌, ◌∷◌, ◌≡◌, ◌≤◌}
use Rattle.std.proofs.lemmas.Bool.{cond_both, le-leb, ltb-false}
use Rattle.std.proofs.lemmas.List.Sums.{sum_by-cons}

-- ---- an incremental is short

abbrev pub IsShort : List ℕ → Type 0
IsShort bytes = length bytes ≤ 65797

made_short : (c : Command) (asked : ℕ) (m : ShownMap) (x : List ℕ) (next : ShownMap) → IsCommand c → made m asked c ≡ Ok (x, next) → IsShort (incremental_of asked c)
made_short (command.Set k v) asked (map.Kv m) x next form e = by (ltb 65536 (length v)) refl
  where
    by : (a : Bool) → ltb 65536 (length v) ≡ a → IsShort (incremental_of asked (command.Set k v))
    by true t = let g = rw t at e in absurd cc
    by false t = kv_steps.set_short k v form.0 (ltb-false 65536 (length v) t)
made_short (command.Remove k) asked (map.Kv m) x next form e = kv_steps.remove_short k form
made_short (command.Log t) asked (map.Log es) x next form e = by (ltb 1024 (length t)) refl
  where
    by : (a : Bool) → ltb 1024 (length t) ≡ a → IsShort (incremental_of asked (command.Log t))
    by true u = let g = rw u at e in absurd cc
    by false u = let s = log_steps.inc_short (record { rank = asked; text = t }) (ltb-false 1024 (length t) u) in omega (arith, s)
made_short (command.Set k v) asked (map.Log es) x next form e = absurd cc
made_short (command.Remove k) asked (map.Log es) x next form e = absurd cc
made_short (command.Log t) asked (map.Kv m) x next form e = absurd cc

value_short : (w : Readings) (c : Command) (asked : ℕ) (ops : List Op) → IsCommand c → value w c asked ≡ Ok ops → IsShort (incremental_of asked c)
unfolding value
value_short w c asked ops form h = by (made (read_map w (service_of c)) asked c) refl
  where
    by : (r : Result (List ℕ × ShownMap) CommandRefused) → made (read_map w (service_of c)) asked c ≡ r → IsShort (incremental_of asked c)
    by (Err e) p = let g = rw p at h in absurd cc
    by (Ok (x, next)) p = made_short c asked (read_map w (service_of c)) x next form p

module _ (n : ℕ) (asked : List Asked) (log : List (List ℕ)) (all : (v : ℕ) → v < length log → IsAsked n asked log v) where
  put_short : (s : Service) (v : ℕ) → IsAsked n asked log v → AllByRecursion IsShort (put_in s (ops_in (entry log (suc v))))
  put_short s v A =
      let short = value_short (view_at log v) A.command A.by.rank A.ops A.form A.made in
      let is = ap (λ (ops : List Op). put_in s ops) (ap ops_in A.encodes ∙ ops_again A.ops A.has_text) ∙ puts_in (view_at log v) A.command A.by.rank A.ops s A.made in
      subst (AllByRecursion IsShort) (sym is)
      (cond_both (same_area (area_of (service_of A.command)) (area_of s)) (incremental_of A.by.rank A.command ∷ []) [] (AllByRecursion IsShort) (λ t. (short, tt)) (λ t. tt))

  pub all_short : (s : Service) (c : ℕ) → c ≤ length log → AllByRecursion IsShort (incrementals s log c)
  unfolding incrementals
  all_short s zero h = tt
  all_short s (suc c) h = all_append IsShort (incrementals s log c) (put_in s (ops_in (entry log (suc c)))) (all_short s c (omega (arith, h))) (put_short s c (all c (omega (arith, h))))

-- ---- so the next one is among those that a reply takes

longest_more : (test : List (List ℕ) → Bool) (done xs : List (List ℕ)) → length done ≤ length (longest_onto test done xs)
longest_more test done [] = omega arith
longest_more test done (x ∷ xs) =
    cond_both (test (done ++ x ∷ [])) (longest_onto test (done ++ x ∷ []) xs) done (λ (found : List (List ℕ)). length done ≤ length found)
    (λ t. let more = longest_more test (done ++ x ∷ []) xs in omega (arith, more, length_push done x)) (λ t. omega arith)

fits_one : (x : List ℕ) → IsShort x → fits_reply (x ∷ []) ≡ true
fits_one x short =
    let size : List ℕ → ℕ = λ bytes. length bytes + 4 in
    let none : sum_by size [] ≡ 0 = refl in
    let low : sum_by size (x ∷ []) ≤ 524288 = omega (arith, short, sum_by-cons size x [], none) in
    le-leb (sum_by size (x ∷ [])) 524288 low

pub takes_next : (kept : List (List ℕ)) → AllByRecursion IsShort kept → 1 ≤ length kept → 1 ≤ length (longest fits_reply kept)
takes_next [] k some = absurd (omega (arith, some))
takes_next (x ∷ xs) k some = rw (fits_one x k.0) (longest_more fits_reply (x ∷ []) xs)
