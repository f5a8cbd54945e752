-- A command's value over a store that agrees with the log is the one over the log.
use Rattle.law_names.proofs.Runs.{Agrees, AllValues, IsValue, Keeps, last_of, log_from, row_after, view_at, within}
use Rattle.law_names.proofs.Table.{Command, Readings, Service, ShownMap, Store, apply_op, incrementals, is_too_long, made, map_after, most_text, put_number, read_map, readings_of, text_length, value, value_if_made}
use Rattle.log_model.proofs.Committed as committed
use Rattle.log_model.proofs.Committed.{holds, keeps_shared, value_told}
use Rattle.log_model.proofs.FoldWindows.{keeps_view}
use Rattle.log_model.proofs.Logs.{IsPrefixOf, entry_stays, fold_stays, incrementals_stay}
use Rattle.log_model.proofs.RowReadings.{map_is}
use Rattle.log_model.proofs.Windows.{row_of}
use Rattle.mon_bytes.specs.declared.command.Command.TheVariants as command
use Rattle.mon_bytes.specs.declared.command.CommandRefused.TheVariants as refused
use Rattle.mon_tx.specs.declared.key.Area.TheVariants as area
use Rattle.mon_tx.specs.declared.key.Key.TheVariants as key
use Rattle.mon_wire.specs.declared.request.Service.TheVariants as service
use Rattle.quorum_agreement.proofs.Held.{last_is}
use Rattle.std.proofs.Common.{Err, List, None, Some, [], ap, arith, cond, get_or-take, length, length-take-le, refl, subst, suc, sym, take, true, ℕ, ◌^◌, ◌∙◌, ◌≡◌, ◌≤◌}

-- what a log's first versions make stays when it grows
pub view_stays : (log more : List (List ℕ)) → IsPrefixOf log more → (c : ℕ) → c ≤ length log → view_at more c ≡ view_at log c
view_stays log more F c le = ap (λ (m : Store). readings_of (apply_op (put_number area.Paxos key.LastCommitted c) m)) (fold_stays F c le)

module _ (log : List (List ℕ)) (fits : length log ≤ 2 ^ 62) (all : AllValues log) where
  module _ (c : ℕ) (h : c ≤ length log) where
    long : length (take c log) ≡ c
    long = length-take-le c log h

    begins : IsPrefixOf (take c log) log
    begins = record { short = omega (arith, long); same = λ i lt. sym (get_or-take c log i [] (omega (arith, long))) }

    begun_values : AllValues (take c log)
    begun_values v lt =
        let S = all v (omega (arith, long)) in
        record {
          changes = S.changes;
          value = subst (λ (r : Readings). IsValue r S.changes) (view_stays (take c log) log begins v (omega arith)) S.value;
          encodes = sym (entry_stays begins (suc v) lt) ∙ S.encodes;
        }

    begun_keeps : (w : Readings) → Keeps log c w → Keeps (take c log) (length (take c log)) w
    begun_keeps w K = subst (λ (k : ℕ). Keeps (take c log) k w) (sym long) (record {
      first = K.first;
      records = λ v le. K.records v le ∙ ap (λ (e : List ℕ). cond (within (log_from c) (suc c) v) (Some e) None) (entry_stays begins v (omega (arith, long)));
      rows = λ s k. K.rows s k ∙ ap (λ (is : List (List ℕ)). row_after s is k) (incrementals_stay begins s c (omega (arith, long)));
    })

    value_over : (w : Readings) → Keeps log c w → w.last ≡ c → (command : Command) (asked : ℕ) → value (view_at log c) command asked ≡ value w command asked
    value_over w K at command asked =
        ap (λ (r : Readings). value r command asked) (view_stays (take c log) log begins c (omega (arith, long)) ∙ ap (view_at (take c log)) (sym long))
        ∙ value_told (take c log) (omega (arith, long)) begun_values w (begun_keeps w K) (at ∙ sym long) command asked

  pub value_stored : (m : Store) → Agrees log m → (command : Command) (asked : ℕ) → value (view_at log (last_of m)) command asked ≡ value (readings_of m) command asked
  value_stored m A command asked =
      value_over (last_of m) A.within (readings_of m) (keeps_shared log (last_of m) m A.folded refl (committed.keeps log fits all (last_of m) A.within)) (last_is m) command asked

  -- ---- a command that is too long is refused

  reads_map : (s : Service) → read_map (view_at log (length log)) s ≡ map_after s (incrementals s log (length log))
  reads_map s =
      let h = holds log fits all (length log) (omega arith) in
      map_is (view_at log (length log)) s (incrementals s log (length log)) (row_of log (length log) (view_at log (length log)) s (keeps_view log (length log) fits h.keeps)) (let f = h.chains.few s in omega arith) (h.chains.chain s)

  pub long_refused : (c : Command) (asked : ℕ) → is_too_long c ≡ true → value (view_at log (length log)) c asked ≡ Err (refused.TooLong (text_length c) (most_text c))
  unfolding value
  long_refused (command.Set key bytes) asked long = ap (λ (m : ShownMap). value_if_made (view_at log (length log)) service.Kv (made m asked (command.Set key bytes))) (reads_map service.Kv) ∙ rw long refl
  long_refused (command.Log bytes) asked long = ap (λ (m : ShownMap). value_if_made (view_at log (length log)) service.Log (made m asked (command.Log bytes))) (reads_map service.Log) ∙ rw long refl
  long_refused (command.Remove key) asked long = absurd cc
