-- The beginning of a log of values is one, and a value over what it leaves makes another one.
use Rattle.std.proofs.Common.{◌≡◌, ℕ, suc, ◌≤◌, ◌<◌, ◌^◌, cond, List, [], ◌∷◌, ◌++◌, length, take, Some, None, sym, ap, subst, ◌∙◌, arith}
use Rattle.std.proofs.lemmas.List.{get_or-take, length-take-le}
use Rattle.mon_tx.specs.declared.key.Area.TheVariants as area
use Rattle.mon_tx.specs.declared.key.Key.TheVariants as key
use Rattle.mon_tx.specs.declared.op.Op.{Op}
use Rattle.mon_tx.specs.Decode.{HasText}
use Rattle.mon_tx.specs.Map.{Store, apply_op}
use Rattle.mon_tx.specs.Text.{text}
use Rattle.mon_msg.specs.Puts.{put_number}
use Rattle.mon_msg.specs.Protocol.Records.{most_value}
use Rattle.mon_msg.specs.Protocol.Readings.{Readings, readings_of}
use Rattle.log_model.specs.LogOfValues.{IsValue, AllValues}
use Rattle.log_model.specs.Windows.{log_from, within, row_after, Keeps}
use Rattle.log_model.proofs.Committed.{texts, shorts, grown}
use Rattle.log_model.proofs.Logs.{IsPrefixOf, entry_stays, fold_stays, incrementals_stay}

module _ (log : List (List ℕ)) (c : ℕ) (h : c ≤ length log) where
  long : length (take c log) ≡ c
  long = length-take-le c log h

  log_prefix : IsPrefixOf (take c log) log
  log_prefix = record { short = omega (arith, long); same = λ i lt. sym (get_or-take c log i [] (omega (arith, long))) }

  begun_values : AllValues log → AllValues (take c log)
  begun_values all v lt =
      let S = all v (omega (arith, long)) in
      record {
        changes = S.changes;
        value = subst (λ (m : Store). IsValue (readings_of (apply_op (put_number area.Paxos key.LastCommitted v) m)) S.changes) (fold_stays log_prefix v (omega arith)) S.value;
        encodes = sym (entry_stays log_prefix (suc v) lt) ∙ S.encodes;
      }

  begun_keeps : (w : Readings) → Keeps log c w → Keeps (take c log) c w
  begun_keeps w K = record {
    first = K.first;
    records = λ v le. K.records v le ∙ ap (λ (e : List ℕ). cond (within (log_from c) (suc c) v) (Some e) None) (entry_stays log_prefix v (omega (arith, long)));
    rows = λ s k. K.rows s k ∙ ap (λ (is : List (List ℕ)). row_after s is k) (incrementals_stay log_prefix s c (omega (arith, long)));
  }

  module _ (all : AllValues log) (room : c < 2 ^ 62) (w : Readings) (K : Keeps log c w) (at : w.last ≡ c) (value : List Op) (V : IsValue w value) where
    keeps_all : Keeps (take c log) (length (take c log)) w
    keeps_all = subst (λ (n : ℕ). Keeps (take c log) n w) (sym long) (begun_keeps w K)

    pub begun_text : HasText value
    begun_text = texts (take c log) (omega (arith, long)) (begun_values all) w keeps_all (at ∙ sym long) value V

    pub begun_short : length (text value) ≤ most_value
    begun_short = shorts (take c log) (omega (arith, long)) (begun_values all) w keeps_all (at ∙ sym long) value V

    pub begun_grown : AllValues (take c log ++ text value ∷ [])
    begun_grown = grown (take c log) (omega (arith, long)) (begun_values all) w keeps_all (at ∙ sym long) value V
