-- There are logs of values of every length, so what is said of such logs is said of something.
use Rattle.std.proofs.Common.{◌≡◌, ℕ, zero, suc, ◌<◌, ◌≤◌, ◌^◌, List, [], ◌∷◌, ◌++◌, length, Ok, refl, ap, ◌∙◌, arith}
use Rattle.std.proofs.lemmas.Str.{is_utf8-from_IsUtf8, IsUtf8-nil}
use Rattle.mon_bytes.specs.declared.command.Command.TheVariants as command
use Rattle.mon_tx.specs.declared.op.Op.{Op}
use Rattle.mon_tx.specs.Text.{text}
use Rattle.map_log.specs.Map.{with_inc}
use Rattle.map_log.specs.Text.{inc_text}
use Rattle.map_log.specs.declared.inc.LogInc.{LogInc}
use Rattle.mon_wire.specs.declared.reply.ShownMap.{ShownMap}
use Rattle.mon_wire.specs.declared.reply.ShownMap.TheVariants as map
use Rattle.mon_wire.specs.declared.request.Service.TheVariants as service
use Rattle.mon_msg.specs.Fold.{log_after_all, incrementals}
use Rattle.mon_msg.specs.Protocol.Services.{read_map}
use Rattle.mon_msg.specs.Protocol.Value.{value, value_of, made}
use Rattle.log_model.specs.LogOfValues.{view_at, IsValue, AllValues, LogOf}
use Rattle.log_model.specs.Windows.{Keeps}
use Rattle.log_model.proofs.Committed.{holds, grown}
use Rattle.log_model.proofs.FoldWindows.{Holds, keeps_view, view_last}
use Rattle.log_model.proofs.Lists.{length_push}
use Rattle.log_model.proofs.Older.{older_itself}
use Rattle.log_model.proofs.RowReadings.{map_is}
use Rattle.log_model.proofs.Windows.{row_of}

-- an empty entry of the cluster log may always be made
abbrev entry_of_none : LogInc
entry_of_none = record { rank = 0; text = [] }

abbrev entries : List (List ℕ) → List LogInc
entries log = log_after_all [] (incrementals service.Log log (length log))

abbrev said : List (List ℕ) → List Op
said log = value_of (view_at log (length log)) service.Log (inc_text entry_of_none) (map.Log (with_inc (entries log) entry_of_none))

module _ (log : List (List ℕ)) (fits : length log < 2 ^ 62) (all : AllValues log) where
  there : Holds log (length log)
  there = holds log (omega arith) all (length log) (omega arith)

  keeps : Keeps log (length log) (view_at log (length log))
  keeps = keeps_view log (length log) (omega arith) there.keeps

  reads : read_map (view_at log (length log)) service.Log ≡ map.Log (entries log)
  reads =
      map_is (view_at log (length log)) service.Log (incrementals service.Log log (length log)) (row_of log (length log) (view_at log (length log)) service.Log keeps)
      (let f = there.chains.few service.Log in omega arith) (there.chains.chain service.Log)

  is_said : value (view_at log (length log)) (command.Log []) 0 ≡ Ok (said log)
  unfolding value
  is_said = let e = ap (λ (m : ShownMap). made m 0 (command.Log [])) reads in rw e refl

  is_value : IsValue (view_at log (length log)) (said log)
  is_value = record { command = command.Log []; form = is_utf8-from_IsUtf8 [] IsUtf8-nil; asked = 0; rank = omega arith; newer = said log; made = is_said; encoded = older_itself (said log) }

  longer : AllValues (log ++ text (said log) ∷ [])
  longer = grown log fits all (view_at log (length log)) keeps (view_last log (length log) (omega arith)) (said log) is_value

pub some_log : (n : ℕ) → n ≤ 2 ^ 62 → LogOf n
some_log zero h = record { log = []; long = refl; all = λ v lt. absurd (omega arith) }
some_log (suc n) h =
    let before = some_log n (omega arith) in
    let long = before.long in
    let fits : length before.log < 2 ^ 62 = omega arith in
    record { log = before.log ++ text (said before.log) ∷ []; long = length_push before.log (text (said before.log)) ∙ ap (λ (m : ℕ). suc m) long; all = longer before.log fits before.all }
