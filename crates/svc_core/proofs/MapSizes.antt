-- How long the cluster log's text is after an entry.
use Rattle.std.proofs.Common.{◌≤◌, Bool, true, false, cond, ◌||◌, ltb, List, [], ◌∷◌, length, ◌≡◌, refl, arith}
use Rattle.std.proofs.lemmas.Bool.{ltb-false}
use Rattle.map_log.specs.Map as log
use Rattle.map_log.specs.Text as log_text
use Rattle.map_log.specs.declared.inc.LogInc.{LogInc}
use Rattle.map_log.proofs.Lengths as lengths

-- the cluster log's text is never too long after an entry
pub trimmed_short : (es : List LogInc) → length (log_text.map_text (log.trimmed es)) ≤ 12288
trimmed_short [] = omega (arith, lengths.length-map_text [])
trimmed_short (e ∷ es) = short (ltb 500 (length (e ∷ es))) (ltb 12288 (length (log_text.map_text (e ∷ es)))) refl (trimmed_short es)
  where
    short : (a b : Bool) → ltb 12288 (length (log_text.map_text (e ∷ es))) ≡ b → length (log_text.map_text (log.trimmed es)) ≤ 12288
        → length (log_text.map_text (cond (a || b) (log.trimmed es) (e ∷ es))) ≤ 12288
    short true b h le = le
    short false true h le = le
    short false false h le = ltb-false 12288 (length (log_text.map_text (e ∷ es))) h
