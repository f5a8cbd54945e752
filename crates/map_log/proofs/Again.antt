-- Decoding accepts the encodings.
use Rattle.std.proofs.Common.{◌≡◌, List, Ok, ◌∙◌}
use Rattle.mon_bytes.proofs.Forms.{whole_again}
use Rattle.map_log.specs.declared.inc.LogInc.{LogInc}
use Rattle.map_log.specs.Text.{inc_text, map_text, IncFits, MapFits}
use Rattle.map_log.specs.Decode.{inc_of, map_of, inc_format, map_format}
use Rattle.map_log.proofs.Laws.{inc_is_lawful, inc_is_whole, map_is_lawful, map_is_whole}

pub inc_again : (inc : LogInc) → IncFits inc → inc_of (inc_text inc) ≡ Ok inc
inc_again inc fits = inc_is_whole (inc_text inc) ∙ whole_again inc_format inc_is_lawful inc fits

pub map_again : (es : List LogInc) → MapFits es → map_of (map_text es) ≡ Ok es
map_again es fits = map_is_whole (map_text es) ∙ whole_again map_format map_is_lawful es fits
