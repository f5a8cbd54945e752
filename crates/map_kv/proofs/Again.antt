-- Decoding accepts the encodings.
use Rattle.std.proofs.Common.{◌≡◌, Ok, ◌∙◌}
use Rattle.mon_bytes.proofs.Forms.{whole_again}
use Rattle.map_kv.specs.Map.{Kv}
use Rattle.map_kv.specs.Text.{inc_text, map_text, IncFits, MapFits}
use Rattle.map_kv.specs.Decode.{inc_of, map_of, inc_format, map_format}
use Rattle.map_kv.specs.declared.inc.KvInc.{KvInc}
use Rattle.map_kv.proofs.Laws.{inc_is_lawful, inc_is_whole, map_is_lawful, map_is_whole}

pub inc_again : (inc : KvInc) → IncFits inc → inc_of (inc_text inc) ≡ Ok inc
inc_again inc fits = inc_is_whole (inc_text inc) ∙ whole_again inc_format inc_is_lawful inc fits

pub map_again : (m : Kv) → MapFits m → map_of (map_text m) ≡ Ok m
map_again m fits = map_is_whole (map_text m) ∙ whole_again map_format map_is_lawful m fits
