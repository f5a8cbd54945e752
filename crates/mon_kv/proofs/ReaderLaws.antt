-- A value waits if its version is the next one and its record encodes a transaction.
use Rattle.std.proofs.Common.{◌≡◌, ℕ, ◌+◌, true, cond, List, Option, Some, None, ap, ◌∙◌}
use Rattle.std.specs.Option.{option_map}
use Rattle.std.proofs.lemmas.Bool.{eq-eqb}
use Rattle.mon_tx.specs.Decode.{is_text}
use Rattle.mon_kv.specs.Readers.{waiting}

pub waiting-some : (v pn last : ℕ) (there : Option (List ℕ)) (bytes : List ℕ) → v ≡ last + 1 → there ≡ Some bytes → is_text bytes ≡ true → waiting v pn last there ≡ Some (last + 1, pn, bytes)
waiting-some v pn last there bytes e r t =
    ap (λ o. waiting v pn last o) r ∙ ap (λ b. cond b (option_map (λ bytes. (last + 1, pn, bytes)) (cond (is_text bytes) (Some bytes) None)) None) (eq-eqb v (last + 1) e)
    ∙ ap (λ b. option_map (λ bytes. (last + 1, pn, bytes)) (cond b (Some bytes) None)) t
