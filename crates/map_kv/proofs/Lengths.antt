-- How long texts are.
use Rattle.std.proofs.Common.{◌≡◌, ℕ, ◌+◌, List, [], ◌∷◌, ◌++◌, length, refl, arith}
use Rattle.std.proofs.lemmas.List.{length-append}
use Rattle.std.specs.List.{flat_map}
use Rattle.std.specs.FinMap.{entries, len}
use Rattle.mon_bytes.specs.Forms.{u32_bytes}
use Rattle.mon_bytes.proofs.Forms.{length-u32_bytes}
use Rattle.map_kv.specs.Map.{Kv}
use Rattle.map_kv.specs.Text.{entry_text, map_text}
use Rattle.map_kv.specs.Kept.{size_of}

length-entry_text : (k v count : List ℕ) → length count ≡ 4 → length ((length k ∷ k) ++ (count ++ v)) ≡ length k + length v + 5
length-entry_text k v count four = omega (arith, four, length-append (length k ∷ k) (count ++ v), length-append count v)

pub length-entries : (es : List (List ℕ × List ℕ)) → length (flat_map entry_text es) ≡ size_of es
length-entries [] = refl
length-entries (e ∷ es) =
    omega (arith, length-append (entry_text e) (flat_map entry_text es), length-entry_text e.0 e.1 (u32_bytes (length e.1)) (length-u32_bytes (length e.1)), length-entries es)

pub length-map_text : (m : Kv) → length (map_text m) ≡ 4 + size_of (entries m)
length-map_text m = omega (arith, length-append (u32_bytes (len m)) (flat_map entry_text (entries m)), length-u32_bytes (len m), length-entries (entries m))
