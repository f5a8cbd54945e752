-- A file after a write at a gate or after it: what is before the gate, the gate, and what follows it.
use Rattle.std.proofs.Common.{◌≡◌, ◌≢◌, ◌⊎◌, ℕ, ◌+◌, min, List, [], ◌∷◌, ◌++◌, length, take, drop, get_or, inl, inr, refl, sym, ap, subst, ◌∙◌, append_assoc, length-append, arith}
use Rattle.std.proofs.lemmas.List.{take_at, drop_at, take-append-drop}
use Rattle.std.proofs.Math.Seq.{get_or-append_seam}
use Rattle.mon_disk.specs.Images.{Torn, TornByte, overwritten}

module _ (before : List ℕ) (gate : ℕ) (behind : List ℕ) where
  abbrev file : List ℕ
  file = before ++ gate ∷ behind

  abbrev at : ℕ
  at = length before

  seam : file ≡ (before ++ gate ∷ []) ++ behind
  seam = sym (append_assoc before (gate ∷ []) behind)

  long : length (before ++ gate ∷ []) ≡ at + 1
  long = length-append before (gate ∷ [])

  front : take (at + 1) file ≡ before ++ gate ∷ []
  front = ap (λ (l : List ℕ). take (at + 1) l) seam ∙ take_at (before ++ gate ∷ []) behind (at + 1) long

  back : drop (at + 1) file ≡ behind
  back = ap (λ (l : List ℕ). drop (at + 1) l) seam ∙ drop_at (before ++ gate ∷ []) behind (at + 1) long

  size : length file ≡ at + 1 + length behind
  size = omega (arith, length-append before (gate ∷ behind))

  -- a write after the gate that a crash cuts short
  pub torn_behind : (bytes c : List ℕ) → Torn (at + 1) bytes file c → c ≡ before ++ gate ∷ drop (at + 1) c
  torn_behind bytes c torn =
      let least : min (at + 1) (length file) ≡ at + 1 = omega (arith, size) in
      let first : take (at + 1) c ≡ before ++ gate ∷ [] = subst (λ (n : ℕ). take n c ≡ take (at + 1) file) least torn.before ∙ front in
      sym (take-append-drop (at + 1) c) ∙ ap (λ (l : List ℕ). l ++ drop (at + 1) c) first ∙ append_assoc before (gate ∷ []) (drop (at + 1) c)

  -- and a write after the gate that is whole
  pub written_behind : (bytes : List ℕ) → overwritten (at + 1) bytes file ≡ before ++ gate ∷ (bytes ++ drop (at + 1 + length bytes) file)
  written_behind bytes =
      ap (λ (l : List ℕ). l ++ bytes ++ drop (at + 1 + length bytes) file) front
      ∙ ap (λ (l : List ℕ). l ++ drop (at + 1 + length bytes) file) (append_assoc before (gate ∷ []) bytes)
      ∙ append_assoc before (gate ∷ bytes) (drop (at + 1 + length bytes) file)

  -- a write of the gate that is whole
  pub written_gate : (byte : ℕ) → overwritten at (byte ∷ []) file ≡ before ++ byte ∷ behind
  written_gate byte =
      ap (λ (l : List ℕ). l ++ (byte ∷ []) ++ drop (at + 1) file) (take_at before (gate ∷ behind) at refl)
      ∙ ap (λ (l : List ℕ). before ++ (byte ∷ []) ++ l) back
      ∙ append_assoc before (byte ∷ []) behind

  -- a crash leaves the old gate, the new one, or one that isn't open
  pub torn_gate : (byte : ℕ) (c : List ℕ) → Torn at (byte ∷ []) file c → (g : ℕ) × (c ≡ before ++ g ∷ behind) × ((g ≡ gate) ⊎ (g ≡ byte) ⊎ (g ≢ 1))
  torn_gate byte c torn = each (torn.narrow byte refl (omega (arith, size)))
    where
      each : TornByte at byte file c → (g : ℕ) × (c ≡ before ++ g ∷ behind) × ((g ≡ gate) ⊎ (g ≡ byte) ⊎ (g ≢ 1))
      each (inl same) = (gate, same, inl refl)
      each (inr (inl new)) = (byte, new ∙ written_gate byte, inr (inl refl))
      each (inr (inr other)) = (other.0, other.2 ∙ written_gate other.0, inr (inr other.1))

  pub gate_is : get_or file at 0 ≡ gate
  gate_is = get_or-append_seam before gate behind 0
