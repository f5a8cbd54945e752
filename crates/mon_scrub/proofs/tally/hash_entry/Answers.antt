use Rattle.std.proofs.Common.{◌≡◌, ℕ, [], ◌∷◌, ◌++◌, List, length, ap, subst, ◌∙◌, append_assoc}
use Rattle.mon_bytes.specs.Forms.{u32_bytes}
use Rattle.byteorder.specs.Endian.{little_bytes}
use Rattle.sha2.specs.Hashers.{Holds256}
use Rattle.mon_scrub.proofs.tally.hash_entry.Goals as goal

joined : (m p k l v : List ℕ) (a b : ℕ) → (((((m ++ a ∷ []) ++ p) ++ b ∷ []) ++ k) ++ l) ++ v ≡ m ++ ((a ∷ p) ++ (b ∷ k) ++ (l ++ v))
joined m p k l v a b = simp append_assoc

as_length : (n : ℕ) → little_bytes 4 n ≡ u32_bytes n
unfolding u32_bytes
as_length n = λ i. little_bytes 4 n

pub returns : goal.returns
returns c m h =
    let e = c.args.entry.now in
    let len = c.write_u32.ensures ∙ as_length (length e.value.now) in
    subst (Holds256 c.update-6.new.self)
    (ap (λ l. (((((m ++ length e.prefix.now ∷ []) ++ e.prefix.now) ++ length e.key.now ∷ []) ++ e.key.now) ++ l) ++ e.value.now) len
    ∙ joined m e.prefix.now e.key.now (u32_bytes (length e.value.now)) e.value.now (length e.prefix.now) (length e.key.now))
    (c.update-6.ensures _ (c.update-5.ensures _ (c.update-4.ensures _ (c.update-3.ensures _ (c.update-2.ensures _ (c.update.ensures m h))))))
