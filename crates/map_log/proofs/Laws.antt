-- Decoding accepts exactly the encodings.
use Rattle.std.proofs.Common.{◌≡◌, ℕ, zero, suc, ◌≤◌, cond, ltb, false, List, [], ◌∷◌, ◌++◌, length, Result, Ok, Err, refl, sym, subst, ◌∙◌, append_assoc}
use Rattle.std.specs.Prelude.{IfOk}
use Rattle.std.specs.List.{flat_map}
use Rattle.std.proofs.lemmas.Bool.{ltb-false, le-ltb}
use Rattle.mon_bytes.specs.declared.command.MapRefused.{MapRefused}
use Rattle.mon_bytes.specs.declared.command.MapRefused.TheVariants as refused
use Rattle.mon_bytes.specs.Reading.{IsBytes, Reading, number}
use Rattle.mon_bytes.specs.Format.{IsLawful, items}
use Rattle.mon_bytes.specs.Forms.{◌>>=◌, fitted, u32_bytes, text_bytes, text_at, ended, whole, Gives}
use Rattle.mon_bytes.proofs.Fields.{guard_ok, ok_is, Takes, Takes-then, byte_takes, Found, byte_found}
use Rattle.mon_bytes.proofs.Formats.{bind_bind, items_takes, items_found}
use Rattle.mon_bytes.proofs.Forms.{bind_ok, fitted_ok, u32_takes, u32_found, counted, text_takes, text_found, is_found}
use Rattle.map_log.specs.declared.inc.LogInc.{LogInc}
use Rattle.map_log.specs.Text.{inc_text, map_text, IncFits, MapFits}
use Rattle.map_log.specs.Decode.{rank_at, inc_at, inc_of, entries_at, map_of, inc_format, map_format}

rank_takes : (c : Reading) (x : ℕ × Reading) → IsBytes c.rest → rank_at c ≡ Ok x → Takes c (x.0 ∷ []) x.1 × (x.0 ≤ 14)
unfolding rank_at
rank_takes c x fits e =
    let a = bind_ok (fitted (number 1 c)) (λ n. cond (ltb 14 n.0) (Err (refused.Form c.at)) (Ok n)) x e in
    let g = guard_ok (ltb 14 a.0.0) (refused.Form c.at) (Ok a.0) x a.2 in
    let low : a.0.0 ≤ 14 = ltb-false _ _ g.0 in
    subst (λ (p : ℕ × Reading). Takes c (p.0 ∷ []) p.1 × (p.0 ≤ 14)) (ok_is a.0 x g.1) ((byte_takes c a.0 fits (fitted_ok (number 1 c) a.0 a.1)).0, low)

inc_takes : (c : Reading) (x : LogInc × Reading) → IsBytes c.rest → inc_at c ≡ Ok x → Takes c (inc_text x.0) x.1 × IncFits x.0
unfolding inc_at
inc_takes c x fits e =
    let a = bind_ok (rank_at c) (λ rank. text_at rank.1 >>= λ text. Ok (record { rank = rank.0; text = text.0 }, text.1)) x e in
    let b = bind_ok (text_at a.0.1) (λ text. Ok (record { rank = a.0.0; text = text.0 }, text.1)) x a.2 in
    let t0 = rank_takes c a.0 fits a.1 in
    let t1 = text_takes a.0.1 b.0 t0.0.bytes b.1 in
    subst (λ (p : LogInc × Reading). Takes c (inc_text p.0) p.1 × IncFits p.0) (ok_is (record { rank = a.0.0; text = b.0.0 }, b.0.1) x b.2)
    (Takes-then c a.0.1 b.0.1 (a.0.0 ∷ []) (text_bytes b.0.0) t0.0 t1.0, (t0.1, t1.1, t1.2))

inc_parts : (rank : ℕ) (text count rest : List ℕ) → (rank ∷ (count ++ text)) ++ rest ≡ rank ∷ (count ++ (text ++ rest))
inc_parts rank text count rest = simp append_assoc

inc_found : (c : Reading) (inc : LogInc) (rest : List ℕ) → c.rest ≡ inc_text inc ++ rest → IncFits inc → Found (inc_at c) inc rest
unfolding inc_at rank_at
inc_found c inc rest e fits =
    let count = u32_bytes (length inc.text) in
    let low : ltb 14 inc.rank ≡ false = le-ltb _ _ fits.0 in
    let a = byte_found c inc.rank (count ++ (inc.text ++ rest)) (e ∙ inc_parts inc.rank inc.text count rest) in
    let b = text_found a.0 inc.text rest a.1 fits.1 fits.2 in
    (b.0, b.1, rw (a.2, low, b.2) refl)

pub inc_is_lawful : IsLawful inc_format
inc_is_lawful = record { takes = inc_takes; found = inc_found }

pub inc_is_whole : (bytes : List ℕ) → inc_of bytes ≡ whole inc_format bytes
unfolding inc_of whole
inc_is_whole bytes = refl

-- ---- the entries of a map

then_same : {A B : Type 0} (r : Result A MapRefused) (f g : A → Result B MapRefused) → ((x : A) → f x ≡ g x) → (r >>= f) ≡ (r >>= g)
then_same (Ok x) f g same = same x
then_same (Err e) f g same = refl

pub entries_are_items : (n : ℕ) (c : Reading) → entries_at n c ≡ items inc_at n c
unfolding entries_at items
entries_are_items zero c = refl
entries_are_items (suc n) c =
    then_same (inc_at c) (λ first. entries_at n first.1 >>= λ others. Ok (first.0 ∷ others.0, others.1)) (λ first. items inc_at n first.1 >>= λ others. Ok (first.0 ∷ others.0, others.1))
    (λ first. rw (entries_are_items n first.1) refl)

pub map_is_lawful : IsLawful map_format
map_is_lawful = record {
  takes = λ c x fits e.
      let a = bind_ok (fitted (number 4 c)) (λ count. entries_at count.0 count.1) x e in
      let t0 = u32_takes c a.0 fits (fitted_ok (number 4 c) a.0 a.1) in
      let t1 = items_takes inc_format inc_is_lawful a.0.0 a.0.1 x t0.0.bytes (sym (entries_are_items a.0.0 a.0.1) ∙ a.2) in
      let all = counted c a.0 x.1 (length x.0) (flat_map inc_text x.0) t0 t1.count t1.all in
      (all.0, record { each = t1.each; count = all.1 });
  found = λ c es rest e fits.
      let a = u32_found c (length es) (flat_map inc_text es ++ rest) (e ∙ append_assoc (u32_bytes (length es)) (flat_map inc_text es) rest) fits.count in
      let b = items_found inc_format inc_is_lawful es a.0 rest a.1 fits.each in
      (b.0, b.1, rw a.2 (entries_are_items (length es) a.0 ∙ b.2));
}

pub map_is_whole : (bytes : List ℕ) → map_of bytes ≡ whole map_format bytes
unfolding map_of whole
map_is_whole bytes = sym (bind_bind (fitted (number 4 (record { at = 0; rest = bytes }))) (λ count. entries_at count.0 count.1) (λ x. ended x))

pub map_is_found : (bytes : List ℕ) (r : Result (List LogInc) MapRefused) → IsBytes bytes → Gives (λ x. x) r (map_of bytes) → IfOk r (λ map. MapFits map × (bytes ≡ map_text map))
map_is_found bytes r fits h = is_found map_format map_is_lawful bytes r fits (subst (Gives (λ x. x) r) (map_is_whole bytes) h)
