-- A file that is read has the bytes with which its content is written.
use Rattle.std.proofs.Common.{◌≡◌, ◌≢◌, ℕ, zero, suc, ◌+◌, ◌≤◌, ◌<◌, ◌^◌, Bool, true, false, cond, eqb, ltb, leb, List, [], ◌∷◌, ◌++◌, length, Some, Ok, Err, refl, sym, ap, subst, ◌∙◌, append_assoc, arith, inl, inr}
use Rattle.std.specs.Prelude.{replicate}
use Rattle.std.specs.List.{flat_map, list_all}
use Rattle.std.specs.Str.{bytes_eq}
use Rattle.std.specs.Cmp.Lexicographic.{bytes_decides}
use Rattle.std.proofs.lemmas.Bool.{cases_eq, ltb-true, leb-true}
use Rattle.std.proofs.lemmas.Bool.Decides.{nat_tests}
use Rattle.mon_bytes.specs.Reading.{IsBytes, Reading, number, next_bytes}
use Rattle.mon_bytes.specs.Forms.{u32_bytes}
use Rattle.mon_bytes.proofs.Fields.{chosen_ok, ok_is, Takes, Takes-then, front_takes, number_takes, byte_takes}
use Rattle.mon_bytes.proofs.Forms.{u32_takes}
use Rattle.mon_journal.specs.declared.stop.JournalStop.TheVariants.{NotAStore}
use Rattle.mon_journal.specs.declared.journal.Form.{Form}
use Rattle.mon_journal.specs.declared.journal.Form.TheVariants.{First, Second}
use Rattle.mon_journal.specs.Fields.{◌>>=◌, whole, Owner, first_word, second_word, form_at, owner_at, zeros_at, generation_at, payload_at}
use Rattle.mon_journal.specs.Content.{Header, Held, header_at, records, records_at, content}
use Rattle.mon_journal.specs.Written.{word_of, generation_bytes, header_text, payload_bytes, record_bytes, IsHeader, AreShort, file_bytes}
use Rattle.mon_journal.proofs.Local.{from, bind_ok, whole_ok}
use Rattle.mon_journal.proofs.Parts.{header_by}
use Rattle.mon_journal.proofs.Files.{held_with, held_open, held_found, opened_file}
use Rattle.mon_journal.proofs.RecordParts.{payloads_then, records_none, records_shut, records_open, one_found, no_records}

same_bytes : (xs ys : List ℕ) → bytes_eq xs ys ≡ true → xs ≡ ys
same_bytes xs ys e = (bytes_decides xs ys).0 e

word_found : (c : Reading) (word : List ℕ) (after : Reading) (x : Form × Reading) (p q : Bool) → bytes_eq word second_word ≡ p → bytes_eq word first_word ≡ q → Takes c word after
    → cond p (Ok (Second, after)) (cond q (Ok (First, after)) (Err (NotAStore c.at))) ≡ Ok x → Takes c (word_of x.0) x.1
word_found c word after x true q e1 e2 t e = subst (λ (y : Form × Reading). Takes c (word_of y.0) y.1) (ok_is (Second, after) x e) (subst (λ (w : List ℕ). Takes c w after) (same_bytes word second_word e1) t)
word_found c word after x false true e1 e2 t e = subst (λ (y : Form × Reading). Takes c (word_of y.0) y.1) (ok_is (First, after) x e) (subst (λ (w : List ℕ). Takes c w after) (same_bytes word first_word e2) t)
word_found c word after x false false e1 e2 t e = absurd cc

form_takes : (c : Reading) (x : Form × Reading) → IsBytes c.rest → form_at c ≡ Ok x → Takes c (word_of x.0) x.1
unfolding form_at
form_takes c x fits e =
    let b = bind_ok (whole (next_bytes 8 c)) (λ word. cond (bytes_eq word.0 second_word) (Ok (Second, word.1)) (cond (bytes_eq word.0 first_word) (Ok (First, word.1)) (Err (NotAStore c.at)))) x e in
    let t = front_takes 8 c b.0 fits (whole_ok (next_bytes 8 c) b.0 b.1) in
    word_found c b.0.0 b.0.1 x (bytes_eq b.0.0 second_word) (bytes_eq b.0.0 first_word) refl refl t.0 b.2

pub owner_takes : (c : Reading) (x : Owner × Reading) → IsBytes c.rest → owner_at c ≡ Ok x → Takes c (x.0.rank ∷ x.0.monitors ∷ []) x.1 × (x.0.rank < x.0.monitors) × (x.0.monitors ≤ 15)
unfolding owner_at
owner_takes c x fits e =
    let b = bind_ok (whole (number 1 c))
    (λ rank. whole (number 1 rank.1) >>= λ monitors. cond (ltb rank.0 monitors.0) (cond (leb monitors.0 15) (Ok (record { rank = rank.0; monitors = monitors.0 }, monitors.1)) (Err (NotAStore rank.1.at))) (Err (NotAStore c.at))) x e in
    let d = bind_ok (whole (number 1 b.0.1))
    (λ monitors. cond (ltb b.0.0 monitors.0) (cond (leb monitors.0 15) (Ok (record { rank = b.0.0; monitors = monitors.0 }, monitors.1)) (Err (NotAStore b.0.1.at))) (Err (NotAStore c.at))) x b.2 in
    let owner : Owner = record { rank = b.0.0; monitors = d.0.0 } in
    let g = chosen_ok (ltb b.0.0 d.0.0) (NotAStore c.at) (cond (leb d.0.0 15) (Ok (owner, d.0.1)) (Err (NotAStore b.0.1.at))) x d.2 in
    let h = chosen_ok (leb d.0.0 15) (NotAStore b.0.1.at) (Ok (owner, d.0.1)) x g.1 in
    let t0 = byte_takes c b.0 fits (whole_ok (number 1 c) b.0 b.1) in
    let t1 = byte_takes b.0.1 d.0 t0.0.bytes (whole_ok (number 1 b.0.1) d.0 d.1) in
    subst (λ (y : Owner × Reading). Takes c (y.0.rank ∷ y.0.monitors ∷ []) y.1 × (y.0.rank < y.0.monitors) × (y.0.monitors ≤ 15)) (ok_is (owner, d.0.1) x h.1)
    (Takes-then c b.0.1 d.0.1 (b.0.0 ∷ []) (d.0.0 ∷ []) t0.0 t1.0, ltb-true _ _ g.0, leb-true _ _ h.0)

all_zero : (n : ℕ) (xs : List ℕ) → length xs ≡ n → list_all (λ b. eqb b 0) xs ≡ true → xs ≡ replicate n 0
all_zero zero [] len e = refl
all_zero zero (x ∷ xs) len e = absurd (omega arith)
all_zero (suc n) [] len e = absurd (omega arith)
all_zero (suc n) (zero ∷ xs) len e = ap (λ (l : List ℕ). 0 ∷ l) (all_zero n xs (omega arith) e)
all_zero (suc n) (suc x ∷ xs) len e = let other : eqb (suc x) 0 ≡ false = grind (arith, nat_tests) in absurd (cc (rw other at e))

zeros_takes : (n : ℕ) (c : Reading) (x : List ℕ × Reading) → IsBytes c.rest → zeros_at n c ≡ Ok x → Takes c (replicate n 0) x.1
unfolding zeros_at
zeros_takes n c x fits e =
    let b = bind_ok (whole (next_bytes n c)) (λ zeros. cond (list_all (λ b. eqb b 0) zeros.0) (Ok zeros) (Err (NotAStore c.at))) x e in
    let g = chosen_ok (list_all (λ b. eqb b 0) b.0.0) (NotAStore c.at) (Ok b.0) x b.2 in
    let t = front_takes n c b.0 fits (whole_ok (next_bytes n c) b.0 b.1) in
    subst (λ (y : List ℕ × Reading). Takes c (replicate n 0) y.1) (ok_is b.0 x g.1) (subst (λ (l : List ℕ). Takes c l b.0.1) (all_zero n b.0.0 t.1 g.0) t.0)

generation_takes : (c : Reading) (x : ℕ × Reading) → IsBytes c.rest → generation_at c ≡ Ok x → Takes c (generation_bytes x.0) x.1 × (1 ≤ x.0) × (x.0 ≤ 2 ^ 62)
unfolding generation_at generation_bytes
generation_takes c x fits e =
    let b = bind_ok (whole (number 8 c)) (λ n. cond (leb 1 n.0) (cond (leb n.0 (2 ^ 62)) (Ok n) (Err (NotAStore c.at))) (Err (NotAStore c.at))) x e in
    let g = chosen_ok (leb 1 b.0.0) (NotAStore c.at) (cond (leb b.0.0 (2 ^ 62)) (Ok b.0) (Err (NotAStore c.at))) x b.2 in
    let h = chosen_ok (leb b.0.0 (2 ^ 62)) (NotAStore c.at) (Ok b.0) x g.1 in
    let t = number_takes 8 c b.0 fits (whole_ok (number 8 c) b.0 b.1) in
    subst (λ (y : ℕ × Reading). Takes c (generation_bytes y.0) y.1 × (1 ≤ y.0) × (y.0 ≤ 2 ^ 62)) (ok_is b.0 x h.1) (t.0, leb-true _ _ g.0, leb-true _ _ h.0)

payload_takes : (c : Reading) (x : List ℕ × Reading) → IsBytes c.rest → payload_at c ≡ Ok x → Takes c (payload_bytes x.0) x.1 × (length x.0 < 2 ^ 32)
unfolding payload_at
payload_takes c x fits e =
    let b = bind_ok (whole (number 4 c)) (λ n. whole (next_bytes n.0 n.1)) x e in
    let t0 = u32_takes c b.0 fits (whole_ok (number 4 c) b.0 b.1) in
    let t1 = front_takes b.0.0 b.0.1 x t0.0.bytes (whole_ok (next_bytes b.0.0 b.0.1) x b.2) in
    (subst (λ (n : ℕ). Takes c (u32_bytes n ++ x.0) x.1) (sym t1.1) (Takes-then c b.0.1 x.1 (u32_bytes b.0.0) x.0 t0.0 t1.0), omega (arith, t0.1, t1.1))

pub header_takes : (c : Reading) (x : Header × Reading) → IsBytes c.rest → header_at c ≡ Ok x → Takes c (header_text x.0) x.1 × IsHeader x.0
unfolding header_at
header_takes c x fits e =
    let a = bind_ok (form_at c) (λ form. owner_at form.1 >>= λ owner. zeros_at 6 owner.1 >>= λ zeros. generation_at zeros.1 >>= λ n. Ok (header_by form.0 owner.0 n.0, n.1)) x e in
    let b = bind_ok (owner_at a.0.1) (λ owner. zeros_at 6 owner.1 >>= λ zeros. generation_at zeros.1 >>= λ n. Ok (header_by a.0.0 owner.0 n.0, n.1)) x a.2 in
    let d = bind_ok (zeros_at 6 b.0.1) (λ zeros. generation_at zeros.1 >>= λ n. Ok (header_by a.0.0 b.0.0 n.0, n.1)) x b.2 in
    let f = bind_ok (generation_at d.0.1) (λ n. Ok (header_by a.0.0 b.0.0 n.0, n.1)) x d.2 in
    let t0 = form_takes c a.0 fits a.1 in
    let t1 = owner_takes a.0.1 b.0 t0.bytes b.1 in
    let t2 = zeros_takes 6 b.0.1 d.0 t1.0.bytes d.1 in
    let t3 = generation_takes d.0.1 f.0 t2.bytes f.1 in
    let word = word_of a.0.0 in
    let owner = b.0.0.rank ∷ b.0.0.monitors ∷ [] in
    let some = Takes-then c b.0.1 d.0.1 (word ++ owner) (replicate 6 0) (Takes-then c a.0.1 b.0.1 word owner t0 t1.0) t2 in
    let all = Takes-then c d.0.1 f.0.1 (word ++ (owner ++ replicate 6 0)) (generation_bytes f.0.0) (subst (λ (l : List ℕ). Takes c l d.0.1) (append_assoc word owner (replicate 6 0)) some) t3.0 in
    subst (λ (y : Header × Reading). Takes c (header_text y.0) y.1 × IsHeader y.0) (ok_is (header_by a.0.0 b.0.0 f.0.0, f.0.1) x f.2)
    (all, record { below = t1.1; most_monitors = t1.2; from_one = t3.1; most = t3.2 })

-- records whose gates are open, one gate more, and what follows it
record Encoded (rest : List ℕ) (payloads : List (List ℕ)) : Type 0 where
  gate : ℕ
  behind : List ℕ
  shut : gate ≢ 1
  short : AreShort payloads
  parts : rest ≡ flat_map record_bytes payloads ++ gate ∷ behind

one_encoded : (at : ℕ) (rest : List ℕ) (p : List ℕ × Reading) (payloads : List (List ℕ)) → Takes (from (at + 1) rest) (payload_bytes p.0) p.1 → length p.0 < 2 ^ 32 → Encoded p.1.rest payloads → Encoded (1 ∷ rest) (p.0 ∷ payloads)
one_encoded at rest p payloads t short q = record {
  gate = q.gate;
  behind = q.behind;
  shut = q.shut;
  short = (short, q.short);
  parts = ap (λ (l : List ℕ). 1 ∷ l) (t.parts ∙ ap (λ (l : List ℕ). payload_bytes p.0 ++ l) q.parts ∙ sym (append_assoc (payload_bytes p.0) (flat_map record_bytes payloads) (q.gate ∷ q.behind)));
}

records_encoded : (n at : ℕ) (rest : List ℕ) (x : List (List ℕ) × ℕ) → IsBytes rest → records n (from at rest) ≡ Ok x → Encoded rest x.0
records_encoded zero at rest x fits e = absurd (no_records at rest x e)
records_encoded (suc n) at [] x fits e = absurd (cc (records_none (suc n) at, e))
records_encoded (suc n) at (gate ∷ rest) x fits e = elim (cases_eq gate 1) [
  | inl is_open ↦
      let e1 : records (suc n) (from at (1 ∷ rest)) ≡ Ok x = subst (λ (g : ℕ). records (suc n) (from at (g ∷ rest)) ≡ Ok x) is_open e in
      let b = bind_ok (payload_at (from (at + 1) rest)) (λ p. payloads_then (p.0 ∷ []) (records n p.1)) x (sym (records_open n at rest) ∙ e1) in
      let y = one_found b.0.0 (records n b.0.1) x b.2 in
      let t = payload_takes (from (at + 1) rest) b.0 (λ i. fits (suc i)) b.1 in
      let q = records_encoded n b.0.1.at b.0.1.rest y.0 t.0.bytes y.1 in
      subst (λ (z : List (List ℕ) × ℕ). Encoded (gate ∷ rest) z.0) (sym y.2)
      (subst (λ (g : ℕ). Encoded (g ∷ rest) (b.0.0 ∷ y.0.0)) (sym is_open) (one_encoded at rest b.0 y.0.0 t.0 t.1 q))
  | inr shut ↦
      let is : ([], at) ≡ x = ok_is ([], at) x (sym (records_shut n at gate rest shut) ∙ e) in
      subst (λ (z : List (List ℕ) × ℕ). Encoded (gate ∷ rest) z.0) is (record { gate = gate; behind = rest; shut = shut; short = tt; parts = refl })
]

pub file_found : (file : List ℕ) (held : Held) → IsBytes file → content file ≡ Some (Ok held)
    → (gate : ℕ) × (behind : List ℕ) × (gate ≢ 1) × IsHeader held.header × AreShort held.payloads × (file ≡ file_bytes held.header held.payloads gate behind)
unfolding records_at
file_found file held fits e =
    let o = opened_file file held e in
    let bytes = o.0 in
    let b = bind_ok (header_at (from 1 bytes)) (λ h. held_with h.0 (records_at h.1)) held (sym (held_open bytes) ∙ o.2) in
    let f = held_found b.0.0 (records_at b.0.1) held b.2 in
    let inner : IsBytes bytes = λ i. subst (λ (l : List ℕ). IsBytes l) o.1 fits (suc i) in
    let t = header_takes (from 1 bytes) b.0 inner b.1 in
    let q = records_encoded (length b.0.1.rest) b.0.1.at b.0.1.rest (held.payloads, held.next_gate) t.0.bytes f.0 in
    let parts : file ≡ file_bytes b.0.0 held.payloads q.gate q.behind = o.1 ∙ ap (λ (l : List ℕ). 1 ∷ l) (t.0.parts ∙ ap (λ (l : List ℕ). header_text b.0.0 ++ l) q.parts) in
    (q.gate, q.behind, q.shut, subst (λ (h : Header). IsHeader h) (sym f.1) t.1, q.short, parts ∙ ap (λ (h : Header). file_bytes h held.payloads q.gate q.behind) (sym f.1))
