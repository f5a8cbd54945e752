-- Decoding accepts the encodings.
use Rattle.std.proofs.Common.{◌≡◌, ℕ, ◌^◌, ◌≤◌, ◌<◌, Bool, true, false, not, ◌&&◌, ◌||◌, cond, ltb, eqb, List, [], ◌∷◌, ◌++◌, length, take, drop, Result, Ok, Err, IsTrue, refl, sym, ap, subst, ◌∙◌, append_assoc, arith}
use Rattle.std.specs.List.{list_any, flat_map, AllByRecursion}
use Rattle.std.proofs.lemmas.Bool.{eqb-true, le-ltb, lt-ltb}
use Rattle.std.proofs.lemmas.List.{take_at, drop_at, length-append, append-nil, nil_from_length}
use Rattle.byteorder.specs.Endian.{little_bytes, little_number}
use Rattle.byteorder.specs.Numbers.{little_number-reads_back, length-bytes_low_first}
use Rattle.mon_bytes.specs.Reading.{Reading, moved, number, next_bytes}
use Rattle.mon_bytes.specs.Texts.{is_word}
use Rattle.mon_tx.specs.declared.op.Op.{Op}
use Rattle.mon_tx.specs.declared.op.Op.TheVariants.{Put, Erase, ErasePrefix, EraseRange}
use Rattle.mon_tx.specs.declared.refusal.TxRefused.{TxRefused}
use Rattle.mon_tx.specs.declared.refusal.TxRefused.TheVariants as refused
use Rattle.mon_tx.specs.Text.{word, op_text, is_range, format, text, most}
use Rattle.mon_tx.specs.Fields.{cut, graphic_prefix_len, word_at, value_at, version_at, format_at}
use Rattle.mon_tx.specs.Decode.{put_at, erase_at, erase_prefix_at, erase_range_at, op_at, ops_at, ops_of, transaction_of, OpFits, HasText}
use Rattle.mon_tx.proofs.Lengths.{count_le}
use Rattle.mon_tx.proofs.Words.{word_parts}

-- a reader reads this, and leaves the rest
abbrev Again : {A : Type 0} → Result (A × Reading) TxRefused → A → List ℕ → Type 0
Again read x rest = (after : Reading) × (after.rest ≡ rest) × (read ≡ Ok (x, after))

number_again : (k : ℕ) (c : Reading) (bytes rest : List ℕ) (n : ℕ) → c.rest ≡ bytes ++ rest → length bytes ≡ k → little_number k bytes ≡ n → Again (cut (number k c)) n rest
number_again k c bytes rest n e len is =
    let first : take k c.rest ≡ bytes = ap (take k) e ∙ take_at bytes rest k len in
    let others : drop k c.rest ≡ rest = ap (drop k) e ∙ drop_at bytes rest k len in
    let long : ltb (length c.rest) k ≡ false = le-ltb _ _ (omega (arith, ap length e, length-append bytes rest)) in
    (moved k c, others, rw (long, first, is) refl)

front_again : (k : ℕ) (c : Reading) (bytes rest : List ℕ) → c.rest ≡ bytes ++ rest → length bytes ≡ k → Again (cut (next_bytes k c)) bytes rest
front_again k c bytes rest e len =
    let first : take k c.rest ≡ bytes = ap (take k) e ∙ take_at bytes rest k len in
    let others : drop k c.rest ≡ rest = ap (drop k) e ∙ drop_at bytes rest k len in
    let long : ltb (length c.rest) k ≡ false = le-ltb _ _ (omega (arith, ap length e, length-append bytes rest)) in
    (moved k c, others, rw (long, first) refl)

byte_again : (c : Reading) (n : ℕ) (rest : List ℕ) → c.rest ≡ n ∷ rest → Again (cut (number 1 c)) n rest
byte_again c n rest e = number_again 1 c (n ∷ []) rest n e refl (omega arith)

-- the bytes of a number in this many bytes
bytes_again : (k : ℕ) (c : Reading) (n : ℕ) (rest : List ℕ) → c.rest ≡ little_bytes k n ++ rest → n < 256 ^ k → Again (cut (number k c)) n rest
bytes_again k c n rest e lt =
    number_again k c (little_bytes k n) rest n e (length-bytes_low_first 0 k n) (ap (little_number k) (sym (append-nil (little_bytes k n))) ∙ little_number-reads_back k n [] lt)

four_again : (c : Reading) (n : ℕ) (rest : List ℕ) → c.rest ≡ little_bytes 4 n ++ rest → n < 2 ^ 32 → Again (cut (number 4 c)) n rest
four_again c n rest e lt = bytes_again 4 c n rest e lt

word_again : (limit : ℕ) (c : Reading) (bytes rest : List ℕ) → c.rest ≡ word bytes ++ rest → IsTrue (is_word limit bytes) → Again (word_at limit c) bytes rest
unfolding word_at
word_again limit c bytes rest e form =
    let parts = word_parts limit bytes form in
    let a = byte_again c (length bytes) (bytes ++ rest) e in
    let b = front_again (length bytes) a.0 bytes rest a.1 refl in
    let low : ltb (length bytes) 1 ≡ false = le-ltb _ _ parts.low in
    let high : ltb limit (length bytes) ≡ false = le-ltb _ _ parts.high in
    let good : ltb (graphic_prefix_len bytes) (length bytes) ≡ false = le-ltb _ _ parts.good in
    (b.0, b.1, rw (a.2, low, high, b.2, good) refl)

value_again : (c : Reading) (v rest : List ℕ) → c.rest ≡ little_bytes 4 (length v) ++ (v ++ rest) → length v < 2 ^ 32 → Again (value_at c) v rest
unfolding value_at
value_again c v rest e lt =
    let a = four_again c (length v) (v ++ rest) e lt in
    let b = front_again (length v) a.0 v rest a.1 refl in
    (b.0, b.1, rw (a.2, b.2) refl)

version_again : (c : Reading) (n : ℕ) (bytes rest : List ℕ) → c.rest ≡ bytes ++ rest → bytes ≡ little_bytes 8 n → n ≤ 2 ^ 62 → Again (version_at c) n rest
unfolding version_at
version_again c n bytes rest e is le =
    let a = bytes_again 8 c n rest (e ∙ ap (λ (bs : List ℕ). bs ++ rest) is) (omega arith) in
    let low : ltb (2 ^ 62) n ≡ false = le-ltb _ _ le in
    (a.0, a.1, rw (a.2, low) refl)

put_parts : (p k v lb rest : List ℕ) → (1 ∷ word p ++ word k ++ lb ++ v) ++ rest ≡ 1 ∷ (word p ++ (word k ++ (lb ++ (v ++ rest))))
put_parts p k v lb rest = simp append_assoc

erase_parts : (p k rest : List ℕ) → (2 ∷ word p ++ word k) ++ rest ≡ 2 ∷ (word p ++ (word k ++ rest))
erase_parts p k rest = simp append_assoc

range_parts : (p f t rest : List ℕ) → (4 ∷ word p ++ f ++ t) ++ rest ≡ 4 ∷ (word p ++ (f ++ (t ++ rest)))
range_parts p f t rest = simp append_assoc

range_again : (p : List ℕ) (from to : ℕ) (f t : List ℕ) → f ≡ little_bytes 8 from → t ≡ little_bytes 8 to → (c : Reading) (rest : List ℕ) → c.rest ≡ (4 ∷ word p ++ f ++ t) ++ rest
    → OpFits (EraseRange p from to) → Again (op_at 2 c) (EraseRange p from to) rest
unfolding op_at erase_range_at
range_again p from to f t is_from is_to c rest e fits =
    let a = byte_again c 4 (word p ++ (f ++ (t ++ rest))) (e ∙ range_parts p f t rest) in
    let b = word_again 32 a.0 p (f ++ (t ++ rest)) a.1 fits.0 in
    let up = fits.1 in
    let top = fits.2 in
    let d = version_again b.0 from f (t ++ rest) b.1 is_from (omega arith) in
    let w = version_again d.0 to t rest d.1 is_to top in
    let upward : ltb from to ≡ true = lt-ltb _ _ up in
    (w.0, w.1, rw (a.2, b.2, d.2, w.2, upward) refl)

op_again : (op : Op) (kinds : ℕ) (c : Reading) (rest : List ℕ) → c.rest ≡ op_text op ++ rest → OpFits op → (is_range op ≡ true → kinds ≡ 2) → Again (op_at kinds c) op rest
unfolding op_at put_at erase_at erase_prefix_at
op_again (Put p k v) kinds c rest e fits second =
    let lb = little_bytes 4 (length v) in
    let a = byte_again c 1 (word p ++ (word k ++ (lb ++ (v ++ rest)))) (e ∙ put_parts p k v lb rest) in
    let b = word_again 32 a.0 p (word k ++ (lb ++ (v ++ rest))) a.1 fits.0 in
    let d = word_again 255 b.0 k (lb ++ (v ++ rest)) b.1 fits.1 in
    let w = value_again d.0 v rest d.1 fits.2 in
    (w.0, w.1, rw (a.2, b.2, d.2, w.2) refl)
op_again (Erase p k) kinds c rest e fits second =
    let a = byte_again c 2 (word p ++ (word k ++ rest)) (e ∙ erase_parts p k rest) in
    let b = word_again 32 a.0 p (word k ++ rest) a.1 fits.0 in
    let d = word_again 255 b.0 k rest b.1 fits.1 in
    (d.0, d.1, rw (a.2, b.2, d.2) refl)
op_again (ErasePrefix p) kinds c rest e fits second =
    let a = byte_again c 3 (word p ++ rest) e in
    let b = word_again 32 a.0 p rest a.1 fits in
    (b.0, b.1, rw (a.2, b.2) refl)
op_again (EraseRange p from to) kinds c rest e fits second =
    subst (λ (f : ℕ). Again (op_at f c) (EraseRange p from to) rest) (sym (second refl))
    (range_again p from to (little_bytes 8 from) (little_bytes 8 to) refl refl c rest e fits)

either_first : (a b : Bool) → a ≡ true → (a || b) ≡ true
either_first true b e = refl
either_first false b e = absurd cc

either_second : (a b : Bool) → b ≡ true → (a || b) ≡ true
either_second true b e = refl
either_second false b e = e

ops_again : (ops : List Op) (kinds : ℕ) (c : Reading) (rest : List ℕ) → c.rest ≡ flat_map op_text ops ++ rest → AllByRecursion OpFits ops → (list_any is_range ops ≡ true → kinds ≡ 2)
    → Again (ops_at kinds (length ops) c) ops rest
unfolding ops_at
ops_again [] kinds c rest e each second = (c, e, refl)
ops_again (op ∷ ops) kinds c rest e each second =
    let one = λ (h : is_range op ≡ true). second (either_first (is_range op) (list_any is_range ops) h) in
    let others = λ (h : list_any is_range ops ≡ true). second (either_second (is_range op) (list_any is_range ops) h) in
    let a = op_again op kinds c (flat_map op_text ops ++ rest) (e ∙ append_assoc (op_text op) (flat_map op_text ops) rest) each.0 one in
    let b = ops_again ops kinds a.0 rest a.1 each.1 others in
    (b.0, b.1, rw (a.2, b.2) refl)

-- the byte of the format that the ops call for
format_again : (range : Bool) (c : Reading) (rest : List ℕ) → c.rest ≡ cond range 2 1 ∷ rest → Again (format_at c) (cond range 2 1) rest
unfolding format_at
format_again true c rest e = let a = byte_again c 2 rest e in (a.0, a.1, rw a.2 refl)
format_again false c rest e = let a = byte_again c 1 rest e in (a.0, a.1, rw a.2 refl)

called_for : (range : Bool) → (eqb (cond range 2 1) 2 && not range) ≡ false
called_for true = refl
called_for false = refl

text_parts : (f : ℕ) (count flat rest : List ℕ) → (f ∷ count ++ flat) ++ rest ≡ f ∷ (count ++ (flat ++ rest))
text_parts f count flat rest = simp append_assoc

-- a text with more after it is read up to its end
text_again : (ops : List Op) (c : Reading) (rest : List ℕ) → c.rest ≡ text ops ++ rest → HasText ops → (at : ℕ) × (ops_of c ≡ cond (not (eqb (length rest) 0)) (Err (refused.Rest at)) (Ok ops))
unfolding ops_of
text_again ops c rest e h =
    let n = length ops in
    let flat = flat_map op_text ops in
    let few : n < 2 ^ 32 = omega (arith, h.short, count_le ops) in
    let a = format_again (list_any is_range ops) c (little_bytes 4 n ++ (flat ++ rest)) (e ∙ text_parts (format ops) (little_bytes 4 n) flat rest) in
    let b = four_again a.0 n (flat ++ rest) a.1 few in
    let d = ops_again ops (format ops) b.0 rest b.1 h.each (λ range. ap (λ (r : Bool). cond r 2 1) range) in
    (d.0.at, rw (a.2, b.2, d.2, d.1, called_for (list_any is_range ops)) refl)

pub transaction_again : (ops : List Op) → HasText ops → transaction_of (text ops) ≡ Ok ops
unfolding transaction_of
transaction_again ops h =
    let c : Reading = record { at = 0; rest = text ops } in
    let short : ltb most (length (text ops)) ≡ false = le-ltb _ _ h.short in
    rw short (text_again ops c [] (sym (append-nil (text ops))) h).1

pub distinct_encodings : (a b : List Op) → HasText a → HasText b → text a ≡ text b → a ≡ b
distinct_encodings a b has_a has_b e =
    let same : ◌≡◌ {A = Result (List Op) TxRefused} (Ok a) (Ok b) = sym (transaction_again a has_a) ∙ ap transaction_of e ∙ transaction_again b has_b in cc

accepted : (test : Bool) (e : TxRefused) (a b : List Op) → ◌≡◌ {A = Result (List Op) TxRefused} (cond (not test) (Err e) (Ok a)) (Ok b) → test ≡ true
accepted true e a b h = refl
accepted false e a b h = absurd cc

pub no_prefix : (a b : List Op) (more : List ℕ) → HasText a → HasText b → text b ≡ text a ++ more → more ≡ []
no_prefix a b more has_a has_b e =
    let c : Reading = record { at = 0; rest = text b } in
    let first = text_again a c more e has_a in
    let second = (text_again b c [] (sym (append-nil (text b))) has_b).1 in
    nil_from_length more (eqb-true _ _ (accepted (eqb (length more) 0) (refused.Rest first.0) a b (sym first.1 ∙ second)))
