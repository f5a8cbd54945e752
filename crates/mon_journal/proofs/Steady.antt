-- What the readers of a file's header read, a fault included, doesn't depend on the bytes after the header.
use Rattle.std.proofs.Common.{◌≡◌, ℕ, ◌+◌, ◌≤◌, ◌^◌, Bool, true, false, cond, eqb, ltb, leb, List, ◌++◌, length, take, drop, Result, Ok, Err, refl, sym, ap, ◌∙◌, length-append, arith}
use Rattle.std.proofs.lemmas.Bool.{le-ltb}
use Rattle.std.proofs.lemmas.List.{length-drop, take-append-le, drop-append-le, drop-drop}
use Rattle.std.specs.List.{list_all}
use Rattle.std.specs.Str.{bytes_eq}
use Rattle.byteorder.specs.Endian.{little_number}
use Rattle.mon_bytes.specs.Reading.{Reading, moved, number, next_bytes}
use Rattle.mon_bytes.proofs.Fields.{guard_ok, ok_is}
use Rattle.mon_journal.specs.declared.stop.JournalStop.{JournalStop}
use Rattle.mon_journal.specs.declared.stop.JournalStop.TheVariants.{NotAStore}
use Rattle.mon_journal.specs.declared.journal.Form.TheVariants.{First, Second}
use Rattle.mon_journal.specs.Fields.{◌>>=◌, whole, first_word, second_word, form_at, owner_at, zeros_at, generation_at}
use Rattle.mon_journal.specs.Content.{header_at}
use Rattle.mon_journal.proofs.Local.{from, bind_ok, whole_ok}
use Rattle.mon_journal.proofs.Parts.{header_by}

-- the same result, with other bytes after the unread ones
abbrev pub behind : {A : Type 0} → List ℕ → Result (A × Reading) JournalStop → Result (A × Reading) JournalStop
behind others (Ok x) = Ok (x.0, from x.1.at (x.1.rest ++ others))
behind others (Err e) = Err e

-- a reader that takes k bytes, and looks at no others if they are there
pub record Steady {A : Type 0} (k : ℕ) (read : Reading → Result (A × Reading) JournalStop) : Type 0 where
  pub moves : (c : Reading) (x : A × Reading) → read c ≡ Ok x → x.1 ≡ moved k c
  pub same : (c : Reading) (others : List ℕ) → k ≤ length c.rest → read (from c.at (c.rest ++ others)) ≡ behind others (read c)

number_steady : (k : ℕ) → Steady k (λ c. whole (number k c))
number_steady k = record {
  moves = λ c x e.
      let g = guard_ok (ltb (length c.rest) k) (record { at = c.at }) (Ok (little_number k (take k c.rest), moved k c)) x (whole_ok (number k c) x e) in
      sym (ap (λ p. p.1) (ok_is (little_number k (take k c.rest), moved k c) x g.1));
  same = λ c others le.
      let there : ltb (length c.rest) k ≡ false = le-ltb _ _ le in
      let then : ltb (length (c.rest ++ others)) k ≡ false = le-ltb _ _ (omega (arith, le, length-append c.rest others)) in
      rw (there, then, take-append-le k c.rest others le, drop-append-le k c.rest others le) refl;
}

front_steady : (k : ℕ) → Steady k (λ c. whole (next_bytes k c))
front_steady k = record {
  moves = λ c x e.
      let g = guard_ok (ltb (length c.rest) k) (record { at = c.at }) (Ok (take k c.rest, moved k c)) x (whole_ok (next_bytes k c) x e) in
      sym (ap (λ p. p.1) (ok_is (take k c.rest, moved k c) x g.1));
  same = λ c others le.
      let there : ltb (length c.rest) k ≡ false = le-ltb _ _ le in
      let then : ltb (length (c.rest ++ others)) k ≡ false = le-ltb _ _ (omega (arith, le, length-append c.rest others)) in
      rw (there, then, take-append-le k c.rest others le, drop-append-le k c.rest others le) refl;
}

ok_steady : {A : Type 0} (a : A) → Steady 0 (λ c. Ok (a, c))
ok_steady {A = A} a = record {
  moves = λ c x e. sym (ap (λ p. p.1) (ok_is (a, c) x e)) ∙ ap (λ (n : ℕ). from n c.rest) (omega arith);
  same = λ c others le. refl;
}

fault_steady : {A : Type 0} (e : JournalStop) → Steady {A = A} 0 (λ c. Err e)
fault_steady e = record { moves = λ c x is. absurd cc; same = λ c others le. refl }

-- a test of what is known before reading
either_steady : {A : Type 0} (k : ℕ) (b : Bool) (one two : Reading → Result (A × Reading) JournalStop) → Steady k one → Steady k two → Steady k (λ c. cond b (one c) (two c))
either_steady k true one two l m = record { moves = l.moves; same = l.same }
either_steady k false one two l m = record { moves = m.moves; same = m.same }

-- one reader after another; the second may depend on the place where the first began
then_steady : {A B : Type 0} (j k : ℕ) (read : Reading → Result (A × Reading) JournalStop) (f : ℕ → A × Reading → Result (B × Reading) JournalStop)
    → Steady j read → ((at : ℕ) (a : A) → Steady k (λ c. f at (a, c))) → Steady (j + k) (λ c. read c >>= f c.at)
then_steady {A = A} {B = B} j k read f one two = record {
  moves = λ c x e.
      let b = bind_ok (read c) (f c.at) x e in
      let first = one.moves c b.0 b.1 in
      (two c.at b.0.0).moves b.0.1 x b.2
      ∙ ap (λ (r : Reading). moved k r) first
      ∙ ap (λ (n : ℕ). from n (drop k (drop j c.rest))) (omega arith)
      ∙ ap (λ (l : List ℕ). from (c.at + (j + k)) l) (drop-drop k j c.rest);
  same = λ c others le. ap (λ (r : Result (A × Reading) JournalStop). r >>= f c.at) (one.same c others (omega (arith, le))) ∙ each c others le (read c) refl;
}
  where
    each : (c : Reading) (others : List ℕ) → j + k ≤ length c.rest → (r : Result (A × Reading) JournalStop) → read c ≡ r → (behind others r >>= f c.at) ≡ behind others (r >>= f c.at)
    each c others le (Ok x) is =
        let long : k ≤ length x.1.rest = omega (arith, le, ap (λ (r : Reading). length r.rest) (one.moves c x is), length-drop j c.rest) in
        (two c.at x.0).same x.1 others long
    each c others le (Err e) is = refl

form_steady : Steady 8 form_at
unfolding form_at
form_steady = then_steady 8 0 (λ c. whole (next_bytes 8 c)) (λ at word. cond (bytes_eq word.0 second_word) (Ok (Second, word.1)) (cond (bytes_eq word.0 first_word) (Ok (First, word.1)) (Err (NotAStore at))))
    (front_steady 8)
    (λ at word. either_steady 0 (bytes_eq word second_word) (λ c. Ok (Second, c)) (λ c. cond (bytes_eq word first_word) (Ok (First, c)) (Err (NotAStore at)))
    (ok_steady Second)
    (either_steady 0 (bytes_eq word first_word) (λ c. Ok (First, c)) (λ c. Err (NotAStore at)) (ok_steady First) (fault_steady (NotAStore at))))

owner_steady : Steady 2 owner_at
unfolding owner_at
owner_steady = then_steady 1 1 (λ c. whole (number 1 c))
    (λ at rank. whole (number 1 rank.1) >>= λ monitors. cond (ltb rank.0 monitors.0) (cond (leb monitors.0 15) (Ok (record { rank = rank.0; monitors = monitors.0 }, monitors.1)) (Err (NotAStore rank.1.at))) (Err (NotAStore at)))
    (number_steady 1)
    (λ first rank. then_steady 1 0 (λ c. whole (number 1 c))
    (λ at monitors. cond (ltb rank monitors.0) (cond (leb monitors.0 15) (Ok (record { rank = rank; monitors = monitors.0 }, monitors.1)) (Err (NotAStore at))) (Err (NotAStore first)))
    (number_steady 1)
    (λ at monitors. either_steady 0 (ltb rank monitors) (λ c. cond (leb monitors 15) (Ok (record { rank = rank; monitors = monitors }, c)) (Err (NotAStore at))) (λ c. Err (NotAStore first))
    (either_steady 0 (leb monitors 15) (λ c. Ok (record { rank = rank; monitors = monitors }, c)) (λ c. Err (NotAStore at)) (ok_steady (record { rank = rank; monitors = monitors })) (fault_steady (NotAStore at)))
    (fault_steady (NotAStore first))))

zeros_steady : (n : ℕ) → Steady (n + 0) (zeros_at n)
unfolding zeros_at
zeros_steady n = then_steady n 0 (λ c. whole (next_bytes n c)) (λ at zeros. cond (list_all (λ b. eqb b 0) zeros.0) (Ok zeros) (Err (NotAStore at)))
    (front_steady n)
    (λ at zeros. either_steady 0 (list_all (λ b. eqb b 0) zeros) (λ c. Ok (zeros, c)) (λ c. Err (NotAStore at)) (ok_steady zeros) (fault_steady (NotAStore at)))

generation_steady : Steady 8 generation_at
unfolding generation_at
generation_steady = then_steady 8 0 (λ c. whole (number 8 c)) (λ at n. cond (leb 1 n.0) (cond (leb n.0 (2 ^ 62)) (Ok n) (Err (NotAStore at))) (Err (NotAStore at)))
    (number_steady 8)
    (λ at n. either_steady 0 (leb 1 n) (λ c. cond (leb n (2 ^ 62)) (Ok (n, c)) (Err (NotAStore at))) (λ c. Err (NotAStore at))
    (either_steady 0 (leb n (2 ^ 62)) (λ c. Ok (n, c)) (λ c. Err (NotAStore at)) (ok_steady n) (fault_steady (NotAStore at)))
    (fault_steady (NotAStore at)))

pub header_steady : Steady 24 header_at
unfolding header_at
header_steady = then_steady 8 16 form_at (λ at form. owner_at form.1 >>= λ owner. zeros_at 6 owner.1 >>= λ zeros. generation_at zeros.1 >>= λ n. Ok (header_by form.0 owner.0 n.0, n.1))
    form_steady
    (λ at form. then_steady 2 14 owner_at (λ at owner. zeros_at 6 owner.1 >>= λ zeros. generation_at zeros.1 >>= λ n. Ok (header_by form owner.0 n.0, n.1))
    owner_steady
    (λ at owner. then_steady 6 8 (zeros_at 6) (λ at zeros. generation_at zeros.1 >>= λ n. Ok (header_by form owner n.0, n.1))
    (zeros_steady 6)
    (λ at zeros. then_steady 8 0 generation_at (λ at n. Ok (header_by form owner n.0, n.1))
    generation_steady
    (λ at n. ok_steady (header_by form owner n)))))
