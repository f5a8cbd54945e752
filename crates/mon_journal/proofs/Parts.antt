-- The readers of a store's file look at nothing after what they take.
use Rattle.std.proofs.Common.{ℕ, ◌^◌, cond, eqb, ltb, leb, Ok, Err}
use Rattle.std.specs.List.{list_all}
use Rattle.std.specs.Str.{bytes_eq}
use Rattle.mon_bytes.specs.Reading.{number, next_bytes}
use Rattle.mon_journal.specs.declared.stop.JournalStop.TheVariants.{NotAStore}
use Rattle.mon_journal.specs.declared.journal.Form.{Form}
use Rattle.mon_journal.specs.declared.journal.Form.TheVariants.{First, Second}
use Rattle.mon_journal.specs.Fields.{◌>>=◌, whole, Owner, first_word, second_word, form_at, owner_at, zeros_at, generation_at, payload_at}
use Rattle.mon_journal.specs.Content.{Header, header_at}
use Rattle.mon_journal.proofs.Local.{IsLocal, number_local, front_local, ok_local, fault_local, either_local, then_local}

form_local : IsLocal form_at
unfolding form_at
form_local = then_local (λ c. whole (next_bytes 8 c)) (λ at word. cond (bytes_eq word.0 second_word) (Ok (Second, word.1)) (cond (bytes_eq word.0 first_word) (Ok (First, word.1)) (Err (NotAStore at))))
    (front_local 8)
    (λ at word. either_local (bytes_eq word second_word) (λ c. Ok (Second, c)) (λ c. cond (bytes_eq word first_word) (Ok (First, c)) (Err (NotAStore at)))
    (ok_local Second)
    (either_local (bytes_eq word first_word) (λ c. Ok (First, c)) (λ c. Err (NotAStore at)) (ok_local First) (fault_local (λ c. NotAStore at))))

owner_local : IsLocal owner_at
unfolding owner_at
owner_local = then_local (λ c. whole (number 1 c))
    (λ at rank. whole (number 1 rank.1) >>= λ monitors. cond (ltb rank.0 monitors.0) (cond (leb monitors.0 15) (Ok (record { rank = rank.0; monitors = monitors.0 }, monitors.1)) (Err (NotAStore rank.1.at))) (Err (NotAStore at)))
    (number_local 1)
    (λ first rank. then_local (λ c. whole (number 1 c))
    (λ at monitors. cond (ltb rank monitors.0) (cond (leb monitors.0 15) (Ok (record { rank = rank; monitors = monitors.0 }, monitors.1)) (Err (NotAStore at))) (Err (NotAStore first)))
    (number_local 1)
    (λ at monitors. either_local (ltb rank monitors) (λ c. cond (leb monitors 15) (Ok (record { rank = rank; monitors = monitors }, c)) (Err (NotAStore at))) (λ c. Err (NotAStore first))
    (either_local (leb monitors 15) (λ c. Ok (record { rank = rank; monitors = monitors }, c)) (λ c. Err (NotAStore at)) (ok_local (record { rank = rank; monitors = monitors })) (fault_local (λ c. NotAStore at)))
    (fault_local (λ c. NotAStore first))))

zeros_local : (n : ℕ) → IsLocal (zeros_at n)
unfolding zeros_at
zeros_local n = then_local (λ c. whole (next_bytes n c)) (λ at zeros. cond (list_all (λ b. eqb b 0) zeros.0) (Ok zeros) (Err (NotAStore at)))
    (front_local n)
    (λ at zeros. either_local (list_all (λ b. eqb b 0) zeros) (λ c. Ok (zeros, c)) (λ c. Err (NotAStore at)) (ok_local zeros) (fault_local (λ c. NotAStore at)))

generation_local : IsLocal generation_at
unfolding generation_at
generation_local = then_local (λ c. whole (number 8 c)) (λ at n. cond (leb 1 n.0) (cond (leb n.0 (2 ^ 62)) (Ok n) (Err (NotAStore at))) (Err (NotAStore at)))
    (number_local 8)
    (λ at n. either_local (leb 1 n) (λ c. cond (leb n (2 ^ 62)) (Ok (n, c)) (Err (NotAStore at))) (λ c. Err (NotAStore at))
    (either_local (leb n (2 ^ 62)) (λ c. Ok (n, c)) (λ c. Err (NotAStore at)) (ok_local n) (fault_local (λ c. NotAStore at)))
    (fault_local (λ c. NotAStore at)))

pub payload_local : IsLocal payload_at
unfolding payload_at
payload_local = then_local (λ c. whole (number 4 c)) (λ at n. whole (next_bytes n.0 n.1)) (number_local 4) (λ at n. front_local n)

abbrev pub header_by : Form → Owner → ℕ → Header
header_by form owner generation = record { form = form; owner = owner; generation = generation }

pub header_local : IsLocal header_at
unfolding header_at
header_local = then_local form_at (λ at form. owner_at form.1 >>= λ owner. zeros_at 6 owner.1 >>= λ zeros. generation_at zeros.1 >>= λ n. Ok (header_by form.0 owner.0 n.0, n.1))
    form_local
    (λ at form. then_local owner_at (λ at owner. zeros_at 6 owner.1 >>= λ zeros. generation_at zeros.1 >>= λ n. Ok (header_by form owner.0 n.0, n.1))
    owner_local
    (λ at owner. then_local (zeros_at 6) (λ at zeros. generation_at zeros.1 >>= λ n. Ok (header_by form owner n.0, n.1))
    (zeros_local 6)
    (λ at zeros. then_local generation_at (λ at n. Ok (header_by form owner n.0, n.1))
    generation_local
    (λ at n. ok_local (header_by form owner n)))))
