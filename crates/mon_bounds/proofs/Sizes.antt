-- How many bytes changes take in a transaction.
use Rattle.std.proofs.Common.{◌≡◌, ℕ, suc, ◌+◌, ◌*◌, ◌≤◌, ◌^◌, List, [], ◌∷◌, ◌++◌, length, Option, Some, None, IsTrue, refl, arith, length-append}
use Rattle.std.proofs.lemmas.Bool.{and_parts, leb-true}
use Rattle.std.proofs.lemmas.List.Sums.{sum_by-cons}
use Rattle.mon_bytes.specs.Texts.{is_word}
use Rattle.mon_bytes.specs.declared.entry.Entry.{Entry}
use Rattle.mon_tx.proofs.Decimals.{decimal_word}
use Rattle.mon_tx.specs.Keys.{area_text, key_text, decimal_text}
use Rattle.mon_tx.specs.Map.{number_bytes}
use Rattle.mon_tx.specs.Text.{op_text, text}
use Rattle.mon_tx.specs.declared.key.Area.TheVariants as area
use Rattle.mon_tx.specs.declared.key.Area.{Area}
use Rattle.mon_tx.specs.declared.key.Key.{Key}
use Rattle.mon_tx.specs.declared.key.Key.TheVariants as key
use Rattle.mon_tx.specs.declared.op.Op.{Op}
use Rattle.mon_tx.specs.declared.op.Op.TheVariants.{Put}
use Rattle.mon_msg.specs.Protocol.Changes.{Change, Boot, Epoch, Numbers, Promise, Vote, Learn, Last, Mark, Unmark, ops_of, put_back, erase_all, encoded}
use Rattle.mon_msg.specs.Protocol.Chunks.{record_changes, copy_changes}
use Rattle.mon_msg.specs.Protocol.Learning.{learn_changes}
use Rattle.mon_msg.specs.Puts.{put, put_number}
use Rattle.mon_wire.specs.Message.PartLengths.{value_length, entry_length}
use Rattle.std.specs.Prelude.{sum_by}
use Rattle.mon_bounds.proofs.Joins.{span, span-append, span-cons, text_span}

put_length : (prefix k v : List ℕ) → length (op_text (Put prefix k v)) ≡ 7 + length prefix + length k + length v
put_length prefix k v = simp length-append (omega arith)

-- a word isn't longer than it may be
pub word_short : (limit : ℕ) (w : List ℕ) → IsTrue (is_word limit w) → length w ≤ limit
word_short limit w h = leb-true (length w) limit (and_parts _ _ (and_parts _ _ h).0).1

decimal_length : (v : ℕ) → v ≤ 2 ^ 62 → length (decimal_text v) ≤ 20
decimal_length v h = word_short 20 (decimal_text v) (decimal_word v (omega arith))

number_length : (n : ℕ) → length (number_bytes n) ≡ 8
unfolding number_bytes
number_length n = refl

number_span : (a : Area) (k : Key) (n : ℕ) → span (put_number a k n ∷ []) ≡ 15 + length (area_text a) + length (key_text k)
number_span a k n = omega (arith, span-cons (put_number a k n) [], put_length (area_text a) (key_text k) (number_bytes n), number_length n)

numbers_span : (a : Area) (k : Key) (n : ℕ) (ops : List Op) → span (put_number a k n ∷ ops) ≡ 15 + length (area_text a) + length (key_text k) + span ops
numbers_span a k n ops = omega (arith, span-cons (put_number a k n) ops, put_length (area_text a) (key_text k) (number_bytes n), number_length n)

record_span : (v : ℕ) (value ops : List Op) → v ≤ 2 ^ 62 → span (put area.Paxos (key.Version v) (text value) ∷ ops) ≤ 32 + length (text value) + span ops
record_span v value ops h = omega (arith, span-cons (put area.Paxos (key.Version v) (text value)) ops, put_length (area_text area.Paxos) (key_text (key.Version v)) (text value), decimal_length v h)

-- ---- changes

abbrev pub size : List Change → ℕ
size [] = 0
size (c ∷ cs) = span (ops_of c) + size cs

pub size-append : (a b : List Change) → size (a ++ b) ≡ size a + size b
size-append [] b = omega arith
size-append (c ∷ a) b = omega (arith, size-append a b)

pub size_encoded : (cs : List Change) → span (encoded cs) ≡ size cs
size_encoded [] = refl
size_encoded (c ∷ cs) = omega (arith, span-append (ops_of c) (encoded cs), size_encoded cs)

pub boot_size : (n : ℕ) → size (Boot n ∷ []) ≤ 100
boot_size n = omega (arith, number_span area.Monitor key.BootCount n)

pub epoch_size : (e : ℕ) → size (Epoch e ∷ []) ≤ 100
epoch_size e = omega (arith, number_span area.Monitor key.ElectionEpoch e)

pub numbers_size : (pn : ℕ) → size (Numbers pn ∷ []) ≤ 100
numbers_size pn = omega (arith, numbers_span area.Paxos key.LastPn pn (put_number area.Paxos key.AcceptedPn pn ∷ []), number_span area.Paxos key.AcceptedPn pn)

pub promise_size : (pn : ℕ) → size (Promise pn ∷ []) ≤ 100
promise_size pn = omega (arith, number_span area.Paxos key.AcceptedPn pn)

pub last_size : (v : ℕ) → size (Last v ∷ []) ≤ 100
last_size v = omega (arith, number_span area.Paxos key.LastCommitted v)

pub vote_size : (v pn : ℕ) (value : List Op) → v ≤ 2 ^ 62 → size (Vote v pn value ∷ []) ≤ 100 + length (text value)
vote_size v pn value h =
    let rest = put_number area.Paxos key.PendingPn pn ∷ [] in
    omega (arith, record_span v value (put_number area.Paxos key.PendingV v ∷ rest) h, numbers_span area.Paxos key.PendingV v rest, number_span area.Paxos key.PendingPn pn)

pub unmark_size : size (Unmark ∷ []) ≤ 100
unmark_size = omega arith

back_span : (k : Key) (n : Option ℕ) → length (key_text k) ≤ 11 → span (put_back k n) ≤ 31
back_span k None h = omega arith
back_span k (Some n) h = omega (arith, number_span area.Paxos k n)

pub mark_size : (floor : ℕ) (last_pn promise : Option ℕ) → size (Mark floor last_pn promise ∷ []) ≤ 200
mark_size floor last_pn promise =
    let back = put_back key.LastPn last_pn ++ put_back key.AcceptedPn promise in
    let erased = erase_all area.Kv ∷ erase_all area.Logm ∷ erase_all area.Paxos ∷ back in
    omega (
      arith,
      numbers_span area.Sync key.InSync 1 (put_number area.Sync key.Floor floor ∷ erased),
      numbers_span area.Sync key.Floor floor erased,
      span-cons (erase_all area.Kv) (erase_all area.Logm ∷ erase_all area.Paxos ∷ back),
      span-cons (erase_all area.Logm) (erase_all area.Paxos ∷ back),
      span-cons (erase_all area.Paxos) back,
      span-append (put_back key.LastPn last_pn) (put_back key.AcceptedPn promise),
      back_span key.LastPn last_pn (omega arith),
      back_span key.AcceptedPn promise (omega arith),
    )

-- ---- values and entries

-- how many bytes values take in a message
abbrev pub load : List (List Op) → ℕ
load values = sum_by value_length values

pub load-cons : (value : List Op) (values : List (List Op)) → load (value ∷ values) ≡ 4 + length (text value) + load values
load-cons value values = sum_by-cons value_length value values

learn_span : (v : ℕ) (value : List Op) → v ≤ 2 ^ 62 → span (ops_of (Learn v value)) ≤ 27 + 2 * length (text value)
learn_span v value h = omega (arith, record_span v value value h, text_span value)

pub learned_size : (v : ℕ) (values : List (List Op)) → v + length values ≤ suc (2 ^ 62) → size (learn_changes v values) ≤ 19 * length values + 2 * load values
learned_size v [] h = omega arith
learned_size v (value ∷ values) h =
    let rest = learned_size (suc v) values (omega arith) in
    omega (arith, learn_span v value (omega arith), rest, load-cons value values)

pub recorded_size : (v : ℕ) (values : List (List Op)) → v + length values ≤ suc (2 ^ 62) → size (record_changes v values) ≤ 28 * length values + load values
recorded_size v [] h = omega arith
recorded_size v (value ∷ values) h =
    let rest = recorded_size (suc v) values (omega arith) in
    omega (arith, record_span v value [] (omega arith), rest, load-cons value values)

pub copied_size : (es : List Entry) → size (copy_changes es) ≤ length es + sum_by entry_length es
copied_size [] = omega arith
copied_size (e ∷ es) =
    omega (arith, span-cons (Put e.prefix e.key e.value) [], put_length e.prefix e.key e.value, copied_size es, sum_by-cons entry_length e es)
