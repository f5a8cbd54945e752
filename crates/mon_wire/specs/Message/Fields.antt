-- The fields of messages.
use Rattle.std.specs.Prelude.{◌≡◌, ℕ, ◌^◌, ◌<◌, ◌≤◌, Bool, true, false, List, [], ◌∷◌, length, Result, Ok, Err, IsTrue, nat_lt, nat_le, ◌==◌, if◌then◌else◌}
use Rattle.std.specs.Str.{is_utf8}
use Rattle.byteorder.specs.Endian.{little_bytes}
use Rattle.mon_types.specs.Ranks.{to_bits, from_bits}
use Rattle.mon_bytes.specs.declared.limits.TheConstants.{MOST_NAME, MOST_PREFIX}
use Rattle.mon_bytes.specs.Reading.{Reading, number, next_bytes}
use Rattle.mon_bytes.specs.Forms.{text_bytes}
use Rattle.mon_bytes.specs.Texts.{is_word}
use Rattle.mon_tx.specs.declared.op.Op.{Op}
use Rattle.mon_tx.specs.declared.refusal.TxRefused.{TxRefused}
use Rattle.mon_tx.specs.Text.{text as transaction_text}
use Rattle.mon_tx.specs.Decode.{transaction_of, HasText}
use Rattle.mon_wire.specs.declared.refusal.MsgKind.TheVariants as fault
use Rattle.mon_wire.specs.declared.refusal.MsgRefused.{MsgRefused}
use Rattle.mon_wire.specs.declared.refusal.MsgRefused.TheVariants as refused
use Rattle.mon_wire.specs.declared.request.Service.{Service}
use Rattle.mon_wire.specs.declared.request.Service.TheVariants.{Kv, Log}
use Rattle.mon_wire.specs.Message.Format.{◌>>=◌, cut, Reader, Format}

-- a number of at most 2^62 in eight bytes, the lowest first
unfoldable pub number_bytes : ℕ → List ℕ
number_bytes n = little_bytes 8 n

unfoldable pub number_at : Reader ℕ
number_at c = do
  n ← cut (number 8 c)
  if nat_lt (2 ^ 62) n.0 then Err (refused.At c.at fault.Number) else Ok n

abbrev pub numeral : Format ℕ
numeral = record { text = number_bytes; read = number_at; Form = λ n. n ≤ 2 ^ 62 }

-- a byte 0 or 1
abbrev pub flag_byte : Bool → ℕ
flag_byte false = 0
flag_byte true = 1

unfoldable pub flag_at : Reader Bool
flag_at c = do
  n ← cut (number 1 c)
  if nat_lt 1 n.0 then Err (refused.At c.at fault.Value) else Ok (n.0 == 1, n.1)

abbrev pub flag : Format Bool
flag = record { text = λ b. flag_byte b ∷ []; read = flag_at; Form = λ b. Unit {0} }

-- ---- sets of ranks: bit r for rank r

unfoldable pub set_bytes : List Bool → List ℕ
set_bytes s = little_bytes 2 (to_bits s)

-- with no bit at n or above
unfoldable pub set_at : ℕ → Reader (List Bool)
set_at n c = do
  number ← cut (number 2 c)
  if nat_le (2 ^ n) number.0 then Err (refused.At c.at fault.Value) else Ok (from_bits number.0, number.1)

abbrev pub set : ℕ → Format (List Bool)
set n = record { text = set_bytes; read = set_at n; Form = λ s. (length s ≡ 15) × (to_bits s < 2 ^ n) }

-- ---- bytes with their length

unfoldable pub blob_at : Reader (List ℕ)
blob_at c = do
  n ← cut (number 4 c)
  cut (next_bytes n.0 n.1)

abbrev pub blob : Format (List ℕ)
blob = record { text = text_bytes; read = blob_at; Form = λ bytes. length bytes < 2 ^ 32 }

unfoldable pub text_at : Reader (List ℕ)
text_at c = do
  n ← cut (number 4 c)
  bytes ← cut (next_bytes n.0 n.1)
  if is_utf8 bytes.0 then Ok bytes else Err (refused.At n.1.at fault.Value)

abbrev pub utf8 : Format (List ℕ)
utf8 = record { text = text_bytes; read = text_at; Form = λ bytes. IsTrue (is_utf8 bytes) × (length bytes < 2 ^ 32) }

-- a length of 1 to `most` in one byte, and as many graphic bytes
unfoldable pub word_at : ℕ → Reader (List ℕ)
word_at most c = do
  n ← cut (number 1 c)
  if n.0 == 0 then Err (refused.At c.at fault.Value) else (if nat_lt most n.0 then Err (refused.At c.at fault.Value) else (do
    bytes ← cut (next_bytes n.0 n.1)
    if is_word most bytes.0 then Ok bytes else Err (refused.At n.1.at fault.Value)))

abbrev pub word : ℕ → Format (List ℕ)
word most = record { text = λ bytes. length bytes ∷ bytes; read = word_at most; Form = λ bytes. IsTrue (is_word most bytes) }

abbrev pub name : Format (List ℕ)
name = word MOST_NAME

abbrev pub prefix : Format (List ℕ)
prefix = word MOST_PREFIX

-- a transaction's text with its length
abbrev pub decoded_at : ℕ → Reading → Result (List Op) TxRefused → Result (List Op × Reading) MsgRefused
decoded_at at after (Ok ops) = Ok (ops, after)
decoded_at at after (Err e) = Err (refused.At at fault.Value)

unfoldable pub value_at : Reader (List Op)
value_at c = do
  n ← cut (number 4 c)
  bytes ← cut (next_bytes n.0 n.1)
  decoded_at n.1.at bytes.1 (transaction_of bytes.0)

abbrev pub value : Format (List Op)
value = record { text = λ ops. text_bytes (transaction_text ops); read = value_at; Form = HasText }

-- ---- a service's byte

abbrev pub service_byte : Service → ℕ
service_byte Kv = 1
service_byte Log = 2

unfoldable pub service_at : Reader Service
service_at c = do
  n ← cut (number 1 c)
  if n.0 == 1 then Ok (Kv, n.1) else (if n.0 == 2 then Ok (Log, n.1) else Err (refused.At c.at fault.Value))

abbrev pub service : Format Service
service = record { text = λ s. service_byte s ∷ []; read = service_at; Form = λ s. Unit {0} }
