-- How an identity, which names a quorum, and a hello are encoded.
use Rattle.std.specs.Prelude.{◌≡◌, ℕ, ◌^◌, ◌<◌, Bool, true, ◌&&◌, ◌||◌, List, [], ◌∷◌, ◌++◌, length, take, Result, Ok, Err, IsTrue, nat_lt, nat_le, ◌==◌, if◌then◌else◌}
use Rattle.std.specs.List.{flat_map, AllByRecursion}
use Rattle.byteorder.specs.Endian.{little_number}
use Rattle.sha2.specs.Sha256.{sha256}
use Rattle.mon_types.specs.Ranks.{to_bits, from_bits}
use Rattle.mon_bytes.specs.declared.command.MapRefused.{MapRefused}
use Rattle.mon_bytes.specs.declared.command.MapRefused.TheVariants.{Form}
use Rattle.mon_bytes.specs.Reading.{number, next_bytes}
use Rattle.mon_bytes.specs.Format.{Faults, Reader, Format, nothing, dependent, ◌⊗◌, seen_as, as_parts, items, u16_bytes, Encoding, encoding, variant, tagged, choice}
use Rattle.mon_bytes.specs.Forms.{◌>>=◌, fitted, whole}
use Rattle.mon_bytes.specs.Texts.{is_word}
use Rattle.election_rules.specs.declared.rule.Rule.{Rule}
use Rattle.election_rules.specs.declared.rule.Rule.TheVariants as rule
use Rattle.mon_link.specs.declared.udp.Address.{Address}
use Rattle.mon_hello.specs.declared.hello.Hello.{Hello}
use Rattle.mon_hello.specs.declared.hello.TheConstants.{ANSWER_MARK, MARK, MOST_VERSION}
use Rattle.mon_hello.specs.declared.identity.Identity.{Identity}
use Rattle.mon_hello.specs.Names.{is_quorum_name}

abbrev pub faults : Faults MapRefused
faults = record { cut = λ at. Form at; value = λ at. Form at }

-- ---- fields

-- a byte for which a test holds
unfoldable pub byte_at : (ℕ → Bool) → Reader MapRefused ℕ
byte_at test c = do
  n ← fitted (number 1 c)
  if test n.0 then Ok n else Err (Form c.at)

abbrev pub byte : (ℕ → Bool) → Format MapRefused ℕ
byte test = record { text = λ n. n ∷ []; read = byte_at test; Form = λ n. IsTrue (test n) }

-- a length in one byte, and this many bytes for which a test holds
unfoldable pub counted_at : (List ℕ → Bool) → Reader MapRefused (List ℕ)
counted_at test c = do
  n ← fitted (number 1 c)
  bytes ← fitted (next_bytes n.0 n.1)
  if test bytes.0 then Ok bytes else Err (Form n.1.at)

abbrev pub counted : (List ℕ → Bool) → Format MapRefused (List ℕ)
counted test = record { text = λ bytes. length bytes ∷ bytes; read = counted_at test; Form = λ bytes. IsTrue (test bytes) }

-- 1 to 15
abbrev pub is_count : ℕ → Bool
is_count n = nat_le 1 n && nat_le n 15

-- a set of ranks in two bytes, the lowest first: bit r for rank r
unfoldable pub set_bytes : List Bool → List ℕ
set_bytes s = u16_bytes (to_bits s)

unfoldable pub set_at : Reader MapRefused (List Bool)
set_at c = do
  bits ← fitted (number 2 c)
  if nat_lt bits.0 (2 ^ 15) then Ok (from_bits bits.0, bits.1) else Err (Form c.at)

abbrev pub set : Format MapRefused (List Bool)
set = record { text = set_bytes; read = set_at; Form = λ s. length s ≡ 15 }

-- four bytes of the host, and the port in two, the lowest first
unfoldable pub address_at : Reader MapRefused Address
address_at c = do
  host ← fitted (next_bytes 4 c)
  port ← fitted (number 2 host.1)
  Ok (record { host = host.0; port = port.0 }, port.1)

abbrev pub address_text : Address → List ℕ
address_text a = a.host ++ u16_bytes a.port

abbrev pub an_address : Format MapRefused Address
an_address = record { text = address_text; read = address_at; Form = λ a. (length a.host ≡ 4) × (a.port < 2 ^ 16) }

-- the addresses of n monitors, in order of rank
abbrev pub all_addresses : ℕ → Format MapRefused (List Address)
all_addresses n = record { text = flat_map address_text; read = items address_at n; Form = λ xs. (length xs ≡ n) × AllByRecursion an_address.Form xs }

-- ---- a rule: the byte of its kind, and the ranks that never lead

abbrev pub rule_encoded : Rule → Encoding
rule_encoded rule.Classic = encoding 0 (nothing {E = MapRefused}) tt
rule_encoded (rule.Disallow ranks) = encoding 1 set ranks
rule_encoded (rule.Connectivity ranks) = encoding 2 set ranks

abbrev pub rule_kinds : List (ℕ × Reader MapRefused Rule)
rule_kinds = (0, variant nothing (λ x. rule.Classic)) ∷ (1, variant set (λ ranks. rule.Disallow ranks)) ∷ (2, variant set (λ ranks. rule.Connectivity ranks)) ∷ []

unfoldable pub rule_at : Reader MapRefused Rule
rule_at c = tagged faults rule_kinds c

abbrev pub a_rule : Format MapRefused Rule
a_rule = choice rule_encoded rule_at

-- ---- what names a quorum: its name, the number of its monitors, and its rule

abbrev pub identity_parts : Identity → List ℕ × (ℕ × Rule)
identity_parts i = (i.name, (i.monitors, i.rule))

abbrev pub identity_of : List ℕ × (ℕ × Rule) → Identity
identity_of p = record { name = p.0; monitors = p.1.0; rule = p.1.1 }

abbrev pub an_identity : Format MapRefused Identity
an_identity = as_parts (counted is_quorum_name ⊗ byte is_count ⊗ a_rule) identity_of identity_parts

-- the first eight bytes of the SHA-256 of its encoding, the lowest first
abbrev pub tag_of : Identity → ℕ
tag_of i = little_number 8 (take 8 (sha256 (an_identity.text i)))

-- ---- a hello

-- the byte 06 if it answers another hello, and else 04
abbrev pub is_mark : ℕ → Bool
is_mark n = n == MARK || n == ANSWER_MARK

abbrev pub mark_of : (answers : Bool) → ℕ
mark_of answers = if answers then ANSWER_MARK else MARK

abbrev pub mark : Format MapRefused Bool
mark = seen_as (byte is_mark) (λ n. n == ANSWER_MARK) mark_of (λ answers. Unit {0})

-- what follows the quorum: the sender's rank, and the addresses of all monitors
abbrev pub members : ℕ → Format MapRefused (ℕ × List Address)
members n = byte (λ rank. nat_lt rank n) ⊗ all_addresses n

abbrev pub hello_parts : Hello → Bool × (List ℕ × (Identity × (ℕ × List Address)))
hello_parts h = (h.answers, (h.version, (h.identity, (h.rank, h.addresses))))

abbrev pub hello_from : Bool × (List ℕ × (Identity × (ℕ × List Address))) → Hello
hello_from p = record { answers = p.0; version = p.1.0; identity = p.1.1.0; rank = p.1.1.1.0; addresses = p.1.1.1.1 }

abbrev pub a_hello : Format MapRefused Hello
a_hello = as_parts (mark ⊗ counted (is_word MOST_VERSION) ⊗ dependent an_identity (λ i. members i.monitors)) hello_from hello_parts

-- the same hello, as an answer
abbrev pub answering : Hello → Hello
answering h = record h { answers = true }

-- the hello that all of the bytes encode
abbrev pub hello_of : List ℕ → Result Hello MapRefused
hello_of bytes = whole a_hello bytes
