-- Addresses of monitors, as text.
use Rattle.std.specs.Prelude.{◌≡◌, ℕ, ◌≤◌, List, ◌∷◌, ◌++◌, length, map, Option, Some, None, Result, Ok, Err, decimal, ◌==◌}
use Rattle.std.specs.List.{AllByRecursion, count_by}
use Rattle.mon_link.specs.declared.udp.Address.{Address}
use Rattle.schedule_text.specs.declared.refusal.ScheduleKind.{ScheduleKind}
use Rattle.schedule_text.specs.declared.refusal.ScheduleKind.TheVariants as kind
use Rattle.schedule_text.specs.Fields.{◌>>=◌, cut, number_of}
use Rattle.task_words.specs.Parts.{joined, parts_of}

-- ---- their texts

-- four numbers with dots between them, and a port after a colon
abbrev pub address_text : Address → List ℕ
address_text a = joined 46 (map decimal a.host) ++ 58 ∷ decimal a.port

-- with commas between them
abbrev pub addresses_text : List Address → List ℕ
addresses_text addresses = joined 44 (map address_text addresses)

pub record IsAddress (a : Address) : Type 0 where
  pub numbers : length a.host ≡ 4
  pub most : AllByRecursion (λ n. n ≤ 255) a.host
  pub port : 1 ≤ a.port
  pub port_most : a.port ≤ 65535

-- ---- how they are read

unfoldable pub host_of : List ℕ → Result (List ℕ) ScheduleKind
host_of text = parts_of 46 (number_of 0 255) 4 (Some text)

unfoldable pub port_of : Option (List ℕ) → Result ℕ ScheduleKind
port_of None = Err kind.Word
port_of (Some text) = number_of 1 65535 text

unfoldable pub address_of : List ℕ → Result Address ScheduleKind
address_of field = do
  host ← host_of (cut 58 field).0
  port ← port_of (cut 58 field).1
  Ok (record { host = host; port = port })

unfoldable pub addresses_of : ℕ → List ℕ → Result (List Address) ScheduleKind
addresses_of n text = parts_of 44 address_of n (Some text)

abbrev pub commas : List ℕ → ℕ
commas text = count_by (λ b. b == 44) text
