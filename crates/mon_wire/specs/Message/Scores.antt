-- Tables of scores: a row for each of n monitors, with a score for each of them. The ranks past n aren't sent.
use Rattle.std.specs.Prelude.{◌≡◌, ℕ, ◌-◌, ◌≤◌, List, ◌++◌, length, take, drop, replicate, Ok, Err, nat_lt, if◌then◌else◌}
use Rattle.std.specs.List.{flat_map, AllByRecursion}
use Rattle.mon_bytes.specs.Reading.{number}
use Rattle.mon_bytes.specs.Forms.{u32_bytes}
use Rattle.election_rules.specs.declared.row.Row.{Row}
use Rattle.election_rules.specs.declared.scores.Scores.{Scores}
use Rattle.election_rules.specs.Table.{full, start_row}
use Rattle.mon_wire.specs.declared.refusal.MsgKind.TheVariants as fault
use Rattle.mon_wire.specs.declared.refusal.MsgRefused.TheVariants as refused
use Rattle.mon_wire.specs.Message.Format.{◌>>=◌, cut, Reader, Format, ◌⊗◌, seen_as, as_parts, items}
use Rattle.mon_wire.specs.Message.Fields.{numeral}

-- fifteen values: the first n are sent, and the others are `rest`
unfoldable pub padded_at : {A : Type 0} → ℕ → A → Reader A → Reader (List A)
padded_at n rest read c = do
  xs ← items read n c
  Ok (xs.0 ++ replicate (15 - n) rest, xs.1)

pub record IsPadded {A : Type 0} (n : ℕ) (rest : A) (Form : A → Type 0) (xs : List A) : Type 0 where
  pub ranks : length xs ≡ 15
  pub each : AllByRecursion Form (take n xs)
  pub others : drop n xs ≡ replicate (15 - n) rest

abbrev pub padded : {A : Type 0} → ℕ → A → Format A → Format (List A)
padded n rest f = record { text = λ xs. flat_map f.text (take n xs); read = padded_at n rest f.read; Form = IsPadded n rest f.Form }

unfoldable pub score_at : Reader ℕ
score_at c = do
  n ← cut (number 4 c)
  if nat_lt full n.0 then Err (refused.At c.at fault.Value) else Ok n

abbrev pub score : Format ℕ
score = record { text = u32_bytes; read = score_at; Form = λ n. n ≤ full }

abbrev pub row : ℕ → Format Row
row n = as_parts (numeral ⊗ numeral ⊗ padded n full score) (λ p. record { boot = p.0; count = p.1.0; scores = p.1.1 }) (λ r. (r.boot, (r.count, r.scores)))

-- the table of the monitor of rank own
abbrev pub table : ℕ → ℕ → Format Scores
table n own = seen_as rows (λ rows. record { own = own; rows = rows }) (λ t. t.rows) (λ t. (t.own ≡ own) × rows.Form t.rows)
  where
    rows : Format (List Row)
    rows = padded n (start_row 0) (row n)
