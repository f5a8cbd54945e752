-- The text of a report, and the text that says where two reports differ.
use Rattle.std.specs.Prelude.{◌≡◌, ℕ, ◌+◌, ◌<◌, ◌≤◌, ◌^◌, Bool, not, ◌||◌, ◌&&◌, ◌==◌, List, [], ◌∷◌, ◌++◌, length, codes, decimal, if◌then◌else◌}
use Rattle.std.specs.Str.{bytes_eq}
use Rattle.hex.specs.Hex.{encode_lower}
use Rattle.mon_bytes.specs.Reading.{IsBytes}
use Rattle.trace_text.specs.Words.{flag_text}
use Rattle.mon_scrub.specs.declared.report.Part.{Part}
use Rattle.mon_scrub.specs.declared.report.Report.{Report}

-- the fields of a report that its text has
pub record Fields : Type 0 where
  pub rank : ℕ
  pub monitors : ℕ
  pub last : ℕ
  pub marked : Bool
  pub parts : List Part

abbrev pub fields_of : Report → Fields
fields_of r = record { rank = r.member.rank; monitors = r.member.monitors; last = r.last; marked = r.marked; parts = r.parts }

abbrev pub prefixes : List (List ℕ)
prefixes = codes "kv" ∷ codes "logm" ∷ codes "paxos" ∷ []

-- ---- a report

abbrev pub member_text : (rank monitors : ℕ) → List ℕ
member_text rank monitors = codes "scrub rank=" ++ (decimal rank ++ (codes " monitors=" ++ decimal monitors))

abbrev pub last_text : ℕ → Bool → List ℕ
last_text last marked = codes " last=" ++ (decimal last ++ (codes " marked=" ++ (flag_text marked ++ codes "\n")))

abbrev pub part_text : List ℕ → Part → List ℕ
part_text prefix p = prefix ++ (codes " keys=" ++ (decimal p.keys ++ (codes " sha256=" ++ (encode_lower p.digest ++ codes "\n"))))

abbrev pub parts_text : List (List ℕ) → List Part → List ℕ
parts_text [] ps = []
parts_text (prefix ∷ others) [] = []
parts_text (prefix ∷ others) (p ∷ ps) = part_text prefix p ++ parts_text others ps

-- four lines: the first has the member, the last version and the mark, and each of the others a part
abbrev pub fields_text : Fields → List ℕ
fields_text f = member_text f.rank f.monitors ++ (last_text f.last f.marked ++ parts_text prefixes f.parts)

abbrev pub report_text : Report → List ℕ
report_text r = fields_text (fields_of r)

-- ---- what a report says of a store

-- the number of a part's entries, and a SHA-256
pub record IsPart (p : Part) : Type 0 where
  pub keys : p.keys < 2 ^ 32
  pub long : length p.digest ≡ 32
  pub bytes : IsBytes p.digest

abbrev pub AreParts : List Part → Type 0
AreParts (kv ∷ logm ∷ paxos ∷ []) = IsPart kv × IsPart logm × IsPart paxos
AreParts other = ⊥

-- a member, its last version, and three parts
pub record IsReport (f : Fields) : Type 0 where
  pub rank : f.rank < f.monitors
  pub monitors : f.monitors ≤ 15
  pub last : f.last ≤ 2 ^ 62
  pub parts : AreParts f.parts

-- ---- where two reports differ

-- the line of two reports that can't be compared part by part
abbrev pub apart_text : List ℕ → List ℕ → List ℕ → List ℕ
apart_text what a b = what ++ (a ++ 32 ∷ (b ++ codes "\n"))

abbrev pub differs : Part → Part → Bool
differs a b = not (a.keys == b.keys && bytes_eq a.digest b.digest)

abbrev pub mismatch_text : List ℕ → Part → Part → List ℕ
mismatch_text prefix a b =
    codes "mismatch " ++ (prefix ++ (codes " keys=" ++ (decimal a.keys ++ 44 ∷ (decimal b.keys
    ++ (codes " sha256=" ++ (encode_lower a.digest ++ 44 ∷ (encode_lower b.digest ++ codes "\n")))))))

-- one line per differing part
abbrev pub mismatches_text : List (List ℕ) → List Part → List Part → List ℕ
mismatches_text (prefix ∷ others) (a ∷ as_) (b ∷ bs) =
    (if differs a b then mismatch_text prefix a b else []) ++ mismatches_text others as_ bs
mismatches_text names as_ bs = []

abbrev pub count_differing : List Part → List Part → ℕ
count_differing (a ∷ as_) (b ∷ bs) = (if differs a b then 1 else 0) + count_differing as_ bs
count_differing as_ bs = 0

abbrev pub end_text : ℕ → List ℕ
end_text count = codes "end mismatches=" ++ (decimal count ++ codes "\n")

abbrev pub differing_text : List Part → List Part → List ℕ
differing_text as_ bs = mismatches_text prefixes as_ bs ++ end_text (count_differing as_ bs)

-- The first condition that holds decides: the numbers of monitors differ; one of the two is marked; the last versions
-- differ. If none holds, there is one line per differing part, and then one line with their number.
abbrev pub compared : Report → Report → List ℕ
compared a b =
    if not (a.member.monitors == b.member.monitors) then apart_text (codes "monitors differ ") (decimal a.member.monitors) (decimal b.member.monitors)
    else (if a.marked || b.marked then apart_text (codes "marked ") (flag_text a.marked) (flag_text b.marked)
    else (if not (a.last == b.last) then apart_text (codes "last differ ") (decimal a.last) (decimal b.last)
    else differing_text a.parts b.parts))
