-- The byte of a gate in what a disk settles to.
use Rattle.std.proofs.Common.{inl, inr, ◌≡◌, ◌⊎◌, ℕ, zero, suc, ◌+◌, ◌-◌, ◌<◌, ◌≤◌, Bool, true, false, nat_le, List, [], ◌∷◌, ◌++◌, length, take, drop, replicate, get_or, Option, None, refl, sym, ap, ◌∙◌, subst, arith, append_assoc, length-append}
use Rattle.std.specs.Prelude.{◌==◌, ◌&&◌, ◌||◌, ◌/◌, if◌then◌else◌}
use Rattle.std.proofs.lemmas.Bool.Decides.{nat_tests}
use Rattle.std.proofs.lemmas.List.{length-take-le, length-replicate, get_or-take, get_or-replicate, get_or_past, get_or_append_left}
use Rattle.std.proofs.Math.Seq.{get_or-append_seam}
use Rattle.mon_disk.specs.Images.{overwritten}
use Rattle.mon_disk.specs.Memory.{part, placed}
use Rattle.mon_journal.specs.Content as journal
use Rattle.mon_journal.specs.Fields.{Owner}
use Rattle.mon_journal.specs.Written.{payload_bytes, head_bytes}
use Rattle.quorum_model.specs.InjectedFaults.{closes_gate}
use Rattle.mon_site.specs.Disks.{file_in}
use Rattle.mon_site.proofs.Guarded.{cut_short}

-- whether the gate at a place is open
abbrev pub is_opened : List ℕ → ℕ → Bool
is_opened file gate = get_or file gate 0 == 1

below : (i n : ℕ) → (i < n) ⊎ (n ≤ i)
below i zero = inr (omega arith)
below zero (suc n) = inl (omega arith)
below (suc i) (suc n) = elim (below i n) [ inl h ↦ inl (omega (arith, h)) | inr h ↦ inr (omega (arith, h)) ]

abbrev pad : ℕ → List ℕ
pad n = replicate n 0

zeros : (n i : ℕ) → get_or (pad n) i 0 ≡ 0
zeros n i = elim (below i n) [ inl h ↦ get_or-replicate n i 0 0 h | inr h ↦ get_or_past (pad n) i 0 (omega (arith, h, length-replicate {A = ℕ} n 0)) ]

padded : (file : List ℕ) (n i : ℕ) → get_or (file ++ pad n) i 0 ≡ get_or file i 0
padded [] n i = zeros n i
padded (x ∷ xs) n zero = refl
padded (x ∷ xs) n (suc i) = padded xs n i

-- before a write
before_over : (at : ℕ) (bytes file : List ℕ) (i : ℕ) → i < at → at ≤ length file → get_or (overwritten at bytes file) i 0 ≡ get_or file i 0
before_over at bytes file i lt le =
    let taken : length (take at file) ≡ at = length-take-le at file le in
    get_or_append_left (take at file ++ bytes) (drop (at + length bytes) file) 0 i (omega (arith, lt, taken, length-append (take at file) bytes))
    ∙ get_or_append_left (take at file) bytes 0 i (omega (arith, lt, taken))
    ∙ get_or-take at file i 0 lt

pad_length : (at : ℕ) (file : List ℕ) → at ≤ length (file ++ pad (at - length file))
pad_length at file = omega (arith, length-append file (pad (at - length file)), length-replicate {A = ℕ} (at - length file) 0)

before_placed : (at : ℕ) (bytes file : List ℕ) (i : ℕ) → i < at → get_or (placed at bytes file) i 0 ≡ get_or file i 0
before_placed at [] file i lt = refl
before_placed at (b ∷ bs) file i lt =
    before_over at (b ∷ bs) (file ++ pad (at - length file)) i lt (pad_length at file) ∙ padded file (at - length file) i

-- at a write
at_over : (at byte : ℕ) (bytes file : List ℕ) → at ≤ length file → get_or (overwritten at (byte ∷ bytes) file) at 0 ≡ byte
at_over at byte bytes file le =
    let taken : length (take at file) ≡ at = length-take-le at file le in
    ap (λ (l : List ℕ). get_or l at 0) (append_assoc (take at file) (byte ∷ bytes) (drop (at + length (byte ∷ bytes)) file))
    ∙ subst (λ (n : ℕ). get_or (take at file ++ (byte ∷ bytes ++ drop (at + length (byte ∷ bytes)) file)) n 0 ≡ byte) taken
    (get_or-append_seam (take at file) byte (bytes ++ drop (at + length (byte ∷ bytes)) file) 0)

at_placed : (at byte : ℕ) (file : List ℕ) → get_or (placed at (byte ∷ []) file) at 0 ≡ byte
at_placed at byte file = at_over at byte [] (file ++ pad (at - length file)) (pad_length at file)

-- ---- the image of a gate

abbrev pick : Bool → Bool → Bool → List ℕ → List ℕ
pick x y z bytes = if x then [] else if y then bytes else if z then take (length bytes / 2) bytes else replicate (length bytes) 165

-- while it is opened
opened_by : (x y z : Bool) (at : ℕ) (file : List ℕ) → (x ≡ true → y ≡ false) → is_opened file at ≡ false → is_opened (placed at (pick x y z (1 ∷ [])) file) at ≡ y
opened_by true y z at file apart shut = shut ∙ sym (apart refl)
opened_by false true z at file apart shut = ap (λ (b : ℕ). b == 1) (at_placed at 1 file)
opened_by false false true at file apart shut = shut
opened_by false false false at file apart shut = ap (λ (b : ℕ). b == 1) (at_placed at 165 file)

apart_0 : (image : ℕ) → (image == 0) ≡ true → (image == 1) ≡ false
apart_0 image e = grind (arith, nat_tests)

opening : (image at : ℕ) (file : List ℕ) → is_opened file at ≡ false → is_opened (placed at (part image (1 ∷ [])) file) at ≡ (image == 1)
opening image at file shut = opened_by (image == 0) (image == 1) (image == 2) at file (apart_0 image) shut

-- ---- an append

abbrev pub append_writes : ℕ → List ℕ → List (ℕ × List ℕ)
append_writes gate payload = (gate + 1, payload_bytes payload ++ 0 ∷ []) ∷ (gate, 1 ∷ []) ∷ []

pub append_gate : (image done gate : ℕ) (payload file : List ℕ) → is_opened file gate ≡ false → gate < length file → done < 4
    → is_opened (cut_short image done (append_writes gate payload) file) gate ≡ (nat_le 2 done && image == 1)
append_gate image zero gate payload file shut lt le = ap (λ (b : ℕ). b == 1) (before_placed (gate + 1) (part image (payload_bytes payload ++ 0 ∷ [])) file gate (omega arith)) ∙ shut
append_gate image (suc zero) gate payload file shut lt le = ap (λ (b : ℕ). b == 1) (before_placed (gate + 1) (part image (payload_bytes payload ++ 0 ∷ [])) file gate (omega arith)) ∙ shut
append_gate image (suc (suc zero)) gate payload file shut lt le =
    opening image gate (overwritten (gate + 1) (payload_bytes payload ++ 0 ∷ []) file)
    (ap (λ (b : ℕ). b == 1) (before_over (gate + 1) (payload_bytes payload ++ 0 ∷ []) file gate (omega arith) (omega (arith, lt))) ∙ shut)
append_gate image (suc (suc (suc zero))) gate payload file shut lt le =
    opening image gate (overwritten (gate + 1) (payload_bytes payload ++ 0 ∷ []) file)
    (ap (λ (b : ℕ). b == 1) (before_over (gate + 1) (payload_bytes payload ++ 0 ∷ []) file gate (omega arith) (omega (arith, lt))) ∙ shut)
append_gate image (suc (suc (suc (suc n)))) gate payload file shut lt le = absurd (omega (arith, le))

-- ---- a file that is made

abbrev pub create_writes : Owner → ℕ → Option (List ℕ) → List (ℕ × List ℕ)
create_writes owner generation first = (0, 0 ∷ []) ∷ (1, head_bytes owner generation first) ∷ (0, 1 ∷ []) ∷ []

abbrev begun_file : List ℕ → List ℕ
begun_file file = overwritten 0 (0 ∷ []) file

begun_length : (file : List ℕ) → 1 ≤ length (begun_file file)
begun_length file = let gate : List ℕ = 0 ∷ [] in omega (arith, length-append gate (drop 1 file))

begun_shut : (file : List ℕ) → is_opened (begun_file file) 0 ≡ false
begun_shut file = ap (λ (b : ℕ). b == 1) (at_over 0 0 [] file (omega arith))

headed_shut : (head file : List ℕ) → is_opened (overwritten 1 head (begun_file file)) 0 ≡ false
headed_shut head file = ap (λ (b : ℕ). b == 1) (before_over 1 head (begun_file file) 0 (omega arith) (begun_length file)) ∙ begun_shut file

both : (b : Bool) → (b && true) ≡ b
both true = refl
both false = refl

neither : (b : Bool) → (b && false) ≡ false
neither true = refl
neither false = refl

-- the gate of a new file is open, and the write that opens it was begun
pub create_gate : (image done : ℕ) (owner : Owner) (generation : ℕ) (first : Option (List ℕ)) (file : List ℕ) → done < 6
    → (is_opened (cut_short image done (create_writes owner generation first) file) 0 && nat_le 4 done) ≡ (nat_le 4 done && image == 1)
create_gate image zero owner generation first file le = neither (is_opened (placed 0 (part image (0 ∷ [])) file) 0)
create_gate image (suc zero) owner generation first file le = neither (is_opened (placed 0 (part image (0 ∷ [])) file) 0)
create_gate image (suc (suc zero)) owner generation first file le = neither (is_opened (placed 1 (part image (head_bytes owner generation first)) (begun_file file)) 0)
create_gate image (suc (suc (suc zero))) owner generation first file le = neither (is_opened (placed 1 (part image (head_bytes owner generation first)) (begun_file file)) 0)
create_gate image (suc (suc (suc (suc zero)))) owner generation first file le =
    both (is_opened (placed 0 (part image (1 ∷ [])) (overwritten 1 (head_bytes owner generation first) (begun_file file))) 0)
    ∙ opening image 0 (overwritten 1 (head_bytes owner generation first) (begun_file file)) (headed_shut (head_bytes owner generation first) file)
create_gate image (suc (suc (suc (suc (suc zero))))) owner generation first file le =
    both (is_opened (placed 0 (part image (1 ∷ [])) (overwritten 1 (head_bytes owner generation first) (begun_file file))) 0)
    ∙ opening image 0 (overwritten 1 (head_bytes owner generation first) (begun_file file)) (headed_shut (head_bytes owner generation first) file)
create_gate image (suc (suc (suc (suc (suc (suc n)))))) owner generation first file le = absurd (omega (arith, le))

-- ---- a new file whose gate wasn't opened

closed : (file : List ℕ) → is_opened file 0 ≡ false → file_in file ≡ None
unfolding journal.content
closed [] shut = refl
closed (gate ∷ []) shut = refl
closed (gate ∷ byte ∷ bytes) shut = rw shut refl

-- while it is closed
closed_by : (x y z w : Bool) (file : List ℕ) → ((x ≡ true) → (y || w) ≡ false) → ((z ≡ true) → (y || w) ≡ false) → ((x ≡ false) → (y ≡ false) → (z ≡ false) → w ≡ true)
    → file_in (placed 0 (pick x y z (0 ∷ [])) file) ≡ (if y || w then None else file_in file)
closed_by true y z w file no_x no_z else_w = rw (no_x refl) refl
closed_by false true z w file no_x no_z else_w = closed (placed 0 (0 ∷ []) file) (ap (λ (b : ℕ). b == 1) (at_placed 0 0 file))
closed_by false false true w file no_x no_z else_w = rw (no_z refl) refl
closed_by false false false w file no_x no_z else_w =
    closed (placed 0 (165 ∷ []) file) (ap (λ (b : ℕ). b == 1) (at_placed 0 165 file)) ∙ ap (λ (b : Bool). if b then None else file_in file) (sym (else_w refl refl refl))

no_0 : (image : ℕ) → (image == 0) ≡ true → (image == 1 || image == 3) ≡ false
no_0 image e = grind (arith, nat_tests)

no_2 : (image : ℕ) → (image == 2) ≡ true → (image == 1 || image == 3) ≡ false
no_2 image e = grind (arith, nat_tests)

is_3 : (image : ℕ) → image ≤ 3 → (image == 0) ≡ false → (image == 1) ≡ false → (image == 2) ≡ false → (image == 3) ≡ true
is_3 image most a b c = grind (arith, nat_tests)

closing : (image : ℕ) (file : List ℕ) → image ≤ 3 → file_in (placed 0 (part image (0 ∷ [])) file) ≡ (if image == 1 || image == 3 then None else file_in file)
closing image file most = closed_by (image == 0) (image == 1) (image == 2) (image == 3) file (no_0 image) (no_2 image) (is_3 image most)

headed_by : (image : ℕ) (head file : List ℕ) → file_in (placed 1 (part image head) (begun_file file)) ≡ None
headed_by image head file = closed (placed 1 (part image head) (begun_file file)) (ap (λ (b : ℕ). b == 1) (before_placed 1 (part image head) (begun_file file) 0 (omega arith)) ∙ begun_shut file)

-- what is left: the file from before, or none
pub create_left : (image done : ℕ) (owner : Owner) (generation : ℕ) (first : Option (List ℕ)) (file : List ℕ) → done < 6 → image ≤ 3 → (nat_le 4 done && image == 1) ≡ false
    → file_in (cut_short image done (create_writes owner generation first) file) ≡ (if closes_gate 1 (suc done) image then None else file_in file)
create_left image zero owner generation first file le most shut = closing image file most
create_left image (suc zero) owner generation first file le most shut = closing image file most
create_left image (suc (suc zero)) owner generation first file le most shut = headed_by image (head_bytes owner generation first) file
create_left image (suc (suc (suc zero))) owner generation first file le most shut = headed_by image (head_bytes owner generation first) file
create_left image (suc (suc (suc (suc zero)))) owner generation first file le most shut =
    closed (placed 0 (part image (1 ∷ [])) (overwritten 1 (head_bytes owner generation first) (begun_file file)))
    (opening image 0 (overwritten 1 (head_bytes owner generation first) (begun_file file)) (headed_shut (head_bytes owner generation first) file) ∙ shut)
create_left image (suc (suc (suc (suc (suc zero))))) owner generation first file le most shut =
    closed (placed 0 (part image (1 ∷ [])) (overwritten 1 (head_bytes owner generation first) (begun_file file)))
    (opening image 0 (overwritten 1 (head_bytes owner generation first) (begun_file file)) (headed_shut (head_bytes owner generation first) file) ∙ shut)
create_left image (suc (suc (suc (suc (suc (suc n)))))) owner generation first file le most shut = absurd (omega (arith, le))
