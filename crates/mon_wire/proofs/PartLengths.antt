-- How many bytes the parts of messages take.
use Rattle.std.proofs.Common.{◌≡◌, ℕ, ◌+◌, ◌*◌, ◌≤◌, Bool, List, [], ◌∷◌, length, take, refl, length-append, length-take, arith}
use Rattle.std.specs.Prelude.{Option, None, Some, sum_by}
use Rattle.std.specs.List.{flat_map, AllByRecursion}
use Rattle.std.proofs.Math.Nat.{suc-mul}
use Rattle.std.proofs.lemmas.List.Concat.{length-flat_map}
use Rattle.std.proofs.lemmas.List.Sums.{sum_by-cons}
use Rattle.mon_bytes.proofs.Forms.{length-u32_bytes}
use Rattle.mon_bytes.specs.declared.command.Command.{Command}
use Rattle.mon_bytes.specs.declared.command.Command.TheVariants as command
use Rattle.mon_bytes.specs.declared.entry.Entry.{Entry}
use Rattle.mon_bytes.specs.declared.entry.KeyPlace.{KeyPlace}
use Rattle.mon_bytes.specs.declared.entry.KeyPlace.TheVariants.{Start, After, Done}
use Rattle.mon_bytes.specs.Forms.{u32_bytes, text_bytes}
use Rattle.mon_tx.specs.declared.op.Op.{Op}
use Rattle.mon_tx.specs.Text.{text as transaction_text}
use Rattle.election_rules.specs.declared.row.Row.{Row}
use Rattle.election_rules.specs.declared.scores.Scores.{Scores}
use Rattle.election_rules.specs.Table.{full}
use Rattle.mon_wire.specs.declared.parts.Place.{Place}
use Rattle.mon_wire.specs.declared.parts.Told.{Told}
use Rattle.mon_wire.specs.declared.reply.Reply.{Reply}
use Rattle.mon_wire.specs.declared.reply.Reply.TheVariants as reply
use Rattle.mon_wire.specs.declared.reply.ShownMap.{ShownMap}
use Rattle.mon_wire.specs.declared.reply.ShownMap.TheVariants as map
use Rattle.mon_wire.specs.declared.request.Request.{Request}
use Rattle.mon_wire.specs.declared.request.Request.TheVariants as request
use Rattle.mon_wire.specs.Message.Format.{Format, u16_bytes, list}
use Rattle.mon_wire.specs.Message.Fields.{number_bytes, set_bytes, value, blob}
use Rattle.mon_wire.specs.Message.Parts.{optional, told, key_place, place, entry, a_command, shown_text}
use Rattle.mon_wire.specs.Message.Client.{a_request, a_reply}
use Rattle.mon_wire.specs.Message.Scores.{row}
use Rattle.mon_wire.specs.Message.Bodies.{scored}
use Rattle.mon_wire.specs.Message.PartLengths.{bytes_length, value_length, list_length, table_length, key_place_length, place_length, entry_length, told_length, command_length, request_length, map_text, reply_length}

pub length-number_bytes : (n : ℕ) → length (number_bytes n) ≡ 8
unfolding number_bytes
length-number_bytes n = refl

pub length-set_bytes : (s : List Bool) → length (set_bytes s) ≡ 2
unfolding set_bytes
length-set_bytes s = refl

length-u16_bytes : (n : ℕ) → length (u16_bytes n) ≡ 2
unfolding u16_bytes
length-u16_bytes n = refl

pub length-text_bytes : (text : List ℕ) → length (text_bytes text) ≡ bytes_length text
length-text_bytes text = omega (arith, length-append (u32_bytes (length text)) text, length-u32_bytes (length text))

-- ---- lists

sums_agree : {A : Type 0} (f g : A → ℕ) → ((x : A) → f x ≡ g x) → (xs : List A) → sum_by f xs ≡ sum_by g xs
sums_agree f g same [] = refl
sums_agree f g same (x ∷ xs) = omega (arith, sum_by-cons f x xs, sum_by-cons g x xs, same x, sums_agree f g same xs)

length-list : {A : Type 0} (f : Format A) (item : A → ℕ) → ((x : A) → length (f.text x) ≡ item x) → (xs : List A) → length ((list f).text xs) ≡ list_length item xs
length-list f item same xs =
    omega (arith, length-append (u16_bytes (length xs)) (flat_map f.text xs), length-u16_bytes (length xs), length-flat_map f.text xs, sums_agree (λ x. length (f.text x)) item same xs)

pub length-values : (values : List (List Op)) → length ((list value).text values) ≡ list_length value_length values
length-values values = length-list value value_length (λ v. length-text_bytes (transaction_text v)) values

pub length-blobs : (blobs : List (List ℕ)) → length ((list blob).text blobs) ≡ list_length bytes_length blobs
length-blobs blobs = length-list blob bytes_length length-text_bytes blobs

length-entry : (e : Entry) → length (entry.text e) ≡ entry_length e
length-entry e = simp (length-append, length-u32_bytes) (omega arith)

pub length-entries : (entries : List Entry) → length ((list entry).text entries) ≡ list_length entry_length entries
length-entries entries = length-list entry entry_length length-entry entries

-- ---- parts made of fields

pub length-told : (t : Option Told) → length ((optional told).text t) ≡ told_length t
length-told None = refl
length-told (Some t) = simp (length-append, length-number_bytes, length-u32_bytes) (omega arith)

pub length-place : (p : Place) → length (place.text p) ≡ place_length p
length-place p = simp (length-append, length-number_bytes) (omega (arith, length-key_place p.key))
  where
    length-key_place : (k : KeyPlace) → length (key_place.text k) ≡ key_place_length k
    length-key_place Start = refl
    length-key_place (After p k) = simp length-append (omega arith)
    length-key_place Done = refl

pub length-command : (c : Command) → length (a_command.text c) ≡ command_length c
length-command (command.Set key value) = simp (length-append, length-u32_bytes) (omega arith)
length-command (command.Remove key) = omega arith
length-command (command.Log text) = simp (length-append, length-u32_bytes) (omega arith)

pub length-request : (r : Request) → length (a_request.text r) ≡ request_length r
length-request (request.Set key value) = simp (length-append, length-u32_bytes) (omega arith)
length-request (request.Remove key) = omega arith
length-request (request.Log text) = simp (length-append, length-u32_bytes) (omega arith)
length-request (request.Show s) = refl
length-request (request.Since s version) = simp (length-append, length-number_bytes) (omega arith)

length-shown : (m : ShownMap) → length (shown_text m) ≡ bytes_length (map_text m)
length-shown (map.Kv m) = length-text_bytes (map_text (map.Kv m))
length-shown (map.Log es) = length-text_bytes (map_text (map.Log es))

pub length-reply : (r : Reply) → length (a_reply.text r) ≡ reply_length r
length-reply (reply.Done v) = simp length-number_bytes (omega arith)
length-reply (reply.Shown s paxos v m) = simp (length-append, length-number_bytes) (omega (arith, length-shown m))
length-reply (reply.Since s from incrementals more) = omega (arith, length-append {A = ℕ}, length-number_bytes from, length-blobs incrementals)
length-reply reply.NoSuch = refl
length-reply (reply.TooLong len most) = simp (length-append, length-number_bytes) (omega arith)
length-reply (reply.MapFull would_be) = simp length-number_bytes (omega arith)
length-reply reply.Unavailable = refl
length-reply (reply.NotReadable has lease) = simp (length-append, length-number_bytes) (omega arith)
length-reply (reply.Busy waiting) = simp length-number_bytes (omega arith)

-- ---- tables of scores

-- texts of one length
alike : {A : Type 0} (f : A → List ℕ) (Form : A → Type 0) (k : ℕ) → ((x : A) → Form x → length (f x) ≡ k) → (xs : List A) → AllByRecursion Form xs → length (flat_map f xs) ≡ length xs * k
alike f Form k each [] form = omega arith
alike f Form k each (x ∷ xs) form =
    omega (arith, length-append (f x) (flat_map f xs), each x form.0, alike f Form k each xs form.1, suc-mul (length xs) k)

length-row : (n : ℕ) (r : Row) → n ≤ 15 → (row n).Form r → length ((row n).text r) ≡ 16 + 4 * n
length-row n r few form =
    let told = take n r.scores in
    let ranks : length told ≡ n = omega (arith, length-take n r.scores, form.1.1.ranks) in
    let scores : length (flat_map u32_bytes told) ≡ length told * 4 = alike u32_bytes (λ x. x ≤ full) 4 (λ x most. length-u32_bytes x) told form.1.1.each in
    simp (length-append, length-number_bytes) (omega (arith, ranks, scores))

pub length-scored : (n own : ℕ) (t : Option Scores) → n ≤ 15 → (scored n own).Form t → length ((scored n own).text t) ≡ table_length n t
length-scored n own None few form = refl
length-scored n own (Some t) few form =
    let told = take n t.rows in
    let ranks : length told ≡ n = omega (arith, length-take n t.rows, form.1.ranks) in
    let rows : length (flat_map (row n).text told) ≡ length told * (16 + 4 * n) = alike (row n).text (row n).Form (16 + 4 * n) (λ r. length-row n r few) told form.1.each in
    let all : length (flat_map (row n).text told) ≡ n * (16 + 4 * n) = rw ranks at rows in
    omega (arith, all)
