-- The formats of the parts of messages read what they encode.
use Rattle.std.proofs.Common.{◌≡◌, ℕ, ◌^◌, ◌<◌, List, ◌++◌, length, Option, Some, None, Result, Ok, Err, refl, subst}
use Rattle.mon_bytes.specs.declared.command.Command.{Command}
use Rattle.mon_bytes.specs.declared.command.Command.TheVariants as command
use Rattle.mon_bytes.specs.declared.command.MapRefused.{MapRefused}
use Rattle.mon_bytes.specs.declared.entry.KeyPlace.{KeyPlace}
use Rattle.mon_bytes.specs.declared.entry.KeyPlace.TheVariants.{Start, After, Done}
use Rattle.mon_bytes.specs.Reading.{IsBytes, Reading, number, next_bytes}
use Rattle.mon_bytes.specs.Forms.{text_bytes}
use Rattle.mon_bytes.proofs.Fields.{ok_is, Takes, Found}
use Rattle.map_kv.specs.Text.{map_text as kv_text}
use Rattle.map_kv.specs.Decode.{map_of as kv_of}
use Rattle.map_kv.proofs.Laws.{map_is_found as kv_is_found}
use Rattle.map_kv.proofs.Again.{map_again as kv_again}
use Rattle.map_log.specs.Text.{map_text as log_text}
use Rattle.map_log.specs.Decode.{map_of as log_of}
use Rattle.map_log.proofs.Laws.{map_is_found as log_is_found}
use Rattle.map_log.proofs.Again.{map_again as log_again}
use Rattle.mon_wire.specs.declared.reply.ShownMap.{ShownMap}
use Rattle.mon_wire.specs.declared.reply.ShownMap.TheVariants as map
use Rattle.mon_wire.specs.declared.request.Service.{Service}
use Rattle.mon_wire.specs.declared.request.Service.TheVariants as service
use Rattle.mon_wire.specs.Message.Format.{faults, ◌>>=◌, cut, Format, nothing, ◌⊗◌, tagged}
use Rattle.mon_wire.specs.Message.Fields.{numeral, utf8, name, prefix, blob, value}
use Rattle.mon_wire.specs.Message.Parts.{option_encoded, option_kinds, optional, cookie, told, key_place_encoded, key_place_kinds, key_place_at, key_place, place, entry, command_encoded, command_kinds, command_at, a_command, map_at, shown_map_at, shown_text, ShownFits, shown_map}
use Rattle.mon_bytes.proofs.Formats.{bind_ok, IsLawful, nothing-lawful, dependent-lawful, as_parts-lawful, variant_takes, choice_takes, variant_found}
use Rattle.mon_decode.proofs.FieldLaws.{numeral-lawful, blob-lawful, utf8-lawful, word-lawful, value-lawful, length_takes, length_found, counted_bytes}

pub then-lawful : {A B : Type 0} (f : Format A) (g : Format B) → IsLawful f → IsLawful g → IsLawful (f ⊗ g)
then-lawful f g lf lg = dependent-lawful f (λ x. g) lf (λ x. lg)

pub optional-lawful : {A : Type 0} (f : Format A) → IsLawful f → IsLawful (optional f)
optional-lawful {A} f lf = record {
  takes = choice_takes faults (option_encoded f) (option_kinds f) (
    variant_takes (option_encoded f) 0 nothing (λ x. None) nothing-lawful (λ a. refl) (λ a. refl) (λ a h. h),
    (variant_takes (option_encoded f) 1 f (λ x. Some x) lf (λ a. refl) (λ a. refl) (λ a h. h), tt),
  );
  found = found;
}
  where
    found : (c : Reading) (x : Option A) (rest : List ℕ) → c.rest ≡ (optional f).text x ++ rest → (optional f).Form x → Found (tagged (option_kinds f) c) x rest
    found c None rest e form = variant_found faults (option_kinds f) nothing (λ x. None) 0 nothing-lawful (λ at d. refl) c tt rest e form
    found c (Some x) rest e form = variant_found faults (option_kinds f) f (λ x. Some x) 1 lf (λ at d. refl) c x rest e form

pub cookie-lawful : IsLawful cookie
cookie-lawful = as_parts-lawful (numeral ⊗ numeral) (λ p. record { boot = p.0; seq = p.1 }) (λ k. (k.boot, k.seq)) (then-lawful numeral numeral numeral-lawful numeral-lawful) (λ x. refl) (λ y. refl)

pub told-lawful : IsLawful told
told-lawful = as_parts-lawful (numeral ⊗ value) (λ p. record { pn = p.0; value = p.1 }) (λ t. (t.pn, t.value)) (then-lawful numeral value numeral-lawful value-lawful) (λ x. refl) (λ y. refl)

-- ---- places and entries

after-lawful : IsLawful (prefix ⊗ name)
after-lawful = then-lawful prefix name (word-lawful 32) (word-lawful 255)

key_place_takes : (c : Reading) (x : KeyPlace × Reading) → IsBytes c.rest → key_place_at c ≡ Ok x → Takes c (key_place.text x.0) x.1 × key_place.Form x.0
unfolding key_place_at
key_place_takes = choice_takes faults key_place_encoded key_place_kinds (
  variant_takes key_place_encoded 0 nothing (λ x. Start) nothing-lawful (λ a. refl) (λ a. refl) (λ a h. h),
  (
    variant_takes key_place_encoded 1 (prefix ⊗ name) (λ p. After p.0 p.1) after-lawful (λ a. refl) (λ a. refl) (λ a h. h),
    (variant_takes key_place_encoded 2 nothing (λ x. Done) nothing-lawful (λ a. refl) (λ a. refl) (λ a h. h), tt),
  ),
)

key_place_found : (c : Reading) (x : KeyPlace) (rest : List ℕ) → c.rest ≡ key_place.text x ++ rest → key_place.Form x → Found (key_place_at c) x rest
unfolding key_place_at
key_place_found c Start rest e form = variant_found faults key_place_kinds nothing (λ x. Start) 0 nothing-lawful (λ at d. refl) c tt rest e form
key_place_found c (After p k) rest e form = variant_found faults key_place_kinds (prefix ⊗ name) (λ p. After p.0 p.1) 1 after-lawful (λ at d. refl) c (p, k) rest e form
key_place_found c Done rest e form = variant_found faults key_place_kinds nothing (λ x. Done) 2 nothing-lawful (λ at d. refl) c tt rest e form

pub place-lawful : IsLawful place
place-lawful =
    as_parts-lawful (numeral ⊗ key_place) (λ p. record { version = p.0; key = p.1 }) (λ x. (x.version, x.key))
    (then-lawful numeral key_place numeral-lawful (record { takes = key_place_takes; found = key_place_found })) (λ x. refl) (λ y. refl)

pub entry-lawful : IsLawful entry
entry-lawful =
    as_parts-lawful (prefix ⊗ name ⊗ blob) (λ p. record { prefix = p.0; key = p.1.0; value = p.1.1 }) (λ e. (e.prefix, (e.key, e.value)))
    (then-lawful prefix (name ⊗ blob) (word-lawful 32) (then-lawful name blob (word-lawful 255) blob-lawful)) (λ x. refl) (λ y. refl)

-- ---- commands

pub set-lawful : IsLawful (name ⊗ utf8)
set-lawful = then-lawful name utf8 (word-lawful 255) utf8-lawful

command_takes : (c : Reading) (x : Command × Reading) → IsBytes c.rest → command_at c ≡ Ok x → Takes c (a_command.text x.0) x.1 × a_command.Form x.0
unfolding command_at
command_takes = choice_takes faults command_encoded command_kinds (
  variant_takes command_encoded 1 (name ⊗ utf8) (λ p. command.Set p.0 p.1) set-lawful (λ a. refl) (λ a. refl) (λ a h. h),
  (
    variant_takes command_encoded 2 name (λ key. command.Remove key) (word-lawful 255) (λ a. refl) (λ a. refl) (λ a h. h),
    (variant_takes command_encoded 3 utf8 (λ text. command.Log text) utf8-lawful (λ a. refl) (λ a. refl) (λ a h. h), tt),
  ),
)

command_found : (c : Reading) (x : Command) (rest : List ℕ) → c.rest ≡ a_command.text x ++ rest → a_command.Form x → Found (command_at c) x rest
unfolding command_at
command_found c (command.Set key v) rest e form = variant_found faults command_kinds (name ⊗ utf8) (λ p. command.Set p.0 p.1) 1 set-lawful (λ at d. refl) c (key, v) rest e form
command_found c (command.Remove key) rest e form = variant_found faults command_kinds name (λ key. command.Remove key) 2 (word-lawful 255) (λ at d. refl) c key rest e form
command_found c (command.Log text) rest e form = variant_found faults command_kinds utf8 (λ text. command.Log text) 3 utf8-lawful (λ at d. refl) c text rest e form

pub a_command-lawful : IsLawful a_command
a_command-lawful = record { takes = command_takes; found = command_found }

-- ---- the map of a service

map_ok : {M : Type 0} (shown : M → ShownMap) (at : ℕ) (after : Reading) (r : Result M MapRefused) (x : ShownMap × Reading) → map_at shown at after r ≡ Ok x → (m : M) × (r ≡ Ok m) × ((shown m, after) ≡ x)
map_ok shown at after (Ok m) x e = (m, refl, ok_is (shown m, after) x e)
map_ok shown at after (Err d) x e = absurd cc

shown_map_takes : (s : Service) (c : Reading) (x : ShownMap × Reading) → IsBytes c.rest → shown_map_at s c ≡ Ok x → Takes c (shown_text x.0) x.1 × ShownFits s x.0
unfolding shown_map_at
shown_map_takes service.Kv c x fits e =
    let a = bind_ok (cut (number 4 c)) (λ n. cut (next_bytes n.0 n.1) >>= λ bytes. map_at map.Kv n.1.at bytes.1 (kv_of bytes.0)) x e in
    let b = bind_ok (cut (next_bytes a.0.0 a.0.1)) (λ bytes. map_at map.Kv a.0.1.at bytes.1 (kv_of bytes.0)) x a.2 in
    let t = length_takes c a.0 b.0 fits a.1 b.1 in
    let m = map_ok map.Kv a.0.1.at b.0.1 (kv_of b.0.0) x b.2 in
    let is = kv_is_found b.0.0 (Ok m.0) (counted_bytes c b.0.1 b.0.0 fits t.0) m.1 in
    subst (λ (p : ShownMap × Reading). Takes c (shown_text p.0) p.1 × ShownFits service.Kv p.0) m.2
    (subst (λ (bytes : List ℕ). Takes c (text_bytes bytes) b.0.1) is.1 t.0, (is.0, subst (λ (bytes : List ℕ). length bytes < 2 ^ 32) is.1 t.1))
shown_map_takes service.Log c x fits e =
    let a = bind_ok (cut (number 4 c)) (λ n. cut (next_bytes n.0 n.1) >>= λ bytes. map_at map.Log n.1.at bytes.1 (log_of bytes.0)) x e in
    let b = bind_ok (cut (next_bytes a.0.0 a.0.1)) (λ bytes. map_at map.Log a.0.1.at bytes.1 (log_of bytes.0)) x a.2 in
    let t = length_takes c a.0 b.0 fits a.1 b.1 in
    let m = map_ok map.Log a.0.1.at b.0.1 (log_of b.0.0) x b.2 in
    let is = log_is_found b.0.0 (Ok m.0) (counted_bytes c b.0.1 b.0.0 fits t.0) m.1 in
    subst (λ (p : ShownMap × Reading). Takes c (shown_text p.0) p.1 × ShownFits service.Log p.0) m.2
    (subst (λ (bytes : List ℕ). Takes c (text_bytes bytes) b.0.1) is.1 t.0, (is.0, subst (λ (bytes : List ℕ). length bytes < 2 ^ 32) is.1 t.1))

shown_map_found : (s : Service) (c : Reading) (x : ShownMap) (rest : List ℕ) → c.rest ≡ shown_text x ++ rest → ShownFits s x → Found (shown_map_at s c) x rest
unfolding shown_map_at
shown_map_found service.Kv c (map.Kv m) rest e form = let s = length_found c (kv_text m) rest e form.1 in (s.after, s.ends, rw (s.first, s.others, kv_again m form.0) refl)
shown_map_found service.Log c (map.Log es) rest e form = let s = length_found c (log_text es) rest e form.1 in (s.after, s.ends, rw (s.first, s.others, log_again es form.0) refl)
shown_map_found service.Kv c (map.Log es) rest e form = absurd form
shown_map_found service.Log c (map.Kv m) rest e form = absurd form

pub shown_map-lawful : (s : Service) → IsLawful (shown_map s)
shown_map-lawful s = record { takes = shown_map_takes s; found = shown_map_found s }
