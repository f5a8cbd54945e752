-- What clients ask and are answered.
use Rattle.std.specs.Prelude.{ℕ, Bool, true, false, List, [], ◌∷◌, IsTrue}
use Rattle.mon_wire.specs.declared.reply.ShownMap.{ShownMap}
use Rattle.mon_wire.specs.declared.reply.Reply.{Reply}
use Rattle.mon_wire.specs.declared.reply.Reply.TheVariants as reply
use Rattle.mon_wire.specs.declared.request.Service.{Service}
use Rattle.mon_wire.specs.declared.request.Request.{Request}
use Rattle.mon_wire.specs.declared.request.Request.TheVariants as request
use Rattle.mon_wire.specs.Message.Format.{Reader, Format, nothing, dependent, ◌⊗◌, list, Encoding, encoding, variant, tagged, choice}
use Rattle.mon_wire.specs.Message.Fields.{numeral, flag, utf8, name, blob, service}
use Rattle.mon_wire.specs.Message.Parts.{shown_map}

abbrev pub request_encoded : Request → Encoding
request_encoded (request.Set key value) = encoding 1 (name ⊗ utf8) (key, value)
request_encoded (request.Remove key) = encoding 2 name key
request_encoded (request.Log text) = encoding 3 utf8 text
request_encoded (request.Show s) = encoding 4 service s
request_encoded (request.Since s version) = encoding 5 (service ⊗ numeral) (s, version)

abbrev pub request_kinds : List (ℕ × Reader Request)
request_kinds =
    (1, variant (name ⊗ utf8) (λ p. request.Set p.0 p.1)) ∷ (2, variant name (λ key. request.Remove key)) ∷ (3, variant utf8 (λ text. request.Log text))
    ∷ (4, variant service (λ s. request.Show s)) ∷ (5, variant (service ⊗ numeral) (λ p. request.Since p.0 p.1)) ∷ []

unfoldable pub request_at : Reader Request
request_at c = tagged request_kinds c

abbrev pub a_request : Format Request
a_request = choice request_encoded request_at

-- ---- replies

abbrev pub shown : Format (Service × (ℕ × (ℕ × ShownMap)))
shown = dependent service (λ s. numeral ⊗ numeral ⊗ shown_map s)

abbrev pub since : Format (Service × (ℕ × (Bool × List (List ℕ))))
since = service ⊗ numeral ⊗ flag ⊗ list blob

abbrev pub reply_encoded : Reply → Encoding
reply_encoded (reply.Done version) = encoding 1 numeral version
reply_encoded (reply.Shown s paxos version m) = encoding 2 shown (s, (paxos, (version, m)))
reply_encoded (reply.Since s from incrementals more) = encoding 3 since (s, (from, (more, incrementals)))
reply_encoded reply.NoSuch = encoding 4 nothing tt
reply_encoded (reply.TooLong len most) = encoding 5 (numeral ⊗ numeral) (len, most)
reply_encoded (reply.MapFull would_be) = encoding 6 numeral would_be
reply_encoded reply.Unavailable = encoding 7 nothing tt
reply_encoded (reply.NotReadable has lease) = encoding 8 (numeral ⊗ flag) (has, lease)
reply_encoded (reply.Busy waiting) = encoding 9 numeral waiting

-- what a leader answers to a command that a peon handed on
abbrev pub routed_kinds : List (ℕ × Reader Reply)
routed_kinds =
    (1, variant numeral (λ version. reply.Done version)) ∷ (4, variant nothing (λ x. reply.NoSuch)) ∷ (5, variant (numeral ⊗ numeral) (λ p. reply.TooLong p.0 p.1))
    ∷ (6, variant numeral (λ would_be. reply.MapFull would_be)) ∷ (9, variant numeral (λ waiting. reply.Busy waiting)) ∷ []

abbrev pub reply_kinds : List (ℕ × Reader Reply)
reply_kinds =
    (2, variant shown (λ p. reply.Shown p.0 p.1.0 p.1.1.0 p.1.1.1)) ∷ (3, variant since (λ p. reply.Since p.0 p.1.0 p.1.1.1 p.1.1.0))
    ∷ (7, variant nothing (λ x. reply.Unavailable)) ∷ (8, variant (numeral ⊗ flag) (λ p. reply.NotReadable p.0 p.1)) ∷ routed_kinds

unfoldable pub routed_at : Reader Reply
routed_at c = tagged routed_kinds c

unfoldable pub reply_at : Reader Reply
reply_at c = tagged reply_kinds c

abbrev pub a_reply : Format Reply
a_reply = choice reply_encoded reply_at

abbrev pub is_routed : Reply → Bool
is_routed (reply.Done version) = true
is_routed (reply.Shown s paxos version m) = false
is_routed (reply.Since s from incrementals more) = false
is_routed reply.NoSuch = true
is_routed (reply.TooLong len most) = true
is_routed (reply.MapFull would_be) = true
is_routed reply.Unavailable = false
is_routed (reply.NotReadable has lease) = false
is_routed (reply.Busy waiting) = true

abbrev pub a_routed : Format Reply
a_routed = record { text = a_reply.text; read = routed_at; Form = λ r. IsTrue (is_routed r) × a_reply.Form r }
