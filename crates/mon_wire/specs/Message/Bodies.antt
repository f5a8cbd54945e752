-- The bodies of messages among n monitors, sent by the monitor of rank own.
use Rattle.std.specs.Prelude.{ℕ, Bool, List, Option}
use Rattle.mon_bytes.specs.declared.command.Command.{Command}
use Rattle.mon_bytes.specs.declared.entry.Entry.{Entry}
use Rattle.mon_tx.specs.declared.op.Op.{Op}
use Rattle.election_rules.specs.declared.scores.Scores.{Scores}
use Rattle.mon_wire.specs.declared.body.Body.{Body}
use Rattle.mon_wire.specs.declared.body.Body.TheVariants as body
use Rattle.mon_wire.specs.declared.kind.Kind.{Kind}
use Rattle.mon_wire.specs.declared.kind.Kind.TheVariants as kind
use Rattle.mon_wire.specs.declared.parts.Cookie.{Cookie}
use Rattle.mon_wire.specs.declared.parts.Place.{Place}
use Rattle.mon_wire.specs.declared.parts.Told.{Told}
use Rattle.mon_wire.specs.declared.reply.Reply.{Reply}
use Rattle.mon_wire.specs.declared.request.Request.{Request}
use Rattle.mon_wire.specs.Message.Format.{Reader, Format, nothing, ◌⊗◌, list, some, Encoding, encoding, variant}
use Rattle.mon_wire.specs.Message.Fields.{numeral, flag, set, value}
use Rattle.mon_wire.specs.Message.Parts.{optional, cookie, told, place, entry, a_command}
use Rattle.mon_wire.specs.Message.Client.{a_request, a_reply, a_routed}
use Rattle.mon_wire.specs.Message.Scores.{table}

abbrev pub probe_reply : ℕ → Format (List Bool × (ℕ × ℕ))
probe_reply n = set n ⊗ numeral ⊗ numeral

abbrev pub scored : ℕ → ℕ → Format (Option Scores)
scored n own = optional (table n own)

abbrev pub collect : Format (ℕ × (ℕ × ℕ))
collect = numeral ⊗ numeral ⊗ numeral

abbrev pub last : Format (ℕ × (ℕ × (ℕ × (Bool × (ℕ × (List (List Op) × Option Told))))))
last = numeral ⊗ numeral ⊗ numeral ⊗ flag ⊗ numeral ⊗ list value ⊗ optional told

abbrev pub begin : Format (ℕ × (ℕ × List Op))
begin = numeral ⊗ numeral ⊗ value

abbrev pub accept : Format (ℕ × ℕ)
accept = numeral ⊗ numeral

abbrev pub commit : Format (ℕ × List (List Op))
commit = numeral ⊗ some value

abbrev pub forward : Format (ℕ × Command)
forward = numeral ⊗ a_command

abbrev pub route : Format (ℕ × Reply)
route = numeral ⊗ a_routed

abbrev pub granted : Format (Bool × (Cookie × ℕ))
granted = flag ⊗ cookie ⊗ numeral

abbrev pub asked : Format (Cookie × Place)
asked = cookie ⊗ place

abbrev pub chunk : Format (Cookie × (Place × (List (List Op) × (List Entry × Bool))))
chunk = cookie ⊗ place ⊗ list value ⊗ list entry ⊗ flag

abbrev pub last_chunk : Format (Cookie × (Place × (List (List Op) × (List Entry × ℕ))))
last_chunk = cookie ⊗ place ⊗ list value ⊗ list entry ⊗ numeral

abbrev pub request : Format (ℕ × Request)
request = numeral ⊗ a_request

abbrev pub reply : Format (ℕ × Reply)
reply = numeral ⊗ a_reply

-- the byte of the kind, and what follows the header
abbrev pub encoded : ℕ → ℕ → Body → Encoding
encoded n own body.Probe = encoding 1 nothing tt
encoded n own (body.ProbeReply quorum first last) = encoding 2 (probe_reply n) (quorum, (first, last))
encoded n own (body.Propose t) = encoding 3 (scored n own) t
encoded n own body.Ack = encoding 4 nothing tt
encoded n own (body.Victory quorum) = encoding 5 (set n) quorum
encoded n own (body.Collect pn first last) = encoding 6 collect (pn, (first, last))
encoded n own (body.Last pn first l whole from values pending) = encoding 7 last (pn, (first, (l, (whole, (from, (values, pending))))))
encoded n own (body.Begin pn version v) = encoding 8 begin (pn, (version, v))
encoded n own (body.Accept pn version) = encoding 9 accept (pn, version)
encoded n own (body.Commit from values) = encoding 10 commit (from, values)
encoded n own (body.Lease l) = encoding 11 numeral l
encoded n own (body.LeaseAck l) = encoding 12 numeral l
encoded n own (body.Forward seq command) = encoding 13 forward (seq, command)
encoded n own (body.Route seq reply) = encoding 14 route (seq, reply)
encoded n own body.GetCookieFull = encoding 15 nothing tt
encoded n own (body.GetCookieRecent l) = encoding 16 numeral l
encoded n own (body.Cookie full k l) = encoding 17 granted (full, (k, l))
encoded n own (body.GetChunk k at) = encoding 18 asked (k, at)
encoded n own (body.Chunk k at values entries done) = encoding 19 chunk (k, (at, (values, (entries, done))))
encoded n own (body.LastChunk k at values entries l) = encoding 20 last_chunk (k, (at, (values, (entries, l))))
encoded n own (body.NoCookie k) = encoding 21 cookie k
encoded n own (body.Ping t) = encoding 22 (scored n own) t
encoded n own (body.PingReply t) = encoding 23 (scored n own) t
encoded n own (body.Request id r) = encoding 24 request (id, r)
encoded n own (body.Reply id r) = encoding 25 reply (id, r)

-- reading what follows the header
abbrev pub body_at : ℕ → ℕ → Kind → Reader Body
body_at n own kind.Probe = variant nothing (λ x. body.Probe)
body_at n own kind.ProbeReply = variant (probe_reply n) (λ p. body.ProbeReply p.0 p.1.0 p.1.1)
body_at n own kind.Propose = variant (scored n own) (λ t. body.Propose t)
body_at n own kind.Ack = variant nothing (λ x. body.Ack)
body_at n own kind.Victory = variant (set n) (λ quorum. body.Victory quorum)
body_at n own kind.Collect = variant collect (λ p. body.Collect p.0 p.1.0 p.1.1)
body_at n own kind.Last = variant last (λ p. body.Last p.0 p.1.0 p.1.1.0 p.1.1.1.0 p.1.1.1.1.0 p.1.1.1.1.1.0 p.1.1.1.1.1.1)
body_at n own kind.Begin = variant begin (λ p. body.Begin p.0 p.1.0 p.1.1)
body_at n own kind.Accept = variant accept (λ p. body.Accept p.0 p.1)
body_at n own kind.Commit = variant commit (λ p. body.Commit p.0 p.1)
body_at n own kind.Lease = variant numeral (λ l. body.Lease l)
body_at n own kind.LeaseAck = variant numeral (λ l. body.LeaseAck l)
body_at n own kind.Forward = variant forward (λ p. body.Forward p.0 p.1)
body_at n own kind.Route = variant route (λ p. body.Route p.0 p.1)
body_at n own kind.GetCookieFull = variant nothing (λ x. body.GetCookieFull)
body_at n own kind.GetCookieRecent = variant numeral (λ l. body.GetCookieRecent l)
body_at n own kind.Cookie = variant granted (λ p. body.Cookie p.0 p.1.0 p.1.1)
body_at n own kind.GetChunk = variant asked (λ p. body.GetChunk p.0 p.1)
body_at n own kind.Chunk = variant chunk (λ p. body.Chunk p.0 p.1.0 p.1.1.0 p.1.1.1.0 p.1.1.1.1)
body_at n own kind.LastChunk = variant last_chunk (λ p. body.LastChunk p.0 p.1.0 p.1.1.0 p.1.1.1.0 p.1.1.1.1)
body_at n own kind.NoCookie = variant cookie (λ k. body.NoCookie k)
body_at n own kind.Ping = variant (scored n own) (λ t. body.Ping t)
body_at n own kind.PingReply = variant (scored n own) (λ t. body.PingReply t)
body_at n own kind.Request = variant request (λ p. body.Request p.0 p.1)
body_at n own kind.Reply = variant reply (λ p. body.Reply p.0 p.1)
