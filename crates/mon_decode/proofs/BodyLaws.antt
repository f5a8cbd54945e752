-- The formats of bodies read what they encode.
use Rattle.std.proofs.Common.{◌≡◌, ℕ, ◌≤◌, List, ◌++◌, refl}
use Rattle.mon_bytes.specs.Reading.{Reading}
use Rattle.mon_bytes.proofs.Fields.{Found}
use Rattle.mon_wire.specs.declared.body.Body.{Body}
use Rattle.mon_wire.specs.declared.body.Body.TheVariants as body
use Rattle.mon_wire.specs.declared.kind.Kind.{Kind}
use Rattle.mon_wire.specs.declared.kind.Kind.TheVariants as kind
use Rattle.mon_wire.specs.Message.Format.{faults, Format, nothing, ◌⊗◌, list, some, variant}
use Rattle.mon_wire.specs.Message.Fields.{numeral, flag, set, value}
use Rattle.mon_wire.specs.Message.Parts.{optional, cookie, told, place, entry, a_command}
use Rattle.mon_wire.specs.Message.Client.{a_request, a_reply, a_routed}
use Rattle.mon_wire.specs.Message.Scores.{table}
use Rattle.mon_wire.specs.Message.Bodies.{probe_reply, scored, collect, last, begin, accept, commit, forward, route, granted, asked, chunk, last_chunk, request, reply, encoded, body_at}
use Rattle.mon_bytes.proofs.Formats.{IsLawful, nothing-lawful, list-lawful, some-lawful, TakesVariant, variant_takes}
use Rattle.mon_decode.specs.Headers.{kind_byte, kind_in}
use Rattle.mon_decode.proofs.FieldLaws.{numeral-lawful, flag-lawful, value-lawful}
use Rattle.mon_decode.proofs.PartLaws.{then-lawful, optional-lawful, cookie-lawful, told-lawful, place-lawful, entry-lawful, a_command-lawful}
use Rattle.mon_decode.proofs.ClientLaws.{a_request-lawful, a_reply-lawful, a_routed-lawful}
use Rattle.mon_decode.proofs.ScoreLaws.{set-lawful, table-lawful}

scored-lawful : (n own : ℕ) → n ≤ 15 → IsLawful (scored n own)
scored-lawful n own few = optional-lawful (table n own) (table-lawful n own few)

accept-lawful : IsLawful accept
accept-lawful = then-lawful numeral numeral numeral-lawful numeral-lawful

probe_reply-lawful : (n : ℕ) → n ≤ 15 → IsLawful (probe_reply n)
probe_reply-lawful n few = then-lawful (set n) (numeral ⊗ numeral) (set-lawful n few) accept-lawful

collect-lawful : IsLawful collect
collect-lawful = then-lawful numeral (numeral ⊗ numeral) numeral-lawful accept-lawful

values-lawful : IsLawful (list value)
values-lawful = list-lawful faults value value-lawful

entries-lawful : IsLawful (list entry)
entries-lawful = list-lawful faults entry entry-lawful

last-lawful : IsLawful last
last-lawful =
    then-lawful numeral (numeral ⊗ numeral ⊗ flag ⊗ numeral ⊗ list value ⊗ optional told) numeral-lawful
    (then-lawful numeral (numeral ⊗ flag ⊗ numeral ⊗ list value ⊗ optional told) numeral-lawful
    (then-lawful numeral (flag ⊗ numeral ⊗ list value ⊗ optional told) numeral-lawful
    (then-lawful flag (numeral ⊗ list value ⊗ optional told) flag-lawful
    (then-lawful numeral (list value ⊗ optional told) numeral-lawful
    (then-lawful (list value) (optional told) values-lawful (optional-lawful told told-lawful))))))

begin-lawful : IsLawful begin
begin-lawful = then-lawful numeral (numeral ⊗ value) numeral-lawful (then-lawful numeral value numeral-lawful value-lawful)

commit-lawful : IsLawful commit
commit-lawful = then-lawful numeral (some value) numeral-lawful (some-lawful faults value value-lawful)

forward-lawful : IsLawful forward
forward-lawful = then-lawful numeral a_command numeral-lawful a_command-lawful

route-lawful : IsLawful route
route-lawful = then-lawful numeral a_routed numeral-lawful a_routed-lawful

granted-lawful : IsLawful granted
granted-lawful = then-lawful flag (cookie ⊗ numeral) flag-lawful (then-lawful cookie numeral cookie-lawful numeral-lawful)

asked-lawful : IsLawful asked
asked-lawful = then-lawful cookie place cookie-lawful place-lawful

chunk-lawful : IsLawful chunk
chunk-lawful =
    then-lawful cookie (place ⊗ list value ⊗ list entry ⊗ flag) cookie-lawful (then-lawful place (list value ⊗ list entry ⊗ flag) place-lawful
    (then-lawful (list value) (list entry ⊗ flag) values-lawful (then-lawful (list entry) flag entries-lawful flag-lawful)))

last_chunk-lawful : IsLawful last_chunk
last_chunk-lawful =
    then-lawful cookie (place ⊗ list value ⊗ list entry ⊗ numeral) cookie-lawful (then-lawful place (list value ⊗ list entry ⊗ numeral) place-lawful
    (then-lawful (list value) (list entry ⊗ numeral) values-lawful (then-lawful (list entry) numeral entries-lawful numeral-lawful)))

request-lawful : IsLawful request
request-lawful = then-lawful numeral a_request numeral-lawful a_request-lawful

reply-lawful : IsLawful reply
reply-lawful = then-lawful numeral a_reply numeral-lawful a_reply-lawful

-- ---- by kind

pub body_takes : (n own : ℕ) → n ≤ 15 → (k : Kind) → TakesVariant (encoded n own) (kind_byte k, body_at n own k)
body_takes n own few kind.Probe = variant_takes (encoded n own) 1 nothing (λ x. body.Probe) nothing-lawful (λ a. refl) (λ a. refl) (λ a h. h)
body_takes n own few kind.ProbeReply = variant_takes (encoded n own) 2 (probe_reply n) (λ p. body.ProbeReply p.0 p.1.0 p.1.1) (probe_reply-lawful n few) (λ a. refl) (λ a. refl) (λ a h. h)
body_takes n own few kind.Propose = variant_takes (encoded n own) 3 (scored n own) (λ t. body.Propose t) (scored-lawful n own few) (λ a. refl) (λ a. refl) (λ a h. h)
body_takes n own few kind.Ack = variant_takes (encoded n own) 4 nothing (λ x. body.Ack) nothing-lawful (λ a. refl) (λ a. refl) (λ a h. h)
body_takes n own few kind.Victory = variant_takes (encoded n own) 5 (set n) (λ quorum. body.Victory quorum) (set-lawful n few) (λ a. refl) (λ a. refl) (λ a h. h)
body_takes n own few kind.Collect = variant_takes (encoded n own) 6 collect (λ p. body.Collect p.0 p.1.0 p.1.1) collect-lawful (λ a. refl) (λ a. refl) (λ a h. h)
body_takes n own few kind.Last = variant_takes (encoded n own) 7 last (λ p. body.Last p.0 p.1.0 p.1.1.0 p.1.1.1.0 p.1.1.1.1.0 p.1.1.1.1.1.0 p.1.1.1.1.1.1) last-lawful (λ a. refl) (λ a. refl) (λ a h. h)
body_takes n own few kind.Begin = variant_takes (encoded n own) 8 begin (λ p. body.Begin p.0 p.1.0 p.1.1) begin-lawful (λ a. refl) (λ a. refl) (λ a h. h)
body_takes n own few kind.Accept = variant_takes (encoded n own) 9 accept (λ p. body.Accept p.0 p.1) accept-lawful (λ a. refl) (λ a. refl) (λ a h. h)
body_takes n own few kind.Commit = variant_takes (encoded n own) 10 commit (λ p. body.Commit p.0 p.1) commit-lawful (λ a. refl) (λ a. refl) (λ a h. h)
body_takes n own few kind.Lease = variant_takes (encoded n own) 11 numeral (λ l. body.Lease l) numeral-lawful (λ a. refl) (λ a. refl) (λ a h. h)
body_takes n own few kind.LeaseAck = variant_takes (encoded n own) 12 numeral (λ l. body.LeaseAck l) numeral-lawful (λ a. refl) (λ a. refl) (λ a h. h)
body_takes n own few kind.Forward = variant_takes (encoded n own) 13 forward (λ p. body.Forward p.0 p.1) forward-lawful (λ a. refl) (λ a. refl) (λ a h. h)
body_takes n own few kind.Route = variant_takes (encoded n own) 14 route (λ p. body.Route p.0 p.1) route-lawful (λ a. refl) (λ a. refl) (λ a h. h)
body_takes n own few kind.GetCookieFull = variant_takes (encoded n own) 15 nothing (λ x. body.GetCookieFull) nothing-lawful (λ a. refl) (λ a. refl) (λ a h. h)
body_takes n own few kind.GetCookieRecent = variant_takes (encoded n own) 16 numeral (λ l. body.GetCookieRecent l) numeral-lawful (λ a. refl) (λ a. refl) (λ a h. h)
body_takes n own few kind.Cookie = variant_takes (encoded n own) 17 granted (λ p. body.Cookie p.0 p.1.0 p.1.1) granted-lawful (λ a. refl) (λ a. refl) (λ a h. h)
body_takes n own few kind.GetChunk = variant_takes (encoded n own) 18 asked (λ p. body.GetChunk p.0 p.1) asked-lawful (λ a. refl) (λ a. refl) (λ a h. h)
body_takes n own few kind.Chunk = variant_takes (encoded n own) 19 chunk (λ p. body.Chunk p.0 p.1.0 p.1.1.0 p.1.1.1.0 p.1.1.1.1) chunk-lawful (λ a. refl) (λ a. refl) (λ a h. h)
body_takes n own few kind.LastChunk = variant_takes (encoded n own) 20 last_chunk (λ p. body.LastChunk p.0 p.1.0 p.1.1.0 p.1.1.1.0 p.1.1.1.1) last_chunk-lawful (λ a. refl) (λ a. refl) (λ a h. h)
body_takes n own few kind.NoCookie = variant_takes (encoded n own) 21 cookie (λ k. body.NoCookie k) cookie-lawful (λ a. refl) (λ a. refl) (λ a h. h)
body_takes n own few kind.Ping = variant_takes (encoded n own) 22 (scored n own) (λ t. body.Ping t) (scored-lawful n own few) (λ a. refl) (λ a. refl) (λ a h. h)
body_takes n own few kind.PingReply = variant_takes (encoded n own) 23 (scored n own) (λ t. body.PingReply t) (scored-lawful n own few) (λ a. refl) (λ a. refl) (λ a h. h)
body_takes n own few kind.Request = variant_takes (encoded n own) 24 request (λ p. body.Request p.0 p.1) request-lawful (λ a. refl) (λ a. refl) (λ a h. h)
body_takes n own few kind.Reply = variant_takes (encoded n own) 25 reply (λ p. body.Reply p.0 p.1) reply-lawful (λ a. refl) (λ a. refl) (λ a h. h)

pub tag-is : (n own : ℕ) (b : Body) → (encoded n own b).tag ≡ kind_byte (kind_in b)
tag-is n own body.Probe = refl
tag-is n own (body.ProbeReply quorum first last) = refl
tag-is n own (body.Propose t) = refl
tag-is n own body.Ack = refl
tag-is n own (body.Victory quorum) = refl
tag-is n own (body.Collect pn first last) = refl
tag-is n own (body.Last pn first l whole from values pending) = refl
tag-is n own (body.Begin pn version v) = refl
tag-is n own (body.Accept pn version) = refl
tag-is n own (body.Commit from values) = refl
tag-is n own (body.Lease l) = refl
tag-is n own (body.LeaseAck l) = refl
tag-is n own (body.Forward seq command) = refl
tag-is n own (body.Route seq reply) = refl
tag-is n own body.GetCookieFull = refl
tag-is n own (body.GetCookieRecent l) = refl
tag-is n own (body.Cookie full k l) = refl
tag-is n own (body.GetChunk k at) = refl
tag-is n own (body.Chunk k at values entries done) = refl
tag-is n own (body.LastChunk k at values entries l) = refl
tag-is n own (body.NoCookie k) = refl
tag-is n own (body.Ping t) = refl
tag-is n own (body.PingReply t) = refl
tag-is n own (body.Request id r) = refl
tag-is n own (body.Reply id r) = refl

found_by : {A B : Type 0} (f : Format A) (whole : A → B) → IsLawful f → (c : Reading) (a : A) (rest : List ℕ) → c.rest ≡ f.text a ++ rest → f.Form a → Found (variant f whole c) (whole a) rest
found_by f whole lf c a rest e form = let b = lf.found c a rest e form in (b.0, b.1, rw b.2 refl)

pub body_found : (n own : ℕ) → n ≤ 15 → (b : Body) (c : Reading) (rest : List ℕ) → c.rest ≡ (encoded n own b).text ++ rest → (encoded n own b).Form
    → Found (body_at n own (kind_in b) c) b rest
body_found n own few body.Probe c rest e form = found_by nothing (λ x. body.Probe) nothing-lawful c tt rest e form
body_found n own few (body.ProbeReply quorum first last) c rest e form = found_by (probe_reply n) (λ p. body.ProbeReply p.0 p.1.0 p.1.1) (probe_reply-lawful n few) c (quorum, (first, last)) rest e form
body_found n own few (body.Propose t) c rest e form = found_by (scored n own) (λ t. body.Propose t) (scored-lawful n own few) c t rest e form
body_found n own few body.Ack c rest e form = found_by nothing (λ x. body.Ack) nothing-lawful c tt rest e form
body_found n own few (body.Victory quorum) c rest e form = found_by (set n) (λ quorum. body.Victory quorum) (set-lawful n few) c quorum rest e form
body_found n own few (body.Collect pn first last) c rest e form = found_by collect (λ p. body.Collect p.0 p.1.0 p.1.1) collect-lawful c (pn, (first, last)) rest e form
body_found n own few (body.Last pn first l whole from values pending) c rest e form = found_by last (λ p. body.Last p.0 p.1.0 p.1.1.0 p.1.1.1.0 p.1.1.1.1.0 p.1.1.1.1.1.0 p.1.1.1.1.1.1) last-lawful c (pn, (first, (l, (whole, (from, (values, pending)))))) rest e form
body_found n own few (body.Begin pn version v) c rest e form = found_by begin (λ p. body.Begin p.0 p.1.0 p.1.1) begin-lawful c (pn, (version, v)) rest e form
body_found n own few (body.Accept pn version) c rest e form = found_by accept (λ p. body.Accept p.0 p.1) accept-lawful c (pn, version) rest e form
body_found n own few (body.Commit from values) c rest e form = found_by commit (λ p. body.Commit p.0 p.1) commit-lawful c (from, values) rest e form
body_found n own few (body.Lease l) c rest e form = found_by numeral (λ l. body.Lease l) numeral-lawful c l rest e form
body_found n own few (body.LeaseAck l) c rest e form = found_by numeral (λ l. body.LeaseAck l) numeral-lawful c l rest e form
body_found n own few (body.Forward seq command) c rest e form = found_by forward (λ p. body.Forward p.0 p.1) forward-lawful c (seq, command) rest e form
body_found n own few (body.Route seq reply) c rest e form = found_by route (λ p. body.Route p.0 p.1) route-lawful c (seq, reply) rest e form
body_found n own few body.GetCookieFull c rest e form = found_by nothing (λ x. body.GetCookieFull) nothing-lawful c tt rest e form
body_found n own few (body.GetCookieRecent l) c rest e form = found_by numeral (λ l. body.GetCookieRecent l) numeral-lawful c l rest e form
body_found n own few (body.Cookie full k l) c rest e form = found_by granted (λ p. body.Cookie p.0 p.1.0 p.1.1) granted-lawful c (full, (k, l)) rest e form
body_found n own few (body.GetChunk k at) c rest e form = found_by asked (λ p. body.GetChunk p.0 p.1) asked-lawful c (k, at) rest e form
body_found n own few (body.Chunk k at values entries done) c rest e form = found_by chunk (λ p. body.Chunk p.0 p.1.0 p.1.1.0 p.1.1.1.0 p.1.1.1.1) chunk-lawful c (k, (at, (values, (entries, done)))) rest e form
body_found n own few (body.LastChunk k at values entries l) c rest e form = found_by last_chunk (λ p. body.LastChunk p.0 p.1.0 p.1.1.0 p.1.1.1.0 p.1.1.1.1) last_chunk-lawful c (k, (at, (values, (entries, l)))) rest e form
body_found n own few (body.NoCookie k) c rest e form = found_by cookie (λ k. body.NoCookie k) cookie-lawful c k rest e form
body_found n own few (body.Ping t) c rest e form = found_by (scored n own) (λ t. body.Ping t) (scored-lawful n own few) c t rest e form
body_found n own few (body.PingReply t) c rest e form = found_by (scored n own) (λ t. body.PingReply t) (scored-lawful n own few) c t rest e form
body_found n own few (body.Request id r) c rest e form = found_by request (λ p. body.Request p.0 p.1) request-lawful c (id, r) rest e form
body_found n own few (body.Reply id r) c rest e form = found_by reply (λ p. body.Reply p.0 p.1) reply-lawful c (id, r) rest e form
