-- An event that has a line of a schedule may happen.
use Rattle.std.proofs.Common.{ℕ, ◌-◌, ◌^◌, ◌≤◌, ◌<◌, ◌&&◌, leb, ltb, List, ◌∷◌, length, IsTrue, arith, length-append}
use Rattle.std.specs.List.{list_all}
use Rattle.std.specs.Prelude.{codes, decimal}
use Rattle.std.proofs.lemmas.Bool.Decides.{nat_tests}
use Rattle.mon_bounds.specs.Fitting.{IsRequest}
use Rattle.mon_bytes.proofs.Ascii.{both}
use Rattle.mon_bytes.specs.Texts.{is_name}
use Rattle.mon_types.specs.declared.names.Side.{Side}
use Rattle.mon_wire.specs.declared.request.Request.{Request}
use Rattle.mon_wire.specs.declared.request.Request.TheVariants as request
use Rattle.mon_wire.specs.declared.request.Session.{Session}
use Rattle.schedule_text.proofs.FieldLaws.{is_utf8-printable}
use Rattle.schedule_text.specs.Fields.{within}
use Rattle.schedule_text.specs.Encoding.{event_fits, event_text, most_bytes, plain_fits, plain_text, request_fits, request_text, spaced, injected_text}
use Rattle.schedule_text.specs.Words.{printable, side_text}
use Rattle.schedule_text.specs.declared.event.Event.{Event}
use Rattle.schedule_text.specs.declared.event.Event.TheVariants as events
use Rattle.schedule_text.specs.declared.event.Plain.{Plain}
use Rattle.schedule_text.specs.declared.event.Plain.TheVariants as plain
use Rattle.mon_world.specs.Represented.{Fits, FitsPlain, FitsInjected}

below : (n k : ℕ) → IsTrue (ltb k n) → k < n
below n k h = grind (arith, nat_tests)

at_most : (n k : ℕ) → IsTrue (leb k n) → k ≤ n
at_most n k h = grind (arith, nat_tests)

rest_within : (field rest : List ℕ) → length rest ≤ length (spaced field rest)
rest_within field rest = omega (arith, length-append field (32 ∷ rest))

-- ---- a client's request

request_within : (rank at : ℕ) (session : Session) (asked : Request) → length (request_text asked) ≤ length (plain_text (plain.Client rank at session asked))
request_within rank at session asked =
    let e = request_text asked in
    let d = spaced (decimal session.id) e in
    let c = spaced (decimal session.client) d in
    let b = spaced (decimal at) c in
    let a = spaced (decimal rank) b in
    omega (arith, rest_within (decimal session.id) e, rest_within (decimal session.client) d, rest_within (decimal at) c, rest_within (decimal rank) b, rest_within (codes "client") a)

value_within : (key value : List ℕ) → length value ≤ length (request_text (request.Set key value))
value_within key value = omega (arith, rest_within key value, rest_within (codes "set") (spaced key value))

may_ask : (asked : Request) → IsTrue (request_fits asked) → length (request_text asked) ≤ most_bytes → IsRequest asked
may_ask (request.Set key value) h short =
    let fits = both (is_name key) (list_all printable value) h in
    ((fits.0, is_utf8-printable value fits.1), omega (arith, value_within key value, short))
may_ask (request.Remove key) h short = (h, omega arith)
may_ask (request.Log text) h short = (is_utf8-printable text h, omega (arith, rest_within (codes "log") text, short))
may_ask (request.Show s) h short = tt
may_ask (request.Since s version) h short = at_most (2 ^ 62) version h

-- ---- an event

plain_may : (n : ℕ) (p : Plain) → IsTrue (plain_fits n p) → length (plain_text p) ≤ most_bytes → FitsPlain n p
plain_may n (plain.Start rank at) h short = below n rank (both (ltb rank n) (leb at (2 ^ 62)) h).0
plain_may n (plain.Deliver message at) h short = tt
plain_may n (plain.Timer rank kind at) h short = below n rank (both (ltb rank n) (leb at (2 ^ 62)) h).0
plain_may n (plain.Client rank at session asked) h short =
    let a = both (ltb rank n) (leb at (2 ^ 62) && (leb session.client (2 ^ 32 - 1) && (leb session.id (2 ^ 62) && request_fits asked))) h in
    let b = both (leb at (2 ^ 62)) (leb session.client (2 ^ 32 - 1) && (leb session.id (2 ^ 62) && request_fits asked)) a.1 in
    let c = both (leb session.client (2 ^ 32 - 1)) (leb session.id (2 ^ 62) && request_fits asked) b.1 in
    let d = both (leb session.id (2 ^ 62)) (request_fits asked) c.1 in
    (below n rank a.0, (at_most (2 ^ 62) session.id d.0, may_ask asked d.1 (omega (arith, short, request_within rank at session asked))))

injected_may : (n : ℕ) (word : List ℕ) (disk : Side) (call image : ℕ) (p : Plain) → IsTrue (within 1 1000 call && (leb image 3 && plain_fits n p))
    → length (spaced word (injected_text disk call image p)) ≤ most_bytes → FitsInjected n call image p
injected_may n word disk call image p form short =
    let a = both (within 1 1000 call) (leb image 3 && plain_fits n p) form in
    let b = both (leb image 3) (plain_fits n p) a.1 in
    let w = both (leb 1 call) (leb call 1000) a.0 in
    let d = plain_text p in
    let c = spaced (decimal image) d in
    let e = spaced (decimal call) c in (
      at_most call 1 w.0,
      at_most 1000 call w.1,
      at_most 3 image b.0,
      plain_may n p b.1 (omega (arith, short, rest_within (decimal image) d, rest_within (decimal call) c, rest_within (side_text disk) e, rest_within word (injected_text disk call image p))),
    )

pub line_fits : (n : ℕ) (e : Event) → IsTrue (event_fits n e) → length (event_text e) ≤ most_bytes → Fits n e
line_fits n (events.Plain p) h short = plain_may n p h short
line_fits n (events.Crash disk call image p) h short = injected_may n (codes "crash") disk call image p h short
line_fits n (events.Fail disk call image p) h short = injected_may n (codes "fail") disk call image p h short
