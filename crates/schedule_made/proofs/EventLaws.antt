-- Each form of event has a line, of at most 160 bytes.
use Rattle.std.proofs.Common.{ℕ, ◌-◌, ◌^◌, ◌<◌, ◌≤◌, Bool, ◌&&◌, leb, ◌++◌, length, IsTrue, codes, refl, arith, length-append}
use Rattle.std.specs.Fmt.{decimal}
use Rattle.std.specs.List.{list_all, slice_index_or}
use Rattle.std.proofs.lemmas.Bool.{le-leb, lt-ltb, leb-true}
use Rattle.std.proofs.lemmas.Bool.Decides.{nat_tests}
use Rattle.std.proofs.lemmas.Fmt.{digits_decimal}
use Rattle.mon_bytes.specs.Texts.{graphic, is_name}
use Rattle.mon_bytes.proofs.Ascii.{both}
use Rattle.mon_wire.specs.declared.request.Request.{Request}
use Rattle.mon_wire.specs.declared.phase.TheConstants.Timer.{ALL}
use Rattle.mon_wire.specs.declared.phase.Timer.{Timer}
use Rattle.mon_wire.specs.declared.phase.Timer.TheVariants.{Probe, Election, Collect, Accept, Renew, LeaseAck, Lease, Sync, Step, Propose, Ping}
use Rattle.schedule_text.specs.declared.event.Event.{Event}
use Rattle.schedule_text.specs.Fields.{digit}
use Rattle.schedule_text.specs.Words.{printable, timer_text}
use Rattle.schedule_text.specs.Encoding.{request_text, request_fits, event_fits, event_line}
use Rattle.schedule_text.proofs.Lengths.{at_most_20_digits}
use Rattle.schedule_text.proofs.Numerals.{own}
use Rattle.schedule_text.proofs.FieldLaws.{digit_graphic, list_all-weaker}
use Rattle.schedule_made.specs.Made.{start, deliver, timer, ask, set, log}

-- an event that has a line, and a short one
unfoldable pub is_short : Event → Bool
is_short event = event_fits 3 event && leb (length (event_line event)) 160

short_by : (event : Event) → IsTrue (event_fits 3 event) → length (event_line event) ≤ 160 → IsTrue (is_short event)
unfolding is_short
short_by event fits short = rw (fits, le-leb (length (event_line event)) 160 short) refl

pub short_fits : (event : Event) → IsTrue (is_short event) → IsTrue (event_fits 3 event)
unfolding is_short
short_fits event h = (both (event_fits 3 event) (leb (length (event_line event)) 160) h).0

pub short_line : (event : Event) → IsTrue (is_short event) → length (event_line event) ≤ 160
unfolding is_short
short_line event h = leb-true _ _ (both (event_fits 3 event) (leb (length (event_line event)) 160) h).1

digits : (n : ℕ) → n ≤ 2 ^ 63 → length (decimal n) ≤ 20
digits n small = at_most_20_digits n (omega arith)

pub start_short : (rank at : ℕ) → rank < 3 → at ≤ 2 ^ 62 → IsTrue (is_short (start rank at))
start_short rank at r a =
    short_by (start rank at) (rw (lt-ltb rank 3 r, le-leb at (2 ^ 62) a) refl)
    (simp length-append (omega (arith, digits rank (omega arith), digits at (omega arith))))

pub deliver_short : (message at : ℕ) → 1 ≤ message → message ≤ 2 ^ 62 → at ≤ 2 ^ 62 → IsTrue (is_short (deliver message at))
deliver_short message at one m a =
    short_by (deliver message at) (rw (le-leb 1 message one, le-leb message (2 ^ 64 - 1) (omega arith), le-leb at (2 ^ 62) a) refl)
    (simp length-append (omega (arith, digits message (omega arith), digits at (omega arith))))

pub ask_short : (rank at client id : ℕ) (asked : Request) → rank < 3 → at ≤ 2 ^ 62 → client ≤ 3 → id ≤ 2 ^ 62 → IsTrue (request_fits asked) → length (request_text asked) ≤ 60 → IsTrue (is_short (ask rank at client id asked))
ask_short rank at client id asked r a c i fits short =
    short_by (ask rank at client id asked)
    (rw (lt-ltb rank 3 r, le-leb at (2 ^ 62) a, le-leb client (2 ^ 32 - 1) (omega arith), le-leb id (2 ^ 62) i, fits) refl)
    (simp length-append (omega (arith, digits rank (omega arith), digits at (omega arith), digits client (omega arith), digits id (omega arith), short)))

-- ---- requests

digits_graphic : (n : ℕ) → n < 2 ^ 32 → IsTrue (list_all graphic (decimal n))
digits_graphic n small = list_all-weaker digit graphic digit_graphic (decimal n) (digits_decimal own n (omega arith))

graphic_printable : (b : ℕ) → IsTrue (graphic b) → IsTrue (printable b)
graphic_printable b h = grind (arith, nat_tests)

digits_printable : (n : ℕ) → n < 2 ^ 32 → IsTrue (list_all printable (decimal n))
digits_printable n small = list_all-weaker graphic printable graphic_printable (decimal n) (digits_graphic n small)

pub key_name : (n : ℕ) → n < 2 ^ 32 → IsTrue (is_name (codes "k" ++ decimal n))
key_name n small =
    let most : length (codes "k" ++ decimal n) ≤ 255 = omega (arith, digits n (omega arith)) in
    rw (le-leb 1 (length (codes "k" ++ decimal n)) (omega arith), le-leb (length (codes "k" ++ decimal n)) 255 most, digits_graphic n small) refl

pub set_fits : (key value : ℕ) → key < 2 ^ 32 → value < 2 ^ 32 → IsTrue (request_fits (set key value))
set_fits key value k v = rw (key_name key k, digits_printable value v) refl

pub set_short : (key value : ℕ) → key < 2 ^ 32 → value < 2 ^ 32 → length (request_text (set key value)) ≤ 60
set_short key value k v = simp length-append (omega (arith, digits key (omega arith), digits value (omega arith)))

pub log_fits : (text : ℕ) → text < 2 ^ 32 → IsTrue (request_fits (log text))
log_fits text t = rw (digits_printable text t) refl

pub log_short : (text : ℕ) → text < 2 ^ 32 → length (request_text (log text)) ≤ 60
log_short text t = omega (arith, digits text (omega arith))

-- ---- timers

timer_word : (kind : Timer) → length (timer_text kind) ≤ 9
timer_word Probe = omega arith
timer_word Election = omega arith
timer_word Collect = omega arith
timer_word Accept = omega arith
timer_word Renew = omega arith
timer_word LeaseAck = omega arith
timer_word Lease = omega arith
timer_word Sync = omega arith
timer_word Step = omega arith
timer_word Propose = omega arith
timer_word Ping = omega arith

pub timer_short : (rank kind at : ℕ) → rank < 3 → at ≤ 2 ^ 62 → IsTrue (is_short (timer rank kind at))
timer_short rank kind at r a =
    let word = timer_word (slice_index_or ALL kind Probe) in
    short_by (timer rank kind at) (rw (lt-ltb rank 3 r, le-leb at (2 ^ 62) a) refl)
    (simp length-append (omega (arith, word, digits rank (omega arith), digits at (omega arith))))
