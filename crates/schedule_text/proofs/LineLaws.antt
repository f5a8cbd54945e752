-- Parsing a line accepts exactly its texts.
use Rattle.std.proofs.Common.{◌≡◌, ℕ, ◌-◌, ◌^◌, ◌<◌, Bool, false, leb, ltb, List, ◌∷◌, length, Option, Some, Result, Ok, IsTrue, codes, refl, sym, ap, subst, ◌∙◌, inl, inr, lit<, arith}
use Rattle.std.specs.Fmt.{decimal}
use Rattle.std.specs.List.{list_all}
use Rattle.std.specs.Str.{bytes_eq}
use Rattle.mon_bytes.specs.Texts.{graphic, is_name}
use Rattle.mon_bytes.proofs.Ascii.{both}
use Rattle.mon_types.specs.declared.names.Side.{Side}
use Rattle.mon_wire.specs.declared.request.Request.{Request}
use Rattle.mon_wire.specs.declared.request.Request.TheVariants as request
use Rattle.schedule_text.specs.declared.event.Plain.{Plain}
use Rattle.schedule_text.specs.declared.event.Plain.TheVariants.{Start, Deliver, Timer, Client}
use Rattle.schedule_text.specs.declared.event.Event.{Event}
use Rattle.schedule_text.specs.declared.event.Event.TheVariants as event
use Rattle.schedule_text.specs.declared.refusal.ScheduleKind.{ScheduleKind}
use Rattle.schedule_text.specs.declared.refusal.ScheduleKind.TheVariants as kind
use Rattle.schedule_text.specs.Words.{printable, service_text, side_text, timer_text}
use Rattle.schedule_text.specs.Fields.{next, within, text_at}
use Rattle.schedule_text.specs.Encoding.{spaced, request_text, plain_text, injected_text, event_text, request_fits, plain_fits, injected_fits, event_fits}
use Rattle.schedule_text.specs.Requests.{set_at, remove_at, log_at, show_at, since_at, request_at}
use Rattle.schedule_text.specs.Lines.{start_at, deliver_at, timer_at, client_at, plain_by, plain_at, injected_at, event_by, fields_event, event_at}
use Rattle.mon_bytes.proofs.Fields.{chosen_ok, ok_is}
use Rattle.mon_bytes.proofs.Formats.{bind_ok}
use Rattle.schedule_text.proofs.FieldLaws.{list_all-append, joined, Reads, Reads-then, Reads-last, next_reads, IsWord, IsWord-printable, next_again, IsForm, number_form, upto_form, rank_form, name_form, service_form, side_form, timer_form, chosen_word, last_word, field_step, field_last, field_again, ended_takes, text_takes, text_again}

-- the rest of the line after its first word
pub record Body (rest : Option (List ℕ)) (word text : List ℕ) : Type 0 where
  pub body : List ℕ
  pub rest-is : rest ≡ Some body
  pub text-is : spaced word body ≡ text

-- a word and its body are a text
with_word : (rest after : Option (List ℕ)) (word w text : List ℕ) → Reads rest word after → word ≡ w → Body after w text → rest ≡ Some text
with_word rest after word w text r same b =
    Reads-then rest word after b.body r b.rest-is ∙ ap (λ (f : List ℕ). Some (spaced f b.body)) same ∙ ap (λ (t : List ℕ). Some t) b.text-is

-- ---- what a client asks, parsed and then printed

abbrev Asks : Option (List ℕ) → List ℕ → Request → Type 0
Asks rest word q = Body rest word (request_text q) × IsTrue (request_fits q)

set_takes : (rest : Option (List ℕ)) (q : Request) → set_at rest ≡ Ok q → Asks rest (codes "set") q
unfolding set_at
set_takes rest q e =
    let a = field_step name_form rest _ q e in
    let b = bind_ok (text_at a.after) _ q a.on in
    let value = text_takes a.after b.0 b.1 in
    subst (Asks rest (codes "set")) (ok_is (request.Set a.x b.0) q b.2)
    (record { body = _; rest-is = Reads-then rest a.x a.after b.0 a.reads value.0; text-is = refl }, rw (a.fitting, value.1) refl)

remove_takes : (rest : Option (List ℕ)) (q : Request) → remove_at rest ≡ Ok q → Asks rest (codes "remove") q
unfolding remove_at
remove_takes rest q e =
    let a = field_step name_form rest _ q e in
    let end = ended_takes a.after (request.Remove a.x) q a.on in
    subst (Asks rest (codes "remove")) end.1 (record { body = _; rest-is = Reads-last rest a.x a.after a.reads end.0; text-is = refl }, a.fitting)

log_takes : (rest : Option (List ℕ)) (q : Request) → log_at rest ≡ Ok q → Asks rest (codes "log") q
unfolding log_at
log_takes rest q e =
    let b = bind_ok (text_at rest) _ q e in
    let value = text_takes rest b.0 b.1 in
    subst (Asks rest (codes "log")) (ok_is (request.Log b.0) q b.2) (record { body = _; rest-is = value.0; text-is = refl }, value.1)

show_takes : (rest : Option (List ℕ)) (q : Request) → show_at rest ≡ Ok q → Asks rest (codes "show") q
unfolding show_at
show_takes rest q e =
    let a = field_step service_form rest _ q e in
    let end = ended_takes a.after (request.Show a.x) q a.on in
    subst (Asks rest (codes "show")) end.1 (record { body = _; rest-is = Reads-last rest (service_text a.x) a.after a.reads end.0; text-is = refl }, refl)

most_moment : 2 ^ 62 < 2 ^ 64
most_moment = lit< tt

since_takes : (rest : Option (List ℕ)) (q : Request) → since_at rest ≡ Ok q → Asks rest (codes "since") q
unfolding since_at
since_takes rest q e =
    let a = field_step service_form rest _ q e in
    let b = field_step (upto_form (2 ^ 62) most_moment) a.after _ q a.on in
    let end = ended_takes b.after (request.Since a.x b.x) q b.on in
    let last = Reads-last a.after (decimal b.x) b.after b.reads end.0 in
    subst (Asks rest (codes "since")) end.1 (record { body = _; rest-is = Reads-then rest (service_text a.x) a.after (decimal b.x) a.reads last; text-is = refl }, b.fitting)

request_takes : (rest : Option (List ℕ)) (q : Request) → request_at rest ≡ Ok q → (rest ≡ Some (request_text q)) × IsTrue (request_fits q)
unfolding request_at
request_takes rest q e =
    let a = bind_ok (next rest) _ q e in
    let word = a.0.0 in
    let after = a.0.1 in
    let r = next_reads rest after word a.1 in
    let whole : (w : List ℕ) → word ≡ w → Asks after w q → (rest ≡ Some (request_text q)) × IsTrue (request_fits q) =
    λ w same t. (with_word rest after word w (request_text q) r same t.0, t.1) in
    elim (chosen_word word (codes "set") (set_at after) _ q a.2) [
      | inl h ↦ whole (codes "set") h.0 (set_takes after q h.1)
      | inr h ↦ elim (chosen_word word (codes "remove") (remove_at after) _ q h) [
        | inl h ↦ whole (codes "remove") h.0 (remove_takes after q h.1)
        | inr h ↦ elim (chosen_word word (codes "log") (log_at after) _ q h) [
          | inl h ↦ whole (codes "log") h.0 (log_takes after q h.1)
          | inr h ↦ elim (chosen_word word (codes "show") (show_at after) _ q h) [
            | inl h ↦ whole (codes "show") h.0 (show_takes after q h.1)
            | inr h ↦ let g = last_word word (codes "since") (since_at after) kind.Word q h in whole (codes "since") g.0 (since_takes after q g.1)
          ]
        ]
      ]
    ]

-- ---- what happens, parsed and then printed

abbrev Happens : ℕ → Option (List ℕ) → List ℕ → Plain → Type 0
Happens n rest word p = Body rest word (plain_text p) × IsTrue (plain_fits n p)

start_takes : (n : ℕ) (rest : Option (List ℕ)) (p : Plain) → n < 2 ^ 64 → start_at n rest ≡ Ok p → Happens n rest (codes "start") p
unfolding start_at
start_takes n rest p small e =
    let a = field_step (rank_form n small) rest _ p e in
    let b = field_step (upto_form (2 ^ 62) most_moment) a.after _ p a.on in
    let end = ended_takes b.after (Start a.x b.x) p b.on in
    let last = Reads-last a.after (decimal b.x) b.after b.reads end.0 in
    subst (Happens n rest (codes "start")) end.1 (record { body = _; rest-is = Reads-then rest (decimal a.x) a.after _ a.reads last; text-is = refl }, rw (a.fitting, b.fitting) refl)

deliver_takes : (n : ℕ) (rest : Option (List ℕ)) (p : Plain) → deliver_at rest ≡ Ok p → Happens n rest (codes "deliver") p
unfolding deliver_at
deliver_takes n rest p e =
    let a = field_step (number_form 1 (2 ^ 64 - 1) (lit< tt)) rest _ p e in
    let b = field_step (upto_form (2 ^ 62) most_moment) a.after _ p a.on in
    let end = ended_takes b.after (Deliver a.x b.x) p b.on in
    let last = Reads-last a.after (decimal b.x) b.after b.reads end.0 in
    subst (Happens n rest (codes "deliver")) end.1 (record { body = _; rest-is = Reads-then rest (decimal a.x) a.after _ a.reads last; text-is = refl }, rw (a.fitting, b.fitting) refl)

timer_takes : (n : ℕ) (rest : Option (List ℕ)) (p : Plain) → n < 2 ^ 64 → timer_at n rest ≡ Ok p → Happens n rest (codes "timer") p
unfolding timer_at
timer_takes n rest p small e =
    let a = field_step (rank_form n small) rest _ p e in
    let b = field_step timer_form a.after _ p a.on in
    let c = field_step (upto_form (2 ^ 62) most_moment) b.after _ p b.on in
    let end = ended_takes c.after (Timer a.x b.x c.x) p c.on in
    let last = Reads-last b.after (decimal c.x) c.after c.reads end.0 in
    let kind_on = Reads-then a.after (timer_text b.x) b.after _ b.reads last in
    subst (Happens n rest (codes "timer")) end.1 (record { body = _; rest-is = Reads-then rest (decimal a.x) a.after _ a.reads kind_on; text-is = refl }, rw (a.fitting, c.fitting) refl)

client_takes : (n : ℕ) (rest : Option (List ℕ)) (p : Plain) → n < 2 ^ 64 → client_at n rest ≡ Ok p → Happens n rest (codes "client") p
unfolding client_at
client_takes n rest p small e =
    let a = field_step (rank_form n small) rest _ p e in
    let b = field_step (upto_form (2 ^ 62) most_moment) a.after _ p a.on in
    let c = field_step (upto_form (2 ^ 32 - 1) (lit< tt)) b.after _ p b.on in
    let d = field_step (upto_form (2 ^ 62) most_moment) c.after _ p c.on in
    let q = bind_ok (request_at d.after) _ p d.on in
    let rq = request_takes d.after q.0 q.1 in
    let id_on = Reads-then c.after (decimal d.x) d.after _ d.reads rq.0 in
    let client_on = Reads-then b.after (decimal c.x) c.after _ c.reads id_on in
    let at_on = Reads-then a.after (decimal b.x) b.after _ b.reads client_on in
    subst (Happens n rest (codes "client")) (ok_is (Client a.x b.x (record { client = c.x; id = d.x }) q.0) p q.2)
    (record { body = _; rest-is = Reads-then rest (decimal a.x) a.after _ a.reads at_on; text-is = refl }, rw (a.fitting, b.fitting, c.fitting, d.fitting, rq.1) refl)

plain_by_takes : (n : ℕ) (rest after : Option (List ℕ)) (word : List ℕ) (p : Plain) → n < 2 ^ 64 → Reads rest word after → plain_by n word after ≡ Ok p → (rest ≡ Some (plain_text p)) × IsTrue (plain_fits n p)
unfolding plain_by
plain_by_takes n rest after word p small r e =
    let whole : (w : List ℕ) → word ≡ w → Happens n after w p → (rest ≡ Some (plain_text p)) × IsTrue (plain_fits n p) =
    λ w same t. (with_word rest after word w (plain_text p) r same t.0, t.1) in
    elim (chosen_word word (codes "start") (start_at n after) _ p e) [
      | inl h ↦ whole (codes "start") h.0 (start_takes n after p small h.1)
      | inr h ↦ elim (chosen_word word (codes "deliver") (deliver_at after) _ p h) [
        | inl h ↦ whole (codes "deliver") h.0 (deliver_takes n after p h.1)
        | inr h ↦ elim (chosen_word word (codes "timer") (timer_at n after) _ p h) [
          | inl h ↦ whole (codes "timer") h.0 (timer_takes n after p small h.1)
          | inr h ↦ let g = last_word word (codes "client") (client_at n after) kind.Word p h in whole (codes "client") g.0 (client_takes n after p small g.1)
        ]
      ]
    ]

plain_takes : (n : ℕ) (rest : Option (List ℕ)) (p : Plain) → n < 2 ^ 64 → plain_at n rest ≡ Ok p → (rest ≡ Some (plain_text p)) × IsTrue (plain_fits n p)
unfolding plain_at
plain_takes n rest p small e =
    let a = bind_ok (next rest) _ p e in
    plain_by_takes n rest a.0.1 a.0.0 p small (next_reads rest a.0.1 a.0.0 a.1) a.2

-- how an event is made of a disk, its call, an image and what happens
abbrev Injected : Type 0
Injected = Side → ℕ → ℕ → Plain → Event

-- an event that is encoded after this word
record IsInjected (injected : Injected) (word : List ℕ) : Type 0 where
  encoded : (disk : Side) (call image : ℕ) (p : Plain) → event_text (injected disk call image p) ≡ spaced word (injected_text disk call image p)
  fits : (n : ℕ) (disk : Side) (call image : ℕ) (p : Plain) → event_fits n (injected disk call image p) ≡ injected_fits n call image p

crash_is : IsInjected event.Crash (codes "crash")
crash_is = record { encoded = λ disk call image p. refl; fits = λ n disk call image p. refl }

fail_is : IsInjected event.Fail (codes "fail")
fail_is = record { encoded = λ disk call image p. refl; fits = λ n disk call image p. refl }

injected_takes : (injected : Injected) (word : List ℕ) → IsInjected injected word → (n : ℕ) (rest : Option (List ℕ)) (v : Event) → n < 2 ^ 64 → injected_at injected n rest ≡ Ok v → Body rest word (event_text v) × IsTrue (event_fits n v)
unfolding injected_at
injected_takes injected word form n rest v small e =
    let a = field_step side_form rest _ v e in
    let b = field_step (number_form 1 1000 (lit< tt)) a.after _ v a.on in
    let c = field_step (upto_form 3 (lit< tt)) b.after _ v b.on in
    let p = bind_ok (plain_at n c.after) _ v c.on in
    let t = plain_takes n c.after p.0 small p.1 in
    let image_on = Reads-then b.after (decimal c.x) c.after _ c.reads t.0 in
    let call_on = Reads-then a.after (decimal b.x) b.after _ b.reads image_on in
    let fitting : IsTrue (injected_fits n b.x c.x p.0) = rw (b.fitting, c.fitting, t.1) refl in
    subst (λ (v : Event). Body rest word (event_text v) × IsTrue (event_fits n v)) (ok_is (injected a.x b.x c.x p.0) v p.2) (
      record { body = _; rest-is = Reads-then rest (side_text a.x) a.after _ a.reads call_on; text-is = sym (form.encoded a.x b.x c.x p.0) },
      form.fits n a.x b.x c.x p.0 ∙ fitting,
    )

same_some : (x y : List ℕ) → Some x ≡ Some y → x ≡ y
same_some x y e = cc

event_by_takes : (n : ℕ) (line word : List ℕ) (after : Option (List ℕ)) (v : Event) → n < 2 ^ 64 → Reads (Some line) word after → event_by n word after ≡ Ok v → (line ≡ event_text v) × IsTrue (event_fits n v)
unfolding event_by
event_by_takes n line word after v small r e =
    let whole : (w : List ℕ) → word ≡ w → Body after w (event_text v) × IsTrue (event_fits n v) → (line ≡ event_text v) × IsTrue (event_fits n v) =
    λ w same t. (same_some line (event_text v) (with_word (Some line) after word w (event_text v) r same t.0), t.1) in
    elim (chosen_word word (codes "crash") (injected_at event.Crash n after) _ v e) [
      | inl h ↦ whole (codes "crash") h.0 (injected_takes event.Crash (codes "crash") crash_is n after v small h.1)
      | inr h ↦ elim (chosen_word word (codes "fail") (injected_at event.Fail n after) _ v h) [
        | inl h ↦ whole (codes "fail") h.0 (injected_takes event.Fail (codes "fail") fail_is n after v small h.1)
        | inr h ↦
            let a = bind_ok (plain_by n word after) _ v h in
            let t = plain_by_takes n (Some line) after word a.0 small r a.1 in
            subst (λ (v : Event). (line ≡ event_text v) × IsTrue (event_fits n v)) (ok_is (event.Plain a.0) v a.2) (same_some line (plain_text a.0) t.0, t.1)
      ]
    ]

-- what the fields of a line say is encoded so, and is printable
fields_take : (n : ℕ) (line : List ℕ) (v : Event) → n < 2 ^ 64 → fields_event n line ≡ Ok v → (line ≡ event_text v) × IsTrue (event_fits n v)
fields_take n line v small e =
    let a = bind_ok (next (Some line)) (λ word. event_by n word.0 word.1) v e in
    event_by_takes n line a.0.0 a.0.1 v small (next_reads (Some line) a.0.1 a.0.0 a.1) a.2

-- what is read from a line is encoded so, and is printable
pub event_takes : (n : ℕ) (line : List ℕ) (v : Event) → n < 2 ^ 64 → event_at n line ≡ Ok v → (line ≡ event_text v) × IsTrue (event_fits n v)
unfolding event_at
event_takes n line v small e =
    fields_take n line v small (chosen_ok (list_all printable line) kind.Word (fields_event n line) v e).1

-- ---- what is printed so is parsed

request_again : (q : Request) → IsTrue (request_fits q) → request_at (Some (request_text q)) ≡ Ok q
unfolding request_at set_at remove_at log_at show_at since_at
request_again (request.Set key value) fits =
    let parts = both (is_name key) (list_all printable value) fits in
    rw (field_again name_form key value parts.0, text_again value parts.1) refl
request_again (request.Remove key) fits = rw (field_last name_form key fits) refl
request_again (request.Log text) fits = rw (text_again text fits) refl
request_again (request.Show service) fits = rw (field_last service_form service refl) refl
request_again (request.Since service version) fits =
    rw (field_again service_form service (decimal version) refl, field_last (upto_form (2 ^ 62) most_moment) version fits) refl

-- the parts of a client's event that fits
pub record ClientFits (n rank at client id : ℕ) (q : Request) : Type 0 where
  pub rank_fits : IsTrue (ltb rank n)
  pub at_fits : IsTrue (leb at (2 ^ 62))
  pub client_fits : IsTrue (leb client (2 ^ 32 - 1))
  pub id_fits : IsTrue (leb id (2 ^ 62))
  pub asked_fits : IsTrue (request_fits q)

pub client_parts : (n rank at client id : ℕ) (q : Request) → IsTrue (plain_fits n (Client rank at (record { client = client; id = id }) q)) → ClientFits n rank at client id q
client_parts n rank at client id q fits =
    let a = both (ltb rank n) _ fits in
    let b = both (leb at (2 ^ 62)) _ a.1 in
    let c = both (leb client (2 ^ 32 - 1)) _ b.1 in
    let d = both (leb id (2 ^ 62)) (request_fits q) c.1 in
    record { rank_fits = a.0; at_fits = b.0; client_fits = c.0; id_fits = d.0; asked_fits = d.1 }

-- the rest of a line after its first word, read again
record Again (n : ℕ) (p : Plain) : Type 0 where
  word : List ℕ
  body : List ℕ
  text-is : plain_text p ≡ joined 32 word (Some body)
  is-word : IsWord word
  not_crash : bytes_eq word (codes "crash") ≡ false
  not_fail : bytes_eq word (codes "fail") ≡ false
  read : plain_by n word (Some body) ≡ Ok p

a_word : (w : List ℕ) → 0 < length w → IsTrue (list_all graphic w) → IsWord w
a_word w long graphics = record { long = long; graphics = graphics }

plain_parts : (n : ℕ) (p : Plain) → n < 2 ^ 64 → IsTrue (plain_fits n p) → Again n p
unfolding plain_by start_at deliver_at timer_at client_at
plain_parts n (Start rank at) small fits =
    let parts = both (ltb rank n) (leb at (2 ^ 62)) fits in
    record {
      word = codes "start";
      body = _;
      text-is = refl;
      is-word = a_word _ (omega arith) refl;
      not_crash = refl;
      not_fail = refl;
      read = rw (field_again (rank_form n small) rank (decimal at) parts.0, field_last (upto_form (2 ^ 62) most_moment) at parts.1) refl;
    }
plain_parts n (Deliver message at) small fits =
    let parts = both (within 1 (2 ^ 64 - 1) message) (leb at (2 ^ 62)) fits in
    record {
      word = codes "deliver";
      body = _;
      text-is = refl;
      is-word = a_word _ (omega arith) refl;
      not_crash = refl;
      not_fail = refl;
      read = rw (field_again (number_form 1 (2 ^ 64 - 1) (lit< tt)) message (decimal at) parts.0, field_last (upto_form (2 ^ 62) most_moment) at parts.1) refl;
    }
plain_parts n (Timer rank kind at) small fits =
    let parts = both (ltb rank n) (leb at (2 ^ 62)) fits in
    record {
      word = codes "timer";
      body = _;
      text-is = refl;
      is-word = a_word _ (omega arith) refl;
      not_crash = refl;
      not_fail = refl;
      read = rw (
        field_again (rank_form n small) rank _ parts.0,
        field_again timer_form kind (decimal at) refl,
        field_last (upto_form (2 ^ 62) most_moment) at parts.1,
      ) refl;
    }
plain_parts n (Client rank at session q) small fits =
    let parts = client_parts n rank at session.client session.id q fits in
    record {
      word = codes "client";
      body = _;
      text-is = refl;
      is-word = a_word _ (omega arith) refl;
      not_crash = refl;
      not_fail = refl;
      read = rw (
        field_again (rank_form n small) rank _ parts.rank_fits,
        field_again (upto_form (2 ^ 62) most_moment) at _ parts.at_fits,
        field_again (upto_form (2 ^ 32 - 1) (lit< tt)) session.client _ parts.client_fits,
        field_again (upto_form (2 ^ 62) most_moment) session.id _ parts.id_fits,
        request_again q parts.asked_fits,
      ) refl;
    }

plain_again : (n : ℕ) (p : Plain) → n < 2 ^ 64 → IsTrue (plain_fits n p) → plain_at n (Some (plain_text p)) ≡ Ok p
unfolding plain_at
plain_again n p small fits =
    let a = plain_parts n p small fits in
    rw (a.text-is, next_again a.word (Some a.body) a.is-word) a.read

injected_again : (injected : Injected) (n : ℕ) (disk : Side) (call image : ℕ) (p : Plain) → n < 2 ^ 64 → IsTrue (injected_fits n call image p) → injected_at injected n (Some (injected_text disk call image p)) ≡ Ok (injected disk call image p)
unfolding injected_at
injected_again injected n disk call image p small fits =
    let a = both (within 1 1000 call) _ fits in
    let b = both (leb image 3) (plain_fits n p) a.1 in
    rw (
      field_again side_form disk _ refl,
      field_again (number_form 1 1000 (lit< tt)) call _ a.0,
      field_again (upto_form 3 (lit< tt)) image _ b.0,
      plain_again n p small b.1,
    ) refl

-- ---- a line is printable

printable_spaced : (xs ys : List ℕ) → IsTrue (list_all printable xs) → IsTrue (list_all printable ys) → IsTrue (list_all printable (spaced xs ys))
printable_spaced xs ys a b = list_all-append printable xs (32 ∷ ys) a b

-- a field of a form is printable
printable_field : {A : Type 0} {read : List ℕ → Result A ScheduleKind} {text : A → List ℕ} {fits : A → Bool} → IsForm A read text fits → (x : A) → IsTrue (fits x) → IsTrue (list_all printable (text x))
printable_field {A} {read} {text} form x h = IsWord-printable (text x) (form.word x h)

printable_request : (q : Request) → IsTrue (request_fits q) → IsTrue (list_all printable (request_text q))
printable_request (request.Set key value) fits =
    let parts = both (is_name key) (list_all printable value) fits in
    printable_spaced key value (printable_field name_form key parts.0) parts.1
printable_request (request.Remove key) fits = printable_field name_form key fits
printable_request (request.Log text) fits = fits
printable_request (request.Show service) fits = printable_field service_form service refl
printable_request (request.Since service version) fits =
    printable_spaced (service_text service) (decimal version) (printable_field service_form service refl) (printable_field (upto_form (2 ^ 62) most_moment) version fits)

printable_plain : (n : ℕ) (p : Plain) → n < 2 ^ 64 → IsTrue (plain_fits n p) → IsTrue (list_all printable (plain_text p))
printable_plain n (Start rank at) small fits =
    let parts = both (ltb rank n) (leb at (2 ^ 62)) fits in
    printable_spaced (decimal rank) (decimal at) (printable_field (rank_form n small) rank parts.0) (printable_field (upto_form (2 ^ 62) most_moment) at parts.1)
printable_plain n (Deliver message at) small fits =
    let parts = both (within 1 (2 ^ 64 - 1) message) (leb at (2 ^ 62)) fits in
    printable_spaced (decimal message) (decimal at) (printable_field (number_form 1 (2 ^ 64 - 1) (lit< tt)) message parts.0) (printable_field (upto_form (2 ^ 62) most_moment) at parts.1)
printable_plain n (Timer rank kind at) small fits =
    let parts = both (ltb rank n) (leb at (2 ^ 62)) fits in
    printable_spaced (decimal rank) _ (printable_field (rank_form n small) rank parts.0)
    (printable_spaced (timer_text kind) (decimal at) (printable_field timer_form kind refl) (printable_field (upto_form (2 ^ 62) most_moment) at parts.1))
printable_plain n (Client rank at session q) small fits =
    let parts = client_parts n rank at session.client session.id q fits in
    printable_spaced (decimal rank) _ (printable_field (rank_form n small) rank parts.rank_fits)
    (printable_spaced (decimal at) _ (printable_field (upto_form (2 ^ 62) most_moment) at parts.at_fits)
    (printable_spaced (decimal session.client) _ (printable_field (upto_form (2 ^ 32 - 1) (lit< tt)) session.client parts.client_fits)
    (printable_spaced (decimal session.id) (request_text q) (printable_field (upto_form (2 ^ 62) most_moment) session.id parts.id_fits) (printable_request q parts.asked_fits))))

printable_injected : (n : ℕ) (disk : Side) (call image : ℕ) (p : Plain) → n < 2 ^ 64 → IsTrue (injected_fits n call image p) → IsTrue (list_all printable (injected_text disk call image p))
printable_injected n disk call image p small fits =
    let a = both (within 1 1000 call) _ fits in
    let b = both (leb image 3) (plain_fits n p) a.1 in
    printable_spaced (side_text disk) _ (printable_field side_form disk refl)
    (printable_spaced (decimal call) _ (printable_field (number_form 1 1000 (lit< tt)) call a.0)
    (printable_spaced (decimal image) _ (printable_field (upto_form 3 (lit< tt)) image b.0) (printable_plain n p small b.1)))

pub printable_event : (n : ℕ) (v : Event) → n < 2 ^ 64 → IsTrue (event_fits n v) → IsTrue (list_all printable (event_text v))
printable_event n (event.Plain p) small fits = printable_plain n p small fits
printable_event n (event.Crash disk call image p) small fits = printable_injected n disk call image p small fits
printable_event n (event.Fail disk call image p) small fits = printable_injected n disk call image p small fits

-- ---- events

plain_event : (n : ℕ) (p : Plain) → n < 2 ^ 64 → IsTrue (plain_fits n p) → event_at n (plain_text p) ≡ Ok (event.Plain p)
unfolding event_at event_by
plain_event n p small fits =
    let a = plain_parts n p small fits in
    rw (printable_plain n p small fits, a.text-is, next_again a.word (Some a.body) a.is-word, a.not_crash, a.not_fail, a.read) refl

-- what is encoded so is read
pub event_again : (n : ℕ) (v : Event) → n < 2 ^ 64 → IsTrue (event_fits n v) → event_at n (event_text v) ≡ Ok v
unfolding event_at event_by
event_again n (event.Plain p) small fits = plain_event n p small fits
event_again n (event.Crash disk call image p) small fits =
    rw (printable_injected n disk call image p small fits, injected_again event.Crash n disk call image p small fits) refl
event_again n (event.Fail disk call image p) small fits =
    rw (printable_injected n disk call image p small fits, injected_again event.Fail n disk call image p small fits) refl

-- if the fields of a line say an event, each of its bytes is printable
pub read_by_fields : (n : ℕ) (line : List ℕ) (v : Event) → n < 2 ^ 64 → fields_event n line ≡ Ok v → event_at n line ≡ Ok v
read_by_fields n line v small e =
    let taken = fields_take n line v small e in
    ap (event_at n) taken.0 ∙ event_again n v small taken.1
