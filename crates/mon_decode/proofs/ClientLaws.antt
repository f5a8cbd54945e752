-- The formats of requests and replies read what they encode.
use Rattle.std.proofs.Common.{◌≡◌, ℕ, false, List, [], ◌∷◌, ◌++◌, Ok, IsTrue, refl, subst, inl, inr}
use Rattle.std.specs.List.{AllByRecursion}
use Rattle.mon_bytes.specs.Reading.{IsBytes, Reading, number}
use Rattle.mon_bytes.proofs.Fields.{ok_is, Takes, Found}
use Rattle.mon_wire.specs.declared.reply.Reply.{Reply}
use Rattle.mon_wire.specs.declared.reply.Reply.TheVariants as reply
use Rattle.mon_wire.specs.declared.request.Request.{Request}
use Rattle.mon_wire.specs.declared.request.Request.TheVariants as request
use Rattle.mon_wire.specs.Message.Format.{faults, cut, Reader, Format, nothing, ◌⊗◌, list, variant, chosen, tagged}
use Rattle.mon_wire.specs.Message.Fields.{numeral, flag, utf8, name, blob, service}
use Rattle.mon_wire.specs.Message.Parts.{shown_map}
use Rattle.mon_wire.specs.Message.Client.{request_encoded, request_kinds, request_at, a_request, shown, since, reply_encoded, routed_kinds, reply_kinds, routed_at, reply_at, a_reply, is_routed, a_routed}
use Rattle.mon_bytes.proofs.Formats.{bind_ok, tested, IsLawful, nothing-lawful, dependent-lawful, list-lawful, TakesVariant, variant_takes, choice_takes, variant_found}
use Rattle.mon_decode.proofs.FieldLaws.{numeral-lawful, flag-lawful, blob-lawful, utf8-lawful, word-lawful, service-lawful}
use Rattle.mon_decode.proofs.PartLaws.{then-lawful, set-lawful, shown_map-lawful}

since_request-lawful : IsLawful (service ⊗ numeral)
since_request-lawful = then-lawful service numeral service-lawful numeral-lawful

request_takes : (c : Reading) (x : Request × Reading) → IsBytes c.rest → request_at c ≡ Ok x → Takes c (a_request.text x.0) x.1 × a_request.Form x.0
unfolding request_at
request_takes = choice_takes faults request_encoded request_kinds (
  variant_takes request_encoded 1 (name ⊗ utf8) (λ p. request.Set p.0 p.1) set-lawful (λ a. refl) (λ a. refl) (λ a h. h),
  (
    variant_takes request_encoded 2 name (λ key. request.Remove key) (word-lawful 255) (λ a. refl) (λ a. refl) (λ a h. h),
    (
      variant_takes request_encoded 3 utf8 (λ text. request.Log text) utf8-lawful (λ a. refl) (λ a. refl) (λ a h. h),
      (
        variant_takes request_encoded 4 service (λ s. request.Show s) service-lawful (λ a. refl) (λ a. refl) (λ a h. h),
        (variant_takes request_encoded 5 (service ⊗ numeral) (λ p. request.Since p.0 p.1) since_request-lawful (λ a. refl) (λ a. refl) (λ a h. h), tt),
      ),
    ),
  ),
)

request_found : (c : Reading) (x : Request) (rest : List ℕ) → c.rest ≡ a_request.text x ++ rest → a_request.Form x → Found (request_at c) x rest
unfolding request_at
request_found c (request.Set key v) rest e form = variant_found faults request_kinds (name ⊗ utf8) (λ p. request.Set p.0 p.1) 1 set-lawful (λ at d. refl) c (key, v) rest e form
request_found c (request.Remove key) rest e form = variant_found faults request_kinds name (λ key. request.Remove key) 2 (word-lawful 255) (λ at d. refl) c key rest e form
request_found c (request.Log text) rest e form = variant_found faults request_kinds utf8 (λ text. request.Log text) 3 utf8-lawful (λ at d. refl) c text rest e form
request_found c (request.Show s) rest e form = variant_found faults request_kinds service (λ s. request.Show s) 4 service-lawful (λ at d. refl) c s rest e form
request_found c (request.Since s version) rest e form = variant_found faults request_kinds (service ⊗ numeral) (λ p. request.Since p.0 p.1) 5 since_request-lawful (λ at d. refl) c (s, version) rest e form

pub a_request-lawful : IsLawful a_request
a_request-lawful = record { takes = request_takes; found = request_found }

-- ---- replies

two-lawful : IsLawful (numeral ⊗ numeral)
two-lawful = then-lawful numeral numeral numeral-lawful numeral-lawful

readable-lawful : IsLawful (numeral ⊗ flag)
readable-lawful = then-lawful numeral flag numeral-lawful flag-lawful

shown-lawful : IsLawful shown
shown-lawful = dependent-lawful service (λ s. numeral ⊗ numeral ⊗ shown_map s) service-lawful
    (λ s. then-lawful numeral (numeral ⊗ shown_map s) numeral-lawful (then-lawful numeral (shown_map s) numeral-lawful (shown_map-lawful s)))

since-lawful : IsLawful since
since-lawful = then-lawful service (numeral ⊗ flag ⊗ list blob) service-lawful
    (then-lawful numeral (flag ⊗ list blob) numeral-lawful (then-lawful flag (list blob) flag-lawful (list-lawful faults blob blob-lawful)))

routed_are_taken : AllByRecursion (TakesVariant reply_encoded) routed_kinds
routed_are_taken = (
  variant_takes reply_encoded 1 numeral (λ version. reply.Done version) numeral-lawful (λ a. refl) (λ a. refl) (λ a h. h),
  (
    variant_takes reply_encoded 4 nothing (λ x. reply.NoSuch) nothing-lawful (λ a. refl) (λ a. refl) (λ a h. h),
    (
      variant_takes reply_encoded 5 (numeral ⊗ numeral) (λ p. reply.TooLong p.0 p.1) two-lawful (λ a. refl) (λ a. refl) (λ a h. h),
      (
        variant_takes reply_encoded 6 numeral (λ would_be. reply.MapFull would_be) numeral-lawful (λ a. refl) (λ a. refl) (λ a h. h),
        (variant_takes reply_encoded 9 numeral (λ waiting. reply.Busy waiting) numeral-lawful (λ a. refl) (λ a. refl) (λ a h. h), tt),
      ),
    ),
  ),
)

reply_takes : (c : Reading) (x : Reply × Reading) → IsBytes c.rest → reply_at c ≡ Ok x → Takes c (a_reply.text x.0) x.1 × a_reply.Form x.0
unfolding reply_at
reply_takes = choice_takes faults reply_encoded reply_kinds (
  variant_takes reply_encoded 2 shown (λ p. reply.Shown p.0 p.1.0 p.1.1.0 p.1.1.1) shown-lawful (λ a. refl) (λ a. refl) (λ a h. h),
  (
    variant_takes reply_encoded 3 since (λ p. reply.Since p.0 p.1.0 p.1.1.1 p.1.1.0) since-lawful (λ a. refl) (λ a. refl) (λ a h. h),
    (
      variant_takes reply_encoded 7 nothing (λ x. reply.Unavailable) nothing-lawful (λ a. refl) (λ a. refl) (λ a h. h),
      (variant_takes reply_encoded 8 (numeral ⊗ flag) (λ p. reply.NotReadable p.0 p.1) readable-lawful (λ a. refl) (λ a. refl) (λ a h. h), routed_are_taken),
    ),
  ),
)

reply_found : (c : Reading) (x : Reply) (rest : List ℕ) → c.rest ≡ a_reply.text x ++ rest → a_reply.Form x → Found (reply_at c) x rest
unfolding reply_at
reply_found c (reply.Shown s paxos version m) rest e form = variant_found faults reply_kinds shown (λ p. reply.Shown p.0 p.1.0 p.1.1.0 p.1.1.1) 2 shown-lawful (λ at d. refl) c (s, (paxos, (version, m))) rest e form
reply_found c (reply.Since s from incrementals more) rest e form = variant_found faults reply_kinds since (λ p. reply.Since p.0 p.1.0 p.1.1.1 p.1.1.0) 3 since-lawful (λ at d. refl) c (s, (from, (more, incrementals))) rest e form
reply_found c reply.Unavailable rest e form = variant_found faults reply_kinds nothing (λ x. reply.Unavailable) 7 nothing-lawful (λ at d. refl) c tt rest e form
reply_found c (reply.NotReadable has lease) rest e form = variant_found faults reply_kinds (numeral ⊗ flag) (λ p. reply.NotReadable p.0 p.1) 8 readable-lawful (λ at d. refl) c (has, lease) rest e form
reply_found c (reply.Done version) rest e form = variant_found faults reply_kinds numeral (λ version. reply.Done version) 1 numeral-lawful (λ at d. refl) c version rest e form
reply_found c reply.NoSuch rest e form = variant_found faults reply_kinds nothing (λ x. reply.NoSuch) 4 nothing-lawful (λ at d. refl) c tt rest e form
reply_found c (reply.TooLong len most) rest e form = variant_found faults reply_kinds (numeral ⊗ numeral) (λ p. reply.TooLong p.0 p.1) 5 two-lawful (λ at d. refl) c (len, most) rest e form
reply_found c (reply.MapFull would_be) rest e form = variant_found faults reply_kinds numeral (λ would_be. reply.MapFull would_be) 6 numeral-lawful (λ at d. refl) c would_be rest e form
reply_found c (reply.Busy waiting) rest e form = variant_found faults reply_kinds numeral (λ waiting. reply.Busy waiting) 9 numeral-lawful (λ at d. refl) c waiting rest e form

pub a_reply-lawful : IsLawful a_reply
a_reply-lawful = record { takes = reply_takes; found = reply_found }

-- ---- what a leader answers to a command that was handed on

no_true : IsTrue false → ⊥
no_true h = absurd cc

-- what is read by these kinds is of this sort
chosen_holds : {B : Type 0} (P : B → Type 0) (vs : List (ℕ × Reader B)) (at kind : ℕ) (c : Reading) (x : B × Reading) → AllByRecursion (λ v. (c : Reading) (x : B × Reading) → v.1 c ≡ Ok x → P x.0) vs → chosen vs at kind c ≡ Ok x → P x.0
chosen_holds P [] at kind c x each e = absurd cc
chosen_holds P (v ∷ vs) at kind c x each e =
    elim (tested kind v.0 (v.1 c) (chosen vs at kind c) x e) [
      | inl h ↦ each.0 c x h.1
      | inr h ↦ chosen_holds P vs at kind c x each.1 h
    ]

variant_holds : {A B : Type 0} (P : B → Type 0) (f : Format A) (whole : A → B) → ((a : A) → P (whole a)) → (c : Reading) (x : B × Reading) → variant f whole c ≡ Ok x → P x.0
variant_holds {A} {B} P f whole each c x e =
    let a = bind_ok (f.read c) (λ x. Ok (whole x.0, x.1)) x e in
    subst (λ (p : B × Reading). P p.0) (ok_is (whole a.0.0, a.0.1) x a.2) (each a.0.0)

abbrev Routed : Reply → Type 0
Routed r = IsTrue (is_routed r)

routed_holds : (c : Reading) (x : Reply × Reading) → tagged routed_kinds c ≡ Ok x → IsTrue (is_routed x.0)
routed_holds c x e =
    let a = bind_ok (cut (number 1 c)) (λ kind. chosen routed_kinds c.at kind.0 kind.1) x e in
    chosen_holds Routed routed_kinds c.at a.0.0 a.0.1 x (
      variant_holds Routed numeral (λ version. reply.Done version) (λ a. refl),
      (
        variant_holds Routed nothing (λ x. reply.NoSuch) (λ a. refl),
        (
          variant_holds Routed (numeral ⊗ numeral) (λ p. reply.TooLong p.0 p.1) (λ a. refl),
          (
            variant_holds Routed numeral (λ would_be. reply.MapFull would_be) (λ a. refl),
            (variant_holds Routed numeral (λ waiting. reply.Busy waiting) (λ a. refl), tt),
          ),
        ),
      ),
    )
    a.2

routed_takes : (c : Reading) (x : Reply × Reading) → IsBytes c.rest → routed_at c ≡ Ok x → Takes c (a_routed.text x.0) x.1 × a_routed.Form x.0
unfolding routed_at
routed_takes c x fits e = let t = choice_takes faults reply_encoded routed_kinds routed_are_taken c x fits e in (t.0, (routed_holds c x e, t.1))

routed_found : (c : Reading) (x : Reply) (rest : List ℕ) → c.rest ≡ a_routed.text x ++ rest → a_routed.Form x → Found (routed_at c) x rest
unfolding routed_at
routed_found c (reply.Done version) rest e form = variant_found faults routed_kinds numeral (λ version. reply.Done version) 1 numeral-lawful (λ at d. refl) c version rest e form.1
routed_found c reply.NoSuch rest e form = variant_found faults routed_kinds nothing (λ x. reply.NoSuch) 4 nothing-lawful (λ at d. refl) c tt rest e form.1
routed_found c (reply.TooLong len most) rest e form = variant_found faults routed_kinds (numeral ⊗ numeral) (λ p. reply.TooLong p.0 p.1) 5 two-lawful (λ at d. refl) c (len, most) rest e form.1
routed_found c (reply.MapFull would_be) rest e form = variant_found faults routed_kinds numeral (λ would_be. reply.MapFull would_be) 6 numeral-lawful (λ at d. refl) c would_be rest e form.1
routed_found c (reply.Busy waiting) rest e form = variant_found faults routed_kinds numeral (λ waiting. reply.Busy waiting) 9 numeral-lawful (λ at d. refl) c waiting rest e form.1
routed_found c (reply.Shown s paxos version m) rest e form = absurd (no_true form.0)
routed_found c (reply.Since s from incrementals more) rest e form = absurd (no_true form.0)
routed_found c reply.Unavailable rest e form = absurd (no_true form.0)
routed_found c (reply.NotReadable has lease) rest e form = absurd (no_true form.0)

pub a_routed-lawful : IsLawful a_routed
a_routed-lawful = record { takes = routed_takes; found = routed_found }
