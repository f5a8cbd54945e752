-- Parsing a field accepts exactly its texts.
use Rattle.std.proofs.Common.{◌≡◌, ℕ, ◌^◌, ◌<◌, Bool, true, false, cond, not, eqb, leb, ltb, List, [], ◌∷◌, ◌++◌, length, Option, Some, None, Result, Ok, Err, IsTrue, codes, refl, sym, ap, subst, ◌∙◌, arith, inl, inr, ◌⊎◌}
use Rattle.std.specs.Fmt.{decimal}
use Rattle.std.specs.List.{list_all}
use Rattle.std.specs.Str.{bytes_eq, is_utf8}
use Rattle.std.proofs.lemmas.Bool.{cases_eq, ltb-true}
use Rattle.std.proofs.lemmas.Bool.Decides.{nat_tests}
use Rattle.std.proofs.lemmas.Str.{IsUtf8-from_ascii, is_utf8-from_IsUtf8}
use Rattle.std.proofs.lemmas.Slice.Eq.{bytes_eq-Decides}
use Rattle.std.proofs.lemmas.Fmt.{digits_decimal, decimal_nonempty}
use Rattle.mon_bytes.specs.Texts.{graphic, is_name}
use Rattle.mon_bytes.proofs.Ascii.{both, IsAscii-from_all}
use Rattle.mon_types.specs.declared.names.Side.{Side}
use Rattle.mon_types.specs.declared.names.Side.TheVariants as side
use Rattle.mon_wire.specs.declared.phase.TheConstants.Timer.{ALL}
use Rattle.mon_wire.specs.declared.phase.Timer.{Timer}
use Rattle.mon_wire.specs.declared.phase.Timer.TheVariants.{Probe, Election, Collect, Accept, Renew, LeaseAck, Lease, Sync, Step, Propose, Ping}
use Rattle.mon_wire.specs.declared.request.Service.{Service}
use Rattle.mon_wire.specs.declared.request.Service.TheVariants as service
use Rattle.schedule_text.specs.declared.refusal.ScheduleKind.{ScheduleKind}
use Rattle.schedule_text.specs.declared.refusal.ScheduleKind.TheVariants as kind
use Rattle.schedule_text.specs.Words.{printable, service_text, side_text, timer_text}
use Rattle.schedule_text.specs.Fields.{◌>>=◌, cut, digit, next, field_at, ended, text_at, within, number_of, rank_of, name_of, service_of, side_of, timer_among, timer_of}
use Rattle.schedule_text.specs.Encoding.{spaced}
use Rattle.mon_bytes.proofs.Fields.{guard_ok, chosen_ok, ok_is}
use Rattle.mon_bytes.proofs.Formats.{bind_ok}
use Rattle.schedule_text.proofs.Numerals.{own, number_takes, number_again, rank_takes, rank_again, within_most}

-- ---- bytes

printable_low : (b : ℕ) → IsTrue (printable b) → b < 128
printable_low b h = grind (arith, nat_tests)

pub is_utf8-printable : (bytes : List ℕ) → IsTrue (list_all printable bytes) → IsTrue (is_utf8 bytes)
is_utf8-printable bytes h = is_utf8-from_IsUtf8 bytes (IsUtf8-from_ascii bytes (IsAscii-from_all printable printable_low bytes h))

pub list_all-weaker : (p q : ℕ → Bool) → ((b : ℕ) → IsTrue (p b) → IsTrue (q b)) → (bs : List ℕ) → IsTrue (list_all p bs) → IsTrue (list_all q bs)
list_all-weaker p q h [] all = refl
list_all-weaker p q h (b ∷ bs) all =
    let parts = both (p b) (list_all p bs) all in
    rw (h b parts.0, list_all-weaker p q h bs parts.1) refl

pub list_all-append : (p : ℕ → Bool) (xs ys : List ℕ) → IsTrue (list_all p xs) → IsTrue (list_all p ys) → IsTrue (list_all p (xs ++ ys))
list_all-append p [] ys a b = b
list_all-append p (x ∷ xs) ys a b =
    let parts = both (p x) (list_all p xs) a in
    rw (parts.0, list_all-append p xs ys parts.1 b) refl

-- a byte isn't this separator
abbrev pub apart : ℕ → ℕ → Bool
apart separator b = not (eqb b separator)

apart_is : (separator b : ℕ) → IsTrue (apart separator b) → eqb b separator ≡ false
apart_is separator b h = grind (arith, nat_tests)

pub digit_graphic : (b : ℕ) → IsTrue (digit b) → IsTrue (graphic b)
digit_graphic b h = grind (arith, nat_tests)

graphic_solid : (b : ℕ) → IsTrue (graphic b) → IsTrue (apart 32 b)
graphic_solid b h = grind (arith, nat_tests)

graphic_printable : (b : ℕ) → IsTrue (graphic b) → IsTrue (printable b)
graphic_printable b h = grind (arith, nat_tests)

-- ---- one field

-- what is before the separator, and what follows it if it is there
abbrev pub joined : ℕ → List ℕ → Option (List ℕ) → List ℕ
joined separator f None = f
joined separator f (Some rest) = f ++ separator ∷ rest

joined-cons : (separator b : ℕ) (f : List ℕ) (rest : Option (List ℕ)) → joined separator (b ∷ f) rest ≡ b ∷ joined separator f rest
joined-cons separator b f None = refl
joined-cons separator b f (Some rest) = refl

pub cut_joined : (separator : ℕ) (line : List ℕ) → joined separator (cut separator line).0 (cut separator line).1 ≡ line
cut_joined separator [] = refl
cut_joined separator (b ∷ bs) =
    elim (cases_eq b separator) [
      | inl e ↦ let t : eqb b separator ≡ true = grind (arith, nat_tests) in rw t (ap (λ (s : ℕ). s ∷ bs) (sym e))
      | inr ne ↦ let t : eqb b separator ≡ false = grind (arith, nat_tests) in rw t (joined-cons separator b (cut separator bs).0 (cut separator bs).1 ∙ ap (λ (xs : List ℕ). b ∷ xs) (cut_joined separator bs))
    ]

same_separator : (separator : ℕ) → eqb separator separator ≡ true
same_separator separator = grind (arith, nat_tests)

pub cut_again : (separator : ℕ) (f : List ℕ) (rest : Option (List ℕ)) → IsTrue (list_all (apart separator) f) → cut separator (joined separator f rest) ≡ (f, rest)
cut_again separator [] None h = refl
cut_again separator [] (Some rest) h = rw (same_separator separator) refl
cut_again separator (b ∷ bs) None h =
    let parts = both (apart separator b) (list_all (apart separator) bs) h in
    rw (apart_is separator b parts.0, cut_again separator bs None parts.1) refl
cut_again separator (b ∷ bs) (Some rest) h =
    let parts = both (apart separator b) (list_all (apart separator) bs) h in
    rw (apart_is separator b parts.0, cut_again separator bs (Some rest) parts.1) refl

-- the rest of a line begins with this field
pub record Reads (rest : Option (List ℕ)) (field : List ℕ) (after : Option (List ℕ)) : Type 0 where
  pub is : rest ≡ Some (joined 32 field after)

pub Reads-then : (rest : Option (List ℕ)) (f : List ℕ) (after : Option (List ℕ)) (body : List ℕ) → Reads rest f after → after ≡ Some body → rest ≡ Some (spaced f body)
Reads-then rest f after body r e = r.is ∙ ap (λ (a : Option (List ℕ)). Some (joined 32 f a)) e

pub Reads-last : (rest : Option (List ℕ)) (f : List ℕ) (after : Option (List ℕ)) → Reads rest f after → after ≡ None → rest ≡ Some f
Reads-last rest f after r e = r.is ∙ ap (λ (a : Option (List ℕ)). Some (joined 32 f a)) e

pub next_reads : (rest after : Option (List ℕ)) (f : List ℕ) → next rest ≡ Ok (f, after) → Reads rest f after
next_reads None after f e = absurd cc
next_reads (Some line) after f e =
    let g = guard_ok (eqb (length (cut 32 line).0) 0) kind.Word (Ok (cut 32 line)) (f, after) e in
    let same = ok_is (cut 32 line) (f, after) g.1 in
    record { is = ap (λ (xs : List ℕ). Some xs) (sym (cut_joined 32 line) ∙ ap (λ (p : List ℕ × Option (List ℕ)). joined 32 p.0 p.1) same) }

-- what may be a field
pub record IsWord (f : List ℕ) : Type 0 where
  pub long : 0 < length f
  pub graphics : IsTrue (list_all graphic f)

some_bytes : (n : ℕ) → 0 < n → eqb n 0 ≡ false
some_bytes n lt = grind (arith, nat_tests)

pub next_again : (f : List ℕ) (rest : Option (List ℕ)) → IsWord f → next (Some (joined 32 f rest)) ≡ Ok (f, rest)
next_again f rest w =
    rw (cut_again 32 f rest (list_all-weaker graphic (apart 32) graphic_solid f w.graphics), some_bytes (length f) w.long) refl

pub IsWord-printable : (f : List ℕ) → IsWord f → IsTrue (list_all printable f)
IsWord-printable f w = list_all-weaker graphic printable graphic_printable f w.graphics

pub IsWord-decimal : (n : ℕ) → n < 2 ^ 64 → IsWord (decimal n)
IsWord-decimal n small = record { long = decimal_nonempty n small; graphics = list_all-weaker digit graphic digit_graphic (decimal n) (digits_decimal own n small) }

-- ---- the forms of fields

-- A form: how it is read, how a value is encoded, and which values have an encoding.
pub record IsForm (A : Type 0) (read : List ℕ → Result A ScheduleKind) (text : A → List ℕ) (fits : A → Bool) : Type 0 where
  pub takes : (f : List ℕ) (x : A) → read f ≡ Ok x → (f ≡ text x) × IsTrue (fits x)
  pub again : (x : A) → IsTrue (fits x) → read (text x) ≡ Ok x
  pub word : (x : A) → IsTrue (fits x) → IsWord (text x)

number_word : (least most n : ℕ) → most < 2 ^ 64 → IsTrue (within least most n) → IsWord (decimal n)
number_word least most n small h = let le = within_most least most n h in IsWord-decimal n (omega arith)

pub number_form : (least most : ℕ) → most < 2 ^ 64 → IsForm ℕ (number_of least most) decimal (within least most)
number_form least most small = record {
  takes = λ f n e. number_takes least most f n small e;
  again = λ n h. number_again least most n small h;
  word = λ n h. number_word least most n small h;
}

within_upto : (most n : ℕ) → IsTrue (within 0 most n) → IsTrue (leb n most)
within_upto most n h = grind (arith, nat_tests)

upto_within : (most n : ℕ) → IsTrue (leb n most) → IsTrue (within 0 most n)
upto_within most n h = grind (arith, nat_tests)

-- a number of at most `most`
pub upto_form : (most : ℕ) → most < 2 ^ 64 → IsForm ℕ (number_of 0 most) decimal (λ n. leb n most)
upto_form most small = record {
  takes = λ f n e. let t = number_takes 0 most f n small e in (t.0, within_upto most n t.1);
  again = λ n h. number_again 0 most n small (upto_within most n h);
  word = λ n h. number_word 0 most n small (upto_within most n h);
}

rank_word : (n r : ℕ) → n < 2 ^ 64 → IsTrue (ltb r n) → IsWord (decimal r)
rank_word n r small h = let lt = ltb-true r n h in IsWord-decimal r (omega arith)

pub rank_form : (n : ℕ) → n < 2 ^ 64 → IsForm ℕ (rank_of n) decimal (λ r. ltb r n)
rank_form n small = record {
  takes = λ f r e. rank_takes n f r small e;
  again = λ r h. rank_again n r small h;
  word = λ r h. rank_word n r small h;
}

name_takes : (f key : List ℕ) → name_of f ≡ Ok key → (f ≡ key) × IsTrue (is_name key)
unfolding name_of
name_takes f key e =
    let g = chosen_ok (is_name f) kind.Word (Ok f) key e in
    let same = ok_is f key g.1 in
    (same, subst (λ (k : List ℕ). IsTrue (is_name k)) same g.0)

name_again : (key : List ℕ) → IsTrue (is_name key) → name_of key ≡ Ok key
unfolding name_of
name_again key h = rw h refl

name_long : (key : List ℕ) → IsTrue (is_name key) → 0 < length key
name_long [] h = absurd cc
name_long (b ∷ bs) h = omega arith

name_word : (key : List ℕ) → IsTrue (is_name key) → IsWord key
name_word key h = record { long = name_long key h; graphics = (both _ (list_all graphic key) h).1 }

pub name_form : IsForm (List ℕ) name_of (λ key. key) is_name
name_form = record { takes = name_takes; again = name_again; word = name_word }

abbrev always : {A : Type 0} → A → Bool
always x = true

-- one of the words, or otherwise another
pub chosen_word : {A : Type 0} (f w : List ℕ) (r s : Result A ScheduleKind) (x : A) → cond (bytes_eq f w) r s ≡ Ok x → ((f ≡ w) × (r ≡ Ok x)) ⊎ (s ≡ Ok x)
chosen_word f w r s x e =
    let by_word : (b : Bool) → bytes_eq f w ≡ b → cond b r s ≡ Ok x → ((f ≡ w) × (r ≡ Ok x)) ⊎ (s ≡ Ok x) =
    λ b. elim b as (λ b. bytes_eq f w ≡ b → cond b r s ≡ Ok x → ((f ≡ w) × (r ≡ Ok x)) ⊎ (s ≡ Ok x)) [
      | true ↦ λ t h. inl ((bytes_eq-Decides f w).0 t, h)
      | false ↦ λ t h. inr h
    ] in
    by_word (bytes_eq f w) refl e

-- the last word that there is
pub last_word : {A : Type 0} (f w : List ℕ) (r : Result A ScheduleKind) (fault : ScheduleKind) (x : A) → cond (bytes_eq f w) r (Err fault) ≡ Ok x → (f ≡ w) × (r ≡ Ok x)
last_word f w r fault x e =
    let g = chosen_ok (bytes_eq f w) fault r x e in
    ((bytes_eq-Decides f w).0 g.0, g.1)

service_takes : (f : List ℕ) (s : Service) → service_of f ≡ Ok s → (f ≡ service_text s) × IsTrue (always s)
unfolding service_of
service_takes f s e =
    elim (chosen_word f (codes "kv") (Ok service.Kv) (cond (bytes_eq f (codes "log")) (Ok service.Log) (Err kind.Word)) s e) [
      | inl h ↦ (h.0 ∙ ap service_text (ok_is service.Kv s h.1), refl)
      | inr h ↦ let g = last_word f (codes "log") (Ok service.Log) kind.Word s h in (g.0 ∙ ap service_text (ok_is service.Log s g.1), refl)
    ]

service_again : (s : Service) → IsTrue (always s) → service_of (service_text s) ≡ Ok s
unfolding service_of
service_again service.Kv h = refl
service_again service.Log h = refl

service_word : (s : Service) → IsTrue (always s) → IsWord (service_text s)
service_word service.Kv h = record { long = omega arith; graphics = refl }
service_word service.Log h = record { long = omega arith; graphics = refl }

pub service_form : IsForm Service service_of service_text always
service_form = record { takes = service_takes; again = service_again; word = service_word }

side_takes : (f : List ℕ) (s : Side) → side_of f ≡ Ok s → (f ≡ side_text s) × IsTrue (always s)
unfolding side_of
side_takes f s e =
    elim (chosen_word f (codes "a") (Ok side.A) (cond (bytes_eq f (codes "b")) (Ok side.B) (Err kind.Word)) s e) [
      | inl h ↦ (h.0 ∙ ap side_text (ok_is side.A s h.1), refl)
      | inr h ↦ let g = last_word f (codes "b") (Ok side.B) kind.Word s h in (g.0 ∙ ap side_text (ok_is side.B s g.1), refl)
    ]

side_again : (s : Side) → IsTrue (always s) → side_of (side_text s) ≡ Ok s
unfolding side_of
side_again side.A h = refl
side_again side.B h = refl

side_word : (s : Side) → IsTrue (always s) → IsWord (side_text s)
side_word side.A h = record { long = omega arith; graphics = refl }
side_word side.B h = record { long = omega arith; graphics = refl }

pub side_form : IsForm Side side_of side_text always
side_form = record { takes = side_takes; again = side_again; word = side_word }

among_takes : (ts : List Timer) (f : List ℕ) (t : Timer) → timer_among ts f ≡ Ok t → f ≡ timer_text t
among_takes [] f t e = absurd cc
among_takes (first ∷ ts) f t e =
    elim (chosen_word f (timer_text first) (Ok first) (timer_among ts f) t e) [
      | inl h ↦ h.0 ∙ ap timer_text (ok_is first t h.1)
      | inr h ↦ among_takes ts f t h
    ]

timer_takes : (f : List ℕ) (t : Timer) → timer_of f ≡ Ok t → (f ≡ timer_text t) × IsTrue (always t)
unfolding timer_of
timer_takes f t e = (among_takes ALL f t e, refl)

timer_again : (t : Timer) → IsTrue (always t) → timer_of (timer_text t) ≡ Ok t
unfolding timer_of
timer_again Probe h = refl
timer_again Election h = refl
timer_again Collect h = refl
timer_again Accept h = refl
timer_again Renew h = refl
timer_again LeaseAck h = refl
timer_again Lease h = refl
timer_again Sync h = refl
timer_again Step h = refl
timer_again Propose h = refl
timer_again Ping h = refl

timer_word : (t : Timer) → IsTrue (always t) → IsWord (timer_text t)
timer_word Probe h = record { long = omega arith; graphics = refl }
timer_word Election h = record { long = omega arith; graphics = refl }
timer_word Collect h = record { long = omega arith; graphics = refl }
timer_word Accept h = record { long = omega arith; graphics = refl }
timer_word Renew h = record { long = omega arith; graphics = refl }
timer_word LeaseAck h = record { long = omega arith; graphics = refl }
timer_word Lease h = record { long = omega arith; graphics = refl }
timer_word Sync h = record { long = omega arith; graphics = refl }
timer_word Step h = record { long = omega arith; graphics = refl }
timer_word Propose h = record { long = omega arith; graphics = refl }
timer_word Ping h = record { long = omega arith; graphics = refl }

pub timer_form : IsForm Timer timer_of timer_text always
timer_form = record { takes = timer_takes; again = timer_again; word = timer_word }

-- ---- a field of a form

-- a reading that began with a field, and went on to p
pub record Stepped (A P : Type 0) (text : A → List ℕ) (fits : A → Bool) (rest : Option (List ℕ)) (follow : A × Option (List ℕ) → Result P ScheduleKind) (p : P) : Type 0 where
  pub x : A
  pub after : Option (List ℕ)
  pub reads : Reads rest (text x) after
  pub fitting : IsTrue (fits x)
  pub on : follow (x, after) ≡ Ok p

pub field_step : {A P : Type 0} {read : List ℕ → Result A ScheduleKind} {text : A → List ℕ} {fits : A → Bool} → IsForm A read text fits → (rest : Option (List ℕ)) (follow : A × Option (List ℕ) → Result P ScheduleKind) (p : P)
    → (field_at read rest >>= follow) ≡ Ok p → Stepped A P text fits rest follow p
unfolding field_at
field_step {A} {P} {read} {text} {fits} form rest follow p e =
    let a = bind_ok (field_at read rest) follow p e in
    let b = bind_ok (next rest) (λ field. read field.0 >>= λ x. Ok (x, field.1)) a.0 a.1 in
    let c = bind_ok (read b.0.0) (λ x. Ok (x, b.0.1)) a.0 b.2 in
    let same = ok_is (c.0, b.0.1) a.0 c.2 in
    let taken = form.takes b.0.0 c.0 c.1 in
    record {
      x = c.0;
      after = b.0.1;
      reads = subst (λ (f : List ℕ). Reads rest f b.0.1) taken.0 (next_reads rest b.0.1 b.0.0 b.1);
      fitting = taken.1;
      on = ap follow same ∙ a.2;
    }

pub field_last : {A : Type 0} {read : List ℕ → Result A ScheduleKind} {text : A → List ℕ} {fits : A → Bool} → IsForm A read text fits → (x : A) → IsTrue (fits x) → field_at read (Some (text x)) ≡ Ok (x, None)
unfolding field_at
field_last {A} {read} {text} {fits} form x h = rw (next_again (text x) None (form.word x h), form.again x h) refl

pub field_again : {A : Type 0} {read : List ℕ → Result A ScheduleKind} {text : A → List ℕ} {fits : A → Bool} → IsForm A read text fits → (x : A) (rest : List ℕ) → IsTrue (fits x) → field_at read (Some (spaced (text x) rest)) ≡ Ok (x, Some rest)
unfolding field_at
field_again {A} {read} {text} {fits} form x rest h = rw (next_again (text x) (Some rest) (form.word x h), form.again x h) refl

-- ---- the end, and the rest of a line

pub ended_takes : {A : Type 0} (rest : Option (List ℕ)) (x y : A) → ended rest x ≡ Ok y → (rest ≡ None) × (x ≡ y)
ended_takes None x y e = (refl, ok_is x y e)
ended_takes (Some bytes) x y e = absurd cc

pub text_takes : (rest : Option (List ℕ)) (bytes : List ℕ) → text_at rest ≡ Ok bytes → (rest ≡ Some bytes) × IsTrue (list_all printable bytes)
text_takes None bytes e = absurd cc
text_takes (Some found) bytes e =
    let g = chosen_ok (list_all printable found) kind.Word (Ok found) bytes e in
    let same = ok_is found bytes g.1 in
    (ap (λ (xs : List ℕ). Some xs) same, subst (λ (xs : List ℕ). IsTrue (list_all printable xs)) same g.0)

pub text_again : (bytes : List ℕ) → IsTrue (list_all printable bytes) → text_at (Some bytes) ≡ Ok bytes
text_again bytes h = rw h refl
