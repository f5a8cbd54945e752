-- A copy that is sent by time is dropped after it was sent often enough.
use Rattle.std.specs.Prelude.{◌≡◌, ℕ, suc, ◌+◌, ◌≤◌, ◌<◌, min, Bool, true, false, ◌&&◌, ◌||◌, not, refl, List, [], ◌∷◌, ◌⊎◌}
use Rattle.std.proofs.Common.{cond, leb, ltb, arith, inl, inr, sym, subst}
use Rattle.std.proofs.lemmas.Bool.Decides.{nat_tests}
use Rattle.mon_decode.specs.Headers.{same_kind}
use Rattle.mon_link.specs.declared.link.Outgoing.{Outgoing}
use Rattle.mon_link.specs.declared.link.Peer.TheVariants.{Monitor}
use Rattle.mon_resend.specs.declared.copies.Copies.{Copies}
use Rattle.mon_resend.specs.declared.note.Note.{Note}
use Rattle.mon_resend.specs.declared.rows.Way.{Way}
use Rattle.mon_resend.specs.declared.rows.Way.TheVariants as way
use Rattle.mon_resend.specs.Copied.{datagram}
use Rattle.mon_resend.specs.Notes.{doubled, after_sending as went_once, is_due, is_spent, is_when_asked, plus}
use Rattle.mon_resend.specs.Rows.{way_of}
use Rattle.mon_resend.specs.Shelves.{after_sending_if_due}
use Rattle.mon_wire.specs.declared.kind.Kind.TheVariants as kind
use Rattle.resend_laws.specs.Copies.{EachOf, EachAt, IsOver, IsNotSent, IsTried}
use Rattle.resend_laws.specs.Runs.{Step, Sends, Hears, Passes, step, run, IsInOrder, rounds}
use Rattle.resend_laws.proofs.Each.{IsStable, each_changed, each_grows, each_is, each_lasts}
use Rattle.resend_laws.proofs.Unchanged.{unchanged}
use Rattle.mon_resend.proofs.Walk.{sent_at, arrived_at, passed_at}

-- The copy was sent j times at least, and is due at most `wait` after `since`; or it was sent once more, and is due at
-- most `wait` after `now`.
pub record IsAt (wait j since now : ℕ) (n : Note) : Type 0 where
  pub by_time : way_of n.header.kind ≡ way.ByTime
  pub no_chunk : same_kind n.header.kind kind.GetChunk ≡ false
  pub not_held : n.held ≡ false
  pub every : n.every ≤ wait
  pub times : n.times ≤ 16
  pub either : ((n.due ≤ since + wait) × (j ≤ n.times)) ⊎ ((n.due ≤ now + wait) × (suc j ≤ n.times))

stable : (wait j since now : ℕ) → IsStable (IsAt wait j since now)
stable wait j since now event at n h = subst (IsAt wait j since now) (sym (unchanged event at n h.by_time h.no_chunk h.not_held)) h

later : (wait j since now then_now : ℕ) (n : Note) → now ≤ then_now → IsAt wait j since now n → IsAt wait j since then_now n
later wait j since now then_now n le h = record {
  by_time = h.by_time;
  no_chunk = h.no_chunk;
  not_held = h.not_held;
  every = h.every;
  times = h.times;
  either = elim h.either [ inl a ↦ inl a | inr b ↦ inr (omega (arith, b.0, le), b.1) ];
}

-- ---- the copy is sent

abbrev pub next_note : ℕ → Note → Note
next_note now n = record n { last = now; due = plus now (doubled n.every); every = doubled n.every; times = min (n.times + 1) 255 }

by_way : (w : Way) (held : Bool) (a b c : Note) → w ≡ way.ByTime → held ≡ false → cond (is_when_asked w) a (cond held b c) ≡ c
by_way way.ByTime false a b c e f = refl
by_way way.ByTime true a b c e f = absurd cc
by_way way.WhenAsked held a b c e f = absurd cc
by_way way.Never held a b c e f = absurd cc

pub went_by_time : (now : ℕ) (n : Note) → way_of n.header.kind ≡ way.ByTime → n.held ≡ false → went_once now n ≡ next_note now n
went_by_time now n w e = by_way (way_of n.header.kind) n.held _ _ (next_note now n) w e

pub third : (a b c : Bool) → (a && b && c) ≡ true → c ≡ true
third true true c e = e
third true false c e = absurd cc
third false b c e = absurd cc

neither : (a b c d : Bool) → a ≡ true → (a && (true || b) && c) ≡ false → (a && d) ≡ false → (c ≡ false) × (d ≡ false)
neither true b c d e f g = (f, g)
neither false b c d e f g = absurd cc

if_uncounted : (wait j since now at : ℕ) (again : Bool) (n : Note) (b : Bool) → 1000 ≤ wait → now ≤ at → is_due again at n ≡ b → IsAt wait j since now n → IsAt wait j since at (cond b (went_once at n) n)
if_uncounted wait j since now at again n true most le e h =
    let few : n.times < 16 = grind (arith, nat_tests, third (leb n.due at) (again || n.held) (ltb n.times 16) e) in
    let tries : j ≤ n.times = elim h.either [ inl a ↦ a.1 | inr b ↦ omega (arith, b.1) ] in
    subst (IsAt wait j since at) (sym (went_by_time at n h.by_time h.not_held)) (record {
      by_time = h.by_time;
      no_chunk = h.no_chunk;
      not_held = h.not_held;
      every = omega (arith, most, h.every);
      times = omega (arith, few);
      either = inr (omega (arith, most, h.every), omega (arith, few, tries));
    })
if_uncounted wait j since now at again n false most le e h = later wait j since now at n le h

uncounted : (wait j since now at : ℕ) (again : Bool) (n : Note) → 1000 ≤ wait → now ≤ at → IsAt wait j since now n → IsAt wait j since at (after_sending_if_due again at n)
uncounted wait j since now at again n most le h = if_uncounted wait j since now at again n (is_due again at n) most le refl h

if_counted : (wait j since now at : ℕ) (n : Note) (b : Bool) → 1000 ≤ wait → now ≤ at → since + wait ≤ at → is_spent at n ≡ false → is_due true at n ≡ b → IsAt wait j since now n → IsAt wait (suc j) at at (cond b (went_once at n) n)
if_counted wait j since now at n true most le far spent e h =
    let few : n.times < 16 = grind (arith, nat_tests, third (leb n.due at) true (ltb n.times 16) e) in
    let tries : j ≤ n.times = elim h.either [ inl a ↦ a.1 | inr b ↦ omega (arith, b.1) ] in
    subst (IsAt wait (suc j) at at) (sym (went_by_time at n h.by_time h.not_held)) (record {
      by_time = h.by_time;
      no_chunk = h.no_chunk;
      not_held = h.not_held;
      every = omega (arith, most, h.every);
      times = omega (arith, few);
      either = inl (omega (arith, most, h.every), omega (arith, few, tries));
    })
if_counted wait j since now at n false most le far spent e h =
    let due : (n.due ≤ since + wait) → (suc j ≤ n.times) = λ d.
    let here : leb n.due at ≡ true = grind (arith, nat_tests, d, far) in
    let two = neither (leb n.due at) n.held (ltb n.times 16) (leb 16 n.times) here e spent in
    absurd (grind (arith, nat_tests, two.0, two.1)) in
    record {
      by_time = h.by_time;
      no_chunk = h.no_chunk;
      not_held = h.not_held;
      every = h.every;
      times = h.times;
      either = elim h.either [ inl a ↦ inl (omega (arith, a.0, far), due a.0) | inr b ↦ inl (omega (arith, b.0, le), b.1) ];
    }

isnt_spent : (b : Bool) → not b ≡ true → b ≡ false
isnt_spent true e = absurd cc
isnt_spent false e = refl

counted : (wait j since now at : ℕ) (n : Note) → 1000 ≤ wait → now ≤ at → since + wait ≤ at → is_spent at n ≡ false → IsAt wait j since now n → IsAt wait (suc j) at at (after_sending_if_due true at n)
counted wait j since now at n most le far spent h = if_counted wait j since now at n (is_due true at n) most le far spent refl h

module _ (rank : ℕ) (x : Outgoing) (wait : ℕ) (most : 1000 ≤ wait) where
  abbrev pub Tries : (j since now : ℕ) → Copies → Type 0
  Tries j since now c = EachAt rank x (IsAt wait j since now) c

  pub passes : (j since now at : ℕ) (again : Bool) (c : Copies) → now ≤ at → Tries j since now c → Tries j since at (step (Passes again at) c)
  passes j since now at again c le h =
      let F = IsAt wait j since now in
      let G = IsAt wait j since at in
      passed_at (EachOf x F) (EachOf x G) tt (each_lasts x G (stable wait j since at)) rank again at c
      (λ kept g. each_changed x F G (after_sending_if_due again at) (λ k. not (is_spent at k.note)) (λ k e f. uncounted wait j since now at again k.note most le f) kept g) h

  counts : (j since now at : ℕ) (c : Copies) → now ≤ at → since + wait ≤ at → Tries j since now c → Tries (suc j) at at (step (Passes true at) c)
  counts j since now at c le far h =
      let F = IsAt wait j since now in
      let G = IsAt wait (suc j) at at in
      passed_at (EachOf x F) (EachOf x G) tt (each_lasts x G (stable wait (suc j) at at)) rank true at c
      (λ kept g. each_changed x F G (after_sending_if_due true at) (λ k. not (is_spent at k.note)) (λ k e f. counted wait j since now at k.note most le far (isnt_spent (is_spent at k.note) e) f) kept g) h

  -- `many` rounds in all
  pub pass : (many j since now at : ℕ) (steps : List Step) (c : Copies) (b : Bool) → leb (since + wait) at ≡ b → now ≤ at → Tries j since now c
      → many ≤ j + cond b (suc (rounds wait at steps)) (rounds wait since steps)
      → (Tries (suc j) at at (step (Passes true at) c) × (many ≤ suc j + rounds wait at steps)) ⊎ (Tries j since at (step (Passes true at) c) × (many ≤ j + rounds wait since steps))
  pass many j since now at steps c true e le h all = let far : since + wait ≤ at = grind (arith, nat_tests, e) in inl (counts j since now at c le far h, omega (arith, all))
  pass many j since now at steps c false e le h all = inr (passes j since now at true c le h, all)

  -- x is neither sent anew nor is time passing
  pub sends : (j since now : ℕ) (memory : Bool) (to : ℕ) (bytes : List ℕ) (at : ℕ) (c : Copies) → (datagram (Monitor to) bytes ≡ x → ⊥) → now ≤ at → Tries j since now c → Tries j since at (step (Sends memory to bytes at) c)
  sends j since now memory to bytes at c other le h =
      let F = IsAt wait j since at in
      sent_at (EachOf x F) tt (each_lasts x F (stable wait j since at)) rank memory to bytes at c (each_grows x F (datagram (Monitor to) bytes) other)
      (each_is x (IsAt wait j since now) F (λ n g. later wait j since now at n le g) _ h)

  pub hears : (j since now : ℕ) (memory : Bool) (from : ℕ) (bytes : List ℕ) (at : ℕ) (c : Copies) → now ≤ at → Tries j since now c → Tries j since at (step (Hears memory from bytes at) c)
  hears j since now memory from bytes at c le h =
      let F = IsAt wait j since at in
      arrived_at (EachOf x F) tt (each_lasts x F (stable wait j since at)) rank memory from bytes at c
      (each_is x (IsAt wait j since now) F (λ n g. later wait j since now at n le g) _ h)

  over : (j since now : ℕ) (n : Note) → 16 < j → IsAt wait j since now n → ⊥
  over j since now n many h = elim h.either [ inl a ↦ omega (arith, a.1, h.times, many) | inr b ↦ omega (arith, b.1, h.times, many) ]

  ends : (steps : List Step) (j since now : ℕ) (c : Copies) → Tries j since now c → IsNotSent x steps → IsInOrder now steps → 16 < j + rounds wait since steps → IsOver rank x (run steps c)
  ends [] j since now c h others order many = each_is x (IsAt wait j since now) (λ n. ⊥) (λ n g. over j since now n (omega (arith, many)) g) _ h
  ends (Sends memory to bytes at ∷ steps) j since now c h others order many =
      ends steps j since at (step (Sends memory to bytes at) c) (sends j since now memory to bytes at c others.0 order.0 h) others.1 order.1 many
  ends (Hears memory from bytes at ∷ steps) j since now c h others order many =
      ends steps j since at (step (Hears memory from bytes at) c) (hears j since now memory from bytes at c order.0 h) others.1 order.1 many
  ends (Passes false at ∷ steps) j since now c h others order many =
      ends steps j since at (step (Passes false at) c) (passes j since now at false c order.0 h) others.1 order.1 many
  ends (Passes true at ∷ steps) j since now c h others order many =
      elim (pass 17 j since now at steps c (leb (since + wait) at) refl order.0 h (omega (arith, many))) [
        | inl a ↦ ends steps (suc j) at at (step (Passes true at) c) a.0 others.1 order.1 (omega (arith, a.1))
        | inr b ↦ ends steps j since at (step (Passes true at) c) b.0 others.1 order.1 (omega (arith, b.1))
      ]

pub at_first : (wait since : ℕ) (n : Note) → IsTried wait since n → IsAt wait 0 since since n
at_first wait since n h = record { by_time = h.by_time; no_chunk = h.no_chunk; not_held = h.not_held; every = h.every; times = h.times; either = inl (h.due, omega arith) }

pub after_sending : (c : Copies) (rank : ℕ) (x : Outgoing) (wait since : ℕ) (steps : List Step) → 1000 ≤ wait → EachAt rank x (IsTried wait since) c → IsNotSent x steps → IsInOrder since steps
    → 16 < rounds wait since steps → IsOver rank x (run steps c)
after_sending c rank x wait since steps most h others order many = ends rank x wait most steps 0 since since c (each_is x (IsTried wait since) (IsAt wait 0 since since) (at_first wait since) _ h) others order (omega (arith, many))
