-- The note of a message that is sent for the first time, and again by time.
use Rattle.std.specs.Prelude.{◌≡◌, ℕ, ◌+◌, ◌≤◌, min, max, Bool, true, false, ◌&&◌, ◌||◌, not, refl, is_some}
use Rattle.std.proofs.Common.{cond, eqb, arith, sym, subst}
use Rattle.std.proofs.lemmas.Bool.Decides.{nat_tests}
use Rattle.mon_decode.specs.declared.header.Header.{Header}
use Rattle.mon_decode.specs.Headers.{same_kind}
use Rattle.mon_resend.specs.declared.measure.Measure.{Measure}
use Rattle.mon_resend.specs.declared.outbox.Outbox.{Outbox}
use Rattle.mon_resend.specs.declared.rows.Way.{Way}
use Rattle.mon_resend.specs.declared.rows.Way.TheVariants as way
use Rattle.mon_resend.specs.Again.{first_forward, note_of}
use Rattle.mon_resend.specs.Measures.{waits}
use Rattle.mon_resend.specs.Notes.{every_of, is_when_asked, noted, plus}
use Rattle.mon_resend.specs.Rows.{way_of}
use Rattle.mon_wire.specs.declared.kind.Kind.{Kind}
use Rattle.mon_wire.specs.declared.kind.Kind.TheVariants as kind
use Rattle.resend_laws.specs.Copies.{IsTried}

at_most : (known : Bool) (n : ℕ) → cond (not known) 500 (max 3 (min n 2000)) ≤ 2000
at_most true n = omega arith
at_most false n = omega arith

least_at_most : (cookie chunk : Bool) → cond cookie 2000 (cond chunk 100 0) ≤ 2000
least_at_most true chunk = omega arith
least_at_most false true = omega arith
least_at_most false false = omega arith

waits_at_most : (m : Measure) → waits m ≤ 2000
waits_at_most m = at_most m.known _

every_at_most : (k : Kind) (wait : ℕ) → wait ≤ 2000 → every_of k 1 wait ≤ 2000
every_at_most k wait le =
    let least = least_at_most (same_kind k kind.GetCookieFull || same_kind k kind.GetCookieRecent) (same_kind k kind.GetChunk) in
    omega (arith, le, least)

due_at_most : (w : Way) (held : Bool) (never now every : ℕ) → w ≡ way.ByTime → held ≡ false → every ≤ 2000 → cond (held || is_when_asked w) never (plus now every) ≤ now + 2000
due_at_most way.ByTime false never now every e f le = omega (arith, le)
due_at_most way.ByTime true never now every e f le = absurd cc
due_at_most way.WhenAsked held never now every e f le = absurd cc
due_at_most way.Never held never now every e f le = absurd cc

new_tried : (h : Header) (held : Bool) (wait now : ℕ) → way_of h.kind ≡ way.ByTime → same_kind h.kind kind.GetChunk ≡ false → held ≡ false → wait ≤ 2000 → IsTried 2000 now (noted h 1 held wait now)
new_tried h held wait now by_time other first le =
    let every = every_at_most h.kind wait le in
    record {
      by_time = by_time;
      no_chunk = other;
      not_held = first;
      every = every;
      due = due_at_most (way_of h.kind) held _ now (every_of h.kind 1 wait) by_time first every;
      times = omega arith;
    }

in_one : (b : Bool) (n : ℕ) → b ≡ true → cond b 1 n ≡ 1
in_one true n e = refl
in_one false n e = absurd cc

pub tried : (h : Header) (length now : ℕ) (b : Outbox) → way_of h.kind ≡ way.ByTime → same_kind h.kind kind.GetChunk ≡ false → (note_of h length length now b).held ≡ false
    → IsTried 2000 now (note_of h length length now b)
tried h length now b by_time other first =
    let held = same_kind h.kind kind.Forward && is_some (first_forward b.shelf) in
    let one : eqb length length ≡ true = grind (arith, nat_tests) in
    subst (λ pieces. IsTried 2000 now (noted h pieces held (waits b.measure) now)) (sym (in_one (eqb length length) _ one))
    (new_tried h held (waits b.measure) now by_time other first (waits_at_most b.measure))
