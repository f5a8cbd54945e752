-- FORWARDs are sent in order.
use Rattle.std.specs.Prelude.{◌≡◌, ℕ, zero, suc, ◌-◌, ◌^◌, ◌≤◌, ◌<◌, Bool, true, false, ◌&&◌, ◌||◌, not, refl, List, [], ◌∷◌, ◌++◌, length, filter, Option, Some, None, is_some, ◌⊎◌, get_or}
use Rattle.std.specs.List.Sorted.{IsNonDecreasing}
use Rattle.std.proofs.Common.{cond, eqb, leb, arith, inl, inr, sym, subst}
use Rattle.std.proofs.lemmas.Bool.{and_from, cases_Bool, cond_both}
use Rattle.std.proofs.lemmas.Bool.Decides.{nat_tests}
use Rattle.mon_decode.specs.declared.header.Header.{Header}
use Rattle.mon_link.specs.declared.link.Outgoing.{Outgoing}
use Rattle.mon_link.specs.declared.link.Peer.TheVariants.{Monitor}
use Rattle.mon_resend.specs.declared.copies.Copies.{Copies}
use Rattle.mon_resend.specs.declared.datagram.Part.{Part}
use Rattle.mon_resend.specs.declared.datagram.Part.TheVariants.{Whole, First, Later}
use Rattle.mon_resend.specs.declared.note.Event.TheVariants.{Sent, Released}
use Rattle.mon_resend.specs.declared.note.Note.{Note}
use Rattle.mon_resend.specs.declared.outbox.Outbox.{Outbox}
use Rattle.mon_resend.specs.declared.outbox.UnderWay.{UnderWay}
use Rattle.mon_resend.specs.declared.outbox.UnderWay.TheVariants as under_way
use Rattle.mon_resend.specs.declared.rows.Way.{Way}
use Rattle.mon_resend.specs.declared.rows.Way.TheVariants as way
use Rattle.mon_resend.specs.declared.shelf.Kept.{Kept}
use Rattle.mon_resend.specs.Again.{nothing, released_by, released, held_forward, cleared, with_copy, first_kept, first_forward, begun as begins_to_go, begun_as, begins_as, note_of, under_way_of, fits, continued_with, continued, continues_now}
use Rattle.mon_resend.specs.Copied.{datagram}
use Rattle.mon_resend.specs.Datagrams.{part_of}
use Rattle.mon_resend.specs.Notes.{after, after_sending, is_ended, is_spent, is_when_asked, plus}
use Rattle.mon_resend.specs.Rows.{way_of}
use Rattle.mon_resend.specs.Shelves.{applied, after_sending_if_due, due_sent, has_room}
use Rattle.mon_resend.specs.World.{box_of, began, begins, sent_part, is_part_sent}
use Rattle.resend_laws.specs.Forwards.{number_of, numbers, long, kept_for, begun_in, begun_by, begun, sent_in, leave_in, leave, IsBeforeEnd}
use Rattle.resend_laws.specs.Runs.{Step, Sends, Hears, Passes, step, run, time_of}
use Rattle.mon_resend.proofs.Steps.{At, Of, Lasts, put_own, risen_at, begins_at, sent_other, arrived_at, passed_at}
use Rattle.resend_laws.proofs.Lines.{All, Climbs, EachNumber, Queue, Same, Steady, Waits, all_are, all_changed, all_more, changed, climbs_all, climbs_changed, climbs_lower, climbs_more, each_number, first_goes, first_or, if_first, if_none, is_forward, numbers_more, numbers_same, queue_changed, queue_more, queue_released, release_first, waits_on}
use Rattle.resend_laws.proofs.Unchanged.{header_stays, forward_by_time, forward_no_chunk, not_released, passes_header}

-- ---- what holds of the copies for a monitor

-- The FORWARDs that are kept are a queue: their numbers never decrease, none is below `low`, and none above `from`.
record Line (low from : ℕ) (kept : List Kept) : Type 0 where
  bound : low ≤ from
  climbs : Climbs low (numbers kept)
  above : All (λ q. q ≤ from) (numbers kept)
  queue : Queue kept

-- The FORWARD is the last one in line. It waits, or its number was sent last.
record IsLast (low from : ℕ) (ns : List ℕ) (n : Note) : Type 0 where
  least : low ≤ n.header.first
  most : n.header.first ≤ from
  above : All (λ q. q ≤ n.header.first) ns
  either : Waits n ⊎ (low ≡ n.header.first)

abbrev IfLast : (low from : ℕ) → List ℕ → Note → Type 0
IfLast low from ns n = is_forward n.header ≡ true → IsLast low from ns n

abbrev IsLong : (low from : ℕ) → List ℕ → UnderWay → Type 0
IsLong low from ns (under_way.Kept n) = IfLast low from ns n
IsLong low from ns under_way.Lost = Unit {0}
IsLong low from ns under_way.Nothing = Unit {0}

record InLine (low from : ℕ) (kept : List Kept) (u : UnderWay) : Type 0 where
  line : Line low from kept
  long : IsLong low from (numbers kept) u

none_in_line : (low from : ℕ) → low ≤ from → InLine low from [] under_way.Nothing
none_in_line low from le = record { line = record { bound = le; climbs = tt; above = tt; queue = tt }; long = tt }

long_changed : (low from : ℕ) (ns ms : List ℕ) → (((P : ℕ → Type 0) → All P ns → All P ms)) → (u : UnderWay) → IsLong low from ns u → IsLong low from ms u
long_changed low from ns ms f (under_way.Kept n) h = λ e. let l = h e in record { least = l.least; most = l.most; above = f (λ q. q ≤ n.header.first) l.above; either = l.either }
long_changed low from ns ms f under_way.Lost h = tt
long_changed low from ns ms f under_way.Nothing h = tt

line_changed : (low from : ℕ) (f : Note → Note) → Same f → Steady f → (p : Kept → Bool) (kept : List Kept) (u : UnderWay) → InLine low from kept u → InLine low from (changed f (filter p kept)) u
line_changed low from f same steady p kept u h = record {
  line = record {
    bound = h.line.bound;
    climbs = climbs_changed f same p kept low h.line.climbs;
    above = all_changed f same p (λ q. q ≤ from) kept h.line.above;
    queue = queue_changed f same steady p low kept h.line.climbs h.line.queue;
  };
  long = long_changed low from (numbers kept) (numbers (changed f (filter p kept))) (λ P a. all_changed f same p P kept a) u h.long;
}

released_in_line : (low from now : ℕ) (kept : List Kept) (u : UnderWay) → InLine low from kept u → InLine low from (released now kept) u
released_in_line low from now kept u h = if_released (held_forward kept) refl
  where
    if_released : (next_forward : Option ℕ) → held_forward kept ≡ next_forward → InLine low from (released_by now kept next_forward) u
    if_released None e = h
    if_released (Some seq) e =
        let f = after (Released seq) now in
        let same = header_stays (Released seq) now in
        record {
          line = record {
            bound = h.line.bound;
            climbs = climbs_changed f same (λ k. true) kept low h.line.climbs;
            above = all_changed f same (λ k. true) (λ q. q ≤ from) kept h.line.above;
            queue = queue_released seq now kept (release_first kept seq e) h.line.queue;
          };
          long = long_changed low from (numbers kept) (numbers (applied (Released seq) now kept)) (λ P a. all_changed f same (λ k. true) P kept a) u h.long;
        }

in_line_lasts : (low from : ℕ) → Lasts (InLine low from)
in_line_lasts low from event now kept u other h =
    let f = after event now in
    let stays : Steady f = λ n is waits. subst Waits (sym (not_released event now n other (forward_by_time n.header.kind is) (forward_no_chunk n.header.kind is))) waits in
    released_in_line low from now (applied event now kept) u (line_changed low from f (header_stays event now) stays (λ k. not (is_ended event k.note)) kept u h)

-- ---- time passes

-- The lowest number rises to that of the first FORWARD, which was sent.
raised : (low from : ℕ) (ns : List ℕ) (u : UnderWay) → Climbs low ns → low ≤ from → All (λ q. q ≤ from) ns → IsLong low from ns u
    → (low ≤ first_or low ns) × (first_or low ns ≤ from) × Climbs (first_or low ns) ns × IsLong (first_or low ns) from ns u
raised low from [] u c le b l = (omega arith, le, tt, l)
raised low from (q ∷ ns) u c le b l = (c.0, omega (arith, b.0), (omega arith, c.1), raises u l)
  where
    raises : (u : UnderWay) → IsLong low from (q ∷ ns) u → IsLong q from (q ∷ ns) u
    raises (under_way.Kept n) l = λ e. let h = l e in record {
      least = h.above.0;
      most = h.most;
      above = h.above;
      either = elim h.either [ inl waits ↦ inl waits | inr same ↦ inr (omega (arith, same, c.0, h.above.0)) ];
    }
    raises under_way.Lost l = tt
    raises under_way.Nothing l = tt

passed_in_line : (low from : ℕ) (again : Bool) (now : ℕ) → now < 2 ^ 64 - 1 → (kept : List Kept) (u : UnderWay) → InLine low from kept u → InLine low from (released now (due_sent again now kept)) u
passed_in_line low from again now before kept u h =
    let f = after_sending_if_due again now in
    let stays : Steady f = λ n is waits. subst (λ b. Waits (cond b (after_sending now n) n)) (sym (waits_on again now n before waits)) waits in
    released_in_line low from now (due_sent again now kept) u (line_changed low from f (passes_header again now) stays (λ k. not (is_spent now k.note)) kept u h)

-- ---- one more

both_are : (P Q R : ℕ → Type 0) → ((q : ℕ) → P q → Q q → R q) → (ns : List ℕ) → All P ns → All Q ns → All R ns
both_are P Q R f [] a b = tt
both_are P Q R f (q ∷ ns) a b = (f q a.0 b.0, both_are P Q R f ns a.1 b.1)

joined : (low from : ℕ) (out : Outgoing) (n : Note) (kept : List Kept) → Line low from kept → IfLast low from (numbers kept) n
    → Line low from (kept ++ record { out = out; note = n } ∷ []) × IfLast low from (numbers (kept ++ record { out = out; note = n } ∷ [])) n
joined low from out n kept h last = elim (cases_Bool (is_forward n.header)) [
  | inl e ↦
      let l = last e in
      let k : Kept = record { out = out; note = n } in
      let q = n.header.first in
      let is = sym (numbers_more kept k e) in
      let same : (low ≡ q) → EachNumber (λ p. p ≡ q) kept =
      λ is_low. each_number (λ p. p ≡ q) kept (both_are (λ p. low ≤ p) (λ p. p ≤ q) (λ p. p ≡ q) (λ p a b. omega (arith, is_low, a, b)) (numbers kept) (climbs_all low (numbers kept) h.climbs) l.above) in (
        record {
          bound = h.bound;
          climbs = subst (Climbs low) is (climbs_more low (numbers kept) q h.climbs l.least l.above);
          above = subst (All (λ p. p ≤ from)) is (all_more (λ p. p ≤ from) (numbers kept) q h.above l.most);
          queue = queue_more kept k h.queue (λ _. elim l.either [ inl waits ↦ inl waits | inr is_low ↦ inr (same is_low) ]);
        },
        λ _. record { least = l.least; most = l.most; above = subst (All (λ p. p ≤ q)) is (all_more (λ p. p ≤ q) (numbers kept) q l.above (omega arith)); either = l.either },
      )
  | inr e ↦
      let k : Kept = record { out = out; note = n } in
      let is = sym (numbers_same kept k e) in (
        record {
          bound = h.bound;
          climbs = subst (Climbs low) is h.climbs;
          above = subst (All (λ p. p ≤ from)) is h.above;
          queue = queue_more kept k h.queue (λ f. absurd cc);
        },
        λ f. absurd cc,
      )
]

copied : (low from : ℕ) (memory : Bool) (out : Outgoing) (n : Note) (kept : List Kept) → Line low from kept → IfLast low from (numbers kept) n
    → Line low from (with_copy memory out n kept) × IfLast low from (numbers (with_copy memory out n kept)) n
copied low from memory out n kept h last =
    cond_both (has_room 1 (length out.bytes) kept && memory) (kept ++ record { out = out; note = n } ∷ []) kept (λ ks. Line low from ks × IfLast low from (numbers ks) n)
    (λ e. joined low from out n kept h last) (λ e. (h, last))

long_of : (low from : ℕ) (ns : List ℕ) (n : Note) (room : Bool) → IfLast low from ns n → IsLong low from ns (under_way_of n room)
long_of low from ns n room last =
    cond_both (leb n.pieces 1) under_way.Nothing (cond room (under_way.Kept n) (cond n.held under_way.Lost under_way.Nothing)) (IsLong low from ns) (λ e. tt)
    (λ e. cond_both room (under_way.Kept n) (cond n.held under_way.Lost under_way.Nothing) (IsLong low from ns) (λ f. last)
    (λ f. cond_both n.held under_way.Lost under_way.Nothing (IsLong low from ns) (λ g. tt) (λ g. tt)))

first_in_line : (low from : ℕ) (memory : Bool) (out : Outgoing) (n : Note) (total : ℕ) (b : Outbox) → Line low from b.shelf → IfLast low from (numbers b.shelf) n → Of (InLine low from) (first_kept memory out n total b)
first_in_line low from memory out n total b h last =
    let c = copied low from memory out n b.shelf h last in
    cond_both (fits n total b.shelf) (record b { under_way = under_way_of n true; shelf = with_copy memory out n b.shelf }) (record b { under_way = under_way_of n false }) (Of (InLine low from))
    (λ e. record { line = c.0; long = long_of low from (numbers (with_copy memory out n b.shelf)) n true c.1 })
    (λ e. record { line = h; long = long_of low from (numbers b.shelf) n false last })

begun_in_line : (low from : ℕ) (w : Way) (memory : Bool) (out : Outgoing) (h : Header) (total now : ℕ) (b : Outbox) → InLine low from b.shelf b.under_way → IfLast low from (numbers b.shelf) (note_of h total (length out.bytes) now b)
    → Of (InLine low from) (begun_as w memory out h total now b)
begun_in_line low from way.Never memory out h total now b g last = g
begun_in_line low from way.ByTime memory out h total now b g last = first_in_line low from memory out (note_of h total (length out.bytes) now b) total b g.line last
begun_in_line low from way.WhenAsked memory out h total now b g last = first_in_line low from memory out (note_of h total (length out.bytes) now b) total b g.line last

continued_in_line : (low from : ℕ) (u : UnderWay) (memory : Bool) (out : Outgoing) (b : Outbox) → b.under_way ≡ u → InLine low from b.shelf u → Of (InLine low from) (continued_with u memory out b)
continued_in_line low from (under_way.Kept n) memory out b e g =
    let c = copied low from memory out n b.shelf g.line g.long in
    record { line = c.0; long = subst (IsLong low from (numbers (with_copy memory out n b.shelf))) (sym e) c.1 }
continued_in_line low from under_way.Lost memory out b e g = subst (InLine low from b.shelf) (sym e) g
continued_in_line low from under_way.Nothing memory out b e g = subst (InLine low from b.shelf) (sym e) g

-- ---- a FORWARD is given to send

none_first : (kept : List Kept) → is_some (first_forward kept) ≡ false → numbers kept ≡ []
none_first [] e = refl
none_first (k ∷ kept) e = elim (cases_Bool (is_forward k.note.header)) [
  | inl is ↦ let f = subst (λ b. is_some (cond b (Some k) (first_forward kept)) ≡ false) is e in absurd cc
  | inr isnt ↦
      let f = subst (λ b. is_some (cond b (Some k) (first_forward kept)) ≡ false) isnt e in
      subst (λ b. cond b (k.note.header.first ∷ []) [] ++ numbers kept ≡ []) (sym isnt) (none_first kept f)
]

-- datagrams of these numbers are sent: all have one number, at least `low`, of which P holds
record Went (low : ℕ) (left : List ℕ) (P : ℕ → Type 0) : Type 0 where
  now : ℕ
  up : low ≤ now
  all : All (λ q. q ≡ now) left
  holds : P now

-- the last one
abbrev past : ℕ → List ℕ → ℕ
past from [] = from
past from (q ∷ ns) = past q ns

climbs_parts : (from : ℕ) (xs ys : List ℕ) → Climbs from (xs ++ ys) → Climbs from xs × Climbs (past from xs) ys
climbs_parts from [] ys h = (tt, h)
climbs_parts from (q ∷ xs) ys h = let m = climbs_parts q xs ys h.1 in ((h.0, m.0), m.1)

module _ (memory : Bool) (to : ℕ) (bytes : List ℕ) (now : ℕ) (c : Copies) (low from : ℕ) (g : At (InLine low from) to c.boxes) where
  abbrev out : Outgoing
  out = datagram (Monitor to) bytes

  module _ (h : Header) (total : ℕ) where
    -- the box of the monitor after the epoch of the message was noted
    abbrev found : Outbox
    found = box_of to (begins h now c)

    abbrev ready : Outbox
    ready = cleared h now found

    abbrev note : Note
    note = note_of h total (length bytes) now ready

    abbrev then_kept : Copies
    then_kept = began memory to out h total now c

    ready_in_line : Line low from ready.shelf
    ready_in_line =
        let lasts = in_line_lasts low from in
        let none = none_in_line low from in
        let le : low ≤ from = bound_of (get_or c.boxes to nothing) g in
        let found_in_line : InLine low from found.shelf found.under_way = begins_at (InLine low from) (none le) lasts to h now c (risen_at (InLine low from) (none le) lasts to h now c g) in
        let alone : InLine low from found.shelf under_way.Nothing = record { line = found_in_line.line; long = tt } in
        (lasts (Sent h.kind) now found.shelf under_way.Nothing refl alone).line
      where
        bound_of : (b : Outbox) → InLine low from b.shelf b.under_way → low ≤ from
        bound_of b h = h.line.bound

    began_in_line : (l f : ℕ) → l ≤ f → Line l f ready.shelf → IfLast l f (numbers ready.shelf) note → At (InLine l f) to then_kept.boxes
    began_in_line l f le line last =
        put_own (InLine l f) (none_in_line l f le) (begins h now c).boxes to (begins_to_go memory out h total now found)
        (begun_in_line l f (way_of h.kind) memory out h total now ready (record { line = line; long = tt }) last)

    abbrev is_sent_now : Bool
    is_sent_now = begins_as (way_of h.kind) note

    other_begins : is_forward h ≡ false → Went low (cond is_sent_now [] []) (λ l. At (InLine l from) to then_kept.boxes)
    other_begins e = record {
      now = low;
      up = omega arith;
      all = cond_both is_sent_now [] [] (All (λ q. q ≡ low)) (λ f. tt) (λ f. tt);
      holds = began_in_line low from ready_in_line.bound ready_in_line (λ f. absurd cc);
    }

    waits_behind : is_forward h ≡ true → is_some (first_forward ready.shelf) ≡ true → Waits note
    waits_behind e s =
        let held : (is_forward h && is_some (first_forward ready.shelf)) ≡ true = and_from (is_forward h) (is_some (first_forward ready.shelf)) e s in
        record { held = held; due = subst (λ b. cond (b || is_when_asked (way_of h.kind)) (2 ^ 64 - 1) (plus now note.every) ≡ 2 ^ 64 - 1) (sym held) refl }

    waits_for_release : is_forward h ≡ true → note.held ≡ true → is_sent_now ≡ false
    waits_for_release e held = subst (λ w. begins_as w note ≡ false) (sym (forward_by_time h.kind e)) (subst (λ b. not b ≡ false) (sym held) refl)

    forward_begins : is_forward h ≡ true → from ≤ h.first → Went low (cond is_sent_now (h.first ∷ []) []) (λ l. At (InLine l h.first) to then_kept.boxes)
    forward_begins e le = elim (cases_Bool (is_some (first_forward ready.shelf))) [
      | inl s ↦
          let waits = waits_behind e s in
          let b = ready_in_line in
          record {
            now = low;
            up = omega arith;
            all = subst (λ b. All (λ q. q ≡ low) (cond b (h.first ∷ []) [])) (sym (waits_for_release e waits.held)) tt;
            holds =
                began_in_line low h.first (omega (arith, le, b.bound))
                (record { bound = omega (arith, le, b.bound); climbs = b.climbs; above = all_are (λ q. q ≤ from) (λ q. q ≤ h.first) (λ q l. omega (arith, l, le)) (numbers ready.shelf) b.above; queue = b.queue })
                (λ f. record { least = omega (arith, le, b.bound); most = omega arith; above = all_are (λ q. q ≤ from) (λ q. q ≤ h.first) (λ q l. omega (arith, l, le)) (numbers ready.shelf) b.above; either = inl waits });
          }
      | inr s ↦
          let none = sym (none_first ready.shelf s) in
          let b = ready_in_line in
          record {
            now = h.first;
            up = omega (arith, le, b.bound);
            all = cond_both is_sent_now (h.first ∷ []) [] (All (λ q. q ≡ h.first)) (λ f. (refl, tt)) (λ f. tt);
            holds =
                began_in_line h.first h.first (omega arith)
                (record { bound = omega arith; climbs = subst (Climbs h.first) none tt; above = subst (All (λ q. q ≤ h.first)) none tt; queue = b.queue })
                (λ f. record { least = omega arith; most = omega arith; above = subst (All (λ q. q ≤ h.first)) none tt; either = inr refl });
          }
    ]

    message_begins : Climbs from (number_of h) → Went low (cond is_sent_now (number_of h) []) (λ l. At (InLine l (past from (number_of h))) to then_kept.boxes)
    message_begins rises =
        let W : Bool → Type 0 = λ b. Climbs from (cond b (h.first ∷ []) []) → Went low (cond is_sent_now (cond b (h.first ∷ []) []) []) (λ l. At (InLine l (past from (cond b (h.first ∷ []) []))) to then_kept.boxes) in
        elim (cases_Bool (is_forward h)) [
          | inl e ↦ subst W (sym e) (λ r. forward_begins e r.0) rises
          | inr e ↦ subst W (sym e) (λ r. other_begins e) rises
        ]

  piece_leaves : (u : UnderWay) → IsLong low from (numbers (box_of to c).shelf) u → All (λ q. q ≡ low) (cond (continues_now u) (long u) [])
  piece_leaves (under_way.Kept n) l =
      cond_both (not n.held) (number_of n.header) [] (All (λ q. q ≡ low))
      (λ e. cond_both (is_forward n.header) (n.header.first ∷ []) [] (All (λ q. q ≡ low)) (λ is. (due_sent n e (l is).either, tt)) (λ isnt. tt)) (λ e. tt)
    where
      due_sent : (n : Note) → not n.held ≡ true → Waits n ⊎ (low ≡ n.header.first) → n.header.first ≡ low
      due_sent n e either = elim either [ inl waits ↦ let f = waits.held in absurd cc | inr same ↦ sym same ]
  piece_leaves under_way.Lost l = tt
  piece_leaves under_way.Nothing l = tt

  sent_here : (p : Option Part) → Climbs from (begun_in p) → Went low (cond (is_part_sent p to bytes now c) (sent_in p (box_of to c).under_way) []) (λ l. At (InLine l (past from (begun_in p))) to (sent_part p memory to bytes now c).boxes)
  sent_here (Some (Whole h)) rises = message_begins h (length bytes) rises
  sent_here (Some (First h total)) rises = message_begins h total rises
  sent_here (Some (Later p)) rises =
      let b = box_of to c in
      record {
        now = low;
        up = omega arith;
        all = piece_leaves b.under_way g.long;
        holds = put_own (InLine low from) (none_in_line low from g.line.bound) c.boxes to (continued memory out b) (continued_in_line low from b.under_way memory out b refl g);
      }
  sent_here None rises = record { now = low; up = omega arith; all = tt; holds = g }

-- ---- one step after the other

stepped : (r : ℕ) (s : Step) (c : Copies) (low from : ℕ) → time_of s < 2 ^ 64 - 1 → At (InLine low from) r c.boxes → Climbs from (begun_by r s)
    → Went low (leave_in r s c) (λ l. At (InLine l (past from (begun_by r s))) r (step s c).boxes)
stepped r (Sends memory to bytes now) c low from before g rises =
    let p = part_of bytes in
    let W : Bool → Type 0 =
    λ b. Climbs from (cond b (begun_in p) [])
    → Went low (cond (b && is_part_sent p to bytes now c) (sent_in p (box_of to c).under_way) []) (λ l. At (InLine l (past from (cond b (begun_in p) []))) r (sent_part p memory to bytes now c).boxes) in
    let here : (r : ℕ) → to ≡ r → At (InLine low from) r c.boxes → Climbs from (begun_in p)
    → Went low (cond (is_part_sent p to bytes now c) (sent_in p (box_of to c).under_way) []) (λ l. At (InLine l (past from (begun_in p))) r (sent_part p memory to bytes now c).boxes) =
    λ r same. subst (λ r. At (InLine low from) r c.boxes → Climbs from (begun_in p)
    → Went low (cond (is_part_sent p to bytes now c) (sent_in p (box_of to c).under_way) []) (λ l. At (InLine l (past from (begun_in p))) r (sent_part p memory to bytes now c).boxes)) same
    (λ g rises. sent_here memory to bytes now c low from g p rises) in
    elim (cases_Bool (eqb to r)) [
      | inl e ↦ subst W (sym e) (λ rises. here r (grind (arith, nat_tests, e)) g rises) rises
      | inr e ↦ subst W (sym e) (λ rises. record {
        now = low;
        up = omega arith;
        all = tt;
        holds = sent_other (InLine low from) (none_in_line low from g.line.bound) (in_line_lasts low from) r p memory to bytes now c (λ same. absurd (grind (arith, nat_tests, e, same))) g;
      }) rises
    ]
stepped r (Hears memory to bytes now) c low from before g rises = record {
  now = low;
  up = omega arith;
  all = tt;
  holds = arrived_at (InLine low from) (none_in_line low from g.line.bound) (in_line_lasts low from) r memory to bytes now c g;
}
stepped r (Passes again now) c low from before g rises =
    let b = box_of r c in
    let first = first_or low (numbers b.shelf) in
    let up = raised low from (numbers b.shelf) b.under_way g.line.climbs g.line.bound g.line.above g.long in
    let here : InLine first from b.shelf b.under_way = record { line = record { bound = up.1; climbs = up.2; above = g.line.above; queue = g.line.queue }; long = up.3 } in
    record {
      now = first;
      up = up.0;
      all = first_goes again now before low b.shelf g.line.queue;
      holds = passed_at (InLine first from) (InLine first from) (none_in_line first from up.1) r again now c (λ kept u h. passed_in_line first from again now before kept u h) here;
    }

climbs_join : (low now : ℕ) (ns ms : List ℕ) → low ≤ now → All (λ q. q ≡ now) ns → Climbs now ms → Climbs low (ns ++ ms)
climbs_join low now [] ms le a c = climbs_lower low now ms le c
climbs_join low now (q ∷ ns) ms le a c = (omega (arith, le, a.0), climbs_join q now ns ms (omega (arith, a.0)) a.1 c)

leave_in_order : (r : ℕ) (steps : List Step) (c : Copies) (low from : ℕ) → IsBeforeEnd steps → At (InLine low from) r c.boxes → Climbs from (begun r steps) → Climbs low (leave r steps c)
leave_in_order r [] c low from before g rises = tt
leave_in_order r (s ∷ steps) c low from before g rises =
    let parts = climbs_parts from (begun_by r s) (begun r steps) rises in
    let w = stepped r s c low from before.0 g parts.0 in
    climbs_join low w.now (leave_in r s c) (leave r steps (step s c)) w.up w.all (leave_in_order r steps (step s c) w.now (past from (begun_by r s)) before.1 w.holds parts.1)

-- ---- what is kept when a FORWARD is sent

all_both : (P : ℕ → Type 0) (ns ms : List ℕ) → All P ns → All P ms → All P (ns ++ ms)
all_both P [] ms a b = b
all_both P (q ∷ ns) ms a b = (a.0, all_both P ns ms a.1 b)

kept_above : (r : ℕ) (c : Copies) (low from : ℕ) → At (InLine low from) r c.boxes → All (λ p. low ≤ p) (kept_for r c)
kept_above r c low from g =
    let b = box_of r c in
    all_both (λ p. low ≤ p) (numbers b.shelf) (long b.under_way) (climbs_all low (numbers b.shelf) g.line.climbs) (long_above (numbers b.shelf) b.under_way g.long)
  where
    long_above : (ns : List ℕ) (u : UnderWay) → IsLong low from ns u → All (λ p. low ≤ p) (long u)
    long_above ns (under_way.Kept n) l = cond_both (is_forward n.header) (n.header.first ∷ []) [] (All (λ p. low ≤ p)) (λ e. ((l e).least, tt)) (λ e. tt)
    long_above ns under_way.Lost l = tt
    long_above ns under_way.Nothing l = tt

leave_one_by_one : (r : ℕ) (steps : List Step) (s : Step) (c : Copies) (low from : ℕ) → IsBeforeEnd (steps ++ s ∷ []) → At (InLine low from) r c.boxes → Climbs from (begun r (steps ++ s ∷ []))
    → All (λ q. All (λ p. q ≤ p) (kept_for r (run (steps ++ s ∷ []) c))) (leave_in r s (run steps c))
leave_one_by_one r [] s c low from before g rises =
    let w = stepped r s c low from before.0 g (climbs_parts from (begun_by r s) [] rises).0 in
    let above = kept_above r (step s c) w.now (past from (begun_by r s)) w.holds in
    all_are (λ q. q ≡ w.now) (λ q. All (λ p. q ≤ p) (kept_for r (step s c))) (λ q same. all_are (λ p. w.now ≤ p) (λ p. q ≤ p) (λ p le. omega (arith, same, le)) (kept_for r (step s c)) above) (leave_in r s c) w.all
leave_one_by_one r (x ∷ steps) s c low from before g rises =
    let parts = climbs_parts from (begun_by r x) (begun r (steps ++ s ∷ [])) rises in
    let w = stepped r x c low from before.0 g parts.0 in
    leave_one_by_one r steps s (step x c) w.now (past from (begun_by r x)) before.1 w.holds parts.1

-- ---- from none on

no_parts : (xs ys : List ℕ) → xs ++ ys ≡ [] → (xs ≡ []) × (ys ≡ [])
no_parts [] ys e = (refl, e)
no_parts (x ∷ xs) ys e = absurd cc

no_queue : (kept : List Kept) → numbers kept ≡ [] → Queue kept
no_queue [] e = tt
no_queue (k ∷ kept) e = (λ is. let f = if_first (λ ns. ns ≡ []) k.note.header (numbers kept) is e in absurd cc, λ isnt. no_queue kept (if_none (λ ns. ns ≡ []) k.note.header (numbers kept) isnt e))

at_first : (r : ℕ) (c : Copies) → kept_for r c ≡ [] → At (InLine 0 0) r c.boxes
at_first r c e =
    let b = box_of r c in
    let none = no_parts (numbers b.shelf) (long b.under_way) e in
    record {
      line = record { bound = omega arith; climbs = subst (Climbs 0) (sym none.0) tt; above = subst (All (λ q. q ≤ 0)) (sym none.0) tt; queue = no_queue b.shelf none.0 };
      long = not_long (numbers b.shelf) b.under_way none.1;
    }
  where
    not_long : (ns : List ℕ) (u : UnderWay) → long u ≡ [] → IsLong 0 0 ns u
    not_long ns (under_way.Kept n) e = λ is. let f = subst (λ b. cond b (n.header.first ∷ []) [] ≡ []) is e in absurd cc
    not_long ns under_way.Lost e = tt
    not_long ns under_way.Nothing e = tt

climbs_from : (low : ℕ) (ns : List ℕ) → ((d : ℕ) → 0 < length ns → low ≤ get_or ns 0 d) → IsNonDecreasing ns → Climbs low ns
climbs_from low [] first h = tt
climbs_from low (q ∷ ns) first h =
    (first 0 (omega arith), climbs_from q ns (λ d lt. h zero (suc zero) d (omega arith) (omega arith)) (λ i j d le lt. h (suc i) (suc j) d (omega arith) (omega arith)))

all_climb : (ns : List ℕ) → IsNonDecreasing ns → Climbs 0 ns
all_climb ns h = climbs_from 0 ns (λ d lt. omega arith) h

all_at : (P : ℕ → Type 0) (ns : List ℕ) (j d : ℕ) → All P ns → j < length ns → P (get_or ns j d)
all_at P [] j d a lt = absurd (omega arith)
all_at P (q ∷ ns) zero d a lt = a.0
all_at P (q ∷ ns) (suc j) d a lt = all_at P ns j d a.1 (omega arith)

never_falls : (low : ℕ) (ns : List ℕ) → Climbs low ns → IsNonDecreasing ns
never_falls low [] c i j d le lt = absurd (omega arith)
never_falls low (q ∷ ns) c zero zero d le lt = omega arith
never_falls low (q ∷ ns) c zero (suc j) d le lt = all_at (λ n. q ≤ n) ns j d (climbs_all q ns c.1) (omega arith)
never_falls low (q ∷ ns) c (suc i) zero d le lt = absurd (omega arith)
never_falls low (q ∷ ns) c (suc i) (suc j) d le lt = never_falls q ns c.1 i j d (omega arith) (omega arith)

pub in_order : (c : Copies) (rank : ℕ) (steps : List Step) → kept_for rank c ≡ [] → IsNonDecreasing (begun rank steps) → IsBeforeEnd steps → IsNonDecreasing (leave rank steps c)
in_order c rank steps none rise before = never_falls 0 (leave rank steps c) (leave_in_order rank steps c 0 0 before (at_first rank c none) (all_climb (begun rank steps) rise))

pub one_by_one : (c : Copies) (rank : ℕ) (steps : List Step) (s : Step) → kept_for rank c ≡ [] → IsNonDecreasing (begun rank (steps ++ s ∷ [])) → IsBeforeEnd (steps ++ s ∷ [])
    → All (λ q. All (λ p. q ≤ p) (kept_for rank (run (steps ++ s ∷ []) c))) (leave_in rank s (run steps c))
one_by_one c rank steps s none rise before = leave_one_by_one rank steps s c 0 0 before (at_first rank c none) (all_climb (begun rank (steps ++ s ∷ [])) rise)
