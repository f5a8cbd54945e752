-- What the link asks of the one below it is some of what was kept.
use Rattle.std.specs.Prelude.{◌≡◌, ℕ, ◌≤◌, ◌-◌, min, Bool, true, false, not, List, [], ◌∷◌, ◌++◌, ◌⊎◌, Option, Some, None, option_map, Result, Ok, Err, refl}
use Rattle.std.proofs.Common.{cond, inl, inr, sym, subst, ◌∙◌, arith}
use Rattle.mon_link.specs.Clocks.{Readings, reading, after}
use Rattle.mon_link.specs.Links.{LinkState, CallsNext, CallsSend}
use Rattle.mon_link.specs.declared.link.Got.{Got}
use Rattle.mon_link.specs.declared.link.Got.TheVariants.{Datagram, Idle, Closed}
use Rattle.mon_link.specs.declared.link.Peer.{Peer}
use Rattle.mon_link.specs.declared.link.Peer.TheVariants.{Monitor, Client}
use Rattle.mon_types.specs.declared.names.Stop.{Stop}
use Rattle.mon_resend.specs.declared.copies.Copies.{Copies}
use Rattle.mon_resend.specs.Copied.{AreOf, AsksOnce, IsDatagram, datagram}
use Rattle.mon_resend.specs.Sending.{outs, Shows, ShowsThen, may_go, with_got, isnt_handed_up, run_after, AfterNext, Receives, SendsEach, SendsNow, Keeps, Sends}
use Rattle.mon_resend.specs.World.{all_due_copies, all_passed, due_of, is_sent_now, sent}
use Rattle.mon_resend.proofs.Among.{sent_among, got_among, all_passed_among, due_among}
use Rattle.mon_resend.proofs.Parts.{same, through, more, repeats}

pub shows_then : (o p : Option Readings) (now : ℕ) → p ≡ option_map after o → Shows p now → ShowsThen o now
shows_then None p now e h = tt
shows_then (Some r) p now e h = subst (λ q. Shows q now) e h

-- only a datagram isn't handed up
is_datagram : (came : Got) (now : ℕ) (c : Copies) → isnt_handed_up came now c ≡ true → IsDatagram came
is_datagram (Datagram from bytes) now c e = tt
is_datagram Idle now c e = absurd cc
is_datagram Closed now c e = absurd cc

hands : (came : Got) (known : Bool) (result : Result Got Stop) → (known ≡ true → IsDatagram came) → result ≡ Ok (cond known Idle came) → (Ok came ≡ result) ⊎ ((result ≡ Ok Idle) × IsDatagram came)
hands came true result d e = inr (e, d refl)
hands came false result d e = inl (sym e)

asks_after : (slice wait : ℕ) (within : slice ≤ wait) (gave : Result Got Stop) (memory : Bool) (now run : ℕ) (old : Copies) (before between : LinkState) (result : Result Got Stop) (run_now : ℕ) (new : Copies) (link : LinkState)
    → CallsNext slice gave before between → AfterNext gave memory now run old between result run_now new link → AsksOnce wait (outs old) result before link
asks_after slice wait within (Ok came) memory now run old before between result run_now new link asks h = record {
  slice = slice;
  within = within;
  between = between;
  gave = Ok came;
  asks = asks;
  hands = hands came (isnt_handed_up came now old) result (is_datagram came now old) h.0.hands_up;
  repeats =
      repeats (outs old) (all_due_copies (may_go came run) now (with_got memory came now old)) between link
      (through _ _ _ (got_among memory came now old) (due_among (may_go came run) now (with_got memory came now old))) h.0.sends;
}
asks_after slice wait within (Err e) memory now run old before between result run_now new link asks h = record {
  slice = slice;
  within = within;
  between = between;
  gave = Err e;
  asks = asks;
  hands = inl (sym h.0);
  repeats = repeats (outs old) [] between link (record { each = λ x k. absurd k }) h.2;
}

pub asks_once : (wait : ℕ) (clock : Option Readings) (run : ℕ) (old : Copies) (before : LinkState) (result : Result Got Stop) (run_now : ℕ) (new : Copies) (link : LinkState)
    → Receives wait clock run old before result run_now new link → AsksOnce wait (outs old) result before link
asks_once wait clock run old before result run_now new link r =
    asks_after _ wait (omega arith) r.gave r.memory r.second run old before r.between result run_now new link r.asks r.then_does

keeps_after : (gave : Result Got Stop) (memory : Bool) (now run : ℕ) (old : Copies) (between : LinkState) (result : Result Got Stop) (run_now : ℕ) (new : Copies) (link : LinkState)
    → AfterNext gave memory now run old between result run_now new link → AreOf (outs old) (outs new)
keeps_after (Ok came) memory now run old between result run_now new link h =
    subst (λ c. AreOf (outs old) (outs c)) (sym h.0.kept)
    (through _ _ _ (got_among memory came now old) (all_passed_among (may_go came run) now (with_got memory came now old)))
keeps_after (Err e) memory now run old between result run_now new link h = subst (λ c. AreOf (outs old) (outs c)) (sym h.1) (same (outs old))

pub keeps_some : (wait : ℕ) (clock : Option Readings) (run : ℕ) (old : Copies) (before : LinkState) (result : Result Got Stop) (run_now : ℕ) (new : Copies) (link : LinkState)
    → Receives wait clock run old before result run_now new link → AreOf (outs old) (outs new)
keeps_some wait clock run old before result run_now new link r = keeps_after r.gave r.memory r.second run old r.between result run_now new link r.then_does

pub keeps_sent : (to : Peer) (bytes : List ℕ) (clock : Option Readings) (old : Copies) (before : LinkState) (result : Result (Unit {0}) Stop) (new : Copies) (link : LinkState)
    → Sends to bytes clock old before result new link → AreOf (outs old ++ datagram to bytes ∷ []) (outs new)
keeps_sent (Monitor rank) bytes clock old before result new link s =
    subst (λ c. AreOf (outs old ++ datagram (Monitor rank) bytes ∷ []) (outs c)) (sym s.kept) (sent_among s.memory rank bytes s.now old)
keeps_sent (Client number) bytes clock old before result new link s =
    subst (λ c. AreOf (outs old ++ datagram (Client number) bytes ∷ []) (outs c)) (sym s.1) (more (outs old) (datagram (Client number) bytes ∷ []))

-- ---- what is noted of a call

pub not_true : (b : Bool) → not b ≡ true → b ≡ false
not_true true h = absurd cc
not_true false h = refl

pub not_false : (b : Bool) → not b ≡ false → b ≡ true
not_false true h = refl
not_false false h = absurd cc

pub shows_read : (left : Option Readings) (got shown : ℕ) → got ≡ shown → Shows left shown → Shows left got
shows_read left got shown e h = subst (λ n. Shows left n) (sym e) h

pub held : (rank : ℕ) (bytes : List ℕ) (clock : Option Readings) (old : Copies) (before : LinkState) (new : Copies) (link : LinkState) (now : ℕ) (memory now_it : Bool)
    → Shows clock now → new ≡ sent memory rank bytes now old → now_it ≡ is_sent_now rank bytes now old → not now_it ≡ true → link ≡ before → Keeps rank bytes clock old before (Ok tt) new link
held rank bytes clock old before new link now memory now_it shows kept goes waits same_link = record {
  now = now;
  shows = shows;
  memory = memory;
  kept = kept;
  sends = subst (λ b. SendsNow b (Monitor rank) bytes (Ok tt) before link) (sym (not_true now_it waits) ∙ goes) (refl, same_link);
}

pub passed_on : (rank : ℕ) (bytes : List ℕ) (clock : Option Readings) (old : Copies) (before : LinkState) (result : Result (Unit {0}) Stop) (new : Copies) (link : LinkState) (now : ℕ) (memory now_it : Bool)
    → Shows clock now → new ≡ sent memory rank bytes now old → now_it ≡ is_sent_now rank bytes now old → not now_it ≡ false → CallsSend (Monitor rank) bytes result before link → Keeps rank bytes clock old before result new link
passed_on rank bytes clock old before result new link now memory now_it shows kept goes sends_it calls = record {
  now = now;
  shows = shows;
  memory = memory;
  kept = kept;
  sends = subst (λ b. SendsNow b (Monitor rank) bytes result before link) (sym (not_false now_it sends_it) ∙ goes) calls;
}

then_shown : Option Readings → ℕ
then_shown None = 0
then_shown (Some r) = reading (after r)

then_shows : (o : Option Readings) → ShowsThen o (then_shown o)
unfolding then_shown
then_shows None = tt
then_shows (Some r) = refl

pub fails : (wait : ℕ) (clock : Option Readings) (run : ℕ) (old : Copies) (before : LinkState) (e : Stop) (gave : Result Got Stop) (link : LinkState) (first slice : ℕ)
    → Shows clock first → slice ≡ min wait (due_of old - first) → CallsNext slice gave before link → gave ≡ Err e → Receives wait clock run old before (Err e) run old link
fails wait clock run old before e gave link first slice shows rest asks is = record {
  first = first;
  second = then_shown clock;
  shows = shows;
  shows_then = then_shows clock;
  gave = Err e;
  memory = true;
  between = link;
  asks = subst (λ s. CallsNext s (Err e) before link) rest (subst (λ g. CallsNext slice g before link) is asks);
  then_does = (refl, refl, refl, refl);
}

pub gives : (wait : ℕ) (clock : Option Readings) (run : ℕ) (old : Copies) (before between : LinkState) (came : Got) (gave : Result Got Stop) (result : Result Got Stop) (run_now : ℕ) (new : Copies) (link : LinkState) (first second slice : ℕ) (memory : Bool)
    → Shows clock first → ShowsThen clock second → slice ≡ min wait (due_of old - first) → CallsNext slice gave before between → gave ≡ Ok came
    → result ≡ Ok (cond (isnt_handed_up came second old) Idle came) → new ≡ all_passed (may_go came run) second (with_got memory came second old)
    → SendsEach (all_due_copies (may_go came run) second (with_got memory came second old)) between link → run_now ≡ run_after came run
    → Receives wait clock run old before result run_now new link
gives wait clock run old before between came gave result run_now new link first second slice memory shows shows_then rest asks is hands_up kept sends ran = record {
  first = first;
  second = second;
  shows = shows;
  shows_then = shows_then;
  gave = Ok came;
  memory = memory;
  between = between;
  asks = subst (λ s. CallsNext s (Ok came) before between) rest (subst (λ g. CallsNext slice g before between) is asks);
  then_does = (record { hands_up = hands_up; kept = kept; sends = sends }, ran);
}
