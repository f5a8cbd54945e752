-- When a plan is what is wanted.
use Rattle.std.proofs.Common.{◌≡◌, ℕ, List, [], ◌∷◌, ◌++◌, Result, Ok, Err, refl, sym, ap, ◌∙◌, append_assoc, append-nil}
use Rattle.std.specs.List.{AllByRecursion}
use Rattle.mon_msg.specs.Protocol.Changes.{Change, ops_of, encoded}
use Rattle.mon_msg.specs.Protocol.Course.{Course, change_all, say}
use Rattle.mon_msg.specs.Protocol.Played.{Fits, play, played}
use Rattle.mon_msg.specs.Protocol.Readings.{Readings}
use Rattle.mon_msg.specs.declared.plan.Arming.{Arming}
use Rattle.mon_msg.specs.declared.plan.Next.{Next}
use Rattle.mon_msg.specs.declared.plan.Plan.{Plan}
use Rattle.mon_msg.specs.declared.plan.RoleStop.TheVariants as stop
use Rattle.mon_msg.specs.declared.plan.RoleStop.{RoleStop}
use Rattle.mon_msg.specs.declared.plan.Sent.{Sent}
use Rattle.mon_msg.specs.declared.view.Me.{Me}
use Rattle.mon_types.specs.declared.names.Which.{Which}
use Rattle.mon_msg.specs.Protocol.Learning.{learn}
use Rattle.mon_tx.specs.declared.op.Op.{Op}
use Rattle.mon_plan.specs.Learned.{Learns}
use Rattle.mon_plan.specs.Plans.{changed, sending, stands, done, act, Does, Plans}

module _ {S : Type 0} (me : Me) (now : ℕ) (is : S → Course → Course) (Before : Course → Type 0) (start : Course → Course) (wanted : Course → Result Course Which) where
  -- by the plan's parts
  pub does : (cs : List Change) → AllByRecursion Fits cs → (ms : List Sent) (armings : List Arming) (s : S) (n : Next)
      → ((x : Course) → Before x → wanted x ≡ act me now n (done is cs (record { tx = encoded cs; out = ms; timers = armings; state = s; next = n }) (start x)))
      → (p : Plan S) → p.tx ≡ encoded cs → p.out ≡ ms → p.timers ≡ armings → p.state ≡ s → p.next ≡ n → Does me now is Before start wanted p
  does cs fit ms armings s n row p tx out timers state next = record {
    changes = cs;
    fit = fit;
    encoded = tx;
    row = λ x b. row x b ∙ sym (λ i. act me now (next i) (done is cs (record { tx = p.tx; out = out i; timers = timers i; state = state i; next = next i }) (start x)));
  }

  -- a plan that is this one
  pub does_as : (cs : List Change) → AllByRecursion Fits cs → (q : Plan S) → q.tx ≡ encoded cs
      → ((x : Course) → Before x → wanted x ≡ act me now q.next (done is cs q (start x)))
      → (p : Plan S) → p ≡ q → Does me now is Before start wanted p
  does_as cs fit q tx row p e = record {
    changes = cs;
    fit = fit;
    encoded = ap (λ (p : Plan S). p.tx) e ∙ tx;
    row = λ x b. row x b ∙ sym (ap (λ (p : Plan S). act me now p.next (done is cs p (start x))) e);
  }

  -- a plan that only changes the store and names an act, if what is remembered stays
  pub only_acts : (cs : List Change) → AllByRecursion Fits cs → (s : S) → ((x : Course) → Before x → is s (changed cs (start x)) ≡ changed cs (start x)) → (n : Next) → ((x : Course) → stands n x ≡ x)
      → ((x : Course) → Before x → wanted x ≡ act me now n (changed cs (start x)))
      → (p : Plan S) → p ≡ record { tx = encoded cs; out = []; timers = []; state = s; next = n } → Does me now is Before start wanted p
  only_acts cs fit s kept n stays row p e =
      does cs fit [] [] s n (λ x b. row x b ∙ ap (act me now n) (sym (ap (λ y. is s (changed cs y)) (stays (start x)) ∙ kept x b)))
      p (ap (λ (p : Plan S). p.tx) e) (ap (λ (p : Plan S). p.out) e) (ap (λ (p : Plan S). p.timers) e) (ap (λ (p : Plan S). p.state) e) (ap (λ (p : Plan S). p.next) e)

-- ---- changes one after the other

pub played-append : (a b : List Change) (w : Readings) → played (a ++ b) w ≡ played b (played a w)
played-append [] b w = refl
played-append (c ∷ a) b w = played-append a b (play c w)

pub changes-append : (a b : List Change) (x : Course) → change_all (a ++ b) x ≡ change_all b (change_all a x)
changes-append a b x = λ i. record x { readings = played-append a b x.readings i; changes = sym (append_assoc x.changes a b) i }

-- what changes do to an event under way, whether or not there are any
pub changed-is : (cs : List Change) (x : Course) → changed cs x ≡ change_all cs x
changed-is [] x = λ i. record x { changes = sym (append-nil x.changes) i }
changed-is (c ∷ cs) x = refl

pub changed-append : (a b : List Change) (x : Course) → changed (a ++ b) x ≡ changed b (changed a x)
changed-append a b x =
    changed-is (a ++ b) x ∙ changes-append a b x ∙ ap (change_all b) (sym (changed-is a x)) ∙ sym (changed-is b (changed a x))

-- what the store's readers return afterwards
pub changed-readings : (cs : List Change) (x : Course) → (changed cs x).readings ≡ played cs x.readings
changed-readings [] x = refl
changed-readings (c ∷ cs) x = refl

-- what is remembered stays
pub changed-state : (cs : List Change) (x : Course) → (changed cs x).state ≡ x.state
changed-state [] x = refl
changed-state (c ∷ cs) x = refl

pub sending-is : (ms : List Sent) (x : Course) → sending ms x ≡ say ms x
sending-is [] x = λ i. record x { out = sym (append-nil x.out) i }
sending-is (m ∷ ms) x = refl

pub encoded-append : (a b : List Change) → encoded (a ++ b) ≡ encoded a ++ encoded b
encoded-append [] b = refl
encoded-append (c ∷ a) b = ap (λ ops. ops_of c ++ ops) (encoded-append a b) ∙ sym (append_assoc (ops_of c) (encoded a) (encoded b))

pub fit-append : (a b : List Change) → AllByRecursion Fits a → AllByRecursion Fits b → AllByRecursion Fits (a ++ b)
fit-append [] b h g = g
fit-append (c ∷ a) b h g = (h.0, fit-append a b h.1 g)

-- ---- the result of a call as that of another one

-- what holds of every event that satisfies A holds of every event that satisfies B, if B implies A
pub weaken : {S : Type 0} (me : Me) (now : ℕ) (is : S → Course → Course) (A B : Course → Type 0) (start : Course → Course) (wanted : Course → Result Course Which) (r : Result (Plan S) RoleStop)
    → ((x : Course) → B x → A x) → Plans me now is A start wanted r → Plans me now is B start wanted r
weaken me now is A B start wanted (Ok p) f h = record { changes = h.changes; fit = h.fit; encoded = h.encoded; row = λ x b. h.row x (f x b) }
weaken me now is A B start wanted (Err stop.OutOfMemory) f h = tt
weaken me now is A B start wanted (Err (stop.Spent which)) f h = λ x b. h x (f x b)

-- what is wanted may be replaced by something equal
pub instead : {S : Type 0} (me : Me) (now : ℕ) (is : S → Course → Course) (B : Course → Type 0) (start : Course → Course) (one other : Course → Result Course Which) (r : Result (Plan S) RoleStop)
    → ((x : Course) → B x → other x ≡ one x) → Plans me now is B start one r → Plans me now is B start other r
instead me now is B start one other (Ok p) f h = record { changes = h.changes; fit = h.fit; encoded = h.encoded; row = λ x b. f x b ∙ h.row x b }
instead me now is B start one other (Err stop.OutOfMemory) f h = tt
instead me now is B start one other (Err (stop.Spent which)) f h = λ x b. f x b ∙ h x b

-- if learning fails, the call fails in the same way as the act
pub learn-fails : {S : Type 0} (me : Me) (now : ℕ) (is : S → Course → Course) (B : Course → Type 0) (start : Course → Course) (wanted : Course → Result Course Which) (v : ℕ) (values : List (List Op)) (e : RoleStop)
    → Learns v values (Err e) → ((x : Course) → B x → wanted x ≡ learn v values x) → Plans me now is B start wanted (Err e)
learn-fails me now is B start wanted v values stop.OutOfMemory h row = tt
learn-fails me now is B start wanted v values (stop.Spent which) h row = λ x b. row x b ∙ h x
