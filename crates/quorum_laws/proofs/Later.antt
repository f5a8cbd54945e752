-- What never changes back while a monitor, or a run, goes on.
use Rattle.law_names.proofs.Runs.{World}
use Rattle.law_names.proofs.Table.{Readings, State, epoch_of, is_member, promise_of}
use Rattle.quorum_history.proofs.Holds.{level_in}
use Rattle.quorum_laws.specs.Accepting.{HasAccepted, readings_at}
use Rattle.quorum_walk.proofs.Sparing.{own_of}
use Rattle.std.proofs.Common.{Bool, List, None, Option, Some, arith, false, inl, inr, true, ℕ, ◌≡◌, ◌≤◌, ◌⊎◌}

-- whether a monitor, if it is up, is in a quorum
abbrev pub is_in : Option State → Bool
is_in None = false
is_in (Some s) = is_member s.phase

-- its numbers don't fall, and it is in the quorum of its epoch only if it was
pub record Stays (w : Readings) (s : Option State) (next : Readings) (t : Option State) : Type 0 where
  pub epoch : epoch_of w ≤ epoch_of next
  pub promise : promise_of w ≤ promise_of next
  pub level : level_in (own_of w) ≤ level_in (own_of next)
  pub inside : is_in t ≡ true → epoch_of next ≡ epoch_of w → is_in s ≡ true

pub stays_refl : (w : Readings) (s : Option State) → Stays w s w s
stays_refl w s = record { epoch = omega arith; promise = omega arith; level = omega arith; inside = λ a e. a }

pub stays_trans : (v w x : Readings) (s t u : Option State) → Stays v s w t → Stays w t x u → Stays v s x u
stays_trans v w x s t u a b = record {
  epoch = let p = a.epoch in let q = b.epoch in omega arith;
  promise = let p = a.promise in let q = b.promise in omega arith;
  level = let p = a.level in let q = b.level in omega arith;
  inside = λ i e. let p = a.epoch in let q = b.epoch in a.inside (b.inside i (omega arith)) (omega arith);
}

-- world `next` comes later in a run than w
pub record Later (w next : World) : Type 0 where
  pub each : (i : ℕ) → Stays (readings_at w i) (w.state i) (readings_at next i) (next.state i)
  -- what monitor i accepted since w is under no number below its promise in w
  pub since : (i v pn : ℕ) (bytes : List ℕ) → HasAccepted next i v pn bytes → HasAccepted w i v pn bytes ⊎ (promise_of (readings_at w i) ≤ pn)

pub later_refl : (w : World) → Later w w
later_refl w = record { each = λ i. stays_refl (readings_at w i) (w.state i); since = λ i v pn bytes a. inl a }

pub later_trans : (u v w : World) → Later u v → Later v w → Later u w
later_trans u v w a b = record {
  each = λ i. stays_trans (readings_at u i) (readings_at v i) (readings_at w i) (u.state i) (v.state i) (w.state i) (a.each i) (b.each i);
  since = λ i v pn bytes h. elim (b.since i v pn bytes h) [ inl o ↦ a.since i v pn bytes o | inr le ↦ inr (let p = (a.each i).promise in omega arith) ];
}
