-- Each event leaves its monitor waiting for a timer, as the law says it.
use Rattle.law_names.proofs.Table.{Course, Entry, Input, Me, Readings, State, Which, at_rest, booting, react}
use Rattle.mon_msg.specs.declared.input.Input.TheVariants as input
use Rattle.quorum_timed.proofs.Acts.{Waiting}
use Rattle.quorum_timed.proofs.Table.{reacts_waiting, starts_waiting}
use Rattle.quorum_timed.specs.Waiting.{Waits}
use Rattle.quorum_walk.proofs.Walk.{Then}
use Rattle.std.proofs.Common.{List, Ok, Result, subst, ℕ, ◌<◌, ◌≡◌, ◌≤◌}
use Rattle.std.proofs.lemmas.Bool.{lt-ltb}

module _ (me : Me) (shared : List Entry) (latest now : ℕ) (w : Readings) where
  told : (y : Course) (r : Result Course Which) → Then (Waiting me latest) r → r ≡ Ok y → Waits me latest y.state
  told y r k e = let A = (subst (Then (Waiting me latest)) e k).holds in record { kinds = A.good.size; armed = A.waits; soon = A.good.soon }

  pub starts : (rank : ℕ) (y : Course) → 1 < me.member.monitors → now ≤ latest → react me shared now w (booting rank) input.Start ≡ Ok y → Waits me latest y.state
  starts rank y many le e = told y (react me shared now w (booting rank) input.Start) (starts_waiting me latest now le (lt-ltb 1 me.member.monitors many) shared w rank) e

  pub goes_on : (s : State) (came : Input) (y : Course) → 1 < me.member.monitors → now ≤ latest → Waits me latest s → react me shared now w s came ≡ Ok y → Waits me latest y.state
  goes_on s came y many le W e =
      let A : Waiting me latest (at_rest w s) = record { good = record { size = W.kinds; soon = W.soon }; waits = W.armed } in
      told y (react me shared now w s came) (reacts_waiting me latest now le (lt-ltb 1 me.member.monitors many) shared w s came A) e
