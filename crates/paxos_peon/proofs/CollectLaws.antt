-- What a peon does when its leader collects.
use Rattle.std.proofs.Common.{◌≡◌, ℕ, suc, ◌≤◌, ◌<◌, ◌^◌, Bool, true, false, cond, ltb, List, [], ◌∷◌, None, Result, Ok, Err, refl, ap, ◌∙◌, ◌++◌, append-nil, arith}
use Rattle.std.proofs.lemmas.Bool.{le-leb, lt-leb, le-ltb, lt-ltb}
use Rattle.mon_msg.specs.Protocol.Answers.{answer_of, last_answer}
use Rattle.mon_msg.specs.Protocol.Changes.{Change, Promise}
use Rattle.mon_msg.specs.Protocol.Course.{Course, change_all, peon_is}
use Rattle.mon_msg.specs.Protocol.Entering.{bootstrap}
use Rattle.mon_msg.specs.Protocol.Peon.{answer_collect, cancel, hear_collect}
use Rattle.mon_msg.specs.Protocol.Readings.{Readings, epoch_of, promise_of}
use Rattle.mon_msg.specs.Protocol.Records.{pending}
use Rattle.mon_msg.specs.Protocol.Sending.{message_to, send}
use Rattle.mon_msg.specs.declared.paxos.Peon.{Peon}
use Rattle.mon_msg.specs.declared.view.Me.{Me}
use Rattle.mon_plan.specs.Plans.{done}
use Rattle.mon_types.specs.declared.names.Which.TheVariants as which
use Rattle.mon_types.specs.declared.names.Which.{Which}
use Rattle.mon_wire.specs.declared.body.Body.{Body}
use Rattle.paxos_peon.specs.Rows.{IsOurs}
use Rattle.paxos_peon.proofs.Ours.{along, plan_of}

-- the answer to a leader with that last version, if this number is promised
abbrev pub told_with : Me → (last p : ℕ) → Readings → Body
told_with me last p w = answer_of me.member.monitors p w.first w.last w.record_of (pending w) (suc last)

module _ (w : Readings) (s : Peon) (f e : ℕ) (x : Course) (b : IsOurs w s f e x) (me : Me) (now pn first last : ℕ) where
  pub collect-behind : suc w.last < first → hear_collect me now f e pn first last x ≡ bootstrap me now x
  unfolding hear_collect
  collect-behind h =
      let ours = b.ours in
      let t = lt-ltb (suc x.readings.last) first (omega (arith, h, ap (λ (r : Readings). r.last) b.readings)) in
      rw (ours, t) refl

  answers : first ≤ suc w.last → hear_collect me now f e pn first last x ≡ answer_collect me f pn last x
  unfolding hear_collect
  answers h =
      let ours = b.ours in
      let t = le-ltb (suc x.readings.last) first (omega (arith, h, ap (λ (r : Readings). r.last) b.readings)) in
      rw (ours, t) refl

  pub collect-spent : first ≤ suc w.last → 2 ^ 62 < suc last → hear_collect me now f e pn first last x ≡ Err which.Version
  collect-spent h above = answers h ∙ (let t = lt-leb (suc last) (2 ^ 62) above in rw t refl)

  -- the changes and the answer, if the number is above the own one or not
  abbrev changes_by : Bool → List Change
  changes_by above = cond above (Promise pn ∷ []) []

  abbrev done_by : Bool → Readings → Peon → Result Course Which
  done_by above w s =
      Ok (done peon_is (changes_by above) (plan_of (changes_by above) (message_to me (epoch_of w) (told_with me last (cond above pn (promise_of w)) w) f ∷ []) [] (record s { lease = None })) x)

  abbrev told_by : Bool → Result Course Which
  told_by above = let y = change_all (changes_by above) (cancel x) in Ok (send me f (last_answer me.member.monitors y.readings (suc last)) y)

  told : (above : Bool) → told_by above ≡ done_by above x.readings x.state.peon
  told true = refl
  told false =
      let m = message_to me (epoch_of x.readings) (told_with me last (promise_of x.readings) x.readings) f in
      λ i. Ok (record x { changes = append-nil x.changes i; state = record x.state { peon = record x.state.peon { lease = None } }; out = x.out ++ m ∷ [] })

  abbrev pub tells : Readings → Peon → Type 0
  tells w s = hear_collect me now f e pn first last x ≡ done_by (ltb (promise_of w) pn) w s

  pub collect-told : first ≤ suc w.last → suc last ≤ 2 ^ 62 → tells w s
  collect-told h short =
      along w s f e x b tells
      (answers h ∙ (let t = le-leb (suc last) (2 ^ 62) short in rw t (told (ltb (promise_of x.readings) pn))))
