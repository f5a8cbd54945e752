-- What a peon does with values that its leader sends.
use Rattle.std.proofs.Common.{◌≡◌, ℕ, suc, ◌-◌, ◌≤◌, ◌&&◌, true, false, List, [], ◌∷◌, length, take, drop, min, None, Ok, refl, sym, ap, ◌∙◌, arith}
use Rattle.std.specs.Bool.{◌==◌}
use Rattle.std.specs.Prelude.{nat_lt}
use Rattle.std.proofs.lemmas.Bool.{le-ltb}
use Rattle.mon_msg.specs.Protocol.Changes.{Vote}
use Rattle.mon_msg.specs.Protocol.Course.{Course, peon_is}
use Rattle.mon_msg.specs.Protocol.Learning.{learn, news}
use Rattle.mon_msg.specs.Protocol.Peon.{hear_begin, hear_commit}
use Rattle.mon_msg.specs.Protocol.Readings.{Readings, epoch_of, promise_of}
use Rattle.mon_msg.specs.Protocol.Sending.{message_to}
use Rattle.mon_msg.specs.declared.paxos.Peon.{Peon}
use Rattle.mon_msg.specs.declared.view.Me.{Me}
use Rattle.mon_plan.specs.Plans.{done}
use Rattle.mon_plan.proofs.Values.{rest_is, same_news}
use Rattle.mon_tx.specs.declared.op.Op.{Op}
use Rattle.mon_wire.specs.declared.body.Body.TheVariants as body
use Rattle.paxos_peon.specs.Rows.{IsOurs}
use Rattle.paxos_peon.proofs.Ours.{along, plan_of}

module _ (w : Readings) (s : Peon) (f e : ℕ) (x : Course) (b : IsOurs w s f e x) where
  -- ---- a value to accept

  module _ (me : Me) (pn v : ℕ) (value : List Op) where
    test_is : (pn == promise_of x.readings && v == suc x.readings.last) ≡ (pn == promise_of w && v == suc w.last)
    test_is = λ i. pn == promise_of (b.readings i) && v == suc (b.readings i).last

    pub begin-dropped : (pn == promise_of w && v == suc w.last) ≡ false → hear_begin me f e pn v value x ≡ Ok x
    unfolding hear_begin
    begin-dropped h =
        let ours = b.ours in
        let t = test_is ∙ h in
        rw (ours, t) refl

    abbrev pub accepts : Readings → Peon → Type 0
    accepts w s =
        hear_begin me f e pn v value x
        ≡ Ok (done peon_is (Vote v pn value ∷ []) (plan_of (Vote v pn value ∷ []) (message_to me (epoch_of w) (body.Accept pn v) f ∷ []) [] (record s { lease = None })) x)

    pub begin-accepts : (pn == promise_of w && v == suc w.last) ≡ true → accepts w s
    unfolding hear_begin
    begin-accepts h =
        let ours = b.ours in
        let t = test_is ∙ h in
        along w s f e x b accepts (rw (ours, t) refl)

  -- ---- values that are committed

  module _ (from : ℕ) (values : List (List Op)) where
    pub commit-ahead : nat_lt (suc w.last) from ≡ true → hear_commit f e from values x ≡ Ok x
    unfolding hear_commit
    commit-ahead h =
        let ours = b.ours in
        let t = (λ i. nat_lt (suc (b.readings i).last) from) ∙ h in
        rw (ours, t) refl

    learns : from ≤ suc x.readings.last → hear_commit f e from values x ≡ learn (suc x.readings.last) (news x.readings.last from values) x
    unfolding hear_commit
    learns h =
        let ours = b.ours in
        let t = le-ltb (suc x.readings.last) from h in
        rw (ours, t) refl

    -- those of them that are new, after k that are known, are learned from version v on
    pub commit-learns : (v k : ℕ) → v ≡ suc w.last → from ≤ v → k ≡ min (v - from) (length values)
        → hear_commit f e from values x ≡ learn v (take (length values - k) (drop k values)) x
    commit-learns v k n low h =
        let next : v ≡ suc x.readings.last = n ∙ sym (ap (λ (r : Readings). suc r.last) b.readings) in
        let cut : drop (suc x.readings.last - from) values ≡ take (length values - k) (drop k values) =
        ap (λ m. drop (m - from) values) (sym next) ∙ sym (rest_is k values ∙ same_news k (v - from) values h) in
        learns (omega (arith, next, low)) ∙ (λ i. learn (sym next i) (cut i) x)
