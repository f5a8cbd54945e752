-- What becomes of the requests of a network's run.
use Rattle.law_names.proofs.Runs.{Acknowledgement, AllFit, Asked, Event, Monitors, Replied, World, run}
use Rattle.law_names.proofs.Table.{Session}
use Rattle.log_model.proofs.Lists.{all_map}
use Rattle.network_answers.proofs.Answering.{answer}
use Rattle.network_answers.proofs.Lists.{all_image}
use Rattle.network_answers.specs.Answers.{Answer}
use Rattle.network_answers.specs.Fates.{AreAnsweredOnce, AreMadeOnce, AreUnmade, HasUnmade, times_answered}
use Rattle.quorum_commands.proofs.Runs.{once}
use Rattle.quorum_commands.proofs.Unmade.{unmade_unless_done}
use Rattle.quorum_commands.specs.Once.{CommittedOnce}
use Rattle.quorum_commands.specs.Unmade.{AcknowledgesNone, IsUnmade, Unmade}
use Rattle.quorum_model.proofs.Reached.{world_is}
use Rattle.quorum_network.proofs.Assembled.{assembly}
use Rattle.quorum_network.proofs.Going.{GoesOn}
use Rattle.quorum_network.proofs.Names.{Leadership, Network}
use Rattle.quorum_network.proofs.Whole.{Stands}
use Rattle.quorum_replies.proofs.Runs.{answered_once}
use Rattle.quorum_replies.specs.Replies as model
use Rattle.quorum_replies.specs.Replies.{AnsweredOnce, one_of, times_asked}
use Rattle.std.proofs.Common.{List, [], ap, map, refl, subst, sym, ℕ, ◌+◌, ◌∷◌, ◌≡◌, ◌≤◌}

-- ---- of worlds

made_in : (n : ℕ) (v w : World) → CommittedOnce n v w → AreMadeOnce n v.asked w.asked v.log w.log
made_in n v w C = record { request = C.request; is = C.is; once = C.once; earlier = C.earlier }

unmade_in : (n : ℕ) (w : World) → Unmade n w → AreUnmade n w.asked w.log (map answer w.replied)
unmade_in n w U = record {
  request = U.request;
  is = U.is;
  once = U.once;
  refused = all_image answer (λ (a : Answer). AcknowledgesNone a.reply → HasUnmade w.asked w.log U.request a) w.replied
      (all_map (λ (r : Replied). AcknowledgesNone r.reply → IsUnmade w U.request r) (λ (r : Replied). AcknowledgesNone r.reply → HasUnmade w.asked w.log U.request (answer r))
      (λ r k t. let x = k t in record { k = x.k; by = x.by; at = x.at; rank = x.rank; session = x.session; none = x.none }) w.replied U.refused);
}

same_times : (i : ℕ) (t : Session) (rs : List Replied) → times_answered i t (map answer rs) ≡ model.times_answered i t rs
same_times i t [] = refl
same_times i t (r ∷ rs) = ap (λ (k : ℕ). one_of i t r.rank r.session + k) (same_times i t rs)

answered_in : (w : World) → AnsweredOnce w → AreAnsweredOnce w.asked (map answer w.replied)
answered_in w A i t = subst (λ (k : ℕ). k ≤ times_asked i t w.asked) (sym (same_times i t w.replied)) (A i t)

-- ---- of a network

module _ (ms : Monitors) (asks : List Asked) (acks : List Acknowledgement) (leads : List Leadership) (net : Network) (S : Stands assembly ms asks acks leads net) where
  pub unmade_so : AreUnmade ms.count asks S.w.log (map answer S.w.replied)
  unmade_so = subst (λ (xs : List Asked). AreUnmade ms.count xs S.w.log (map answer S.w.replied)) S.asked
      (unmade_in ms.count S.w (subst (Unmade ms.count) (world_is ms S.w S.reach) (unmade_unless_done ms S.reach.events S.reach.fit)))

  pub answered_so : AreAnsweredOnce asks (map answer S.w.replied)
  answered_so = subst (λ (xs : List Asked). AreAnsweredOnce xs (map answer S.w.replied)) S.asked
      (answered_in S.w (subst AnsweredOnce (world_is ms S.w S.reach) (answered_once ms S.reach.events)))

module _ (ms : Monitors) (old_asks asks : List Asked) (old_acks acks : List Acknowledgement) (old_leads leads : List Leadership) (earlier later : Network)
    (S : Stands assembly ms old_asks old_acks old_leads earlier) (T : Stands assembly ms asks acks leads later) (G : GoesOn assembly ms old_asks asks old_acks acks old_leads leads earlier later S T) where
  pub made_so : AreMadeOnce ms.count old_asks asks S.w.log T.w.log
  made_so =
      let together = once ms S.reach.events G.more (subst (AllFit ms.count) G.is T.reach.fit) in
      let of_runs : CommittedOnce ms.count (run ms S.reach.events) (run ms T.reach.events) = subst (λ (es : List Event). CommittedOnce ms.count (run ms S.reach.events) (run ms es)) (sym G.is) together in
      let of_worlds : CommittedOnce ms.count S.w T.w =
      subst (λ (v : World). CommittedOnce ms.count v T.w) (world_is ms S.w S.reach)
      (subst (λ (v : World). CommittedOnce ms.count (run ms S.reach.events) v) (world_is ms T.w T.reach) of_runs) in
      subst (λ (xs : List Asked). AreMadeOnce ms.count xs asks S.w.log T.w.log) S.asked
      (subst (λ (xs : List Asked). AreMadeOnce ms.count S.w.asked xs S.w.log T.w.log) T.asked (made_in ms.count S.w T.w of_worlds))
