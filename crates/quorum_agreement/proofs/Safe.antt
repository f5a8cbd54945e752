-- What holds of the versions that were acknowledged and of the replies, and that it still holds after further events.
use Rattle.law_names.proofs.Runs.{Acknowledged, AcknowledgedOnce, Asked, DoneIsAnswered, Envelope, IsFenced, Monitors, Replied, ShowsLog, WasAskedFor, World}
use Rattle.law_names.proofs.Table.{AllByRecursion, Contains, Reply, State, Store, epoch_of, readings_of, shown}
use Rattle.log_copies.proofs.Matching.{IsTold, told_stays}
use Rattle.mon_wire.specs.declared.phase.Phase.TheVariants as phase
use Rattle.mon_wire.specs.declared.reply.Reply.TheVariants as reply
use Rattle.quorum_agreement.proofs.Acknowledging.{IsShownIn, fenced_by}
use Rattle.quorum_agreement.proofs.Answered.{Routes, Stems, answer_lasts, routes_last, stems_further}
use Rattle.quorum_agreement.proofs.Held.{IsHeld, Onward, Still, held_lasts}
use Rattle.quorum_history.proofs.History.{Ghost}
use Rattle.quorum_laws.proofs.Invariant.{InvOf}
use Rattle.quorum_laws.specs.Accepting.{readings_at}
use Rattle.quorum_model.specs.Shown.{Fence}
use Rattle.quorum_walk.proofs.Lists.{all_append, all_both, all_map}
use Rattle.std.proofs.Common.{List, Some, arith, inl, inr, map, subst, suc, sym, ℕ, ◌++◌, ◌≡◌, ◌≤◌}

pub record IsSafe (ms : Monitors) (w : World) (I : InvOf ms w) : Type 0 where
  pub still : (i : ℕ) (s : State) → w.state i ≡ Some s → Still s.phase s.leader
  pub stems : (i : ℕ) (s : State) → w.state i ≡ Some s → s.phase ≡ phase.Updating → Stems I.g i (epoch_of (readings_at w i)) s.leader
  pub acks : AllByRecursion (IsHeld ms.count w I.g) w.acknowledged
  pub once : AcknowledgedOnce (λ (a : Acknowledged). a.what.version) w.acknowledged
  pub replies : AllByRecursion (IsShownIn w) w.replied
  pub answers : AllByRecursion (λ (r : Replied). DoneIsAnswered w r r.reply) w.replied
  pub fence : Fence w
  pub routes : AllByRecursion (Routes w I.g) w.messages

-- ---- what is shown lasts

told_of : (w : World) (r : Replied) (y : Reply) → ShowsLog w r y → IsTold w.log r.last y
told_of w r (reply.Shown s paxos version map) k = k
told_of w r (reply.Since s from told more) k = (k.same, k.others)
told_of w r other k = tt

pub shows_told : (w : World) (r : Replied) (y : Reply) → IsTold w.log r.last y → ShowsLog w r y
shows_told w r (reply.Shown s paxos version map) k = k
shows_told w r (reply.Since s from told more) k = record { same = k.0; others = k.1 }
shows_told w r other k = tt

asked_lasts : (w next : World) → ((a : Asked) → Contains w.asked a → Contains next.asked a) → (r : Replied) (y : Reply) → WasAskedFor w r y → WasAskedFor next r y
asked_lasts w next keeps r (reply.Shown s paxos version map) (inl k) = inl (keeps _ k)
asked_lasts w next keeps r (reply.Shown s paxos version map) (inr k) = inr (k.0, keeps _ k.1)
asked_lasts w next keeps r (reply.Since s from told more) k = keeps _ k
asked_lasts w next keeps r other k = tt

shown_lasts : (w next : World) (g h : Ghost) → Onward w next g h → (r : Replied) → IsShownIn w r → IsShownIn next r
shown_lasts w next g h O r k = record {
  event = let e = k.event in let f = O.events in omega arith;
  last = let e = k.last in let f = O.log_prefix in let s = f.short in omega arith;
  shows = shows_told next r r.reply (told_stays O.log_prefix r.last k.last r.reply (told_of w r r.reply k.shows));
  asked = asked_lasts w next O.asked r r.reply k.asked;
}

-- ---- nothing is acknowledged or replied

module _ (ms : Monitors) (w next : World) (I : InvOf ms w) (K : InvOf ms next) (O : Onward w next I.g K.g) (S : IsSafe ms w I) where
  abbrev n : ℕ
  n = ms.count

  held_again : AllByRecursion (IsHeld n next K.g) w.acknowledged
  held_again = all_map (IsHeld n w I.g) (IsHeld n next K.g) (held_lasts n w next I.g K.g O) w.acknowledged S.acks

  shown_again : AllByRecursion (IsShownIn next) w.replied
  shown_again = all_map (IsShownIn w) (IsShownIn next) (shown_lasts w next I.g K.g O) w.replied S.replies

  answers_again : AllByRecursion (λ (r : Replied). DoneIsAnswered next r r.reply) w.replied
  answers_again = all_map _ _ (λ r. answer_lasts w next O.acks O.asked r r.reply) w.replied S.answers

  routes_again : AllByRecursion (Routes next K.g) w.messages
  routes_again = all_map (Routes w I.g) (Routes next K.g) (routes_last w next O.acks I.g K.g O.further O.events) w.messages S.routes

  -- a monitor that did nothing
  pub stems_again : (i : ℕ) (s : State) → w.state i ≡ Some s → next.store i ≡ w.store i → s.phase ≡ phase.Updating → Stems K.g i (epoch_of (readings_at next i)) s.leader
  stems_again i s e q u =
      subst (λ (m : Store). Stems K.g i (epoch_of (readings_of m)) s.leader) (sym q) (stems_further I.g K.g O.further i (epoch_of (readings_at w i)) s.leader (S.stems i s e u))

  pub safe_same : ((i : ℕ) (s : State) → next.state i ≡ Some s → (w.state i ≡ Some s) × (next.store i ≡ w.store i)) → next.acknowledged ≡ w.acknowledged → next.replied ≡ w.replied → next.messages ≡ w.messages → IsSafe ms next K
  safe_same unchanged acks replied messages = record {
    still = λ i s e. S.still i s (unchanged i s e).0;
    stems = λ i s e. stems_again i s (unchanged i s e).0 (unchanged i s e).1;
    acks = subst (AllByRecursion (IsHeld n next K.g)) (sym acks) held_again;
    once = subst (AcknowledgedOnce (λ (a : Acknowledged). a.what.version)) (sym acks) S.once;
    replies = subst (AllByRecursion (IsShownIn next)) (sym replied) shown_again;
    answers = subst (AllByRecursion (λ (r : Replied). DoneIsAnswered next r r.reply)) (sym replied) answers_again;
    fence = subst (λ (rs : List Replied). AllByRecursion (λ (a : Acknowledged). AllByRecursion (λ (r : Replied). IsFenced a r r.reply) rs) next.acknowledged) (sym replied)
        (subst (λ (acks : List Acknowledged). AllByRecursion (λ (a : Acknowledged). AllByRecursion (λ (r : Replied). IsFenced a r r.reply) w.replied) acks) (sym acks) S.fence);
    routes = subst (AllByRecursion (Routes next K.g)) (sym messages) routes_again;
  }

  -- ---- something is

  module _ (still : (i : ℕ) (s : State) → next.state i ≡ Some s → Still s.phase s.leader) (stems : (i : ℕ) (s : State) → next.state i ≡ Some s → s.phase ≡ phase.Updating → Stems K.g i (epoch_of (readings_at next i)) s.leader)
      (later : suc w.events ≤ next.events) (new : List Acknowledged) (replies : List Replied) (sends : List Envelope)
      (acks_are : next.acknowledged ≡ w.acknowledged ++ new) (replied_are : next.replied ≡ w.replied ++ replies) (messages_are : next.messages ≡ w.messages ++ sends) where
    abbrev FencedBy : List Replied → Acknowledged → Type 0
    FencedBy rs a = AllByRecursion (λ (r : Replied). IsFenced a r r.reply) rs

    pub safe_more : AllByRecursion (λ (a : Acknowledged). IsHeld n next K.g a × (a.event ≡ next.events)) new → AcknowledgedOnce (λ (a : Acknowledged). a.what.version) (w.acknowledged ++ new)
        → AllByRecursion (λ (r : Replied). IsShownIn next r × (r.event ≡ next.events)) replies → AllByRecursion (λ (r : Replied). DoneIsAnswered next r r.reply) replies → ((a : Acknowledged) → IsHeld n w I.g a → FencedBy replies a)
        → AllByRecursion (Routes next K.g) sends → IsSafe ms next K
    safe_more held once shown answered fenced routes = record {
      still = still;
      stems = stems;
      acks = subst (AllByRecursion (IsHeld n next K.g)) (sym acks_are) (all_append (IsHeld n next K.g) w.acknowledged new held_again (all_map _ _ (λ a k. k.0) new held));
      once = subst (AcknowledgedOnce (λ (a : Acknowledged). a.what.version)) (sym acks_are) once;
      replies = subst (AllByRecursion (IsShownIn next)) (sym replied_are) (all_append (IsShownIn next) w.replied replies shown_again (all_map _ _ (λ r k. k.0) replies shown));
      answers = subst (AllByRecursion (λ (r : Replied). DoneIsAnswered next r r.reply)) (sym replied_are) (all_append (λ (r : Replied). DoneIsAnswered next r r.reply) w.replied replies answers_again answered);
      fence = subst (λ (rs : List Replied). AllByRecursion (FencedBy rs) next.acknowledged) (sym replied_are) (subst (AllByRecursion (FencedBy (w.replied ++ replies))) (sym acks_are)
          (all_append (FencedBy (w.replied ++ replies)) w.acknowledged new (all_map _ _ old w.acknowledged (all_both (IsHeld n w I.g) (FencedBy w.replied) w.acknowledged S.acks S.fence)) (all_map _ _ fresh new held)));
      routes = subst (AllByRecursion (Routes next K.g)) (sym messages_are) (all_append (Routes next K.g) w.messages sends routes_again routes);
    }
      where
        old : (a : Acknowledged) → IsHeld n w I.g a × FencedBy w.replied a → FencedBy (w.replied ++ replies) a
        old a k = all_append (λ (r : Replied). IsFenced a r r.reply) w.replied replies k.1 (fenced a k.0)

        fresh : (a : Acknowledged) → IsHeld n next K.g a × (a.event ≡ next.events) → FencedBy (w.replied ++ replies) a
        fresh a k = all_append (λ (r : Replied). IsFenced a r r.reply) w.replied replies
            (all_map (IsShownIn w) _ (λ r z. fenced_by a r r.reply (λ lt e. let s = z.event in let q = k.1 in absurd (omega arith))) w.replied S.replies)
            (all_map _ _ (λ r z. fenced_by a r r.reply (λ lt e. let s = z.1 in let q = k.1 in absurd (omega arith))) replies shown)
