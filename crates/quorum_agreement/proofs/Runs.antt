-- What holds of the log holds after every list of events, and the log only grows.
use Rattle.law_names.proofs.Runs.{AllFit, Event, Monitors, PlainFits, Stop, World, first_world, goes_on, happens, plain_of, ran_from, run, run_from}
use Rattle.quorum_agreement.proofs.Beginning.{at_first}
use Rattle.quorum_agreement.proofs.Grown.{GrowsByOne}
use Rattle.quorum_agreement.proofs.Invariant.{EnvelopeMatches, LogHolds}
use Rattle.quorum_agreement.proofs.LoneWorlds.{LoneFollows, LoneHolds, lone_asking, lone_at_first, lone_follows}
use Rattle.quorum_agreement.proofs.Worlds.{Follows, all_follow, asking}
use Rattle.quorum_agreement.specs.Growing.{GrowsBy}
use Rattle.quorum_laws.proofs.Events.{each_event}
use Rattle.quorum_model.proofs.Happening.{of_next, run_keeps, runs_apart}
use Rattle.std.proofs.Common.{Err, IfOk, List, Ok, Result, [], ap, append-nil, arith, inl, inr, length, suc, sym, ℕ, ◌++◌, ◌<◌, ◌∙◌, ◌∷◌, ◌≡◌}
use Rattle.std.proofs.lemmas.List.{append_assoc}

-- no entry more
as_it_is : (most : ℕ) (log : List (List ℕ)) → GrowsBy most log log
as_it_is most log = record { more = []; is = sym (append-nil log); few = omega arith }

one_more : (most : ℕ) (a b c : List (List ℕ)) → GrowsByOne a b → GrowsBy most b c → GrowsBy (suc most) a c
one_more most a b c (inl e) G = record { more = G.more; is = G.is ∙ ap (λ (l : List (List ℕ)). l ++ G.more) e; few = (let f = G.few in omega arith) }
one_more most a b c (inr x) G = record { more = x.0 ∷ G.more; is = G.is ∙ ap (λ (l : List (List ℕ)). l ++ G.more) x.1 ∙ append_assoc a (x.0 ∷ []) G.more; few = (let f = G.few in omega arith) }

-- what each event keeps, with one entry more at most
module _ (ms : Monitors) (P : World → Type 0) (follows : (w : World) (e : Event) → PlainFits ms.count (plain_of e) → P w → IfOk (happens ms w e) (λ next. P next × GrowsByOne w.log next.log)) where
  abbrev After : World → Result World Stop → Type 0
  After w r = IfOk r (λ next. P next × GrowsByOne w.log next.log)

  abbrev Fits : Event → Type 0
  Fits e = PlainFits ms.count (plain_of e)

  next_holds : (w : World) (e : Event) → Fits e → P w → (next : World) → happens ms w e ≡ Ok next → P next
  next_holds w e F h next q = (of_next (λ (next : World). P next × GrowsByOne w.log next.log) (happens ms w e) next q (follows w e F h)).0

  pub runs_hold : (w : World) (events : List Event) → AllFit ms.count events → P w → P (run_from ms w events)
  runs_hold = run_keeps ms Fits P next_holds

  grows_from : (w : World) (events : List Event) → AllFit ms.count events → P w → GrowsBy (length events) w.log (run_from ms w events).log
  unfolding ran_from
  grows_from w [] F h = as_it_is 0 w.log
  grows_from w (e ∷ es) F h = by (happens ms w e) (follows w e F.0 h) (λ next. grows_from next es F.1)
    where
      by : (r : Result World Stop) → After w r → ((next : World) → P next → GrowsBy (length es) next.log (run_from ms next es).log) → GrowsBy (suc (length es)) w.log (goes_on w (λ next. ran_from ms next es) r).world.log
      by (Ok next) k ih = one_more (length es) w.log next.log (run_from ms next es).log k.1 (ih next k.0)
      by (Err stop) k ih = as_it_is (suc (length es)) w.log

  grows_on : (w : World) (before after : List Event) → AllFit ms.count (before ++ after) → P w → GrowsBy (length after) (run_from ms w before).log (run_from ms w (before ++ after)).log
  grows_on w before after F h = runs_apart ms Fits P next_holds (λ u v. GrowsBy (length after) u.log v.log) after (λ w h F. grows_from w after F h) (λ w h. as_it_is (length after) w.log) w before F h

-- ---- several monitors, and one

module _ (ms : Monitors) (several : (i : ℕ) → i < ms.count → 1 < ms.count) where
  follows : (w : World) (e : Event) → PlainFits ms.count (plain_of e) → LogHolds ms w → IfOk (happens ms w e) (Follows ms w)
  follows w e F h = each_event ms w (EnvelopeMatches w.log) h.0 (Follows ms w) h.1.sent e F (λ J up. all_follow ms several w (plain_of e) J (asking ms w (plain_of e) h.0 h.1 J))

  pub several_run : (events : List Event) → AllFit ms.count events → LogHolds ms (run ms events)
  several_run events F = runs_hold ms (LogHolds ms) follows first_world events F (at_first ms)

  pub several_grow : (before after : List Event) → AllFit ms.count (before ++ after) → GrowsBy (length after) (run ms before).log (run ms (before ++ after)).log
  several_grow before after F = grows_on ms (LogHolds ms) follows first_world before after F (at_first ms)

module _ (ms : Monitors) (one : ms.count ≡ 1) where
  lone_then : (w : World) (e : Event) → PlainFits ms.count (plain_of e) → LoneHolds ms w → IfOk (happens ms w e) (LoneFollows ms w)
  lone_then w e F h = each_event ms w (EnvelopeMatches w.log) h.0 (LoneFollows ms w) h.1.sent e F (λ J up. lone_follows ms one w (plain_of e) J (lone_asking ms w (plain_of e) h.1))

  pub lone_run : (events : List Event) → AllFit ms.count events → LoneHolds ms (run ms events)
  lone_run events F = runs_hold ms (LoneHolds ms) lone_then first_world events F (lone_at_first ms)

  pub lone_grow : (before after : List Event) → AllFit ms.count (before ++ after) → GrowsBy (length after) (run ms before).log (run ms (before ++ after)).log
  lone_grow before after F = grows_on ms (LoneHolds ms) lone_then first_world before after F (lone_at_first ms)
