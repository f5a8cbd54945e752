-- Iteration after iteration.
use Rattle.std.proofs.Common.{◌≡◌, ℕ, ◌+◌, ◌<◌, ◌≤◌, inr, List, [], ◌∷◌, ◌++◌, map, length, Option, Some, Result, Ok, Err, refl, sym, ap, subst, ◌∙◌, suc, add-one, arith}
use Rattle.std.specs.Prelude.{option_map}
use Rattle.mon_bytes.specs.Answers.{◌>>=◌}
use Rattle.mon_disk.specs.Calls.{DiskState}
use Rattle.mon_link.specs.Clocks.{Readings, after}
use Rattle.mon_link.specs.Histories.{Happened, GoOn}
use Rattle.mon_link.specs.Links.{Observed}
use Rattle.mon_msg.specs.Protocol.Timers.{due}
use Rattle.mon_msg.specs.declared.input.Input.TheVariants as input
use Rattle.mon_msg.specs.declared.view.Me.{Me}
use Rattle.mon_store.specs.StoreView.{StoreView}
use Rattle.mon_store.specs.declared.store.Store.{Store as StoreOn}
use Rattle.mon_node.specs.Hearing.{Given, IsGiven, IsReading, at_time}
use Rattle.mon_node.specs.Lasting.{BothVisible, Leave, Through, Pass, IsWithinIteration, RemainsAfter, PassIteration, PassIterations, StandsThrough, store_view_kept, times}
use Rattle.mon_node.specs.Nodes.{Serving, Disks, disks_of, unstarted}
use Rattle.mon_node.specs.Sends.{AreSent, Send, call_of}
use Rattle.mon_node.specs.Serving.{Has, EndsAt, EndsIteration, EndsAfter, AreGiven, Serves, sends_of}
use Rattle.mon_node.specs.Iterations.{Iteration, start, iteration, ended_iteration, last_iteration, served}
use Rattle.mon_node.specs.Talking.{AllSent, IsKeptFirst, SentAfter, TalkIteration, Talks, asked, asked_after, happened}
use Rattle.mon_node.specs.declared.end.NodeEnd.TheVariants as end
use Rattle.mon_node.specs.declared.end.NodeEnd.{NodeEnd}
use Rattle.mon_node.proofs.Standing.{lasts_on, leave_as}
use Rattle.mon_node.proofs.Passing.{store_view_then, turns_later}
use Rattle.mon_node.proofs.Sends.{go_further}
use Rattle.mon_node.proofs.Talking.{last_of, sent_after}

-- The start, after the clock was read.
abbrev at_start : (first : ℕ) → Serving → Iteration
at_start first now = record { came = Ok (Some (at_time first input.Start)); serving = now }

pub start_as : (rank : ℕ) (m : StoreView) (clock read : Option Readings) (link : Option Observed) (first : ℕ) (now : Serving)
    → read ≡ option_map after clock → now ≡ unstarted rank m read link → at_start first now ≡ start first (unstarted rank m clock link)
start_as rank m clock read link first now read_is now_is =
    ap (at_start first) now_is ∙ ap (λ (c : Option Readings). at_start first (unstarted rank m c link)) read_is

-- An iteration has the same result for equal identities and equal inputs.
pub iteration_as : {T : Type 0} (me mine : Me) (t u : Iteration) (result : Result T NodeEnd) (after : Serving) → mine ≡ me → t ≡ u → EndsIteration mine t result after → EndsIteration me u result after
iteration_as me mine t u result after own same h = subst (λ (x : Me). EndsIteration x u result after) own (subst (λ (x : Iteration). EndsIteration mine x result after) same h)

-- The same of what the disks of a store go through.
pub pass_iteration_as : {T D : Type 0} (state : D → DiskState) (me mine : Me) (t u : Iteration) (result : Result T NodeEnd) (link : Option Observed) (s n : StoreOn D) (new : Disks) → mine ≡ me → t ≡ u → s ≡ n
    → (BothVisible (disks_of state s) → PassIteration mine t result link (disks_of state s) new) → BothVisible (disks_of state n) → PassIteration me u result link (disks_of state n) new
pass_iteration_as {T} {D} state me mine t u result link s n new own same stores h =
    subst (λ (x : StoreOn D). BothVisible (disks_of state x) → PassIteration me u result link (disks_of state x) new) stores
    (subst (λ (x : Me). BothVisible (disks_of state s) → PassIteration x u result link (disks_of state s) new) own (subst (λ (x : Iteration). BothVisible (disks_of state s) → PassIteration mine x result link (disks_of state s) new) same h))

abbrev History : Type 1
History = List Happened → Type 0

-- The state of a node after this many iterations, that of its disks, and the histories that its link may have had.
pub record HasServed (me : Me) (s : Serving) (old : Disks) (before : History) (done : ℕ) (now : Serving) (disks : Disks) (so_far : History) : Type 0 where
  pub first : ℕ
  pub given : List Given
  pub given_are : AreGiven me first s given
  pub done_are : done ≡ length given
  pub served_is : served me first s given ≡ Ok now
  pub passes : BothVisible old → PassIterations me first s given old disks
  pub sends : List (List Send)
  pub all_sent : AllSent me first s given sends
  pub goes_on : GoOn before (happened me first s given sends) so_far

-- the iterations that a node made, whatever they are
abbrev pub SomeServe : Me → Serving → (old : Disks) → (before : History) → (turns : ℕ) → NodeEnd → (begun : ℕ) → Option Readings → Option Observed → (new : Disks) → (so_far : History) → Type 0
SomeServe me s old before turns e begun clock link new so_far =
    (first : ℕ) × (given : List Given) × Serves me s turns e begun clock link first given × (BothVisible old → StandsThrough me first s given e link old new)
    × Talks me first s given e before so_far old new

ends_after : (me : Me) (turns begun : ℕ) (t : Iteration) (e : NodeEnd) (clock : Option Readings) (link : Option Observed) → EndsAt me t e clock link → EndsAfter me turns begun t e clock link
ends_after me turns begun t end.TurnsUsed clock link h = absurd h.cause
ends_after me turns begun t end.Closed clock link h = h
ends_after me turns begun t end.DiskFault clock link h = h
ends_after me turns begun t end.LinkFault clock link h = h
ends_after me turns begun t (end.Full would_be) clock link h = h
ends_after me turns begun t (end.Spent spent) clock link h = h
ends_after me turns begun t end.OutOfMemory clock link h = h

module _ (me : Me) (s : Serving) (old : Disks) (before : History) where
  -- the start
  start_passes : (first : ℕ) (new : Disks) → Pass (IsWithinIteration me (start first s)) old new → PassIterations me first s [] old new
  start_passes first new p = record { a = p.a; b = p.b; both_visible = p.both_visible; turns = p.through }

  pub started : (first : ℕ) (now : Serving) (new : Disks) (so_far : History) → IsReading s.outside.clock first → ended_iteration me (start first s) ≡ Ok now → (BothVisible old → Pass (IsWithinIteration me (start first s)) old new)
      → TalkIteration {T = Unit {0}} me (start first s) [] (Ok tt) before so_far old new → HasServed me s old before 0 now new so_far
  started first now new so_far reading is pass talk = record {
    first = first;
    given = [];
    given_are = reading;
    done_are = refl;
    served_is = is;
    passes = λ both. start_passes first new (pass both);
    sends = talk.sends ∷ [];
    all_sent = (refl, talk.sent);
    goes_on = talk.goes_on;
  }

  pub start_ends : (turns first : ℕ) (e : NodeEnd) (clock : Option Readings) (link : Option Observed) (new : Disks) (so_far : History) → IsReading s.outside.clock first → EndsAt me (start first s) e clock link
      → (BothVisible old → PassIteration {T = Unit {0}} me (start first s) (Err e) link old new) → TalkIteration {T = Unit {0}} me (start first s) [] (Err e) before so_far old new
      → SomeServe me s old before turns e 0 clock link new so_far
  start_ends turns first e clock link new so_far reading h pass talk = (
    first,
    [],
    record {
      given_are = reading;
      begun_are = refl;
      most = omega arith;
      ends = ends_after me turns 0 (start first s) e clock link h;
    },
    λ both. let p = pass both in record { turns = start_passes first new p.0; left = p.1 },
    record {
      said = record {
        last = talk.sends;
        others = [];
        others_sent = refl;
        last_sent = sent_after me (start first s) e clock link (sends_of me (start first s)) talk.sends h talk.sent;
      };
      goes_on = talk.goes_on;
      kept = talk.kept;
    },
  )

  -- one more iteration
  module _ (done : ℕ) (now : Serving) (disks : Disks) (mid : History) (so_far : HasServed me s old before done now disks mid) where
    module _ (g : Given) (given : IsGiven (due now.node.state.timers) g now.outside) where
      last_is : last_iteration me so_far.first s (g ∷ so_far.given) ≡ Ok (iteration me g now)
      last_is = ap (λ (x : Result Serving NodeEnd). x >>= λ (y : Serving). Ok (iteration me g y)) so_far.served_is

      are_given : AreGiven me so_far.first s (g ∷ so_far.given)
      are_given = (so_far.given_are, subst (λ (x : Result Serving NodeEnd). Has x (λ (y : Serving). IsGiven (due y.node.state.timers) g y.outside)) (sym so_far.served_is) given)

      counted : done + 1 ≡ length (g ∷ so_far.given)
      counted = add-one done ∙ ap suc so_far.done_are

      at_last : (P : Iteration → Type 0) → P (iteration me g now) → Has (last_iteration me so_far.first s (g ∷ so_far.given)) P
      at_last P h = subst (λ (x : Result Iteration NodeEnd). Has x P) (sym last_is) h

      -- what was asked and sent is that of the iterations before, and then that of this one
      talks_on : (sends : List Send) (last : History) → GoOn mid (asked (due now.node.state.timers) g ++ map call_of sends) last → GoOn before (happened me so_far.first s (g ∷ so_far.given) (sends ∷ so_far.sends)) last
      talks_on sends last talk =
          go_further before mid last (happened me so_far.first s so_far.given so_far.sends) (asked_after (served me so_far.first s so_far.given) g ++ map call_of sends) so_far.goes_on
          (subst (λ (x : Result Serving NodeEnd). GoOn mid (asked_after x g ++ map call_of sends) last) (sym so_far.served_is) talk)

      pub passes_on : (new : Disks) → BothVisible old → Pass (IsWithinIteration me (iteration me g now)) disks new → PassIterations me so_far.first s (g ∷ so_far.given) old new
      passes_on new both p = let before = so_far.passes both in record {
        a = lasts_on old.a disks.a new.a before.a p.a;
        b = lasts_on old.b disks.b new.b before.b p.b;
        both_visible = p.both_visible;
        turns = (
          times disks,
          turns_later me so_far.first s disks new p.a p.b so_far.given (times old) (times disks) (omega arith) (omega arith) before.turns,
          at_last (λ (t : Iteration). Through new (IsWithinIteration me t) (times disks) (times new)) p.through,
        );
      }

      pub goes_on : (next : Serving) (new : Disks) (last : History) → ended_iteration me (iteration me g now) ≡ Ok next → (BothVisible disks → Pass (IsWithinIteration me (iteration me g now)) disks new)
          → TalkIteration {T = Unit {0}} me (iteration me g now) (asked (due now.node.state.timers) g) (Ok tt) mid last disks new → HasServed me s old before (done + 1) next new last
      goes_on next new last is pass talk = record {
        first = so_far.first;
        given = g ∷ so_far.given;
        given_are = are_given;
        done_are = counted;
        served_is = ap (λ (x : Result Iteration NodeEnd). x >>= ended_iteration me) last_is ∙ is;
        passes = λ both. passes_on new both (pass (so_far.passes both).both_visible);
        sends = talk.sends ∷ so_far.sends;
        all_sent = (so_far.all_sent, at_last (λ (t : Iteration). AreSent (sends_of me t) talk.sends) talk.sent);
        goes_on = talks_on talk.sends last talk.goes_on;
      }

      pub ends_here : (turns : ℕ) (e : NodeEnd) (clock : Option Readings) (link : Option Observed) (new : Disks) (last : History) → done < turns → EndsAt me (iteration me g now) e clock link
          → (BothVisible disks → PassIteration {T = Unit {0}} me (iteration me g now) (Err e) link disks new)
          → TalkIteration {T = Unit {0}} me (iteration me g now) (asked (due now.node.state.timers) g) (Err e) mid last disks new → SomeServe me s old before turns e (done + 1) clock link new last
      ends_here turns e clock link new last within h pass talk = (
        so_far.first,
        g ∷ so_far.given,
        record {
          given_are = are_given;
          begun_are = counted;
          most = subst (λ (n : ℕ). n ≤ turns) counted (omega (arith, within));
          ends = at_last (λ (t : Iteration). EndsAfter me turns (done + 1) t e clock link) (ends_after me turns (done + 1) (iteration me g now) e clock link h);
        },
        λ both. let p = pass (so_far.passes both).both_visible in record { turns = passes_on new both p.0; left = at_last (λ (t : Iteration). Leave new (RemainsAfter me t e link)) p.1 },
        record {
          said = record {
            last = talk.sends;
            others = so_far.sends;
            others_sent = so_far.all_sent;
            last_sent = at_last (λ (t : Iteration). SentAfter e (sends_of me t) talk.sends) (sent_after me (iteration me g now) e clock link (sends_of me (iteration me g now)) talk.sends h talk.sent);
          };
          goes_on = talks_on talk.sends last talk.goes_on;
          kept = λ both. at_last (λ (t : Iteration). IsKeptFirst me t talk.sends new) (talk.kept (so_far.passes both).both_visible);
        },
      )

    -- all of them
    pub all_made : (turns : ℕ) → done ≡ turns → Leave disks (λ x. x ≡ now.node.store) → SomeServe me s old before turns end.TurnsUsed turns now.outside.clock now.outside.link disks mid
    all_made turns all left = (
      so_far.first,
      so_far.given,
      record {
        given_are = so_far.given_are;
        begun_are = sym all ∙ so_far.done_are;
        most = subst (λ (n : ℕ). n ≤ turns) so_far.done_are (omega (arith, all));
        ends = at_last (last_iteration me so_far.first s so_far.given) so_far.served_is;
      },
      λ both. record { turns = so_far.passes both; left = are_left (last_iteration me so_far.first s so_far.given) so_far.served_is },
      let l = last_of me so_far.first s so_far.given so_far.sends so_far.all_sent in record {
        said = record { last = l.last; others = l.others; others_sent = l.others_sent; last_sent = l.last_sent };
        goes_on = subst (λ (sends : List (List Send)). GoOn before (happened me so_far.first s so_far.given sends) mid) l.is so_far.goes_on;
        kept = λ both. are_kept l.last (last_iteration me so_far.first s so_far.given) so_far.served_is;
      },
    )
      where
        are_kept : (sends : List Send) (x : Result Iteration NodeEnd) → (x >>= ended_iteration me) ≡ Ok now → Has x (λ (t : Iteration). IsKeptFirst me t sends disks)
        are_kept sends (Ok t) is = inr (leave_as disks (λ x. x ≡ now.node.store) (λ x. x ≡ store_view_kept me t) (λ x e. e ∙ store_view_then me t now is) left)
        are_kept sends (Err e) is = absurd cc

        at_last : (x : Result Iteration NodeEnd) → (x >>= ended_iteration me) ≡ Ok now → Has x (λ (t : Iteration). EndsAfter me turns turns t end.TurnsUsed now.outside.clock now.outside.link)
        at_last (Ok t) is = (refl, subst (λ (y : Result Serving NodeEnd). Has y (λ (z : Serving). (now.outside.clock ≡ z.outside.clock) × (now.outside.link ≡ z.outside.link))) (sym is) (refl, refl))
        at_last (Err e) is = absurd cc

        are_left : (x : Result Iteration NodeEnd) → (x >>= ended_iteration me) ≡ Ok now → Has x (λ (t : Iteration). Leave disks (RemainsAfter me t end.TurnsUsed now.outside.link))
        are_left (Ok t) is = leave_as disks (λ x. x ≡ now.node.store) (RemainsAfter me t end.TurnsUsed now.outside.link) (λ x e. e ∙ store_view_then me t now is) left
        are_left (Err e) is = absurd cc
