-- Every list of steps makes a network that does what a run does.
use Rattle.law_names.proofs.Runs.{Acknowledged, Acknowledgement, Asked, Monitors, Reached, Replied, World, first_world, me_of}
use Rattle.law_names.proofs.Table.{AllByRecursion, Contains}
use Rattle.mon_frag.proofs.Lists.{all_append}
use Rattle.quorum_agreement.proofs.SafeWorlds.{safe}
use Rattle.quorum_model.proofs.Reached.{reached_first, reached_next, world_is}
use Rattle.quorum_network.proofs.Acts.{Act}
use Rattle.quorum_network.proofs.Adding.{Adds, IsAt, IsBy, IsRepliedAt, IsRepliedBy, given, noted_as}
use Rattle.quorum_network.proofs.Assembled.{all_self, all_through, assembly}
use Rattle.quorum_network.proofs.Assembling.{Assembly}
use Rattle.quorum_network.proofs.Facts.{Facts}
use Rattle.quorum_network.proofs.Invariant.{IfUp, Inv, Moved, Next, Says, Still}
use Rattle.quorum_network.proofs.Letters.{IsPosted, Letter}
use Rattle.quorum_network.proofs.Named.{named}
use Rattle.quorum_network.proofs.Names.{AllMay, Client, Leadership, Monitor, Network, Peer, Posted, Step, acknowledged_at, acknowledgements, after_step, asked_by, first_network, leaderships, led_at, network, number_of, pieces_of, requests}
use Rattle.quorum_network.proofs.Senders.{running_own, started_own}
use Rattle.quorum_network.proofs.Steps.{step_next}
use Rattle.quorum_network.specs.Running.{DoesARun, IsOfRun, IsSentInRun}
use Rattle.std.proofs.Common.{List, Option, [], ap, arith, map, refl, subst, suc, sym, ℕ, ◌++◌, ◌∙◌, ◌∷◌, ◌≡◌, ◌≤◌}
use Rattle.std.proofs.lemmas.List.{append-nil}

pub record Stands (A : Assembly) (ms : Monitors) (asks : List Asked) (acks : List Acknowledgement) (leads : List Leadership) (net : Network) : Type 0 where
  pub w : World
  pub reach : Reached ms w
  pub inv : Inv A ms net w
  pub asked : w.asked ≡ asks
  pub given_are : map given w.acknowledged ≡ acks
  pub numbered : AllByRecursion (IsBy w.events) w.acknowledged
  pub dated : AllByRecursion (IsRepliedBy w.events) w.replied
  pub active : w.active ≡ map noted_as leads

all_there : {X : Type 0} (xs : List X) → AllByRecursion (λ x. Contains xs x) xs
all_there xs = all_self (λ x. Contains xs x) xs (λ x c. c)

-- what the run asks came to processes
pub asked_among : (asks asked : List Asked) → asked ≡ asks → AllByRecursion (λ a. Contains asks a) asked
asked_among asks asked is = subst (λ (xs : List Asked). AllByRecursion (λ a. Contains asks a) xs) (sym is) (all_there asks)

-- what was acknowledged before, and what is acknowledged now
pub given_more : (xs ys : List Acknowledged) → map given (xs ++ ys) ≡ map given xs ++ map given ys
given_more [] ys = refl
given_more (x ∷ xs) ys = ap (λ (zs : List Acknowledgement). given x ∷ zs) (given_more xs ys)

noted_more : (xs ys : List Leadership) → map noted_as (xs ++ ys) ≡ map noted_as xs ++ map noted_as ys
noted_more [] ys = refl
noted_more (x ∷ xs) ys = ap (λ (zs : List (ℕ × ℕ)). noted_as x ∷ zs) (noted_more xs ys)

by_later : (e f : ℕ) → e ≤ f → (a : Acknowledged) → IsBy e a → IsBy f a
by_later e f le a h = omega (arith, le, h)

replied_later : (e f : ℕ) → e ≤ f → (r : Replied) → IsRepliedBy e r → IsRepliedBy f r
replied_later e f le r h = omega (arith, le, h)

module _ (A : Assembly) (ms : Monitors) (olds more : List Asked) (acks added : List Acknowledgement) (leads led : List Leadership) (before : List Posted) (old net : Network) (S : Stands A ms olds acks leads old) where
  module _ (v : World) (ds : List Posted) (D : Adds ms.count more added led ds S.w v) where
    pub given_now : map given v.acknowledged ≡ acks ++ added
    given_now =
        ap (λ (xs : List Acknowledged). map given xs) D.acknowledged ∙ given_more S.w.acknowledged D.new
        ∙ ap (λ (xs : List Acknowledgement). xs ++ map given D.new) S.given_are ∙ ap (λ (xs : List Acknowledgement). acks ++ xs) D.given_are

    pub numbered_now : AllByRecursion (IsBy v.events) v.acknowledged
    numbered_now =
        subst (λ (e : ℕ). AllByRecursion (IsBy e) v.acknowledged) (sym D.events)
        (subst (AllByRecursion (IsBy (suc S.w.events))) (sym D.acknowledged)
        (all_append (IsBy (suc S.w.events)) S.w.acknowledged D.new (all_through (IsBy S.w.events) (IsBy (suc S.w.events)) (by_later S.w.events (suc S.w.events) (omega arith)) S.w.acknowledged S.numbered)
        (all_through (IsAt (suc S.w.events)) (IsBy (suc S.w.events)) (λ a at. omega (arith, at)) D.new D.numbered)))

    pub dated_now : AllByRecursion (IsRepliedBy v.events) v.replied
    dated_now =
        subst (λ (e : ℕ). AllByRecursion (IsRepliedBy e) v.replied) (sym D.events)
        (subst (AllByRecursion (IsRepliedBy (suc S.w.events))) (sym D.replied)
        (all_append (IsRepliedBy (suc S.w.events)) S.w.replied D.replies (all_through (IsRepliedBy S.w.events) (IsRepliedBy (suc S.w.events)) (replied_later S.w.events (suc S.w.events) (omega arith)) S.w.replied S.dated)
        (all_through (IsRepliedAt (suc S.w.events)) (IsRepliedBy (suc S.w.events)) (λ r at. omega (arith, at)) D.replies D.answered)))

    pub active_now : v.active ≡ map noted_as (leads ++ led)
    active_now = D.active ∙ ap (λ (xs : List (ℕ × ℕ)). xs ++ map noted_as led) S.active ∙ sym (noted_more leads led)

  unfoldable pub stands_next : {act : Option Act} → Next A ms more added led act before S.inv.ls net S.w → Stands A ms (olds ++ more) (acks ++ added) (leads ++ led) net
  stands_next (Still sent unasked none nobody idle I same) = record {
    w = S.w;
    reach = S.reach;
    inv = I;
    asked = S.asked ∙ sym (append-nil olds) ∙ ap (λ (xs : List Asked). olds ++ xs) (sym unasked);
    given_are = S.given_are ∙ sym (append-nil acks) ∙ ap (λ (xs : List Acknowledgement). acks ++ xs) (sym none);
    numbered = S.numbered;
    dated = S.dated;
    active = S.active ∙ ap (map noted_as) (sym (append-nil leads) ∙ ap (λ (xs : List Leadership). leads ++ xs) (sym nobody));
  }
  stands_next (Moved M) = record {
    w = M.world;
    reach = reached_next ms S.w M.world M.event M.fits M.next S.reach;
    inv = M.inv;
    asked = M.adds.asked ∙ ap (λ (xs : List Asked). xs ++ more) S.asked;
    given_are = given_now M.world M.sent M.adds;
    numbered = numbered_now M.world M.sent M.adds;
    dated = dated_now M.world M.sent M.adds;
    active = active_now M.world M.sent M.adds;
  }

unfoldable pub stands_first : (A : Assembly) (ms : Monitors) → Stands A ms [] [] [] first_network
stands_first A ms = record {
  w = first_world;
  reach = reached_first ms;
  inv = record {
    ls = [];
    mine = λ j lt. record { map = refl; up = tt };
    posted = tt;
    letters = record { cut = λ l c. absurd (omega (arith, c.1)); numbered = λ l k c d. absurd (omega (arith, c.1)) };
    said = λ l c. absurd (omega (arith, c.1));
    known = λ l c. absurd (omega (arith, c.1));
    alive = λ j lt. tt;
    numbers = λ j. omega arith;
  };
  asked = refl;
  given_are = refl;
  numbered = tt;
  dated = tt;
  active = refl;
}

unfoldable pub stands : (A : Assembly) (ms : Monitors) → Facts ms → (steps : List Step) → AllMay ms steps → Stands A ms (requests ms steps) (acknowledgements ms steps) (leaderships ms steps) (network ms steps)
unfolding network AllMay requests acknowledgements leaderships
stands A ms F [] may = stands_first A ms
stands A ms F (s ∷ earlier) may =
    let old : Network = network ms earlier in
    let S = stands A ms F earlier may.0 in
    stands_next A ms (requests ms earlier) (asked_by old s (me_of ms s.rank)) (acknowledgements ms earlier) (acknowledged_at old s (me_of ms s.rank)) (leaderships ms earlier) (led_at old s (me_of ms s.rank)) old.sent old (after_step ms old s) S (step_next A ms F old S.w S.reach S.inv s may.1)

-- ---- what follows for a network

told_by : (count : ℕ) (w : World) (l : Letter) (by : ℕ) (to : Peer) (bytes : List ℕ) → Says count l.by w.messages w.replied to l.bytes → l.by ≡ by → Contains (pieces_of l.bytes l.boot l.seq) bytes
    → IsSentInRun count w by to bytes
told_by count w l by (Monitor j) bytes (m, c, has, from, e) own piece = (m, c, from ∙ own, (l.boot, l.seq, subst (λ (x : List ℕ). Contains (pieces_of x l.boot l.seq) bytes) e piece))
told_by count w l by (Client j) bytes (r, c, has, rank, to, e) own piece = (r, c, rank ∙ own, to, (l.boot, l.seq, subst (λ (x : List ℕ). Contains (pieces_of x l.boot l.seq) bytes) e piece))

all_told : (count : ℕ) (w : World) (ls : List Letter) (ds : List Posted) → ((l : Letter) → Contains ls l → Says count l.by w.messages w.replied l.to l.bytes) → AllByRecursion (IsPosted ls) ds
    → AllByRecursion (λ (d : Posted). IsSentInRun count w d.by d.datagram.to d.datagram.bytes) ds
all_told count w ls [] said h = tt
all_told count w ls (d ∷ ds) said h =
    let l = h.0.0 in (
      told_by count w l d.by d.datagram.to d.datagram.bytes (subst (λ (to : Peer). Says count l.by w.messages w.replied to l.bytes) h.0.3 (said l h.0.1)) h.0.2 h.0.4,
      all_told count w ls ds said h.1,
    )

pub of_run : (A : Assembly) (ms : Monitors) (net : Network) (w : World) → Inv A ms net w → IsOfRun ms net w
of_run A ms net w I = record {
  maps = λ i lt. (I.mine i lt).map;
  states = λ i s lt e. (subst (IfUp A ms I.ls (number_of net.lives i) i (w.state i)) e (I.mine i lt).up).state;
  sent_in_run = all_told ms.count w I.ls net.sent I.said I.posted;
}

pub facts : (ms : Monitors) → Facts ms
facts ms = record {
  started_own = λ w i at me r R e. started_own ms w R i at me r e;
  own = λ w p i at came me s r R F there up other e. running_own ms w R me i at came p s r F there up other e;
  named = named ms;
}

pub network_runs : (ms : Monitors) (steps : List Step) → AllMay ms steps → DoesARun ms (requests ms steps) (network ms steps)
network_runs ms steps may =
    let S = stands assembly ms (facts ms) steps may in
    let R = S.reach in
    let is = world_is ms S.w R in
    record {
      events = R.events;
      fit = R.fit;
      of_run = subst (IsOfRun ms (network ms steps)) (sym is) (of_run assembly ms (network ms steps) S.w S.inv);
      asked = ap (λ (w : World). w.asked) is ∙ S.asked;
      safe = safe ms R.events R.fit;
    }
