-- A process of a network does what its own steps make it do, and these are the iterations that `serve` makes.
use Rattle.law_names.proofs.Runs.{Monitors, me_of}
use Rattle.law_names.proofs.Table.{Me, Stop, Timer, due}
use Rattle.mon_bytes.specs.Answers.{◌>>=◌}
use Rattle.mon_link.specs.Histories.Happened.{Received, WasSent}
use Rattle.mon_node.proofs.Talking.{last_of}
use Rattle.mon_node.specs.Iterations.{last_iteration, served}
use Rattle.mon_node.specs.Posting.{and_sent}
use Rattle.mon_node.specs.Sends.{AreSent, Send, call_of, outgoing_of}
use Rattle.mon_node.specs.Talking.{AllSent, AllSentBefore, asked_after, asked_by, happened}
use Rattle.mon_types.specs.declared.names.Stop.TheVariants as stop
use Rattle.quorum_network.proofs.Ends.{ended_link, up_is}
use Rattle.quorum_network.proofs.Names.{Alone, Begins, Closed, Datagram, Doing, Given, Got, Happened, Has, Idle, Iterates, Iteration, Network, NodeEnd, Observed, Outgoing, Outside, Posted, Process, Readings, Serving, Step, StepOutcome, StoreView, Until, Up, Whole, after_step, alone, answer_arrived, clock_read, due_by, ended_iteration, entered, heard_by, if_made, iteration, iteration_of, life, link_asked, lives_then, made_by, network, newest, next_leaves, number_of, outcome_of, own, posted, sends_of, sent, start, under, unstarted, wait_until, with_outcome}
use Rattle.quorum_network.specs.Lives.{IsSent, outcome_at, sent_in, sent_of}
use Rattle.std.proofs.Common.{Bool, Err, List, None, Ok, Option, Result, Some, [], ap, append_assoc, arith, cond, eqb, false, map, option_map, refl, subst, sym, true, ℕ, ◌++◌, ◌∙◌, ◌∷◌, ◌≡◌}
use Rattle.std.proofs.lemmas.Bool.Decides.{nat_tests}
use Rattle.std.proofs.lemmas.Bool.{eq-eqb, eqb-true}
use Rattle.std.proofs.lemmas.List.{append-nil, map-append}

-- ---- one of several

sent_more : (i : ℕ) (xs ys : List Posted) → sent_of i (xs ++ ys) ≡ sent_of i xs ++ sent_of i ys
sent_more i [] ys = refl
sent_more i (x ∷ xs) ys = by (eqb x.by i) (sent_more i xs ys)
  where
    by : (b : Bool) → sent_of i (xs ++ ys) ≡ sent_of i xs ++ sent_of i ys
        → cond b (x.datagram ∷ sent_of i (xs ++ ys)) (sent_of i (xs ++ ys)) ≡ cond b (x.datagram ∷ sent_of i xs) (sent_of i xs) ++ sent_of i ys
    by true e = ap (λ (zs : List Outgoing). x.datagram ∷ zs) e
    by false e = e

own_sent : (i j : ℕ) → eqb j i ≡ true → (ds : List Outgoing) → sent_of i (map (posted j) ds) ≡ ds
own_sent i j e [] = refl
own_sent i j e (d ∷ ds) = ap (λ (b : Bool). sent_by b) e ∙ ap (λ (zs : List Outgoing). d ∷ zs) (own_sent i j e ds)
  where
    sent_by : Bool → List Outgoing
    sent_by b = cond b (d ∷ sent_of i (map (posted j) ds)) (sent_of i (map (posted j) ds))

other_sent : (i j : ℕ) → eqb j i ≡ false → (ds : List Outgoing) → sent_of i (map (posted j) ds) ≡ []
other_sent i j e [] = refl
other_sent i j e (d ∷ ds) = ap (λ (b : Bool). sent_by b) e ∙ other_sent i j e ds
  where
    sent_by : Bool → List Outgoing
    sent_by b = cond b (d ∷ sent_of i (map (posted j) ds)) (sent_of i (map (posted j) ds))

turned_round : (i j : ℕ) → eqb j i ≡ false → eqb i j ≡ false
turned_round i j e = grind (arith, nat_tests)

-- the process, the lives and the datagrams of monitor i in a network
abbrev pub of_rank : ℕ → Network → Alone
of_rank i net = record { process = net.process i; lives = net.lives i; sends = sent_of i net.sent }

-- what a step of monitor j leaves of monitor i, if they are the same and if they aren't
own_outcome : (i : ℕ) (net : Network) (j : ℕ) (l : StepOutcome) → j ≡ i
    → of_rank i (with_outcome net j l) ≡ record { process = l.process; lives = net.lives i; sends = sent_of i net.sent ++ map (under (number_of net.lives i)) l.sends }
own_outcome i net j l e =
    let out : List Outgoing = map (under (number_of net.lives j)) l.sends in
    let process : cond (eqb i j) l.process (net.process i) ≡ l.process = ap (λ (b : Bool). cond b l.process (net.process i)) (eq-eqb i j (sym e)) in
    let sends : sent_of i (net.sent ++ map (posted j) out) ≡ sent_of i net.sent ++ map (under (number_of net.lives i)) l.sends =
    sent_more i net.sent (map (posted j) out) ∙ ap (λ (xs : List Outgoing). sent_of i net.sent ++ xs) (own_sent i j (eq-eqb j i e) out)
    ∙ ap (λ (k : ℕ). sent_of i net.sent ++ map (under (number_of net.lives k)) l.sends) e in
    λ k. record { process = process k; lives = net.lives i; sends = sends k }

other_outcome : (i : ℕ) (net : Network) (j : ℕ) (l : StepOutcome) → eqb j i ≡ false → of_rank i (with_outcome net j l) ≡ of_rank i net
other_outcome i net j l e =
    let out : List Outgoing = map (under (number_of net.lives j)) l.sends in
    let process : cond (eqb i j) l.process (net.process i) ≡ net.process i = ap (λ (b : Bool). cond b l.process (net.process i)) (turned_round i j e) in
    let sends : sent_of i (net.sent ++ map (posted j) out) ≡ sent_of i net.sent =
    sent_more i net.sent (map (posted j) out) ∙ ap (λ (xs : List Outgoing). sent_of i net.sent ++ xs) (other_sent i j e out) ∙ append-nil (sent_of i net.sent) in
    λ k. record { process = process k; lives = net.lives i; sends = sends k }

-- the same of the numbers of its lives
own_entered : (i : ℕ) (net : Network) (j : ℕ) (doing : Doing) → j ≡ i → of_rank i (entered net j doing) ≡ record (of_rank i net) { lives = lives_then doing (net.lives i) }
own_entered i net j (Begins number store_view clock link first) e =
    let lives : cond (eqb i j) (number ∷ net.lives j) (net.lives i) ≡ number ∷ net.lives i =
    ap (λ (b : Bool). cond b (number ∷ net.lives j) (net.lives i)) (eq-eqb i j (sym e)) ∙ ap (λ (k : ℕ). number ∷ net.lives k) e in
    λ k. record { process = net.process i; lives = lives k; sends = sent_of i net.sent }
own_entered i net j (Iterates g) e = refl

other_entered : (i : ℕ) (net : Network) (j : ℕ) (doing : Doing) → eqb j i ≡ false → of_rank i (entered net j doing) ≡ of_rank i net
other_entered i net j (Begins number store_view clock link first) e =
    let lives : cond (eqb i j) (number ∷ net.lives j) (net.lives i) ≡ net.lives i = ap (λ (b : Bool). cond b (number ∷ net.lives j) (net.lives i)) (turned_round i j e) in
    λ k. record { process = net.process i; lives = lives k; sends = sent_of i net.sent }
other_entered i net j (Iterates g) e = refl

pub other_rank : (ms : Monitors) (i : ℕ) (net : Network) (s : Step) → eqb s.rank i ≡ false → of_rank i (after_step ms net s) ≡ of_rank i net
other_rank ms i net s e = by (me_of ms s.rank)
  where
    made : (m : Me) (t : Option Iteration) → of_rank i (if_made m net s t) ≡ of_rank i net
    made m None = refl
    made m (Some t) = other_outcome i (entered net s.rank s.doing) s.rank (outcome_of m t s.up_to) e ∙ other_entered i net s.rank s.doing e

    by : (x : Option Me) → of_rank i (made_by net s x) ≡ of_rank i net
    by None = refl
    by (Some m) = made m (iteration_of m (net.process s.rank) s.doing)

module _ (ms : Monitors) (i : ℕ) (me : Me) (is : me_of ms i ≡ Some me) where
  same_rank : (net : Network) (s : Step) → s.rank ≡ i → of_rank i (after_step ms net s) ≡ outcome_at me s (of_rank i net) (iteration_of me (net.process i) s.doing)
  same_rank net s e =
      ap (λ (x : Option Me). of_rank i (made_by net s x)) (ap (me_of ms) e ∙ is)
      ∙ (ap (λ (k : ℕ). of_rank i (if_made me net s (iteration_of me (net.process k) s.doing))) e ∙ by (iteration_of me (net.process i) s.doing))
    where
      leaves : StepOutcome → Alone → Alone
      leaves l a = record { process = l.process; lives = a.lives; sends = a.sends ++ map (under (newest a.lives)) l.sends }

      by : (t : Option Iteration) → of_rank i (if_made me net s t) ≡ outcome_at me s (of_rank i net) t
      by None = refl
      by (Some t) =
          let l : StepOutcome = outcome_of me t s.up_to in
          own_outcome i (entered net s.rank s.doing) s.rank l e ∙ ap (leaves l) (own_entered i net s.rank s.doing e)

  pub rank_alone : (steps : List Step) → of_rank i (network ms steps) ≡ alone me (own i steps)
  unfolding network alone
  rank_alone [] = refl
  rank_alone (s ∷ earlier) = by (eqb s.rank i) refl (rank_alone earlier)
    where
      by : (b : Bool) → eqb s.rank i ≡ b → of_rank i (network ms earlier) ≡ alone me (own i earlier) → of_rank i (after_step ms (network ms earlier) s) ≡ alone me (cond b (s ∷ own i earlier) (own i earlier))
      by true e ih = same_rank (network ms earlier) s (eqb-true s.rank i e) ∙ ap (λ (a : Alone). outcome_at me s a (iteration_of me a.process s.doing)) ih
      by false e ih = other_rank ms i (network ms earlier) s e ∙ ih

  pub process_alone : (steps : List Step) → (network ms steps).process i ≡ (alone me (own i steps)).process
  process_alone steps = ap (λ (a : Alone). a.process) (rank_alone steps)

  pub lives_alone : (steps : List Step) → (network ms steps).lives i ≡ (alone me (own i steps)).lives
  lives_alone steps = ap (λ (a : Alone). a.lives) (rank_alone steps)

  pub sends_alone : (steps : List Step) → sent_of i (network ms steps).sent ≡ (alone me (own i steps)).sends
  sends_alone steps = ap (λ (a : Alone). a.sends) (rank_alone steps)

-- ---- what a link was asked to send

pub sent_nothing : (link : Option Observed) → IsSent [] link link
sent_nothing None = refl
sent_nothing (Some t) = ap (λ (xs : List Outgoing). Some xs) (sym (append-nil t.sent))

pub sent_now : (ds : List Outgoing) (old new : Option Observed) → new ≡ option_map (and_sent ds) old → IsSent ds old new
sent_now ds None new e = ap sent_in e
sent_now ds (Some t) new e = ap sent_in e

pub sent_both : (ds es : List Outgoing) (a b c : Option Observed) → IsSent ds a b → IsSent es b c → IsSent (ds ++ es) a c
sent_both ds es a b c first then_ = then_ ∙ ap (option_map (λ (sent : List Outgoing). sent ++ es)) first ∙ by a
  where
    by : (x : Option Observed) → option_map (λ (sent : List Outgoing). sent ++ es) (option_map (λ (sent : List Outgoing). sent ++ ds) (sent_in x)) ≡ option_map (λ (sent : List Outgoing). sent ++ (ds ++ es)) (sent_in x)
    by None = refl
    by (Some t) = ap (λ (xs : List Outgoing). Some xs) (append_assoc t.sent ds es)

-- hearing sends nothing
left_sent : (wait : ℕ) (answer : Result Got Stop) (link : Option Observed) → sent_in (option_map (next_leaves wait answer) link) ≡ sent_in link
left_sent wait answer None = refl
left_sent wait (Ok got) (Some t) = refl
left_sent wait (Err stop.Failed) (Some t) = refl
left_sent wait (Err stop.OutOfMemory) (Some t) = refl

came_sent : (n later : ℕ) (answer : Result Got Stop) (o : Outside) → sent_in (answer_arrived n later answer o).outside.link ≡ sent_in o.link
came_sent n later (Ok (Datagram from bytes)) o = refl
came_sent n later (Ok Idle) o = refl
came_sent n later (Ok Closed) o = refl
came_sent n later (Err stop.Failed) o = refl
came_sent n later (Err stop.OutOfMemory) o = refl

heard_sent : (t : Option Timer) (n wait : ℕ) (g : Given) (o : Outside) → sent_in (heard_by t n wait g o).outside.link ≡ sent_in o.link
heard_sent (Some t) n wait g o = refl
heard_sent None n wait g o = came_sent n g.later g.answer (link_asked wait g.answer o) ∙ left_sent wait g.answer o.link

iteration_sent : (me : Me) (g : Given) (s : Serving) → sent_in (iteration me g s).serving.outside.link ≡ sent_in s.outside.link
unfolding iteration
iteration_sent me g s =
    let next = due s.node.state.timers in
    heard_sent (due_by g.began next) me.member.monitors (wait_until g.began next) g (clock_read s.outside)

-- ---- what happened on a link

sent_then : (h k : List Happened) → sent (h ++ k) ≡ sent h ++ sent k
sent_then [] k = refl
sent_then (Received wait answer ∷ h) k = sent_then h k
sent_then (WasSent to bytes answer ∷ h) k = ap (λ (ds : List Outgoing). record { to = to; bytes = bytes } ∷ ds) (sent_then h k)

sent_calls : (sends : List Send) → sent (map call_of sends) ≡ outgoing_of sends
sent_calls [] = refl
sent_calls (s ∷ sends) = ap (λ (ds : List Outgoing). s.datagram ∷ ds) (sent_calls sends)

-- what an iteration asks for is no datagram
asked_alone : (r : Result Serving NodeEnd) (g : Given) → sent (asked_after r g) ≡ []
asked_alone (Ok s) g = by (due_by g.began (due s.node.state.timers))
  where
    by : (t : Option Timer) → sent (asked_by t (wait_until g.began (due s.node.state.timers)) g.answer) ≡ []
    by (Some t) = refl
    by None = refl
asked_alone (Err e) g = refl

-- the iterations of a node that began so send these before the last one
pub record SaysBefore (me : Me) (first : ℕ) (s : Serving) (given : List Given) (before : List Outgoing) : Type 0 where
  pub says : (others : List (List Send)) (last : List Send) → AllSentBefore me first s given others → sent (happened me first s given (last ∷ others)) ≡ before ++ outgoing_of last

says_first : (me : Me) (first : ℕ) (s : Serving) → SaysBefore me first s [] []
says_first me first s = record { says = λ others last none. sent_calls last }

says_next : (me : Me) (first : ℕ) (s : Serving) (given : List Given) (g : Given) (t : Iteration) (before : List Outgoing) → last_iteration me first s given ≡ Ok t → SaysBefore me first s given before
    → SaysBefore me first s (g ∷ given) (before ++ sends_of me t)
says_next me first s given g t before is so_far = record { says = by }
  where
    all_of : (others : List (List Send)) → AllSent me first s given others → sent (happened me first s given others) ≡ before ++ sends_of me t
    all_of others all =
        let l = last_of me first s given others all in
        let these : AreSent (sends_of me t) l.last = subst (λ (r : Result Iteration NodeEnd). Has r (λ u. AreSent (sends_of me u) l.last)) is l.last_sent in
        ap (λ (xs : List (List Send)). sent (happened me first s given xs)) l.is ∙ so_far.says l.others l.last l.others_sent ∙ ap (λ (ds : List Outgoing). before ++ ds) these.all

    by : (others : List (List Send)) (last : List Send) → AllSent me first s given others → sent (happened me first s (g ∷ given) (last ∷ others)) ≡ (before ++ sends_of me t) ++ outgoing_of last
    by others last all =
        let asks = asked_after (served me first s given) g in
        sent_then (happened me first s given others) (asks ++ map call_of last)
        ∙ (λ j. all_of others all j ++ sent_then asks (map call_of last) j)
        ∙ (λ j. (before ++ sends_of me t) ++ (asked_alone (served me first s given) g j ++ sent_calls last j))

-- ---- the iterations of `serve`

module _ (i : ℕ) (me : Me) (number : ℕ) (store_view : StoreView) (clock : Option Readings) (link : Option Observed) (first : ℕ) (earlier : List Step) where
  abbrev begun : Serving
  begun = unstarted me.member.rank store_view clock link

  abbrev lived : List Given → Until → Alone
  lived given u = alone me (life i number store_view clock link first given u earlier)

  -- a life whose last iteration is this one
  pub record LastIs (given : List Given) (u : Until) (t : Iteration) : Type 0 where
    pub process : (lived given u).process ≡ (outcome_of me t u).process
    pub number_is : newest (lived given u).lives ≡ number
    pub before : List Outgoing
    pub sends : (lived given u).sends ≡ (alone me earlier).sends ++ map (under number) (before ++ (outcome_of me t u).sends)
    pub observed : IsSent before link t.serving.outside.link
    pub says : SaysBefore me first begun given before

  iteration_behind : (r : Result Serving NodeEnd) (g : Given) (t : Iteration) → (r >>= λ now. Ok (iteration me g now)) ≡ Ok t → (now : Serving) × (r ≡ Ok now) × (iteration me g now ≡ t)
  iteration_behind (Ok now) g t e = (now, refl, cc)
  iteration_behind (Err x) g t e = absurd cc

  ended_behind : (r : Result Iteration NodeEnd) (now : Serving) → (r >>= ended_iteration me) ≡ Ok now → (t : Iteration) × (r ≡ Ok t) × (ended_iteration me t ≡ Ok now)
  ended_behind (Ok t) now e = (t, refl, e)
  ended_behind (Err x) now e = absurd cc

  started : (u : Until) → LastIs [] u (start first begun)
  unfolding alone
  started u = record { process = refl; number_is = refl; before = []; sends = refl; observed = sent_nothing link; says = says_first me first begun }

  -- one more iteration
  next_iteration : (given : List Given) (g : Given) (u : Until) (t : Iteration) (now : Serving) → last_iteration me first begun given ≡ Ok t → ended_iteration me t ≡ Ok now → LastIs given Whole t → LastIs (g ∷ given) u (iteration me g now)
  unfolding alone
  next_iteration given g u t now is e L =
      let whole = up_is me t now e in
      let up : (lived given Whole).process ≡ Up now = L.process ∙ ap (λ (l : StepOutcome). l.process) whole in
      let all : (lived given Whole).sends ≡ (alone me earlier).sends ++ map (under number) (L.before ++ (outcome_of me t Whole).sends) = L.sends in
      let last : List Outgoing = (outcome_of me (iteration me g now) u).sends in
      let before : List Outgoing = L.before ++ (outcome_of me t Whole).sends in
      let step : lived (g ∷ given) u
      ≡ record { process = (outcome_of me (iteration me g now) u).process; lives = (lived given Whole).lives; sends = (lived given Whole).sends ++ map (under (newest (lived given Whole).lives)) last } =
      ap (λ (p : Process). outcome_at me (record { rank = i; doing = Iterates g; up_to = u }) (lived given Whole) (iteration_of me p (Iterates g))) up in
      record {
        process = ap (λ (a : Alone). a.process) step;
        number_is = ap (λ (a : Alone). newest a.lives) step ∙ L.number_is;
        before = before;
        sends = ap (λ (a : Alone). a.sends) step
            ∙ ap (λ (n : ℕ). (lived given Whole).sends ++ map (under n) last) L.number_is
            ∙ ap (λ (xs : List Outgoing). xs ++ map (under number) last) all
            ∙ append_assoc (alone me earlier).sends (map (under number) before) (map (under number) last)
            ∙ ap (λ (xs : List Outgoing). (alone me earlier).sends ++ xs) (sym (map-append (under number) before last));
        observed = sent_both L.before (outcome_of me t Whole).sends link t.serving.outside.link (iteration me g now).serving.outside.link L.observed
            (iteration_sent me g now ∙ sent_now (outcome_of me t Whole).sends t.serving.outside.link now.outside.link
            (ended_link me t now e ∙ ap (λ (l : StepOutcome). option_map (and_sent l.sends) t.serving.outside.link) (sym whole)));
        says = subst (λ (ds : List Outgoing). SaysBefore me first begun (g ∷ given) (L.before ++ ds)) (ap (λ (l : StepOutcome). l.sends) (sym whole)) (says_next me first begun given g t L.before is L.says);
      }

  pub last_is : (given : List Given) (u : Until) (t : Iteration) → last_iteration me first begun given ≡ Ok t → LastIs given u t
  last_is [] u t e = let same : start first begun ≡ t = cc in subst (LastIs [] u) same (started u)
  last_is (g ∷ given) u t e =
      let b = iteration_behind (last_iteration me first begun given >>= ended_iteration me) g t e in
      let c = ended_behind (last_iteration me first begun given) b.0 b.1 in
      subst (LastIs (g ∷ given) u) b.2 (next_iteration given g u c.0 b.0 c.1 c.2 (last_is given Whole c.0 c.1))
