-- Steps of processes that send no long message, by what the core does.
use Rattle.law_names.proofs.Runs.{Monitors, epoch, me_of, most_size, size_of}
use Rattle.law_names.proofs.Table.{AllByRecursion, HasText, Input, Me, Message, MsgRefused, Reaction, Readings, Sent, State, Store, Timer, any_reaction, apply, due, react, reaction, readings_of, shared_entries}
use Rattle.mon_bounds.specs.Fitting.{answer_in as reply_in}
use Rattle.mon_decode.proofs.WholeLaws.{message_again}
use Rattle.mon_frag.proofs.Standing.{short_taken}
use Rattle.mon_frag.specs.Keeping.{Outcome}
use Rattle.mon_frag.specs.Whole as frag
use Rattle.mon_msg.specs.declared.input.Input.TheVariants as input
use Rattle.mon_msg.specs.declared.plan.Sent.TheVariants as sent
use Rattle.mon_node.proofs.Sending.{all_numbered}
use Rattle.mon_node.specs.declared.end.NodeEnd.TheVariants as end
use Rattle.mon_types.specs.declared.names.Which.TheVariants as which
use Rattle.mon_wire.specs.Message.Whole.{text}
use Rattle.quorum_network.proofs.Ends.{up_is}
use Rattle.quorum_network.proofs.Names.{Client, Datagram, Doing, Down, Given, Heard, Idle, Iterates, Iteration, Kept, Monitor, Network, Outgoing, Posted, Process, Serving, StepOutcome, StoreView, TimedInput, Until, Up, Whole, after_step, answer_in, at_time, boot_in, datagrams, down, due_by, ended_iteration, entered, heard_by, if_made, input_in, input_read, is_request, iteration, iteration_of, kept, kept_in, letters, made_by, map_after, next_after, next_after_message, number_of, numbered_by, of_input, outcome_of, pieces_of, posted, reacted, sends_of, to_peer, under, wait_until, with_outcome}
use Rattle.quorum_network.proofs.Played.{comes, idle}
use Rattle.quorum_network.proofs.Steps.{kept_kv}
use Rattle.std.proofs.Common.{Bool, Err, List, None, Ok, Option, Result, Some, [], ap, arith, cond, eqb, false, leb, length, map, nat_lt, not, option_map, refl, subst, sym, take, true, ℕ, ◌&&◌, ◌++◌, ◌+◌, ◌^◌, ◌∙◌, ◌∷◌, ◌≡◌, ◌≤◌}
use Rattle.std.proofs.lemmas.Bool.{eq-eqb, le-leb, le-ltb}

-- ---- short letters

abbrev pub IsShort : Outgoing → Type 0
IsShort o = length o.bytes ≤ 60000

short_behind : (next : ℕ) (o : Outgoing) → IsShort o → next_after_message next (length o.bytes) ≡ next
short_behind next o short = ap (λ (b : Bool). cond b (next + 1) next) (le-ltb 60000 (length o.bytes) short)

short_next : (next : ℕ) (os : List Outgoing) → AllByRecursion IsShort os → next_after next os ≡ next
short_next next [] h = refl
short_next next (o ∷ os) h = ap (λ (n : ℕ). next_after n os) (short_behind next o h.0) ∙ short_next next os h.1

short_pieces : (boot next : ℕ) (o : Outgoing) → IsShort o → pieces_of o.bytes boot next ≡ o.bytes ∷ []
short_pieces boot next o short = by (leb (length o.bytes) 60000) (le-leb (length o.bytes) 60000 short) _
  where
    by : (b : Bool) → b ≡ true → (pieces : List (List ℕ)) → cond b (o.bytes ∷ []) pieces ≡ o.bytes ∷ []
    by true e pieces = refl
    by false e pieces = absurd cc

short_datagrams : (boot next : ℕ) (os : List Outgoing) → AllByRecursion IsShort os → datagrams boot next os ≡ os
short_datagrams boot next [] h = refl
short_datagrams boot next (o ∷ os) h =
    ap (λ (pieces : List (List ℕ)). map (to_peer o.to) pieces ++ datagrams boot (next_after_message next (length o.bytes)) os) (short_pieces boot next o h.0)
    ∙ ap (λ (n : ℕ). o ∷ datagrams boot n os) (short_behind next o h.0)
    ∙ ap (λ (xs : List Outgoing). o ∷ xs) (short_datagrams boot next os h.1)

-- they are sent whole, with no number
under_letters : (number : ℕ) (me : Me) (m : Store) (sends : List Sent) → map (under number) (letters me m sends) ≡ letters me m sends
under_letters number me m [] = refl
under_letters number me m (sent.Message to x ∷ sends) = ap (λ (os : List Outgoing). to_peer (Monitor to) (text x) ∷ os) (under_letters number me m sends)
under_letters number me m (sent.Reply to r ∷ sends) = ap (λ (os : List Outgoing). to_peer (Client to.client) (text (reply_in me (epoch m) to r)) ∷ os) (under_letters number me m sends)

-- ---- a process that joins nothing

abbrev pub serving_with : StoreView → State → Serving
serving_with store_view st = record {
  node = record { state = st; store = store_view; next = 1 };
  outside = record { parts = []; clock = None; link = None };
}

abbrev pub outcome_as : Process → List Outgoing → StepOutcome
outcome_as p ds = record { process = p; sends = ds }

-- process i is up, keeps this map and remembers this state
pub record Sits (net : Network) (i : ℕ) (kv : Store) (st : State) : Type 0 where
  pub store_view : StoreView
  pub map : store_view.kv ≡ kv
  pub up : net.process i ≡ Up (serving_with store_view st)

-- process i takes a step and sends these datagrams; the others stay as they were
pub record Goes (net next : Network) (i : ℕ) (kv : Store) (st : State) (sent : List Posted) : Type 0 where
  pub sits : Sits next i kv st
  pub others : (j : ℕ) → eqb j i ≡ false → next.process j ≡ net.process j
  pub wire : next.sent ≡ net.sent ++ sent

pub stays : (net next : Network) (i j : ℕ) (kv other : Store) (st mine : State) (sent : List Posted) → Goes net next i other mine sent → eqb j i ≡ false → Sits net j kv st → Sits next j kv st
stays net next i j kv other st mine sent G e S = record { store_view = S.store_view; map = S.map; up = G.others j e ∙ S.up }

abbrev pub IsSmall : Store → Type 0
IsSmall m = nat_lt most_size (size_of m) ≡ false

module _ (ms : Monitors) (i : ℕ) (me : Me) (is : me_of ms i ≡ Some me) where
  -- an iteration with this input, at which the core reacts so
  module _ (store_view : StoreView) (st : State) (it : TimedInput) (r : Reaction) (reacts : reaction me it.at store_view.kv st it.input ≡ Ok r) (small : IsSmall (apply r.transaction store_view.kv))
      (short : AllByRecursion IsShort (letters me (apply r.transaction store_view.kv) r.sends)) where
    abbrev s : Serving
    s = serving_with store_view st

    abbrev t : Iteration
    t = record { came = Ok (Some it); serving = s }

    abbrev outs : List Outgoing
    outs = letters me (apply r.transaction store_view.kv) r.sends

    abbrev now : ℕ → Serving
    now n = record { node = record { state = r.state; store = kept r.transaction store_view; next = n }; outside = record { parts = []; clock = None; link = None } }

    few : nat_lt (2 ^ 62 + 1) (next_after 1 outs) ≡ false
    few = ap (λ (n : ℕ). nat_lt (2 ^ 62 + 1) n) (short_next 1 outs short)

    ended : ended_iteration me t ≡ Ok (now 1)
    unfolding ended_iteration
    ended =
        ap (reacted me s) reacts
        ∙ ap (λ (b : Bool). cond b (Err (end.Full (size_of (apply r.transaction store_view.kv)))) (cond (nat_lt (2 ^ 62 + 1) (next_after 1 outs)) (Err (end.Spent which.Seq)) (Ok (now (next_after 1 outs))))) small
        ∙ ap (λ (b : Bool). cond b (Err (end.Spent which.Seq)) (Ok (now (next_after 1 outs)))) few
        ∙ ap (λ (n : ℕ). Ok (now n)) (short_next 1 outs short)

    numbered : numbered_by me s.node r ≡ outs
    numbered =
        let le = short_next 1 outs short in
        ap (datagrams (boot_in (apply r.transaction store_view.kv)) 1) (all_numbered 1 outs (omega (arith, le))) ∙ short_datagrams (boot_in (apply r.transaction store_view.kv)) 1 outs short

    sends_are : sends_of me t ≡ outs
    sends_are =
        ap (of_input [] (λ (q : Reaction). cond (nat_lt most_size (size_of (map_after s.node q))) [] (numbered_by me s.node q))) reacts
        ∙ ap (λ (b : Bool). cond b [] (numbered_by me s.node r)) small ∙ numbered

    whole : outcome_of me t Whole ≡ outcome_as (Up (now 1)) outs
    whole = up_is me t (now 1) ended ∙ ap (outcome_as (Up (now 1))) sends_are

    -- killed once these of its datagrams were sent
    killed : (k : ℕ) → outcome_of me t (Kept k) ≡ outcome_as (Down (apply r.transaction store_view.kv)) (take k outs)
    killed k =
        ap (down me s.node k) (ap (of_input None (λ (q : Reaction). cond (nat_lt most_size (size_of (map_after s.node q))) None (Some q))) reacts ∙ ap (λ (b : Bool). cond b None (Some r)) small)
        ∙ ap (λ (ds : List Outgoing). outcome_as (Down (apply r.transaction store_view.kv)) (take k ds)) numbered

  step_is : (net : Network) (doing : Doing) (u : Until) (t : Iteration) → iteration_of me (net.process i) doing ≡ Some t → after_step ms net (record { rank = i; doing = doing; up_to = u }) ≡ with_outcome (entered net i doing) i (outcome_of me t u)
  step_is net doing u t e =
      ap (made_by net (record { rank = i; doing = doing; up_to = u })) is ∙ ap (if_made me net (record { rank = i; doing = doing; up_to = u })) e

  goes : (net next : Network) (doing : Doing) (store_view : StoreView) (st : State) (outs : List Outgoing) (kv : Store) → next ≡ with_outcome (entered net i doing) i (outcome_as (Up (serving_with store_view st)) outs) → store_view.kv ≡ kv
      → ((number : ℕ) → map (under number) outs ≡ outs) → Goes net next i kv st (map (posted i) outs)
  goes net next doing store_view st outs kv e same plain = subst (λ (n : Network). Goes net n i kv st (map (posted i) outs)) (sym e) (record {
    sits = record { store_view = store_view; map = same; up = ap (λ (b : Bool). cond b (Up (serving_with store_view st)) (net.process i)) (eq-eqb i i refl) };
    others = λ j ne. ap (λ (b : Bool). cond b (Up (serving_with store_view st)) (net.process j)) ne;
    wire = ap (λ (ds : List Outgoing). net.sent ++ map (posted i) ds) (plain (number_of (entered net i doing).lives i));
  })

  -- what the core does by what it reads of the map
  module _ (kv : Store) (w : Readings) (told : readings_of kv ≡ w) (st : State) (r : Reaction) (kept_is : Store) (becomes : apply r.transaction kv ≡ kept_is) (small : IsSmall kept_is)
      (short : AllByRecursion IsShort (letters me kept_is r.sends)) where
    module _ (store_view : StoreView) (same : store_view.kv ≡ kv) (it : TimedInput) (row : any_reaction (react me (shared_entries kv) it.at w st it.input) ≡ Ok r) where
      then_is : apply r.transaction store_view.kv ≡ kept_is
      then_is = ap (apply r.transaction) same ∙ becomes

      reacts_so : reaction me it.at store_view.kv st it.input ≡ Ok r
      reacts_so = ap (λ (m : Store). reaction me it.at m st it.input) same ∙ ap (λ (x : Readings). any_reaction (react me (shared_entries kv) it.at x st it.input)) told ∙ row

      small_so : IsSmall (apply r.transaction store_view.kv)
      small_so = subst IsSmall (sym then_is) small

      short_so : AllByRecursion IsShort (letters me (apply r.transaction store_view.kv) r.sends)
      short_so = subst (λ (m : Store). AllByRecursion IsShort (letters me m r.sends)) (sym then_is) short

      pub moves : (net : Network) (doing : Doing) → iteration_of me (net.process i) doing ≡ Some (record { came = Ok (Some it); serving = serving_with store_view st })
          → Goes net (after_step ms net (record { rank = i; doing = doing; up_to = Whole })) i kept_is r.state (map (posted i) (letters me kept_is r.sends))
      moves net doing e =
          goes net (after_step ms net (record { rank = i; doing = doing; up_to = Whole })) doing (kept r.transaction store_view) r.state (letters me kept_is r.sends) kept_is
          (step_is net doing Whole (record { came = Ok (Some it); serving = serving_with store_view st }) e
          ∙ ap (with_outcome (entered net i doing) i) (whole store_view st it r reacts_so small_so short_so ∙ ap (λ (m : Store). outcome_as (Up (serving_with (kept r.transaction store_view) r.state)) (letters me m r.sends)) then_is))
          (kept_kv r.transaction store_view ∙ then_is) (λ number. under_letters number me kept_is r.sends)

      pub dies : (net : Network) (doing : Doing) (k : ℕ) → iteration_of me (net.process i) doing ≡ Some (record { came = Ok (Some it); serving = serving_with store_view st })
          → after_step ms net (record { rank = i; doing = doing; up_to = Kept k }) ≡ with_outcome (entered net i doing) i (outcome_as (Down kept_is) (take k (letters me kept_is r.sends)))
      dies net doing k e =
          step_is net doing (Kept k) (record { came = Ok (Some it); serving = serving_with store_view st }) e
          ∙ ap (with_outcome (entered net i doing) i) (killed store_view st it r reacts_so small_so short_so k ∙ ap (λ (m : Store). outcome_as (Down m) (take k (letters me m r.sends))) then_is)

    -- a message arrives at it
    module _ (net : Network) (S : Sits net i kv st) (j : ℕ) (m : Message) (has : HasText m) (fits : length (text m) ≤ 60000) (from : m.from ≡ j) (count : m.monitors ≡ me.member.monitors)
        (tells : is_request m.body ≡ false) (clock : ℕ) (rests : due_by clock (due st.timers) ≡ None) where
      abbrev heard_as : Outcome → Iteration
      heard_as out = record {
        came = Ok (option_map (at_time clock) (input_in me.member.monitors (Monitor j) (answer_in out)));
        serving = record { node = record { state = st; store = S.store_view; next = 1 }; outside = record { parts = kept_in [] out; clock = None; link = None } };
      }

      abbrev it : TimedInput
      it = record { input = input.Deliver m; at = clock }

      abbrev given : Given
      given = record { began = clock; answer = Ok (Datagram (Monitor j) (text m)); later = clock }

      read_so : input_in me.member.monitors (Monitor j) (Some (text m)) ≡ Some (input.Deliver m)
      read_so =
          ap (λ (x : Result Message MsgRefused). input_read me.member.monitors (Monitor j) x) (message_again m has)
          ∙ ap (λ (b : Bool). cond b (cond (eqb m.from j && not (is_request m.body)) (Some (input.Deliver m)) None) None) (eq-eqb m.monitors me.member.monitors count)
          ∙ ap (λ (b : Bool). cond (b && not (is_request m.body)) (Some (input.Deliver m)) None) (eq-eqb m.from j from)
          ∙ ap (λ (b : Bool). cond (not b) (Some (input.Deliver m)) None) tells

      turned : iteration me given (serving_with S.store_view st) ≡ record { came = Ok (Some it); serving = serving_with S.store_view st }
      unfolding iteration
      turned =
          ap (λ (x : Option Timer). iteration_as (heard_by x me.member.monitors (wait_until clock (due st.timers)) given (record { parts = []; clock = None; link = None }))) rests
          ∙ ap heard_as (short_taken (Monitor j) (λ (x : frag.Message). Unit {0}) [] (Monitor j) (text m) fits refl)
          ∙ ap (λ (x : Option Input). came_as (option_map (at_time clock) x)) read_so
        where
          iteration_as : Heard → Iteration
          iteration_as h = record { came = h.came; serving = record { node = record { state = st; store = S.store_view; next = 1 }; outside = h.outside } }

          came_as : Option TimedInput → Iteration
          came_as x = record { came = Ok x; serving = serving_with S.store_view st }

      pub hears : any_reaction (react me (shared_entries kv) clock w st (input.Deliver m)) ≡ Ok r
          → Goes net (after_step ms net (comes j i (text m) clock Whole)) i kept_is r.state (map (posted i) (letters me kept_is r.sends))
      hears row = moves S.store_view S.map it row net (Iterates given) (ap (λ (p : Process). iteration_of me p (Iterates given)) S.up ∙ ap (λ (x : Iteration). Some x) turned)

    -- a timer comes
    pub rings : (net : Network) (S : Sits net i kv st) (clock : ℕ) (timer : Timer) → due_by clock (due st.timers) ≡ Some timer → any_reaction (react me (shared_entries kv) clock w st (input.Timer timer)) ≡ Ok r
        → Goes net (after_step ms net (idle i clock Whole)) i kept_is r.state (map (posted i) (letters me kept_is r.sends))
    unfolding iteration
    rings net S clock timer is_due row =
        let given : Given = record { began = clock; answer = Ok Idle; later = clock } in
        moves S.store_view S.map (record { input = input.Timer timer; at = clock }) row net (Iterates given)
        (ap (λ (p : Process). iteration_of me p (Iterates given)) S.up
        ∙ ap (λ (x : Option Timer). Some (turned x)) is_due)
      where
        turned : Option Timer → Iteration
        turned x =
            let h : Heard = heard_by x me.member.monitors (wait_until clock (due st.timers)) (record { began = clock; answer = Ok Idle; later = clock }) (record { parts = []; clock = None; link = None }) in
            record { came = h.came; serving = record { node = record { state = st; store = S.store_view; next = 1 }; outside = h.outside } }
