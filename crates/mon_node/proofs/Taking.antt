-- The result of an iteration with an input.
use Rattle.std.proofs.Common.{◌≡◌, ℕ, ◌+◌, ◌^◌, ◌<◌, ◌≤◌, Bool, false, cond, List, [], Option, Some, Result, Ok, Err, refl, sym, ap, subst, ◌∙◌, nat_lt}
use Rattle.std.specs.Prelude.{option_map}
use Rattle.std.proofs.lemmas.Bool.{lt-ltb, le-ltb}
use Rattle.mon_kv.specs.Readers.{size_of}
use Rattle.mon_link.specs.Links.{Observed}
use Rattle.mon_link.specs.declared.link.Outgoing.{Outgoing}
use Rattle.mon_msg.specs.Protocol.Reaction.{Reaction}
use Rattle.mon_msg.specs.declared.plan.Sent.{Sent}
use Rattle.mon_msg.specs.declared.view.Me.{Me}
use Rattle.mon_store.specs.Checkpoint.{most_size}
use Rattle.mon_store.specs.StoreView.{StoreView}
use Rattle.mon_tx.specs.Map.{Store}
use Rattle.mon_types.specs.declared.names.Which.TheVariants as which
use Rattle.mon_types.specs.declared.names.Which.{Which}
use Rattle.mon_node.specs.Keeping.{Keeps, kept}
use Rattle.mon_node.specs.Nodes.{Serving}
use Rattle.mon_node.specs.Posting.{and_sent, datagrams, letters, next_after, with_number, boot_in, SendsPrefix, SendsAll, IsSpent}
use Rattle.mon_node.specs.Serving.{EndsAt, Has, of_input}
use Rattle.mon_node.specs.Iterations.{Iteration, map_after, next_number, numbered_by, done, done_within, reacted, reaction_to, ended_iteration}
use Rattle.mon_node.specs.declared.end.NodeEnd.TheVariants as end
use Rattle.mon_node.specs.declared.end.NodeEnd.{NodeEnd}
use Rattle.mon_node.specs.declared.hearing.TimedInput.{TimedInput}
use Rattle.mon_node.proofs.Sending.{all_numbered, none_in_front}

-- what is sent, with the same map and the same messages
pub sent_as : (P : Store → List Sent → Type 0) (m n : Store) (out sends : List Sent) → m ≡ n → out ≡ sends → P m out → P n sends
sent_as P m n out sends maps same h = subst (λ (x : Store). P x sends) maps (subst (λ (xs : List Sent). P m xs) same h)

module _ (me : Me) (s : Serving) (it : TimedInput) where
  abbrev at_input : Iteration
  at_input = record { came = Ok (Some it); serving = s }

  -- what a reaction sends whose transaction can be kept
  abbrev if_kept : Reaction → List Outgoing
  if_kept r = cond (nat_lt most_size (size_of (map_after s.node r))) [] (numbered_by me s.node r)

  -- what it sends, if the core reacts
  abbrev these : List Outgoing
  these = of_input [] if_kept (reaction_to me s.node it)

  none_of_these : SendsPrefix these s.outside.link s.outside.link
  none_of_these = none_in_front these s.outside.link

  -- the core stops
  pub stops : (spent : Which) → reaction_to me s.node it ≡ Err spent → EndsAt me at_input (end.Spent spent) s.outside.clock s.outside.link
  unfolding ended_iteration
  stops spent e = record { cause = ap (reacted me s) e; clock_is = refl; link_is = none_of_these }

  pub refusals : EndsAt me at_input end.OutOfMemory s.outside.clock s.outside.link
  refusals = record { cause = tt; clock_is = refl; link_is = none_of_these }

  module _ (r : Reaction) (reacts : reaction_to me s.node it ≡ Ok r) where
    comes_to : ended_iteration me at_input ≡ done_within me s r
    unfolding ended_iteration
    comes_to = ap (reacted me s) reacts

    -- what follows of the map's size, and of the number after what it sends
    abbrev by : Bool → Bool → Result Serving NodeEnd
    by large past = cond large (Err (end.Full (size_of (map_after s.node r)))) (cond past (Err (end.Spent which.Seq)) (Ok (done me s r)))

    abbrev past : Bool
    past = nat_lt (2 ^ 62 + 1) (next_number me s.node r)

    too_large : most_size < size_of (map_after s.node r) → done_within me s r ≡ Err (end.Full (size_of (map_after s.node r)))
    too_large h = ap (λ (b : Bool). by b past) (lt-ltb most_size (size_of (map_after s.node r)) h)

    past_all : size_of (map_after s.node r) ≤ most_size → 2 ^ 62 + 1 < next_number me s.node r → done_within me s r ≡ Err (end.Spent which.Seq)
    past_all h p = ap (λ (b : Bool). by b past) (le-ltb most_size (size_of (map_after s.node r)) h) ∙ ap (by false) (lt-ltb (2 ^ 62 + 1) (next_number me s.node r) p)

    all_within : size_of (map_after s.node r) ≤ most_size → next_number me s.node r ≤ 2 ^ 62 + 1 → done_within me s r ≡ Ok (done me s r)
    all_within h p = ap (λ (b : Bool). by b past) (le-ltb most_size (size_of (map_after s.node r)) h) ∙ ap (by false) (le-ltb (2 ^ 62 + 1) (next_number me s.node r) p)

    -- the store doesn't keep its transaction
    pub not_kept : (T : Type 0) (m : Store) (e : NodeEnd) → Keeps {T = T} r.transaction s.node.store.kv m (Err e) → EndsAt me at_input e s.outside.clock s.outside.link
    not_kept T m (end.Full would_be) h = record {
      cause = comes_to ∙ too_large h.0 ∙ ap (λ (n : ℕ). Err (end.Full n)) (sym h.1);
      clock_is = refl;
      link_is = refl;
    }
    not_kept T m end.DiskFault h = record {
      cause = subst (λ (x : Result Reaction Which). Has x (λ (y : Reaction). size_of (map_after s.node y) ≤ most_size)) (sym reacts) h;
      clock_is = refl;
      link_is = refl;
    }
    not_kept T m end.OutOfMemory h = refusals
    not_kept T m end.Closed h = absurd h
    not_kept T m end.TurnsUsed h = absurd h
    not_kept T m end.LinkFault h = absurd h
    not_kept T m (end.Spent spent) h = absurd h

    -- it is kept, and then this is the map
    module _ (m : Store) (is : m ≡ map_after s.node r) (fits : size_of (map_after s.node r) ≤ most_size) where
      abbrev sends : Store → List Outgoing
      sends x = datagrams (boot_in x) s.node.next (letters me x r.sends)

      abbrev numbers : Store → ℕ
      numbers x = next_after s.node.next (letters me x r.sends)

      abbrev numbered : Store → List Outgoing
      numbered x = datagrams (boot_in x) s.node.next (with_number s.node.next (letters me x r.sends))

      -- this is what it sends
      pub in_these : (P : List Outgoing → Type 0) → P (numbered m) → P these
      in_these P h =
          let sent : these ≡ numbered_by me s.node r = ap (of_input [] if_kept) reacts ∙ ap (λ (b : Bool). cond b [] (numbered_by me s.node r)) (le-ltb most_size (size_of (map_after s.node r)) fits) in
          subst P (ap numbered is ∙ sym sent) h

      -- and not all of it goes out
      sent_front : (link : Option Observed) → SendsPrefix (numbered m) s.outside.link link → SendsPrefix these s.outside.link link
      sent_front link front = in_these (λ (ds : List Outgoing). SendsPrefix ds s.outside.link link) front

      pub not_sent : (e : NodeEnd) (link : Option Observed) → IsSpent (numbers m) e → SendsPrefix (numbered m) s.outside.link link → EndsAt me at_input e s.outside.clock link
      not_sent end.OutOfMemory link why front = record { cause = tt; clock_is = refl; link_is = sent_front link front }
      not_sent (end.Spent which.Seq) link why front = record {
        cause = comes_to ∙ past_all fits (subst (λ (n : ℕ). 2 ^ 62 + 1 < n) (ap numbers is) why);
        clock_is = refl;
        link_is = sent_front link front;
      }
      not_sent (end.Spent which.Epoch) link why front = absurd why
      not_sent (end.Spent which.Pn) link why front = absurd why
      not_sent (end.Spent which.Version) link why front = absurd why
      not_sent (end.Spent which.Boot) link why front = absurd why
      not_sent (end.Spent which.Cookie) link why front = absurd why
      not_sent end.Closed link why front = absurd why
      not_sent end.TurnsUsed link why front = absurd why
      not_sent end.DiskFault link why front = absurd why
      not_sent end.LinkFault link why front = absurd why
      not_sent (end.Full would_be) link why front = absurd why

      -- or all of it does
      abbrev with_map : StoreView → Store → Serving
      with_map store_view x = record {
        node = record { state = r.state; store = store_view; next = numbers x };
        outside = record s.outside { link = option_map (and_sent (sends x)) s.outside.link };
      }

      pub all_sent : (store_view : StoreView) (next : ℕ) (link : Option Observed) → store_view ≡ kept r.transaction s.node.store → next ≡ numbers m → next ≤ 2 ^ 62 + 1 → SendsAll (numbered m) s.outside.link link
          → ended_iteration me at_input ≡ Ok (record { node = record { state = r.state; store = store_view; next = next }; outside = record s.outside { link = link } })
      all_sent store_view next link stands behind within sent =
          let all : with_number s.node.next (letters me m r.sends) ≡ letters me m r.sends = all_numbered s.node.next (letters me m r.sends) (subst (λ (n : ℕ). n ≤ 2 ^ 62 + 1) behind within) in
          let whole : SendsAll (sends m) s.outside.link link = subst (λ (ls : List Outgoing). SendsAll (datagrams (boot_in m) s.node.next ls) s.outside.link link) all sent in
          comes_to
          ∙ all_within fits (subst (λ (n : ℕ). n ≤ 2 ^ 62 + 1) (behind ∙ ap numbers is) within)
          ∙ (λ i. Ok (with_map (sym stands i) (sym is i)))
          ∙ (λ i. Ok (record { node = record { state = r.state; store = store_view; next = sym behind i }; outside = record s.outside { link = sym whole i } }))
