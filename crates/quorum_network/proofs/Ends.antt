-- Which map an iteration leaves and what it sends, completed or not, from what `serve` promises of it.
use Rattle.law_names.proofs.Runs.{most_size, size_of}
use Rattle.law_names.proofs.Table.{Me, Reaction, Which}
use Rattle.mon_bytes.specs.Answers.{◌>>=◌}
use Rattle.mon_node.proofs.Sending.{all_numbered, none_sent}
use Rattle.mon_node.specs.Iterations.{input_taken}
use Rattle.mon_node.specs.Lasting.{IsWithinIteration, recorded, store_view_kept, store_view_recorded}
use Rattle.mon_node.specs.Posting.{and_sent}
use Rattle.mon_node.specs.Serving.{of_arrival}
use Rattle.mon_node.specs.declared.end.NodeEnd.TheVariants as end
use Rattle.mon_types.specs.declared.names.Which.TheVariants as which
use Rattle.quorum_network.proofs.Names.{Iteration, Kept, NodeEnd, Outgoing, Serving, StoreView, TimedInput, Up, Whole, at_end, boot_in, datagrams, done, down, ended_iteration, kept, letters, map_after, map_of, next_number, numbered_by, of_input, outcome_of, reacted, reaction_to, sends_of, sent_by}
use Rattle.quorum_network.proofs.Steps.{kept_kv}
use Rattle.quorum_network.specs.Lives.{IsOutcomeOf}
use Rattle.std.proofs.Common.{Bool, Err, List, None, Ok, Option, Result, Some, [], ap, cond, false, inl, inr, nat_lt, option_map, refl, subst, suc, sym, take, true, zero, ℕ, ◌+◌, ◌^◌, ◌∙◌, ◌≡◌}
use Rattle.std.proofs.lemmas.Bool.{ltb-false}

-- ---- an iteration that is completed

pub up_is : (me : Me) (t : Iteration) (now : Serving) → ended_iteration me t ≡ Ok now → outcome_of me t Whole ≡ record { process = Up now; sends = sends_of me t }
up_is me t now e = ap (λ (r : Result Serving NodeEnd). at_end me t r) e

module _ (me : Me) (s : Serving) where
  -- what a reaction sends, if its transaction can be kept
  abbrev if_kept : Reaction → List Outgoing
  if_kept r = cond (nat_lt most_size (size_of (map_after s.node r))) [] (numbered_by me s.node r)

  -- the link was asked to send all of it
  abbrev Sends : Serving → List Outgoing → Type 0
  Sends now ds = now.outside.link ≡ option_map (and_sent ds) s.outside.link

  by_size : (r : Reaction) (now : Serving) (large past : Bool) → nat_lt (2 ^ 62 + 1) (next_number me s.node r) ≡ past
      → cond large (Err (end.Full (size_of (map_after s.node r)))) (cond past (Err (end.Spent which.Seq)) (Ok (done me s r))) ≡ Ok now → Sends now (cond large [] (numbered_by me s.node r))
  by_size r now true past few e = absurd cc
  by_size r now false true few e = absurd cc
  by_size r now false false few e =
      let same : done me s r ≡ now = cc (e) in
      let all : numbered_by me s.node r ≡ sent_by me s.node r = ap (datagrams (boot_in (map_after s.node r)) s.node.next) (all_numbered s.node.next (letters me (map_after s.node r) r.sends) (ltb-false _ _ few)) in
      subst (λ (n : Serving). Sends n (numbered_by me s.node r)) same (ap (λ (ds : List Outgoing). option_map (and_sent ds) s.outside.link) (sym all))

  by_reaction : (x : Result Reaction Which) (now : Serving) → reacted me s x ≡ Ok now → Sends now (of_input [] if_kept x)
  by_reaction (Ok r) now e = by_size r now (nat_lt most_size (size_of (map_after s.node r))) (nat_lt (2 ^ 62 + 1) (next_number me s.node r)) refl e
  by_reaction (Err spent) now e = absurd cc

  by_came : (came : Result (Option TimedInput) NodeEnd) (now : Serving) → (came >>= input_taken me s) ≡ Ok now → Sends now (of_arrival me s.node [] if_kept came)
  by_came (Ok (Some it)) now e = by_reaction (reaction_to me s.node it) now e
  by_came (Ok None) now e = let same : s ≡ now = cc (e) in subst (λ (n : Serving). Sends n []) same (none_sent s.outside.link)
  by_came (Err x) now e = absurd cc

pub ended_link : (me : Me) (t : Iteration) (now : Serving) → ended_iteration me t ≡ Ok now → now.outside.link ≡ option_map (and_sent (sends_of me t)) t.serving.outside.link
unfolding ended_iteration
ended_link me t now e = by_came me t.serving t.came now e

-- ---- an iteration that isn't completed

take_none : (k : ℕ) → ◌≡◌ {A = List Outgoing} (take k []) []
take_none zero = refl
take_none (suc k) = refl

module _ (me : Me) (s : Serving) where
  abbrev if_fits : {A : Type 0} → A → (Reaction → A) → Reaction → A
  if_fits none some r = cond (nat_lt most_size (size_of (map_after s.node r))) none (some r)

  abbrev some_of : Reaction → Option Reaction
  some_of r = Some r

  -- once its transaction is kept, a prefix of its datagrams goes out
  cut_size : (k : ℕ) (r : Reaction) (large : Bool) → (down me s.node k (cond large None (Some r))).sends ≡ take k (cond large [] (numbered_by me s.node r))
  cut_size k r true = sym (take_none k)
  cut_size k r false = refl

  cut_reaction : (k : ℕ) (x : Result Reaction Which) → (down me s.node k (of_input None (if_fits None some_of) x)).sends ≡ take k (of_input [] (if_kept me s) x)
  cut_reaction k (Ok r) = cut_size k r (nat_lt most_size (size_of (map_after s.node r)))
  cut_reaction k (Err spent) = sym (take_none k)

  cut_came : (k : ℕ) (came : Result (Option TimedInput) NodeEnd) → (down me s.node k (of_arrival me s.node None (if_fits None some_of) came)).sends ≡ take k (of_arrival me s.node [] (if_kept me s) came)
  cut_came k (Ok (Some it)) = cut_reaction k (reaction_to me s.node it)
  cut_came k (Ok None) = sym (take_none k)
  cut_came k (Err e) = sym (take_none k)

  -- and its map is the one that is kept, or recorded
  map_size : (f : Reaction → StoreView) → ((r : Reaction) → (f r).kv ≡ map_after s.node r) → (k : ℕ) (r : Reaction) (large : Bool) → (cond large s.node.store (f r)).kv ≡ map_of (down me s.node k (cond large None (Some r))).process
  map_size f same k r true = refl
  map_size f same k r false = same r

  map_reaction : (f : Reaction → StoreView) → ((r : Reaction) → (f r).kv ≡ map_after s.node r) → (k : ℕ) (x : Result Reaction Which)
      → (of_input s.node.store (if_fits s.node.store f) x).kv ≡ map_of (down me s.node k (of_input None (if_fits None some_of) x)).process
  map_reaction f same k (Ok r) = map_size f same k r (nat_lt most_size (size_of (map_after s.node r)))
  map_reaction f same k (Err spent) = refl

  pub map_came : (f : Reaction → StoreView) → ((r : Reaction) → (f r).kv ≡ map_after s.node r) → (k : ℕ) (came : Result (Option TimedInput) NodeEnd)
      → (of_arrival me s.node s.node.store (if_fits s.node.store f) came).kv ≡ map_of (down me s.node k (of_arrival me s.node None (if_fits None some_of) came)).process
  map_came f same k (Ok (Some it)) = map_reaction f same k (reaction_to me s.node it)
  map_came f same k (Ok None) = refl
  map_came f same k (Err e) = refl

pub cut_sends : (me : Me) (t : Iteration) (k : ℕ) → (outcome_of me t (Kept k)).sends ≡ take k (sends_of me t)
cut_sends me t k = cut_came me t.serving k t.came

pub kept_map : (me : Me) (t : Iteration) (k : ℕ) → (store_view_kept me t).kv ≡ map_of (outcome_of me t (Kept k)).process
kept_map me t k = map_came me t.serving (λ r. kept r.transaction t.serving.node.store) (λ r. kept_kv r.transaction t.serving.node.store) k t.came

recorded_map : (me : Me) (t : Iteration) (k : ℕ) → (store_view_recorded me t).kv ≡ map_of (outcome_of me t (Kept k)).process
recorded_map me t k = map_came me t.serving (λ r. recorded r.transaction t.serving.node.store) (λ r. refl) k t.came

-- what a crash in an iteration leaves
pub within_is : (me : Me) (t : Iteration) (x : StoreView) → IsWithinIteration me t x → IsOutcomeOf me t x.kv
within_is me t x (inl e) = inl (ap (λ (z : StoreView). z.kv) e)
within_is me t x (inr (inl e)) = inr (λ k. ap (λ (z : StoreView). z.kv) e ∙ recorded_map me t k)
within_is me t x (inr (inr e)) = inr (λ k. ap (λ (z : StoreView). z.kv) e ∙ kept_map me t k)
