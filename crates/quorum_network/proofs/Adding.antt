-- What an event adds to the world: requests, acknowledgements, leaders, and the letters of its replies.
use Rattle.law_names.proofs.Runs.{Acknowledged, Acknowledgement, Asked, Replied, World, acknowledgement, acknowledgements_of, done_by, replies_of}
use Rattle.law_names.proofs.Table.{AllByRecursion, Contains, HasText, Sent, State, Store}
use Rattle.mon_msg.specs.declared.plan.Sent.TheVariants as sent
use Rattle.mon_wire.specs.Message.Whole.{text}
use Rattle.quorum_model.specs.Acknowledging.{acknowledges}
use Rattle.quorum_network.proofs.Letters.{IsPosted, Letter}
use Rattle.quorum_network.proofs.Names.{Client, Leadership, Monitor, Peer, Posted, answer_of}
use Rattle.quorum_network.specs.Requests.{acknowledged_in}
use Rattle.std.proofs.Common.{Bool, List, None, Option, Some, [], ap, cond, false, map, option_map, refl, suc, true, ℕ, ◌++◌, ◌<◌, ◌∷◌, ◌≡◌, ◌≤◌}
use Rattle.std.specs.List.{cons_option}

-- bytes that go to a client are a reply that a later event than this made
abbrev pub IsLater : (count event : ℕ) → World → (by : ℕ) → Peer → List ℕ → Type 0
IsLater count e w i (Monitor j) bytes = Unit {0}
IsLater count e w i (Client c) bytes =
    (r : Replied) × Contains w.replied r × (e < r.event) × HasText (answer_of count r) × (r.rank ≡ i) × (r.session.client ≡ c) × (bytes ≡ text (answer_of count r))

abbrev pub AllLater : (count event : ℕ) → World → List Letter → Type 0
AllLater count e w ls = (l : Letter) → Contains ls l → IsLater count e w l.by l.to l.bytes

-- an acknowledgement without the number of its event
abbrev pub given : Acknowledged → Acknowledgement
given a = a.what

abbrev pub IsBy : ℕ → Acknowledged → Type 0
IsBy e a = a.event ≤ e

abbrev pub IsAt : ℕ → Acknowledged → Type 0
IsAt e a = a.event ≡ e

abbrev pub IsRepliedBy : ℕ → Replied → Type 0
IsRepliedBy e r = r.event ≤ e

abbrev pub IsRepliedAt : ℕ → Replied → Type 0
IsRepliedAt e r = r.event ≡ e

-- an active leader, as the model notes it
abbrev pub noted_as : Leadership → ℕ × ℕ
noted_as l = (l.epoch, l.rank)

pub record Adds (count : ℕ) (asks : List Asked) (acks : List Acknowledgement) (leads : List Leadership) (ds : List Posted) (w v : World) : Type 0 where
  pub asked : v.asked ≡ w.asked ++ asks
  pub events : v.events ≡ suc w.events
  pub new : List Acknowledged
  pub acknowledged : v.acknowledged ≡ w.acknowledged ++ new
  pub given_are : map given new ≡ acks
  pub numbered : AllByRecursion (IsAt (suc w.events)) new
  pub replies : List Replied
  pub replied : v.replied ≡ w.replied ++ replies
  pub answered : AllByRecursion (IsRepliedAt (suc w.events)) replies
  pub active : v.active ≡ w.active ++ map noted_as leads
  -- the letters of these datagrams
  pub letters : List Letter
  pub posted : AllByRecursion (IsPosted letters) ds
  pub later : AllLater count w.events v letters

-- ---- acknowledgements

module _ (e : ℕ) (m : Store) (s : State) where
  given_by : (o : Option ℕ) (xs : List Acknowledged) (ys : List Acknowledgement) → map given xs ≡ ys
      → map given (cons_option (option_map (acknowledgement e m s) o) xs) ≡ cons_option (option_map (acknowledges m s) o) ys
  given_by None xs ys h = h
  given_by (Some v) xs ys h = ap (λ (zs : List Acknowledgement). acknowledges m s v ∷ zs) h

  pub given_same : (sends : List Sent) → map given (acknowledgements_of e m s sends) ≡ acknowledged_in m s sends
  given_same [] = refl
  given_same (x ∷ sends) = given_by (done_by s x) (acknowledgements_of e m s sends) (acknowledged_in m s sends) (given_same sends)

  numbered_by : (o : Option ℕ) (xs : List Acknowledged) → AllByRecursion (IsAt e) xs → AllByRecursion (IsAt e) (cons_option (option_map (acknowledgement e m s) o) xs)
  numbered_by None xs h = h
  numbered_by (Some v) xs h = (refl, h)

  pub all_numbered : (sends : List Sent) → AllByRecursion (IsAt e) (acknowledgements_of e m s sends)
  all_numbered [] = tt
  all_numbered (x ∷ sends) = numbered_by (done_by s x) (acknowledgements_of e m s sends) (all_numbered sends)

-- ---- replies

pub all_replied : (e i : ℕ) (m : Store) (sends : List Sent) → AllByRecursion (IsRepliedAt e) (replies_of e i m sends)
all_replied e i m [] = tt
all_replied e i m (sent.Message to x ∷ sends) = all_replied e i m sends
all_replied e i m (sent.Reply to x ∷ sends) = (refl, all_replied e i m sends)

-- ---- leaders

pub noted_same : (i e : ℕ) (b : Bool) → cond b ((e, i) ∷ []) [] ≡ map noted_as (cond b (record { rank = i; epoch = e } ∷ []) [])
noted_same i e true = refl
noted_same i e false = refl
