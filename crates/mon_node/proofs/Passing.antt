-- What the disks of a node go through in an iteration.
use Rattle.std.proofs.Common.{◌≡◌, ℕ, ◌≤◌, ◌<◌, ◌+◌, ◌^◌, Bool, true, false, cond, nat_lt, inl, inr, List, [], ◌∷◌, Option, Some, None, Result, Ok, Err, refl, sym, ap, ◌∙◌, arith}
use Rattle.std.proofs.lemmas.Bool.{le-ltb, ltb-false, ltb-true}
use Rattle.mon_bytes.specs.Answers.{◌>>=◌}
use Rattle.mon_disk.specs.Calls.{DiskState}
use Rattle.mon_kv.specs.Readers.{size_of}
use Rattle.mon_link.specs.Clocks.{Readings}
use Rattle.mon_link.specs.Links.{Observed}
use Rattle.mon_msg.specs.Protocol.Reaction.{Reaction}
use Rattle.mon_msg.specs.Protocol.Timers.{due}
use Rattle.mon_msg.specs.declared.view.Me.{Me}
use Rattle.mon_store.specs.Checkpoint.{most_size}
use Rattle.mon_store.specs.Times.{Lasts}
use Rattle.mon_store.specs.StoreView.{StoreView}
use Rattle.mon_tx.specs.Map.{Store}
use Rattle.mon_types.specs.declared.names.Which.TheVariants as which
use Rattle.mon_types.specs.declared.names.Which.{Which}
use Rattle.mon_node.specs.Hearing.{Given, Hears, heard}
use Rattle.mon_node.specs.Keeping.{Keeps, kept}
use Rattle.mon_node.specs.Lasting.{BothVisible, Leave, Through, Pass, IsWithin, IsWithinIteration, RemainsAfter, PassIteration, InIterations, recorded, store_view_recorded, store_view_kept}
use Rattle.mon_node.specs.Nodes.{Outside, Serving, Disks, disks}
use Rattle.mon_node.specs.Posting.{IsSpent}
use Rattle.mon_node.specs.Serving.{EndsAt, Has, of_input, of_arrival}
use Rattle.mon_node.specs.Iterations.{Iteration, start, iteration, map_after, reaction_to, reacted, input_taken, done, done_within, next_number, ended_iteration, last_iteration}
use Rattle.mon_node.specs.declared.end.NodeEnd.TheVariants as end
use Rattle.mon_node.specs.declared.end.NodeEnd.{NodeEnd}
use Rattle.mon_node.specs.declared.hearing.TimedInput.{TimedInput}
use Rattle.mon_node.proofs.Standing.{leave_as, pass_as, pass_left, no_step, through_later}

-- ---- an input

module _ (me : Me) (s : Serving) (it : TimedInput) where
  abbrev at_input : Iteration
  at_input = record { came = Ok (Some it); serving = s }

  -- the store is where it was when the iteration began
  abbrev IsOld : StoreView → Type 0
  IsOld x = x ≡ s.node.store

  abbrev InIteration : StoreView → Type 0
  InIteration = IsWithinIteration me at_input

  -- where a reaction leaves the store: where it was, if the map would be too large
  abbrev if_fits : (Reaction → StoreView) → Reaction → StoreView
  if_fits f r = cond (nat_lt most_size (size_of (map_after s.node r))) s.node.store (f r)

  old_within : (x : StoreView) → IsOld x → InIteration x
  old_within x e = inl e

  -- memory runs out before anything is sent
  wanting : (d : Disks) → Leave d InIteration → Leave d (RemainsAfter me at_input end.OutOfMemory s.outside.link)
  wanting d h = leave_as d InIteration (RemainsAfter me at_input end.OutOfMemory s.outside.link) (λ x e. inl (refl, e)) h

  -- the core stops
  module _ (T : Type 0) (d : Disks) (both_visible : BothVisible d) (still : Leave d IsOld) where
    stays : Pass InIteration d d
    stays = no_step d InIteration both_visible (leave_as d IsOld InIteration old_within still)

    pub wants_pass : PassIteration {T = T} me at_input (Err end.OutOfMemory) s.outside.link d d
    wants_pass = (stays, wanting d (leave_as d IsOld InIteration old_within still))

    pub stops_pass : (spent : Which) → reaction_to me s.node it ≡ Err spent → PassIteration {T = T} me at_input (Err (end.Spent spent)) s.outside.link d d
    stops_pass spent e = (
      stays,
      leave_as d IsOld (RemainsAfter me at_input (end.Spent spent) s.outside.link) (λ x is. is ∙ sym (ap (of_input s.node.store (if_fits (λ (r : Reaction). kept r.transaction s.node.store))) e)) still,
    )

  module _ (r : Reaction) (reacts : reaction_to me s.node it ≡ Ok r) where
    -- so it is after this reaction, if the map isn't too large
    by_fitting : (f : Reaction → StoreView) → size_of (map_after s.node r) ≤ most_size → of_input s.node.store (if_fits f) (reaction_to me s.node it) ≡ f r
    by_fitting f fits = ap (of_input s.node.store (if_fits f)) reacts ∙ ap (λ (large : Bool). cond large s.node.store (f r)) (le-ltb most_size (size_of (map_after s.node r)) fits)

    abbrev InKeeping : StoreView → Type 0
    InKeeping = IsWithin r.transaction s.node.store

    module _ (fits : size_of (map_after s.node r) ≤ most_size) where
      recorded_is : store_view_recorded me at_input ≡ recorded r.transaction s.node.store
      recorded_is = by_fitting (λ (q : Reaction). recorded q.transaction s.node.store) fits

      kept_is : store_view_kept me at_input ≡ kept r.transaction s.node.store
      kept_is = by_fitting (λ (q : Reaction). kept q.transaction s.node.store) fits

      keeping_within : (x : StoreView) → InKeeping x → InIteration x
      keeping_within x (inl e) = inl e
      keeping_within x (inr (inl e)) = inr (inl (e ∙ sym recorded_is))
      keeping_within x (inr (inr e)) = inr (inr (e ∙ sym kept_is))

      -- the store is left with its transaction
      pub left_kept : (new : Disks) (after : StoreView) → after ≡ kept r.transaction s.node.store → Leave new (λ x. x ≡ after) → Leave new (λ x. x ≡ store_view_kept me at_input)
      left_kept new after is left = leave_as new (λ x. x ≡ after) (λ x. x ≡ store_view_kept me at_input) (λ x h. h ∙ is ∙ sym kept_is) left

      module _ (old new : Disks) (pass : Pass InKeeping old new) where
        iteration_pass : Pass InIteration old new
        iteration_pass = pass_as old new InKeeping InIteration keeping_within pass

        -- the iteration is completed
        pub taken_pass : (T : Type 0) (x : T) (link : Option Observed) → PassIteration me at_input (Ok x) link old new
        taken_pass T x link = (iteration_pass, tt)

        -- its transaction is kept, and not all that it sends goes out
        pub unsent_pass : (T : Type 0) (next : ℕ) (e : NodeEnd) (clock : Option Readings) (link : Option Observed) (after : StoreView) → IsSpent next e → EndsAt me at_input e clock link → after ≡ kept r.transaction s.node.store → Leave new (λ x. x ≡ after)
            → PassIteration {T = T} me at_input (Err e) link old new
        unsent_pass T next e clock link after why ends is left = (iteration_pass, by e why ends)
          where
            by : (e : NodeEnd) → IsSpent next e → EndsAt me at_input e clock link → Leave new (RemainsAfter me at_input e link)
            by end.OutOfMemory why ends = leave_as new (λ (x : StoreView). x ≡ after) (RemainsAfter me at_input end.OutOfMemory link) (λ x h. inr (ends.link_is, h ∙ is ∙ sym kept_is)) left
            by (end.Spent spent) why ends = leave_as new (λ (x : StoreView). x ≡ after) (RemainsAfter me at_input (end.Spent spent) link) (λ x h. h ∙ is ∙ sym kept_is) left
            by end.Closed why ends = absurd why
            by end.TurnsUsed why ends = absurd why
            by end.DiskFault why ends = absurd why
            by end.LinkFault why ends = absurd why
            by (end.Full would_be) why ends = absurd why

    -- its transaction isn't kept
    module _ {D : Type 0} (state : D → DiskState) (T : Type 0) (a b x y : D) (n : Store) (both : BothVisible (disks state a b)) (still : Leave (disks state a b) IsOld) (pass : Pass InKeeping (disks state a b) (disks state x y)) where
      -- the map would be too large, and the disks are the same
      too_large : (e : NodeEnd) → most_size < size_of (map_after s.node r) → Keeps {T = T} r.transaction s.node.store.kv n (Err e) → PassIteration {T = T} me at_input (Err e) s.outside.link (disks state a b) (disks state a b)
      too_large e large keeps = (no_step (disks state a b) InIteration both within, by e keeps)
        where
          within : Leave (disks state a b) InIteration
          within = leave_as (disks state a b) IsOld InIteration old_within still

          by : (e : NodeEnd) → Keeps {T = T} r.transaction s.node.store.kv n (Err e) → Leave (disks state a b) (RemainsAfter me at_input e s.outside.link)
          by (end.Full would_be) keeps = still
          by end.DiskFault keeps = within
          by end.OutOfMemory keeps = wanting (disks state a b) within
          by end.Closed keeps = absurd keeps
          by end.TurnsUsed keeps = absurd keeps
          by end.LinkFault keeps = absurd keeps
          by (end.Spent spent) keeps = absurd keeps

      -- it wouldn't be, and a disk or memory stopped it
      stopped : (e : NodeEnd) → size_of (map_after s.node r) ≤ most_size → Keeps {T = T} r.transaction s.node.store.kv n (Err e) → PassIteration {T = T} me at_input (Err e) s.outside.link (disks state a b) (disks state x y)
      stopped e fits keeps = (iteration_pass fits (disks state a b) (disks state x y) pass, by e keeps)
        where
          left : Leave (disks state x y) InIteration
          left = leave_as (disks state x y) InKeeping InIteration (keeping_within fits) (pass_left (disks state a b) (disks state x y) InKeeping pass)

          by : (e : NodeEnd) → Keeps {T = T} r.transaction s.node.store.kv n (Err e) → Leave (disks state x y) (RemainsAfter me at_input e s.outside.link)
          by (end.Full would_be) keeps = absurd (omega (arith, fits, keeps.0))
          by end.DiskFault keeps = left
          by end.OutOfMemory keeps = wanting (disks state x y) left
          by end.Closed keeps = absurd keeps
          by end.TurnsUsed keeps = absurd keeps
          by end.LinkFault keeps = absurd keeps
          by (end.Spent spent) keeps = absurd keeps

      pub unkept_pass : (e : NodeEnd) → Keeps {T = T} r.transaction s.node.store.kv n (Err e) → (most_size < size_of (map_after s.node r) → (x ≡ a) × (y ≡ b)) → PassIteration {T = T} me at_input (Err e) s.outside.link (disks state a b) (disks state x y)
      unkept_pass e keeps same = by (nat_lt most_size (size_of (map_after s.node r))) refl
        where
          by : (large : Bool) → nat_lt most_size (size_of (map_after s.node r)) ≡ large → PassIteration {T = T} me at_input (Err e) s.outside.link (disks state a b) (disks state x y)
          by true is = let h = ltb-true most_size (size_of (map_after s.node r)) is in let disks_are = same h in rw (disks_are.0, disks_are.1) (too_large e h keeps)
          by false is = stopped e (ltb-false most_size (size_of (map_after s.node r)) is) keeps

-- ---- an iteration

module _ (me : Me) (g : Given) (s : Serving) where
  abbrev IsBefore : StoreView → Type 0
  IsBefore x = x ≡ s.node.store

  abbrev InIt : StoreView → Type 0
  InIt = IsWithinIteration me (iteration me g s)

  store_is : (iteration me g s).serving.node.store ≡ s.node.store
  unfolding iteration
  store_is = refl

  link_is : (iteration me g s).serving.outside.link ≡ (heard me.member.monitors (due s.node.state.timers) g s.outside).outside.link
  unfolding iteration
  link_is = refl

  before_is : (x : StoreView) → IsBefore x → x ≡ (iteration me g s).serving.node.store
  before_is x e = e ∙ sym store_is

  module _ (T : Type 0) (d : Disks) (both_visible : BothVisible d) (still : Leave d IsBefore) where
    within : Leave d InIt
    within = leave_as d IsBefore InIt (λ x e. inl (before_is x e)) still

    -- nothing came
    pub quiet_pass : (x : T) (link : Option Observed) → PassIteration me (iteration me g s) (Ok x) link d d
    quiet_pass x link = (no_step d InIt both_visible within, tt)

    -- the end
    pub ends_pass : (e : NodeEnd) (o : Outside) → Hears (heard me.member.monitors (due s.node.state.timers) g s.outside) (Err e) o → PassIteration {T = T} me (iteration me g s) (Err e) o.link d d
    ends_pass e o h = (no_step d InIt both_visible within, by e h)
      where
        by : (e : NodeEnd) → Hears (heard me.member.monitors (due s.node.state.timers) g s.outside) (Err e) o → Leave d (RemainsAfter me (iteration me g s) e o.link)
        by end.Closed h = leave_as d IsBefore (RemainsAfter me (iteration me g s) end.Closed o.link) before_is still
        by end.LinkFault h = leave_as d IsBefore (RemainsAfter me (iteration me g s) end.LinkFault o.link) before_is still
        by end.OutOfMemory h = leave_as d InIt (RemainsAfter me (iteration me g s) end.OutOfMemory o.link) (λ x e. inl (h.1 ∙ sym link_is, e)) within
        by end.TurnsUsed h = absurd h
        by end.DiskFault h = absurd h
        by (end.Full would_be) h = absurd h
        by (end.Spent spent) h = absurd h

-- ---- where a store is after an iteration

module _ (me : Me) (s : Serving) where
  abbrev keeps_it : Reaction → StoreView
  keeps_it r = cond (nat_lt most_size (size_of (map_after s.node r))) s.node.store (kept r.transaction s.node.store)

  abbrev by_size : Reaction → Bool → Bool → Result Serving NodeEnd
  by_size r large past = cond large (Err (end.Full (size_of (map_after s.node r)))) (cond past (Err (end.Spent which.Seq)) (Ok (done me s r)))

  size_store_view : (r : Reaction) (now : Serving) (large past : Bool) → by_size r large past ≡ Ok now → now.node.store ≡ cond large s.node.store (kept r.transaction s.node.store)
  size_store_view r now true past is = absurd cc
  size_store_view r now false true is = absurd cc
  size_store_view r now false false is = let same : done me s r ≡ now = cc in sym (ap (λ (n : Serving). n.node.store) same)

  done_store_view : (r : Reaction) (now : Serving) → done_within me s r ≡ Ok now → now.node.store ≡ keeps_it r
  done_store_view r now is = size_store_view r now (nat_lt most_size (size_of (map_after s.node r))) (nat_lt (2 ^ 62 + 1) (next_number me s.node r)) is

  reacted_store_view : (x : Result Reaction Which) (now : Serving) → reacted me s x ≡ Ok now → now.node.store ≡ of_input s.node.store keeps_it x
  reacted_store_view (Ok r) now is = done_store_view r now is
  reacted_store_view (Err spent) now is = absurd cc

pub store_view_then : (me : Me) (t : Iteration) (now : Serving) → ended_iteration me t ≡ Ok now → now.node.store ≡ store_view_kept me t
unfolding ended_iteration
store_view_then me t now is = by t.came is
  where
    by : (came : Result (Option TimedInput) NodeEnd) → (came >>= input_taken me t.serving) ≡ Ok now → now.node.store ≡ of_arrival me t.serving.node t.serving.node.store (keeps_it me t.serving) came
    by (Ok (Some it)) is = reacted_store_view me t.serving (reaction_to me t.serving.node it) now is
    by (Ok None) is = let same : t.serving ≡ now = cc in sym (ap (λ (n : Serving). n.node.store) same)
    by (Err e) is = absurd cc

-- ---- iteration after iteration

module _ (me : Me) (first : ℕ) (s : Serving) (d e : Disks) (a : Lasts d.a e.a) (b : Lasts d.b e.b) where
  abbrev At : Disks → (mid to : ℕ × ℕ) → Iteration → Type 0
  At x mid to t = Through x (IsWithinIteration me t) mid to

  up : (x : Result Iteration NodeEnd) (mid to : ℕ × ℕ) → Has x (At d mid to) → (mid.0 ≤ to.0) × (mid.1 ≤ to.1)
  up (Ok t) mid to h = (omega (arith, h.written.a_later, h.renewed.a_later), omega (arith, h.written.b_later, h.renewed.b_later))
  up (Err e) mid to h = absurd h

  last_later : (x : Result Iteration NodeEnd) (mid to : ℕ × ℕ) → to.0 ≤ d.a.time → to.1 ≤ d.b.time → Has x (At d mid to) → Has x (At e mid to)
  last_later (Ok t) mid to p q h = through_later d e a b (IsWithinIteration me t) mid to p q h
  last_later (Err e) mid to p q h = absurd h

  pub turns_later : (given : List Given) (from to : ℕ × ℕ) → to.0 ≤ d.a.time → to.1 ≤ d.b.time → InIterations me first s d given from to → InIterations me first s e given from to
  turns_later [] from to p q h = through_later d e a b (IsWithinIteration me (start first s)) from to p q h
  turns_later (g ∷ earlier) from to p q (mid, before, last) =
      let up_to = up (last_iteration me first s (g ∷ earlier)) mid to last in
      (mid, turns_later earlier from mid (omega (arith, up_to.0, p)) (omega (arith, up_to.1, q)) before, last_later (last_iteration me first s (g ∷ earlier)) mid to p q last)
