-- A life as `serve` promises it, with the disks that `Store::open` opens after it, is made of steps of a network.
use Rattle.law_names.proofs.Table.{Me, Member, Store, empty}
use Rattle.mon_bytes.specs.Answers.{◌>>=◌}
use Rattle.mon_disk.specs.Images.{Content}
use Rattle.mon_journal.specs.Content.{content}
use Rattle.mon_journal.specs.Fields.{Owner}
use Rattle.mon_journal.specs.Written.{owner_of}
use Rattle.mon_node.proofs.Passing.{store_view_then}
use Rattle.mon_node.proofs.Talking.{last_of}
use Rattle.mon_node.specs.Iterations.{last_iteration}
use Rattle.mon_node.specs.Lasting.{IsWithinIteration, On, RemainsAfter, store_view_kept}
use Rattle.mon_node.specs.Posting.{SendsPrefix}
use Rattle.mon_node.specs.Sends.{AreFirstSent, AreSent, Send, outgoing_of}
use Rattle.mon_node.specs.Serving.{EndsAfter, Serves}
use Rattle.mon_node.specs.Talking.{AllSent, AllSentBefore, Said, SentAfter, happened}
use Rattle.mon_node.specs.declared.end.NodeEnd.TheVariants as end
use Rattle.mon_store.proofs.OnPairs.{store_view_map}
use Rattle.mon_store.specs.Opening.{Alike}
use Rattle.mon_store.specs.Pair.{Create, Found, Live, Refusal, found, map_found, opened, owned, stands, taken}
use Rattle.mon_store.specs.StoreView.{opens_as, standing_of}
use Rattle.mon_store.specs.Times.{EachPair, WhileOpening}
use Rattle.quorum_network.proofs.Ends.{cut_sends, ended_link, kept_map, up_is, within_is}
use Rattle.quorum_network.proofs.Lives.{last_is, sent_both, sent_nothing, sent_now}
use Rattle.quorum_network.proofs.Names.{Given, Has, Iteration, Kept, Lost, NodeEnd, Observed, Outgoing, Readings, Serving, Step, StepOutcome, StoreView, Until, Whole, alone, ended_iteration, life, map_of, outcome_of, sends_of, sent, under, unstarted}
use Rattle.quorum_network.specs.Lives.{IsLife, IsLifeThatSends, IsOutcomeOf, IsSent, LeavesKept, OpensWith}
use Rattle.std.proofs.Common.{Bool, Err, List, Ok, Option, Result, [], ap, arith, cond, eqb, false, inl, inr, map, refl, subst, sym, take, true, ℕ, ◌&&◌, ◌++◌, ◌∙◌, ◌∷◌, ◌≡◌, ◌⊎◌}

-- ---- an opened store

kv_of : (member : Member) (f : Found) (m : Store) → (standing_of member f m).kv ≡ m
kv_of member Create m = refl
kv_of member (Live side held) m = refl

owned_map : (owner : Owner) (f : Found) (m : Store) (it : Found × Store) → owned owner f m ≡ Ok it → it.1 ≡ m
owned_map owner Create m it e = let same : (Create, m) ≡ it = cc (e) in ap (λ (x : Found × Store). x.1) (sym same)
owned_map owner (Live side held) m it e = by (eqb held.header.owner.rank owner.rank && eqb held.header.owner.monitors owner.monitors) e
  where
    by : (b : Bool) → cond b (Ok (Live side held, m)) (Err (Rattle.mon_store.specs.Pair.Stranger held.header.owner owner)) ≡ Ok it → it.1 ≡ m
    by true e = let same : (Live side held, m) ≡ it = cc (e) in ap (λ (x : Found × Store). x.1) (sym same)
    by false e = absurd cc

-- what is opened is the map that the two files represent
module _ (owner : Owner) (it : Found × Store) (m : Store) where
  of_map : (f : Found) (r : Result Store Refusal) → (r >>= owned owner f) ≡ Ok it → r ≡ Ok m → it.1 ≡ m
  of_map f (Ok x) e is = let same : x ≡ m = cc (is) in owned_map owner f x it e ∙ same
  of_map f (Err x) e is = absurd cc

  of_found : (r : Result Found Refusal) → (r >>= taken owner) ≡ Ok it → (r >>= map_found) ≡ Ok m → it.1 ≡ m
  of_found (Ok f) e is = of_map f (map_found f) e is
  of_found (Err x) e is = absurd cc

  pub opened_map : (a b : List ℕ) → opened owner a b ≡ Ok it → stands a b ≡ Ok m → it.1 ≡ m
  unfolding opened stands
  opened_map a b e is = of_found (found a b) e is

opens_kv : (member : Member) (a b : List ℕ) (m : Store) (s : StoreView) → stands a b ≡ Ok m → opens_as member a b ≡ Ok s → s.kv ≡ m
opens_kv member a b m s there e = by (opened (owner_of member) a b) refl e
  where
    by : (r : Result (Found × Store) Refusal) → opened (owner_of member) a b ≡ r → (r >>= λ it. Ok (standing_of member it.0 it.1)) ≡ Ok s → s.kv ≡ m
    by (Ok it) is e = let same : standing_of member it.0 it.1 ≡ s = cc (e) in ap (λ (z : StoreView). z.kv) (sym same) ∙ kv_of member it.0 it.1 ∙ opened_map (owner_of member) it m a b is there
    by (Err x) is e = absurd cc

-- on images that hold a store that has P, its map is opened
pub on_opens : (P : StoreView → Type 0) (member : Member) (x y : List ℕ) (s : StoreView) → On P x y → opens_as member x y ≡ Ok s → (z : StoreView) × P z × (s.kv ≡ z.kv)
on_opens P member x y s on e = let z = on.0 in (z, on.2, opens_kv member x y z.kv s (store_view_map z.journal z.kv z.side x y on.1) e)

pub within_opens : (me : Me) (t : Iteration) (member : Member) (x y : List ℕ) (s : StoreView) → On (IsWithinIteration me t) x y → opens_as member x y ≡ Ok s → IsOutcomeOf me t s.kv
within_opens me t member x y s on e =
    let z = on_opens (IsWithinIteration me t) member x y s on e in
    subst (IsOutcomeOf me t) (sym z.2) (within_is me t z.0 z.1)

-- ---- a crash while a store is opened

module _ (member : Member) (maps : List Store) (a b new_a new_b : Content) (before : EachPair a b (OpensWith member maps)) (W : WhileOpening a b new_a new_b (Alike member a b)) where
  as_before : (x y : List ℕ) → Alike member a b x y → OpensWith member maps x y
  as_before x y alike s e = let p = alike.1 in before p.on_a p.on_b p.left_a p.left_b s (sym p.opens ∙ e)

  pub opens_through : WhileOpening a b new_a new_b (OpensWith member maps) × EachPair new_a new_b (OpensWith member maps)
  opens_through = (
    record {
      a = W.a;
      b = W.b;
      switch_time = W.switch_time;
      from = W.from;
      to = W.to;
      each = λ s t c d p q r u on_a on_b. as_before c d (W.each s t c d p q r u on_a on_b);
      alone = λ s c d p q on_a on_b. as_before c d (W.alone s c d p q on_a on_b);
    },
    λ c d on_a on_b. as_before c d (W.alone new_a.time c d W.to (omega arith) on_a on_b),
  )

-- on two empty disks an empty map is opened
pub opens_empty : (member : Member) → (s : StoreView) × (opens_as member [] [] ≡ Ok s) × (s.kv ≡ empty)
unfolding opened found content
opens_empty member = (standing_of member Create empty, refl, refl)

-- ---- an end

-- the map after an end, and the datagrams that were sent, are those of a step
pub record EndOf (me : Me) (t : Iteration) (m : Store) (link : Option Observed) : Type 0 where
  pub up_to : Until
  pub map : m ≡ map_of (outcome_of me t up_to).process
  pub sent : IsSent (outcome_of me t up_to).sends t.serving.outside.link link

module _ (me : Me) (t : Iteration) (x : StoreView) (link : Option Observed) where
  abbrev IsEnd : Type 0
  IsEnd = EndOf me t x.kv link

  -- nothing was sent, and the map is the old one
  stays : link ≡ t.serving.outside.link → x ≡ t.serving.node.store → IsEnd
  stays same e = record { up_to = Lost; map = ap (λ (z : StoreView). z.kv) e; sent = subst (IsSent [] t.serving.outside.link) (sym same) (sent_nothing t.serving.outside.link) }

  -- nothing was sent, and the map is the old one or the one that is kept
  within : link ≡ t.serving.outside.link → IsWithinIteration me t x → IsEnd
  within same w = elim (within_is me t x w) [
    | inl e ↦ record { up_to = Lost; map = e; sent = subst (IsSent [] t.serving.outside.link) (sym same) (sent_nothing t.serving.outside.link) }
    | inr e ↦ record {
      up_to = Kept 0;
      map = e 0;
      sent = subst (λ (ds : List Outgoing). IsSent ds t.serving.outside.link link) (sym (cut_sends me t 0)) (subst (IsSent [] t.serving.outside.link) (sym same) (sent_nothing t.serving.outside.link));
    }
  ]

  -- some was sent, and its map is kept
  sent_some : SendsPrefix (sends_of me t) t.serving.outside.link link → x ≡ store_view_kept me t → IsEnd
  sent_some front e = record {
    up_to = Kept front.0;
    map = ap (λ (z : StoreView). z.kv) e ∙ kept_map me t front.0;
    sent = subst (λ (ds : List Outgoing). IsSent ds t.serving.outside.link link) (sym (cut_sends me t front.0)) (sent_now (take front.0 (sends_of me t)) t.serving.outside.link link front.1);
  }

  -- the last iteration of all is carried out whole
  used : (clock : Option Readings) (r : Result Serving NodeEnd) → ended_iteration me t ≡ r → Has r (λ now. (clock ≡ now.outside.clock) × (link ≡ now.outside.link)) → x ≡ store_view_kept me t → IsEnd
  used clock (Ok now) is h e =
      let whole = up_is me t now is in
      record {
        up_to = Whole;
        map = ap (λ (z : StoreView). z.kv) (e ∙ sym (store_view_then me t now is)) ∙ ap (λ (l : StepOutcome). map_of l.process) (sym whole);
        sent = subst (λ (ds : List Outgoing). IsSent ds t.serving.outside.link link) (ap (λ (l : StepOutcome). l.sends) (sym whole)) (sent_now (sends_of me t) t.serving.outside.link link (h.1 ∙ ended_link me t now is));
      }
  used clock (Err y) is h e = absurd h

  -- it ran out of memory, or was killed
  pub stopped : RemainsAfter me t end.OutOfMemory link x → IsEnd
  stopped (inl left) = within left.0 left.1
  stopped (inr left) = sent_some left.0 left.1

  pub end_is : (turns begun : ℕ) (e : NodeEnd) (clock : Option Readings) → EndsAfter me turns begun t e clock link → RemainsAfter me t e link x → IsEnd
  end_is turns begun end.TurnsUsed clock h left = used clock (ended_iteration me t) refl h.1 left
  end_is turns begun end.OutOfMemory clock h left = stopped left
  end_is turns begun end.DiskFault clock h left = within h.link_is left
  end_is turns begun (end.Spent spent) clock h left = sent_some h.link_is left
  end_is turns begun end.Closed clock h left = stays h.link_is left
  end_is turns begun end.LinkFault clock h left = stays h.link_is left
  end_is turns begun (end.Full would_be) clock h left = stays h.link_is left

-- ---- an end, by what was sent

-- the map after an end is that of a step that sends these
pub record EndThatSends (me : Me) (t : Iteration) (m : Store) (ds : List Outgoing) : Type 0 where
  pub up_to : Until
  pub map : m ≡ map_of (outcome_of me t up_to).process
  pub sends : (outcome_of me t up_to).sends ≡ ds

module _ (me : Me) (t : Iteration) (m : Store) (x : StoreView) (is : m ≡ x.kv) where
  abbrev EndsWith : List Send → Type 0
  EndsWith last = EndThatSends me t m (outgoing_of last)

  none_stays : (last : List Send) → last ≡ [] → x ≡ t.serving.node.store → EndsWith last
  none_stays last none e = record { up_to = Lost; map = is ∙ ap (λ (z : StoreView). z.kv) e; sends = ap outgoing_of (sym none) }

  none_within : (last : List Send) → last ≡ [] → IsWithinIteration me t x → EndsWith last
  none_within last none w = elim (within_is me t x w) [
    | inl e ↦ record { up_to = Lost; map = is ∙ e; sends = ap outgoing_of (sym none) }
    | inr e ↦ record { up_to = Kept 0; map = is ∙ e 0; sends = cut_sends me t 0 ∙ ap outgoing_of (sym none) }
  ]

  some_kept : (last : List Send) → AreFirstSent (sends_of me t) last → x ≡ store_view_kept me t → EndsWith last
  some_kept last front e = record {
    up_to = Kept front.count;
    map = is ∙ ap (λ (z : StoreView). z.kv) e ∙ kept_map me t front.count;
    sends = cut_sends me t front.count ∙ sym front.first;
  }

  all_used : (clock : Option Readings) (link : Option Observed) (last : List Send) (r : Result Serving NodeEnd) → ended_iteration me t ≡ r → Has r (λ now. (clock ≡ now.outside.clock) × (link ≡ now.outside.link))
      → AreSent (sends_of me t) last → x ≡ store_view_kept me t → EndsWith last
  all_used clock link last (Ok now) ends h all e =
      let whole = up_is me t now ends in
      record {
        up_to = Whole;
        map = is ∙ ap (λ (z : StoreView). z.kv) (e ∙ sym (store_view_then me t now ends)) ∙ ap (λ (l : StepOutcome). map_of l.process) (sym whole);
        sends = ap (λ (l : StepOutcome). l.sends) whole ∙ sym all.all;
      }
  all_used clock link last (Err y) ends h all e = absurd h

-- it ran out of memory, or was killed: then it sent nothing, or its transaction is kept
pub stopped_says : (me : Me) (t : Iteration) (m : Store) (x : StoreView) (last : List Send) → m ≡ x.kv → IsWithinIteration me t x → AreFirstSent (sends_of me t) last
    → (last ≡ []) ⊎ ((z : StoreView) × (m ≡ z.kv) × (z ≡ store_view_kept me t)) → EndThatSends me t m (outgoing_of last)
stopped_says me t m x last is w front (inl none) = none_within me t m x is last none w
stopped_says me t m x last is w front (inr kept) = some_kept me t m kept.0 kept.1 last front kept.2

remains_within : (me : Me) (t : Iteration) (link : Option Observed) (x : StoreView) → RemainsAfter me t end.OutOfMemory link x → IsWithinIteration me t x
remains_within me t link x (inl h) = h.1
remains_within me t link x (inr h) = inr (inr h.1)

pub end_says : (me : Me) (t : Iteration) (m : Store) (x : StoreView) (link : Option Observed) (turns begun : ℕ) (e : NodeEnd) (clock : Option Readings) (last : List Send) → m ≡ x.kv
    → EndsAfter me turns begun t e clock link → SentAfter e (sends_of me t) last → RemainsAfter me t e link x
    → (last ≡ []) ⊎ ((z : StoreView) × (m ≡ z.kv) × (z ≡ store_view_kept me t)) → EndThatSends me t m (outgoing_of last)
end_says me t m x link turns begun end.TurnsUsed clock last is h sent left kept = all_used me t m x is clock link last (ended_iteration me t) refl h.1 sent left
end_says me t m x link turns begun end.OutOfMemory clock last is h sent left kept = stopped_says me t m x last is (remains_within me t link x left) sent kept
end_says me t m x link turns begun end.DiskFault clock last is h sent left kept = none_within me t m x is last sent left
end_says me t m x link turns begun (end.Spent spent) clock last is h sent left kept = some_kept me t m x is last sent left
end_says me t m x link turns begun end.Closed clock last is h sent left kept = none_stays me t m x is last sent left
end_says me t m x link turns begun end.LinkFault clock last is h sent left kept = none_stays me t m x is last sent left
end_says me t m x link turns begun (end.Full would_be) clock last is h sent left kept = none_stays me t m x is last sent left

-- ---- a life

module _ (i : ℕ) (me : Me) (number : ℕ) (store_view : StoreView) (clock : Option Readings) (link : Option Observed) (first : ℕ) (given : List Given) (earlier : List Step) (left_link : Option Observed) (x y : List ℕ) where
  abbrev start : Serving
  start = unstarted me.member.rank store_view clock link

  -- a life whose last iteration leaves this map
  life_is : (t : Iteration) (m : Store) → last_iteration me first start given ≡ Ok t → EndOf me t m left_link → IsLife i me number store_view clock link first given earlier m left_link
  life_is t m is E =
      let L = last_is i me number store_view clock link first earlier given E.up_to t is in
      record {
        sends = L.before ++ (outcome_of me t E.up_to).sends;
        is_life = record { up_to = E.up_to; map_is = E.map ∙ ap map_of (sym L.process); sends_are = L.sends };
        observed_is = sent_both L.before (outcome_of me t E.up_to).sends link t.serving.outside.link left_link L.observed E.sent;
      }

  -- a life that goes on sends what its link was asked to send so far
  pub goes_saying : (t : Iteration) (now : Serving) (sends : List (List Send)) → last_iteration me first start given ≡ Ok t → ended_iteration me t ≡ Ok now → AllSent me first start given sends
      → (alone me (life i number store_view clock link first given Whole earlier)).sends ≡ (alone me earlier).sends ++ map (under number) (sent (happened me first start given sends))
  goes_saying t now sends is ends all =
      let L = last_is i me number store_view clock link first earlier given Whole t is in
      let l = last_of me first start given sends all in
      let these : AreSent (sends_of me t) l.last = subst (λ (r : Result Iteration NodeEnd). Has r (λ u. AreSent (sends_of me u) l.last)) is l.last_sent in
      let whole : (outcome_of me t Whole).sends ≡ outgoing_of l.last = ap (λ (o : StepOutcome). o.sends) (up_is me t now ends) ∙ sym these.all in
      let said : L.before ++ (outcome_of me t Whole).sends ≡ sent (happened me first start given sends) =
      ap (λ (ds : List Outgoing). L.before ++ ds) whole ∙ sym (L.says.says l.others l.last l.others_sent) ∙ sym (ap (λ (xs : List (List Send)). sent (happened me first start given xs)) l.is) in
      L.sends ∙ ap (λ (ds : List Outgoing). (alone me earlier).sends ++ map (under number) ds) said

  -- and what its link was asked to send is what its steps send
  life_says : (t : Iteration) (m : Store) (last : List Send) (others : List (List Send)) → last_iteration me first start given ≡ Ok t → AllSentBefore me first start given others → EndThatSends me t m (outgoing_of last)
      → IsLifeThatSends i me number store_view clock link first given earlier m (sent (happened me first start given (last ∷ others)))
  life_says t m last others is all E =
      let L = last_is i me number store_view clock link first earlier given E.up_to t is in
      let these : L.before ++ (outcome_of me t E.up_to).sends ≡ sent (happened me first start given (last ∷ others)) = ap (λ (ds : List Outgoing). L.before ++ ds) E.sends ∙ sym (L.says.says others last all) in
      record {
        up_to = E.up_to;
        map_is = E.map ∙ ap map_of (sym L.process);
        sends_are = L.sends ∙ ap (λ (ds : List Outgoing). (alone me earlier).sends ++ map (under number) ds) these;
      }

  module _ (member : Member) (s : StoreView) (opens : opens_as member x y ≡ Ok s) where
    -- a store that has its transaction
    with_transaction : (t : Iteration) (last : List Send) → (last ≡ []) ⊎ On (λ z. z ≡ store_view_kept me t) x y → (last ≡ []) ⊎ ((z : StoreView) × (s.kv ≡ z.kv) × (z ≡ store_view_kept me t))
    with_transaction t last (inl none) = inl none
    with_transaction t last (inr on) = let z = on_opens (λ v. v ≡ store_view_kept me t) member x y s on opens in inr (z.0, z.2, z.1)

    abbrev SaidSo : (last : List Send) (others : List (List Send)) → Type 0
    SaidSo last others = IsLifeThatSends i me number store_view clock link first given earlier s.kv (sent (happened me first start given (last ∷ others)))

    pub killed_says : (t : Iteration) (last : List Send) (others : List (List Send)) → last_iteration me first start given ≡ Ok t → AllSentBefore me first start given others → AreFirstSent (sends_of me t) last
        → LeavesKept me t last (IsWithinIteration me t) x y → SaidSo last others
    killed_says t last others is all front left =
        let z = on_opens (IsWithinIteration me t) member x y s left.0 opens in
        life_says t s.kv last others is all (stopped_says me t s.kv z.0 last z.2 z.1 front (with_transaction t last left.1))

    pub ends_says : (turns begun : ℕ) (e : NodeEnd) (left_clock : Option Readings) → Serves me start turns e begun left_clock left_link first given → (S : Said me first start given e)
        → Has (last_iteration me first start given) (λ t. LeavesKept me t S.last (RemainsAfter me t e left_link) x y) → SaidSo S.last S.others
    ends_says turns begun e left_clock serves S left = by (last_iteration me first start given) refl serves.ends S.last_sent left
      where
        by : (r : Result Iteration NodeEnd) → last_iteration me first start given ≡ r → Has r (λ t. EndsAfter me turns begun t e left_clock left_link) → Has r (λ t. SentAfter e (sends_of me t) S.last)
            → Has r (λ t. LeavesKept me t S.last (RemainsAfter me t e left_link) x y) → SaidSo S.last S.others
        by (Ok t) is h last on =
            let z = on_opens (RemainsAfter me t e left_link) member x y s on.0 opens in
            life_says t s.kv S.last S.others is S.others_sent (end_says me t s.kv z.0 left_link turns begun e left_clock S.last z.2 h last z.1 (with_transaction t S.last on.1))
        by (Err r) is h last on = absurd h

    abbrev Lived : Type 0
    Lived = IsLife i me number store_view clock link first given earlier s.kv left_link

    pub killed : (t : Iteration) → last_iteration me first start given ≡ Ok t → On (RemainsAfter me t end.OutOfMemory left_link) x y → Lived
    killed t is on =
        let z = on_opens (RemainsAfter me t end.OutOfMemory left_link) member x y s on opens in
        subst (λ (m : Store). IsLife i me number store_view clock link first given earlier m left_link) (sym z.2) (life_is t z.0.kv is (stopped me t z.0 left_link z.1))

    pub ends_so : (turns begun : ℕ) (e : NodeEnd) (left_clock : Option Readings) → Serves me start turns e begun left_clock left_link first given
        → Has (last_iteration me first start given) (λ t. On (RemainsAfter me t e left_link) x y) → Lived
    ends_so turns begun e left_clock S left = by (last_iteration me first start given) refl S.ends left
      where
        by : (r : Result Iteration NodeEnd) → last_iteration me first start given ≡ r → Has r (λ t. EndsAfter me turns begun t e left_clock left_link) → Has r (λ t. On (RemainsAfter me t e left_link) x y) → Lived
        by (Ok t) is h on =
            let z = on_opens (RemainsAfter me t e left_link) member x y s on opens in
            subst (λ (m : Store). IsLife i me number store_view clock link first given earlier m left_link) (sym z.2) (life_is t z.0.kv is (end_is me t z.0 left_link turns begun e left_clock h z.1))
        by (Err r) is h on = absurd h
