-- What two disks represent while a store is created on them.
use Rattle.std.proofs.Common.{◌≡◌, ◌⊎◌, ℕ, ◌+◌, ◌≤◌, max, Bool, false, true, ◌&&◌, eqb, ltb, is_some, List, [], length, inl, inr, Option, Some, None, Result, Ok, Err, refl, sym, ap, subst, ◌∙◌, arith}
use Rattle.std.specs.Prelude.{IfSome, IfOk, slice_index_or}
use Rattle.std.specs.FinMap.{empty}
use Rattle.std.proofs.lemmas.Bool.{le-ltb}
use Rattle.mon_types.specs.declared.names.Side.{Side}
use Rattle.mon_types.specs.declared.names.Side.TheVariants.{A}
use Rattle.mon_types.specs.declared.member.Member.{Member}
use Rattle.mon_disk.specs.Calls.{Observed, DiskState}
use Rattle.mon_disk.specs.Images.{Content, images, Only, LeavesOnly}
use Rattle.mon_journal.specs.Content.{content, payloads_of, held_by, Holds}
use Rattle.mon_journal.specs.Written.{owner_of, created}
use Rattle.mon_journal.specs.Steps as disk
use Rattle.mon_journal.specs.Steps.{OnDisk, AlikeFrom, ByTest, ClosedFrom, CreatedFrom, made_more, Made, Keeps, Opens}
use Rattle.mon_journal.proofs.Counts.{count}
use Rattle.mon_store.specs.Payloads.{map_of}
use Rattle.mon_store.specs.Pair.{◌>>=◌, Create, found, map_found, stands, taken, opened}
use Rattle.mon_store.specs.Times.{WhileOpening}
use Rattle.mon_store.specs.Opening.{held_in, len_of, first_content, AlikePair, Alike, Settled}
use Rattle.mon_store.specs.StoreView.{standing_of, opens_as}
use Rattle.mon_store.specs.declared.opening.LiveStore.{LiveStore}
use Rattle.mon_store.specs.declared.stop.OpenStop.{OpenStop}
use Rattle.mon_types.specs.Sides.{other as other_side}
use Rattle.mon_store.specs.Sound.{of_live, IsBelow, Sound}
use Rattle.mon_store.proofs.Folds.{map_nothing}
use Rattle.mon_store.proofs.Pairs.{stands_for, opens_live}
use Rattle.mon_store.proofs.Sizes.{size_empty}
use Rattle.mon_store.proofs.Times.{weaker, then_first}
use Rattle.mon_store.proofs.Alike.{alike_found, alike_pair, is_alike, opened_b}

-- nothing is found on two closed disks on which a store may be created
empty_found : (c d : List ℕ) → content c ≡ None → length c ≤ 26 → content d ≡ None → length d ≡ 0 → found c d ≡ Ok Create
unfolding found
empty_found c d none_c short none_d nothing =
    let few : ltb 26 (length c) ≡ false = le-ltb _ _ short in
    let no_bytes : ltb 0 (length d) ≡ false = le-ltb _ _ (omega (arith, nothing)) in
    rw (none_c, none_d, few, no_bytes) refl

-- and so they represent the empty map
empty_pair : (c d : List ℕ) → found c d ≡ Ok Create → stands c d ≡ Ok empty
unfolding stands
empty_pair c d nothing = ap (λ f. f >>= map_found) nothing

-- the store that a member creates
abbrev new_store : Member → LiveStore
new_store member = record { side = A; journal = created member 1 None; kv = empty }

-- and opens on two disks on which nothing is found
empty_opens : (member : Member) (c d : List ℕ) → found c d ≡ Ok Create → opens_as member c d ≡ Ok (new_store member)
unfolding opened
empty_opens member c d nothing = ap (λ f. (f >>= taken (owner_of member)) >>= (λ it. Ok (standing_of member it.0 it.1))) nothing

-- a closed disk of at most `most` bytes, of which a crash leaves nothing else
pub record Closed (before now : Content) (most : ℕ) : Type 0 where
  pub only : Only now
  pub same : now.seen ≡ before.seen
  pub none : IfSome before.seen (λ file. (content file ≡ None) × (length file ≤ most))

pub closed_of : (on : OnDisk) (before now : Content) (known most : ℕ) → held_in on ≡ None → len_of on ≤ most → Opens before.seen known now (Ok on) → Closed before now most
closed_of (disk.Closed len) before now known most none short h = record { only = h.0; same = h.1; none = by before.seen h.3 }
  where
    by : (s : Option (List ℕ)) → IfSome s (λ file. (content file ≡ None) × (len ≡ length file)) → IfSome s (λ file. (content file ≡ None) × (length file ≤ most))
    by None g = tt
    by (Some file) g = (g.0, subst (λ (n : ℕ). n ≤ most) g.1 short)
closed_of (disk.Live journal payloads) before now known most none short h = absurd cc

closed_now : (before now : Content) (most : ℕ) → Closed before now most → (c : List ℕ) → images now c → (content c ≡ None) × (length c ≤ most)
closed_now before now most k c left = subst (λ (s : Option (List ℕ)). IfSome s (λ file. (content file ≡ None) × (length file ≤ most))) (sym k.same ∙ k.only c left) k.none

module _ (member : Member) (a a1 a2 b b1 : Content) (la : LeavesOnly a a1 (AlikeFrom a)) (lb : LeavesOnly b b1 (AlikeFrom b)) (ka : Closed a a1 26) (kb : Closed b b1 0) where
  alike_a : (c : List ℕ) → images a1 c → AlikeFrom a c
  alike_a c left = la.each a1.time c la.later (omega arith) left

  alike_b : (d : List ℕ) → images b1 d → AlikeFrom b d
  alike_b d left = lb.each b1.time d lb.later (omega arith) left

  nothing_there : (x : List ℕ) → images a1 x → (d : List ℕ) → images b1 d → found x d ≡ Ok Create
  nothing_there x left d there =
      let closed = closed_now a a1 26 ka x left in
      let none = closed_now b b1 0 kb d there in
      empty_found x d closed.0 closed.1 none.0 (omega (arith, none.1))

  -- a pair of images with the empty map is like a pair from before the call
  empty_then : (x : List ℕ) → images a1 x → (opening : Bool) (c d : List ℕ) → images b1 d → stands c d ≡ Ok empty → opens_as member c d ≡ Ok (new_store member) → content c ≡ first_content member opening x (Ok Create) → AlikePair member a b opening c d
  empty_then x left opening c d there is opens holds =
      let g = alike_a x left in
      let h = alike_b d there in
      let nothing = nothing_there x left d there in
      let before : found g.0 h.0 ≡ Ok Create = sym (alike_found x d g.0 h.0 g.2 g.3 h.2 h.3) ∙ nothing in
      record {
        on_a = g.0;
        on_b = h.0;
        left_a = g.1;
        left_b = h.1;
        stand = is ∙ sym (empty_pair g.0 h.0 before);
        opens = opens ∙ sym (empty_opens member g.0 h.0 before);
        first = holds ∙ same_first opening x g.0 g.2 ∙ ap (first_content member opening g.0) (sym before);
        second = h.2;
      }
    where
      same_first : (opening : Bool) (x y : List ℕ) → content x ≡ content y → first_content member opening x (Ok Create) ≡ first_content member opening y (Ok Create)
      same_first true x y same = refl
      same_first false x y same = same

  -- what a crash leaves during the creation
  during : (x : List ℕ) → images a1 x → (opening : Bool) (c d : List ℕ) → ByTest opening (Holds (created member 1 None) [] c) (images a1 c ⊎ ClosedFrom a1 26 c) → images b1 d → AlikePair member a b opening c d
  during x read true c d holds there =
      let none = closed_now b b1 0 kb d there in
      let below : IsBelow 1 (content d) = subst (IsBelow 1) (sym none.0) tt in
      let held = held_by (created member 1 None) [] in
      empty_then x read true c d there (stands_for A c d held empty holds below map_nothing) (opens_live member A c d held empty holds below map_nothing refl) holds
  during x read false c d (inl left) there = alike_pair member a b c d (alike_a c left) (alike_b d there)
  during x read false c d (inr closed) there =
      let none = closed_now b b1 0 kb d there in
      let old = closed_now a a1 26 ka closed.1.0 closed.1.1 in
      let long : length c ≤ max (length closed.1.0) 26 = closed.1.2 in
      let short : length c ≤ 26 = omega (arith, old.1, long) in
      let nothing = empty_found c d closed.0 short none.0 (omega (arith, none.1)) in
      empty_then x read false c d there (empty_pair c d nothing) (empty_opens member c d nothing) (closed.0 ∙ sym (closed_now a a1 26 ka x read).0)

  at_each : (x : List ℕ) → images a1 x → (c d : List ℕ) → CreatedFrom a1 (created member 1 None) [] c → images b1 d → Alike member a b c d
  at_each x read c d (inl left) there = (false, during x read false c d (inl left) there)
  at_each x read c d (inr (inl closed)) there = (false, during x read false c d (inr closed) there)
  at_each x read c d (inr (inr holds)) there = (true, during x read true c d holds there)

  -- an image that is read
  read_of : is_some a.seen ≡ true → IfSome a1.seen (images a1) → (x : List ℕ) × images a1 x
  read_of observed read = there a1.seen (ap is_some ka.same ∙ observed) read
    where
      there : (s : Option (List ℕ)) → is_some s ≡ true → IfSome s (images a1) → (x : List ℕ) × images a1 x
      there None some h = absurd cc
      there (Some x) some h = (x, h)

  -- the creation
  pub opened_c : LeavesOnly a1 a2 (CreatedFrom a1 (created member 1 None) []) → is_some a.seen ≡ true → IfSome a1.seen (images a1) → WhileOpening a b a2 b1 (Alike member a b)
  opened_c lc observed read =
      let x = read_of observed read in
      then_first a b a1 b1 a2 (CreatedFrom a1 (created member 1 None) []) (Alike member a b) (weaker a b a1 b1 (AlikePair member a b false) (Alike member a b) (opened_b a a1 b b1 la lb member) (is_alike member a b)) lc (at_each x.0 x.1)

  -- and what the disks settle to
  pub settled_c : (observed mid last other : Option Observed) → is_some a.seen ≡ true → IfSome a1.seen (images a1) → (is_some observed ≡ true → (count mid ≡ count observed + 1) × (is_some mid ≡ true))
      → IfSome mid (λ s. IfSome last (λ t. Made a1 (created member 1 None) [] (made_more 4 s t) (t.settles t.made))) → IfSome other (λ u. images b1 (u.settles u.made))
      → IfSome observed (λ s. IfSome last (λ t. IfSome other (λ u. Settled member a b s t u)))
  settled_c None mid last other some read one made there = tt
  settled_c (Some s) None last other some read one made there = let bad : false ≡ true = (one refl).1 in absurd cc
  settled_c (Some s) (Some m) None other some read one made there = tt
  settled_c (Some s) (Some m) (Some t) None some read one made there = tt
  settled_c (Some s) (Some m) (Some t) (Some u) some read one made there =
      let x = read_of some read in
      let counts : length m.made + 4 ≡ length s.made + 5 = let o = (one refl).0 in omega (arith, o) in
      let same : made_more 4 m t ≡ made_more 5 s t = ap (λ (n : ℕ). ltb n (length t.made)) counts in
      let left : Made a1 (created member 1 None) [] (made_more 5 s t) (t.settles t.made) = subst (λ (b : Bool). Made a1 (created member 1 None) [] b (t.settles t.made)) same made in
      during x.0 x.1 (eqb (slice_index_or (t.settles t.made) 0 0) 1 && made_more 5 s t) (t.settles t.made) (u.settles u.made) left there

  -- the created store is on its disks
  pub sound_c : (known : ℕ) (m : Rattle.mon_tx.specs.Map.Store) → m ≡ empty → Keeps (created member 1 None) [] known a2 → Sound (created member 1 None) m known a2 b1
  sound_c known m is keeps = record {
    stands_live = keeps.stands;
    only_other = kb.only;
    below = subst (λ (s : Option (List ℕ)). IfSome s (λ file. IsBelow 1 (content file))) (sym kb.same) (aside b.seen kb.none);
    map = by a2.seen keeps.payloads_are;
    size = size_empty m is;
  }
    where
      aside : (s : Option (List ℕ)) → IfSome s (λ file. (content file ≡ None) × (length file ≤ 0)) → IfSome s (λ file. IsBelow 1 (content file))
      aside None h = tt
      aside (Some file) h = subst (IsBelow 1) (sym h.0) tt

      by : (s : Option (List ℕ)) → IfSome s (λ file. payloads_of file ≡ []) → IfSome s (λ file. map_of (payloads_of file) ≡ Ok m)
      by None h = tt
      by (Some file) h = ap map_of h ∙ map_nothing ∙ ap (λ n. Ok n) (sym is)

-- the same for every result of the creation
pub sound_new : {D : Type 0} (state : D → DiskState) (member : Member) (before_a before_b : Content) (on_a mid_a on_b : D) → LeavesOnly before_a (state mid_a).content (AlikeFrom before_a) → LeavesOnly before_b (state on_b).content (AlikeFrom before_b)
    → Closed before_a (state mid_a).content 26 → Closed before_b (state on_b).content 0 → (result : Result LiveStore OpenStop) → IfOk result (λ s. s.side ≡ A) → IfOk result (λ s. s.journal ≡ created member 1 None) → IfOk result (λ s. s.kv ≡ empty)
    → IfOk result (λ s. Keeps s.journal [] (state on_a).known (state on_a).content)
    → IfOk result (λ s. Sound s.journal s.kv (state (of_live s.side on_a on_b)).known (state (of_live s.side on_a on_b)).content (state (of_live (other_side s.side) on_a on_b)).content)
sound_new state member before_a before_b on_a mid_a on_b la lb ka kb (Err e) side journal map kept = tt
sound_new state member before_a before_b on_a mid_a on_b la lb ka kb (Ok s) side journal map kept =
    let keeps : Keeps (created member 1 None) [] (state on_a).known (state on_a).content = subst (λ j. Keeps j [] (state on_a).known (state on_a).content) journal kept in
    let sound : Sound (created member 1 None) s.kv (state on_a).known (state on_a).content (state on_b).content =
    sound_c member before_a (state mid_a).content (state on_a).content before_b (state on_b).content la lb ka kb (state on_a).known s.kv map keeps in
    subst (λ (t : Side). Sound s.journal s.kv (state (of_live t on_a on_b)).known (state (of_live t on_a on_b)).content (state (of_live (other_side t) on_a on_b)).content) (sym side)
    (subst (λ j. Sound j s.kv (state on_a).known (state on_a).content (state on_b).content) (sym journal) sound)
