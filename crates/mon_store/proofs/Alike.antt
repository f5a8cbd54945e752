-- What two disks represent while they are opened.
use Rattle.std.proofs.Common.{◌≡◌, ℕ, ◌+◌, ◌≤◌, Bool, true, false, ◌&&◌, eqb, is_some, List, [], ◌∷◌, length, Option, Some, None, Result, Ok, Err, refl, ap, subst, arith}
use Rattle.std.specs.Prelude.{IfSome, slice_index_or}
use Rattle.std.proofs.lemmas.Bool.{le-ltb}
use Rattle.mon_types.specs.declared.names.Side.{Side}
use Rattle.mon_types.specs.declared.names.Side.TheVariants.{A, B}
use Rattle.mon_types.specs.declared.member.Member.{Member}
use Rattle.mon_disk.specs.declared.disk.DiskCall.{DiskCall}
use Rattle.mon_disk.specs.declared.disk.DiskCall.TheVariants.{Sync}
use Rattle.mon_types.specs.declared.names.Stop.{Stop}
use Rattle.mon_disk.specs.Calls.{Observed, DiskState, Makes}
use Rattle.mon_disk.specs.Images.{Content, images, LeavesOnly}
use Rattle.mon_journal.specs.declared.stop.JournalStop.{JournalStop}
use Rattle.mon_journal.specs.declared.stop.JournalStop.TheVariants as journal
use Rattle.mon_journal.specs.Steps as disk
use Rattle.mon_journal.specs.Content.{Held, content, held_by}
use Rattle.mon_journal.specs.Steps.{OnDisk, AlikeFrom, Opens, OpensBy, open_calls, made_more}
use Rattle.mon_journal.proofs.Counts.{count, at_most, all_made}
use Rattle.mon_store.specs.declared.stop.OpenStop.TheVariants.{DiskFault, OutOfMemory}
use Rattle.mon_store.specs.Pair.{NotAStore, held_on, found, stands, opened}
use Rattle.mon_store.specs.Times.{EachPair, Meanwhile}
use Rattle.mon_store.specs.Opening.{held_in, named, IsStopOf, AlikePair, Alike, Settled}
use Rattle.mon_store.specs.StoreView.{opens_as}
use Rattle.mon_store.proofs.Times.{first_goes, both_go}

-- what is found depends only on the files' contents and lengths
pub alike_found : (c d e f : List ℕ) → content c ≡ content e → length c ≡ length e → content d ≡ content f → length d ≡ length f → found c d ≡ found e f
unfolding found
alike_found c d e f same_a long_a same_b long_b = rw (same_a, same_b, long_a, long_b) refl

-- what two images represent depends only on their contents and lengths
pub alike_stands : (c d e f : List ℕ) → content c ≡ content e → length c ≡ length e → content d ≡ content f → length d ≡ length f → stands c d ≡ stands e f
unfolding stands found
alike_stands c d e f same_a long_a same_b long_b = rw (same_a, same_b, long_a, long_b) refl

-- and so does what a member opens on them
pub alike_opens : (member : Member) (c d e f : List ℕ) → content c ≡ content e → length c ≡ length e → content d ≡ content f → length d ≡ length f → opens_as member c d ≡ opens_as member e f
unfolding opened found
alike_opens member c d e f same_a long_a same_b long_b = rw (same_a, same_b, long_a, long_b) refl

-- two images with the contents and lengths of earlier ones are alike
pub alike_pair : (member : Member) (a b : Content) (c d : List ℕ) → AlikeFrom a c → AlikeFrom b d → AlikePair member a b false c d
alike_pair member a b c d g h = record {
  on_a = g.0;
  on_b = h.0;
  left_a = g.1;
  left_b = h.1;
  stand = alike_stands c d g.0 h.0 g.2 g.3 h.2 h.3;
  opens = alike_opens member c d g.0 h.0 g.2 g.3 h.2 h.3;
  first = g.2;
  second = h.2;
}

-- disk A is opened
pub opened_a : (a a1 b : Content) → LeavesOnly a a1 (AlikeFrom a) → (member : Member) → Meanwhile a b a1 b (AlikePair member a b false)
opened_a a a1 b l member = first_goes a a1 b (AlikeFrom a) (AlikePair member a b false) l (λ c d h there. alike_pair member a b c d h (d, there, refl, refl))

-- and then disk B
pub opened_b : (a a1 b b1 : Content) → LeavesOnly a a1 (AlikeFrom a) → LeavesOnly b b1 (AlikeFrom b) → (member : Member) → Meanwhile a b a1 b1 (AlikePair member a b false)
opened_b a a1 b b1 l k member = both_go a a1 b b1 (AlikeFrom a) (AlikeFrom b) (AlikePair member a b false) l k (λ c d g h. alike_pair member a b c d g h)

-- with nothing opened, and what they settle to then
pub is_alike : (member : Member) (a b : Content) (c d : List ℕ) → AlikePair member a b false c d → Alike member a b c d
is_alike member a b c d h = (false, h)

pub both_settle : (member : Member) (a b x y : Content) (observed now_a now_b : Option Observed) → EachPair x y (AlikePair member a b false) → IfSome observed (λ s. IfSome now_a (λ t. made_more 5 s t ≡ false))
    → IfSome now_a (λ t. images x (t.settles t.made)) → IfSome now_b (λ t. images y (t.settles t.made)) → IfSome observed (λ s. IfSome now_a (λ t. IfSome now_b (λ u. Settled member a b s t u)))
both_settle member a b x y None now_a now_b each few left there = tt
both_settle member a b x y (Some s) None now_b each few left there = tt
both_settle member a b x y (Some s) (Some t) None each few left there = tt
both_settle member a b x y (Some s) (Some t) (Some u) each few left there = rw few (by (eqb (slice_index_or (t.settles t.made) 0 0) 1))
  where
    by : (opened : Bool) → AlikePair member a b (opened && false) (t.settles t.made) (u.settles u.made)
    by true = each (t.settles t.made) (u.settles u.made) left there
    by false = each (t.settles t.made) (u.settles u.made) left there

-- the calls of opening a disk whose contents can be seen
pub made_by : (stop : Option Stop) (old new : DiskState) → OpensBy stop old new → IfSome old.content.seen (λ file. Makes (open_calls (content file)) stop old.observed new.observed)
made_by stop old new (calls, called, are) = by old.content.seen are
  where
    by : (s : Option (List ℕ)) → IfSome s (λ file. calls ≡ open_calls (content file)) → IfSome s (λ file. Makes (open_calls (content file)) stop old.observed new.observed)
    by None h = tt
    by (Some file) h = subst (λ (cs : List DiskCall). Makes cs stop old.observed new.observed) h called.made

-- opening a disk makes three calls at most
three : (k : Option (Result Held JournalStop)) → length (open_calls k) ≤ 3
three None = omega arith
three (Some (Ok held)) = omega arith
three (Some (Err e)) = omega arith

pub few_calls : (seen : Option (List ℕ)) (observed now : Option Observed) (stop : Option Stop) → IfSome seen (λ file. Makes (open_calls (content file)) stop observed now) → IfSome seen (λ file. IfSome observed (λ s. IfSome now (λ t. made_more 5 s t ≡ false)))
few_calls None observed now stop made = tt
few_calls (Some file) None now stop made = tt
few_calls (Some file) (Some s) None stop made = tt
few_calls (Some file) (Some s) (Some t) stop made = le-ltb _ _ (omega (arith, at_most (open_calls (content file)) (Some s) (Some t) stop made, three (content file)))

pub when_some : {X : Type 0} (s : Option X) (P : Type 0) → is_some s ≡ true → IfSome s (λ x. P) → P
when_some None P some h = absurd cc
when_some (Some x) P some h = h

-- opening a closed disk makes one call
pub one_call : (most : ℕ) (seen : Option (List ℕ)) (observed now : Option Observed) → is_some seen ≡ true → IfSome seen (λ file. (content file ≡ None) × (length file ≤ most)) → IfSome seen (λ file. Makes (open_calls (content file)) None observed now)
    → is_some observed ≡ true → (count now ≡ count observed + 1) × (is_some now ≡ true)
one_call most None observed now some closed made there = absurd cc
one_call most (Some file) observed now some closed made there = all_made (Sync ∷ []) observed now there (subst (λ (k : Option (Result Held JournalStop)). Makes (open_calls k) None observed now) closed.0 made)

pub each_observed : (s t : Option (List ℕ)) (P : List ℕ → List ℕ → Type 0) → ((x y : List ℕ) → s ≡ Some x → t ≡ Some y → P x y) → IfSome s (λ x. IfSome t (λ y. P x y))
each_observed None t P h = tt
each_observed (Some x) None P h = tt
each_observed (Some x) (Some y) P h = h x y refl refl

pub at_some : {X : Type 0} (s : Option X) (x : X) (P : X → Type 0) → s ≡ Some x → IfSome s P → P x
at_some s x P is h = subst (λ t. IfSome t P) is h

-- what opening a disk found out about its bytes
pub holds : (on : OnDisk) (s : Option (List ℕ)) (known : ℕ) (new : Content) (x : List ℕ) → s ≡ Some x → Opens s known new (Ok on) → (side : Side) → held_on side (content x) ≡ Ok (held_in on)
holds (disk.Closed len) s known new x is h side = ap (held_on side) (at_some s x (λ file. (content file ≡ None) × (len ≡ length file)) is h.3).0
holds (disk.Live journal payloads) s known new x is h side = ap (held_on side) (at_some s x (λ file. content file ≡ Some (Ok (held_by journal payloads))) is h.1)

-- a refusal of disk A refuses the two disks
pub refused_a : (e : JournalStop) (s t : Option (List ℕ)) (known : ℕ) (new : Content) → Opens s known new (Err e) → IfSome s (λ x. IfSome t (λ y. IsStopOf (named A e) (found x y)))
unfolding found
refused_a journal.DiskFault s t known new h = each_observed s t (λ x y. IsStopOf DiskFault (found x y)) (λ x y p q. tt)
refused_a journal.OutOfMemory s t known new h = each_observed s t (λ x y. IsStopOf OutOfMemory (found x y)) (λ x y p q. tt)
refused_a (journal.NotAStore at) s t known new h = each_observed s t (λ x y. found x y ≡ Err (NotAStore A at)) (λ x y p q. rw (at_some s x (λ file. content file ≡ Some (Err (journal.NotAStore at))) p h.2) refl)

-- a refusal of disk B refuses the two disks, if disk A isn't refused
pub refused_b : (e : JournalStop) (on : OnDisk) (s t : Option (List ℕ)) (known_a known : ℕ) (new_a new : Content) → Opens s known_a new_a (Ok on) → Opens t known new (Err e) → IfSome s (λ x. IfSome t (λ y. IsStopOf (named B e) (found x y)))
unfolding found
refused_b journal.DiskFault on s t known_a known new_a new h k = each_observed s t (λ x y. IsStopOf DiskFault (found x y)) (λ x y p q. tt)
refused_b journal.OutOfMemory on s t known_a known new_a new h k = each_observed s t (λ x y. IsStopOf OutOfMemory (found x y)) (λ x y p q. tt)
refused_b (journal.NotAStore at) on s t known_a known new_a new h k =
    each_observed s t (λ x y. found x y ≡ Err (NotAStore B at)) (λ x y p q. rw (holds on s known_a new_a x p h A, at_some t y (λ file. content file ≡ Some (Err (journal.NotAStore at))) q k.2) refl)
