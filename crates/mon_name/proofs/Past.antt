-- A link that is asked past foreign datagrams.
use Rattle.std.proofs.Common.{◌≡◌, ℕ, zero, suc, Bool, true, false, not, List, Option, Some, None, is_some, Result, Ok, Err, refl, sym, ap, ◌∙◌, inl, inr}
use Rattle.mon_link.specs.Links.{LinkState, CallsNext, count_after}
use Rattle.mon_link.specs.declared.link.Got.TheVariants.{Closed, Datagram, Idle}
use Rattle.mon_link.specs.declared.link.Got.{Got}
use Rattle.mon_link.specs.declared.link.Peer.TheVariants.{Client, Monitor}
use Rattle.mon_types.specs.declared.names.Stop.{Stop}
use Rattle.mon_name.specs.Naming.{AsksPast, HandsOn, IsOpened, Takes, Unframes, Unless, if_framed, is_foreign, off_got}
use Rattle.mon_name.specs.Frames.{unframed}

-- it is asked once and gives no foreign datagram
pub asks_once : (most tag wait : ℕ) (last : Result Got Stop) (old new : LinkState) → is_foreign tag last ≡ false → CallsNext wait last old new → AsksPast most tag wait last old new
unfolding AsksPast
asks_once zero tag wait last old new own asks = asks
asks_once (suc most) tag wait last old new own asks = (last, new, asks, rw own (refl, refl))

-- it gives a foreign datagram and is asked again
pub asks_again : (most tag wait : ℕ) (first last : Result Got Stop) (old between new : LinkState) → is_foreign tag first ≡ true → CallsNext wait first old between → AsksPast most tag 0 last between new → AsksPast (suc most) tag wait last old new
unfolding AsksPast
asks_again most tag wait first last old between new foreign asks rest = (first, between, asks, rw foreign rest)

pub asks_last : (tag wait : ℕ) (last : Result Got Stop) (old new : LinkState) → CallsNext wait last old new → AsksPast 0 tag wait last old new
unfolding AsksPast
asks_last tag wait last old new asks = asks

-- ---- one call of the link below

-- its answer is the last one
abbrev pub Ends : (most tag wait : ℕ) → Result Got Stop → (old new : LinkState) → Type 0
Ends most tag wait result old new = (gave : Result Got Stop) × AsksPast most tag wait gave old new × HandsOn tag gave result

pub taken : (most tag wait : ℕ) (x : Got) (old new : LinkState) → Takes tag wait (Ok (Some x)) old new → Ends most tag wait (Ok x) old new
taken most tag wait x old new t = by t.gave t.asks t.opens
  where
    by : (gave : Result Got Stop) → CallsNext wait gave old new → IsOpened tag gave (Ok (Some x)) → Ends most tag wait (Ok x) old new
    by (Ok got) asks own = (Ok got, asks_once most tag wait (Ok got) old new own.0 asks, inl (ap (λ y. Ok y) own.1))
    by (Err e) asks own = absurd cc

pub failed : (most tag wait : ℕ) (e : Stop) (old new : LinkState) → Takes tag wait (Err e) old new → Ends most tag wait (Err e) old new
failed most tag wait e old new t = by t.gave t.asks t.opens
  where
    by : (gave : Result Got Stop) → CallsNext wait gave old new → IsOpened tag gave (Err e) → Ends most tag wait (Err e) old new
    by (Ok got) asks own = (Ok got, asks_once most tag wait (Ok got) old new own.0 asks, inr (ap (λ f. Err f) own.1, tt))
    by (Err f) asks same = (Err f, asks_once most tag wait (Err f) old new refl asks, inl cc)

pub goes_past : (most tag wait : ℕ) (last : Result Got Stop) (old between new : LinkState) → Takes tag wait (Ok None) old between → AsksPast most tag 0 last between new → AsksPast (suc most) tag wait last old new
goes_past most tag wait last old between new t rest = by t.gave t.asks t.opens
  where
    by : (gave : Result Got Stop) → CallsNext wait gave old between → IsOpened tag gave (Ok None) → AsksPast (suc most) tag wait last old new
    by (Ok got) asks foreign = asks_again most tag wait (Ok got) last old between new foreign asks rest
    by (Err e) asks foreign = absurd cc

pub foreign_idle : (tag : ℕ) (got : Got) → is_foreign tag (Ok got) ≡ true → off_got tag got ≡ Idle
foreign_idle tag (Datagram (Monitor j) bytes) e = by (unframed tag bytes) e
  where
    by : (o : Option (List ℕ)) → not (is_some o) ≡ true → if_framed (Monitor j) o ≡ Idle
    by (Some d) e = absurd cc
    by None e = refl
foreign_idle tag (Datagram (Client c) bytes) e = absurd cc
foreign_idle tag Idle e = refl
foreign_idle tag Closed e = absurd cc

pub last_foreign : (tag wait : ℕ) (old new : LinkState) → Takes tag wait (Ok None) old new → Ends 0 tag wait (Ok Idle) old new
last_foreign tag wait old new t = by t.gave t.asks t.opens
  where
    by : (gave : Result Got Stop) → CallsNext wait gave old new → IsOpened tag gave (Ok None) → Ends 0 tag wait (Ok Idle) old new
    by (Ok got) asks foreign = (Ok got, asks_last tag wait (Ok got) old new asks, inl (sym (ap (λ y. Ok y) (foreign_idle tag got foreign))))
    by (Err e) asks foreign = absurd cc

-- ---- what is counted

abbrev Counts : (last : Result Got Stop) → (old new : LinkState) → Type 0
Counts last old new = new.faults ≡ count_after last old.faults

is_got : (tag : ℕ) (answer : Result Got Stop) (count : ℕ) → is_foreign tag answer ≡ true → count_after answer count ≡ count
is_got tag (Ok got) count foreign = refl
is_got tag (Err e) count foreign = absurd cc

counts : (most tag wait : ℕ) (last : Result Got Stop) (old new : LinkState) → AsksPast most tag wait last old new → Counts last old new
unfolding AsksPast
counts zero tag wait last old new p = p.faults
counts (suc most) tag wait last old new p = by (is_foreign tag p.0) refl p.3 (counts most tag 0 last p.1 new)
  where
    by : (b : Bool) → is_foreign tag p.0 ≡ b → Unless b (AsksPast most tag 0) p.0 last p.1 new → (AsksPast most tag 0 last p.1 new → Counts last p.1 new) → Counts last old new
    by true foreign rest next =
        next rest ∙ ap (count_after last) (p.2.faults ∙ is_got tag p.0 old.faults foreign)
    by false foreign rest next =
        ap (λ (s : LinkState). s.faults) rest.1 ∙ p.2.faults ∙ ap (λ x. count_after x old.faults) (sym rest.0)

same_count : (tag : ℕ) (gave result : Result Got Stop) (count : ℕ) → HandsOn tag gave result → count_after gave count ≡ count_after result count
same_count tag (Ok got) result count (inl is) = rw is refl
same_count tag (Err e) result count (inl is) = rw is refl
same_count tag (Ok got) result count (inr none) = rw none.0 refl
same_count tag (Err e) result count (inr none) = absurd none.1

pub unframes_faults : (tag wait : ℕ) (result : Result Got Stop) (old new : LinkState) → Unframes tag wait result old new → new.faults ≡ count_after result old.faults
unframes_faults tag wait result old new u = counts _ tag wait u.gave old new u.asks ∙ same_count tag u.gave result old.faults u.hands
