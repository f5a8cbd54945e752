-- Datagrams that are sent one after the other.
use Rattle.std.proofs.Common.{◌≡◌, ℕ, zero, suc, ◌+◌, ◌^◌, ◌<◌, ◌≤◌, min, map, Bool, true, false, cond, nat_lt, List, [], ◌∷◌, ◌++◌, length, take, drop, get_or, Option, Some, None, Ok, Err, refl, sym, ap, subst, ◌∙◌, append_assoc, add-one, arith}
use Rattle.std.specs.Prelude.{option_map}
use Rattle.std.proofs.lemmas.Bool.{le-ltb, ltb-true}
use Rattle.std.proofs.lemmas.List.{append-nil, take_min, take-append-le, drop_all}
use Rattle.std.specs.List.{AllByRecursion}
use Rattle.mon_kv.specs.Readers.{epoch}
use Rattle.std.proofs.Math.Seq.{drop-cons, take-append-add}
use Rattle.mon_link.specs.Histories.{Happened}
use Rattle.mon_link.specs.Links.{LinkState, Observed}
use Rattle.mon_link.specs.declared.link.Outgoing.{Outgoing}
use Rattle.mon_link.specs.declared.link.Peer.{Peer}
use Rattle.mon_msg.specs.declared.plan.Sent.{Sent}
use Rattle.mon_msg.specs.declared.view.Me.{Me}
use Rattle.mon_tx.specs.Map.{Store}
use Rattle.mon_types.specs.declared.names.Which.TheVariants as which
use Rattle.mon_node.specs.Posting.{and_sent, SendsAll, SendsPrefix, Posts, IsSpent, to_peer, letter, letters, next_after_message, next_after, with_number, datagrams_of, datagrams, boot_in}
use Rattle.mon_node.specs.Sends.{LinkNow, Went, WentFirst}
use Rattle.mon_node.specs.declared.end.NodeEnd.TheVariants as end
use Rattle.mon_node.specs.declared.end.NodeEnd.{NodeEnd}
use Rattle.mon_node.proofs.Sends.{first_more, first_still, first_whole, none_first, none_went, went_first, went_more}

-- ---- one after the other

and_none : (t : Observed) → t ≡ and_sent [] t
and_none t = ap (λ (ds : List Outgoing). record t { sent = ds }) (sym (append-nil t.sent))

pub none_sent : (o : Option Observed) → SendsAll [] o o
none_sent None = refl
none_sent (Some t) = ap (λ (x : Observed). Some x) (and_none t)

both_sent : (ds es : List Outgoing) (o : Option Observed) → option_map (and_sent es) (option_map (and_sent ds) o) ≡ option_map (and_sent (ds ++ es)) o
both_sent ds es None = refl
both_sent ds es (Some t) = ap (λ (xs : List Outgoing). Some (record t { sent = xs })) (append_assoc t.sent ds es)

pub sent_more : (ds es : List Outgoing) (a b c : Option Observed) → SendsAll ds a b → SendsAll es b c → SendsAll (ds ++ es) a c
sent_more ds es a b c first then_ = then_ ∙ ap (option_map (and_sent es)) first ∙ both_sent ds es a

front_more : (ds es : List Outgoing) (a b c : Option Observed) → SendsAll ds a b → SendsPrefix es b c → SendsPrefix (ds ++ es) a c
front_more ds es a b c first (n, h) =
    (length ds + n, sent_more ds (take n es) a b c first h ∙ ap (λ (xs : List Outgoing). option_map (and_sent xs) a) (sym (take-append-add ds es n)))

front_whole : (ds es : List Outgoing) (a b : Option Observed) → SendsPrefix ds a b → SendsPrefix (ds ++ es) a b
front_whole ds es a b (n, h) =
    let k : ℕ = min n (length ds) in
    let same : take n ds ≡ take k (ds ++ es) = sym (take_min n ds) ∙ sym (take-append-le k ds es (omega arith)) in
    (k, h ∙ ap (λ (xs : List Outgoing). option_map (and_sent xs) a) same)

pub none_in_front : (ds : List Outgoing) (o : Option Observed) → SendsPrefix ds o o
none_in_front ds o = (0, none_sent o)

-- ---- while some are left

-- Some of them were sent, and these are left.
pub record IsSending (whole left : List Outgoing) (old now : LinkNow) : Type 0 where
  pub done : List Outgoing
  pub observed : SendsAll done old.state.observed now.state.observed
  pub went : Went done old.history now.history
  pub whole_is : whole ≡ done ++ left
  pub faults : now.state.faults ≡ old.state.faults

pub sending : (whole : List Outgoing) (o : LinkNow) → IsSending whole whole o o
sending whole o = record { done = []; observed = none_sent o.state.observed; went = none_went o.history; whole_is = refl; faults = refl }

module _ (whole ds left : List Outgoing) (old now new : LinkNow) (so_far : IsSending whole (ds ++ left) old now) where
  whole_as : whole ≡ (so_far.done ++ ds) ++ left
  whole_as = so_far.whole_is ∙ sym (append_assoc so_far.done ds left)

  pub sends_on : {T E : Type 0} (x : T) → Posts {T = T} {E = E} ds (Ok x) now new → IsSending whole left old new
  sends_on x h = record {
    done = so_far.done ++ ds;
    observed = sent_more so_far.done ds old.state.observed now.state.observed new.state.observed so_far.observed h.observed;
    went = went_more so_far.done ds old.history now.history new.history so_far.went h.went;
    whole_is = whole_as;
    faults = h.faults ∙ so_far.faults;
  }

  pub sends_front : {T E U F : Type 0} (e : E) (f : F) → Posts {T = T} {E = E} ds (Err e) now new → Posts {T = U} {E = F} whole (Err f) old new
  sends_front e f h =
      let front : SendsPrefix (so_far.done ++ ds) old.state.observed new.state.observed = front_more so_far.done ds old.state.observed now.state.observed new.state.observed so_far.observed h.observed in
      let went : WentFirst (so_far.done ++ ds) old.history new.history = first_more so_far.done ds old.history now.history new.history so_far.went h.went in
      record {
        observed = subst (λ (xs : List Outgoing). SendsPrefix xs old.state.observed new.state.observed) (sym whole_as) (front_whole (so_far.done ++ ds) left old.state.observed new.state.observed front);
        went = subst (λ (xs : List Outgoing). WentFirst xs old.history new.history) (sym whole_as) (first_whole (so_far.done ++ ds) left old.history new.history went);
        faults = h.faults ∙ so_far.faults;
      }

-- if the node ends before the rest is sent, a prefix of all of them was sent
pub sends_none : {U F : Type 0} (whole left : List Outgoing) (old now : LinkNow) (f : F) → IsSending whole left old now → Posts {T = U} {E = F} whole (Err f) old now
sends_none whole left old now f so_far = record {
  observed = subst (λ (xs : List Outgoing). SendsPrefix xs old.state.observed now.state.observed) (sym so_far.whole_is) (front_whole so_far.done left old.state.observed now.state.observed (length so_far.done, so_far.observed ∙ ap (λ (xs : List Outgoing). option_map (and_sent xs) old.state.observed) (sym (all_of so_far.done))));
  went = subst (λ (xs : List Outgoing). WentFirst xs old.history now.history) (sym so_far.whole_is) (went_first so_far.done left old.history now.history so_far.went);
  faults = so_far.faults;
}
  where
    all_of : (xs : List Outgoing) → take (length xs) xs ≡ xs
    all_of [] = refl
    all_of (x ∷ xs) = ap (λ (ys : List Outgoing). x ∷ ys) (all_of xs)

pub sent_all : {T E : Type 0} (whole : List Outgoing) (old now : LinkNow) (x : T) → IsSending whole [] old now → Posts {T = T} {E = E} whole (Ok x) old now
sent_all whole old now x so_far = record {
  observed = so_far.observed ∙ ap (λ (xs : List Outgoing). option_map (and_sent xs) old.state.observed) (sym (so_far.whole_is ∙ append-nil so_far.done));
  went = subst (λ (xs : List Outgoing). Went xs old.history now.history) (sym (so_far.whole_is ∙ append-nil so_far.done)) so_far.went;
  faults = so_far.faults;
}

-- ---- the next of a list

pub next_item : {X : Type 0} (xs : List X) (k : ℕ) (x : X) → k < length xs → x ≡ get_or xs k x → drop k xs ≡ x ∷ drop (k + 1) xs
next_item xs k x within is = drop-cons xs k x within ∙ (λ i. sym is i ∷ drop (sym (add-one k) i) xs)

-- if the node ends before anything is sent, the empty prefix was sent
pub posts_none : {T E : Type 0} (ds : List Outgoing) (o : LinkNow) (e : E) → Posts {T = T} {E = E} ds (Err e) o o
posts_none ds o e = record { observed = none_in_front ds o.state.observed; went = none_first ds o.history; faults = refl }

pub posts_as : {T E U F : Type 0} (ds : List Outgoing) (old new : LinkNow) (e : E) (f : F) → Posts {T = T} {E = E} ds (Err e) old new → Posts {T = U} {E = F} ds (Err f) old new
posts_as ds old new e f h = record { observed = h.observed; went = h.went; faults = h.faults }

none_left : {X : Type 0} (xs : List X) (k : ℕ) → length xs ≤ k → drop k xs ≡ []
none_left xs k past = drop_all k xs past

-- ---- datagrams to one peer

module _ (to : Peer) (ds : List (List ℕ)) (k : ℕ) (whole : List Outgoing) (old now : LinkNow) (so_far : IsSending whole (map (to_peer to) (drop k ds)) old now) where
  module _ (x bytes : List ℕ) (within : k < length ds) (item : x ≡ get_or ds k x) (is : bytes ≡ x) where
    at_item : IsSending whole ((to_peer to bytes ∷ []) ++ map (to_peer to) (drop (k + 1) ds)) old now
    at_item = subst (λ (xs : List (List ℕ)). IsSending whole (map (to_peer to) xs) old now) (next_item ds k x within item ∙ (λ i. sym is i ∷ drop (k + 1) ds)) so_far

    pub each_next : {T E : Type 0} (new : LinkNow) (u : T) → Posts {T = T} {E = E} (to_peer to bytes ∷ []) (Ok u) now new → IsSending whole (map (to_peer to) (drop (k + 1) ds)) old new
    each_next new u h = sends_on whole (to_peer to bytes ∷ []) (map (to_peer to) (drop (k + 1) ds)) old now new at_item u h

    pub each_stops : {T E U F : Type 0} (new : LinkNow) (e : E) (f : F) → Posts {T = T} {E = E} (to_peer to bytes ∷ []) (Err e) now new → Posts {T = U} {E = F} whole (Err f) old new
    each_stops new e f h = sends_front whole (to_peer to bytes ∷ []) (map (to_peer to) (drop (k + 1) ds)) old now new at_item e f h

  pub each_done : {T E : Type 0} (u : T) → length ds ≤ k → Posts {T = T} {E = E} whole (Ok u) old now
  each_done u past = sent_all whole old now u (subst (λ (xs : List (List ℕ)). IsSending whole (map (to_peer to) xs) old now) (none_left ds k past) so_far)

-- ---- messages

or_more : (b : Bool) (n : ℕ) → n ≤ cond b (n + 1) n
or_more true n = omega arith
or_more false n = omega arith

next_after_message-le : (n len : ℕ) → n ≤ next_after_message n len
next_after_message-le n len = or_more (nat_lt 60000 len) n

le_then : (a b c : ℕ) → a ≤ b → b ≤ c → a ≤ c
le_then a b c h k = omega arith

lt_then : (a b c : ℕ) → a < b → b ≤ c → a < c
lt_then a b c h k = omega arith

pub next_after-le : (n : ℕ) (ls : List Outgoing) → n ≤ next_after n ls
next_after-le n [] = omega arith
next_after-le n (l ∷ ls) = le_then n (next_after_message n (length l.bytes)) (next_after (next_after_message n (length l.bytes)) ls) (next_after_message-le n (length l.bytes)) (next_after-le (next_after_message n (length l.bytes)) ls)

pub spent_on : (n m : ℕ) (e : NodeEnd) → n ≤ m → IsSpent n e → IsSpent m e
spent_on n m end.OutOfMemory le why = tt
spent_on n m (end.Spent which.Seq) le why = lt_then (2 ^ 62 + 1) n m why le
spent_on n m (end.Spent which.Epoch) le why = absurd why
spent_on n m (end.Spent which.Pn) le why = absurd why
spent_on n m (end.Spent which.Version) le why = absurd why
spent_on n m (end.Spent which.Boot) le why = absurd why
spent_on n m (end.Spent which.Cookie) le why = absurd why
spent_on n m end.Closed le why = absurd why
spent_on n m end.TurnsUsed le why = absurd why
spent_on n m end.DiskFault le why = absurd why
spent_on n m end.LinkFault le why = absurd why
spent_on n m (end.Full would_be) le why = absurd why

-- If the number after all of them is within its bound, all of them are sent.
pub all_numbered : (next : ℕ) (ls : List Outgoing) → next_after next ls ≤ 2 ^ 62 + 1 → with_number next ls ≡ ls
all_numbered next [] within = refl
all_numbered next (l ∷ ls) within =
    let behind : ℕ = next_after_message next (length l.bytes) in
    let finds : nat_lt (2 ^ 62 + 1) behind ≡ false = le-ltb (2 ^ 62 + 1) behind (le_then behind (next_after behind ls) (2 ^ 62 + 1) (next_after-le behind ls) within) in
    ap (λ (b : Bool). cond b [] (l ∷ with_number behind ls)) finds ∙ ap (λ (xs : List Outgoing). l ∷ xs) (all_numbered behind ls within)

-- The first k of these were sent under numbers from `first` on, and `next` is the number that is next. What is still to
-- be sent are the others, up to the first for which no number is left.
pub record AreSentSoFar (me : Me) (m : Store) (first : ℕ) (out : List Sent) (k next : ℕ) (old now : LinkNow) : Type 0 where
  pub sends : IsSending (datagrams (boot_in m) first (with_number first (letters me m out))) (datagrams (boot_in m) next (with_number next (letters me m (drop k out)))) old now
  pub numbers : next_after first (letters me m out) ≡ next_after next (letters me m (drop k out))
  pub most : next ≤ 2 ^ 62 + 1

pub all_left : (me : Me) (m : Store) (first : ℕ) (out : List Sent) (o : LinkNow) → first ≤ 2 ^ 62 + 1 → AreSentSoFar me m first out 0 first o o
all_left me m first out o most = record { sends = sending (datagrams (boot_in m) first (with_number first (letters me m out))) o; numbers = refl; most = most }

module _ (me : Me) (m : Store) (first : ℕ) (out : List Sent) (k next : ℕ) (old now : LinkNow) (so_far : AreSentSoFar me m first out k next old now) where
  abbrev all : List Outgoing
  all = datagrams (boot_in m) first (with_number first (letters me m out))

  pub never_sent : {T : Type 0} → Posts {T = T} {E = NodeEnd} all (Err end.OutOfMemory) old now
  never_sent = sends_none all (datagrams (boot_in m) next (with_number next (letters me m (drop k out)))) old now end.OutOfMemory so_far.sends

  module _ (x : Sent) (l : Outgoing) (within : k < length out) (item : x ≡ get_or out k x) (is : l ≡ letter me (epoch m) x) where
    letters_are : letters me m (drop k out) ≡ l ∷ letters me m (drop (k + 1) out)
    letters_are = ap (λ (xs : List Sent). letters me m xs) (next_item out k x within item) ∙ (λ i. sym is i ∷ letters me m (drop (k + 1) out))

    abbrev behind : ℕ
    behind = next_after_message next (length l.bytes)

    abbrev later : List Outgoing
    later = datagrams (boot_in m) behind (with_number behind (letters me m (drop (k + 1) out)))

    -- what is left, by whether it finds no number
    abbrev left_if : Bool → List Outgoing
    left_if spent = datagrams (boot_in m) next (cond spent [] (l ∷ with_number behind (letters me m (drop (k + 1) out))))

    at_letter : (spent : Bool) → nat_lt (2 ^ 62 + 1) behind ≡ spent → IsSending all (left_if spent) old now
    at_letter spent e = subst (λ (b : Bool). IsSending all (left_if b) old now) e
        (subst (λ (ls : List Outgoing). IsSending all (datagrams (boot_in m) next (with_number next ls)) old now) letters_are so_far.sends)

    numbers_are : next_after first (letters me m out) ≡ next_after behind (letters me m (drop (k + 1) out))
    numbers_are = so_far.numbers ∙ ap (next_after next) letters_are

    pub letter_sent : {T E : Type 0} (new : LinkNow) (u : T) (n : ℕ) → n ≡ behind → n ≤ 2 ^ 62 + 1 → Posts {T = T} {E = E} (datagrams_of (boot_in m) next l) (Ok u) now new → AreSentSoFar me m first out (k + 1) n old new
    letter_sent new u n n_is most h =
        let finds : nat_lt (2 ^ 62 + 1) behind ≡ false = le-ltb (2 ^ 62 + 1) behind (subst (λ (v : ℕ). v ≤ 2 ^ 62 + 1) n_is most) in
        record {
          sends = subst (λ (v : ℕ). IsSending all (datagrams (boot_in m) v (with_number v (letters me m (drop (k + 1) out)))) old new) (sym n_is) (sends_on all (datagrams_of (boot_in m) next l) later old now new (at_letter false finds) u h);
          numbers = numbers_are ∙ ap (λ (v : ℕ). next_after v (letters me m (drop (k + 1) out))) (sym n_is);
          most = most;
        }

    -- one that finds no number isn't sent
    pub letter_stops : {T U E : Type 0} (new : LinkNow) (e : E) (f : NodeEnd) → Posts {T = T} {E = E} (datagrams_of (boot_in m) next l) (Err e) now new → (2 ^ 62 + 1 < behind → (new.state ≡ now.state) × ((h : List Happened) → now.history h → new.history h))
        → Posts {T = U} {E = NodeEnd} all (Err f) old new
    letter_stops {T} {U} {E} new e f h unsent = by (nat_lt (2 ^ 62 + 1) behind) refl
      where
        by : (spent : Bool) → nat_lt (2 ^ 62 + 1) behind ≡ spent → Posts {T = U} {E = NodeEnd} all (Err f) old new
        by true is =
            let still = unsent (ltb-true (2 ^ 62 + 1) behind is) in
            let before : Posts {T = U} {E = NodeEnd} all (Err f) old now = sends_none all (left_if true) old now f (at_letter true is) in
            record {
              observed = subst (λ (s : LinkState). SendsPrefix all old.state.observed s.observed) (sym still.0) before.observed;
              went = first_still all old.history now.history new.history before.went still.1;
              faults = ap (λ (s : LinkState). s.faults) still.0 ∙ before.faults;
            }
        by false is = sends_front all (datagrams_of (boot_in m) next l) later old now new (at_letter false is) e f h

    pub letter_spent : (e : NodeEnd) → IsSpent behind e → IsSpent (next_after first (letters me m out)) e
    letter_spent e why = spent_on behind (next_after first (letters me m out)) e (subst (λ (v : ℕ). behind ≤ v) (sym numbers_are) (next_after-le behind (letters me m (drop (k + 1) out)))) why

  pub letters_done : {T E : Type 0} (u : T) → length out ≤ k → Posts {T = T} {E = E} all (Ok u) old now
  letters_done u past = sent_all all old now u (subst (λ (xs : List Sent). IsSending all (datagrams (boot_in m) next (with_number next (letters me m xs))) old now) (none_left out k past) so_far.sends)

  pub number_behind : length out ≤ k → next ≡ next_after first (letters me m out)
  number_behind past = sym (so_far.numbers ∙ ap (λ (xs : List Sent). next_after next (letters me m xs)) (none_left out k past))

-- ---- a fact of each item

pub of_item : {X : Type 0} (P : X → Type 0) (xs : List X) (k : ℕ) (x : X) → AllByRecursion P xs → k < length xs → x ≡ get_or xs k x → P x
of_item P [] k x all within is = absurd (omega (arith, within))
of_item P (y ∷ xs) zero x all within is = subst P (sym is) all.0
of_item P (y ∷ xs) (suc k) x all within is = of_item P xs k x all.1 (omega (arith, within)) is
