-- The invariant of the log holds again of the world that an event makes.
use Rattle.law_names.proofs.Runs.{AllValues, Asked, Client, Monitors, Plain, World, kept_only, lost, messages_of, moved, put_at, unmoved, with_asked}
use Rattle.law_names.proofs.Table.{AllByRecursion, Contains, Op, State, Store, encoded, joined, reaction_of}
use Rattle.log_copies.proofs.Standing.{Agrees, agrees_stays, crashed}
use Rattle.log_copies.specs.Synchronizing.{written}
use Rattle.quorum_agreement.proofs.Chosen.{AllChosen}
use Rattle.quorum_agreement.proofs.Event.{after, fine_then, votes}
use Rattle.quorum_agreement.proofs.Grown.{GrowsByOne}
use Rattle.quorum_agreement.proofs.Invariant.{EnvelopeMatches, LogHolds, OfLog, envelopes_stay, envelopes_tell, remembers}
use Rattle.quorum_agreement.proofs.Kept.{accepted_added, accepted_keeps, all_made_again, still_chosen}
use Rattle.quorum_agreement.proofs.Made.{AllAsked, AllMade, StillAsked, made_asked, made_stays, version_asked}
use Rattle.quorum_agreement.proofs.Step.{Next}
use Rattle.quorum_history.proofs.History.{Ghost, TriplesHold}
use Rattle.quorum_laws.proofs.Events.{Does, Keeps, goes_down_holds, goes_on_holds, lost_holds, member_of, shares}
use Rattle.quorum_laws.proofs.Invariant.{InvOf, InvWith, TriplesKept, was_asked_more}
use Rattle.quorum_laws.proofs.Whole.{at_put}
use Rattle.quorum_walk.proofs.Lists.{all_append}
use Rattle.std.proofs.Common.{Bool, List, None, Option, Some, [], cond, eqb, false, inl, length, ltb, refl, subst, sym, true, ℕ, ◌++◌, ◌<◌, ◌^◌, ◌∷◌, ◌≡◌, ◌≤◌}
use Rattle.std.proofs.lemmas.Bool.{lt-ltb, ltb-true}
use Rattle.std.proofs.lemmas.List.Elements.{Contains-append_left}

-- ---- more is asked, and the history goes on

still_asked : (n : ℕ) (p : Plain) (asked : List Asked) → StillAsked n asked (with_asked p asked)
still_asked n (Client rank at s r) asked i t c k = was_asked_more n asked (record { rank = rank; session = s; request = r } ∷ []) i t c k
still_asked n other asked i t c k = k

pub still_among : (p : Plain) (asked : List Asked) (a : Asked) → Contains asked a → Contains (with_asked p asked) a
still_among (Client rank at s r) asked a k = Contains-append_left asked (record { rank = rank; session = s; request = r } ∷ []) a k
still_among other asked a k = k

-- another history of the same transactions
module _ (n : ℕ) (g h : Ghost) (txs : ℕ → List (List Op)) (T : TriplesHold n g.signs g.accepts) (U : TriplesHold n h.signs h.accepts) (K : TriplesKept g txs) (L : TriplesKept h txs) (log : List (List ℕ)) where
  chosen_again : AllChosen n g log → AllChosen n h log
  chosen_again C = still_chosen n g h txs txs T U K L (λ i v q b a. a) log C

  made_again : (asked : List Asked) → AllMade n g asked log → AllMade n h asked log
  made_again asked M = all_made_again n g h txs txs T U K L asked log [] (λ i v q b a. inl a) (λ v q x a. absurd a) M

pub asking : (ms : Monitors) (w : World) (p : Plain) (I : InvOf ms w) → OfLog ms w w.asked I → (J : InvWith ms w (with_asked p w.asked)) → OfLog ms w (with_asked p w.asked) J
asking ms w p I O J = record {
  short = O.short;
  values = O.values;
  chosen = chosen_again ms.count I.g J.g w.transactions I.glob.triples J.glob.triples I.triples J.triples w.log O.chosen;
  made = λ i v q x a. made_asked ms.count w.asked (with_asked p w.asked) w.log v x (still_asked ms.count p w.asked) (made_again ms.count I.g J.g w.transactions I.glob.triples J.glob.triples I.triples J.triples w.log w.asked O.made i v q x a);
  asks = λ v lt. version_asked ms.count w.asked (with_asked p w.asked) w.log v (still_among p w.asked) (O.asks v lt);
  stores = O.stores;
  sent = O.sent;
}

-- ---- the world after an event

-- the invariant holds of a world, if its parts hold of a log that is the world's
of_log : (ms : Monitors) (w : World) (asked : List Asked) (J : InvWith ms w asked) (log : List (List ℕ)) → w.log ≡ log → length log ≤ 2 ^ 62 → AllValues log → AllChosen ms.count J.g log → AllMade ms.count J.g asked log → AllAsked ms.count asked log
    → ((i : ℕ) → i < ms.count → Agrees log (w.store i) (remembers i (w.state i))) → AllByRecursion (EnvelopeMatches log) w.messages → OfLog ms w asked J
of_log ms w asked J log e short values chosen made asks stores sent = record {
  short = subst (λ (l : List (List ℕ)). length l ≤ 2 ^ 62) (sym e) short;
  values = subst AllValues (sym e) values;
  chosen = subst (AllChosen ms.count J.g) (sym e) chosen;
  made = subst (AllMade ms.count J.g asked) (sym e) made;
  asks = subst (AllAsked ms.count asked) (sym e) asks;
  stores = subst (λ (l : List (List ℕ)). (i : ℕ) → i < ms.count → Agrees l (w.store i) (remembers i (w.state i))) (sym e) stores;
  sent = subst (λ (l : List (List ℕ)). AllByRecursion (EnvelopeMatches l) w.messages) (sym e) sent;
}

-- the invariant holds of the next world, whose log grew by at most one entry
abbrev pub Follows : Monitors → World → World → Type 0
Follows ms w next = LogHolds ms next × GrowsByOne w.log next.log

module _ (ms : Monitors) (w : World) (p : Plain) (J : InvWith ms w (with_asked p w.asked)) (O : OfLog ms w (with_asked p w.asked) J) where
  abbrev asked : List Asked
  asked = with_asked p w.asked

  nothing_follows : Follows ms w (unmoved w p)
  unfolding unmoved
  nothing_follows = ((J, record { short = O.short; values = O.values; chosen = O.chosen; made = O.made; asks = O.asks; stores = O.stores; sent = O.sent }), inl refl)

  module _ (several : 1 < ms.count) where
    lost_follows : (i : ℕ) → ltb i ms.count ≡ true → Follows ms w (lost w p i)
    unfolding lost
    lost_follows i lt =
        let K = lost_holds ms.count w.store w.state w.transactions w.messages w.active asked i J in (
          (
            K,
            record {
              short = O.short;
              values = O.values;
              chosen = chosen_again ms.count J.g K.g w.transactions J.glob.triples K.glob.triples J.triples K.triples w.log O.chosen;
              made = made_again ms.count J.g K.g w.transactions J.glob.triples K.glob.triples J.triples K.triples w.log asked O.made;
              asks = O.asks;
              stores = λ j below. by j below (eqb j i) refl;
              sent = O.sent;
            },
          ),
          inl refl,
        )
      where
        by : (j : ℕ) → j < ms.count → (t : Bool) → eqb j i ≡ t → Agrees w.log (w.store j) (remembers j (cond t None (w.state j)))
        by j below true e = crashed w.log O.short O.values (member_of ms j (lt-ltb j ms.count below)) several (w.store j) (remembers j (w.state j)) (O.stores j below)
        by j below false e = O.stores j below

    module _ (d : Does ms w (EnvelopeMatches w.log) asked J) where
      abbrev rank : ℕ
      rank = d.by.rank

      N : Next ms.count J.g asked w.log (written (w.store d.by.rank) d.y) d.y.state d.y.out
      N = after ms w asked J O several d

      abbrev txs : ℕ → List (List Op)
      txs = put_at w.transactions rank (w.transactions rank ++ joined (encoded d.y.changes) ∷ [])

      -- what was chosen still is, and what was accepted was made
      module _ (next : World) (K : InvWith ms next asked) (T : TriplesKept K.g txs) where
        chosen_then : AllChosen ms.count K.g N.more
        chosen_then = let F = fine_then ms w asked J O several d in
            still_chosen ms.count J.g K.g w.transactions txs J.glob.triples K.glob.triples J.triples T (accepted_keeps w.transactions rank (joined (encoded d.y.changes))) N.more N.chosen

        made_then : AllMade ms.count K.g asked N.more
        made_then i v q x a =
            let F = fine_then ms w asked J O several d in
            made_stays N.log_prefix ms.count asked v x
            (all_made_again ms.count J.g K.g w.transactions txs J.glob.triples K.glob.triples J.triples T asked w.log d.y.changes (accepted_added d.y.changes F.shape F.fits w.transactions rank) (votes ms w asked J O several d) O.made i v q x a)

      -- each monitor's store and what it remembers
      stores_then : (state : Option State) → Agrees N.more (written (w.store rank) d.y) (remembers rank state) → (j : ℕ) → j < ms.count
          → Agrees N.more (put_at w.store rank (written (w.store rank) d.y) j) (remembers j (put_at w.state rank state j))
      stores_then state new =
          at_put (λ (j : ℕ) (u : Store) (s : Option State). j < ms.count → Agrees N.more u (remembers j s)) w.store w.state rank (written (w.store rank) d.y) state (λ lt. new)
          (λ j ne lt. agrees_stays N.log_prefix (w.store j) (remembers j (w.state j)) (O.stores j lt))

      goes_on_follows : Follows ms w (moved w p rank (reaction_of d.y))
      unfolding moved
      goes_on_follows =
          let K = goes_on_holds w.store w.state w.transactions w.messages w.active asked (member_of ms d.by.rank d.by.lt) J d.by.at d.by.state d.by.came d.by.on d.by.fits d.by.holds (d.by.fine (shares w.store w.state w.transactions w.messages w.active asked (member_of ms d.by.rank d.by.lt) J d.by.at)) d.y d.is in
          let next = moved w p rank (reaction_of d.y) in (
            (
              K,
              of_log ms next asked K N.more N.is N.short N.values (chosen_then next K K.triples) (made_then next K K.triples) N.asks (stores_then (Some d.y.state) N.agrees)
                  (all_append (EnvelopeMatches N.more) w.messages (messages_of d.y.out) (envelopes_stay N.log_prefix w.messages O.sent) (envelopes_tell N.more d.y.out N.tells)),
            ),
            subst (GrowsByOne w.log) (sym N.is) N.grows,
          )

      goes_down_follows : Follows ms w (kept_only w p rank (reaction_of d.y))
      unfolding kept_only
      goes_down_follows =
          let K = goes_down_holds w.store w.state w.transactions w.messages w.active asked (member_of ms d.by.rank d.by.lt) J d.by.at d.by.state d.by.came d.by.on d.by.fits d.by.holds (d.by.fine (shares w.store w.state w.transactions w.messages w.active asked (member_of ms d.by.rank d.by.lt) J d.by.at)) d.y d.is in
          let next = kept_only w p rank (reaction_of d.y) in (
            (
              K,
              of_log ms next asked K N.more N.is N.short N.values (chosen_then next K K.triples) (made_then next K K.triples) N.asks
                  (stores_then None (crashed N.more N.short N.values (member_of ms d.by.rank d.by.lt) several (written (w.store rank) d.y) d.y.state N.agrees)) (envelopes_stay N.log_prefix w.messages O.sent),
            ),
            subst (GrowsByOne w.log) (sym N.is) N.grows,
          )

-- whatever the event, if a monitor is one of several
pub all_follow : (ms : Monitors) → ((i : ℕ) → i < ms.count → 1 < ms.count) → (w : World) (p : Plain) (J : InvWith ms w (with_asked p w.asked)) → OfLog ms w (with_asked p w.asked) J → Keeps ms w (EnvelopeMatches w.log) p J (Follows ms w)
all_follow ms several w p J O = record {
  nothing = nothing_follows ms w p J O;
  loses = λ i lt. lost_follows ms w p J O (several i (ltb-true i ms.count lt)) i lt;
  goes_on = λ d. goes_on_follows ms w p J O (several d.by.rank (ltb-true d.by.rank ms.count d.by.lt)) d;
  goes_down = λ d. goes_down_follows ms w p J O (several d.by.rank (ltb-true d.by.rank ms.count d.by.lt)) d;
}
