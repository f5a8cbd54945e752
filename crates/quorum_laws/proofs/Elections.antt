-- What is known of elections in every run.
use Rattle.law_names.proofs.Runs.{AllFit, Event, Monitors, PlainFits, World, first_world, plain_of, run}
use Rattle.law_names.proofs.Table.{State, epoch_of, has, is_member, quorum_of}
use Rattle.log_model.proofs.Lists.{all_front}
use Rattle.quorum_history.proofs.History.{AnEpoch, Entered, Joined, entry}
use Rattle.quorum_history.proofs.Holds.{core_of}
use Rattle.quorum_laws.proofs.Beginning.{at_first}
use Rattle.quorum_laws.proofs.Events.{all_runs, both_runs}
use Rattle.quorum_laws.proofs.Invariant.{InvOf, WasActive}
use Rattle.quorum_laws.proofs.Later.{is_in}
use Rattle.quorum_laws.proofs.Leaving.{member_in}
use Rattle.quorum_laws.proofs.Reading.{among_of, at_least, sent_holds, state_holds}
use Rattle.quorum_laws.specs.Accepting.{readings_at}
use Rattle.quorum_laws.specs.Elections.{ActiveAreLed, EpochsSent, IsLed, IsMember, IsQuorum, leader_of}
use Rattle.quorum_model.specs.Safe.{OneActive}
use Rattle.quorum_walk.proofs.Lists.{all_among}
use Rattle.quorum_walk.proofs.Ranks.{majorities}
use Rattle.quorum_walk.proofs.Sparing.{own_of}
use Rattle.std.proofs.Common.{Bool, List, None, Option, Some, ap, arith, refl, subst, sym, true, ℕ, ◌++◌, ◌∙◌, ◌≡◌}
use Rattle.std.proofs.lemmas.Bool.{false≢true}

pub one_active : (ms : Monitors) (events : List Event) → AllFit ms.count events → OneActive (run ms events)
one_active ms events F e r s a b =
    let I = all_runs ms events F in
    let A = all_among (WasActive ms.count I.g) (e, r) (run ms events).active (among_of (run ms events).active (e, r) a) I.active in
    let B = all_among (WasActive ms.count I.g) (e, s) (run ms events).active (among_of (run ms events).active (e, s) b) I.active in
    let R = I.glob.roles in
    let both = majorities ms.count A.0 B.0 (R.major r e r A.0 A.1) (R.major s e s B.0 B.1) (R.within r e r A.0 A.1) (R.within s e s B.0 B.1) in
    let m = both.0 in
    let first = A.2 m (R.within r e r A.0 A.1 m both.1) both.1 in
    let second = B.2 m (R.within s e s B.0 B.1 m both.2) both.2 in
    (R.once m e r s first.0 second.0 first.1 second.1).0

pub epochs_sent : (ms : Monitors) (events : List Event) → AllFit ms.count events → EpochsSent (run ms events)
epochs_sent ms events F e c = let I = all_runs ms events F in at_least ms (run ms events) I AnEpoch e.message.from e.message.epoch (sent_holds ms (run ms events) I e c).epoch

-- ---- members

-- what a member's history says of its quorum
module _ (ms : Monitors) (w : World) (I : InvOf ms w) where
  pub member_entered : (i e l : ℕ) (q : List Bool) → IsMember w i e l q → Entered I.g i e l q
  member_entered i e l q m =
      let k = member_in ms.count i I.g (core_of (own_of (readings_at w i)) m.state) m.state.phase m.member (state_holds ms w I i m.state m.up) in
      subst (λ (z : List Bool). Entered I.g i e l z) m.quorum (subst (λ (z : ℕ). Entered I.g i e z (quorum_of m.state)) m.leader (subst (λ (z : ℕ). Entered I.g i z (leader_of i m.state) (quorum_of m.state)) m.epoch k))

  pub quorum_holds : (i e l : ℕ) (q : List Bool) → IsMember w i e l q → IsQuorum ms.count i e l q
  quorum_holds i e l q m =
      let k = member_entered i e l q m in
      let R = I.glob.roles in
      record { even = R.even i e l q k; self = R.self i e l q k; leader = R.leader i e l q k; major = record { below = R.within i e l q k; major = R.major i e l q k } }

  -- a leader that its whole quorum followed
  pub is_led : (e l : ℕ) (q : List Bool) → Entered I.g l e l q → ((m : ℕ) → has q m ≡ true → Joined I.g m e l) → IsLed ms.count w e l
  is_led e l q a joined =
      let R = I.glob.roles in
      record {
        quorum = q;
        even = R.even l e l q a;
        leader = R.leader l e l q a;
        major = record { below = R.within l e l q a; major = R.major l e l q a };
        reached = λ m b. let j = joined m b in (I.mine m).disk.kept.roles e l j.0 j.1;
        under = λ m k r b M.
            let j = joined m b in
            let same = R.once m e k l r j.0 (member_entered m e k r M) j.1 in
            (same.0, same.1 ∙ (R.once l e l l j.0 q (R.lead m e l j.0 j.1) a).1);
      }

  pub active_are_led : ActiveAreLed ms.count w
  active_are_led e l c =
      let A = all_among (WasActive ms.count I.g) (e, l) w.active (among_of w.active (e, l) c) I.active in
      is_led e l A.0 A.1 (λ m b. A.2 m (I.glob.roles.within l e l A.0 A.1 m b) b)

pub quorums : (ms : Monitors) (events : List Event) → AllFit ms.count events → (i e l : ℕ) (q : List Bool) → IsMember (run ms events) i e l q → IsQuorum ms.count i e l q
quorums ms events F i e l q m = quorum_holds ms (run ms events) (all_runs ms events F) i e l q m

pub member_once : (ms : Monitors) (before after : List Event) → AllFit ms.count (before ++ after) → (i e l k : ℕ) (q r : List Bool) → IsMember (run ms before) i e l q → IsMember (run ms (before ++ after)) i e k r → (l ≡ k) × (q ≡ r)
member_once ms before after F i e l k q r a b =
    let B = both_runs ms first_world before after F (at_first ms) in
    let first = member_entered ms (run ms before) B.0 i e l q a in
    let second = member_entered ms (run ms (before ++ after)) B.1 i e k r b in
    B.1.glob.roles.once i e l k q r (B.2 (entry i e l q) first) second

-- ---- once, and without a break

in_state : (o : Option State) → is_in o ≡ true → (s : State) × (o ≡ Some s) × (is_member s.phase ≡ true)
in_state None t = absurd (false≢true t)
in_state (Some s) t = (s, refl, t)

pub member_between : (ms : Monitors) (before between after : List Event) → AllFit ms.count ((before ++ between) ++ after) → (i e l k : ℕ) (q r : List Bool) → IsMember (run ms before) i e l q → IsMember (run ms ((before ++ between) ++ after)) i e k r
    → IsMember (run ms (before ++ between)) i e l q
member_between ms before between after F i e l k q r a b =
    let G = all_front (λ (e : Event). PlainFits ms.count (plain_of e)) (before ++ between) after F in
    let first = (both_runs ms first_world before between G (at_first ms)).3.each i in
    let second = (both_runs ms first_world (before ++ between) after F (at_first ms)).3.each i in
    let up = first.epoch in
    let on = second.epoch in
    let at = a.epoch in
    let end = b.epoch in
    let here : epoch_of (readings_at (run ms (before ++ between)) i) ≡ e = omega arith in
    let s = in_state ((run ms (before ++ between)).state i) (second.inside (ap is_in b.up ∙ b.member) (omega arith)) in
    let same = member_once ms before between G i e l (leader_of i s.0) q (quorum_of s.0) a (record { state = s.0; up = s.1; member = s.2; epoch = here; leader = refl; quorum = refl }) in
    record { state = s.0; up = s.1; member = s.2; epoch = here; leader = sym same.0; quorum = sym same.1 }
