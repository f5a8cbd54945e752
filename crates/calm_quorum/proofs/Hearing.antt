-- The rows as what a monitor makes of a message.
use Rattle.calm_quorum.proofs.Handling.{Place, Said, grew, hears, place, takes, tell}
use Rattle.calm_quorum.proofs.Rounds.{did}
use Rattle.calm_quorum.proofs.States.{me_at, reacts, with_changes}
use Rattle.calm_quorum.proofs.Stores.{IsSmall}
use Rattle.law_names.proofs.Runs.{Arrival, Envelope, classic, last_of, messages_of, state_at}
use Rattle.law_names.proofs.Table.{Change, Entry, Readings, Sent, State, Store, any_reaction, filter_map, joined, react, readings_of, shared_entries}
use Rattle.mon_msg.specs.declared.input.Input.TheVariants as input
use Rattle.quorum_model.proofs.Members.{me_is}
use Rattle.std.proofs.Common.{List, Ok, Some, [], ap, nat_lt, refl, true, ℕ, ◌++◌, ◌∙◌, ◌≡◌, ◌≤◌}

-- a reaction as what the monitor at a place makes of what arrives
none_said : (m : Store) (i : ℕ) (out : List Sent) → last_of m ≡ 0 → filter_map (tell i) out ≡ []
    → (grew [] m ++ filter_map (tell i) out) ≡ []
none_said m i out none quiet = rw (none, quiet) refl

pub takes_is : (n : ℕ) (most : n ≤ 15) (a : Arrival) (e : nat_lt a.rank n ≡ true) (p : Place) (w : Readings)
    (s : State) (cs : List Change) (out : List Sent) (after : Store) (next : State)
    → state_at a.rank p.state a.input ≡ Some s → readings_of p.store ≡ w → ((sh : List Entry)
    → any_reaction (react (me_at n a.rank most e) sh a.at w s a.input) ≡ Ok (reacts cs out next))
    → with_changes cs p.store ≡ after → IsSmall after → last_of after ≡ 0 → filter_map (tell a.rank) out ≡ []
    → takes (classic n most) [] a p ≡ did (place after (Some next)) (messages_of out) []
takes_is n most a e p w s cs out after next st told row stores small none quiet =
    let small_then : IsSmall (with_changes cs p.store) = rw stores small in
    rw (me_is (classic n most) a.rank e, st, told) (rw (row (shared_entries p.store)) (rw small_then
    (rw stores (ap (λ (ts : List Said). did (place after (Some next)) (messages_of out) ts)
    (none_said after a.rank out none quiet)))))

pub unchanged : (m : Store) → with_changes [] m ≡ m
unfolding joined
unchanged m = refl

pub hears_is : (n : ℕ) (most : n ≤ 15) (i : ℕ) (e : nat_lt i n ≡ true) (x : Envelope) (m : Store) (w : Readings)
    (s : State) (cs : List Change) (out : List Sent) (after : Store) (next : State) (sent : List Envelope)
    → readings_of m ≡ w → ((sh : List Entry)
    → any_reaction (react (me_at n i most e) sh 0 w s (input.Deliver x.message)) ≡ Ok (reacts cs out next))
    → with_changes cs m ≡ after → IsSmall after → last_of after ≡ 0 → filter_map (tell i) out ≡ []
    → messages_of out ≡ sent
    → hears (classic n most) [] i (place m (Some s)) x ≡ did (place after (Some next)) sent []
unfolding hears
hears_is n most i e x m w s cs out after next sent told row stores small none quiet goes =
    takes_is n most (record { rank = i; at = 0; input = input.Deliver x.message }) e (place m (Some s)) w s cs out
    after next refl told row stores small none quiet
    ∙ rw goes refl
