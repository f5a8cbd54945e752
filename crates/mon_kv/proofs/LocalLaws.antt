-- The tests of a monitor's own keys in a row.
use Rattle.std.proofs.Common.{◌≡◌, ℕ, ◌+◌, Bool, true, false, ◌||◌, List, refl, ◌∙◌}
use Rattle.std.specs.Ordering.{eq_by_cmp}
use Rattle.mon_tx.specs.declared.key.Area.TheVariants as area
use Rattle.mon_tx.specs.declared.key.Key.TheVariants as key
use Rattle.mon_tx.specs.Map.{Place, place_cmp}
use Rattle.mon_tx.specs.Keys.{area_text, place, decimal_text, is_local}
use Rattle.mon_kv.specs.Chunks.{own_of_paxos}

in_a_row : (o b c d e : Bool) → ((((o || b) || c) || d) || e) ≡ (o || (b || (c || (d || (e || false)))))
in_a_row true b c d e = refl
in_a_row false true c d e = refl
in_a_row false false true d e = refl
in_a_row false false false true e = refl
in_a_row false false false false true = refl
in_a_row false false false false false = refl

six_in_a_row : (a b c d e f : Bool) → (((((a || b) || c) || d) || e) || f) ≡ (a || (b || (c || (d || (e || (f || false))))))
six_in_a_row true b c d e f = refl
six_in_a_row false true c d e f = refl
six_in_a_row false false true d e f = refl
six_in_a_row false false false true e f = refl
six_in_a_row false false false false true f = refl
six_in_a_row false false false false false true = refl
six_in_a_row false false false false false false = refl

pub own_of_paxos-row : (next : List ℕ) (at : Place) (a b c d e f : Bool) → a ≡ eq_by_cmp place_cmp (place area.Paxos key.LastCommitted) at → b ≡ eq_by_cmp place_cmp (place area.Paxos key.LastPn) at → c ≡ eq_by_cmp place_cmp (place area.Paxos key.AcceptedPn) at → d ≡ eq_by_cmp place_cmp (place area.Paxos key.PendingV) at → e ≡ eq_by_cmp place_cmp (place area.Paxos key.PendingPn) at → f ≡ eq_by_cmp place_cmp (area_text area.Paxos, next) at
    → (((((a || b) || c) || d) || e) || f) ≡ own_of_paxos next at
own_of_paxos-row next at a b c d e f pa pb pc pd pe pf =
    six_in_a_row a b c d e f ∙ (λ i. pa i || (pb i || (pc i || (pd i || (pe i || (pf i || false))))))

six_first : (a b c d e f r : Bool) → ((a || (b || (c || (d || (e || (f || false)))))) || r) ≡ (a || (b || (c || (d || (e || (f || r))))))
six_first true b c d e f r = refl
six_first false true c d e f r = refl
six_first false false true d e f r = refl
six_first false false false true e f r = refl
six_first false false false false true f r = refl
six_first false false false false false true r = refl
six_first false false false false false false r = refl

pub is_local-row : (last : ℕ) (at : Place) (o b c d e : Bool) → o ≡ own_of_paxos (decimal_text (last + 1)) at → b ≡ eq_by_cmp place_cmp (place area.Monitor key.ElectionEpoch) at → c ≡ eq_by_cmp place_cmp (place area.Monitor key.BootCount) at → d ≡ eq_by_cmp place_cmp (place area.Sync key.InSync) at → e ≡ eq_by_cmp place_cmp (place area.Sync key.Floor) at
    → ((((o || b) || c) || d) || e) ≡ is_local last at
is_local-row last at o b c d e po pb pc pd pe =
    let t = λ (own : Place). eq_by_cmp place_cmp own at in
    in_a_row o b c d e ∙ (λ i. po i || (pb i || (pc i || (pd i || (pe i || false)))))
    ∙ six_first (t (place area.Paxos key.LastCommitted)) (t (place area.Paxos key.LastPn)) (t (place area.Paxos key.AcceptedPn)) (t (place area.Paxos key.PendingV)) (t (place area.Paxos key.PendingPn)) (t (place area.Paxos (key.Version (last + 1)))) _
