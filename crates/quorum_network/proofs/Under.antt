-- Datagrams of letters that are renumbered are the datagrams of these letters with the other number.
use Rattle.law_names.proofs.Table.{AllByRecursion}
use Rattle.mon_name.proofs.Numbers.{renumbered_pieces}
use Rattle.quorum_network.proofs.Names.{Outgoing, Peer, Posted, datagrams, datagrams_of, next_after_message, pieces_of, posted, renumbered, to_peer, under}
use Rattle.quorum_network.proofs.Sends.{IsCuttable}
use Rattle.std.proofs.Common.{List, [], ap, length, map, refl, ℕ, ◌++◌, ◌∙◌, ◌∷◌, ◌≡◌}
use Rattle.std.proofs.lemmas.List.{map-append}

to_same : (life : ℕ) (to : Peer) (ps : List (List ℕ)) → map (under life) (map (to_peer to) ps) ≡ map (to_peer to) (map (renumbered life) ps)
to_same life to [] = refl
to_same life to (p ∷ ps) = ap (λ (ds : List Outgoing). under life (to_peer to p) ∷ ds) (to_same life to ps)

pub under_datagrams : (life boot next : ℕ) (outs : List Outgoing) → AllByRecursion (λ (o : Outgoing). IsCuttable o.bytes) outs → map (under life) (datagrams boot next outs) ≡ datagrams life next outs
under_datagrams life boot next [] h = refl
under_datagrams life boot next (o ∷ outs) h =
    let behind = next_after_message next (length o.bytes) in
    map-append (under life) (datagrams_of boot next o) (datagrams boot behind outs)
    ∙ ap (λ (ds : List Outgoing). ds ++ map (under life) (datagrams boot behind outs)) (to_same life o.to (pieces_of o.bytes boot next) ∙ ap (map (to_peer o.to)) (renumbered_pieces o.bytes boot life next h.0.no_piece))
    ∙ ap (λ (ds : List Outgoing). datagrams_of life next o ++ ds) (under_datagrams life boot behind outs h.1)

-- P holds of a posted datagram once it is renumbered with the number of this life
abbrev pub Under : (life : ℕ) → (Posted → Type 0) → Posted → Type 0
Under life P d = P (record { by = d.by; datagram = under life d.datagram })

pub all_before : (P : Posted → Type 0) (i life : ℕ) (ds : List Outgoing) → AllByRecursion P (map (posted i) (map (under life) ds)) → AllByRecursion (Under life P) (map (posted i) ds)
all_before P i life [] h = tt
all_before P i life (d ∷ ds) h = (h.0, all_before P i life ds h.1)

pub all_under : (P : Posted → Type 0) (i life : ℕ) (ds : List Outgoing) → AllByRecursion (Under life P) (map (posted i) ds) → AllByRecursion P (map (posted i) (map (under life) ds))
all_under P i life [] h = tt
all_under P i life (d ∷ ds) h = (h.0, all_under P i life ds h.1)
