-- What an assembly keeps represents messages that were sent, over every datagram of one.
use Rattle.std.proofs.Common.{◌≡◌, ◌⊎◌, ℕ, zero, suc, ◌*◌, ◌/◌, ◌^◌, ◌≤◌, ◌<◌, ◌-◌, ◌%◌, ◌==◌, ◌||◌, Bool, true, false, not, cond, ◌&&◌, eqb, ltb, leb, List, [], ◌∷◌, length, map, drop, replicate, Option, Some, None, is_some, unwrap_or, Result, Ok, Err, refl, sym, ap, subst, ◌∙◌, inl, inr, length-set, arith, nat_lt, nat_le, min}
use Rattle.std.specs.List.{AllByRecursion, Contains, slice_get, slice_set, range_with_len, list_all, flat_map, position}
use Rattle.std.specs.Str.{bytes_eq}
use Rattle.std.proofs.lemmas.Bool.{eq-eqb, eqb-true, false≢true, le-leb, le-ltb, lt-leb, ltb-false, ltb-true}
use Rattle.std.proofs.lemmas.List.{drop_at, length-replicate}
use Rattle.std.proofs.lemmas.List.Quantifiers.{position-Some}
use Rattle.std.proofs.lemmas.Option.{get_or_from_slice_get}
use Rattle.mon_bytes.specs.declared.limits.TheConstants.{MOST_MESSAGE}
use Rattle.mon_bytes.specs.Answers.{◌>>=◌}
use Rattle.mon_bytes.proofs.Ascii.{both}
use Rattle.mon_link.specs.declared.link.Peer.{Peer}
use Rattle.mon_link.specs.declared.link.Peer.TheVariants.{Monitor, Client}
use Rattle.mon_frag.specs.declared.header.Header.{Header}
use Rattle.mon_frag.specs.declared.partial.Partial.{Partial}
use Rattle.mon_frag.specs.declared.partial.Joined.{Joined}
use Rattle.mon_frag.specs.declared.partial.Joined.TheVariants.{Clash, Known, More, Whole}
use Rattle.mon_frag.specs.declared.refused.FragRefused.{FragRefused}
use Rattle.mon_frag.specs.declared.refused.FragRefused.TheVariants as refused
use Rattle.mon_frag.specs.declared.refused.FragRefused.TheVariants.{Form}
use Rattle.mon_frag.specs.Pieces.{piece_count, part_at, header, piece, pieces_of}
use Rattle.mon_frag.specs.Headers.{is_piece, fields_of, formed, header_of}
use Rattle.mon_frag.specs.Keeping.{begun, joined_at, joins, same_peer, is_of, oldest_against, without, Outcome, with_part, after_join, joined_with, at_found, piece_taken, taken}
use Rattle.mon_frag.specs.Whole.{Message, IsMessage, IsLong, AreSent, FromPeer, From, IsDatagram, IsWhole, and_answered, answer_in, kept_in, answered}
use Rattle.mon_frag.proofs.Lists.{all_append, all_remove, all_set, all_at, contains_one, contains_made, get_written}
use Rattle.mon_frag.proofs.ReadBack.{header_as, fields_found, length-header}
use Rattle.mon_frag.proofs.Wholes.{AreParts, are_whole}

-- parts of a message of a peer
pub record IsPartOf (q : Peer) (m : Message) (p : Partial) : Type 0 where
  pub from : q ≡ p.from
  pub boot : m.boot ≡ p.boot
  pub seq : m.seq ≡ p.seq
  pub total : length m.bytes ≡ p.total
  pub count : length p.parts ≡ piece_count p.total
  pub parts : AreParts m.bytes p.parts

same_peer_is : (a b : Peer) → same_peer a b ≡ true → a ≡ b
same_peer_is (Monitor a) (Monitor b) e = ap (λ (n : ℕ). Monitor n) (eqb-true a b e)
same_peer_is (Monitor a) (Client b) e = absurd cc
same_peer_is (Client a) (Monitor b) e = absurd cc
same_peer_is (Client a) (Client b) e = ap (λ (n : ℕ). Client n) (eqb-true a b e)

same_as : (a : Peer) → same_peer a a ≡ true
same_as (Monitor a) = eq-eqb a a refl
same_as (Client a) = eq-eqb a a refl

not_same : (a b : Peer) → a ≡ b → same_peer a b ≡ false → ⊥
not_same a b e f = false≢true (sym f ∙ ap (same_peer a) (sym e) ∙ same_as a)

pub is_of_is : (from : Peer) (boot seq : ℕ) (p : Partial) → is_of from boot seq p ≡ true → (from ≡ p.from) × (boot ≡ p.boot) × (seq ≡ p.seq)
is_of_is from boot seq p e =
    let a = both (same_peer from p.from && eqb boot p.boot) (eqb seq p.seq) e in
    let b = both (same_peer from p.from) (eqb boot p.boot) a.0 in
    (same_peer_is from p.from b.0, eqb-true boot p.boot b.1, eqb-true seq p.seq a.1)

-- Messages of which no two share their numbers: the long ones that a peer sent.
pub record AreNumbered (Sent : Message → Type 0) : Type 0 where
  pub messages : (m : Message) → Sent m → IsMessage m
  pub numbered : (m n : Message) → Sent m → Sent n → m.boot ≡ n.boot → m.seq ≡ n.seq → m.bytes ≡ n.bytes

module _ (q : Peer) (Sent : Message → Type 0) where
  abbrev pub Stands : Partial → Type 0
  Stands p = q ≡ p.from → (m : Message) × Sent m × IsPartOf q m p

  abbrev pub AllStand : List Partial → Type 0
  AllStand kept = AllByRecursion Stands kept

  -- what is answered is a whole message
  abbrev pub Right : Option (List ℕ) → Type 0
  Right None = Unit {0}
  Right (Some bytes) = (m : Message) × Sent m × (m.bytes ≡ bytes)

  abbrev pub IsSound : List Partial → Outcome → Type 0
  IsSound kept out = AllStand (kept_in kept out) × Right (answer_in out)

  -- ---- a piece of a message of which parts are kept

  -- what is made of it is right
  abbrev pub JoinsRight : Message → Partial → Joined → Type 0
  JoinsRight m more Clash = Unit {0}
  JoinsRight m more Known = Unit {0}
  JoinsRight m more More = Stands more
  JoinsRight m more (Whole bytes) = m.bytes ≡ bytes

  joined_sound : (m : Message) (kept : List Partial) (i : ℕ) (more : Partial) (j : Joined) → Sent m → AllStand kept → JoinsRight m more j
      → IsSound kept (after_join kept i more j)
  joined_sound m kept i more Clash is all right = (all, tt)
  joined_sound m kept i more Known is all right = (all, tt)
  joined_sound m kept i more More is all right = (all_set Stands kept i more all right, tt)
  joined_sound m kept i more (Whole bytes) is all right = (all_remove Stands kept i all, (m, is, right))

  -- one more part
  parts_written : (message : List ℕ) (parts : List (Option (List ℕ))) (k : ℕ) → AreParts message parts → AreParts message (slice_set parts k (Some (part_at message (59000 * k))))
  parts_written message parts k each j bytes e =
      elim (get_written parts k j (Some (part_at message (59000 * k))) (Some bytes) e) [
        | inl h ↦ let same : part_at message (59000 * k) ≡ bytes = cc (h.1) in sym same ∙ ap (λ (n : ℕ). part_at message (59000 * n)) h.0
        | inr h ↦ each j bytes h
      ]

  grown_right : (m : Message) (more : Partial) (all : Bool) (whole : List ℕ) → Stands more → (all ≡ true → whole ≡ m.bytes) → JoinsRight m more (cond all (Whole whole) More)
  grown_right m more true whole stands is = sym (is refl)
  grown_right m more false whole stands is = stands

  with_part_of : (m : Message) (p : Partial) (h : Header) (k : ℕ) → h.place ≡ 59000 * k → IsPartOf q m p → IsPartOf q m (with_part h (part_at m.bytes (59000 * k)) p)
  with_part_of m p h k at is =
      let here : h.place / 59000 ≡ k = omega (arith, at) in
      record {
        from = is.from;
        boot = is.boot;
        seq = is.seq;
        total = is.total;
        count = length-set p.parts (h.place / 59000) (Some (part_at m.bytes (59000 * k))) ∙ is.count;
        parts = subst (λ (n : ℕ). AreParts m.bytes (slice_set p.parts n (Some (part_at m.bytes (59000 * k))))) (sym here) (parts_written m.bytes p.parts k is.parts);
      }

  long_enough : (n count : ℕ) → count ≡ piece_count n → n ≤ 59000 * count
  long_enough n count e = omega (arith, e)

  known_right : (m : Message) (more : Partial) (b : Bool) → JoinsRight m more (cond b Known Clash)
  known_right m more true = tt
  known_right m more false = tt

  slot_right : (m : Message) (p : Partial) (h : Header) (k : ℕ) (slot : Option (Option (List ℕ))) → Sent m → h.place ≡ 59000 * k → IsPartOf q m p
      → JoinsRight m (with_part h (part_at m.bytes (59000 * k)) p) (joined_at p.parts (h.place / 59000) (part_at m.bytes (59000 * k)) slot)
  slot_right m p h k None here at is = tt
  slot_right m p h k (Some None) here at is =
      let bytes = part_at m.bytes (59000 * k) in
      let more = with_part_of m p h k at is in
      grown_right m (with_part h bytes p) (list_all is_some (with_part h bytes p).parts) (flat_map (λ part. unwrap_or part []) (with_part h bytes p).parts)
      (λ _. (m, here, more)) (λ all. are_whole (with_part h bytes p).parts m.bytes more.parts all (long_enough (length m.bytes) (length (with_part h bytes p).parts) (more.count ∙ ap piece_count (sym more.total))))
  slot_right m p h k (Some (Some known)) here at is = known_right m (with_part h (part_at m.bytes (59000 * k)) p) (bytes_eq known (part_at m.bytes (59000 * k)))

  total_right : (m : Message) (more : Partial) (b : Bool) (j : Joined) → JoinsRight m more j → JoinsRight m more (cond b j Clash)
  total_right m more true j right = right
  total_right m more false j right = tt

  -- ---- the peer and the numbers identify the message

  -- what is kept under the numbers of a message is of that message
  is_part : (m : Message) (p : Partial) → AreNumbered Sent → Sent m → Stands p → is_of q m.boot m.seq p ≡ true → IsPartOf q m p
  is_part m p are here stands e =
      let of = is_of_is q m.boot m.seq p e in
      let found = stands of.0 in
      let n = found.0 in
      let is = found.2 in
      let same : m.bytes ≡ n.bytes = are.numbered m n here found.1 (of.1 ∙ sym is.boot) (of.2 ∙ sym is.seq) in
      record { from = of.0; boot = of.1; seq = of.2; total = ap length same ∙ is.total; count = is.count; parts = subst (λ (b : List ℕ). AreParts b p.parts) (sym same) is.parts }

  -- ---- a piece of a message of which none was kept

  none_there : (n k : ℕ) (bytes : List ℕ) → slice_get (replicate n None) k ≡ Some (Some bytes) → ⊥
  none_there zero k bytes e = cc
  none_there (suc n) zero bytes e = cc
  none_there (suc n) (suc k) bytes e = none_there n k bytes e

  none_kept : (message : List ℕ) (n : ℕ) → AreParts message (replicate n None)
  none_kept message n k bytes e = absurd (none_there n k bytes e)

  begun_part : (m : Message) (h : Header) (k : ℕ) → h.boot ≡ m.boot → h.seq ≡ m.seq → h.total ≡ length m.bytes → h.place ≡ 59000 * k
      → IsPartOf q m (record { from = q; boot = h.boot; seq = h.seq; total = h.total; parts = begun h (part_at m.bytes (59000 * k)) })
  begun_part m h k boot seq total at =
      let here : h.place / 59000 ≡ k = omega (arith, at) in
      record {
        from = refl;
        boot = sym boot;
        seq = sym seq;
        total = sym total;
        count = length-set (replicate (piece_count h.total) None) (h.place / 59000) (Some (part_at m.bytes (59000 * k))) ∙ length-replicate (piece_count h.total) None;
        parts = subst (λ (n : ℕ). AreParts m.bytes (slice_set (replicate (piece_count h.total) None) n (Some (part_at m.bytes (59000 * k))))) (sym here)
            (parts_written m.bytes (replicate (piece_count h.total) None) k (none_kept m.bytes (piece_count h.total)));
      }

  all_without : (kept : List Partial) (at : Option ℕ) → AllStand kept → AllStand (without kept at)
  all_without kept None all = all
  all_without kept (Some i) all = all_remove Stands kept i all

  -- ---- a datagram

  found_sound : (m : Message) (kept : List Partial) (k i : ℕ) (place : Option Partial) (h : Header) → Sent m → AllStand kept → h.place ≡ 59000 * k
      → ((p : Partial) → place ≡ Some p → IsPartOf q m p) → IsSound kept (joined_with h (part_at m.bytes (59000 * k)) kept i place)
  found_sound m kept k i None h here all at parts = (all, tt)
  found_sound m kept k i (Some p) h here all at parts =
      let bytes = part_at m.bytes (59000 * k) in
      joined_sound m kept i (with_part h bytes p) (joins p h bytes) here all
      (total_right m (with_part h bytes p) (eqb p.total h.total) (joined_at p.parts (h.place / 59000) bytes (slice_get p.parts (h.place / 59000)))
      (slot_right m p h k (slice_get p.parts (h.place / 59000)) here at (parts p refl)))

  place_sound : (m : Message) (kept : List Partial) (k : ℕ) (at : Option ℕ) (h : Header) → AreNumbered Sent → Sent m → AllStand kept
      → h.boot ≡ m.boot → h.seq ≡ m.seq → h.total ≡ length m.bytes → h.place ≡ 59000 * k → position (is_of q m.boot m.seq) kept ≡ at
      → IsSound kept (at_found q h (part_at m.bytes (59000 * k)) kept at)
  place_sound m kept k None h are here all boot seq total at found = (
    all_append Stands (without kept (oldest_against q kept)) (record { from = q; boot = h.boot; seq = h.seq; total = h.total; parts = begun h (part_at m.bytes (59000 * k)) } ∷ [])
        (all_without kept (oldest_against q kept) all) ((λ _. (m, here, begun_part m h k boot seq total at)), tt),
    tt,
  )
  place_sound m kept k (Some i) h are here all boot seq total at found =
      found_sound m kept k i (slice_get kept i) h here all at
      (λ p e. is_part m p are here (all_at Stands kept i p all e)
      (ap (is_of q m.boot m.seq) (sym (get_or_from_slice_get kept i p p e)) ∙ (position-Some (is_of q m.boot m.seq) kept i p found).1))

  or_fault : (b : Bool) (e : FragRefused) (r : Result Header FragRefused) (h : Header) → (r ≡ Ok h) ⊎ ((f : FragRefused) × (r ≡ Err f)) → (cond b (Err e) r ≡ Ok h) ⊎ ((f : FragRefused) × (cond b (Err e) r ≡ Err f))
  or_fault true e r h rest = inr (e, refl)
  or_fault false e r h rest = rest

  formed_cases : (count : ℕ) (h : Header) → (formed count h ≡ Ok h) ⊎ ((f : FragRefused) × (formed count h ≡ Err f))
  formed_cases count h =
      or_fault (not (h.zero_1 == 0)) (Form 1) _ h
      (or_fault (not (h.zero_2 == 0)) (Form 2) _ h
      (or_fault (not (h.zero_3 == 0)) (Form 3) _ h
      (or_fault (nat_lt (2 ^ 62) h.boot) (Form 4) _ h
      (or_fault (nat_lt (2 ^ 62) h.seq) (Form 12) _ h
      (or_fault (nat_lt h.total 60001 || nat_lt MOST_MESSAGE h.total) (Form 20) _ h
      (or_fault (not (h.place % 59000 == 0) || nat_le h.total h.place) (Form 24) _ h
      (or_fault (not (count == min 59000 (h.total - h.place))) (Form 28) _ h (inl refl))))))))

  long_sound : (m : Message) (kept : List Partial) (b : Bool) (out : Outcome) → AllStand kept → IsSound kept out → IsSound kept (cond b (Err refused.TooLong) out)
  long_sound m kept true out all sound = (all, tt)
  long_sound m kept false out all sound = sound

  header_cases : (d : List ℕ) (h : Header) → fields_of d ≡ Ok h → (header_of d ≡ Ok h) ⊎ ((f : FragRefused) × (header_of d ≡ Err f))
  header_cases d h read =
      let n = length (drop 28 d) in
      let on : header_of d ≡ formed n h = ap (λ (x : Result Header FragRefused). x >>= λ y. formed n y) read in
      elim (formed_cases n h) [ inl ok ↦ inl (on ∙ ok) | inr fault ↦ inr (fault.0, on ∙ fault.1) ]

  bound_sound : (kept : List Partial) (from : Peer) (bytes : List ℕ) (r : Result Header FragRefused) (h : Header) → (r ≡ Ok h) ⊎ ((f : FragRefused) × (r ≡ Err f)) → AllStand kept
      → IsSound kept (piece_taken from bytes kept h) → IsSound kept (r >>= piece_taken from bytes kept)
  bound_sound kept from bytes r h (inl e) all sound = subst (λ (x : Result Header FragRefused). IsSound kept (x >>= piece_taken from bytes kept)) (sym e) sound
  bound_sound kept from bytes r h (inr (f, e)) all sound = subst (λ (x : Result Header FragRefused). IsSound kept (x >>= piece_taken from bytes kept)) (sym e) (all, tt)

  piece_sound : (m : Message) (kept : List Partial) (k : ℕ) → AreNumbered Sent → Sent m → AllStand kept → 59000 * k < length m.bytes
      → IsSound kept (taken kept q (piece m.bytes m.boot m.seq (59000 * k)))
  piece_sound m kept k are here all within =
      let is = are.messages m here in
      let part = part_at m.bytes (59000 * k) in
      let d = piece m.bytes m.boot m.seq (59000 * k) in
      let h = header_as m.boot m.seq (length m.bytes) (59000 * k) in
      let read : fields_of d ≡ Ok h = fields_found m.boot m.seq (length m.bytes) (59000 * k) part is.boot is.seq (omega (arith, is.most)) (omega (arith, is.most, within)) in
      let rest : drop 28 d ≡ part = drop_at (header m.boot m.seq (length m.bytes) (59000 * k)) part 28 (length-header m.boot m.seq (length m.bytes) (59000 * k)) in
      let placed : IsSound kept (piece_taken q part kept h) = place_sound m kept k (position (is_of q m.boot m.seq) kept) h are here all refl refl refl refl refl in
      long_sound m kept (ltb 60000 (length d)) (header_of d >>= piece_taken q (drop 28 d) kept) all
      (bound_sound kept q (drop 28 d) (header_of d) h (header_cases d h read) all (subst (λ (b : List ℕ). IsSound kept (piece_taken q b kept h)) (sym rest) placed))

  -- ---- every datagram

  of_pieces : (kept : List Partial) (m : Message) (bytes : List ℕ) → AreNumbered Sent → Sent m → AllStand kept
      → Contains (map (λ k. piece m.bytes m.boot m.seq (59000 * k)) (range_with_len 0 (piece_count (length m.bytes)))) bytes → IsSound kept (taken kept q bytes)
  of_pieces kept m bytes are here all is =
      let one = contains_made (λ k. piece m.bytes m.boot m.seq (59000 * k)) 0 (piece_count (length m.bytes)) bytes is in
      subst (λ (b : List ℕ). IsSound kept (taken kept q b)) one.3 (piece_sound m kept one.0 are here all (omega (arith, one.2)))

  cut_pieces : (m : Message) (bytes : List ℕ) (short : Bool) → short ≡ false → Contains (cond short (m.bytes ∷ []) (map (λ k. piece m.bytes m.boot m.seq (59000 * k)) (range_with_len 0 (piece_count (length m.bytes))))) bytes
      → Contains (map (λ k. piece m.bytes m.boot m.seq (59000 * k)) (range_with_len 0 (piece_count (length m.bytes)))) bytes
  cut_pieces m bytes true e c = absurd cc
  cut_pieces m bytes false e c = c

  -- a piece of a long message of this peer
  pub long_taken : (kept : List Partial) (m : Message) (bytes : List ℕ) → AreNumbered Sent → Sent m → 60000 < length m.bytes → AllStand kept
      → Contains (pieces_of m.bytes m.boot m.seq) bytes → IsSound kept (taken kept q bytes)
  long_taken kept m bytes are here long all is =
      let cut : leb (length m.bytes) 60000 ≡ false = lt-leb (length m.bytes) 60000 long in
      of_pieces kept m bytes are here all (cut_pieces m bytes (leb (length m.bytes) 60000) cut is)

  plain_kept : (kept : List Partial) (bytes : List ℕ) (b : Bool) (x : Outcome) → b ≡ false → cond b x (Ok (record { answer = Some bytes; kept = kept })) ≡ Ok (record { answer = Some bytes; kept = kept })
  plain_kept kept bytes true x e = absurd cc
  plain_kept kept bytes false x e = refl

  -- bytes that are no piece
  pub short_taken : (kept : List Partial) (from : Peer) (bytes : List ℕ) → length bytes ≤ 60000 → is_piece bytes ≡ false → taken kept from bytes ≡ Ok (record { answer = Some bytes; kept = kept })
  short_taken kept from bytes short plain =
      let fits : ltb 60000 (length bytes) ≡ false = le-ltb 60000 (length bytes) short in
      rw fits (plain_kept kept bytes (is_piece bytes) (header_of bytes >>= piece_taken from (drop 28 bytes) kept) plain)

  -- ---- whatever arrives from another peer

  module _ (from : Peer) (apart : q ≡ from → ⊥) where
    other_part : (p : Partial) (h : Header) (bytes : List ℕ) → from ≡ p.from → Stands (with_part h bytes p)
    other_part p h bytes e = λ same. absurd (apart (same ∙ sym e))

    other_joined : (kept : List Partial) (i : ℕ) (more : Partial) (j : Joined) → AllStand kept → Stands more → AllStand (kept_in kept (after_join kept i more j))
    other_joined kept i more Clash all stands = all
    other_joined kept i more Known all stands = all
    other_joined kept i more More all stands = all_set Stands kept i more all stands
    other_joined kept i more (Whole bytes) all stands = all_remove Stands kept i all

    other_place : (kept : List Partial) (h : Header) (bytes : List ℕ) (i : ℕ) (place : Option Partial) → AllStand kept → ((p : Partial) → place ≡ Some p → from ≡ p.from)
        → AllStand (kept_in kept (joined_with h bytes kept i place))
    other_place kept h bytes i None all is = all
    other_place kept h bytes i (Some p) all is = other_joined kept i (with_part h bytes p) (joins p h bytes) all (other_part p h bytes (is p refl))

    other_found : (kept : List Partial) (h : Header) (bytes : List ℕ) (at : Option ℕ) → AllStand kept → position (is_of from h.boot h.seq) kept ≡ at → AllStand (kept_in kept (at_found from h bytes kept at))
    other_found kept h bytes None all found =
        all_append Stands (without kept (oldest_against from kept)) (record { from = from; boot = h.boot; seq = h.seq; total = h.total; parts = begun h bytes } ∷ [])
        (all_without kept (oldest_against from kept) all) ((λ same. absurd (apart same)), tt)
    other_found kept h bytes (Some i) all found =
        other_place kept h bytes i (slice_get kept i) all
        (λ p e. (is_of_is from h.boot h.seq p (ap (is_of from h.boot h.seq) (sym (get_or_from_slice_get kept i p p e)) ∙ (position-Some (is_of from h.boot h.seq) kept i p found).1)).0)

    other_header : (kept : List Partial) (bytes : List ℕ) (r : Result Header FragRefused) → AllStand kept → AllStand (kept_in kept (r >>= piece_taken from bytes kept))
    other_header kept bytes (Err e) all = all
    other_header kept bytes (Ok h) all = other_found kept h bytes (position (is_of from h.boot h.seq) kept) all refl

    other_piece : (kept : List Partial) (bytes : List ℕ) (b : Bool) → AllStand kept → AllStand (kept_in kept (cond b (header_of bytes >>= piece_taken from (drop 28 bytes) kept) (Ok (record { answer = Some bytes; kept = kept }))))
    other_piece kept bytes true all = other_header kept (drop 28 bytes) (header_of bytes) all
    other_piece kept bytes false all = all

    other_long : (kept : List Partial) (b : Bool) (out : Outcome) → AllStand kept → AllStand (kept_in kept out) → AllStand (kept_in kept (cond b (Err refused.TooLong) out))
    other_long kept true out all k = all
    other_long kept false out all k = k

    pub other_taken : (kept : List Partial) (bytes : List ℕ) → AllStand kept → AllStand (kept_in kept (taken kept from bytes))
    other_taken kept bytes all = other_long kept (ltb 60000 (length bytes)) (cond (is_piece bytes) (header_of bytes >>= piece_taken from (drop 28 bytes) kept) (Ok (record { answer = Some bytes; kept = kept }))) all (other_piece kept bytes (is_piece bytes) all)

-- more may have been sent
pub stand_more : (q : Peer) (S T : Message → Type 0) → ((m : Message) → S m → T m) → (kept : List Partial) → AllStand q S kept → AllStand q T kept
stand_more q S T up [] all = tt
stand_more q S T up (p ∷ kept) all = ((λ same. let k = all.0 same in (k.0, up k.0 k.1, k.2)), stand_more q S T up kept all.1)

-- ---- all that arrives

-- the long ones of a list of messages
abbrev pub LongOf : List Message → Message → Type 0
LongOf sent m = Contains sent m × IsLong m

module _ (q : Peer) (sent : List Message) (are : AreSent sent) where
  long_numbered : AreNumbered (LongOf sent)
  long_numbered = record { messages = λ m h. are.messages m h.0; numbered = λ m n h k. are.numbered m n h.0 k.0 h.1 k.1 }

  abbrev Stand : List Partial → Type 0
  Stand kept = AllStand q (LongOf sent) kept

  abbrev WholeIn : Option (List ℕ) → Type 0
  WholeIn None = Unit {0}
  WholeIn (Some bytes) = IsWhole sent bytes

  abbrev Keeps : List Partial → Outcome → Type 0
  Keeps kept out = Stand (kept_in kept out) × WholeIn (answer_in out)

  whole_in : (answer : Option (List ℕ)) → Right q (LongOf sent) answer → WholeIn answer
  whole_in None right = tt
  whole_in (Some bytes) right = (right.0, right.1.0, right.2)

  whole_kept : (kept : List Partial) (m : Message) (bytes : List ℕ) (out : Outcome) → out ≡ Ok (record { answer = Some bytes; kept = kept }) → Contains sent m → m.bytes ≡ bytes → Stand kept → Keeps kept out
  whole_kept kept m bytes out e here is all = subst (Keeps kept) (sym e) (all, (m, here, is))

  only_one : (whole bytes : List ℕ) (pieces : List (List ℕ)) (b : Bool) → b ≡ true → Contains (cond b (whole ∷ []) pieces) bytes → whole ≡ bytes
  only_one whole bytes pieces true e c = contains_one whole bytes c
  only_one whole bytes pieces false e c = absurd cc

  own_taken : (kept : List Partial) (bytes : List ℕ) → Stand kept → IsDatagram sent bytes → Keeps kept (taken kept q bytes)
  own_taken kept bytes all (m, here, is) = by (ltb 60000 (length m.bytes)) refl
    where
      by : (b : Bool) → ltb 60000 (length m.bytes) ≡ b → Keeps kept (taken kept q bytes)
      by true e =
          let long = ltb-true 60000 (length m.bytes) e in
          let sound = long_taken q (LongOf sent) kept m bytes long_numbered (here, long) long all is in
          (sound.0, whole_in (answer_in (taken kept q bytes)) sound.1)
      by false e =
          let short = ltb-false 60000 (length m.bytes) e in
          let same : m.bytes ≡ bytes = only_one m.bytes bytes _ (leb (length m.bytes) 60000) (le-leb (length m.bytes) 60000 short) is in
          whole_kept kept m bytes (taken kept q bytes)
          (short_taken q (LongOf sent) kept q bytes (subst (λ (b : List ℕ). length b ≤ 60000) same short) (subst (λ (b : List ℕ). is_piece b ≡ false) same (are.messages m here).no_piece))
          here same all

  -- what is answered to this peer is whole
  all_answered : (from : Peer) (answer : Option (List ℕ)) (later : List FromPeer) → (q ≡ from → WholeIn answer) → AllByRecursion (From q (IsWhole sent)) later → AllByRecursion (From q (IsWhole sent)) (and_answered from answer later)
  all_answered from None later right all = all
  all_answered from (Some bytes) later right all = (right, all)

  step : (kept : List Partial) (d : FromPeer) → Stand kept → From q (IsDatagram sent) d → (b : Bool) → same_peer q d.from ≡ b
      → Stand (kept_in kept (taken kept d.from d.bytes)) × (q ≡ d.from → WholeIn (answer_in (taken kept d.from d.bytes)))
  step kept d all is true e =
      let same = same_peer_is q d.from e in
      let own = subst (λ (p : Peer). Keeps kept (taken kept p d.bytes)) same (own_taken kept d.bytes all (is same)) in
      (own.0, λ _. own.1)
  step kept d all is false e =
      let apart : q ≡ d.from → ⊥ = λ same. not_same q d.from same e in
      (other_taken q (LongOf sent) d.from apart kept d.bytes all, λ same. absurd (apart same))

  pub answered_whole : (kept : List Partial) (came : List FromPeer) → Stand kept → AllByRecursion (From q (IsDatagram sent)) came → AllByRecursion (From q (IsWhole sent)) (answered kept came)
  answered_whole kept [] all is = tt
  answered_whole kept (d ∷ later) all is =
      let out = taken kept d.from d.bytes in
      let s = step kept d all is.0 (same_peer q d.from) refl in
      all_answered d.from (answer_in out) (answered (kept_in kept out) later) s.1 (answered_whole (kept_in kept out) later s.0 is.1)
