-- What an assembly keeps of clients' messages, and answers to them, are bytes.
use Rattle.std.proofs.Common.{◌≡◌, ℕ, zero, suc, ◌/◌, ◌<◌, Bool, true, false, cond, eqb, ltb, List, [], ◌∷◌, length, drop, replicate, Option, Some, None, is_some, unwrap_or, Result, Ok, Err, refl, sym, ap, ◌∙◌, arith}
use Rattle.std.specs.List.{AllByRecursion, slice_get, list_all, flat_map, position}
use Rattle.std.specs.Str.{bytes_eq}
use Rattle.std.proofs.lemmas.List.Quantifiers.{position-Some}
use Rattle.std.proofs.lemmas.Option.{get_or_from_slice_get}
use Rattle.mon_bytes.specs.Answers.{◌>>=◌}
use Rattle.mon_bytes.specs.Reading.{IsBytes}
use Rattle.mon_link.specs.declared.link.Peer.{Peer}
use Rattle.mon_link.specs.declared.link.Peer.TheVariants.{Client}
use Rattle.mon_frag.specs.declared.header.Header.{Header}
use Rattle.mon_frag.specs.declared.partial.Partial.{Partial}
use Rattle.mon_frag.specs.declared.partial.Joined.{Joined}
use Rattle.mon_frag.specs.declared.partial.Joined.TheVariants.{Clash, Known, More, Whole}
use Rattle.mon_frag.specs.declared.refused.FragRefused.{FragRefused}
use Rattle.mon_frag.specs.declared.refused.FragRefused.TheVariants as refused
use Rattle.mon_frag.specs.Headers.{is_piece, header_of}
use Rattle.mon_frag.specs.Pieces.{piece_count}
use Rattle.mon_frag.specs.Keeping.{begun, joined_at, joins, is_of, oldest_against, without, Outcome, with_part, after_join, joined_with, at_found, piece_taken, taken}
use Rattle.mon_frag.specs.Whole.{answer_in, kept_in}
use Rattle.mon_frag.proofs.Lists.{all_append, all_remove, all_set, all_at}
use Rattle.mon_frag.proofs.Standing.{is_of_is}

-- ---- bytes

abbrev All : List ℕ → Type 0
All = AllByRecursion (λ b. b < 256)

bytes_all : (bs : List ℕ) → IsBytes bs → All bs
bytes_all [] h = tt
bytes_all (b ∷ bs) h = (h 0, bytes_all bs (λ i. h (suc i)))

all_bytes : (bs : List ℕ) → All bs → IsBytes bs
all_bytes [] h i = omega arith
all_bytes (b ∷ bs) h zero = h.0
all_bytes (b ∷ bs) h (suc i) = all_bytes bs h.1 i

all_drop : (n : ℕ) (bs : List ℕ) → All bs → All (drop n bs)
all_drop zero bs h = h
all_drop (suc n) [] h = tt
all_drop (suc n) (b ∷ bs) h = all_drop n bs h.1

-- ---- parts

abbrev pub PartBytes : Option (List ℕ) → Type 0
PartBytes None = Unit {0}
PartBytes (Some bs) = All bs

abbrev pub PartsBytes : List (Option (List ℕ)) → Type 0
PartsBytes = AllByRecursion PartBytes

none_bytes : (n : ℕ) → PartsBytes (replicate n None)
none_bytes zero = tt
none_bytes (suc n) = (tt, none_bytes n)

whole_bytes : (parts : List (Option (List ℕ))) → PartsBytes parts → All (flat_map (λ part. unwrap_or part []) parts)
whole_bytes [] h = tt
whole_bytes (None ∷ parts) h = whole_bytes parts h.1
whole_bytes (Some bs ∷ parts) h = all_append (λ b. b < 256) bs (flat_map (λ part. unwrap_or part []) parts) h.0 (whole_bytes parts h.1)

-- the parts of a client's message
abbrev pub AreBytes : Partial → Type 0
AreBytes p = (c : ℕ) → p.from ≡ Client c → PartsBytes p.parts

abbrev pub KeptBytes : List Partial → Type 0
KeptBytes = AllByRecursion AreBytes

abbrev pub AnswerBytes : Option (List ℕ) → Type 0
AnswerBytes None = Unit {0}
AnswerBytes (Some bs) = IsBytes bs

-- ---- a datagram

module _ (from : Peer) where
  abbrev pub OfClient : Type 0 → Type 0
  OfClient T = (c : ℕ) → from ≡ Client c → T

  abbrev pub Bytes : List Partial → Outcome → Type 0
  Bytes kept out = KeptBytes (kept_in kept out) × OfClient (AnswerBytes (answer_in out))

  module _ (bytes : List ℕ) (are : OfClient (All bytes)) where
    abbrev JoinBytes : Partial → Joined → Type 0
    JoinBytes more Clash = Unit {0}
    JoinBytes more Known = Unit {0}
    JoinBytes more More = AreBytes more
    JoinBytes more (Whole bs) = OfClient (IsBytes bs)

    joined_bytes : (kept : List Partial) (i : ℕ) (more : Partial) (j : Joined) → KeptBytes kept → JoinBytes more j → Bytes kept (after_join kept i more j)
    joined_bytes kept i more Clash all h = (all, λ c e. tt)
    joined_bytes kept i more Known all h = (all, λ c e. tt)
    joined_bytes kept i more More all h = (all_set AreBytes kept i more all h, λ c e. tt)
    joined_bytes kept i more (Whole bs) all h = (all_remove AreBytes kept i all, h)

    part_more : (p : Partial) (h : Header) → from ≡ p.from → AreBytes p → AreBytes (with_part h bytes p)
    part_more p h same k c e = all_set PartBytes p.parts (h.place / 59000) (Some bytes) (k c e) (are c (same ∙ e))

    grown_bytes : (more : Partial) (b : Bool) (whole : List ℕ) → AreBytes more → OfClient (IsBytes whole) → JoinBytes more (cond b (Whole whole) More)
    grown_bytes more true whole k w = w
    grown_bytes more false whole k w = k

    known_bytes : (more : Partial) (b : Bool) → JoinBytes more (cond b Known Clash)
    known_bytes more true = tt
    known_bytes more false = tt

    slot_bytes : (p : Partial) (h : Header) (slot : Option (Option (List ℕ))) → from ≡ p.from → AreBytes p → JoinBytes (with_part h bytes p) (joined_at p.parts (h.place / 59000) bytes slot)
    slot_bytes p h None same k = tt
    slot_bytes p h (Some None) same k =
        let more = part_more p h same k in
        let parts = (with_part h bytes p).parts in
        grown_bytes (with_part h bytes p) (list_all is_some parts) (flat_map (λ part. unwrap_or part []) parts) more
        (λ c e. all_bytes (flat_map (λ part. unwrap_or part []) parts) (whole_bytes parts (more c (sym same ∙ e))))
    slot_bytes p h (Some (Some known)) same k = known_bytes (with_part h bytes p) (bytes_eq known bytes)

    total_bytes : (more : Partial) (b : Bool) (j : Joined) → JoinBytes more j → JoinBytes more (cond b j Clash)
    total_bytes more true j h = h
    total_bytes more false j h = tt

    place_bytes : (kept : List Partial) (h : Header) (i : ℕ) (place : Option Partial) → KeptBytes kept → ((p : Partial) → place ≡ Some p → (from ≡ p.from) × AreBytes p)
        → Bytes kept (joined_with h bytes kept i place)
    place_bytes kept h i None all is = (all, λ c e. tt)
    place_bytes kept h i (Some p) all is =
        let k = is p refl in
        joined_bytes kept i (with_part h bytes p) (joins p h bytes) all
        (total_bytes (with_part h bytes p) (eqb p.total h.total) (joined_at p.parts (h.place / 59000) bytes (slice_get p.parts (h.place / 59000)))
        (slot_bytes p h (slice_get p.parts (h.place / 59000)) k.0 k.1))

    all_without : (kept : List Partial) (at : Option ℕ) → KeptBytes kept → KeptBytes (without kept at)
    all_without kept None all = all
    all_without kept (Some i) all = all_remove AreBytes kept i all

    found_bytes : (kept : List Partial) (h : Header) (at : Option ℕ) → KeptBytes kept → position (is_of from h.boot h.seq) kept ≡ at → Bytes kept (at_found from h bytes kept at)
    found_bytes kept h None all found = (
      all_append AreBytes (without kept (oldest_against from kept)) (record { from = from; boot = h.boot; seq = h.seq; total = h.total; parts = begun h bytes } ∷ [])
          (all_without kept (oldest_against from kept) all)
          ((λ c e. all_set PartBytes (replicate (piece_count h.total) None) (h.place / 59000) (Some bytes) (none_bytes (piece_count h.total)) (are c e)), tt),
      λ c e. tt,
    )
    found_bytes kept h (Some i) all found =
        place_bytes kept h i (slice_get kept i) all
        (λ p e. (
          (is_of_is from h.boot h.seq p (ap (is_of from h.boot h.seq) (sym (get_or_from_slice_get kept i p p e)) ∙ (position-Some (is_of from h.boot h.seq) kept i p found).1)).0,
          all_at AreBytes kept i p all e,
        ))

    header_bytes : (kept : List Partial) (r : Result Header FragRefused) → KeptBytes kept → Bytes kept (r >>= piece_taken from bytes kept)
    header_bytes kept (Err e) all = (all, λ c e. tt)
    header_bytes kept (Ok h) all = found_bytes kept h (position (is_of from h.boot h.seq) kept) all refl

  long_bytes : (kept : List Partial) (b : Bool) (out : Outcome) → KeptBytes kept → Bytes kept out → Bytes kept (cond b (Err refused.TooLong) out)
  long_bytes kept true out all k = (all, λ c e. tt)
  long_bytes kept false out all k = k

  piece_bytes : (kept : List Partial) (bytes : List ℕ) (b : Bool) → OfClient (IsBytes bytes) → KeptBytes kept
      → Bytes kept (cond b (header_of bytes >>= piece_taken from (drop 28 bytes) kept) (Ok (record { answer = Some bytes; kept = kept })))
  piece_bytes kept bytes true are all = header_bytes (drop 28 bytes) (λ c e. all_drop 28 bytes (bytes_all bytes (are c e))) kept (header_of bytes) all
  piece_bytes kept bytes false are all = (all, are)

  pub taken_bytes : (kept : List Partial) (bytes : List ℕ) → OfClient (IsBytes bytes) → KeptBytes kept → Bytes kept (taken kept from bytes)
  taken_bytes kept bytes are all =
      long_bytes kept (ltb 60000 (length bytes)) (cond (is_piece bytes) (header_of bytes >>= piece_taken from (drop 28 bytes) kept) (Ok (record { answer = Some bytes; kept = kept }))) all
      (piece_bytes kept bytes (is_piece bytes) are all)
