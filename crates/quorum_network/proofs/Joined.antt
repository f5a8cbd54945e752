-- A client that joins datagrams of letters joins whole letters.
use Rattle.law_names.proofs.Table.{AllByRecursion, Contains}
use Rattle.log_model.proofs.Lists.{all_map, of_all}
use Rattle.mon_frag.proofs.Standing.{answered_whole}
use Rattle.mon_frag.specs.Whole as frag
use Rattle.mon_frag.specs.Whole.{AreSent, From, FromPeer, IsDatagram, IsWhole, answered}
use Rattle.quorum_network.proofs.Assembled.{all_self, all_through, contains_cases, contains_first, contains_later, message_of_letter}
use Rattle.quorum_network.proofs.Letters.{AreLetters, IsPosted, Letter}
use Rattle.quorum_network.proofs.Names.{AreAnswers, Client, Monitor, Peer, Posted}
use Rattle.quorum_network.specs.Promises.{IfToClient, IsJoined, Numbers, ReachesClient}
use Rattle.std.proofs.Common.{Bool, List, [], ap, arith, cond, eqb, false, inl, inr, refl, subst, sym, true, ℕ, ◌&&◌, ◌∙◌, ◌∷◌, ◌≡◌, ◌⊎◌}
use Rattle.std.proofs.lemmas.Bool.{eq-eqb, eqb-true}

-- whether a peer is the client that has these numbers
abbrev goes_to : (ℕ → Bool) → Peer → Bool
goes_to has (Monitor j) = false
goes_to has (Client x) = has x

goes_is : (has : ℕ → Bool) (to : Peer) → goes_to has to ≡ true → (c : ℕ) × (has c ≡ true) × (to ≡ Client c)
goes_is has (Monitor j) e = absurd cc
goes_is has (Client x) e = (x, e, refl)

-- of these letters, those of monitor i to this client, as messages that an assembly joins
abbrev with_letter : Bool → Letter → List frag.Message → List frag.Message
with_letter b l others = cond b (message_of_letter l ∷ others) others

abbrev messages_to : (i : ℕ) → (ℕ → Bool) → List Letter → List frag.Message
messages_to i has [] = []
messages_to i has (l ∷ ls) = with_letter (eqb l.by i && goes_to has l.to) l (messages_to i has ls)

module _ (i : ℕ) (has : ℕ → Bool) where
  record IsOf (ls : List Letter) (m : frag.Message) : Type 0 where
    letter : Letter
    among : Contains ls letter
    by : letter.by ≡ i
    number : ℕ
    known : has number ≡ true
    goes : letter.to ≡ Client number
    is : m ≡ message_of_letter letter

  of_later : (l : Letter) (ls : List Letter) (m : frag.Message) → IsOf ls m → IsOf (l ∷ ls) m
  of_later l ls m o = record { letter = o.letter; among = contains_later l ls o.letter o.among; by = o.by; number = o.number; known = o.known; goes = o.goes; is = o.is }

  letter_of : (ls : List Letter) (m : frag.Message) → Contains (messages_to i has ls) m → IsOf ls m
  letter_of [] m k = absurd (omega (arith, k.1))
  letter_of (l ∷ ls) m k = cases (eqb l.by i) refl (goes_to has l.to) refl (letter_of ls m) k
    where
      cases : (b : Bool) → eqb l.by i ≡ b → (d : Bool) → goes_to has l.to ≡ d → (Contains (messages_to i has ls) m → IsOf ls m) → Contains (with_letter (b && d) l (messages_to i has ls)) m → IsOf (l ∷ ls) m
      cases true e true p others k = elim (contains_cases (message_of_letter l) (messages_to i has ls) m k) [
        | inl is ↦ let to = goes_is has l.to p in record { letter = l; among = contains_first l ls; by = eqb-true l.by i e; number = to.0; known = to.1; goes = to.2; is = sym is }
        | inr later ↦ of_later l ls m (others later)
      ]
      cases true e false p others k = of_later l ls m (others k)
      cases false e d p others k = of_later l ls m (others k)

  found : (l : Letter) (others : List frag.Message) (b : Bool) → b ≡ true → Contains (with_letter b l others) (message_of_letter l)
  found l others true e = contains_first (message_of_letter l) others
  found l others false e = absurd cc

  passed : (l : Letter) (others : List frag.Message) (m : frag.Message) (b : Bool) → Contains others m → Contains (with_letter b l others) m
  passed l others m true k = contains_later (message_of_letter l) others m k
  passed l others m false k = k

  module _ (c : ℕ) (known : has c ≡ true) where
    message_in : (ls : List Letter) (l : Letter) → Contains ls l → l.by ≡ i → l.to ≡ Client c → Contains (messages_to i has ls) (message_of_letter l)
    message_in [] l k own goes = absurd (omega (arith, k.1))
    message_in (x ∷ ls) l k own goes = cases (message_in ls l) (contains_cases x ls l k)
      where
        test : (eqb l.by i && goes_to has l.to) ≡ true
        test = ap (λ (b : Bool). b && goes_to has l.to) (eq-eqb l.by i own) ∙ ap (goes_to has) goes ∙ known

        cases : (Contains ls l → l.by ≡ i → l.to ≡ Client c → Contains (messages_to i has ls) (message_of_letter l)) → (x ≡ l) ⊎ Contains ls l
            → Contains (with_letter (eqb x.by i && goes_to has x.to) x (messages_to i has ls)) (message_of_letter l)
        cases others (inl e) = subst (λ (y : Letter). Contains (with_letter (eqb y.by i && goes_to has y.to) y (messages_to i has ls)) (message_of_letter l)) (sym e) (found l (messages_to i has ls) (eqb l.by i && goes_to has l.to) test)
        cases others (inr later) = passed x (messages_to i has ls) (message_of_letter l) (eqb x.by i && goes_to has x.to) (others later own goes)

  are_sent : (ls : List Letter) → AreLetters ls → AreSent (messages_to i has ls)
  are_sent ls A = record {
    messages = λ m k.
        let o = letter_of ls m k in
        let cut = A.cut o.letter o.among in
        subst frag.IsMessage (sym o.is) (record { most = cut.most; boot = cut.boot; seq = cut.seq; no_piece = cut.no_piece });
    numbered = λ m n k d long longer boots seqs.
        let o = letter_of ls m k in
        let q = letter_of ls n d in
        let same = A.numbered o.letter q.letter o.among q.among (subst frag.IsLong o.is long) (subst frag.IsLong q.is longer) (o.by ∙ sym q.by)
        (sym (ap (λ (x : frag.Message). x.boot) o.is) ∙ boots ∙ ap (λ (x : frag.Message). x.boot) q.is)
        (sym (ap (λ (x : frag.Message). x.seq) o.is) ∙ seqs ∙ ap (λ (x : frag.Message). x.seq) q.is) in
        ap (λ (x : frag.Message). x.bytes) o.is ∙ same.1 ∙ sym (ap (λ (x : frag.Message). x.bytes) q.is);
  }

-- What a client joins of these datagrams, if each letter to a client is a message that its monitor may send.
module _ (ls : List Letter) (A : AreLetters ls) (sent : List Posted) (posted : AllByRecursion (IsPosted ls) sent) (MaySend : (i c : ℕ) → List ℕ → Type 0)
    (own : (l : Letter) → Contains ls l → (c : ℕ) → l.to ≡ Client c → MaySend l.by c l.bytes) where
  module _ (numbers : Numbers) where
    abbrev Of : ℕ → List frag.Message
    Of i = messages_to i (numbers i) ls

    comes_so : (i : ℕ) (d : FromPeer) → ReachesClient sent numbers d.from d.bytes → From (Monitor i) (IsDatagram (Of i)) d
    comes_so i d reaches = λ same.
        let at : ReachesClient sent numbers (Monitor i) d.bytes = subst (λ (p : Peer). ReachesClient sent numbers p d.bytes) (sym same) reaches in
        let p = of_all (IsPosted ls) sent posted (record { by = i; datagram = record { to = Client at.0; bytes = d.bytes } }) at.2 in
        (message_of_letter p.0, message_in i (numbers i) at.0 at.1 ls p.0 p.1 p.2 p.3, p.4)

    of_peer : (came : List FromPeer) → AllByRecursion (λ (d : FromPeer). ReachesClient sent numbers d.from d.bytes) came → (d : FromPeer) → Contains (answered [] came) d → (from : Peer) → d.from ≡ from → IsJoined MaySend numbers from d.bytes
    of_peer came all d k (Client x) e = tt
    of_peer came all d k (Monitor i) e =
        let all_so = all_through (λ (x : FromPeer). ReachesClient sent numbers x.from x.bytes) (From (Monitor i) (IsDatagram (Of i))) (comes_so i) came all in
        let whole = of_all (From (Monitor i) (IsWhole (Of i))) (answered [] came) (answered_whole (Monitor i) (Of i) (are_sent i (numbers i) ls A) [] came tt all_so) d k (sym e) in
        let o = letter_of i (numbers i) ls whole.0 whole.1 in (
          o.number,
          o.known,
          subst (MaySend i o.number) (sym (ap (λ (x : frag.Message). x.bytes) o.is) ∙ whole.2)
              (subst (λ (j : ℕ). MaySend j o.number o.letter.bytes) o.by (own o.letter o.among o.number o.goes)),
        )

  pub joins : (numbers : Numbers) (came : List FromPeer) → AllByRecursion (λ (d : FromPeer). ReachesClient sent numbers d.from d.bytes) came
      → AllByRecursion (λ (d : FromPeer). IsJoined MaySend numbers d.from d.bytes) (answered [] came)
  joins numbers came all = all_self (λ (d : FromPeer). IsJoined MaySend numbers d.from d.bytes) (answered [] came) (λ d k. of_peer numbers came all d k d.from refl)

  datagram_is : (d : Posted) → IsPosted ls d → (to : Peer) → d.datagram.to ≡ to → IfToClient MaySend d.by to d.datagram.bytes
  datagram_is d p (Monitor j) e = tt
  datagram_is d p (Client c) e = (p.0.bytes, subst (λ (k : ℕ). MaySend k c p.0.bytes) p.2 (own p.0 p.1 c (p.3 ∙ e)), (p.0.boot, p.0.seq, p.4))

  pub letters_answer : AreAnswers MaySend sent
  letters_answer = record {
    each = all_map (IsPosted ls) (λ (d : Posted). IfToClient MaySend d.by d.datagram.to d.datagram.bytes) (λ d p. datagram_is d p d.datagram.to refl) sent posted;
    joined = joins;
  }
