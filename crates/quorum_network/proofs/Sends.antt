-- What a reaction sends: letters that say its messages and replies.
use Rattle.law_names.proofs.Runs.{Envelope, Replied, epoch, last_of, messages_of, replies_of}
use Rattle.law_names.proofs.Table.{AllByRecursion, Cell, Contains, HasText, Me, Message, Reply, Sent, Session, Store, cell, epoch_of, epoch_or_first, number_if_there, number_in, readings_of}
use Rattle.mon_bounds.proofs.Texts.{has_text}
use Rattle.mon_bounds.specs.Fitting.{MaySend, answer_in}
use Rattle.mon_bounds.specs.Remembered.{IsNumber}
use Rattle.mon_bytes.specs.declared.limits.TheConstants.{MOST_MESSAGE}
use Rattle.mon_msg.specs.declared.plan.Sent.TheVariants as sent
use Rattle.mon_tx.specs.declared.key.Area.TheVariants as area
use Rattle.mon_tx.specs.declared.key.Key.TheVariants as key
use Rattle.mon_wire.specs.Message.Whole.{text}
use Rattle.mon_wire.specs.declared.body.Body.TheVariants as body
use Rattle.quorum_network.proofs.Invariant.{Says}
use Rattle.quorum_network.proofs.Letters.{IsPosted, Letter, labelled}
use Rattle.quorum_network.proofs.Names.{Client, Monitor, Outgoing, Peer, Posted, SendsNamed, is_piece, letters, next_after, next_after_message, posted, with_number}
use Rattle.std.proofs.Common.{Bool, List, None, Some, [], ap, arith, cond, false, length, ltb, map, option_map, refl, subst, suc, take, true, unwrap_or, zero, ℕ, ◌++◌, ◌+◌, ◌^◌, ◌∙◌, ◌∷◌, ◌≡◌, ◌≤◌}
use Rattle.std.proofs.lemmas.Bool.{ltb-false}
use Rattle.std.proofs.lemmas.List.Elements.{Contains-append_left, Contains-append_right}

-- ---- more messages and replies

pub says_more : (count i : ℕ) (es fs : List Envelope) (rs qs : List Replied) (to : Peer) (bytes : List ℕ) → Says count i es rs to bytes → Says count i (es ++ fs) (rs ++ qs) to bytes
says_more count i es fs rs qs (Monitor j) bytes (m, c, has, own, e) = (m, Contains-append_left es fs _ c, has, own, e)
says_more count i es fs rs qs (Client j) bytes (r, c, has, by, to, e) = (r, Contains-append_left rs qs r c, has, by, to, e)

pub says_behind : (count i : ℕ) (es fs : List Envelope) (rs qs : List Replied) (to : Peer) (bytes : List ℕ) → Says count i fs qs to bytes → Says count i (es ++ fs) (rs ++ qs) to bytes
says_behind count i es fs rs qs (Monitor j) bytes (m, c, has, own, e) = (m, Contains-append_right es fs _ c, has, own, e)
says_behind count i es fs rs qs (Client j) bytes (r, c, has, by, to, e) = (r, Contains-append_right rs qs r c, has, by, to, e)

-- ---- texts

epoch_in : (c : Cell) → unwrap_or (option_map (λ (bytes : List ℕ). number_in (Some bytes)) c) 1 ≡ epoch_or_first (number_if_there c)
epoch_in None = refl
epoch_in (Some bytes) = refl

pub epoch_is : (m : Store) → epoch m ≡ epoch_of (readings_of m)
unfolding readings_of
epoch_is m = epoch_in (cell m area.Monitor key.ElectionEpoch)

-- what is sent has a text
abbrev pub SentHasText : Me → ℕ → Sent → Type 0
SentHasText me e (sent.Message to m) = HasText m
SentHasText me e (sent.Reply to r) = HasText (answer_in me e to r)

-- it names its sender
abbrev pub IsOwn : Me → Sent → Type 0
IsOwn me (sent.Message to m) = m.from ≡ me.member.rank
IsOwn me (sent.Reply to r) = Unit {0}

pub have_texts : (me : Me) (e : ℕ) (sends : List Sent) → IsNumber e → AllByRecursion (MaySend me) sends → AllByRecursion SendsNamed sends → AllByRecursion (SentHasText me e) sends
have_texts me e [] n may named = tt
have_texts me e (sent.Message to m ∷ sends) n may named = ((has_text m).1 (may.0.1.form named.0, may.0.1.fits), have_texts me e sends n may.1 named.1)
have_texts me e (sent.Reply to r ∷ sends) n may named = ((has_text (answer_in me e to r)).1 ((may.0 e n).form tt, (may.0 e n).fits), have_texts me e sends n may.1 named.1)

-- ---- letters

pub record IsCuttable (bytes : List ℕ) : Type 0 where
  pub most : length bytes ≤ MOST_MESSAGE
  pub no_piece : is_piece bytes ≡ false

pub text_cuttable : (m : Message) → HasText m → IsCuttable (text m)
text_cuttable m has = record { most = has.short; no_piece = refl }

pub all_cuttable : (me : Me) (m : Store) (sends : List Sent) → AllByRecursion (SentHasText me (epoch m)) sends → AllByRecursion (λ (o : Outgoing). IsCuttable o.bytes) (letters me m sends)
all_cuttable me m [] h = tt
all_cuttable me m (sent.Message to x ∷ sends) h = (text_cuttable x h.0, all_cuttable me m sends h.1)
all_cuttable me m (sent.Reply to r ∷ sends) h = (text_cuttable (answer_in me (epoch m) to r) h.0, all_cuttable me m sends h.1)

abbrev pub SaysOf : (count i : ℕ) → List Envelope → List Replied → Outgoing → Type 0
SaysOf count i es rs o = Says count i es rs o.to o.bytes

contains_first : {X : Type 0} (x : X) (xs : List X) → Contains (x ∷ xs) x
contains_first x xs = (0, omega arith, refl)

all_behind : (count i : ℕ) (es : List Envelope) (e : List Envelope) (rs q : List Replied) (os : List Outgoing) → AllByRecursion (SaysOf count i es rs) os → AllByRecursion (SaysOf count i (e ++ es) (q ++ rs)) os
all_behind count i es e rs q [] h = tt
all_behind count i es e rs q (o ∷ os) h = (says_behind count i e es q rs o.to o.bytes h.0, all_behind count i es e rs q os h.1)

module _ (me : Me) (m : Store) (count event i : ℕ) (rank : me.member.rank ≡ i) (counts : me.member.monitors ≡ count) where
  answer_same : (to : Session) (r : Reply) → answer_in me (epoch m) to r ≡ record { from = i; monitors = count; epoch = epoch_of (readings_of m); body = body.Reply to.id r }
  answer_same to r =
      ap (λ (k : ℕ). record { from = k; monitors = me.member.monitors; epoch = epoch m; body = body.Reply to.id r }) rank
      ∙ (ap (λ (k : ℕ). record { from = i; monitors = k; epoch = epoch m; body = body.Reply to.id r }) counts
      ∙ ap (λ (k : ℕ). record { from = i; monitors = count; epoch = k; body = body.Reply to.id r }) (epoch_is m))

  pub all_say : (sends : List Sent) → AllByRecursion (SentHasText me (epoch m)) sends → AllByRecursion (IsOwn me) sends
      → AllByRecursion (SaysOf count i (messages_of sends) (replies_of event i m sends)) (letters me m sends)
  all_say [] h own = tt
  all_say (sent.Message to x ∷ sends) h own = (
    (x, contains_first (record { to = to; message = x }) (messages_of sends), h.0, own.0 ∙ rank, refl),
    all_behind count i (messages_of sends) (record { to = to; message = x } ∷ []) (replies_of event i m sends) [] (letters me m sends) (all_say sends h.1 own.1),
  )
  all_say (sent.Reply to r ∷ sends) h own =
      let q : Replied = record { event = event; rank = i; epoch = epoch_of (readings_of m); last = last_of m; session = to; reply = r } in (
        (q, contains_first q (replies_of event i m sends), subst HasText (answer_same to r) h.0, refl, refl, ap text (answer_same to r)),
        all_behind count i (messages_of sends) [] (replies_of event i m sends) (q ∷ []) (letters me m sends) (all_say sends h.1 own.1),
      )

-- ---- up to the first that finds no number

pub all_with_number : (P : Outgoing → Type 0) (next : ℕ) (os : List Outgoing) → AllByRecursion P os → AllByRecursion P (with_number next os)
all_with_number P next [] h = tt
all_with_number P next (o ∷ os) h = by (ltb (2 ^ 62 + 1) (next_after_message next (length o.bytes))) (all_with_number P (next_after_message next (length o.bytes)) os h.1)
  where
    by : (b : Bool) → AllByRecursion P (with_number (next_after_message next (length o.bytes)) os) → AllByRecursion P (cond b [] (o ∷ with_number (next_after_message next (length o.bytes)) os))
    by true rest = tt
    by false rest = (h.0, rest)

within_by : (next behind : ℕ) (o : Outgoing) (os : List Outgoing) (b : Bool) → behind ≡ next_after_message next (length o.bytes) → ltb (2 ^ 62 + 1) behind ≡ b → next ≤ 2 ^ 62 + 1
    → (behind ≤ 2 ^ 62 + 1 → next_after behind os ≤ 2 ^ 62 + 1) → next_after next (cond b [] (o ∷ os)) ≤ 2 ^ 62 + 1
within_by next behind o os true is e le rest = le
within_by next behind o os false is e le rest = subst (λ (k : ℕ). next_after k os ≤ 2 ^ 62 + 1) is (rest (ltb-false _ _ e))

pub numbers_within : (next : ℕ) (os : List Outgoing) → next ≤ 2 ^ 62 + 1 → next_after next (with_number next os) ≤ 2 ^ 62 + 1
numbers_within next [] le = le
numbers_within next (o ∷ os) le =
    let behind : ℕ = next_after_message next (length o.bytes) in
    within_by next behind o (with_number behind os) (ltb (2 ^ 62 + 1) behind) refl refl le (λ k. numbers_within behind os k)

-- ---- labels

pub label_of : (Q : Peer → List ℕ → Type 0) (i boot next : ℕ) (os : List Outgoing) → AllByRecursion (λ (o : Outgoing). Q o.to o.bytes) os → (l : Letter) → Contains (labelled i boot next os) l → Q l.to l.bytes
label_of Q i boot next [] h l (k, lt, e) = absurd (omega arith)
label_of Q i boot next (o ∷ os) h l (zero, lt, e) = subst (λ (x : Letter). Q x.to x.bytes) e h.0
label_of Q i boot next (o ∷ os) h l (suc k, lt, e) = label_of Q i boot (next_after_message next (length o.bytes)) os h.1 l (k, omega arith, e)

-- ---- datagrams

pub posted_more : (ls ks : List Letter) (ds : List Posted) → AllByRecursion (IsPosted ls) ds → AllByRecursion (IsPosted (ls ++ ks)) ds
posted_more ls ks [] h = tt
posted_more ls ks (d ∷ ds) h = ((h.0.0, Contains-append_left ls ks h.0.0 h.0.1, h.0.2, h.0.3, h.0.4), posted_more ls ks ds h.1)

pub posted_behind : (ls ks : List Letter) (ds : List Posted) → AllByRecursion (IsPosted ks) ds → AllByRecursion (IsPosted (ls ++ ks)) ds
posted_behind ls ks [] h = tt
posted_behind ls ks (d ∷ ds) h = ((h.0.0, Contains-append_right ls ks h.0.0 h.0.1, h.0.2, h.0.3, h.0.4), posted_behind ls ks ds h.1)

pub posted_front : (P : Posted → Type 0) (i k : ℕ) (ds : List Outgoing) → AllByRecursion P (map (posted i) ds) → AllByRecursion P (map (posted i) (take k ds))
posted_front P i zero ds h = tt
posted_front P i (suc k) [] h = tt
posted_front P i (suc k) (d ∷ ds) h = (h.0, posted_front P i k ds h.1)
