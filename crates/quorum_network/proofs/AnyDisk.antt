-- What is joined is a whole message, whatever the stores are on which lives begin.
use Rattle.law_names.proofs.Runs.{Monitors, epoch, me_of, most_size, put_at, size_of}
use Rattle.law_names.proofs.Table.{AllByRecursion, Contains, Me, Reaction, Stop, Timer, Which, due}
use Rattle.log_model.proofs.Lists.{of_all}
use Rattle.mon_bounds.proofs.Table.{boot_ok, reaction_ok}
use Rattle.mon_bounds.specs.Fitting.{IsBounded}
use Rattle.mon_frag.proofs.Lists.{all_append}
use Rattle.mon_node.proofs.Sending.{all_numbered as numbers_found}
use Rattle.mon_node.specs.declared.end.NodeEnd.TheVariants as end
use Rattle.mon_types.specs.declared.names.Stop.TheVariants as stop
use Rattle.mon_types.specs.declared.names.Which.TheVariants as which
use Rattle.quorum_network.proofs.Assembled.{all_through, assembly, contains_first, contains_later}
use Rattle.quorum_network.proofs.Assembling.{Assembly, IsLabelled}
use Rattle.quorum_network.proofs.Heeded.{IfInput, IsText, all_texts, answer_may, text_cut, timed_input}
use Rattle.quorum_network.proofs.Invariant.{IsAlive}
use Rattle.quorum_network.proofs.Joined.{joins}
use Rattle.quorum_network.proofs.Kept.{epoch_short}
use Rattle.quorum_network.proofs.Letters.{AreLetters, CanBeCut, IsFed, IsLong, IsPosted, IsRight, Letter, Numbered, labelled}
use Rattle.quorum_network.proofs.Names.{AreNamed, Begins, Client, Closed, Datagram, Doing, Down, Given, Got, Heard, Idle, IsAnswer, IsAsked, Iterates, Iteration, Kept, Lost, MayRemember, Monitor, Network, Node, NodeEnd, Observed, Outgoing, Outside, Peer, Posted, Process, Readings, SendsNamed, Serving, Step, StepOutcome, StoreView, TimedInput, Until, Up, Whole, answer_arrived, answer_in, at_end, boot_in, clock_read, datagrams, done, down, due_by, ended_iteration, heard_by, if_made, input_in, iteration, iteration_of, kept_reaction, letters, link_asked, made_by, map_after, network, newest, next_after, next_number, number_of, numbered_by, of_input, outcome_of, posted, reacted, reaction_to, sends_of, sent_by, start, taken, under, unstarted, wait_until, with_number, with_outcome}
use Rattle.quorum_network.proofs.Sends.{IsCuttable, all_with_number, have_texts, label_of, numbers_within, posted_behind, posted_front, posted_more}
use Rattle.quorum_network.proofs.Under.{Under, all_before, all_under, under_datagrams}
use Rattle.quorum_network.specs.AnyDisk.{AllMayAnyhow, ClientsJoinWhole, IsMail, IsMailTo, JoinsWhole, Mailed, MayAnyhow, NamesAt, mail, mailed, mailed_at, mailed_by, mailed_in_iteration}
use Rattle.quorum_network.specs.Network.{CameFrom}
use Rattle.std.proofs.Common.{Bool, Err, IfOk, IfSome, List, None, Ok, Option, Result, Some, [], ap, arith, cond, eqb, false, inl, inr, map, nat_lt, refl, subst, sym, take, true, ℕ, ◌++◌, ◌+◌, ◌<◌, ◌^◌, ◌∙◌, ◌∷◌, ◌≡◌, ◌≤◌}
use Rattle.std.proofs.lemmas.Bool.{eq-eqb, eqb-false, eqb-true, ltb-false}
use Rattle.std.proofs.lemmas.List.Elements.{Contains-append_cases, Contains-append_left, Contains-append_right}

-- ---- what holds

module _ (A : Assembly) (ms : Monitors) where
  record UpSo (ls : List Letter) (life i : ℕ) (s : Serving) : Type 0 where
    parts : A.Keeps ls i s.outside.parts
    next : (l : Letter) → Contains ls l → IsLong l → l.by ≡ i → l.boot ≡ life → l.seq < s.node.next
    most : s.node.next ≤ 2 ^ 62 + 1
    remembers : (me : Me) → me_of ms i ≡ Some me → MayRemember me s.node.state

  abbrev IfUpSo : List Letter → (life i : ℕ) → Process → Type 0
  IfUpSo ls life i (Up s) = UpSo ls life i s
  IfUpSo ls life i (Down m) = Unit {0}

  record Fine (net : Network) (mails : List Mailed) : Type 0 where
    ls : List Letter
    up : (j : ℕ) → IfUpSo ls (number_of net.lives j) j (net.process j)
    posted : AllByRecursion (IsPosted ls) net.sent
    letters : AreLetters ls
    texts : (l : Letter) → Contains ls l → IsText l.bytes
    mails_are : (l : Letter) → Contains ls l → Contains mails (mail l.by (record { to = l.to; bytes = l.bytes }))
    known : (l : Letter) → Contains ls l → Contains (net.lives l.by) l.boot
    alive : (j : ℕ) → IsAlive (net.lives j) (net.process j)
    numbers : (j : ℕ) → number_of net.lives j ≤ 2 ^ 62

-- what is sent is found
all_mailed : (i : ℕ) (os : List Outgoing) → AllByRecursion (λ (o : Outgoing). Contains (map (mail i) os) (mail i o)) os
all_mailed i [] = tt
all_mailed i (o ∷ os) = (
  contains_first (mail i o) (map (mail i) os),
  all_through (λ (x : Outgoing). Contains (map (mail i) os) (mail i x)) (λ (x : Outgoing). Contains (mail i o ∷ map (mail i) os) (mail i x)) (λ x c. contains_later (mail i o) (map (mail i) os) (mail i x) c) os (all_mailed i os),
)

module _ (A : Assembly) (ms : Monitors) (net : Network) (mails : List Mailed) (I : Fine A ms net mails) (i : ℕ) where
  abbrev life : ℕ
  life = number_of net.lives i

  -- nothing is sent
  still : (q : Process) → IfUpSo A ms I.ls life i q → IsAlive (net.lives i) q → (more : List Mailed) → Fine A ms (with_outcome net i (record { process = q; sends = [] })) (mails ++ more)
  still q u a more = record {
    ls = I.ls;
    up = λ j. up_by j (eqb j i) refl;
    posted = all_append (IsPosted I.ls) net.sent [] I.posted tt;
    letters = I.letters;
    texts = I.texts;
    mails_are = λ l c. Contains-append_left mails more _ (I.mails_are l c);
    known = I.known;
    alive = λ j. alive_by j (eqb j i) refl;
    numbers = I.numbers;
  }
    where
      up_by : (j : ℕ) (b : Bool) → eqb j i ≡ b → IfUpSo A ms I.ls (number_of net.lives j) j (cond b q (net.process j))
      up_by j true k = subst (λ (x : ℕ). IfUpSo A ms I.ls (number_of net.lives x) x q) (sym (eqb-true j i k)) u
      up_by j false k = I.up j

      alive_by : (j : ℕ) (b : Bool) → eqb j i ≡ b → IsAlive (net.lives j) (cond b q (net.process j))
      alive_by j true k = subst (λ (x : ℕ). IsAlive (net.lives x) q) (sym (eqb-true j i k)) a
      alive_by j false k = I.alive j

  module _ (n : Node) (outs : List Outgoing) (are : AllByRecursion (λ (o : Outgoing). IsText o.bytes) outs) (most : n.next ≤ 2 ^ 62 + 1) (last : next_after n.next outs ≤ 2 ^ 62 + 1)
      (fresh : (l : Letter) → Contains I.ls l → IsLong l → l.by ≡ i → l.boot ≡ life → l.seq < n.next) (alive : Contains (net.lives i) life)
      (more : List Mailed) (among : AllByRecursion (λ (o : Outgoing). Contains more (mail i (record { to = o.to; bytes = o.bytes }))) outs) where
    short : AllByRecursion (λ (o : Outgoing). IsCuttable o.bytes) outs
    short = all_through (λ (o : Outgoing). IsText o.bytes) (λ (o : Outgoing). IsCuttable o.bytes) (λ o h. text_cut o.bytes h) outs are

    abbrev new : List Letter
    new = labelled i life n.next outs

    labels : IsLabelled i life n.next outs new
    labels = A.labels i life n.next outs

    cut_now : (l : Letter) → Contains (I.ls ++ new) l → CanBeCut l
    cut_now l c = elim (Contains-append_cases I.ls new l c) [
      | inl old ↦ I.letters.cut l old
      | inr now ↦
          let k = label_of (λ to bytes. IsCuttable bytes) i life n.next outs short l now in
          let b = labels.by l now in
          let small = I.numbers i in
          record { most = k.most; boot = omega (arith, b.1, small); seq = omega (arith, b.3, last); no_piece = k.no_piece }
    ]

    texts_now : (l : Letter) → Contains (I.ls ++ new) l → IsText l.bytes
    texts_now l c = elim (Contains-append_cases I.ls new l c) [ inl old ↦ I.texts l old | inr now ↦ label_of (λ to bytes. IsText bytes) i life n.next outs are l now ]

    old_new : (l k : Letter) → Contains I.ls l → Contains new k → IsLong l → l.by ≡ k.by → l.boot ≡ k.boot → l.seq ≡ k.seq → ⊥
    old_new l k old now long by boots seqs =
        let b = labels.by k now in
        let f = fresh l old long (by ∙ b.0) (boots ∙ b.1) in
        omega (arith, f, b.2, seqs)

    numbered_now : Numbered (I.ls ++ new)
    numbered_now l k c d long longer by boots seqs = elim (Contains-append_cases I.ls new l c) [
      | inl old ↦ elim (Contains-append_cases I.ls new k d) [
        | inl both ↦ I.letters.numbered l k old both long longer by boots seqs
        | inr now ↦ absurd (old_new l k old now long by boots seqs)
      ]
      | inr now ↦ elim (Contains-append_cases I.ls new k d) [
        | inl old ↦ absurd (old_new k l old now longer (sym by) (sym boots) (sym seqs))
        | inr both ↦ labels.once l k now both long longer seqs
      ]
    ]

    next_now : (l : Letter) → Contains (I.ls ++ new) l → IsLong l → l.by ≡ i → l.boot ≡ life → l.seq < next_after n.next outs
    next_now l c long by boots = elim (Contains-append_cases I.ls new l c) [
      | inl old ↦ let f = fresh l old long by boots in omega (arith, f, labels.up)
      | inr now ↦ labels.long l now long
    ]

    up_more : (j : ℕ) (p : Process) → (j ≡ i → ⊥) → IfUpSo A ms I.ls (number_of net.lives j) j p → IfUpSo A ms (I.ls ++ new) (number_of net.lives j) j p
    up_more j (Down m) ne u = tt
    up_more j (Up s) ne u = record {
      parts = A.more I.ls new j s.outside.parts u.parts;
      next = λ l c long own boot. elim (Contains-append_cases I.ls new l c) [ inl old ↦ u.next l old long own boot | inr now ↦ absurd (ne (sym own ∙ (labels.by l now).0)) ];
      most = u.most;
      remembers = u.remembers;
    }

    mails_now : (l : Letter) → Contains (I.ls ++ new) l → Contains (mails ++ more) (mail l.by (record { to = l.to; bytes = l.bytes }))
    mails_now l c = elim (Contains-append_cases I.ls new l c) [
      | inl old ↦ Contains-append_left mails more _ (I.mails_are l old)
      | inr now ↦ Contains-append_right mails more _
          (subst (λ (x : ℕ). Contains more (mail x (record { to = l.to; bytes = l.bytes }))) (sym (labels.by l now).0)
          (label_of (λ to bytes. Contains more (mail i (record { to = to; bytes = bytes }))) i life n.next outs among l now))
    ]

    known_now : (l : Letter) → Contains (I.ls ++ new) l → Contains (net.lives l.by) l.boot
    known_now l c = elim (Contains-append_cases I.ls new l c) [
      | inl old ↦ I.known l old
      | inr now ↦
          let b = labels.by l now in
          subst (λ (k : ℕ). Contains (net.lives k) l.boot) (sym b.0) (subst (λ (k : ℕ). Contains (net.lives i) k) (sym b.1) alive)
    ]

    out : (q : Process) (b : ℕ) (ds : List Outgoing) → ((P : Posted → Type 0) → AllByRecursion P (map (posted i) (datagrams b n.next outs)) → AllByRecursion P (map (posted i) ds))
        → IfUpSo A ms (I.ls ++ new) life i q → Fine A ms (with_outcome net i (record { process = q; sends = ds })) (mails ++ more)
    out q b ds front u = record {
      ls = I.ls ++ new;
      up = λ j. up_by j (eqb j i) refl;
      posted = all_append (IsPosted (I.ls ++ new)) net.sent wire (posted_more I.ls new net.sent I.posted)
          (wire_front (IsPosted (I.ls ++ new)) (posted_behind I.ls new (map (posted i) (datagrams life n.next outs)) (A.pieces i life n.next outs)));
      letters = record { cut = cut_now; numbered = numbered_now };
      texts = texts_now;
      mails_are = mails_now;
      known = known_now;
      alive = λ j. alive_by j (eqb j i) refl;
      numbers = I.numbers;
    }
      where
        wire : List Posted
        wire = map (posted i) (map (under life) ds)

        wire_front : (P : Posted → Type 0) → AllByRecursion P (map (posted i) (datagrams life n.next outs)) → AllByRecursion P (map (posted i) (map (under life) ds))
        wire_front P all = all_under P i life ds (front (Under life P) (all_before P i life (datagrams b n.next outs)
            (subst (λ (xs : List Outgoing). AllByRecursion P (map (posted i) xs)) (sym (under_datagrams life b n.next outs short)) all)))

        up_by : (j : ℕ) (c : Bool) → eqb j i ≡ c → IfUpSo A ms (I.ls ++ new) (number_of net.lives j) j (cond c q (net.process j))
        up_by j true k = subst (λ (x : ℕ). IfUpSo A ms (I.ls ++ new) (number_of net.lives x) x q) (sym (eqb-true j i k)) u
        up_by j false k = up_more j (net.process j) (eqb-false j i k) (I.up j)

        of_process : (p : Process) → IsAlive (net.lives i) p
        of_process (Up s) = alive
        of_process (Down m) = tt

        alive_by : (j : ℕ) (c : Bool) → eqb j i ≡ c → IsAlive (net.lives j) (cond c q (net.process j))
        alive_by j true k = subst (λ (x : ℕ). IsAlive (net.lives x) q) (sym (eqb-true j i k)) (of_process q)
        alive_by j false k = I.alive j

  -- ---- an iteration

  record IterationSo (me : Me) (came : Result (Option TimedInput) NodeEnd) (s : Serving) : Type 0 where
    parts : A.Keeps I.ls i s.outside.parts
    most : s.node.next ≤ 2 ^ 62 + 1
    fresh : (l : Letter) → Contains I.ls l → IsLong l → l.by ≡ i → l.boot ≡ life → l.seq < s.node.next
    alive : Contains (net.lives i) life
    remembers : MayRemember me s.node.state
    may : IfInput came

  abbrev AllNamed : Reaction → Type 0
  AllNamed r = AllByRecursion SendsNamed r.sends

  module _ (me : Me) (is : me_of ms i ≡ Some me) where
    -- there is one of its rank
    same_me : (P : Me → Type 0) → P me → (other : Me) → me_of ms i ≡ Some other → P other
    same_me P h other e = let one : Some me ≡ Some other = sym is ∙ e in let both : me ≡ other = cc in subst P both h

    module _ (s : Serving) (it : TimedInput) (T : IterationSo me (Ok (Some it)) s) where
      abbrev t : Iteration
      t = record { came = Ok (Some it); serving = s }

      abbrev n : Node
      n = s.node

      abbrev small_of : Reaction → Option Reaction
      small_of r = cond (nat_lt most_size (size_of (map_after n r))) None (Some r)

      abbrev Then : Option Reaction → StepOutcome → Type 0
      Then o l = Fine A ms (with_outcome net i l) (mails ++ mailed_by i me n o)

      bounded : (r : Reaction) → reaction_to me n it ≡ Ok r → IsBounded me r
      bounded r e = subst (λ (x : Result Reaction Which). IfOk x (IsBounded me)) e (reaction_ok me it.at n.store.kv n.state it.input T.remembers T.may)

      texts : (r : Reaction) → reaction_to me n it ≡ Ok r → AllNamed r → AllByRecursion (λ (o : Outgoing). IsText o.bytes) (letters me (map_after n r) r.sends)
      texts r e named =
          all_texts me (map_after n r) r.sends (have_texts me (epoch (map_after n r)) r.sends (epoch_short (map_after n r)) (bounded r e).sends named)

      finds : (r : Reaction) → AllByRecursion (λ (o : Outgoing). Contains (mailed_by i me n (Some r)) (mail i (record { to = o.to; bytes = o.bytes }))) (letters me (map_after n r) r.sends)
      finds r = all_mailed i (letters me (map_after n r) r.sends)

      down_next : (k : ℕ) (r : Reaction) → reaction_to me n it ≡ Ok r → AllNamed r → Then (Some r) (down me n k (Some r))
      down_next k r e named =
          let all : List Outgoing = letters me (map_after n r) r.sends in
          let outs : List Outgoing = with_number n.next all in
          out n outs (all_with_number (λ (o : Outgoing). IsText o.bytes) n.next all (texts r e named)) T.most (numbers_within n.next all T.most) T.fresh T.alive (mailed_by i me n (Some r))
          (all_with_number (λ (o : Outgoing). Contains (mailed_by i me n (Some r)) (mail i (record { to = o.to; bytes = o.bytes }))) n.next all (finds r))
          (Down (map_after n r)) (boot_in (map_after n r)) (take k (numbered_by me n r)) (λ P h. posted_front P i k (datagrams (boot_in (map_after n r)) n.next outs) h) tt

      kept_next : (k : ℕ) (x : Result Reaction Which) → reaction_to me n it ≡ x → IfSome (kept_reaction me t) AllNamed → Then (kept_reaction me t) (down me n k (kept_reaction me t))
      kept_next k (Err which) e named = subst (λ (o : Option Reaction). Then o (down me n k o)) (sym (ap (of_input None small_of) e)) (still (Down n.store.kv) tt tt [])
      kept_next k (Ok r) e named =
          let kept_is : kept_reaction me t ≡ small_of r = ap (of_input None small_of) e in
          subst (λ (o : Option Reaction). Then o (down me n k o)) (sym kept_is) (by (nat_lt most_size (size_of (map_after n r))) (subst (λ (o : Option Reaction). IfSome o AllNamed) kept_is named))
        where
          by : (b : Bool) → IfSome (cond b None (Some r)) AllNamed → Then (cond b None (Some r)) (down me n k (cond b None (Some r)))
          by true h = still (Down n.store.kv) tt tt []
          by false h = down_next k r e h

      up_next : (r : Reaction) → reaction_to me n it ≡ Ok r → AllNamed r → nat_lt (2 ^ 62 + 1) (next_number me n r) ≡ false → Then (Some r) (record { process = Up (done me s r); sends = sent_by me n r })
      up_next r e named few =
          let outs : List Outgoing = letters me (map_after n r) r.sends in
          let are = texts r e named in
          let last : next_after n.next outs ≤ 2 ^ 62 + 1 = ltb-false _ _ few in
          let labels : List Letter = new n outs are T.most last T.fresh T.alive (mailed_by i me n (Some r)) (finds r) in
          out n outs are T.most last T.fresh T.alive (mailed_by i me n (Some r)) (finds r)
          (Up (done me s r)) (boot_in (map_after n r)) (sent_by me n r) (λ P h. h)
          (record {
            parts = A.more I.ls labels i s.outside.parts T.parts;
            next = next_now n outs are T.most last T.fresh T.alive (mailed_by i me n (Some r)) (finds r);
            most = last;
            remembers = same_me (λ (x : Me). MayRemember x r.state) (bounded r e).state;
          })

      all_of_them : (r : Reaction) → reaction_to me n it ≡ Ok r → nat_lt most_size (size_of (map_after n r)) ≡ false → nat_lt (2 ^ 62 + 1) (next_number me n r) ≡ false → sent_by me n r ≡ sends_of me t
      all_of_them r e small few =
          let outs : List Outgoing = letters me (map_after n r) r.sends in
          sym (ap (of_input [] (λ (q : Reaction). cond (nat_lt most_size (size_of (map_after n q))) [] (numbered_by me n q))) e ∙ ap (λ (b : Bool). cond b [] (numbered_by me n r)) small
          ∙ ap (datagrams (boot_in (map_after n r)) n.next) (numbers_found n.next outs (ltb-false _ _ few)))

      whole_next : (x : Result Reaction Which) → reaction_to me n it ≡ x → IfSome (kept_reaction me t) AllNamed → Then (kept_reaction me t) (at_end me t (reacted me s x))
      whole_next (Err which) e named = kept_next 0 (Err which) e named
      whole_next (Ok r) e named = by (nat_lt most_size (size_of (map_after n r))) refl (nat_lt (2 ^ 62 + 1) (next_number me n r)) refl
        where
          by : (b : Bool) → nat_lt most_size (size_of (map_after n r)) ≡ b → (f : Bool) → nat_lt (2 ^ 62 + 1) (next_number me n r) ≡ f
              → Then (kept_reaction me t) (at_end me t (cond b (Err (end.Full (size_of (map_after n r)))) (cond f (Err (end.Spent which.Seq)) (Ok (done me s r)))))
          by true small f few = kept_next 0 (Ok r) e named
          by false small true few = kept_next 0 (Ok r) e named
          by false small false few =
              let kept_is : kept_reaction me t ≡ Some r = ap (of_input None small_of) e ∙ ap (λ (b : Bool). cond b None (Some r)) small in
              let named_so : AllNamed r = subst (λ (o : Option Reaction). IfSome o AllNamed) kept_is named in
              subst (λ (o : Option Reaction). Then o (record { process = Up (done me s r); sends = sends_of me t })) (sym kept_is)
              (subst (λ (ds : List Outgoing). Then (Some r) (record { process = Up (done me s r); sends = ds })) (all_of_them r e small few) (up_next r e named_so few))

    iteration_fine : (came : Result (Option TimedInput) NodeEnd) (s : Serving) (u : Until) → IterationSo me came s → AreNamed me u (Some (record { came = came; serving = s }))
        → Fine A ms (with_outcome net i (outcome_of me (record { came = came; serving = s }) u)) (mails ++ mailed_in_iteration i me u (Some (record { came = came; serving = s })))
    unfolding ended_iteration
    iteration_fine came s Lost T named = still (Down s.node.store.kv) tt tt []
    iteration_fine (Err e) s Whole T named = still (Down s.node.store.kv) tt tt []
    iteration_fine (Err e) s (Kept k) T named = still (Down s.node.store.kv) tt tt []
    iteration_fine (Ok None) s Whole T named = still (Up s) (record { parts = T.parts; next = T.fresh; most = T.most; remembers = same_me (λ (x : Me). MayRemember x s.node.state) T.remembers }) T.alive []
    iteration_fine (Ok None) s (Kept k) T named = still (Down s.node.store.kv) tt tt []
    iteration_fine (Ok (Some it)) s Whole T named = whole_next s it T (reaction_to me s.node it) refl named
    iteration_fine (Ok (Some it)) s (Kept k) T named = kept_next s it T k (reaction_to me s.node it) refl named

    -- ---- what it is given

    fed : (from : Peer) (bytes : List ℕ) → CameFrom net i from bytes → IsFed I.ls i from bytes
    fed (Monitor j) bytes came = of_all (IsPosted I.ls) net.sent I.posted (record { by = j; datagram = record { to = Monitor i; bytes = bytes } }) came
    fed (Client c) bytes came = came

    record HeardSo (h : Heard) : Type 0 where
      parts : A.Keeps I.ls i h.outside.parts
      may : IfInput h.came

    answer_so : (m later : ℕ) (answer : Result Got Stop) (o : Outside) → A.Keeps I.ls i o.parts → IsAnswer net i answer → HeardSo (answer_arrived m later answer o)
    answer_so m later (Ok (Datagram from bytes)) o keeps is =
        let t = A.takes I.ls i o.parts from bytes I.letters keeps (fed from bytes is) in
        let answer : Option (List ℕ) = answer_in (taken o.parts from bytes) in
        record { parts = t.0; may = timed_input later (input_in m from answer) (answer_may I.ls I.texts i m from answer t.1) }
    answer_so m later (Ok Idle) o keeps is = record { parts = keeps; may = tt }
    answer_so m later (Ok Closed) o keeps is = record { parts = keeps; may = tt }
    answer_so m later (Err stop.Failed) o keeps is = record { parts = keeps; may = tt }
    answer_so m later (Err stop.OutOfMemory) o keeps is = record { parts = keeps; may = tt }

    heard_so : (t : Option Timer) (m wait : ℕ) (g : Given) (o : Outside) → A.Keeps I.ls i o.parts → IsAsked net i t g.answer → HeardSo (heard_by t m wait g o)
    heard_so (Some t) m wait g o keeps is = record { parts = keeps; may = tt }
    heard_so None m wait g o keeps is = answer_so m g.later g.answer (link_asked wait g.answer o) keeps is

    turns_so : (g : Given) (s : Serving) → UpSo A ms I.ls life i s → Contains (net.lives i) life → IsAsked net i (due_by g.began (due s.node.state.timers)) g.answer → IterationSo me (iteration me g s).came (iteration me g s).serving
    unfolding iteration
    turns_so g s u alive asked =
        let next = due s.node.state.timers in
        let h = heard_so (due_by g.began next) me.member.monitors (wait_until g.began next) g (clock_read s.outside) u.parts asked in
        record { parts = h.parts; most = u.most; fresh = u.next; alive = alive; remembers = u.remembers me is; may = h.may }

-- ---- a life begins

module _ (A : Assembly) (ms : Monitors) (net : Network) (mails : List Mailed) (I : Fine A ms net mails) (i begun : ℕ) (small : begun ≤ 2 ^ 62) (new_one : Contains (net.lives i) begun → ⊥) where
  abbrev lives_by : Bool → ℕ → List ℕ
  lives_by b j = cond b (begun ∷ net.lives i) (net.lives j)

  abbrev then_net : Network
  then_net = record { process = net.process; lives = put_at net.lives i (begun ∷ net.lives i); sent = net.sent }

  none_has : (l : Letter) → Contains I.ls l → l.by ≡ i → l.boot ≡ begun → ⊥
  none_has l c own boot = new_one (subst (λ (x : ℕ). Contains (net.lives i) x) boot (subst (λ (x : ℕ). Contains (net.lives x) l.boot) own (I.known l c)))

  begun_up : (j : ℕ) (p : Process) → j ≡ i → IfUpSo A ms I.ls (number_of net.lives j) j p → IfUpSo A ms I.ls begun j p
  begun_up j (Down m) e u = tt
  begun_up j (Up s) e u = record { parts = u.parts; next = λ l c long own boot. absurd (none_has l c (own ∙ e) boot); most = u.most; remembers = u.remembers }

  begun_alive : (p : Process) → IsAlive (begun ∷ net.lives i) p
  begun_alive (Up s) = contains_first begun (net.lives i)
  begun_alive (Down m) = tt

  up_by : (j : ℕ) (b : Bool) → eqb j i ≡ b → IfUpSo A ms I.ls (newest (lives_by b j)) j (net.process j)
  up_by j true e = begun_up j (net.process j) (eqb-true j i e) (I.up j)
  up_by j false e = I.up j

  known_by : (l : Letter) → Contains I.ls l → (b : Bool) → eqb l.by i ≡ b → Contains (lives_by b l.by) l.boot
  known_by l c true e = contains_later begun (net.lives i) l.boot (subst (λ (x : ℕ). Contains (net.lives x) l.boot) (eqb-true l.by i e) (I.known l c))
  known_by l c false e = I.known l c

  alive_by : (j : ℕ) (b : Bool) → eqb j i ≡ b → IsAlive (lives_by b j) (net.process j)
  alive_by j true e = begun_alive (net.process j)
  alive_by j false e = I.alive j

  numbers_by : (j : ℕ) (b : Bool) → newest (lives_by b j) ≤ 2 ^ 62
  numbers_by j true = small
  numbers_by j false = I.numbers j

  abbrev holds : Fine A ms then_net mails
  holds = record {
    ls = I.ls;
    up = λ j. up_by j (eqb j i) refl;
    posted = I.posted;
    letters = I.letters;
    texts = I.texts;
    mails_are = I.mails_are;
    known = λ l c. known_by l c (eqb l.by i) refl;
    alive = λ j. alive_by j (eqb j i) refl;
    numbers = λ j. numbers_by j (eqb j i);
  }

  newest_here : (b : Bool) → b ≡ true → newest (lives_by b i) ≡ begun
  newest_here true e = refl
  newest_here false e = absurd cc

  has_here : (b : Bool) → b ≡ true → Contains (lives_by b i) (newest (lives_by b i))
  has_here true e = contains_first begun (net.lives i)
  has_here false e = absurd cc

  begins_so : (me : Me) (store_view : StoreView) (clock : Option Readings) (link : Option Observed) (first : ℕ) (t : Iteration) → t ≡ start first (unstarted me.member.rank store_view clock link) → IterationSo A ms then_net mails holds i me t.came t.serving
  begins_so me store_view clock link first t e = subst (λ (x : Iteration). IterationSo A ms then_net mails holds i me x.came x.serving) (sym e) (record {
    parts = A.nothing I.ls i;
    most = omega arith;
    fresh = λ l c long own boot. absurd (none_has l c own (boot ∙ newest_here (eqb i i) (eq-eqb i i refl)));
    alive = has_here (eqb i i) (eq-eqb i i refl);
    remembers = boot_ok me;
    may = tt;
  })

-- ---- all steps

module _ (A : Assembly) (ms : Monitors) where
  more_mails : (net : Network) (mails : List Mailed) (I : Fine A ms net mails) (more : List Mailed) → Fine A ms net (mails ++ more)
  more_mails net mails I more = record {
    ls = I.ls;
    up = I.up;
    posted = I.posted;
    letters = I.letters;
    texts = I.texts;
    mails_are = λ l c. Contains-append_left mails more _ (I.mails_are l c);
    known = I.known;
    alive = I.alive;
    numbers = I.numbers;
  }

  made_fine : (net : Network) (mails : List Mailed) (I : Fine A ms net mails) (i : ℕ) (me : Me) → me_of ms i ≡ Some me → (p : Process) (doing : Doing) (u : Until) → MayAnyhow net i p doing
      → AreNamed me u (iteration_of me p doing) → IfUpSo A ms I.ls (number_of net.lives i) i p → IsAlive (net.lives i) p
      → Fine A ms (if_made me net (record { rank = i; doing = doing; up_to = u }) (iteration_of me p doing)) (mails ++ mailed_in_iteration i me u (iteration_of me p doing))
  made_fine net mails I i me is p (Begins begun store_view clock link first) u may named up alive =
      let t : Iteration = start first (unstarted me.member.rank store_view clock link) in
      iteration_fine A ms (then_net A ms net mails I i begun may.0 may.1) mails (holds A ms net mails I i begun may.0 may.1) i me is t.came t.serving u
      (begins_so A ms net mails I i begun may.0 may.1 me store_view clock link first t refl) named
  made_fine net mails I i me is (Up s) (Iterates g) u may named up alive =
      iteration_fine A ms net mails I i me is (iteration me g s).came (iteration me g s).serving u (turns_so A ms net mails I i me is g s up alive may) named
  made_fine net mails I i me is (Down m) (Iterates g) u may named up alive = more_mails net mails I []

  step_fine : (net : Network) (mails : List Mailed) (I : Fine A ms net mails) (s : Step) → MayAnyhow net s.rank (net.process s.rank) s.doing → (x : Option Me) → me_of ms s.rank ≡ x → NamesAt net s x
      → Fine A ms (made_by net s x) (mails ++ mailed_at net s x)
  step_fine net mails I s may (Some me) is named = made_fine net mails I s.rank me is (net.process s.rank) s.doing s.up_to may named (I.up s.rank) (I.alive s.rank)
  step_fine net mails I s may None is named = more_mails net mails I []

  all_fine : (steps : List Step) → AllMayAnyhow ms steps → Fine A ms (network ms steps) (mailed ms steps)
  unfolding network mailed AllMayAnyhow
  all_fine [] may = record {
    ls = [];
    up = λ j. tt;
    posted = tt;
    letters = record { cut = λ l c. absurd (omega (arith, c.1)); numbered = λ l k c d. absurd (omega (arith, c.1)) };
    texts = λ l c. absurd (omega (arith, c.1));
    mails_are = λ l c. absurd (omega (arith, c.1));
    known = λ l c. absurd (omega (arith, c.1));
    alive = λ j. tt;
    numbers = λ j. omega arith;
  }
  all_fine (s ∷ earlier) may = step_fine (network ms earlier) (mailed ms earlier) (all_fine earlier may.0) s may.1 (me_of ms s.rank) refl may.2

  right_mail : (net : Network) (mails : List Mailed) (I : Fine A ms net mails) (j i : ℕ) (o : Option (List ℕ)) → IsRight I.ls i (Monitor j) o → IsMail mails j i o
  right_mail net mails I j i None h = tt
  right_mail net mails I j i (Some bytes) (l, c, by, to, is) =
      subst (λ (b : List ℕ). Contains mails (mail j (record { to = Monitor i; bytes = b }))) is
      (subst (λ (p : Peer). Contains mails (mail j (record { to = p; bytes = l.bytes }))) to
      (subst (λ (x : ℕ). Contains mails (mail x (record { to = l.to; bytes = l.bytes }))) by (I.mails_are l c)))

  joins_so : (net : Network) (mails : List Mailed) (I : Fine A ms net mails) (i : ℕ) (p : Process) → IfUpSo A ms I.ls (number_of net.lives i) i p → JoinsWhole net mails i p
  joins_so net mails I i (Down m) u = tt
  joins_so net mails I i (Up s) u = λ j bytes came.
      let fed : IsFed I.ls i (Monitor j) bytes = of_all (IsPosted I.ls) net.sent I.posted (record { by = j; datagram = record { to = Monitor i; bytes = bytes } }) came in
      right_mail net mails I j i (answer_in (taken s.outside.parts (Monitor j) bytes)) (A.takes I.ls i s.outside.parts (Monitor j) bytes I.letters u.parts fed).1

pub joins_whole : (ms : Monitors) (steps : List Step) → AllMayAnyhow ms steps → (i : ℕ) → JoinsWhole (network ms steps) (mailed ms steps) i ((network ms steps).process i)
joins_whole ms steps may i =
    let I = all_fine assembly ms steps may in
    joins_so assembly ms (network ms steps) (mailed ms steps) I i ((network ms steps).process i) (I.up i)

-- a letter to a client is its mail
to_client : (mails : List Mailed) (c : ℕ) (l : Letter) → Contains mails (mail l.by (record { to = l.to; bytes = l.bytes })) → l.to ≡ Client c → IsMailTo mails l.by c l.bytes
to_client mails c l has to = subst (λ (p : Peer). Contains mails (mail l.by (record { to = p; bytes = l.bytes }))) to has

pub clients_join_whole : (ms : Monitors) (steps : List Step) → AllMayAnyhow ms steps → ClientsJoinWhole (network ms steps) (mailed ms steps)
clients_join_whole ms steps may =
    let I = all_fine assembly ms steps may in
    joins I.ls I.letters (network ms steps).sent I.posted (IsMailTo (mailed ms steps)) (λ l k c to. to_client (mailed ms steps) c l (I.mails_are l k) to)
