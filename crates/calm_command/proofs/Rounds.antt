-- Rounds of a leader of rank 0 and the others.
use Rattle.calm_command.proofs.Worlds.{After, Does, Is, One, Stands, one_more, round}
use Rattle.law_names.proofs.Runs.{Answer, Envelope, Monitors, World}
use Rattle.law_names.proofs.Table.{Message, State, Store, flat_map, range_with_len}
use Rattle.mon_msg.specs.declared.input.Input.TheVariants as input
use Rattle.std.proofs.Common.{List, [], ap, append-nil, arith, cond, inl, inr, ltb, map, refl, subst, suc, sym, true, zero, ℕ, ◌++◌, ◌+◌, ◌-◌, ◌<◌, ◌∙◌, ◌∷◌, ◌≡◌, ◌≤◌, ◌⊎◌}
use Rattle.std.proofs.lemmas.Bool.{cases_order, le-ltb, lt-ltb}

-- the leader, and the others
abbrev pub crew : {D : Type 0} → D → (ℕ → D) → ℕ → D
crew l P zero = l
crew l P (suc j) = P (suc j)

-- a message to a rank
abbrev pub to_rank : ℕ → Message → Envelope
to_rank k m = record { to = k; message = m }

-- the others below rank k are in their new states
abbrev mixed : {D : Type 0} → D → (P Q : ℕ → D) → ℕ → ℕ → D
mixed l P Q k = crew l (λ j. cond (ltb j k) (Q j) (P j))

-- if none of these sends anything, nothing is sent
pub nothing_sent : (ks : List ℕ) → flat_map {X = ℕ} {A = Envelope} (λ _. []) ks ≡ []
nothing_sent [] = refl
nothing_sent (k ∷ ks) = nothing_sent ks

module _ (ms : Monitors) (D : Type 0) (Holds : D → Store → State → Type 0) where
  abbrev n : ℕ
  n = ms.count

  abbrev pub Standing : (ℕ → D) → ℕ → List Envelope → List (List ℕ) → List Answer → World → Type 0
  Standing = Stands ms D Holds

  abbrev pub Later : (ℕ → D) → List Envelope → List (List ℕ) → List Answer → ℕ → ℕ → World → Type 0
  Later = After ms D Holds

  -- the same of each monitor is the same
  pub restand : (S T : ℕ → D) → ((j : ℕ) → j < n → S j ≡ T j)
      → (k : ℕ) (waits : List Envelope) (log : List (List ℕ)) (told : List Answer) (w : World)
      → Standing S k waits log told w → Standing T k waits log told w
  restand S T e k waits log told w H = record {
    each = λ i lt. subst (λ (d : D). Is ms D Holds d (w.store i) (w.state i)) (e i lt) (H.each i lt);
    done = H.done;
    count = H.count;
    messages = H.messages;
    logged = H.logged;
    answered = H.answered;
  }

  pub relater : (S T : ℕ → D) → ((j : ℕ) → j < n → S j ≡ T j)
      → (waits : List Envelope) (log : List (List ℕ)) (told : List Answer) (c k : ℕ) (w : World)
      → Later S waits log told c k w → Later T waits log told c k w
  relater S T e waits log told c k w A =
      record {
        next = A.next;
        at = A.at;
        few = A.few;
        drains = A.drains;
        stands = restand S T e A.at waits log told A.next A.stands;
      }

  -- what monitor i does at a message
  abbrev pub Hears : (i : ℕ) → Message → List (List ℕ) → (from to : D) → List Envelope → List Answer → List (List ℕ)
      → Type 0
  Hears i m log from to out said more =
      (lt : ltb i n ≡ true) (store : Store) (s : State) → Holds from store s
      → Does ms D Holds i lt store s (input.Deliver m) log to out said more

  -- each of the others hears one message, and sends what it sends
  pub spread : (l : D) (P Q : ℕ → D) (m : ℕ → Message) (g : ℕ → List Envelope) (log : List (List ℕ))
      (told : List Answer)
      → ((k : ℕ) → 0 < k → k < n → Hears k (m k) log (P k) (Q k) (g k) [] log)
      → 0 < n → (waits : List Envelope) (k : ℕ) (w : World)
      → Standing (crew l P) k (map (λ j. to_rank j (m j)) (range_with_len 1 (n - 1)) ++ waits) log told w
      → Later (crew l Q) (waits ++ flat_map g (range_with_len 1 (n - 1))) log told (n - 1) k w
  spread l P Q m g log told h pos waits k w H =
      relater (mixed l P Q n) (crew l Q) at_end _ log told (n - 1) k w
      (round ms D Holds (λ j. to_rank j (m j)) g (mixed l P Q) log told (n - 1) 1 n (omega arith) step waits k w
      (restand (crew l P) (mixed l P Q 1) at_start k _ log told w H))
    where
      at_start : (j : ℕ) → j < n → crew l P j ≡ mixed l P Q 1 j
      at_start zero lt = refl
      at_start (suc j) lt = sym (ap (λ b. cond b (Q (suc j)) (P (suc j))) (le-ltb (suc j) 1 (omega arith)))

      at_end : (j : ℕ) → j < n → mixed l P Q n j ≡ crew l Q j
      at_end zero lt = refl
      at_end (suc j) lt = ap (λ b. cond b (Q (suc j)) (P (suc j))) (lt-ltb (suc j) n lt)

      others : (k j : ℕ) → (j ≡ k → ⊥) → mixed l P Q k j ≡ mixed l P Q (suc k) j
      others k zero ne = refl
      others k (suc j) ne = by (cases_order (suc j) k)
        where
          by : (suc j ≡ k) ⊎ ((suc j < k) ⊎ (k < suc j))
              → cond (ltb (suc j) k) (Q (suc j)) (P (suc j)) ≡ cond (ltb (suc j) (suc k)) (Q (suc j)) (P (suc j))
          by (inl e) = absurd (ne e)
          by (inr (inl lt)) = rw (lt-ltb (suc j) k lt, lt-ltb (suc j) (suc k) (omega arith)) refl
          by (inr (inr gt)) = rw (le-ltb (suc j) k (omega arith), le-ltb (suc j) (suc k) (omega arith)) refl

      here : (k : ℕ) → 0 < k → (mixed l P Q k k ≡ P k) × (mixed l P Q (suc k) k ≡ Q k)
      here zero pos = absurd (omega arith)
      here (suc k) pos = (
        ap (λ b. cond b (Q (suc k)) (P (suc k))) (le-ltb (suc k) (suc k) (omega arith)),
        ap (λ b. cond b (Q (suc k)) (P (suc k))) (lt-ltb (suc k) (suc (suc k)) (omega arith)),
      )

      step : (k : ℕ) → 1 ≤ k → k < n
          → One ms D Holds (mixed l P Q k) (mixed l P Q (suc k)) k (input.Deliver (m k)) log (g k) [] log
      step k low lt = let e = here k (omega arith) in record {
        below = lt;
        others = λ j lt ne. others k j ne;
        does = subst (λ (d : D). Hears k (m k) log d (mixed l P Q (suc k) k) (g k) [] log) (sym e.0)
            (subst (λ (d : D). Hears k (m k) log (P k) d (g k) [] log) (sym e.1) (h k (omega arith) lt));
      }

  -- the leader hears one message of each of the others from a on
  pub gather : (W : ℕ → D) (P : ℕ → D) (m : ℕ → Message) (log : List (List ℕ)) (told : List Answer) (c b : ℕ)
      → 1 + c ≡ b → 0 < n
      → ((k : ℕ) → 0 < k → k < b → Hears 0 (m k) log (W k) (W (suc k)) [] [] log)
      → (waits : List Envelope) (k : ℕ) (w : World)
      → Standing (crew (W 1) P) k (map (λ j. to_rank 0 (m j)) (range_with_len 1 c) ++ waits) log told w
      → Later (crew (W b) P) waits log told c k w
  gather W P m log told c b e pos h waits k w H =
      subst (λ (l : List Envelope). Later (crew (W b) P) l log told c k w)
      (ap (λ (l : List Envelope). waits ++ l) (nothing_sent (range_with_len 1 c)) ∙ append-nil waits)
      (round ms D Holds (λ j. to_rank 0 (m j)) (λ _. []) (λ k. crew (W k) P) log told c 1 b e step waits k w H)
    where
      others : (k j : ℕ) → (j ≡ 0 → ⊥) → crew (W k) P j ≡ crew (W (suc k)) P j
      others k zero ne = absurd (ne refl)
      others k (suc j) ne = refl

      step : (k : ℕ) → 1 ≤ k → k < b
          → One ms D Holds (crew (W k) P) (crew (W (suc k)) P) 0 (input.Deliver (m k)) log [] [] log
      step k low lt = record { below = pos; others = λ j lt ne. others k j ne; does = h k (omega arith) lt }

  -- one of the others hears one message
  pub one_hears : (l : D) (P Q : ℕ → D) (r : ℕ) (m : Message) (log : List (List ℕ)) (out : List Envelope)
      (said : List Answer) → 0 < r → r < n → ((j : ℕ) → (j ≡ r → ⊥) → P j ≡ Q j)
      → Hears r m log (P r) (Q r) out said log
      → (waits : List Envelope) (told : List Answer) (k : ℕ) (w : World)
      → Standing (crew l P) k (to_rank r m ∷ waits) log told w
      → Later (crew l Q) (waits ++ out) log (told ++ said) 1 k w
  one_hears l P Q zero m log out said pos lt same h waits told k w H = absurd (omega arith)
  one_hears l P Q (suc r) m log out said pos lt same h waits told k w H =
      one_more ms D Holds (crew l P) (crew l Q) (to_rank (suc r) m) log out said log
      (record { below = lt; others = λ j lt ne. others j ne; does = h }) waits told k w H
    where
      others : (j : ℕ) → (j ≡ suc r → ⊥) → crew l P j ≡ crew l Q j
      others zero ne = refl
      others (suc j) ne = same (suc j) ne

  -- the leader hears one message
  pub leader_hears : (l a : D) (P : ℕ → D) (m : Message) (log : List (List ℕ)) (out : List Envelope)
      (said : List Answer) (more : List (List ℕ)) → 0 < n → Hears 0 m log l a out said more
      → (waits : List Envelope) (told : List Answer) (k : ℕ) (w : World)
      → Standing (crew l P) k (to_rank 0 m ∷ waits) log told w
      → Later (crew a P) (waits ++ out) more (told ++ said) 1 k w
  leader_hears l a P m log out said more pos h waits told k w H =
      one_more ms D Holds (crew l P) (crew a P) (to_rank 0 m) log out said more
      (record { below = pos; others = λ j lt ne. others j ne; does = h }) waits told k w H
    where
      others : (j : ℕ) → (j ≡ 0 → ⊥) → crew l P j ≡ crew a P j
      others zero ne = absurd (ne refl)
      others (suc j) ne = refl
