-- What is under way between two members after an event sent more.
use Rattle.law_names.proofs.Runs.{Envelope, Monitors, message_at}
use Rattle.law_names.proofs.Table.{AllByRecursion, Body, enumerate_from}
use Rattle.quorum_stays.proofs.UnderWay.{get_more, numbers}
use Rattle.quorum_stays.specs.Steady.{Carries, IsAside, IsBefore, IsItem, IsOfClients, Item, Reign, in_reign, item}
use Rattle.quorum_timed.specs.Timed.{Owed, owed_by}
use Rattle.std.proofs.Common.{Bool, List, Some, [], ap, arith, cond, eqb, false, filter, inl, inr, map, refl, slice_get, subst, suc, sym, true, zero, ℕ, ◌&&◌, ◌++◌, ◌+◌, ◌∙◌, ◌∷◌, ◌≡◌, ◌≤◌, ◌⊎◌}
use Rattle.std.proofs.lemmas.Bool.{and_parts, cases_eq, eq-eqb, eqb-true}

pub more_messages : (messages es : List Envelope) (k : ℕ) (m : Envelope) → message_at messages k ≡ Some m → message_at (messages ++ es) k ≡ Some m
more_messages messages es zero m there = absurd cc
more_messages messages es (suc k) m there = get_more messages es k m there

-- these messages, each of which arrives by this time
abbrev pub due_at : (due : ℕ) → List Body → List Item
due_at due bs = map (λ b. item b due) bs

pub before_due : (top due : ℕ) → top ≤ due → (bs : List Body) → IsBefore top (due_at due bs)
before_due top due le [] = tt
before_due top due le (b ∷ bs) = le

module _ (ms : Monitors) (reign : Reign) (f i : ℕ) where
  -- Of these messages those from f to i have these bodies, in this order. Messages about clients' commands may be between
  -- them.
  abbrev pub Gives : List Body → List Envelope → Type 0
  Gives bs [] = bs ≡ []
  Gives bs (m ∷ es) = ((m.message.from ≡ f → m.to ≡ i → ⊥) × Gives bs es)
      ⊎ ((m.message.from ≡ f) × (m.to ≡ i) × IsOfClients m.message.body × Gives bs es)
      ⊎ ((b : Body) × (rest : List Body) × (bs ≡ b ∷ rest) × (m ≡ in_reign ms reign f i b) × Gives rest es)

  pub gives_append : (xs ys : List Body) (es gs : List Envelope) → Gives xs es → Gives ys gs → Gives (xs ++ ys) (es ++ gs)
  gives_append xs ys [] gs k l = subst (λ (z : List Body). Gives (z ++ ys) gs) (sym k) l
  gives_append xs ys (m ∷ es) gs k l = by k (λ zs z. gives_append zs ys es gs z l)
    where
      by : ((m.message.from ≡ f → m.to ≡ i → ⊥) × Gives xs es)
          ⊎ ((m.message.from ≡ f) × (m.to ≡ i) × IsOfClients m.message.body × Gives xs es)
          ⊎ ((b : Body) × (rest : List Body) × (xs ≡ b ∷ rest) × (m ≡ in_reign ms reign f i b) × Gives rest es)
          → ((zs : List Body) → Gives zs es → Gives (zs ++ ys) (es ++ gs)) → Gives (xs ++ ys) (m ∷ es ++ gs)
      by (inl h) later = inl (h.0, later xs h.1)
      by (inr (inl h)) later = inr (inl (h.0, h.1, h.2, later xs h.3))
      by (inr (inr h)) later = inr (inr (h.0, h.1 ++ ys, ap (λ (z : List Body). z ++ ys) h.2, h.3, later h.1 h.4))

  -- messages about clients' commands
  pub gives_none : (es : List Envelope) → AllByRecursion (λ m. IsOfClients m.message.body) es → Gives [] es
  gives_none [] all = refl
  gives_none (m ∷ es) all = by (cases_eq m.message.from f) (cases_eq m.to i) (gives_none es all.1)
    where
      by : (m.message.from ≡ f) ⊎ (m.message.from ≡ f → ⊥) → (m.to ≡ i) ⊎ (m.to ≡ i → ⊥) → Gives [] es → Gives [] (m ∷ es)
      by (inl a) (inl b) later = inr (inl (a, b, all.0, later))
      by (inr a) b later = inl ((λ e _. a e), later)
      by (inl a) (inr b) later = inl ((λ _ e. b e), later)

  -- messages of another monitor
  pub gives_other : (es : List Envelope) → AllByRecursion (λ m. m.message.from ≡ f → ⊥) es → Gives [] es
  gives_other [] all = refl
  gives_other (m ∷ es) all = inl ((λ e _. all.0 e), gives_other es all.1)

  -- ---- what is under way

  module _ (messages : List Envelope) where
    still_aside : (es : List Envelope) (o : Owed) → IsAside reign.epoch messages f i o → IsAside reign.epoch (messages ++ es) f i o
    still_aside es o k = record { envelope = k.envelope; there = more_messages messages es o.number k.envelope k.there; receiver = k.receiver; aside = k.aside }

    abbrev Carried : ℕ → List Item → List Owed → Type 0
    Carried top = Carries ms reign messages f i top

    pub carries_on : (es : List Envelope) (top later : ℕ) → top ≤ later → (xs : List Item) (os : List Owed) → Carried top xs os → Carries ms reign (messages ++ es) f i later xs os
    carries_on es top later le xs [] C = C
    carries_on es top later le xs (o ∷ os) C = (omega arith, by C.1 (λ ys k. carries_on es top later le ys os k))
      where
        by : (IsAside reign.epoch messages f i o × IsBefore o.by xs × Carried top xs os) ⊎ ((x : Item) × (rest : List Item) × (xs ≡ x ∷ rest) × IsItem ms reign messages f i top x o × Carried top rest os)
            → ((ys : List Item) → Carried top ys os → Carries ms reign (messages ++ es) f i later ys os)
            → (IsAside reign.epoch (messages ++ es) f i o × IsBefore o.by xs × Carries ms reign (messages ++ es) f i later xs os)
            ⊎ ((x : Item) × (rest : List Item) × (xs ≡ x ∷ rest) × IsItem ms reign (messages ++ es) f i later x o × Carries ms reign (messages ++ es) f i later rest os)
        by (inl k) go = inl (still_aside es o k.0, k.1, go xs k.2)
        by (inr k) go = inr (k.0, k.1, k.2, record { there = more_messages messages es o.number _ k.3.there; in_time = k.3.in_time }, go k.1 k.4)

    -- time alone changes nothing
    pub carries_later : (top later : ℕ) → top ≤ later → (xs : List Item) (os : List Owed) → Carried top xs os → Carried later xs os
    carries_later top later le xs [] C = C
    carries_later top later le xs (o ∷ os) C = (omega arith, by C.1 (λ ys k. carries_later top later le ys os k))
      where
        by : (IsAside reign.epoch messages f i o × IsBefore o.by xs × Carried top xs os) ⊎ ((x : Item) × (rest : List Item) × (xs ≡ x ∷ rest) × IsItem ms reign messages f i top x o × Carried top rest os)
            → ((ys : List Item) → Carried top ys os → Carried later ys os)
            → (IsAside reign.epoch messages f i o × IsBefore o.by xs × Carried later xs os)
            ⊎ ((x : Item) × (rest : List Item) × (xs ≡ x ∷ rest) × IsItem ms reign messages f i later x o × Carried later rest os)
        by (inl k) go = inl (k.0, k.1, go xs k.2)
        by (inr k) go = inr (k.0, k.1, k.2, record { there = k.3.there; in_time = k.3.in_time }, go k.1 k.4)

    before_more : (by : ℕ) (xs ys : List Item) → IsBefore by xs → IsBefore by ys → IsBefore by (xs ++ ys)
    before_more by [] ys k l = l
    before_more by (x ∷ xs) ys k l = k

    before_later : (a b : ℕ) (ys : List Item) → a ≤ b → IsBefore b ys → IsBefore a ys
    before_later a b [] le k = tt
    before_later a b (y ∷ ys) le k = omega arith

    pub carries_append : (top : ℕ) (xs ys : List Item) (os ps : List Owed) → IsBefore top ys → Carried top xs os → Carried top ys ps → Carried top (xs ++ ys) (os ++ ps)
    carries_append top xs ys [] ps late C D = subst (λ (z : List Item). Carried top (z ++ ys) ps) (sym C) D
    carries_append top xs ys (o ∷ os) ps late C D = (C.0, by C.1 (λ zs k. carries_append top zs ys os ps late k D))
      where
        by : (IsAside reign.epoch messages f i o × IsBefore o.by xs × Carried top xs os) ⊎ ((x : Item) × (rest : List Item) × (xs ≡ x ∷ rest) × IsItem ms reign messages f i top x o × Carried top rest os)
            → ((zs : List Item) → Carried top zs os → Carried top (zs ++ ys) (os ++ ps))
            → (IsAside reign.epoch messages f i o × IsBefore o.by (xs ++ ys) × Carried top (xs ++ ys) (os ++ ps))
            ⊎ ((x : Item) × (rest : List Item) × (xs ++ ys ≡ x ∷ rest) × IsItem ms reign messages f i top x o × Carried top rest (os ++ ps))
        by (inl k) go = inl (k.0, before_more o.by xs ys k.1 (before_later o.by top ys C.0 late), go xs k.2)
        by (inr k) go = inr (k.0, k.1 ++ ys, ap (λ (z : List Item). z ++ ys) k.2, k.3, go k.1 k.4)

    -- the first message is under way no longer than the first item
    pub first_by : (top u : ℕ) (x : Item) (rest : List Item) (os : List Owed) → Carried top (x ∷ rest) os → ((o : Owed) (others : List Owed) → os ≡ o ∷ others → u ≤ o.by) → u ≤ x.by
    first_by top u x rest [] C k = absurd cc
    first_by top u x rest (o ∷ os) C k = by C.1 (k o os refl)
      where
        by : (IsAside reign.epoch messages f i o × IsBefore o.by (x ∷ rest) × Carried top (x ∷ rest) os) ⊎ ((y : Item) × (more : List Item) × (x ∷ rest ≡ y ∷ more) × IsItem ms reign messages f i top y o × Carried top more os) → u ≤ o.by → u ≤ x.by
        by (inl h) le = let z = h.1 in omega arith
        by (inr h) le = let same : x ≡ h.0 = cc in let z = h.3.in_time in let w : x.by ≡ h.0.by = ap (λ (y : Item). y.by) same in omega arith

    -- ---- new messages

    module _ (top due : ℕ) (le : top ≤ due) where
      pub new_carries : (k : ℕ) (es : List Envelope) → ((d : ℕ) (m : Envelope) → slice_get es d ≡ Some m → message_at messages (k + d) ≡ Some m)
          → (bs : List Body) → Gives bs es → Carried top (due_at due bs) (owed_by top (numbers f i k es))
      new_carries k [] there bs G = ap (due_at due) G
      new_carries k (m ∷ es) there bs G = by (eqb m.message.from f && eqb m.to i) refl G (λ cs H. new_carries (k + 1) es later cs H)
        where
          later : (d : ℕ) (g : Envelope) → slice_get es d ≡ Some g → message_at messages (k + 1 + d) ≡ Some g
          later d g at = let next : k + suc d ≡ k + 1 + d = omega arith in subst (λ (z : ℕ). message_at messages z ≡ Some g) next (there (suc d) g at)

          here : message_at messages k ≡ Some m
          here = let same : k + 0 ≡ k = omega arith in subst (λ (z : ℕ). message_at messages z ≡ Some m) same (there 0 m refl)

          unfit : (eqb m.message.from f && eqb m.to i) ≡ false → m.message.from ≡ f → m.to ≡ i → ⊥
          unfit t a b = let x = eq-eqb m.message.from f a in let y = eq-eqb m.to i b in let both : (eqb m.message.from f && eqb m.to i) ≡ true = rw (x, y) refl in absurd cc

          by : (t : Bool) → (eqb m.message.from f && eqb m.to i) ≡ t
              → ((m.message.from ≡ f → m.to ≡ i → ⊥) × Gives bs es)
              ⊎ ((m.message.from ≡ f) × (m.to ≡ i) × IsOfClients m.message.body × Gives bs es)
              ⊎ ((b : Body) × (rest : List Body) × (bs ≡ b ∷ rest) × (m ≡ in_reign ms reign f i b) × Gives rest es)
              → ((cs : List Body) → Gives cs es → Carried top (due_at due cs) (owed_by top (numbers f i (k + 1) es)))
              → Carried top (due_at due bs) (owed_by top (map (λ m. m.0) (cond t ((k, m) ∷ filter (λ m. eqb m.1.message.from f && eqb m.1.to i) (enumerate_from (k + 1) es)) (filter (λ m. eqb m.1.message.from f && eqb m.1.to i) (enumerate_from (k + 1) es)))))
          by true t (inl h) go = let parts = and_parts (eqb m.message.from f) (eqb m.to i) t in absurd (h.0 (eqb-true m.message.from f parts.0) (eqb-true m.to i parts.1))
          by true t (inr (inl h)) go = (omega arith, inl (record { envelope = m; there = here; receiver = h.1; aside = inl h.2 }, before_due top due le bs, go bs h.3))
          by true t (inr (inr h)) go = (omega arith, inr (item h.0 due, due_at due h.1, ap (due_at due) h.2, record { there = here ∙ ap Some h.3; in_time = le }, go h.1 h.4))
          by false t (inl h) go = go bs h.1
          by false t (inr (inl h)) go = absurd (unfit t h.0 h.1)
          by false t (inr (inr h)) go = absurd (unfit t (ap (λ (z : Envelope). z.message.from) h.3) (ap (λ (z : Envelope). z.to) h.3))
