-- Two requests of one command of one monitor may exchange their places.
use Rattle.law_names.proofs.Runs.{Asked, Envelope, IsAsked, command_of, view_at}
use Rattle.law_names.proofs.Table.{Body, Command, Contains, Op, Session, State, Store, Waiting, value}
use Rattle.mon_wire.specs.declared.body.Body.TheVariants as body
use Rattle.quorum_agreement.proofs.Answered.{asker}
use Rattle.quorum_agreement.proofs.Made.{MadeOver}
use Rattle.quorum_commands.proofs.Places.{AllWait, AskedAt, Begun, BodyForwards, Forwards, HasOwn, MadeAt, Place, Places, Queued, Tickets, WaitsIn}
use Rattle.quorum_laws.specs.Commands.{WasAsked}
use Rattle.quorum_walk.proofs.Lists.{all_map}
use Rattle.std.proofs.Common.{Bool, List, None, Ok, Option, Some, [], ap, arith, cond, eqb, inl, inr, refl, slice_get, slice_index_or, subst, suc, sym, zero, ℕ, ◌<◌, ◌∙◌, ◌∷◌, ◌≡◌}
use Rattle.std.proofs.lemmas.Bool.{cases_eq, eq-eqb, ne_eqb}
use Rattle.std.proofs.lemmas.Option.{slice_get_within}

pub only_one : (x y : Asked) → Contains (x ∷ []) y → y ≡ x
only_one x y c = by c.0 c.1 c.2
  where
    by : (k : ℕ) → k < 1 → slice_index_or (x ∷ []) k y ≡ y → y ≡ x
    by zero lt e = sym e
    by (suc k) lt e = absurd (omega arith)

-- both requests ask the same command of one monitor
pub record Alike (x y : Asked) : Type 0 where
  pub rank : y.rank ≡ x.rank
  pub command : command_of y.request ≡ command_of x.request

pub alike_itself : (x : Asked) → Alike x x
alike_itself x = record { rank = refl; command = refl }

-- ---- facts of one such request hold of the other

module _ (n : ℕ) (x y : Asked) (A : Alike x y) where
  was_alike : (rank : ℕ) (t : Session) (c : Command) → WasAsked n (x ∷ []) rank t c → WasAsked n (y ∷ []) rank y.session c
  was_alike rank t c W =
      let one = only_one x W.by W.among in
      record { by = y; among = (0, omega arith, refl); at = A.rank ∙ ap (λ (z : Asked). z.rank) (sym one) ∙ W.at; below = W.below; session = refl; command = A.command ∙ ap (λ (z : Asked). command_of z.request) (sym one) ∙ W.command; form = W.form }

  made_alike : (log : List (List ℕ)) (v : ℕ) (ops : List Op) → MadeOver n (x ∷ []) log v ops → MadeOver n (y ∷ []) log v ops
  made_alike log v ops M = record {
    before = M.before;
    next = M.next;
    within = M.within;
    over = M.over;
    keeps = M.keeps;
    last = M.last;
    rank = M.rank;
    session = y.session;
    command = M.command;
    of = was_alike M.rank M.session M.command M.of;
    made = M.made;
  }

  asked_alike : (log : List (List ℕ)) (v : ℕ) → IsAsked n (x ∷ []) log v → IsAsked n (y ∷ []) log v
  asked_alike log v I =
      let one = only_one x I.by I.was_asked in
      let rank : I.by.rank ≡ y.rank = ap (λ (z : Asked). z.rank) one ∙ sym A.rank in
      record {
        by = y;
        was_asked = (0, omega arith, refl);
        rank = subst (λ (r : ℕ). r < n) rank I.rank;
        command = I.command;
        is = A.command ∙ ap (λ (z : Asked). command_of z.request) (sym one) ∙ I.is;
        form = I.form;
        ops = I.ops;
        made = subst (λ (r : ℕ). value (view_at log v) I.command r ≡ Ok I.ops) rank I.made;
        has_text = I.has_text;
        encodes = I.encodes;
      }

-- ---- places are exchanged

abbrev pub exchange : (a b : ℕ) → ℕ → ℕ
exchange a b k = cond (eqb k a) b (cond (eqb k b) a k)

abbrev pub exchanged : (a b : ℕ) → Places → Places
exchanged a b places k = places (exchange a b k)

pub first_is : (a b k : ℕ) → k ≡ a → exchange a b k ≡ b
first_is a b k e = ap (λ (t : Bool). cond t b (cond (eqb k b) a k)) (eq-eqb k a e)

pub second_is : (a b k : ℕ) → (k ≡ a → ⊥) → k ≡ b → exchange a b k ≡ a
second_is a b k ne e = ap (λ (t : Bool). cond t b (cond (eqb k b) a k)) (ne_eqb k a ne) ∙ ap (λ (t : Bool). cond t a k) (eq-eqb k b e)

pub other_is : (a b k : ℕ) → (k ≡ a → ⊥) → (k ≡ b → ⊥) → exchange a b k ≡ k
other_is a b k ne other = ap (λ (t : Bool). cond t b (cond (eqb k b) a k)) (ne_eqb k a ne) ∙ ap (λ (t : Bool). cond t a k) (ne_eqb k b other)

-- the second one is where the first one was
pub at_second : (a b : ℕ) → exchange a b b ≡ a
at_second a b = elim (cases_eq b a) [ inl e ↦ first_is a b b e ∙ e | inr ne ↦ second_is a b b ne refl ]

twice : (a b k : ℕ) → exchange a b (exchange a b k) ≡ k
twice a b k = elim (cases_eq k a) [
  | inl e ↦ ap (exchange a b) (first_is a b k e) ∙ at_second a b ∙ sym e
  | inr ne ↦ elim (cases_eq k b) [ inl e ↦ ap (exchange a b) (second_is a b k ne e) ∙ first_is a b a refl ∙ sym e | inr other ↦ ap (exchange a b) (other_is a b k ne other) ∙ other_is a b k ne other ]
]

module _ (n : ℕ) (asked : List Asked) (a b : ℕ) (x y : Asked) (ax : slice_get asked a ≡ Some x) (by_b : slice_get asked b ≡ Some y) (A : Alike x y) where
  -- the request that takes the place of this one
  record Partner (k : ℕ) (z : Asked) : Type 0 where
    by : Asked
    at : slice_get asked (exchange a b k) ≡ Some by
    alike : Alike z by

  partner : (k : ℕ) (z : Asked) → slice_get asked k ≡ Some z → Partner k z
  partner k z e = elim (cases_eq k a) [
    | inl q ↦ (let same : x ≡ z = some_x k z q e in record { by = y; at = ap (slice_get asked) (first_is a b k q) ∙ by_b; alike = subst (λ (u : Asked). Alike u y) same A })
    | inr ne ↦ elim (cases_eq k b) [
      | inl q ↦ (let same : y ≡ z = some_y k z q e in record { by = x; at = ap (slice_get asked) (second_is a b k ne q) ∙ ax; alike = subst (λ (u : Asked). Alike u x) same (record { rank = sym A.rank; command = sym A.command }) })
      | inr other ↦ record { by = z; at = ap (slice_get asked) (other_is a b k ne other) ∙ e; alike = alike_itself z }
    ]
  ]
    where
      some_x : (k : ℕ) (z : Asked) → k ≡ a → slice_get asked k ≡ Some z → x ≡ z
      some_x k z q e = let s : Some x ≡ Some z = sym ax ∙ ap (slice_get asked) (sym q) ∙ e in cc

      some_y : (k : ℕ) (z : Asked) → k ≡ b → slice_get asked k ≡ Some z → y ≡ z
      some_y k z q e = let s : Some y ≡ Some z = sym by_b ∙ ap (slice_get asked) (sym q) ∙ e in cc

  module _ (places : Places) where
    abbrev after : Places
    after = exchanged a b places

    there : (k : ℕ) (p : Place) → places k ≡ p → after (exchange a b k) ≡ p
    there k p e = ap places (twice a b k) ∙ e

    asked_there : (k rank : ℕ) (c : Command) → AskedAt n asked k rank c → AskedAt n asked (exchange a b k) rank c
    asked_there k rank c h = let o = partner k h.by h.at in record { by = o.by; at = o.at; session = o.by.session; was = was_alike n h.by o.by o.alike rank h.session c h.was }

    own : (p : Place) (rank : ℕ) (c : Command) → HasOwn n asked places p rank c → HasOwn n asked after p rank c
    own p rank c h = record { k = exchange a b h.k; place = there h.k p h.place; of = asked_there h.k rank c h.of }

    wait : (i t : ℕ) (xs : List Waiting) → AllWait n asked places i t xs → AllWait n asked after i t xs
    wait i t [] h = tt
    wait i t (x ∷ xs) h = (own (Queued i t) (asker i x.origin) x.command h.0, wait i (suc t) xs h.1)

    waits : (i : ℕ) (o : Option State) → WaitsIn n asked places i o → WaitsIn n asked after i o
    waits i None h = tt
    waits i (Some s) h = (h.0, h.1, wait i h.1 s.clients.queue h.2)

    forwarded : (m : Store) (o : Option State) (f to e : ℕ) (b : Body) → BodyForwards n asked places m o f to e b → BodyForwards n asked after m o f to e b
    forwarded m o f to e (body.Forward seq c) h = λ apart. let k = h apart in record { low = k.low; own = λ s q leads now_is lt. own _ f c (k.own s q leads now_is lt) }
    forwarded m o f to e other h = tt

    made_there : (log : List (List ℕ)) (k v : ℕ) (bytes : List ℕ) → MadeAt n asked log k v bytes → MadeAt n asked log (exchange a b k) v bytes
    made_there log k v bytes h = let M = h.of in let o = partner k M.by M.at in record { x = h.x; encodes = h.encodes; of = record { by = o.by; at = o.at; made = made_alike n M.by o.by o.alike log v h.x M.made } }

    pub tickets_exchanged : (store : ℕ → Store) (state : ℕ → Option State) (txs : ℕ → List (List Op)) (messages : List Envelope) (log : List (List ℕ)) → Tickets n places store state txs messages asked log → Tickets n after store state txs messages asked log
    tickets_exchanged store state txs messages log T = record {
      free = λ k le. (let p = slice_get_within asked a x ax in let q = slice_get_within asked b y by_b in ap places (other_is a b k (λ e. omega arith) (λ e. omega arith)) ∙ T.free k le);
      waits = λ i. waits i (state i) (T.waits i);
      forwards = all_map (Forwards n asked places store state) (Forwards n asked after store state) (λ e. forwarded (store e.to) (state e.to) e.message.from e.to e.message.epoch e.message.body) messages T.forwards;
      begun = λ k v bytes e. subst (λ (j : ℕ). MadeAt n asked log j v bytes) (twice a b k) (made_there log (exchange a b k) v bytes (T.begun (exchange a b k) v bytes e));
      accepted = λ several i v p bytes h. (let k = T.accepted several i v p bytes h in (exchange a b k.0, there k.0 (Begun v bytes) k.1));
      logged = λ v lt. (let l = T.logged v lt in let o = partner l.k l.by l.at in record { k = exchange a b l.k; place = there l.k _ l.place; by = o.by; at = o.at; made = asked_alike n l.by o.by o.alike log v l.made });
    }
