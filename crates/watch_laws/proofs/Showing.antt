-- What is seen of a monitor by what it sends, and what holds of it then.
use Rattle.law_names.proofs.Table.{AllByRecursion, Body, Course, Me, Message, Phase, Sent, epoch_of, is_alone, is_empty, message_to, others, range_with_len}
use Rattle.mon_decode.specs.Headers.{heading, kind_in, same_kind}
use Rattle.mon_msg.specs.declared.plan.Sent.TheVariants as sent
use Rattle.mon_watch.specs.Seen.{after_header, after_phase, led_by, shown, taken_from}
use Rattle.mon_watch.specs.declared.seen.Seen.{Seen}
use Rattle.mon_wire.specs.declared.kind.Kind.TheVariants as kind
use Rattle.mon_wire.specs.declared.phase.Phase.TheVariants as phase
use Rattle.std.proofs.Common.{Bool, List, None, Option, Some, [], ap, arith, cond, eqb, false, filter, inl, inr, ltb, map, not, refl, subst, suc, sym, true, zero, ℕ, ◌++◌, ◌+◌, ◌<◌, ◌∙◌, ◌∷◌, ◌≡◌, ◌≤◌, ◌⊎◌}
use Rattle.std.proofs.lemmas.Bool.{cases_eq, false≢true, ltb-true, ne_eqb}
use Rattle.watch_laws.specs.Watching.{ReadsShort, after_all, after_message}

-- this phase, epoch and leader are seen
pub record Shown (p : Phase) (e : ℕ) (l : Option ℕ) (s : Seen) : Type 0 where
  pub phase : s.phase ≡ p
  pub epoch : s.epoch ≡ e
  pub leader : s.leader ≡ l

-- nothing was seen yet, or, unless `strict`, an election
abbrev pub IsIdle : (strict : Bool) → Seen → Type 0
IsIdle strict s = (s.phase ≡ phase.Booting) ⊎ ((s.phase ≡ phase.Electing) × (strict ≡ false))

-- a message of a monitor in its epoch
abbrev pub saying : Me → (e : ℕ) → Body → Message
saying me e b = record { from = me.member.rank; monitors = me.member.monitors; epoch = e; body = b }

-- a message that shows no phase
abbrev pub IsSilent : Sent → Type 0
IsSilent (sent.Message to m) = shown (kind_in m.body) ≡ None
IsSilent (sent.Reply session r) = Unit {0}

-- ---- some other monitor is there

some_left : (f : ℕ → Bool) (from n k : ℕ) → from ≤ k → k < from + n → f k ≡ true → is_empty (filter f (range_with_len from n)) ≡ false
some_left f from zero k a b t = absurd (omega arith)
some_left f from (suc n) k a b t = by (f from) refl (some_left f (from + 1) n k)
  where
    by : (c : Bool) → f from ≡ c → (from + 1 ≤ k → k < from + 1 + n → f k ≡ true → is_empty (filter f (range_with_len (from + 1) n)) ≡ false)
        → is_empty (cond c (from ∷ filter f (range_with_len (from + 1) n)) (filter f (range_with_len (from + 1) n))) ≡ false
    by true q ih = refl
    by false q ih = elim (cases_eq k from) [
      | inl e ↦ absurd (false≢true (sym q ∙ ap f (sym e) ∙ t))
      | inr ne ↦ ih (omega arith) (omega arith) t
    ]

pub has_others : (me : Me) → ltb 1 me.member.monitors ≡ true → is_empty (others me) ≡ false
has_others me t = by (cases_eq 0 me.member.rank)
  where
    several : 1 < me.member.monitors
    several = ltb-true 1 me.member.monitors t

    other : (k : ℕ) → (k ≡ me.member.rank → ⊥) → not (eqb k me.member.rank) ≡ true
    other k ne = ap not (ne_eqb k me.member.rank ne)

    by : (0 ≡ me.member.rank) ⊎ (0 ≡ me.member.rank → ⊥) → is_empty (others me) ≡ false
    by (inl e) = some_left (λ k. not (eqb k me.member.rank)) 0 me.member.monitors 1 (omega arith) (omega (arith, several)) (other 1 (λ q. omega arith))
    by (inr ne) = some_left (λ k. not (eqb k me.member.rank)) 0 me.member.monitors 0 (omega arith) (omega (arith, several)) (other 0 ne)

-- ---- what is seen after messages

module _ (me : Me) (is_read : Message → Bool) where
  abbrev pub own : ℕ
  own = me.member.rank

  abbrev pub all : List Sent → Seen → Seen
  all = after_all own is_read

  pub all_append : (xs ys : List Sent) (s : Seen) → all (xs ++ ys) s ≡ all ys (all xs s)
  all_append [] ys s = refl
  all_append (sent.Message to m ∷ xs) ys s = all_append xs ys (after_message own is_read to m s)
  all_append (sent.Reply session r ∷ xs) ys s = all_append xs ys s

  silent_read : (b : Bool) (to : ℕ) (m : Message) (s : Seen) → shown (kind_in m.body) ≡ None → cond b (after_header own to (Some (heading m)) s) s ≡ s
  silent_read true to m s e = ap (λ (p : Option Phase). after_phase own to (heading m) p s) e
  silent_read false to m s e = refl

  -- what shows no phase changes nothing
  all_silent : (xs : List Sent) → AllByRecursion IsSilent xs → (s : Seen) → all xs s ≡ s
  all_silent [] k s = refl
  all_silent (sent.Message to m ∷ xs) k s = ap (all xs) (silent_read (is_read m) to m s k.0) ∙ all_silent xs k.1 s
  all_silent (sent.Reply session r ∷ xs) k s = all_silent xs k.1 s

  pub still : (xs ys : List Sent) → AllByRecursion IsSilent ys → (s : Seen) → all (xs ++ ys) s ≡ all xs s
  still xs ys k s = all_append xs ys s ∙ all_silent ys k (all xs s)

  -- messages to nobody change nothing
  pub nobody : (xs : List Sent) (f : ℕ → Sent) (ks : List ℕ) → is_empty ks ≡ true → (s : Seen) → all (xs ++ map f ks) s ≡ all xs s
  nobody xs f [] t s = all_append xs [] s
  nobody xs f (k ∷ ks) t s = absurd (false≢true t)

  pub shown_by : (p : Phase) (e : ℕ) (l : Option ℕ) (m : Message) (to : ℕ) → m.epoch ≡ e → led_by own to p ≡ l → (b : Bool) → b ≡ true → (o : Option Phase) → o ≡ Some p → (s : Seen)
      → Shown p e l (cond b (after_phase own to (heading m) o s) s)
  shown_by p e l m to z y true t (Some q) r s = let same : q ≡ p = cc in record { phase = same; epoch = z; leader = ap (led_by own to) same ∙ y }
  shown_by p e l m to z y true t None r s = absurd cc
  shown_by p e l m to z y false t o r s = absurd (false≢true t)

  -- a message that shows this phase is read
  pub shown_one : (p : Phase) (e : ℕ) (l : Option ℕ) (m : Message) (to : ℕ) → is_read m ≡ true → shown (kind_in m.body) ≡ Some p → m.epoch ≡ e → led_by own to p ≡ l → (s : Seen)
      → Shown p e l (after_message own is_read to m s)
  shown_one p e l m to t r z y s = shown_by p e l m to z y (is_read m) t (shown (kind_in m.body)) r s

  source_by : (m : Message) (to : ℕ) (b : Bool) → b ≡ true → (o : Option Phase) → o ≡ Some phase.Synchronizing → (s : Seen) → (cond b (after_phase own to (heading m) o s) s).source ≡ Some to
  source_by m to true t (Some q) r s = let same : q ≡ phase.Synchronizing = cc in ap (λ (p : Phase). taken_from to p s.source) same
  source_by m to true t None r s = absurd cc
  source_by m to false t o r s = absurd (false≢true t)

  -- a message that asks for a store is read
  pub source_one : (m : Message) (to : ℕ) → is_read m ≡ true → shown (kind_in m.body) ≡ Some phase.Synchronizing → (s : Seen) → (after_message own is_read to m s).source ≡ Some to
  source_one m to t r s = source_by m to (is_read m) t (shown (kind_in m.body)) r s

  module _ (R : ReadsShort is_read) (b : Body) (e : ℕ) (p : Phase) (l : Option ℕ) (leads : (to : ℕ) → led_by own to p ≡ l) (r : shown (kind_in b) ≡ Some p) (short : same_kind (kind_in b) kind.Last ≡ false) where
    shown_each : (ks : List ℕ) → is_empty ks ≡ false → (s : Seen) → Shown p e l (all (map (message_to me e b) ks) s)
    shown_each [] t s = absurd (false≢true (sym t))
    shown_each (k ∷ []) t s = shown_one p e l (saying me e b) k (R _ short) r refl (leads k) s
    shown_each (k ∷ j ∷ ks) t s = shown_each (j ∷ ks) refl (after_message own is_read k (saying me e b) s)

    -- such a message is sent to each of at least one monitor
    pub told : (xs : List Sent) (ks : List ℕ) → is_empty ks ≡ false → (s : Seen) → Shown p e l (all (xs ++ map (message_to me e b) ks) s)
    told xs ks t s = subst (Shown p e l) (sym (all_append xs (map (message_to me e b) ks) s)) (shown_each ks t (all xs s))

  -- ---- what is seen of a monitor in a phase and epoch, with the quorum that it leads, the leader that it follows and the monitor from
  -- which it takes a store
  module _ (strict : Bool) where
    abbrev pub At : Seen → (e : ℕ) → Phase → (q : List Bool) → (l v : ℕ) → Type 0
    At s e phase.Booting q l v = strict ≡ true → s.phase ≡ phase.Booting
    At s e phase.Probing q l v = (s.phase ≡ phase.Booting) ⊎ Shown phase.Probing e None s
    At s e phase.Electing q l v = (s.phase ≡ phase.Booting) ⊎ Shown phase.Electing e None s
    At s e phase.Synchronizing q l v = (s.phase ≡ phase.Booting) ⊎ (Shown phase.Synchronizing e None s × (s.source ≡ Some v))
    At s e phase.Collecting q l v = IsIdle strict s ⊎ (Shown phase.Collecting e (Some own) s × (is_alone me q ≡ false))
    At s e phase.Previous q l v = IsIdle strict s ⊎ (Shown phase.Collecting e (Some own) s × (is_alone me q ≡ false))
    At s e phase.Active q l v = IsIdle strict s ⊎ (Shown phase.Active e (Some own) s × (is_alone me q ≡ false))
    At s e phase.Updating q l v = IsIdle strict s ⊎ (Shown phase.Active e (Some own) s × (is_alone me q ≡ false))
    At s e phase.Peon q l v = IsIdle strict s ⊎ Shown phase.Peon e (Some l) s

    -- what is seen of the monitor after a course, if `s` was seen before it
    abbrev pub Is : Seen → Course → Type 0
    Is s x = At (all x.out s) (epoch_of x.readings) x.state.phase x.state.leader.quorum x.state.peon.leader x.state.requester.provider

    -- a leader whose quorum is itself alone was seen as a candidate at most
    pub idle_alone : (s : Seen) (e : ℕ) (p : Phase) (q : List Bool) (l v : ℕ) → At s e p q l v → (p ≡ phase.Collecting) ⊎ ((p ≡ phase.Previous) ⊎ ((p ≡ phase.Active) ⊎ (p ≡ phase.Updating))) → is_alone me q ≡ true → IsIdle strict s
    idle_alone s e p q l v k (inl same) t = led (subst (λ (z : Phase). At s e z q l v) same k)
      where
        led : At s e phase.Collecting q l v → IsIdle strict s
        led (inl i) = i
        led (inr h) = absurd (false≢true (sym h.1 ∙ t))
    idle_alone s e p q l v k (inr (inl same)) t = led (subst (λ (z : Phase). At s e z q l v) same k)
      where
        led : At s e phase.Previous q l v → IsIdle strict s
        led (inl i) = i
        led (inr h) = absurd (false≢true (sym h.1 ∙ t))
    idle_alone s e p q l v k (inr (inr (inl same))) t = led (subst (λ (z : Phase). At s e z q l v) same k)
      where
        led : At s e phase.Active q l v → IsIdle strict s
        led (inl i) = i
        led (inr h) = absurd (false≢true (sym h.1 ∙ t))
    idle_alone s e p q l v k (inr (inr (inr same))) t = led (subst (λ (z : Phase). At s e z q l v) same k)
      where
        led : At s e phase.Updating q l v → IsIdle strict s
        led (inl i) = i
        led (inr h) = absurd (false≢true (sym h.1 ∙ t))
