-- What an event's changes accept is what its transaction accepts.
use Rattle.law_names.proofs.Table.{AllByRecursion, Boot, Change, Copy, Epoch, Last, Learn, Mark, Numbers, Op, Promise, Readings, Record, Unmark, Vote, empty, encoded, joined, number_if_there, number_in, ops_of, place, place_cmp, play, played, readings_of, text}
use Rattle.log_model.proofs.Spares.{after_spared, spares_learned}
use Rattle.mon_msg.proofs.Changed.{readings-joined}
use Rattle.mon_tx.specs.declared.key.Area.TheVariants as area
use Rattle.mon_tx.specs.declared.key.Key.TheVariants as key
use Rattle.quorum_history.proofs.Accepting.{record_is}
use Rattle.quorum_laws.specs.Accepting.{Accepts, put_alone}
use Rattle.quorum_laws.specs.Promises.{Collects}
use Rattle.quorum_walk.proofs.FineCourses.{Calm, EndsInMark, EndsInVote, Fit, IsCalm, Shaped, fit_fits}
use Rattle.quorum_walk.proofs.Lists.{Among, all_among, among_append, among_left, among_right}
use Rattle.quorum_walk.proofs.Sparing.{played_more}
use Rattle.std.proofs.Common.{List, None, Some, [], ap, arith, inl, inr, refl, subst, sym, ℕ, ◌++◌, ◌∙◌, ◌∷◌, ◌≡◌, ◌≤◌, ◌⊎◌}
use Rattle.std.proofs.lemmas.Bool.{false≢true}
use Rattle.std.specs.FinMap.{get-empty}

abbrev nothing : Readings
nothing = readings_of empty

-- without a vote nothing is pending that wasn't
calm_pending : (cs : List Change) (w : Readings) → Calm cs → AllByRecursion Fit cs → w.pending_v ≡ 0 → (played cs w).pending_v ≡ 0
calm_pending [] w c f e = e
calm_pending (Vote v p x ∷ cs) w c f e = absurd c.0
calm_pending (Boot n ∷ cs) w c f e = calm_pending cs (play (Boot n) w) c.1 f.1 e
calm_pending (Epoch n ∷ cs) w c f e = calm_pending cs (play (Epoch n) w) c.1 f.1 e
calm_pending (Numbers n ∷ cs) w c f e = calm_pending cs (play (Numbers n) w) c.1 f.1 e
calm_pending (Promise n ∷ cs) w c f e = calm_pending cs (play (Promise n) w) c.1 f.1 e
calm_pending (Record v x ∷ cs) w c f e = calm_pending cs (play (Record v x) w) c.1 f.1 e
calm_pending (Learn v x ∷ cs) w c f e = calm_pending cs (play (Learn v x) w) c.1 f.1 (ap (λ (z : Readings). z.pending_v) (after_spared (ops_of (Learn v x)) w (spares_learned v x f.0)) ∙ e)
calm_pending (Last v ∷ cs) w c f e = calm_pending cs (play (Last v) w) c.1 f.1 e
calm_pending (Copy x ∷ cs) w c f e = calm_pending cs (play (Copy x) w) c.1 f.1 (ap (λ (z : Readings). z.pending_v) (after_spared (ops_of (Copy x)) w f.0) ∙ e)
calm_pending (Mark a b d ∷ cs) w c f e = absurd c.0
calm_pending (Unmark ∷ cs) w c f e = calm_pending cs (play Unmark w) c.1 f.1 e

none_pending : nothing.pending_v ≡ 0
unfolding readings_of number_in
none_pending = ap number_in (get-empty place_cmp (place area.Paxos key.PendingV))

-- without a mark each number that is put is a new one
calm_numbers : (p : ℕ) (cs : List Change) (w : Readings) → Calm cs → AllByRecursion Fit cs → (played cs w).last_pn ≡ Some p → (w.last_pn ≡ Some p) ⊎ Among (Numbers p) cs
calm_numbers p [] w c f e = inl e
calm_numbers p (Vote v q x ∷ cs) w c f e = absurd c.0
calm_numbers p (Mark a b d ∷ cs) w c f e = absurd c.0
calm_numbers p (Numbers n ∷ cs) w c f e = elim (calm_numbers p cs (play (Numbers n) w) c.1 f.1 e) [ inl q ↦ inr (inl (let s : n ≡ p = cc in ap Numbers (sym s))) | inr a ↦ inr (inr a) ]
calm_numbers p (Boot n ∷ cs) w c f e = elim (calm_numbers p cs (play (Boot n) w) c.1 f.1 e) [ inl q ↦ inl q | inr a ↦ inr (inr a) ]
calm_numbers p (Epoch n ∷ cs) w c f e = elim (calm_numbers p cs (play (Epoch n) w) c.1 f.1 e) [ inl q ↦ inl q | inr a ↦ inr (inr a) ]
calm_numbers p (Promise n ∷ cs) w c f e = elim (calm_numbers p cs (play (Promise n) w) c.1 f.1 e) [ inl q ↦ inl q | inr a ↦ inr (inr a) ]
calm_numbers p (Record v x ∷ cs) w c f e = elim (calm_numbers p cs (play (Record v x) w) c.1 f.1 e) [ inl q ↦ inl q | inr a ↦ inr (inr a) ]
calm_numbers p (Learn v x ∷ cs) w c f e = elim (calm_numbers p cs (play (Learn v x) w) c.1 f.1 e) [
  | inl q ↦ inl (sym (ap (λ (z : Readings). z.last_pn) (after_spared (ops_of (Learn v x)) w (spares_learned v x f.0))) ∙ q)
  | inr a ↦ inr (inr a)
]
calm_numbers p (Last v ∷ cs) w c f e = elim (calm_numbers p cs (play (Last v) w) c.1 f.1 e) [ inl q ↦ inl q | inr a ↦ inr (inr a) ]
calm_numbers p (Copy x ∷ cs) w c f e = elim (calm_numbers p cs (play (Copy x) w) c.1 f.1 e) [ inl q ↦ inl (sym (ap (λ (z : Readings). z.last_pn) (after_spared (ops_of (Copy x)) w f.0)) ∙ q) | inr a ↦ inr (inr a) ]
calm_numbers p (Unmark ∷ cs) w c f e = elim (calm_numbers p cs (play Unmark w) c.1 f.1 e) [ inl q ↦ inl q | inr a ↦ inr (inr a) ]

all_before : {A : Type 0} (P : A → Type 0) (xs ys : List A) → AllByRecursion P (xs ++ ys) → AllByRecursion P xs
all_before P [] ys h = tt
all_before P (x ∷ xs) ys h = (h.0, all_before P xs ys h.1)

no_last : nothing.last_pn ≡ None
unfolding readings_of
no_last = ap number_if_there (get-empty place_cmp (place area.Paxos key.LastPn))

no_vote : (v p : ℕ) (x : List Op) (cs : List Change) → Calm cs → Among (Vote v p x) cs → ⊥
no_vote v p x cs k a = all_among IsCalm (Vote v p x) cs a k

module _ (cs : List Change) (S : Shaped cs) (F : AllByRecursion Fit cs) where
  put : put_alone (joined (encoded cs)) ≡ played cs nothing
  put = readings-joined cs (fit_fits cs F) empty

  -- the vote that ends them
  ends : (E : EndsInVote cs) → played cs nothing ≡ play (Vote E.v E.pn E.value) (played E.before nothing)
  ends E = ap (λ (ds : List Change). played ds nothing) E.is ∙ played_more E.before (Vote E.v E.pn E.value ∷ []) nothing

  ends_marked : (E : EndsInMark cs) → played cs nothing ≡ play (Mark E.floor E.last_pn E.promise) (played E.before nothing)
  ends_marked E = ap (λ (ds : List Change). played ds nothing) E.is ∙ played_more E.before (Mark E.floor E.last_pn E.promise ∷ []) nothing

  voted : (E : EndsInVote cs) → (u : ℕ) → (u ≡ E.v) → (played cs nothing).record_of u ≡ Some (text E.value)
  voted E u e = ap (λ (w : Readings). w.record_of u) (ends E) ∙ record_is E.v u (text E.value) (played E.before nothing).record_of e

  same_vote : (v p w q : ℕ) (x y : List Op) → v ≡ w → p ≡ q → x ≡ y → Vote v p x ≡ Vote w q y
  same_vote v p w q x y a b c = λ k. Vote (a k) (b k) (c k)

  -- what the transaction accepts is a vote
  pub accepts_vote : (v p : ℕ) (bytes : List ℕ) → Accepts (joined (encoded cs)) v p bytes → (x : List Op) × (bytes ≡ text x) × Among (Vote v p x) cs
  accepts_vote v p bytes A = by S
    where
      by : Shaped cs → (x : List Op) × (bytes ≡ text x) × Among (Vote v p x) cs
      by (inl calm) = let e = calm_pending cs nothing calm F none_pending in let a = A.version in let b = ap (λ (w : Readings). w.pending_v) put in let s = A.some in absurd (omega arith)
      by (inr (inr E)) =
          let none = ap (λ (w : Readings). w.pending_v) (put ∙ ends_marked E) in
          let a = A.version in
          let s = A.some in
          absurd (omega arith)
      by (inr (inl E)) =
          let v_is : v ≡ E.v = sym A.version ∙ ap (λ (w : Readings). w.pending_v) (put ∙ ends E) in
          let p_is : p ≡ E.pn = sym A.number ∙ ap (λ (w : Readings). w.pending_pn) (put ∙ ends E) in
          let b_is : Some bytes ≡ Some (text E.value) = sym A.value ∙ ap (λ (w : Readings). w.record_of v) put ∙ voted E v v_is in
          let same : bytes ≡ text E.value = cc in
          (E.value, same, subst (Among (Vote v p E.value)) (sym E.is) (among_right (Vote v p E.value) E.before (Vote E.v E.pn E.value ∷ []) (inl (same_vote v p E.v E.pn E.value E.value v_is p_is refl))))

  -- and a vote is accepted by it
  pub vote_accepted : (v p : ℕ) (x : List Op) → 1 ≤ v → Among (Vote v p x) cs → Accepts (joined (encoded cs)) v p (text x)
  vote_accepted v p x some a = by S
    where
      at : (E : EndsInVote cs) → Vote v p x ≡ Vote E.v E.pn E.value → Accepts (joined (encoded cs)) v p (text x)
      at E e =
          let v_is : v ≡ E.v = cc in
          let p_is : p ≡ E.pn = cc in
          let x_is : x ≡ E.value = cc in
          record {
            some = some;
            version = ap (λ (w : Readings). w.pending_v) (put ∙ ends E) ∙ sym v_is;
            number = ap (λ (w : Readings). w.pending_pn) (put ∙ ends E) ∙ sym p_is;
            value = ap (λ (w : Readings). w.record_of v) put ∙ voted E v v_is ∙ ap (λ (y : List Op). Some (text y)) (sym x_is);
          }

      by : Shaped cs → Accepts (joined (encoded cs)) v p (text x)
      by (inl calm) = absurd (no_vote v p x cs calm a)
      by (inr (inr E)) = elim (among_append (Vote v p x) E.before (Mark E.floor E.last_pn E.promise ∷ []) (subst (Among (Vote v p x)) E.is a)) [
        | inl b ↦ absurd (no_vote v p x E.before E.calm b)
        | inr b ↦ elim b [ inl e ↦ absurd cc | inr k ↦ absurd k ]
      ]
      by (inr (inl E)) = elim (among_append (Vote v p x) E.before (Vote E.v E.pn E.value ∷ []) (subst (Among (Vote v p x)) E.is a)) [
        | inl b ↦ absurd (no_vote v p x E.before E.calm b)
        | inr b ↦ elim b [ inl e ↦ at E e | inr k ↦ absurd k ]
      ]

  -- what it collects under is a new number
  pub collects_number : (p : ℕ) → Collects (joined (encoded cs)) p → Among (Numbers p) cs
  collects_number p C = by S
    where
      from_nothing : (ds : List Change) → (nothing.last_pn ≡ Some p) ⊎ Among (Numbers p) ds → Among (Numbers p) ds
      from_nothing ds (inl e) = let s : None ≡ Some p = sym no_last ∙ e in absurd cc
      from_nothing ds (inr a) = a

      by : Shaped cs → Among (Numbers p) cs
      by (inl calm) = from_nothing cs (calm_numbers p cs nothing calm F (sym (ap (λ (w : Readings). w.last_pn) put) ∙ C.number))
      by (inr (inl E)) =
          let F2 = all_before Fit E.before (Vote E.v E.pn E.value ∷ []) (subst (AllByRecursion Fit) E.is F) in
          let a = from_nothing E.before (calm_numbers p E.before nothing E.calm F2 (sym (ap (λ (w : Readings). w.last_pn) (put ∙ ends E)) ∙ C.number)) in
          subst (Among (Numbers p)) (sym E.is) (among_left (Numbers p) E.before (Vote E.v E.pn E.value ∷ []) a)
      by (inr (inr E)) = absurd (false≢true (sym C.unmarked ∙ ap (λ (w : Readings). w.marked) (put ∙ ends_marked E)))
