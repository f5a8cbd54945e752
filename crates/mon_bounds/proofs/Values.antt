-- What bytes encode that a store keeps for a version: whatever they are, a value that has an encoding, of their own length.
use Rattle.std.proofs.Common.{◌≡◌, ℕ, zero, suc, ◌+◌, ◌^◌, ◌≤◌, not, ◌&&◌, cond, ltb, eqb, List, [], ◌∷◌, length, take, Result, Ok, Err, IsTrue, subst, arith, inl, inr, length-append, length-take, length-drop}
use Rattle.std.proofs.lemmas.Bool.{ltb-true, ltb-false}
use Rattle.std.specs.List.{list_any, AllByRecursion}
use Rattle.mon_bytes.proofs.Fields.{guard_ok, chosen_ok, ok_is}
use Rattle.mon_bytes.proofs.Formats.{bind_ok, at_fault_ok, tested}
use Rattle.mon_bytes.specs.Reading.{Reading, moved, number, next_bytes}
use Rattle.mon_bytes.specs.Texts.{is_word}
use Rattle.mon_bytes.specs.declared.cursor.Short.{Short}
use Rattle.mon_tx.proofs.Words.{is_word_by}
use Rattle.mon_tx.specs.Decode.{put_at, erase_at, erase_prefix_at, erase_range_at, op_at, ops_at, ops_of, transaction_of, OpFits, HasText}
use Rattle.mon_tx.specs.Fields.{◌>>=◌, cut, graphic_prefix_len, word_at, value_at, version_at, format_at}
use Rattle.mon_tx.specs.Text.{op_text, is_range, most}
use Rattle.mon_tx.specs.declared.op.Op.{Op}
use Rattle.mon_tx.specs.declared.op.Op.TheVariants.{Put, Erase, ErasePrefix, EraseRange}
use Rattle.mon_tx.specs.declared.refusal.TxRefused.TheVariants as refused
use Rattle.log_model.proofs.TextsWithin.{Drawn, number_drawn}
use Rattle.mon_bounds.proofs.Joins.{span, span-cons, text_span}

cut_ok : {A : Type 0} (r : Result A Short) (x : A) → cut r ≡ Ok x → r ≡ Ok x
cut_ok r x e = at_fault_ok (λ at. refused.Cut at) r x e

abbrev Small : Reading → Type 0
Small c = length c.rest ≤ most

front_drawn : (n : ℕ) (c : Reading) (x : List ℕ × Reading) → next_bytes n c ≡ Ok x → Drawn c (length x.0) x.1 × (length x.0 ≡ n)
front_drawn n c x e =
    let g = guard_ok (ltb (length c.rest) n) (record { at = c.at }) (Ok (take n c.rest, moved n c)) x e in
    let long = ltb-false _ _ g.0 in
    subst (λ (p : List ℕ × Reading). Drawn c (length p.0) p.1 × (length p.0 ≡ n)) (ok_is (take n c.rest, moved n c) x g.1)
    (omega (arith, long, length-take n c.rest, length-drop n c.rest), omega (arith, long, length-take n c.rest))

word_drawn : (limit : ℕ) (c : Reading) (x : List ℕ × Reading) → word_at limit c ≡ Ok x → Drawn c (1 + length x.0) x.1 × IsTrue (is_word limit x.0)
unfolding word_at
word_drawn limit c x e =
    let rest = λ (n : ℕ × Reading). cut (next_bytes n.0 n.1) >>= λ bytes. cond (ltb (graphic_prefix_len bytes.0) (length bytes.0)) (Err (refused.Name (n.1.at + graphic_prefix_len bytes.0))) (Ok bytes) in
    let a = bind_ok (cut (number 1 c)) (λ n. cond (ltb n.0 1) (Err (refused.Name c.at)) (cond (ltb limit n.0) (Err (refused.Name c.at)) (rest n))) x e in
    let n = a.0 in
    let low = guard_ok (ltb n.0 1) (refused.Name c.at) (cond (ltb limit n.0) (Err (refused.Name c.at)) (rest n)) x a.2 in
    let high = guard_ok (ltb limit n.0) (refused.Name c.at) (rest n) x low.1 in
    let b = bind_ok (cut (next_bytes n.0 n.1)) (λ bytes. cond (ltb (graphic_prefix_len bytes.0) (length bytes.0)) (Err (refused.Name (n.1.at + graphic_prefix_len bytes.0))) (Ok bytes)) x high.1 in
    let good = guard_ok (ltb (graphic_prefix_len b.0.0) (length b.0.0)) (refused.Name (n.1.at + graphic_prefix_len b.0.0)) (Ok b.0) x b.2 in
    let t0 = number_drawn 1 c n (cut_ok (number 1 c) n a.1) in
    let t1 = front_drawn n.0 n.1 b.0 (cut_ok (next_bytes n.0 n.1) b.0 b.1) in
    let len = t1.1 in
    let all = t1.0 in
    let lo : 1 ≤ n.0 = ltb-false _ _ low.0 in
    let hi : n.0 ≤ limit = ltb-false _ _ high.0 in
    subst (λ (p : List ℕ × Reading). Drawn c (1 + length p.0) p.1 × IsTrue (is_word limit p.0)) (ok_is b.0 x good.1)
    (omega (arith, t0, all), is_word_by limit b.0.0 (omega arith) (omega arith) (ltb-false _ _ good.0))

value_drawn : (c : Reading) (x : List ℕ × Reading) → value_at c ≡ Ok x → Drawn c (4 + length x.0) x.1
unfolding value_at
value_drawn c x e =
    let a = bind_ok (cut (number 4 c)) (λ n. cut (next_bytes n.0 n.1)) x e in
    let t0 = number_drawn 4 c a.0 (cut_ok (number 4 c) a.0 a.1) in
    let t1 = front_drawn a.0.0 a.0.1 x (cut_ok (next_bytes a.0.0 a.0.1) x a.2) in
    let all = t1.0 in
    omega (arith, t0, all)

version_drawn : (c : Reading) (x : ℕ × Reading) → version_at c ≡ Ok x → Drawn c 8 x.1 × (x.0 ≤ 2 ^ 62)
unfolding version_at
version_drawn c x e =
    let a = bind_ok (cut (number 8 c)) (λ n. cond (ltb (2 ^ 62) n.0) (Err (refused.Range c.at)) (Ok n)) x e in
    let g = guard_ok (ltb (2 ^ 62) a.0.0) (refused.Range c.at) (Ok a.0) x a.2 in
    subst (λ (p : ℕ × Reading). Drawn c 8 p.1 × (p.0 ≤ 2 ^ 62)) (ok_is a.0 x g.1) (number_drawn 8 c a.0 (cut_ok (number 8 c) a.0 a.1), ltb-false _ _ g.0)

-- an op after its kind
record DrawnOp (c : Reading) (x : Op × Reading) : Type 0 where
  all : suc (length c.rest) ≡ length (op_text x.0) + length x.1.rest
  fits : OpFits x.0

put_drawn : (c : Reading) (x : Op × Reading) → Small c → put_at c ≡ Ok x → DrawnOp c x
unfolding put_at
put_drawn c x few e =
    let a = bind_ok (word_at 32 c) (λ p. word_at 255 p.1 >>= λ k. value_at k.1 >>= λ v. Ok (Put p.0 k.0 v.0, v.1)) x e in
    let b = bind_ok (word_at 255 a.0.1) (λ k. value_at k.1 >>= λ v. Ok (Put a.0.0 k.0 v.0, v.1)) x a.2 in
    let d = bind_ok (value_at b.0.1) (λ v. Ok (Put a.0.0 b.0.0 v.0, v.1)) x b.2 in
    let t0 = word_drawn 32 c a.0 a.1 in
    let t1 = word_drawn 255 a.0.1 b.0 b.1 in
    let t2 = value_drawn b.0.1 d.0 d.1 in
    let l0 = t0.0 in
    let l1 = t1.0 in
    subst (DrawnOp c) (ok_is (Put a.0.0 b.0.0 d.0.0, d.0.1) x d.2) (record { all = simp length-append (omega (arith, l0, l1, t2)); fits = (t0.1, t1.1, omega (arith, l0, l1, t2)) })

erase_drawn : (c : Reading) (x : Op × Reading) → erase_at c ≡ Ok x → DrawnOp c x
unfolding erase_at
erase_drawn c x e =
    let a = bind_ok (word_at 32 c) (λ p. word_at 255 p.1 >>= λ k. Ok (Erase p.0 k.0, k.1)) x e in
    let b = bind_ok (word_at 255 a.0.1) (λ k. Ok (Erase a.0.0 k.0, k.1)) x a.2 in
    let t0 = word_drawn 32 c a.0 a.1 in
    let t1 = word_drawn 255 a.0.1 b.0 b.1 in
    let l0 = t0.0 in
    let l1 = t1.0 in
    subst (DrawnOp c) (ok_is (Erase a.0.0 b.0.0, b.0.1) x b.2) (record { all = simp length-append (omega (arith, l0, l1)); fits = (t0.1, t1.1) })

erase_prefix_drawn : (c : Reading) (x : Op × Reading) → erase_prefix_at c ≡ Ok x → DrawnOp c x
unfolding erase_prefix_at
erase_prefix_drawn c x e =
    let a = bind_ok (word_at 32 c) (λ p. Ok (ErasePrefix p.0, p.1)) x e in
    let t0 = word_drawn 32 c a.0 a.1 in
    let l0 = t0.0 in
    subst (DrawnOp c) (ok_is (ErasePrefix a.0.0, a.0.1) x a.2) (record { all = omega (arith, l0); fits = t0.1 })

erase_range_drawn : (c : Reading) (x : Op × Reading) → erase_range_at c ≡ Ok x → DrawnOp c x
unfolding erase_range_at
erase_range_drawn c x e =
    let a = bind_ok (word_at 32 c) (λ p. version_at p.1 >>= λ f. version_at f.1 >>= λ t. cond (ltb f.0 t.0) (Ok (EraseRange p.0 f.0 t.0, t.1)) (Err (refused.Range f.1.at))) x e in
    let b = bind_ok (version_at a.0.1) (λ f. version_at f.1 >>= λ t. cond (ltb f.0 t.0) (Ok (EraseRange a.0.0 f.0 t.0, t.1)) (Err (refused.Range f.1.at))) x a.2 in
    let d = bind_ok (version_at b.0.1) (λ t. cond (ltb b.0.0 t.0) (Ok (EraseRange a.0.0 b.0.0 t.0, t.1)) (Err (refused.Range b.0.1.at))) x b.2 in
    let g = chosen_ok (ltb b.0.0 d.0.0) (refused.Range b.0.1.at) (Ok (EraseRange a.0.0 b.0.0 d.0.0, d.0.1)) x d.2 in
    let t0 = word_drawn 32 c a.0 a.1 in
    let t1 = version_drawn a.0.1 b.0 b.1 in
    let t2 = version_drawn b.0.1 d.0 d.1 in
    let l0 = t0.0 in
    let l1 = t1.0 in
    let l2 = t2.0 in
    subst (DrawnOp c) (ok_is (EraseRange a.0.0 b.0.0 d.0.0, d.0.1) x g.1) (record { all = simp length-append (omega (arith, l0, l1, l2)); fits = (t0.1, ltb-true _ _ g.0, t2.1) })

record DrawnOne (c : Reading) (x : Op × Reading) : Type 0 where
  all : length c.rest ≡ length (op_text x.0) + length x.1.rest
  fits : OpFits x.0

behind : (c k : Reading) (x : Op × Reading) → Drawn c 1 k → DrawnOp k x → DrawnOne c x
behind c k x d h = record { all = let t = h.all in omega arith; fits = h.fits }

op_drawn : (format : ℕ) (c : Reading) (x : Op × Reading) → Small c → op_at format c ≡ Ok x → DrawnOne c x
unfolding op_at
op_drawn format c x few e =
    let last = λ (k : ℕ × Reading). cond (eqb k.0 4 && eqb format 2) (erase_range_at k.1) (Err (refused.Kind c.at)) in
    let third = λ (k : ℕ × Reading). cond (eqb k.0 3) (erase_prefix_at k.1) (last k) in
    let second = λ (k : ℕ × Reading). cond (eqb k.0 2) (erase_at k.1) (third k) in
    let a = bind_ok (cut (number 1 c)) (λ k. cond (eqb k.0 1) (put_at k.1) (second k)) x e in
    let k = a.0 in
    let t0 = number_drawn 1 c k (cut_ok (number 1 c) k a.1) in
    elim (tested k.0 1 (put_at k.1) (second k) x a.2) [
      | inl h ↦ behind c k.1 x t0 (put_drawn k.1 x (omega (arith, t0, few)) h.1)
      | inr h ↦ elim (tested k.0 2 (erase_at k.1) (third k) x h) [
        | inl i ↦ behind c k.1 x t0 (erase_drawn k.1 x i.1)
        | inr i ↦ elim (tested k.0 3 (erase_prefix_at k.1) (last k) x i) [
          | inl j ↦ behind c k.1 x t0 (erase_prefix_drawn k.1 x j.1)
          | inr j ↦ let g = chosen_ok (eqb k.0 4 && eqb format 2) (refused.Kind c.at) (erase_range_at k.1) x j in behind c k.1 x t0 (erase_range_drawn k.1 x g.1)
        ]
      ]
    ]

record DrawnOps (c : Reading) (x : List Op × Reading) : Type 0 where
  all : length c.rest ≡ span x.0 + length x.1.rest
  each : AllByRecursion OpFits x.0

ops_drawn : (format n : ℕ) (c : Reading) (x : List Op × Reading) → Small c → ops_at format n c ≡ Ok x → DrawnOps c x
unfolding ops_at
ops_drawn format zero c x few e = subst (DrawnOps c) (ok_is ([], c) x e) (record { all = omega arith; each = tt })
ops_drawn format (suc n) c x few e =
    let a = bind_ok (op_at format c) (λ first. ops_at format n first.1 >>= λ others. Ok (first.0 ∷ others.0, others.1)) x e in
    let b = bind_ok (ops_at format n a.0.1) (λ others. Ok (a.0.0 ∷ others.0, others.1)) x a.2 in
    let t0 = op_drawn format c a.0 few a.1 in
    let l0 = t0.all in
    let t1 = ops_drawn format n a.0.1 b.0 (omega (arith, l0, few)) b.1 in
    let l1 = t1.all in
    subst (DrawnOps c) (ok_is (a.0.0 ∷ b.0.0, b.0.1) x b.2) (record { all = omega (arith, l0, l1, span-cons a.0.0 b.0.0); each = (t0.fits, t1.each) })

format_drawn : (c : Reading) (x : ℕ × Reading) → format_at c ≡ Ok x → Drawn c 1 x.1
unfolding format_at
format_drawn c x e =
    let a = bind_ok (cut (number 1 c)) (λ f. cond (eqb f.0 1) (Ok f) (cond (eqb f.0 2) (Ok f) (Err (refused.Kind c.at)))) x e in
    let t = number_drawn 1 c a.0 (cut_ok (number 1 c) a.0 a.1) in
    let all = λ (same : a.0 ≡ x). subst (λ (p : ℕ × Reading). Drawn c 1 p.1) same t in
    elim (tested a.0.0 1 (Ok a.0) (cond (eqb a.0.0 2) (Ok a.0) (Err (refused.Kind c.at))) x a.2) [
      | inl h ↦ all (ok_is a.0 x h.1)
      | inr h ↦ elim (tested a.0.0 2 (Ok a.0) (Err (refused.Kind c.at)) x h) [ inl i ↦ all (ok_is a.0 x i.1) | inr i ↦ absurd cc ]
    ]

whole_drawn : (c : Reading) (ops : List Op) → Small c → ops_of c ≡ Ok ops → HasText ops
unfolding ops_of
whole_drawn c ops few e =
    let last = λ (f : ℕ) (o : List Op × Reading). cond (not (eqb (length o.1.rest) 0)) (Err (refused.Rest o.1.at)) (cond (eqb f 2 && not (list_any is_range o.0)) (Err (refused.Kind c.at)) (Ok o.0)) in
    let a = bind_ok (format_at c) (λ f. cut (number 4 f.1) >>= λ n. ops_at f.0 n.0 n.1 >>= λ o. last f.0 o) ops e in
    let n = bind_ok (cut (number 4 a.0.1)) (λ n. ops_at a.0.0 n.0 n.1 >>= λ o. last a.0.0 o) ops a.2 in
    let b = bind_ok (ops_at a.0.0 n.0.0 n.0.1) (λ o. last a.0.0 o) ops n.2 in
    let g = guard_ok (not (eqb (length b.0.1.rest) 0)) (refused.Rest b.0.1.at) (cond (eqb a.0.0 2 && not (list_any is_range b.0.0)) (Err (refused.Kind c.at)) (Ok b.0.0)) ops b.2 in
    let h = guard_ok (eqb a.0.0 2 && not (list_any is_range b.0.0)) (refused.Kind c.at) (Ok b.0.0) ops g.1 in
    let t0 = format_drawn c a.0 a.1 in
    let t1 = number_drawn 4 a.0.1 n.0 (cut_ok (number 4 a.0.1) n.0 n.1) in
    let t2 = ops_drawn a.0.0 n.0.0 n.0.1 b.0 (omega (arith, t0, t1, few)) b.1 in
    let l2 = t2.all in
    subst HasText (ok_is b.0.0 ops h.1) (record { each = t2.each; short = omega (arith, t0, t1, l2, few, text_span b.0.0) })

pub encoded_value : (bytes : List ℕ) (ops : List Op) → transaction_of bytes ≡ Ok ops → HasText ops
unfolding transaction_of
encoded_value bytes ops e =
    let c : Reading = record { at = 0; rest = bytes } in
    let g = guard_ok (ltb most (length bytes)) (refused.TooLong (length bytes)) (ops_of c) ops e in
    whole_drawn c ops (ltb-false _ _ g.0) g.1
