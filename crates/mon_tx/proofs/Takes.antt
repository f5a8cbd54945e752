-- What is decoded is encoded so.
use Rattle.std.proofs.Common.{◌≡◌, ℕ, zero, suc, ◌+◌, ◌^◌, ◌≤◌, ◌<◌, ◌⊎◌, Bool, true, false, not, ◌&&◌, ◌||◌, cond, ltb, eqb, List, [], ◌∷◌, ◌++◌, length, Result, Ok, Err, IsTrue, refl, sym, ap, subst, ◌∙◌, append_assoc, arith, inl, inr}
use Rattle.std.specs.Prelude.{IfOk}
use Rattle.std.specs.List.{list_any, flat_map, AllByRecursion}
use Rattle.std.proofs.lemmas.Bool.{cases_eq, and_parts, eqb-true, ltb-true, ltb-false}
use Rattle.std.proofs.lemmas.Bool.Decides.{nat_tests}
use Rattle.std.proofs.lemmas.List.{append-nil, nil_from_length}
use Rattle.byteorder.specs.Endian.{little_bytes}
use Rattle.mon_bytes.specs.declared.cursor.Short.{Short}
use Rattle.mon_bytes.specs.Reading.{IsBytes, Reading, number, next_bytes}
use Rattle.mon_bytes.specs.Texts.{is_word}
use Rattle.mon_bytes.proofs.Fields.{guard_ok, chosen_ok, ok_is, Takes, Takes-then, front_takes, byte_takes, number_takes}
use Rattle.mon_bytes.proofs.Formats.{bind_ok, at_fault_ok}
use Rattle.mon_tx.specs.declared.op.Op.{Op}
use Rattle.mon_tx.specs.declared.op.Op.TheVariants.{Put, Erase, ErasePrefix, EraseRange}
use Rattle.mon_tx.specs.declared.transaction.Transaction.{Transaction}
use Rattle.mon_tx.specs.declared.refusal.TxRefused.{TxRefused}
use Rattle.mon_tx.specs.declared.refusal.TxRefused.TheVariants as refused
use Rattle.mon_tx.specs.Text.{word, op_text, is_range, text, most}
use Rattle.mon_tx.specs.Fields.{◌>>=◌, cut, Gives, graphic_prefix_len, word_at, value_at, version_at, format_at}
use Rattle.mon_tx.specs.Decode.{put_at, erase_at, erase_prefix_at, erase_range_at, op_at, ops_at, ops_of, transaction_of, OpFits, HasText}
use Rattle.mon_tx.proofs.Words.{is_word_by}

cut_ok : {A : Type 0} (r : Result A Short) (x : A) → cut r ≡ Ok x → r ≡ Ok x
cut_ok r x e = at_fault_ok (λ at. refused.Cut at) r x e

not_false : (b : Bool) → not b ≡ false → b ≡ true
not_false true e = refl
not_false false e = absurd cc

four_takes : (c : Reading) (x : ℕ × Reading) → IsBytes c.rest → number 4 c ≡ Ok x → Takes c (little_bytes 4 x.0) x.1 × (x.0 < 2 ^ 32)
four_takes c x fits e = number_takes 4 c x fits e

word_takes : (limit : ℕ) (c : Reading) (x : List ℕ × Reading) → IsBytes c.rest → word_at limit c ≡ Ok x → Takes c (word x.0) x.1 × IsTrue (is_word limit x.0)
unfolding word_at
word_takes limit c x fits e =
    let a = bind_ok (cut (number 1 c)) (λ n. cond (ltb n.0 1) (Err (refused.Name c.at)) (cond (ltb limit n.0) (Err (refused.Name c.at)) (cut (next_bytes n.0 n.1) >>= λ bytes. cond (ltb (graphic_prefix_len bytes.0) (length bytes.0)) (Err (refused.Name (n.1.at + graphic_prefix_len bytes.0))) (Ok bytes)))) x e in
    let n = a.0 in
    let low = guard_ok (ltb n.0 1) (refused.Name c.at) (cond (ltb limit n.0) (Err (refused.Name c.at)) (cut (next_bytes n.0 n.1) >>= λ bytes. cond (ltb (graphic_prefix_len bytes.0) (length bytes.0)) (Err (refused.Name (n.1.at + graphic_prefix_len bytes.0))) (Ok bytes))) x a.2 in
    let high = guard_ok (ltb limit n.0) (refused.Name c.at) (cut (next_bytes n.0 n.1) >>= λ bytes. cond (ltb (graphic_prefix_len bytes.0) (length bytes.0)) (Err (refused.Name (n.1.at + graphic_prefix_len bytes.0))) (Ok bytes)) x low.1 in
    let b = bind_ok (cut (next_bytes n.0 n.1)) (λ bytes. cond (ltb (graphic_prefix_len bytes.0) (length bytes.0)) (Err (refused.Name (n.1.at + graphic_prefix_len bytes.0))) (Ok bytes)) x high.1 in
    let good = guard_ok (ltb (graphic_prefix_len b.0.0) (length b.0.0)) (refused.Name (n.1.at + graphic_prefix_len b.0.0)) (Ok b.0) x b.2 in
    let t0 = (byte_takes c n fits (cut_ok (number 1 c) n a.1)).0 in
    let t1 = front_takes n.0 n.1 b.0 t0.bytes (cut_ok (next_bytes n.0 n.1) b.0 b.1) in
    let len = t1.1 in
    let lo : 1 ≤ n.0 = ltb-false _ _ low.0 in
    let hi : n.0 ≤ limit = ltb-false _ _ high.0 in
    let fr : length b.0.0 ≤ graphic_prefix_len b.0.0 = ltb-false _ _ good.0 in
    let both = Takes-then c n.1 b.0.1 (n.0 ∷ []) b.0.0 t0 t1.0 in
    subst (λ (p : List ℕ × Reading). Takes c (word p.0) p.1 × IsTrue (is_word limit p.0)) (ok_is b.0 x good.1)
    (subst (λ (k : ℕ). Takes c (k ∷ b.0.0) b.0.1) (sym len) both, is_word_by limit b.0.0 (omega arith) (omega arith) fr)

value_takes : (c : Reading) (x : List ℕ × Reading) → IsBytes c.rest → value_at c ≡ Ok x → Takes c (little_bytes 4 (length x.0) ++ x.0) x.1 × (length x.0 < 2 ^ 32)
unfolding value_at
value_takes c x fits e =
    let a = bind_ok (cut (number 4 c)) (λ n. cut (next_bytes n.0 n.1)) x e in
    let n = a.0 in
    let t0 = four_takes c n fits (cut_ok (number 4 c) n a.1) in
    let t1 = front_takes n.0 n.1 x t0.0.bytes (cut_ok (next_bytes n.0 n.1) x a.2) in
    let both = Takes-then c n.1 x.1 (little_bytes 4 n.0) x.0 t0.0 t1.0 in
    (subst (λ (k : ℕ). Takes c (little_bytes 4 k ++ x.0) x.1) (sym t1.1) both, omega (arith, t0.1, t1.1))

version_takes : (c : Reading) (x : ℕ × Reading) → IsBytes c.rest → version_at c ≡ Ok x → Takes c (little_bytes 8 x.0) x.1 × (x.0 ≤ 2 ^ 62)
unfolding version_at
version_takes c x fits e =
    let a = bind_ok (cut (number 8 c)) (λ n. cond (ltb (2 ^ 62) n.0) (Err (refused.Range c.at)) (Ok n)) x e in
    let g = guard_ok (ltb (2 ^ 62) a.0.0) (refused.Range c.at) (Ok a.0) x a.2 in
    let t = number_takes 8 c a.0 fits (cut_ok (number 8 c) a.0 a.1) in
    subst (λ (p : ℕ × Reading). Takes c (little_bytes 8 p.0) p.1 × (p.0 ≤ 2 ^ 62)) (ok_is a.0 x g.1) (t.0, ltb-false _ _ g.0)

-- an op after its kind, which says whether it is a range
abbrev TakesOp : Reading → List ℕ → Bool → Op × Reading → Type 0
TakesOp c kind range x = (after : Reading) → Takes after kind c → Takes after (op_text x.0) x.1 × OpFits x.0 × (is_range x.0 ≡ range)

put_takes : (c : Reading) (x : Op × Reading) → IsBytes c.rest → put_at c ≡ Ok x → TakesOp c (1 ∷ []) false x
unfolding put_at
put_takes c x fits e =
    let a = bind_ok (word_at 32 c) (λ p. word_at 255 p.1 >>= λ k. value_at k.1 >>= λ v. Ok (Put p.0 k.0 v.0, v.1)) x e in
    let b = bind_ok (word_at 255 a.0.1) (λ k. value_at k.1 >>= λ v. Ok (Put a.0.0 k.0 v.0, v.1)) x a.2 in
    let d = bind_ok (value_at b.0.1) (λ v. Ok (Put a.0.0 b.0.0 v.0, v.1)) x b.2 in
    let t0 = word_takes 32 c a.0 fits a.1 in
    let t1 = word_takes 255 a.0.1 b.0 t0.0.bytes b.1 in
    let t2 = value_takes b.0.1 d.0 t1.0.bytes d.1 in
    subst (TakesOp c (1 ∷ []) false) (ok_is (Put a.0.0 b.0.0 d.0.0, d.0.1) x d.2) (λ first kind.
    let p = Takes-then first c a.0.1 (1 ∷ []) (word a.0.0) kind t0.0 in
    let k = Takes-then first a.0.1 b.0.1 (1 ∷ word a.0.0) (word b.0.0) p t1.0 in
    let v = Takes-then first b.0.1 d.0.1 (1 ∷ word a.0.0 ++ word b.0.0) (little_bytes 4 (length d.0.0) ++ d.0.0) k t2.0 in
    (subst (λ (t : List ℕ). Takes first t d.0.1) (sym (append_assoc (1 ∷ word a.0.0 ++ word b.0.0) (little_bytes 4 (length d.0.0)) d.0.0)) v, (t0.1, t1.1, t2.1), refl))

erase_takes : (c : Reading) (x : Op × Reading) → IsBytes c.rest → erase_at c ≡ Ok x → TakesOp c (2 ∷ []) false x
unfolding erase_at
erase_takes c x fits e =
    let a = bind_ok (word_at 32 c) (λ p. word_at 255 p.1 >>= λ k. Ok (Erase p.0 k.0, k.1)) x e in
    let b = bind_ok (word_at 255 a.0.1) (λ k. Ok (Erase a.0.0 k.0, k.1)) x a.2 in
    let t0 = word_takes 32 c a.0 fits a.1 in
    let t1 = word_takes 255 a.0.1 b.0 t0.0.bytes b.1 in
    subst (TakesOp c (2 ∷ []) false) (ok_is (Erase a.0.0 b.0.0, b.0.1) x b.2) (λ first kind.
    let p = Takes-then first c a.0.1 (2 ∷ []) (word a.0.0) kind t0.0 in
    (Takes-then first a.0.1 b.0.1 (2 ∷ word a.0.0) (word b.0.0) p t1.0, (t0.1, t1.1), refl))

erase_prefix_takes : (c : Reading) (x : Op × Reading) → IsBytes c.rest → erase_prefix_at c ≡ Ok x → TakesOp c (3 ∷ []) false x
unfolding erase_prefix_at
erase_prefix_takes c x fits e =
    let a = bind_ok (word_at 32 c) (λ p. Ok (ErasePrefix p.0, p.1)) x e in
    let t0 = word_takes 32 c a.0 fits a.1 in
    subst (TakesOp c (3 ∷ []) false) (ok_is (ErasePrefix a.0.0, a.0.1) x a.2) (λ first kind. (Takes-then first c a.0.1 (3 ∷ []) (word a.0.0) kind t0.0, t0.1, refl))

erase_range_takes : (c : Reading) (x : Op × Reading) → IsBytes c.rest → erase_range_at c ≡ Ok x → TakesOp c (4 ∷ []) true x
unfolding erase_range_at
erase_range_takes c x fits e =
    let a = bind_ok (word_at 32 c) (λ p. version_at p.1 >>= λ f. version_at f.1 >>= λ t. cond (ltb f.0 t.0) (Ok (EraseRange p.0 f.0 t.0, t.1)) (Err (refused.Range f.1.at))) x e in
    let b = bind_ok (version_at a.0.1) (λ f. version_at f.1 >>= λ t. cond (ltb f.0 t.0) (Ok (EraseRange a.0.0 f.0 t.0, t.1)) (Err (refused.Range f.1.at))) x a.2 in
    let d = bind_ok (version_at b.0.1) (λ t. cond (ltb b.0.0 t.0) (Ok (EraseRange a.0.0 b.0.0 t.0, t.1)) (Err (refused.Range b.0.1.at))) x b.2 in
    let g = chosen_ok (ltb b.0.0 d.0.0) (refused.Range b.0.1.at) (Ok (EraseRange a.0.0 b.0.0 d.0.0, d.0.1)) x d.2 in
    let t0 = word_takes 32 c a.0 fits a.1 in
    let t1 = version_takes a.0.1 b.0 t0.0.bytes b.1 in
    let t2 = version_takes b.0.1 d.0 t1.0.bytes d.1 in
    subst (TakesOp c (4 ∷ []) true) (ok_is (EraseRange a.0.0 b.0.0 d.0.0, d.0.1) x g.1) (λ first kind.
    let p = Takes-then first c a.0.1 (4 ∷ []) (word a.0.0) kind t0.0 in
    let f = Takes-then first a.0.1 b.0.1 (4 ∷ word a.0.0) (little_bytes 8 b.0.0) p t1.0 in
    (Takes-then first b.0.1 d.0.1 (4 ∷ word a.0.0 ++ little_bytes 8 b.0.0) (little_bytes 8 d.0.0) f t2.0, (t0.1, ltb-true _ _ g.0, t2.1), refl))

tested : {A : Type 0} (m n : ℕ) (r s : Result A TxRefused) (x : A) → cond (eqb m n) r s ≡ Ok x → ((m ≡ n) × (r ≡ Ok x)) ⊎ (s ≡ Ok x)
tested m n r s x e =
    elim (cases_eq m n) [
      | inl same ↦ let t : eqb m n ≡ true = grind (arith, nat_tests) in inl (same, rw t at e)
      | inr ne ↦ let t : eqb m n ≡ false = grind (arith, nat_tests) in inr (rw t at e)
    ]

record TakesOne (format : ℕ) (c : Reading) (x : Op × Reading) : Type 0 where
  all : Takes c (op_text x.0) x.1
  fits : OpFits x.0
  second : is_range x.0 ≡ true → format ≡ 2

plain : (format : ℕ) (c : Reading) (x : Op × Reading) → Takes c (op_text x.0) x.1 × OpFits x.0 × (is_range x.0 ≡ false) → TakesOne format c x
plain format c x t = record { all = t.0; fits = t.1; second = λ range. let not_one = t.2 in absurd cc }

op_takes : (format : ℕ) (c : Reading) (x : Op × Reading) → IsBytes c.rest → op_at format c ≡ Ok x → TakesOne format c x
unfolding op_at
op_takes format c x fits e =
    let a = bind_ok (cut (number 1 c)) (λ kind. cond (eqb kind.0 1) (put_at kind.1) (cond (eqb kind.0 2) (erase_at kind.1) (cond (eqb kind.0 3) (erase_prefix_at kind.1) (cond (eqb kind.0 4 && eqb format 2) (erase_range_at kind.1) (Err (refused.Kind c.at)))))) x e in
    let kind = a.0 in
    let t0 = (byte_takes c kind fits (cut_ok (number 1 c) kind a.1)).0 in
    elim (tested kind.0 1 (put_at kind.1) (cond (eqb kind.0 2) (erase_at kind.1) (cond (eqb kind.0 3) (erase_prefix_at kind.1) (cond (eqb kind.0 4 && eqb format 2) (erase_range_at kind.1) (Err (refused.Kind c.at))))) x a.2) [
      | inl h ↦ plain format c x (put_takes kind.1 x t0.bytes h.1 c (subst (λ (n : ℕ). Takes c (n ∷ []) kind.1) h.0 t0))
      | inr h ↦ elim (tested kind.0 2 (erase_at kind.1) (cond (eqb kind.0 3) (erase_prefix_at kind.1) (cond (eqb kind.0 4 && eqb format 2) (erase_range_at kind.1) (Err (refused.Kind c.at)))) x h) [
        | inl i ↦ plain format c x (erase_takes kind.1 x t0.bytes i.1 c (subst (λ (n : ℕ). Takes c (n ∷ []) kind.1) i.0 t0))
        | inr i ↦ elim (tested kind.0 3 (erase_prefix_at kind.1) (cond (eqb kind.0 4 && eqb format 2) (erase_range_at kind.1) (Err (refused.Kind c.at))) x i) [
          | inl j ↦ plain format c x (erase_prefix_takes kind.1 x t0.bytes j.1 c (subst (λ (n : ℕ). Takes c (n ∷ []) kind.1) j.0 t0))
          | inr j ↦
              let g = chosen_ok (eqb kind.0 4 && eqb format 2) (refused.Kind c.at) (erase_range_at kind.1) x j in
              let tests = and_parts (eqb kind.0 4) (eqb format 2) g.0 in
              let four : kind.0 ≡ 4 = eqb-true _ _ tests.0 in
              let t = erase_range_takes kind.1 x t0.bytes g.1 c (subst (λ (n : ℕ). Takes c (n ∷ []) kind.1) four t0) in
              record { all = t.0; fits = t.1; second = λ range. eqb-true _ _ tests.1 }
        ]
      ]
    ]

record TakesOps (format n : ℕ) (c : Reading) (x : List Op × Reading) : Type 0 where
  all : Takes c (flat_map op_text x.0) x.1
  each : AllByRecursion OpFits x.0
  count : length x.0 ≡ n
  second : list_any is_range x.0 ≡ true → format ≡ 2

either : {P : Type 0} (a b : Bool) → (a ≡ true → P) → (b ≡ true → P) → (a || b) ≡ true → P
either true b f g e = f refl
either false b f g e = g e

ops_takes : (format n : ℕ) (c : Reading) (x : List Op × Reading) → IsBytes c.rest → ops_at format n c ≡ Ok x → TakesOps format n c x
unfolding ops_at
ops_takes format zero c x fits e = subst (TakesOps format 0 c) (ok_is ([], c) x e) (record { all = record { parts = refl; bytes = fits }; each = tt; count = refl; second = λ range. absurd cc })
ops_takes format (suc n) c x fits e =
    let a = bind_ok (op_at format c) (λ first. ops_at format n first.1 >>= λ others. Ok (first.0 ∷ others.0, others.1)) x e in
    let b = bind_ok (ops_at format n a.0.1) (λ others. Ok (a.0.0 ∷ others.0, others.1)) x a.2 in
    let t0 = op_takes format c a.0 fits a.1 in
    let t1 = ops_takes format n a.0.1 b.0 t0.all.bytes b.1 in
    subst (TakesOps format (suc n) c) (ok_is (a.0.0 ∷ b.0.0, b.0.1) x b.2)
    (record {
      all = Takes-then c a.0.1 b.0.1 (op_text a.0.0) (flat_map op_text b.0.0) t0.all t1.all;
      each = (t0.fits, t1.each);
      count = omega (arith, t1.count);
      second = either (is_range a.0.0) (list_any is_range b.0.0) t0.second t1.second;
    })

format_takes : (c : Reading) (x : ℕ × Reading) → IsBytes c.rest → format_at c ≡ Ok x → Takes c (x.0 ∷ []) x.1 × ((x.0 ≡ 1) ⊎ (x.0 ≡ 2))
unfolding format_at
format_takes c x fits e =
    let a = bind_ok (cut (number 1 c)) (λ f. cond (eqb f.0 1) (Ok f) (cond (eqb f.0 2) (Ok f) (Err (refused.Kind c.at)))) x e in
    let t = (byte_takes c a.0 fits (cut_ok (number 1 c) a.0 a.1)).0 in
    let all = λ (same : a.0 ≡ x) (which : (a.0.0 ≡ 1) ⊎ (a.0.0 ≡ 2)). subst (λ (p : ℕ × Reading). Takes c (p.0 ∷ []) p.1 × ((p.0 ≡ 1) ⊎ (p.0 ≡ 2))) same (t, which) in
    elim (tested a.0.0 1 (Ok a.0) (cond (eqb a.0.0 2) (Ok a.0) (Err (refused.Kind c.at))) x a.2) [
      | inl h ↦ all (ok_is a.0 x h.1) (inl h.0)
      | inr h ↦ elim (tested a.0.0 2 (Ok a.0) (Err (refused.Kind c.at)) x h) [
        | inl i ↦ all (ok_is a.0 x i.1) (inr i.0)
        | inr i ↦ absurd cc
      ]
    ]

-- the format byte is the one that the ops call for
right_format : (f : ℕ) (range : Bool) → (f ≡ 1) ⊎ (f ≡ 2) → (range ≡ true → f ≡ 2) → (eqb f 2 && not range) ≡ false → cond range 2 1 ≡ f
right_format f true which second none = sym (second refl)
right_format f false (inl one) second none = sym one
right_format f false (inr two) second none = let h : (eqb 2 2 && true) ≡ false = rw two at none in absurd cc

ops_of_takes : (c : Reading) (ops : List Op) → IsBytes c.rest → ops_of c ≡ Ok ops → (c.rest ≡ text ops) × AllByRecursion OpFits ops
unfolding ops_of
ops_of_takes c ops fits e =
    let last = λ (f : ℕ) (o : List Op × Reading). cond (not (eqb (length o.1.rest) 0)) (Err (refused.Rest o.1.at)) (cond (eqb f 2 && not (list_any is_range o.0)) (Err (refused.Kind c.at)) (Ok o.0)) in
    let a = bind_ok (format_at c) (λ f. cut (number 4 f.1) >>= λ n. ops_at f.0 n.0 n.1 >>= λ o. last f.0 o) ops e in
    let n = bind_ok (cut (number 4 a.0.1)) (λ n. ops_at a.0.0 n.0 n.1 >>= λ o. last a.0.0 o) ops a.2 in
    let b = bind_ok (ops_at a.0.0 n.0.0 n.0.1) (λ o. last a.0.0 o) ops n.2 in
    let g = guard_ok (not (eqb (length b.0.1.rest) 0)) (refused.Rest b.0.1.at) (cond (eqb a.0.0 2 && not (list_any is_range b.0.0)) (Err (refused.Kind c.at)) (Ok b.0.0)) ops b.2 in
    let h = guard_ok (eqb a.0.0 2 && not (list_any is_range b.0.0)) (refused.Kind c.at) (Ok b.0.0) ops g.1 in
    let none : b.0.1.rest ≡ [] = nil_from_length b.0.1.rest (eqb-true _ _ (not_false _ g.0)) in
    let t0 = format_takes c a.0 fits a.1 in
    let t1 = four_takes a.0.1 n.0 t0.0.bytes (cut_ok (number 4 a.0.1) n.0 n.1) in
    let t2 = ops_takes a.0.0 n.0.0 n.0.1 b.0 t1.0.bytes b.1 in
    let two = Takes-then c a.0.1 n.0.1 (a.0.0 ∷ []) (little_bytes 4 n.0.0) t0.0 t1.0 in
    let all = Takes-then c n.0.1 b.0.1 (a.0.0 ∷ little_bytes 4 n.0.0) (flat_map op_text b.0.0) two t2.all in
    let next_bytes = a.0.0 ∷ little_bytes 4 n.0.0 ++ flat_map op_text b.0.0 in
    let whole : c.rest ≡ next_bytes = all.parts ∙ ap (λ (r : List ℕ). next_bytes ++ r) none ∙ append-nil next_bytes in
    let byte = right_format a.0.0 (list_any is_range b.0.0) t0.1 t2.second h.0 in
    let encoded_op : c.rest ≡ text b.0.0 = whole ∙ (λ i. sym byte i ∷ little_bytes 4 (sym t2.count i) ++ flat_map op_text b.0.0) in
    subst (λ (os : List Op). (c.rest ≡ text os) × AllByRecursion OpFits os) (ok_is b.0.0 ops h.1) (encoded_op, t2.each)

pub takes_all : (bytes : List ℕ) (ops : List Op) → IsBytes bytes → transaction_of bytes ≡ Ok ops → HasText ops × (bytes ≡ text ops)
unfolding transaction_of
takes_all bytes ops fits e =
    let c : Reading = record { at = 0; rest = bytes } in
    let g = guard_ok (ltb most (length bytes)) (refused.TooLong (length bytes)) (ops_of c) ops e in
    let t = ops_of_takes c ops fits g.1 in
    let short : length bytes ≤ most = ltb-false _ _ g.0 in
    (record { each = t.1; short = subst (λ (xs : List ℕ). length xs ≤ most) t.0 short }, t.0)

pub is_found : (bytes : List ℕ) (r : Result Transaction TxRefused) → IsBytes bytes → Gives (λ tx. tx) r (transaction_of bytes) → IfOk r (λ tx. HasText tx × (bytes ≡ text tx))
is_found bytes (Ok tx) fits h = takes_all bytes tx fits h
is_found bytes (Err e) fits h = tt
