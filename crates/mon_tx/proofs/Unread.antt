-- Reading the changes of a text one after the other, as the text is read as a whole.
use Rattle.std.proofs.Common.{◌≡◌, ℕ, suc, Bool, true, false, not, ◌&&◌, ◌||◌, cond, eqb, List, [], ◌∷◌, length, Result, Ok, Err, refl, ap, ◌∙◌}
use Rattle.std.specs.List.{list_any}
use Rattle.std.proofs.lemmas.Bool.{eq-eqb, ne_eqb}
use Rattle.mon_bytes.specs.Reading.{Reading}
use Rattle.mon_tx.specs.declared.op.Op.{Op}
use Rattle.mon_tx.specs.declared.refusal.TxRefused.{TxRefused}
use Rattle.mon_tx.specs.declared.refusal.TxRefused.TheVariants as refused
use Rattle.mon_tx.specs.Text.{is_range}
use Rattle.mon_tx.specs.Fields.{◌>>=◌}
use Rattle.mon_tx.specs.Decode.{op_at, ops_at}
use Rattle.mon_tx.specs.EncodedOp.{unread}
use Rattle.mon_tx.proofs.Over.{or-assoc, or-false}

carries : (a b : Bool) (d e : TxRefused) (op : Op) (ops : List Op)
    → ◌≡◌ {A = Result (List Op) TxRefused} (cond a (Err d) (cond b (Err e) (Ok (op ∷ ops)))) (cond a (Err d) (cond b (Err e) (Ok ops)) >>= λ others. Ok (op ∷ others))
carries true b d e op ops = refl
carries false true d e op ops = refl
carries false false d e op ops = refl

-- the unread changes are the next one and those unread after it
pub goes_on : (format left n : ℕ) (ranged : Bool) (c after : Reading) (op : Op) → left ≡ suc n → op_at format c ≡ Ok (op, after)
    → unread format left ranged c ≡ (unread format n (ranged || is_range op) after >>= λ ops. Ok (op ∷ ops))
unfolding unread ops_at
goes_on format left n ranged c after op is h = rw (is, h) (by (ops_at format n after))
  where
    ends : Bool → List Op × Reading → List Op → Result (List Op) TxRefused
    ends = λ range x ops. cond (not (eqb (length x.1.rest) 0)) (Err (refused.Rest x.1.at)) (cond (eqb format 2 && not range) (Err (refused.Kind 0)) (Ok ops))

    by : (read : Result (List Op × Reading) TxRefused)
        → ((read >>= λ others. Ok (op ∷ others.0, others.1)) >>= λ x. ends (ranged || list_any is_range x.0) x x.0) ≡ ((read >>= λ x. ends ((ranged || is_range op) || list_any is_range x.0) x x.0) >>= λ ops. Ok (op ∷ ops))
    by (Ok x) =
        ap (λ (b : Bool). ends b x (op ∷ x.0)) (or-assoc ranged (is_range op) (list_any is_range x.0))
        ∙ carries (not (eqb (length x.1.rest) 0)) (eqb format 2 && not ((ranged || is_range op) || list_any is_range x.0)) (refused.Rest x.1.at) (refused.Kind 0) op x.0
    by (Err e) = refl

pub stops : (format left n : ℕ) (ranged : Bool) (c : Reading) (e : TxRefused) → left ≡ suc n → op_at format c ≡ Err e → unread format left ranged c ≡ Err e
unfolding unread ops_at
stops format left n ranged c e is h = rw (is, h) refl

-- after the last change
module _ (format left : ℕ) (ranged : Bool) (c : Reading) (last : left ≡ 0) where
  at_end : unread format left ranged c ≡ cond (not (eqb (length c.rest) 0)) (Err (refused.Rest c.at)) (cond (eqb format 2 && not ranged) (Err (refused.Kind 0)) (Ok []))
  unfolding unread ops_at
  at_end = rw (last, or-false ranged) refl

  pub left_over : (length c.rest ≡ 0 → ⊥) → unread format left ranged c ≡ Err (refused.Rest c.at)
  left_over some = at_end ∙ rw (ne_eqb (length c.rest) 0 some) refl

  module _ (none : length c.rest ≡ 0) where
    pub no_range : format ≡ 2 → ranged ≡ false → unread format left ranged c ≡ Err (refused.Kind 0)
    no_range two without = at_end ∙ rw (eq-eqb (length c.rest) 0 none, eq-eqb format 2 two, without) refl

    pub first_format : (format ≡ 2 → ⊥) → unread format left ranged c ≡ Ok []
    first_format other = at_end ∙ rw (eq-eqb (length c.rest) 0 none, ne_eqb format 2 other) refl

    pub with_range : ranged ≡ true → unread format left ranged c ≡ Ok []
    with_range met = at_end ∙ by (eqb format 2)
      where
        by : (b : Bool) → ◌≡◌ {A = Result (List Op) TxRefused} (cond (not (eqb (length c.rest) 0)) (Err (refused.Rest c.at)) (cond (b && not ranged) (Err (refused.Kind 0)) (Ok []))) (Ok [])
        by true = rw (eq-eqb (length c.rest) 0 none, met) refl
        by false = rw (eq-eqb (length c.rest) 0 none) refl
