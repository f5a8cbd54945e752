-- A value that takes versions away one by one leaves under named keys what one with ranges leaves, and puts the same.
use Rattle.std.proofs.Common.{◌≡◌, ℕ, zero, suc, ◌+◌, ◌-◌, Bool, true, false, ◌&&◌, cond, List, [], ◌∷◌, ◌++◌, map, Some, None, refl, sym, ap, ◌∙◌, arith}
use Rattle.std.proofs.lemmas.Bool.{cond_both}
use Rattle.std.proofs.lemmas.Bool.Decides.{nat_tests}
use Rattle.std.specs.List.{range_with_len}
use Rattle.std.specs.Str.{bytes_eq}
use Rattle.mon_tx.specs.declared.key.Area.{Area}
use Rattle.mon_tx.specs.declared.key.Key.{Key}
use Rattle.mon_tx.specs.declared.key.Key.TheVariants.{FirstCommitted, LastCommitted, LastPn, AcceptedPn, PendingV, PendingPn, FullLatest, ElectionEpoch, BootCount, InSync, Floor, Version, Full}
use Rattle.mon_tx.specs.declared.op.Op.{Op}
use Rattle.mon_tx.specs.declared.op.Op.TheVariants.{Put, Erase, ErasePrefix, EraseRange}
use Rattle.mon_tx.specs.Decision.{Decision, decided, decision, later}
use Rattle.mon_tx.specs.Keys.{area_text, place, same_area, same_key, covers}
use Rattle.mon_tx.specs.Map.{is_decimal}
use Rattle.mon_tx.proofs.After.{decision-append}
use Rattle.mon_tx.proofs.Named.{decided-erase, decided-erase_range}
use Rattle.mon_wire.specs.declared.request.Service.{Service}
use Rattle.mon_msg.specs.Fold.{put_in}
use Rattle.mon_msg.specs.Puts.{area_of}
use Rattle.mon_msg.specs.Protocol.Changes.{erase}
use Rattle.log_model.specs.LogOfValues.{one_by_one, IsOlder, none, same, range}

-- a value may also be encoded as it is
pub older_itself : (ops : List Op) → IsOlder ops ops
older_itself [] = none
older_itself (op ∷ ops) = same op (older_itself ops)

abbrev gone : Bool → Decision
gone t = cond t (Some None) None

none_covered : (from : ℕ) (k : Key) → covers from (from + 0) k ≡ false
none_covered from (Version v) = grind (arith, nat_tests)
none_covered from FirstCommitted = refl
none_covered from LastCommitted = refl
none_covered from LastPn = refl
none_covered from AcceptedPn = refl
none_covered from PendingV = refl
none_covered from PendingPn = refl
none_covered from FullLatest = refl
none_covered from ElectionEpoch = refl
none_covered from BootCount = refl
none_covered from InSync = refl
none_covered from Floor = refl
none_covered from (Full v) = refl

either_gone : (a b : Bool) → later (gone a) (gone b) ≡ cond a (Some None) (gone b)
either_gone true b = refl
either_gone false b = refl

one_covered : (from count : ℕ) (k : Key) → later (gone (covers (from + 1) (from + 1 + count) k)) (gone (same_key k (Version from))) ≡ gone (covers from (from + suc count) k)
one_covered from count (Version v) = either_gone _ _ ∙ grind (arith, nat_tests)
one_covered from count FirstCommitted = refl
one_covered from count LastCommitted = refl
one_covered from count LastPn = refl
one_covered from count AcceptedPn = refl
one_covered from count PendingV = refl
one_covered from count PendingPn = refl
one_covered from count FullLatest = refl
one_covered from count ElectionEpoch = refl
one_covered from count BootCount = refl
one_covered from count InSync = refl
one_covered from count Floor = refl
one_covered from count (Full v) = refl

abbrev each : Area → ℕ → ℕ → List Op
each a from count = map (λ v. erase a (Version v)) (range_with_len from count)

in_area : (t : Bool) (p q r : Bool) → later (gone p) (gone q) ≡ gone r → later (gone (t && p)) (gone (t && q)) ≡ gone (t && r)
in_area true p q r h = h
in_area false p q r h = refl

each_decides : (count from : ℕ) (a b : Area) (k : Key) → decision (each a from count) (place b k) ≡ gone (same_area b a && covers from (from + count) k)
each_decides zero from a b k = ap gone (sym (ap (λ t. same_area b a && t) (none_covered from k) ∙ nowhere (same_area b a)))
  where
    nowhere : (t : Bool) → (t && false) ≡ false
    nowhere true = refl
    nowhere false = refl
each_decides (suc count) from a b k =
    (λ i. later (each_decides count (from + 1) a b k i) (decided-erase a (Version from) b k i))
    ∙ in_area (same_area b a) (covers (from + 1) (from + 1 + count) k) (same_key k (Version from)) (covers from (from + suc count) k) (one_covered from count k)

-- a range that begins after its end has no versions
range_end : (from to : ℕ) (k : Key) → covers from (from + (to - from)) k ≡ covers from to k
range_end from to (Version v) = grind (arith, nat_tests)
range_end from to FirstCommitted = refl
range_end from to LastCommitted = refl
range_end from to LastPn = refl
range_end from to AcceptedPn = refl
range_end from to PendingV = refl
range_end from to PendingPn = refl
range_end from to FullLatest = refl
range_end from to ElectionEpoch = refl
range_end from to BootCount = refl
range_end from to InSync = refl
range_end from to Floor = refl
range_end from to (Full v) = refl

pub decides_same : {ops older : List Op} → IsOlder ops older → (b : Area) (k : Key) → decision older (place b k) ≡ decision ops (place b k)
decides_same none b k = refl
decides_same (same op h) b k = ap (λ d. later d (decided op (place b k))) (decides_same h b k)
decides_same (range a from to {ops = ops} {older = older} h) b k =
    decision-append (one_by_one a from to) older (place b k)
    ∙ (λ i. later (decides_same h b k i) ((each_decides (to - from) from a b k ∙ ap (λ t. gone (same_area b a && t)) (range_end from to k) ∙ sym (decided-erase_range a from to b k)) i))

-- ---- what they put

erases_nothing : (s : Service) (a : Area) (vs : List ℕ) (ops : List Op) → put_in s (map (λ v. erase a (Version v)) vs ++ ops) ≡ put_in s ops
erases_nothing s a [] ops = refl
erases_nothing s a (v ∷ vs) ops = erases_nothing s a vs ops

pub puts_same : {ops older : List Op} → IsOlder ops older → (s : Service) → put_in s older ≡ put_in s ops
puts_same none s = refl
puts_same (same (Put prefix k v) {ops = ops} {older = older} h) s =
    cond_both (bytes_eq prefix (area_text (area_of s)) && is_decimal k) (v ∷ put_in s ops) (put_in s ops) (λ z. put_in s (Put prefix k v ∷ older) ≡ z)
    (λ e. rw e (ap (λ (z : List (List ℕ)). v ∷ z) (puts_same h s))) (λ e. rw e (puts_same h s))
puts_same (same (Erase prefix k) h) s = puts_same h s
puts_same (same (ErasePrefix prefix) h) s = puts_same h s
puts_same (same (EraseRange prefix from to) h) s = puts_same h s
puts_same (range a from to {older = older} h) s = erases_nothing s a (range_with_len from (to - from)) older ∙ puts_same h s
