-- What changes of named keys decide.
use Rattle.std.proofs.Common.{◌≡◌, ℕ, ◌&&◌, cond, List, [], ◌∷◌, map, Some, None, refl}
use Rattle.mon_tx.specs.declared.op.Op.{Op}
use Rattle.mon_tx.specs.declared.key.Area.{Area}
use Rattle.mon_tx.specs.declared.key.Key.{Key}
use Rattle.mon_tx.specs.Keys.{place, same_area, same_key}
use Rattle.mon_tx.specs.Decision.{Decision, later, decided, decision}
use Rattle.mon_tx.proofs.Named.{decided-put, decided-erase, decided-erase_prefix}
use Rattle.mon_msg.specs.Puts.{put}
use Rattle.mon_msg.specs.Protocol.Changes.{erase, erase_all}

-- a change of one key, or of a whole area
pub data Edit : Type 0 where
  Set : (a : Area) → (k : Key) → (bytes : List ℕ) → Edit
  Drop : (a : Area) → (k : Key) → Edit
  DropAll : (a : Area) → Edit

abbrev pub op_of : Edit → Op
op_of (Set a k bytes) = put a k bytes
op_of (Drop a k) = erase a k
op_of (DropAll a) = erase_all a

abbrev pub named : Edit → Area → Key → Decision
named (Set a k bytes) b j = cond (same_area b a && same_key j k) (Some (Some bytes)) None
named (Drop a k) b j = cond (same_area b a && same_key j k) (Some None) None
named (DropAll a) b j = cond (same_area b a) (Some None) None

abbrev pub all_named : List Edit → Area → Key → Decision
all_named [] b j = None
all_named (e ∷ es) b j = later (all_named es b j) (named e b j)

decided-named : (e : Edit) (b : Area) (j : Key) → decided (op_of e) (place b j) ≡ named e b j
decided-named (Set a k bytes) b j = decided-put a k bytes b j
decided-named (Drop a k) b j = decided-erase a k b j
decided-named (DropAll a) b j = decided-erase_prefix a b j

pub decision-edits : (es : List Edit) (b : Area) (j : Key) → decision (map op_of es) (place b j) ≡ all_named es b j
decision-edits [] b j = refl
decision-edits (e ∷ es) b j = λ i. later (decision-edits es b j i) (decided-named e b j i)
