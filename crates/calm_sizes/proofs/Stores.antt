-- A store of a log's versions without a long value stays one, and is not full.
use Rattle.calm_sizes.proofs.Shorts.{PutsShort, puts_within, short_apply}
use Rattle.calm_sizes.proofs.Weights.{never_full}
use Rattle.calm_sizes.specs.Sizes.{AllShort, longest}
use Rattle.law_names.proofs.Runs.{AllValues, most_size, size_of}
use Rattle.law_names.proofs.Table.{AllByRecursion, Boot, Change, Copy, Epoch, Last, Learn, Mark, Numbers, Promise, Record, Store, Unmark, Vote, encoded, number_bytes, ops_of, text}
use Rattle.log_copies.specs.Versions.{HasVersions, store_after}
use Rattle.log_model.proofs.Lists.{all_append}
use Rattle.mon_msg.proofs.Joining.{apply-joined}
use Rattle.std.proofs.Common.{List, [], arith, false, length, ltb, subst, sym, ℕ, ◌^◌, ◌∷◌, ◌≡◌, ◌≤◌}
use Rattle.std.proofs.lemmas.Bool.{le-ltb}

-- ---- what an event writes

-- what a change of a monitor that copies nothing puts is not long
abbrev pub ChangeShort : Change → Type 0
ChangeShort (Vote v pn value) = length (text value) ≤ longest
ChangeShort (Record v value) = length (text value) ≤ longest
ChangeShort (Learn v value) = length (text value) ≤ longest
ChangeShort (Boot n) = Unit {0}
ChangeShort (Epoch e) = Unit {0}
ChangeShort (Numbers pn) = Unit {0}
ChangeShort (Promise pn) = Unit {0}
ChangeShort (Last v) = Unit {0}
ChangeShort other = ⊥

pub number_short : (n : ℕ) → length (number_bytes n) ≤ longest
unfolding number_bytes
number_short n = omega arith

puts_short : (c : Change) → ChangeShort c → AllByRecursion (PutsShort longest) (ops_of c)
puts_short (Boot n) h = (number_short n, tt)
puts_short (Epoch e) h = (number_short e, tt)
puts_short (Numbers pn) h = (number_short pn, (number_short pn, tt))
puts_short (Promise pn) h = (number_short pn, tt)
puts_short (Vote v pn value) h = (h, (number_short v, (number_short pn, tt)))
puts_short (Record v value) h = (h, tt)
puts_short (Learn v value) h = (h, puts_within longest value h)
puts_short (Last v) h = (number_short v, tt)
puts_short (Copy entry) h = absurd h
puts_short (Mark floor a b) h = absurd h
puts_short Unmark h = absurd h

all_puts : (cs : List Change) → AllByRecursion ChangeShort cs → AllByRecursion (PutsShort longest) (encoded cs)
all_puts [] h = tt
all_puts (c ∷ cs) h = all_append (PutsShort longest) (ops_of c) (encoded cs) (puts_short c h.0) (all_puts cs h.1)

pub short_behind : (cs : List Change) (m : Store) → AllByRecursion ChangeShort cs → AllShort longest m
    → AllShort longest (store_after cs m)
short_behind cs m h all =
    subst (AllShort longest) (sym (apply-joined (encoded cs) m))
    (short_apply longest (encoded cs) m (all_puts cs h) all)

-- ---- it is not full

pub not_full : (log : List (List ℕ)) → length log ≤ 2 ^ 62 → AllValues log → (c : ℕ) (m : Store)
    → HasVersions log c m → AllShort longest m → ltb most_size (size_of m) ≡ false
not_full log fits all c m V short =
    le-ltb most_size (size_of m) (never_full log fits all c V.within m V.folded (λ q x own e. short q x e))
