-- What the readers return after the protocol's changes are encoded and applied is what they return after the changes are
-- played.
use Rattle.std.proofs.Common.{◌≡◌, ℕ, ◌≤◌, ◌^◌, Bool, true, false, cond, eqb, lit≤, List, [], ◌∷◌, ◌++◌, map, Option, Some, None, IfSome, refl, ap, ◌∙◌}
use Rattle.std.specs.List.{AllByRecursion}
use Rattle.std.specs.Option.{option_map_or}
use Rattle.mon_tx.specs.declared.op.Op.{Op}
use Rattle.mon_tx.specs.declared.key.Area.{Area}
use Rattle.mon_tx.specs.declared.key.Area.TheVariants as area
use Rattle.mon_tx.specs.declared.key.Key.{Key}
use Rattle.mon_tx.specs.declared.key.Key.TheVariants as key
use Rattle.mon_tx.specs.Map.{Store, apply, number_in, number_bytes}
use Rattle.mon_tx.specs.Text.{text}
use Rattle.mon_tx.specs.Keys.{place, cell}
use Rattle.mon_tx.specs.Decision.{Cell, decision, or_before}
use Rattle.mon_tx.proofs.Places.{number_in-bytes}
use Rattle.mon_tx.proofs.After.{get-apply}
use Rattle.mon_wire.specs.declared.request.Service.{Service}
use Rattle.mon_wire.specs.declared.request.Service.TheVariants.{Kv, Log}
use Rattle.mon_msg.specs.Joined.{joined}
use Rattle.mon_msg.specs.Puts.{area_of}
use Rattle.mon_msg.specs.Protocol.Readings.{number_if_there}
use Rattle.mon_msg.specs.Protocol.Readings.{Readings, marks, read_after, readings_of, after}
use Rattle.mon_msg.specs.Protocol.Changes.{Change, Boot, Epoch, Numbers, Promise, Vote, Record, Learn, Last, Copy, Mark, Unmark, ops_of, encoded}
use Rattle.mon_msg.specs.Protocol.Played.{IsShort, Fits, play, played}
use Rattle.mon_msg.proofs.Edits.{Edit, Set, Drop, DropAll, op_of, all_named, decision-edits}
use Rattle.mon_msg.proofs.Joining.{apply-joined}
use Rattle.mon_msg.proofs.Afterwards.{told, number-apply, apply-append}

told-apply : {A : Type 0} (of_cell : Cell → A) (ops : List Op) (m : Store) (a : Area) (k : Key) → of_cell (cell (apply ops m) a k) ≡ read_after of_cell ops a k (of_cell (cell m a k))
told-apply of_cell ops m a k = ap of_cell (get-apply ops m (place a k)) ∙ told of_cell (decision ops (place a k)) (cell m a k)

pub readings-apply : (ops : List Op) (m : Store) → readings_of (apply ops m) ≡ after ops (readings_of m)
unfolding readings_of after
readings-apply ops m = λ i. record {
  epoch = told-apply number_if_there ops m area.Monitor key.ElectionEpoch i;
  boot = number-apply ops m area.Monitor key.BootCount i;
  last_pn = told-apply number_if_there ops m area.Paxos key.LastPn i;
  promise = told-apply number_if_there ops m area.Paxos key.AcceptedPn i;
  pending_v = number-apply ops m area.Paxos key.PendingV i;
  pending_pn = number-apply ops m area.Paxos key.PendingPn i;
  first = number-apply ops m area.Paxos key.FirstCommitted i;
  last = number-apply ops m area.Paxos key.LastCommitted i;
  marked = told-apply marks ops m area.Sync key.InSync i;
  floor = number-apply ops m area.Sync key.Floor i;
  record_of = λ v. get-apply ops m (place area.Paxos (key.Version v)) i;
  row = λ s k. get-apply ops m (place (area_of s) k) i;
}

-- the same after changes of named keys

abbrev told_by : {A : Type 0} → (Cell → A) → List Edit → Area → Key → A → A
told_by of_cell es a k before = option_map_or of_cell (all_named es a k) before

abbrev edited : List Edit → Readings → Readings
edited es w = record {
  epoch = told_by number_if_there es area.Monitor key.ElectionEpoch w.epoch;
  boot = told_by number_in es area.Monitor key.BootCount w.boot;
  last_pn = told_by number_if_there es area.Paxos key.LastPn w.last_pn;
  promise = told_by number_if_there es area.Paxos key.AcceptedPn w.promise;
  pending_v = told_by number_in es area.Paxos key.PendingV w.pending_v;
  pending_pn = told_by number_in es area.Paxos key.PendingPn w.pending_pn;
  first = told_by number_in es area.Paxos key.FirstCommitted w.first;
  last = told_by number_in es area.Paxos key.LastCommitted w.last;
  marked = told_by marks es area.Sync key.InSync w.marked;
  floor = told_by number_in es area.Sync key.Floor w.floor;
  record_of = λ v. or_before (all_named es area.Paxos (key.Version v)) (w.record_of v);
  row = λ s k. or_before (all_named es (area_of s) k) (w.row s k);
}

told-edits : {A : Type 0} (of_cell : Cell → A) (es : List Edit) (a : Area) (k : Key) (before : A) → read_after of_cell (map op_of es) a k before ≡ told_by of_cell es a k before
told-edits of_cell es a k before = ap (λ d. option_map_or of_cell d before) (decision-edits es a k)

after-edits : (es : List Edit) (w : Readings) → after (map op_of es) w ≡ edited es w
unfolding after
after-edits es w = λ i. record {
  epoch = told-edits number_if_there es area.Monitor key.ElectionEpoch w.epoch i;
  boot = told-edits number_in es area.Monitor key.BootCount w.boot i;
  last_pn = told-edits number_if_there es area.Paxos key.LastPn w.last_pn i;
  promise = told-edits number_if_there es area.Paxos key.AcceptedPn w.promise i;
  pending_v = told-edits number_in es area.Paxos key.PendingV w.pending_v i;
  pending_pn = told-edits number_in es area.Paxos key.PendingPn w.pending_pn i;
  first = told-edits number_in es area.Paxos key.FirstCommitted w.first i;
  last = told-edits number_in es area.Paxos key.LastCommitted w.last i;
  marked = told-edits marks es area.Sync key.InSync w.marked i;
  floor = told-edits number_in es area.Sync key.Floor w.floor i;
  record_of = λ v. ap (λ d. or_before d (w.record_of v)) (decision-edits es area.Paxos (key.Version v)) i;
  row = λ s k. ap (λ d. or_before d (w.row s k)) (decision-edits es (area_of s) k) i;
}

-- the changes that name their keys

abbrev number_set : Area → Key → ℕ → Edit
number_set a k n = Set a k (number_bytes n)

abbrev put_back : Key → Option ℕ → List Edit
put_back k None = []
put_back k (Some n) = number_set area.Paxos k n ∷ []

abbrev marking : ℕ → Option ℕ → Option ℕ → List Edit
marking floor last_pn promise =
    number_set area.Sync key.InSync 1
    ∷ number_set area.Sync key.Floor floor
    ∷ DropAll area.Kv
    ∷ DropAll area.Logm
    ∷ DropAll area.Paxos
    ∷ (put_back key.LastPn last_pn ++ put_back key.AcceptedPn promise)

rows_same : (es : List Edit) (w : Readings) → ((k : Key) → all_named es area.Kv k ≡ None) → ((k : Key) → all_named es area.Logm k ≡ None)
    → (s : Service) (k : Key) → or_before (all_named es (area_of s) k) (w.row s k) ≡ w.row s k
rows_same es w h g Kv k = ap (λ d. or_before d (w.row Kv k)) (h k)
rows_same es w h g Log k = ap (λ d. or_before d (w.row Log k)) (g k)

boot_is : (n : ℕ) (w : Readings) → n ≤ 2 ^ 62 → edited (number_set area.Monitor key.BootCount n ∷ []) w ≡ play (Boot n) w
boot_is n w h = λ i. record w { boot = number_in-bytes n h i; row = λ s k. rows_same (number_set area.Monitor key.BootCount n ∷ []) w (λ k. refl) (λ k. refl) s k i }

epoch_is : (e : ℕ) (w : Readings) → e ≤ 2 ^ 62 → edited (number_set area.Monitor key.ElectionEpoch e ∷ []) w ≡ play (Epoch e) w
epoch_is e w h = λ i. record w { epoch = Some (number_in-bytes e h i); row = λ s k. rows_same (number_set area.Monitor key.ElectionEpoch e ∷ []) w (λ k. refl) (λ k. refl) s k i }

numbers_are : (pn : ℕ) (w : Readings) → pn ≤ 2 ^ 62 → edited (number_set area.Paxos key.LastPn pn ∷ number_set area.Paxos key.AcceptedPn pn ∷ []) w ≡ play (Numbers pn) w
numbers_are pn w h = λ i. record w {
  last_pn = Some (number_in-bytes pn h i);
  promise = Some (number_in-bytes pn h i);
  row = λ s k. rows_same (number_set area.Paxos key.LastPn pn ∷ number_set area.Paxos key.AcceptedPn pn ∷ []) w (λ k. refl) (λ k. refl) s k i;
}

promise_is : (pn : ℕ) (w : Readings) → pn ≤ 2 ^ 62 → edited (number_set area.Paxos key.AcceptedPn pn ∷ []) w ≡ play (Promise pn) w
promise_is pn w h = λ i. record w {
  promise = Some (number_in-bytes pn h i);
  row = λ s k. rows_same (number_set area.Paxos key.AcceptedPn pn ∷ []) w (λ k. refl) (λ k. refl) s k i;
}

last_is : (v : ℕ) (w : Readings) → v ≤ 2 ^ 62 → edited (number_set area.Paxos key.LastCommitted v ∷ []) w ≡ play (Last v) w
last_is v w h = λ i. record w {
  last = number_in-bytes v h i;
  row = λ s k. rows_same (number_set area.Paxos key.LastCommitted v ∷ []) w (λ k. refl) (λ k. refl) s k i;
}

record_cell : (test : Bool) (bytes : List ℕ) (c : Cell) → or_before (cond test (Some (Some bytes)) None) c ≡ cond test (Some bytes) c
record_cell true bytes c = refl
record_cell false bytes c = refl

abbrev recording : ℕ → List ℕ → List Edit
recording v bytes = Set area.Paxos (key.Version v) bytes ∷ []

record_is : (v : ℕ) (value : List Op) (w : Readings) → edited (recording v (text value)) w ≡ play (Record v value) w
record_is v value w = λ i. record w {
  record_of = λ u. record_cell (eqb u v) (text value) (w.record_of u) i;
  row = λ s k. rows_same (recording v (text value)) w (λ k. refl) (λ k. refl) s k i;
}

abbrev voting : ℕ → ℕ → List ℕ → List Edit
voting v pn bytes = Set area.Paxos (key.Version v) bytes ∷ number_set area.Paxos key.PendingV v ∷ number_set area.Paxos key.PendingPn pn ∷ []

vote_is : (v pn : ℕ) (value : List Op) (w : Readings) → v ≤ 2 ^ 62 → pn ≤ 2 ^ 62 → edited (voting v pn (text value)) w ≡ play (Vote v pn value) w
vote_is v pn value w h g = λ i. record w {
  pending_v = number_in-bytes v h i;
  pending_pn = number_in-bytes pn g i;
  record_of = λ u. record_cell (eqb u v) (text value) (w.record_of u) i;
  row = λ s k. rows_same (voting v pn (text value)) w (λ k. refl) (λ k. refl) s k i;
}

abbrev unmarking : List Edit
unmarking = Drop area.Sync key.InSync ∷ Drop area.Sync key.Floor ∷ []

unmark_is : (w : Readings) → edited unmarking w ≡ play Unmark w
unfolding number_in
unmark_is w = λ i. record w { marked = false; floor = 0; row = λ s k. rows_same unmarking w (λ k. refl) (λ k. refl) s k i }

rows_gone : (floor : ℕ) (a b : Option ℕ) (w : Readings) (s : Service) (k : Key) → or_before (all_named (marking floor a b) (area_of s) k) (w.row s k) ≡ None
rows_gone floor None None w Kv k = refl
rows_gone floor None None w Log k = refl
rows_gone floor (Some a) None w Kv k = refl
rows_gone floor (Some a) None w Log k = refl
rows_gone floor None (Some b) w Kv k = refl
rows_gone floor None (Some b) w Log k = refl
rows_gone floor (Some a) (Some b) w Kv k = refl
rows_gone floor (Some a) (Some b) w Log k = refl

is_one : marks (Some (number_bytes 1)) ≡ true
is_one = ap (λ n. eqb n 1) (number_in-bytes 1 (lit≤ tt))

mark_is : (floor : ℕ) (a b : Option ℕ) (w : Readings) → floor ≤ 2 ^ 62 → IfSome a IsShort → IfSome b IsShort → edited (marking floor a b) w ≡ play (Mark floor a b) w
unfolding number_in
mark_is floor None None w f h g = λ i. record w {
  last_pn = None;
  promise = None;
  pending_v = 0;
  pending_pn = 0;
  first = 0;
  last = 0;
  marked = is_one i;
  floor = number_in-bytes floor f i;
  record_of = λ v. None;
  row = λ s k. rows_gone floor None None w s k i;
}
mark_is floor (Some a) None w f h g = λ i. record w {
  last_pn = Some (number_in-bytes a h i);
  promise = None;
  pending_v = 0;
  pending_pn = 0;
  first = 0;
  last = 0;
  marked = is_one i;
  floor = number_in-bytes floor f i;
  record_of = λ v. None;
  row = λ s k. rows_gone floor (Some a) None w s k i;
}
mark_is floor None (Some b) w f h g = λ i. record w {
  last_pn = None;
  promise = Some (number_in-bytes b g i);
  pending_v = 0;
  pending_pn = 0;
  first = 0;
  last = 0;
  marked = is_one i;
  floor = number_in-bytes floor f i;
  record_of = λ v. None;
  row = λ s k. rows_gone floor None (Some b) w s k i;
}
mark_is floor (Some a) (Some b) w f h g = λ i. record w {
  last_pn = Some (number_in-bytes a h i);
  promise = Some (number_in-bytes b g i);
  pending_v = 0;
  pending_pn = 0;
  first = 0;
  last = 0;
  marked = is_one i;
  floor = number_in-bytes floor f i;
  record_of = λ v. None;
  row = λ s k. rows_gone floor (Some a) (Some b) w s k i;
}

marking_ops : (floor : ℕ) (a b : Option ℕ) → ops_of (Mark floor a b) ≡ map op_of (marking floor a b)
marking_ops floor None None = refl
marking_ops floor (Some a) None = refl
marking_ops floor None (Some b) = refl
marking_ops floor (Some a) (Some b) = refl

after_change : (c : Change) (w : Readings) → Fits c → after (ops_of c) w ≡ play c w
after_change (Boot n) w h = after-edits (number_set area.Monitor key.BootCount n ∷ []) w ∙ boot_is n w h
after_change (Epoch e) w h = after-edits (number_set area.Monitor key.ElectionEpoch e ∷ []) w ∙ epoch_is e w h
after_change (Numbers pn) w h = after-edits (number_set area.Paxos key.LastPn pn ∷ number_set area.Paxos key.AcceptedPn pn ∷ []) w ∙ numbers_are pn w h
after_change (Promise pn) w h = after-edits (number_set area.Paxos key.AcceptedPn pn ∷ []) w ∙ promise_is pn w h
after_change (Vote v pn value) w h = after-edits (voting v pn (text value)) w ∙ vote_is v pn value w h.0 h.1
after_change (Record v value) w h = after-edits (recording v (text value)) w ∙ record_is v value w
after_change (Learn v value) w h = refl
after_change (Last v) w h = after-edits (number_set area.Paxos key.LastCommitted v ∷ []) w ∙ last_is v w h
after_change (Copy entry) w h = refl
after_change (Mark floor a b) w h = ap (λ ops. after ops w) (marking_ops floor a b) ∙ after-edits (marking floor a b) w ∙ mark_is floor a b w h.0 h.1 h.2
after_change Unmark w h = after-edits unmarking w ∙ unmark_is w

readings-encoded : (cs : List Change) → AllByRecursion Fits cs → (m : Store) → readings_of (apply (encoded cs) m) ≡ played cs (readings_of m)
readings-encoded [] h m = refl
readings-encoded (c ∷ cs) h m =
    ap readings_of (apply-append (ops_of c) (encoded cs) m)
    ∙ readings-encoded cs h.1 (apply (ops_of c) m)
    ∙ ap (played cs) (readings-apply (ops_of c) m ∙ after_change c (readings_of m) h.0)

pub readings-joined : (cs : List Change) → AllByRecursion Fits cs → (m : Store) → readings_of (apply (joined (encoded cs)) m) ≡ played cs (readings_of m)
readings-joined cs h m = ap readings_of (apply-joined (encoded cs) m) ∙ readings-encoded cs h m
