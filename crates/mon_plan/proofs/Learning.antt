-- Values that are learned, one after the other.
use Rattle.std.proofs.Common.{◌≡◌, ℕ, suc, ◌+◌, ◌-◌, ◌≤◌, ◌<◌, ◌^◌, true, false, eqb, List, [], ◌∷◌, ◌++◌, length, drop, get_or, drop-cons, Ok, Err, refl, sym, ap, ◌∙◌, append_assoc, add-one, arith, inl, inr}
use Rattle.std.specs.List.{AllByRecursion}
use Rattle.std.proofs.lemmas.Bool.{cases_lt, eqb-true, le-leb, lt-leb}
use Rattle.mon_bytes.specs.declared.entry.Entry.{Entry}
use Rattle.mon_tx.specs.Puts.{put_number}
use Rattle.mon_tx.specs.declared.key.Area.TheVariants as area
use Rattle.mon_tx.specs.declared.key.Key.TheVariants as key
use Rattle.mon_tx.specs.declared.op.Op.{Op}
use Rattle.mon_msg.specs.Protocol.Changes.{Learn, Last, Record, Copy, ops_of, encoded}
use Rattle.mon_msg.specs.Protocol.Chunks.{record_changes, copy_changes}
use Rattle.mon_msg.specs.Protocol.Course.{Course}
use Rattle.mon_msg.specs.Protocol.Learning.{learn_changes, learn}
use Rattle.mon_msg.specs.Protocol.Played.{Fits}
use Rattle.mon_types.specs.declared.names.Which.TheVariants as which
use Rattle.mon_plan.specs.Learned.{learned}
use Rattle.mon_plan.specs.Plans.{changed}
use Rattle.mon_plan.proofs.Planning.{changes-append, encoded-append, fit-append}

pub learn-done : (v : ℕ) (value : List Op) (values : List (List Op)) (x : Course) → v + length values ≤ 2 ^ 62 → learn v (value ∷ values) x ≡ Ok (changed (learned v (value ∷ values)) x)
unfolding learn
learn-done v value values x short =
    let t = le-leb (v + length values) (2 ^ 62) short in
    rw t (sym (ap Ok (changes-append (learn_changes v (value ∷ values)) (Last (v + length values) ∷ []) x)))

pub learn-spent : (v : ℕ) (value : List Op) (values : List (List Op)) (x : Course) → 2 ^ 62 < v + length values → learn v (value ∷ values) x ≡ Err which.Version
unfolding learn
learn-spent v value values x above = let t = lt-leb (v + length values) (2 ^ 62) above in rw t refl

pub learn-none : (v : ℕ) (x : Course) → learn v [] x ≡ Ok x
unfolding learn
learn-none v x = refl

pub learned-fit : (v : ℕ) (values : List (List Op)) → AllByRecursion Fits (learn_changes v values)
learned-fit v [] = tt
learned-fit v (value ∷ values) = (tt, learned-fit (suc v) values)

pub records-fit : (v : ℕ) (values : List (List Op)) → AllByRecursion Fits (record_changes v values)
records-fit v [] = tt
records-fit v (value ∷ values) = (tt, records-fit (suc v) values)

pub copies-fit : (entries : List Entry) → AllByRecursion Fits (copy_changes entries)
copies-fit [] = tt
copies-fit (entry ∷ entries) = (tt, copies-fit entries)

-- ---- one value more

pub learned-next : (tx old : List Op) (v i : ℕ) (values : List (List Op)) (value : List Op) → i < length values → value ≡ get_or values i value
    → tx ++ encoded (learn_changes v (drop i values)) ≡ old → (tx ++ ops_of (Learn v value)) ++ encoded (learn_changes (v + 1) (drop (i + 1) values)) ≡ old
learned-next tx old v i values value lt is h =
    let cells : drop i values ≡ value ∷ drop (suc i) values = drop-cons values i value lt ∙ ap (λ x. x ∷ drop (suc i) values) (sym is) in
    rw (add-one, add-one) (append_assoc tx (ops_of (Learn v value)) (encoded (learn_changes (suc v) (drop (suc i) values))) ∙ sym (ap (λ vs. tx ++ encoded (learn_changes v vs)) cells) ∙ h)

pub records-next : (tx old : List Op) (v i : ℕ) (values : List (List Op)) (value : List Op) → i < length values → value ≡ get_or values i value
    → tx ++ encoded (record_changes v (drop i values)) ≡ old → (tx ++ ops_of (Record v value)) ++ encoded (record_changes (v + 1) (drop (i + 1) values)) ≡ old
records-next tx old v i values value lt is h =
    let cells : drop i values ≡ value ∷ drop (suc i) values = drop-cons values i value lt ∙ ap (λ x. x ∷ drop (suc i) values) (sym is) in
    rw (add-one, add-one) (append_assoc tx (ops_of (Record v value)) (encoded (record_changes (suc v) (drop (suc i) values))) ∙ sym (ap (λ vs. tx ++ encoded (record_changes v vs)) cells) ∙ h)

pub copies-next : (tx old : List Op) (i : ℕ) (entries : List Entry) (entry : Entry) → i < length entries → entry ≡ get_or entries i entry
    → tx ++ encoded (copy_changes (drop i entries)) ≡ old → (tx ++ ops_of (Copy entry)) ++ encoded (copy_changes (drop (i + 1) entries)) ≡ old
copies-next tx old i entries entry lt is h =
    let cells : drop i entries ≡ entry ∷ drop (suc i) entries = drop-cons entries i entry lt ∙ ap (λ x. x ∷ drop (suc i) entries) (sym is) in
    rw add-one (append_assoc tx (ops_of (Copy entry)) (encoded (copy_changes (drop (suc i) entries))) ∙ sym (ap (λ es. tx ++ encoded (copy_changes es)) cells) ∙ h)

-- ---- by the number of values

pub learns-empty : (v : ℕ) (values : List (List Op)) → true ≡ eqb (length values) 0 → (x : Course) → learn v values x ≡ Ok (changed (learned v values) x)
learns-empty v [] h x = learn-none v x
learns-empty v (value ∷ values) h x = let none : suc (length values) ≡ 0 = eqb-true (suc (length values)) 0 (sym h) in absurd (omega arith)

pub empty-changes : (v : ℕ) (values : List (List Op)) → true ≡ eqb (length values) 0 → learned v values ≡ []
empty-changes v [] h = refl
empty-changes v (value ∷ values) h = let none : suc (length values) ≡ 0 = eqb-true (suc (length values)) 0 (sym h) in absurd (omega arith)

pub learns-spent : (v : ℕ) (values : List (List Op)) → 1 ≤ v → false ≡ eqb (length values) 0 → 2 ^ 62 < v - 1 + length values → (x : Course) → learn v values x ≡ Err which.Version
learns-spent v [] low h above x = let t : true ≡ false = sym h in absurd cc
learns-spent v (value ∷ values) low h above x = learn-spent v value values x (omega arith)

pub learns-done : (v : ℕ) (values : List (List Op)) → 1 ≤ v → false ≡ eqb (length values) 0 → v - 1 + length values ≤ 2 ^ 62 → (x : Course) → learn v values x ≡ Ok (changed (learned v values) x)
learns-done v [] low h short x = let t : true ≡ false = sym h in absurd cc
learns-done v (value ∷ values) low h short x = learn-done v value values x (omega arith)

pub learns-fit : (v : ℕ) (values : List (List Op)) → 1 ≤ v → v - 1 + length values ≤ 2 ^ 62 → AllByRecursion Fits (learned v values)
learns-fit v [] low short = tt
learns-fit v (value ∷ values) low short = fit-append (learn_changes v (value ∷ values)) (Last (v + length values) ∷ []) (learned-fit v (value ∷ values)) (omega arith, tt)

pub learns-encoded : (old tx new : List Op) (v last : ℕ) (values : List (List Op)) → 1 ≤ v → false ≡ eqb (length values) 0 → last ≡ v - 1 + length values → tx ≡ old ++ encoded (learn_changes v values)
    → new ≡ tx ++ put_number area.Paxos key.LastCommitted last ∷ [] → new ≡ old ++ encoded (learned v values)
learns-encoded old tx new v last [] low h is e f = let t : true ≡ false = sym h in absurd cc
learns-encoded old tx new v last (value ∷ values) low h is e f =
    let n : last ≡ v + length values = omega arith in
    f ∙ ap (λ ops. ops ++ put_number area.Paxos key.LastCommitted last ∷ []) e ∙ append_assoc old (encoded (learn_changes v (value ∷ values))) (put_number area.Paxos key.LastCommitted last ∷ [])
    ∙ ap (λ n. old ++ (encoded (learn_changes v (value ∷ values)) ++ put_number area.Paxos key.LastCommitted n ∷ [])) n
    ∙ ap (λ ops. old ++ ops) (sym (encoded-append (learn_changes v (value ∷ values)) (Last (v + length values) ∷ [])))

-- what isn't at most a number is above it
pub above : (n m : ℕ) → (n ≤ m → false ≡ true) → m < n
above n m fails = elim (cases_lt m n) [ inl lt ↦ lt | inr le ↦ let lost = fails le in absurd cc ]
