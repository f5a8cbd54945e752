-- What a shown map is serialized to.
use Rattle.std.proofs.Common.{◌≡◌, ℕ, List, [], ◌∷◌, ◌++◌, length, true, false, Some, None, Result, Ok, Err, OnOk, decimal, inl, inr, refl, ap, sym, ◌∙◌, subst, arith, append_assoc, ◌+◌, ◌<◌, ◌≤◌, drop, get_or}
use Rattle.std.proofs.lemmas.Grind.{common_steps}
use Rattle.std.proofs.lemmas.List.{drop_more, drop_all}
use Rattle.std.specs.FinMap.{entries, len}
use Rattle.std.specs.Prelude.{is_ok, if◌then◌else◌}
use Rattle.json.specs.Lex.{tokens}
use Rattle.json.specs.Print.{quoted, print_from, print}
use Rattle.json.specs.Token.{Token, begin_object, end_object, begin_array, end_array, key, string, number}
use Rattle.map_log.specs.declared.inc.LogInc.{LogInc}
use Rattle.mon_wire.specs.declared.reply.ShownMap.{ShownMap}
use Rattle.mon_wire.specs.declared.reply.ShownMap.TheVariants.{Kv, Log}
use Rattle.serde.specs.Event as serde
use Rattle.serde.specs.Event.{Event, Logs, map_ends, seq_ends}
use Rattle.serde.specs.declared.name.NameKind.TheVariants.{Field}
use Rattle.serde.proofs.Spellings.{spelled-AsIs}
use Rattle.serde_json.specs.Sent.{State, start, Takes, TakesAll, IsTextOf}
use Rattle.serde_json.proofs.FreeTexts.{tokens_by}
use Rattle.trace_text.specs.Shown.{AllLogged, members_text, object_text, items_text, array_text, shown_text, members_events, item_events, items_events, shown_events}

-- ---- the tokens of its text

abbrev members_tokens : List (List ℕ × List ℕ) → List Token
members_tokens [] = end_object ∷ []
members_tokens (member ∷ members) = key member.0 ∷ string member.1 ∷ members_tokens members

abbrev items_tokens : List LogInc → List Token
items_tokens [] = end_array ∷ []
items_tokens (inc ∷ incs) = begin_array ∷ number (decimal inc.rank) ∷ string inc.text ∷ end_array ∷ items_tokens incs

abbrev shown_tokens : ShownMap → List Token
shown_tokens (Kv map) = begin_object ∷ members_tokens (entries map)
shown_tokens (Log incs) = begin_array ∷ items_tokens incs

-- a text and a byte, before a text and more
between : (a b c : List ℕ) (n : ℕ) → (a ++ n ∷ []) ++ (b ++ c) ≡ (a ++ n ∷ b) ++ c
between a b c n = append_assoc a (n ∷ []) (b ++ c) ∙ sym (append_assoc a (n ∷ b) c)

members : (ms : List (List ℕ × List ℕ)) → print_from true (members_tokens ms) ≡ members_text ms
unfolding print_from
members [] = refl
members (m ∷ ms) = ap (λ l. 44 ∷ ((quoted m.0 ++ 58 ∷ []) ++ (quoted m.1 ++ l))) (members ms) ∙ ap (λ l. 44 ∷ l) (between (quoted m.0) (quoted m.1) (members_text ms) 58)

object : (ms : List (List ℕ × List ℕ)) → 123 ∷ print_from false (members_tokens ms) ≡ object_text ms
unfolding print_from
object [] = refl
object (m ∷ ms) = ap (λ l. 123 ∷ ((quoted m.0 ++ 58 ∷ []) ++ (quoted m.1 ++ l))) (members ms) ∙ ap (λ l. 123 ∷ l) (between (quoted m.0) (quoted m.1) (members_text ms) 58)

-- an item's fields, before more
fields : (d s more : List ℕ) → d ++ 44 ∷ (s ++ 93 ∷ more) ≡ (d ++ 44 ∷ (s ++ 93 ∷ [])) ++ more
fields d s more = sym (append_assoc d (44 ∷ (s ++ 93 ∷ [])) more ∙ ap (λ l. d ++ 44 ∷ l) (append_assoc s (93 ∷ []) more))

items : (incs : List LogInc) → print_from true (items_tokens incs) ≡ items_text incs
unfolding print_from
items [] = refl
items (inc ∷ incs) = ap (λ l. 44 ∷ 91 ∷ (decimal inc.rank ++ 44 ∷ (quoted inc.text ++ 93 ∷ l))) (items incs) ∙ ap (λ l. 44 ∷ 91 ∷ l) (fields (decimal inc.rank) (quoted inc.text) (items_text incs))

array : (incs : List LogInc) → 91 ∷ print_from false (items_tokens incs) ≡ array_text incs
unfolding print_from
array [] = refl
array (inc ∷ incs) = ap (λ l. 91 ∷ 91 ∷ (decimal inc.rank ++ 44 ∷ (quoted inc.text ++ 93 ∷ l))) (items incs) ∙ ap (λ l. 91 ∷ 91 ∷ l) (fields (decimal inc.rank) (quoted inc.text) (items_text incs))

printed : (shown : ShownMap) → print (shown_tokens shown) ≡ shown_text shown
unfolding print_from
printed (Kv map) = object (entries map)
printed (Log incs) = array incs

-- ---- the tokens of its events

-- no key is due, and nothing is flattened
abbrev IsPlain : State → Type 0
IsPlain s = (s.at_key ≡ false) × (s.flattens ≡ false) × (s.flat ≡ [])

abbrev Added : State → List Token → State → Type 0
Added old ts new = IsPlain new × (new.tokens ≡ old.tokens ++ ts)

ended : (s m : State) → IsPlain s → Takes s map_ends m → m.tokens ≡ s.tokens ++ end_object ∷ []
ended s m plain step = elim step [
  | inl flat ↦ absurd (grind (arith, common_steps, flat.1, plain.2))
  | inr braced ↦ grind (arith, common_steps, braced.1)
]

keyed : (s m : State) (name : List ℕ) → IsPlain s → Takes s (serde.field_key name Rattle.serde.specs.declared.name.Case.TheVariants.AsIs) m → Added s (key name ∷ []) m
keyed s m name plain step = subst (λ (n : List ℕ). Added s (key n ∷ []) m) (spelled-AsIs Field name) (grind (arith, common_steps, step))

told : (s m : State) (t : List ℕ) → IsPlain s → Takes s (serde.text t) m → Added s (string t ∷ []) m
told s m t plain step = grind (arith, common_steps, step.1)

counted : (s m : State) (n : ℕ) → IsPlain s → Takes s (serde.unsigned n) m → Added s (number (decimal n) ∷ []) m
counted s m n plain step = grind (arith, common_steps, step.1.1)

opened_seq : (s m : State) (n : ℕ) → IsPlain s → Takes s (serde.seq_begins (Some n)) m → Added s (begin_array ∷ []) m
opened_seq s m n plain step = grind (arith, common_steps, step.1.1)

ended_seq : (s m : State) → IsPlain s → Takes s serde.seq_ends m → Added s (end_array ∷ []) m
ended_seq s m plain step = grind (arith, common_steps, step)

opened_map : (s m : State) (n : ℕ) → IsPlain s → Takes s (serde.map_begins (Some n)) m → Added s (begin_object ∷ []) m
opened_map s m n plain step = grind (arith, common_steps, step.1)

after : (s m : State) (ts us all : List Token) → Added s ts m → all ≡ m.tokens ++ us → all ≡ s.tokens ++ (ts ++ us)
after s m ts us all first more = more ∙ ap (λ xs. xs ++ us) first.1 ∙ append_assoc s.tokens ts us

members_run : (ms : List (List ℕ × List ℕ)) (s last : State) → IsPlain s → TakesAll s (members_events ms) last → last.tokens ≡ s.tokens ++ members_tokens ms
members_run [] s last plain run = ap (λ (x : State). x.tokens) run.2 ∙ ended s run.0 plain run.1
members_run (m ∷ ms) s last plain run =
    let k = keyed s run.0 m.0 plain run.1 in
    let t = told run.0 run.2.0 m.1 k.0 run.2.1 in
    after s run.0 (key m.0 ∷ []) (string m.1 ∷ members_tokens ms) last.tokens k
    (after run.0 run.2.0 (string m.1 ∷ []) (members_tokens ms) last.tokens t (members_run ms run.2.0 last t.0 run.2.2))

items_run : (incs : List LogInc) (s last : State) → IsPlain s → TakesAll s (items_events incs) last → last.tokens ≡ s.tokens ++ items_tokens incs
items_run [] s last plain run = ap (λ (x : State). x.tokens) run.2 ∙ (ended_seq s run.0 plain run.1).1
items_run (inc ∷ incs) s last plain run =
    let b = opened_seq s run.0 2 plain run.1 in
    let n = counted run.0 run.2.0 inc.rank b.0 run.2.1 in
    let t = told run.2.0 run.2.2.0 inc.text n.0 run.2.2.1 in
    let e = ended_seq run.2.2.0 run.2.2.2.0 t.0 run.2.2.2.1 in
    after s run.0 (begin_array ∷ []) (number (decimal inc.rank) ∷ string inc.text ∷ end_array ∷ items_tokens incs) last.tokens b
    (after run.0 run.2.0 (number (decimal inc.rank) ∷ []) (string inc.text ∷ end_array ∷ items_tokens incs) last.tokens n
    (after run.2.0 run.2.2.0 (string inc.text ∷ []) (end_array ∷ items_tokens incs) last.tokens t
    (after run.2.2.0 run.2.2.2.0 (end_array ∷ []) (items_tokens incs) last.tokens e (items_run incs run.2.2.2.0 last e.0 run.2.2.2.2))))

at_start : IsPlain (start false)
at_start = (refl, refl, refl)

shown_run : (shown : ShownMap) (last : State) → TakesAll (start false) (shown_events shown) last → last.tokens ≡ shown_tokens shown
shown_run (Kv map) last run =
    let o = opened_map (start false) run.0 (len map) at_start run.1 in
    after (start false) run.0 (begin_object ∷ []) (members_tokens (entries map)) last.tokens o (members_run (entries map) run.0 last o.0 run.2)
shown_run (Log incs) last run =
    let o = opened_seq (start false) run.0 (length incs) at_start run.1 in
    after (start false) run.0 (begin_array ∷ []) (items_tokens incs) last.tokens o (items_run incs run.0 last o.0 run.2)

-- A text of the events of a shown map is the text of that map.
pub text_is : (shown : ShownMap) (log : serde.Log) (bytes : List ℕ) → AllLogged (Some []) log (shown_events shown) → IsTextOf log bytes → bytes ≡ shown_text shown
text_is shown log bytes known h =
    let same = tokens_by false (shown_events shown) log (tokens bytes) (shown_tokens shown) known h.0 (λ s run. shown_run shown s run) in
    h.1 ∙ ap print same ∙ printed shown

-- ---- events that follow one another

-- the log so far, with the events `left` that are still to come, is the log before with all events
abbrev pub Still : serde.Log → serde.Log → List Event → List Event → Type 0
Still None now left all = Unit {0}
Still (Some before) None left all = ⊥
Still (Some before) (Some so_far) left all = so_far ++ left ≡ before ++ all

pub begun : (log : serde.Log) (all : List Event) → Still log log all all
begun None all = tt
begun (Some before) all = refl

pub moved : (first now next : serde.Log) (one left all : List Event) → AllLogged now next one → Still first now (one ++ left) all → Still first next left all
moved None now next one left all step still = tt
moved (Some before) None next one left all step still = absurd still
moved (Some before) (Some so_far) next one left all step still = subst (λ (l : serde.Log). Still (Some before) l left all) (sym step) (append_assoc so_far one left ∙ still)

pub finished : (first now last : serde.Log) (e : Event) (all : List Event) → Logs now last e → Still first now (e ∷ []) all → AllLogged first last all
finished None now last e all step still = tt
finished (Some before) None last e all step still = absurd still
finished (Some before) (Some so_far) last e all step still = step ∙ ap Some still

-- one after another
pub one_after : (first now last : serde.Log) (e : Event) (es : List Event) → Logs first now e → AllLogged now last es → AllLogged first last (e ∷ es)
one_after None now last e es step more = tt
one_after (Some before) now last e es step more = let m = subst (λ (l : serde.Log). AllLogged l last es) step more in m ∙ ap Some (append_assoc before (e ∷ []) es)

pub just_one : (first last : serde.Log) (e : Event) → Logs first last e → AllLogged first last (e ∷ [])
just_one None last e step = tt
just_one (Some before) last e step = step

-- ---- what holds after Ok

pub on_ok : {T E A B : Type 0} (r : Result T E) → (A → B) → OnOk r A → OnOk r B
on_ok (Ok x) then_so h = then_so h
on_ok (Err e) then_so h = tt

pub pushed : {T E : Type 0} (r : Result T E) (new old more : List ℕ) → new ≡ (if is_ok r then old ++ more else old) → OnOk r (new ≡ old ++ more)
pushed (Ok x) new old more h = h
pushed (Err e) new old more h = tt

-- ---- what is left of a loop

-- an item, and those after it
pub next_item : (incs : List LogInc) (n : ℕ) (inc : LogInc) → n < length incs → inc ≡ get_or incs n inc → items_events (drop n incs) ≡ item_events inc ++ items_events (drop (n + 1) incs)
next_item incs n inc below is = ap items_events (drop_more incs n inc below ∙ ap (λ (i : LogInc). i ∷ drop (n + 1) incs) (sym is))

pub no_item : (incs : List LogInc) (n : ℕ) → length incs ≤ n → items_events (drop n incs) ≡ seq_ends ∷ []
no_item incs n above = ap items_events (drop_all n incs above)

-- a loop that has only one event to log ends with all events logged
pub all_done : {T E : Type 0} (r : Result T E) (first now last : serde.Log) (e : Event) (left all : List Event) → left ≡ e ∷ [] → OnOk r (Logs now last e) → Still first now left all → OnOk r (AllLogged first last all)
all_done r first now last e left all none step still = on_ok r (λ h. finished first now last e all h (subst (λ (l : List Event). Still first now l all) none still)) step

-- an iteration of a loop logs some events, and others are still to be logged
pub one_done : (first now next : serde.Log) (one left rest all : List Event) → left ≡ one ++ rest → AllLogged now next one → Still first now left all → Still first next rest all
one_done first now next one left rest all some step still = moved first now next one rest all step (subst (λ (l : List Event). Still first now l all) some still)

-- a beginning, and what follows
pub begun_so : {T E : Type 0} (r : Result T E) (first now last : serde.Log) (e f : Event) (es fs : List Event) → e ≡ f → es ≡ fs → Logs first now e → OnOk r (AllLogged now last es) → OnOk r (AllLogged first last (f ∷ fs))
begun_so r first now last e f es fs same sames step more =
    on_ok r (λ h. subst (λ (l : List Event). AllLogged first last (f ∷ l)) sames (one_after first now last f es (subst (λ (x : Event). Logs first now x) same step) h)) more
