-- What is counted in a run, one event after the other, and how it is reported.
use Rattle.std.proofs.Common.{◌≡◌, ℕ, ◌+◌, false, List, [], ◌∷◌, ◌++◌, drop, length, map, Result, Ok, Err, codes, decimal, refl, sym, ap, subst, ◌∙◌, append_assoc}
use Rattle.std.specs.List.{AllByRecursion}
use Rattle.std.proofs.lemmas.List.{map-append}
use Rattle.serde_json.specs.Data.{Items, number, unsigned}
use Rattle.serde_json.specs.View.{items_of, items_view, view}
use Rattle.serde_json.specs.Written.{compact_text, has_float, items_have_float, items_text}
use Rattle.serde_json.specs.declared.value.Value.{Value}
use Rattle.serde_json.proofs.OnLiterals.{serde_json_on_literals}
use Rattle.quorum_model.specs.Happens as happens
use Rattle.quorum_model.specs.Monitors.{Monitors}
use Rattle.quorum_model.specs.Scenes.{Scene, first_scene}
use Rattle.schedule_text.specs.declared.event.Event.{Event}
use Rattle.trace_text.specs.declared.step.StepLine.{StepLine}
use Rattle.mon_world.specs.Represented.{Does, Fits, IsWorld, RepresentsScene}
use Rattle.mon_world.specs.Step.{step}
use Rattle.mon_world.specs.Stops.{Stops}
use Rattle.mon_world.specs.declared.stop.WorldStop.{WorldStop}
use Rattle.mon_world.specs.declared.stop.WorldStop.TheVariants as world_stop
use Rattle.mon_world.specs.declared.world.World.{World}
use Rattle.cephmon_run.specs.declared.summary.Counts.{Counts}
use Rattle.cephmon_run.specs.Replay.{StopsAs}
use Rattle.cephmon_run.specs.Summary.{AreNumbers, IsLine, and_step, counted_from, counts_on, joined_numbers, line_text, named, no_counts, object_of, summary, summary_line, summed}

-- ---- the events

-- This many of the events were counted; the others are run too.
pub record Counted (ms : Monitors) (world : World) (k : Counts) (es : List Event) (n : ℕ) : Type 0 where
  next : Scene
  pub stands : RepresentsScene ms world next
  same : counted_from ms first_scene no_counts es ≡ counted_from ms next k (drop n es)
  fits : AllByRecursion (Fits ms.count) (drop n es)

-- none was
pub counts_none : (ms : Monitors) (world : World) (es : List Event) → RepresentsScene ms world first_scene → AllByRecursion (Fits ms.count) es → Counted ms world no_counts es 0
counts_none ms world es stands fits = record { next = first_scene; stands = stands; same = refl; fits = fits }

one_more : (ms : Monitors) (c : Scene) (k : Counts) (e : Event) (es : List Event) → counted_from ms c k (e ∷ es) ≡ counts_on (λ next more. counted_from ms next more es) k (step ms c e)
unfolding counted_from
one_more ms c k e es = refl

-- the next event is one of the world's schedule
pub next_fits : (ms : Monitors) (world : World) (k : Counts) (es : List Event) (n : ℕ) (e : Event) → drop n es ≡ e ∷ drop (n + 1) es → Counted ms world k es n
    → Fits (length world.monitors.items) e
next_fits ms world k es n e rest so_far =
    let fits = subst (λ (es : List Event). AllByRecursion (Fits ms.count) es) rest so_far.fits in
    subst (λ (n : ℕ). Fits n e) (sym so_far.stands.count) fits.0

pub is_world : (ms : Monitors) (world : World) (k : Counts) (es : List Event) (n : ℕ) → Counted ms world k es n → IsWorld world
is_world ms world k es n so_far = (ms, so_far.next, so_far.stands)

-- the events after the next one fit too
pub others_fit : (n : ℕ) (e : Event) (rest es : List Event) → rest ≡ e ∷ es → AllByRecursion (Fits n) rest → AllByRecursion (Fits n) es
others_fit n e rest es is fits = (subst (λ (es : List Event). AllByRecursion (Fits n) es) is fits).1

-- one more event was
pub counts_more : (ms : Monitors) (world new : World) (k more : Counts) (line : StepLine) (es : List Event) (n : ℕ) (e : Event) → drop n es ≡ e ∷ drop (n + 1) es
    → Counted ms world k es n → ((c : Scene) → RepresentsScene ms world c → Does ms (Ok line) new (step ms c e)) → more ≡ and_step line k → Counted ms new more es (n + 1)
counts_more ms world new k more line es n e rest so_far does adds =
    let d = does so_far.next so_far.stands in
    record {
      next = d.0;
      stands = d.2;
      same =
          so_far.same ∙ ap (counted_from ms so_far.next k) rest ∙ one_more ms so_far.next k e (drop (n + 1) es)
          ∙ ap (counts_on (λ next more. counted_from ms next more (drop (n + 1) es)) k) d.1
          ∙ ap (λ (k : Counts). counted_from ms d.0 k (drop (n + 1) es)) (sym adds);
      fits = others_fit ms.count e (drop n es) (drop (n + 1) es) rest so_far.fits;
    }

-- what stops the run
stops_with : (s : WorldStop) (events n : ℕ) (follow : Scene → Counts → Result (Scene × Counts) happens.Stop) (k : Counts) (r : Result (Scene × StepLine) happens.Stop) → Stops s r
    → StopsAs s (summed events n (counts_on follow k r)).stop
stops_with world_stop.OutOfMemory events n follow k r stops = tt
stops_with (world_stop.Spent which) events n follow k r stops = ap (λ (r : Result (Scene × StepLine) happens.Stop). (summed events n (counts_on follow k r)).stop) stops
stops_with (world_stop.Full would_be) events n follow k r stops = ap (λ (r : Result (Scene × StepLine) happens.Stop). (summed events n (counts_on follow k r)).stop) stops

-- the event stopped, and the run with it
pub counts_stopped : (ms : Monitors) (s : WorldStop) (world new : World) (k : Counts) (es : List Event) (n : ℕ) (e : Event) → drop n es ≡ e ∷ drop (n + 1) es
    → Counted ms world k es n → ((c : Scene) → RepresentsScene ms world c → Does ms (Err s) new (step ms c e)) → StopsAs s (summary ms es).stop
counts_stopped ms s world new k es n e rest so_far does =
    let follow = λ (next : Scene) (more : Counts). counted_from ms next more (drop (n + 1) es) in
    let whole = so_far.same ∙ ap (counted_from ms so_far.next k) rest ∙ one_more ms so_far.next k e (drop (n + 1) es) in
    subst (λ (r : Result (Scene × Counts) happens.Stop). StopsAs s (summed (length es) ms.count r).stop) (sym whole)
    (stops_with s (length es) ms.count follow k (step ms so_far.next e) (does so_far.next so_far.stands))

-- all were
pub counts_all : (ms : Monitors) (world : World) (k : Counts) (es : List Event) (n : ℕ) (line : List ℕ) → drop n es ≡ [] → Counted ms world k es n
    → ((c : Scene) → RepresentsScene ms world c → line ≡ summary_line (length es) ms.count c k) → IsLine (summary ms es) line
unfolding counted_from
counts_all ms world k es n line none so_far is =
    let whole : counted_from ms first_scene no_counts es ≡ Ok (so_far.next, k) = so_far.same ∙ ap (counted_from ms so_far.next k) none in
    record {
      goes = ap (λ (r : Result (Scene × Counts) happens.Stop). (summed (length es) ms.count r).stop) whole;
      text = ap (λ (r : Result (Scene × Counts) happens.Stop). (summed (length es) ms.count r).text) whole ∙ sym (is so_far.next so_far.stands);
    }

-- ---- its line

abbrev pub numbers_of : List ℕ → Items
numbers_of ns = items_of (map (λ n. number (unsigned n)) ns)

numbers_text : (ns : List ℕ) → items_text false (numbers_of ns) ≡ joined_numbers ns ++ 93 ∷ []
numbers_text [] = refl
numbers_text (n ∷ []) = refl
numbers_text (n ∷ m ∷ ns) =
    ap (λ (l : List ℕ). decimal n ++ 44 ∷ l) (numbers_text (m ∷ ns)) ∙ sym (append_assoc (decimal n) (44 ∷ joined_numbers (m ∷ ns)) (93 ∷ []))

none_float : (ns : List ℕ) → items_have_float (numbers_of ns) ≡ false
none_float [] = refl
none_float (n ∷ ns) = none_float ns

-- ---- the members of the object, up to its end

abbrev stores : Counts → List ℕ → List ℕ
stores k end = 44 ∷ named (codes "stores") (decimal k.stores ++ end)

abbrev sent : Counts → List ℕ → List ℕ
sent k end = 44 ∷ named (codes "sent") (decimal k.sent ++ stores k end)

abbrev replies : Counts → List ℕ → List ℕ
replies k end = 44 ∷ named (codes "replies") (decimal k.replies ++ sent k end)

abbrev logs : ℕ → Counts → List ℕ → List ℕ
logs log k end = 44 ∷ named (codes "log") (decimal log ++ replies k end)

abbrev lasts : Items → ℕ → Counts → List ℕ → List ℕ
lasts last log k end = 44 ∷ named (codes "last") (91 ∷ (items_text false last ++ logs log k end))

then_ends : (front rest out : List ℕ) → rest ++ 10 ∷ [] ≡ out → (front ++ rest) ++ 10 ∷ [] ≡ front ++ out
then_ends front rest out e = append_assoc front rest (10 ∷ []) ∙ ap (λ (l : List ℕ). front ++ l) e

stores_end : (k : Counts) → stores k (125 ∷ []) ++ 10 ∷ [] ≡ stores k (125 ∷ 10 ∷ [])
stores_end k = ap (λ (l : List ℕ). 44 ∷ named (codes "stores") l) (append_assoc (decimal k.stores) (125 ∷ []) (10 ∷ []))

sent_end : (k : Counts) → sent k (125 ∷ []) ++ 10 ∷ [] ≡ sent k (125 ∷ 10 ∷ [])
sent_end k = ap (λ (l : List ℕ). 44 ∷ named (codes "sent") l) (then_ends (decimal k.sent) (stores k (125 ∷ [])) (stores k (125 ∷ 10 ∷ [])) (stores_end k))

replies_end : (k : Counts) → replies k (125 ∷ []) ++ 10 ∷ [] ≡ replies k (125 ∷ 10 ∷ [])
replies_end k = ap (λ (l : List ℕ). 44 ∷ named (codes "replies") l) (then_ends (decimal k.replies) (sent k (125 ∷ [])) (sent k (125 ∷ 10 ∷ [])) (sent_end k))

logs_end : (log : ℕ) (k : Counts) → logs log k (125 ∷ []) ++ 10 ∷ [] ≡ logs log k (125 ∷ 10 ∷ [])
logs_end log k = ap (λ (l : List ℕ). 44 ∷ named (codes "log") l) (then_ends (decimal log) (replies k (125 ∷ [])) (replies k (125 ∷ 10 ∷ [])) (replies_end k))

lasts_end : (last : Items) (log : ℕ) (k : Counts) → lasts last log k (125 ∷ []) ++ 10 ∷ [] ≡ lasts last log k (125 ∷ 10 ∷ [])
lasts_end last log k =
    ap (λ (l : List ℕ). 44 ∷ named (codes "last") (91 ∷ l)) (then_ends (items_text false last) (logs log k (125 ∷ [])) (logs log k (125 ∷ 10 ∷ [])) (logs_end log k))

opened : (events : ℕ) (last : Items) (log : ℕ) (k : Counts) → compact_text (object_of events last log k) ≡ 123 ∷ named (codes "events") (decimal events ++ lasts last log k (125 ∷ []))
unfolding serde_json_on_literals
opened events last log k = refl

-- the object's text and a line feed are the line
pub line_is : (events : ℕ) (ns : List ℕ) (log : ℕ) (k : Counts) → compact_text (object_of events (numbers_of ns) log k) ++ 10 ∷ [] ≡ line_text events ns log k
line_is events ns log k =
    let last = numbers_of ns in
    let end = 125 ∷ 10 ∷ [] in
    ap (λ (l : List ℕ). l ++ 10 ∷ []) (opened events last log k)
    ∙ ap (λ (l : List ℕ). 123 ∷ named (codes "events") l) (then_ends (decimal events) (lasts last log k (125 ∷ [])) (lasts last log k end) (lasts_end last log k))
    ∙ ap (λ (l : List ℕ). 123 ∷ named (codes "events") (decimal events ++ 44 ∷ named (codes "last") (91 ∷ l)))
    (ap (λ (l : List ℕ). l ++ logs log k end) (numbers_text ns) ∙ append_assoc (joined_numbers ns) (93 ∷ []) (logs log k end))

pub no_float : (events : ℕ) (ns : List ℕ) (log : ℕ) (k : Counts) → has_float (object_of events (numbers_of ns) log k) ≡ false
no_float events ns log k = rw (none_float ns) refl

-- as the values are reported
pub numbers_view : (values : List Value) (ns : List ℕ) → AreNumbers values ns → items_view values ≡ numbers_of ns
numbers_view values ns are = ap items_of are

-- one value more
pub numbers_more : (values : List Value) (v : Value) (ns more : List ℕ) (n : ℕ) → AreNumbers values ns → view v ≡ number (unsigned n) → more ≡ ns ++ n ∷ [] → AreNumbers (values ++ v ∷ []) more
numbers_more values v ns more n are is all =
    map-append view values (v ∷ []) ∙ (λ i. are i ++ is i ∷ []) ∙ sym (map-append (λ n. number (unsigned n)) ns (n ∷ []))
    ∙ ap (map (λ n. number (unsigned n))) (sym all)
