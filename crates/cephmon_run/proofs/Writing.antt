-- What is written of a trace, one event after the other.
use Rattle.std.proofs.Common.{◌≡◌, ℕ, zero, suc, ◌+◌, ◌<◌, ◌≤◌, min, get_or, List, [], ◌∷◌, ◌++◌, take, drop, length, Option, None, Result, Ok, Err, refl, sym, ap, ◌∙◌, subst, append_assoc, arith}
use Rattle.std.specs.Io.KnownBytes.{Appends}
use Rattle.std.specs.List.{AllByRecursion}
use Rattle.std.proofs.lemmas.List.{drop_more, drop_all}
use Rattle.std.proofs.KnownBytes.{Appends-nil, Appends-trans}
use Rattle.mon_types.specs.declared.names.Stop.{Stop}
use Rattle.mon_types.specs.declared.names.Stop.TheVariants as outside
use Rattle.mon_link.specs.Whole.{AppendsPrefix}
use Rattle.quorum_model.specs.Monitors.{Monitors}
use Rattle.quorum_model.specs.Happens as happens
use Rattle.quorum_model.specs.Scenes.{Scene, first_scene}
use Rattle.schedule_text.specs.declared.event.Event.{Event}
use Rattle.trace_text.specs.declared.step.StepLine.{StepLine}
use Rattle.trace_text.specs.Trace.{step_lines, end_text}
use Rattle.mon_world.specs.declared.stop.WorldStop.{WorldStop}
use Rattle.mon_world.specs.declared.stop.WorldStop.TheVariants as world_stop
use Rattle.mon_world.specs.declared.world.World.{World}
use Rattle.cephmon_run.specs.declared.replay.ReplayStop.{ReplayStop}
use Rattle.cephmon_run.specs.declared.replay.ReplayStop.TheVariants as stop
use Rattle.mon_world.specs.Step.{step}
use Rattle.cephmon_run.specs.Trace.{Trace, after_lines, goes_on, trace_from}
use Rattle.mon_world.specs.Represented.{Does, Fits, IsWorld, RepresentsScene}
use Rattle.mon_world.specs.Stops.{Stops}
use Rattle.cephmon_run.specs.Replay.{Did, Writes, fault_of}
use Rattle.cephmon_run.proofs.Counting.{others_fit}

-- ---- prefixes

pub front_none : (a : Option (List ℕ)) (bs : List ℕ) → AppendsPrefix a a bs
front_none a bs = (0, Appends-nil a)

take_front : (n : ℕ) (xs ys : List ℕ) → take (min n (length xs)) (xs ++ ys) ≡ take n xs
take_front zero xs ys = let none : min 0 (length xs) ≡ 0 = omega arith in ap (λ (k : ℕ). take k (xs ++ ys)) none
take_front (suc n) [] ys = let none : min (suc n) 0 ≡ 0 = omega arith in ap (λ (k : ℕ). take k ys) none
take_front (suc n) (x ∷ xs) ys =
    let on : min (suc n) (length (x ∷ xs)) ≡ suc (min n (length xs)) = omega arith in
    ap (λ (k : ℕ). take k (x ∷ (xs ++ ys))) on ∙ ap (λ (l : List ℕ). x ∷ l) (take_front n xs ys)

take_more : (n : ℕ) (xs ys : List ℕ) → take (length xs + n) (xs ++ ys) ≡ xs ++ take n ys
take_more n [] ys = let none : 0 + n ≡ n = omega arith in ap (λ (k : ℕ). take k ys) none
take_more n (x ∷ xs) ys =
    let on : length (x ∷ xs) + n ≡ suc (length xs + n) = omega arith in
    ap (λ (k : ℕ). take k (x ∷ (xs ++ ys))) on ∙ ap (λ (l : List ℕ). x ∷ l) (take_more n xs ys)

pub front_first : (a b : Option (List ℕ)) (xs ys : List ℕ) → AppendsPrefix a b xs → AppendsPrefix a b (xs ++ ys)
front_first a b xs ys p = (min p.0 (length xs), subst (Appends a b) (sym (take_front p.0 xs ys)) p.1)

pub front_behind : (a b c : Option (List ℕ)) (xs ys : List ℕ) → Appends a b xs → AppendsPrefix b c ys → AppendsPrefix a c (xs ++ ys)
front_behind a b c xs ys p q = (length xs + q.0, subst (Appends a c) (sym (take_more q.0 xs ys)) (Appends-trans a b c xs _ p q.1))

-- ---- traces

pub writes_behind : (r : Result Unit ReplayStop) (a b c : Option (List ℕ)) (lines : List ℕ) (t : Trace) → Appends a b lines → Writes r b c t → Writes r a c (after_lines lines t)
writes_behind (Ok done) a b c lines t p w = (w.0, Appends-trans a b c lines t.text p w.1)
writes_behind (Err (stop.World (world_stop.Spent which))) a b c lines t p w = (w.0, Appends-trans a b c lines t.text p w.1)
writes_behind (Err (stop.World (world_stop.Full would_be))) a b c lines t p w = (w.0, Appends-trans a b c lines t.text p w.1)
writes_behind (Err stop.WriteFault) a b c lines t p w = front_behind a b c lines t.text p w
writes_behind (Err (stop.World world_stop.OutOfMemory)) a b c lines t p w = front_behind a b c lines t.text p w

-- a prefix of the trace was written before a write failed
pub writes_fault : (s : Stop) (a b : Option (List ℕ)) (t : Trace) → AppendsPrefix a b t.text → Writes (Err (fault_of s)) a b t
writes_fault outside.Failed a b t p = p
writes_fault outside.OutOfMemory a b t p = p

-- ---- an event

-- memory ran out before its lines
pub did_memory : (ms : Monitors) (world : World) (a : Option (List ℕ)) (number : ℕ) (e : Event) (wanted : Result (Scene × StepLine) happens.Stop) → Did ms (Err (stop.World world_stop.OutOfMemory)) world a a number e wanted
did_memory ms world a number e wanted follow = front_none a _

-- the run stopped at it, or memory ran out
pub did_stop : (ms : Monitors) (s : WorldStop) (world : World) (a : Option (List ℕ)) (number : ℕ) (e : Event) (wanted : Result (Scene × StepLine) happens.Stop) → Stops s wanted
    → Did ms (Err (stop.World s)) world a a number e wanted
did_stop ms world_stop.OutOfMemory world a number e wanted fails follow = front_none a _
did_stop ms (world_stop.Spent which) world a number e wanted stops follow =
    subst (λ (r : Result (Scene × StepLine) happens.Stop). Writes (Err (stop.World (world_stop.Spent which))) a a (goes_on number e follow r)) (sym stops) (refl, Appends-nil a)
did_stop ms (world_stop.Full would_be) world a number e wanted stops follow =
    subst (λ (r : Result (Scene × StepLine) happens.Stop). Writes (Err (stop.World (world_stop.Full would_be))) a a (goes_on number e follow r)) (sym stops) (refl, Appends-nil a)

-- a prefix of its lines was written
pub did_fault : (ms : Monitors) (s : Stop) (line : StepLine) (world : World) (a b : Option (List ℕ)) (number : ℕ) (e : Event) (wanted : Result (Scene × StepLine) happens.Stop) (bs : List ℕ)
    → bs ≡ step_lines number e line → Does ms (Ok line) world wanted → AppendsPrefix a b bs → Did ms (Err (fault_of s)) world a b number e wanted
did_fault ms s line world a b number e wanted bs is does p follow =
    let front = front_first a b (step_lines number e line) (follow does.0).text (subst (AppendsPrefix a b) is p) in
    subst (λ (r : Result (Scene × StepLine) happens.Stop). Writes (Err (fault_of s)) a b (goes_on number e follow r)) (sym does.1)
    (writes_fault s a b (after_lines (step_lines number e line) (follow does.0)) front)

-- its lines were written
pub did_write : (ms : Monitors) (line : StepLine) (world : World) (a b : Option (List ℕ)) (number : ℕ) (e : Event) (wanted : Result (Scene × StepLine) happens.Stop) (bs : List ℕ)
    → bs ≡ step_lines number e line → Does ms (Ok line) world wanted → Appends a b bs → Did ms (Ok tt) world a b number e wanted
did_write ms line world a b number e wanted bs is does p = ((does.0, line), does.1, does.2, subst (Appends a b) is p)

-- ---- the events

-- the next event, and that there is none
pub event_of : (es items : List Event) (n : ℕ) (e : Event) → items ≡ es → n < length items → e ≡ get_or items n e → drop n es ≡ e ∷ drop (n + 1) es
event_of es items n e same below is =
    subst (λ (l : List Event). drop n l ≡ e ∷ drop (n + 1) l) same (drop_more items n e below ∙ ap (λ (y : Event). y ∷ drop (n + 1) items) (sym is))

pub none_of : (es items : List Event) (n : ℕ) → items ≡ es → length items ≤ n → drop n es ≡ []
none_of es items n same above = subst (λ (l : List Event). drop n l ≡ []) same (drop_all n items above)

-- This many of the events were done, and written; the others are run too.
pub record ComesTo (ms : Monitors) (world : World) (old now : Option (List ℕ)) (es : List Event) (n : ℕ) : Type 0 where
  next : Scene
  lines : List ℕ
  stands : RepresentsScene ms world next
  put : Appends old now lines
  same : trace_from ms 0 first_scene es ≡ after_lines lines (trace_from ms n next (drop n es))
  fits : AllByRecursion (Fits ms.count) (drop n es)

-- none was done
pub begins : (ms : Monitors) (world : World) (a : Option (List ℕ)) (es : List Event) → RepresentsScene ms world first_scene → AllByRecursion (Fits ms.count) es → ComesTo ms world a a es 0
begins ms world a es stands fits = record { next = first_scene; lines = []; stands = stands; put = Appends-nil a; same = refl; fits = fits }

one_more : (ms : Monitors) (n : ℕ) (c : Scene) (e : Event) (es : List Event) → trace_from ms n c (e ∷ es) ≡ goes_on (suc n) e (λ next. trace_from ms (suc n) next es) (step ms c e)
unfolding trace_from
one_more ms n c e es = refl

behind_behind : (xs ys : List ℕ) (t : Trace) → after_lines xs (after_lines ys t) ≡ after_lines (xs ++ ys) t
behind_behind xs ys t = ap (λ (l : List ℕ). record { text = l; stop = t.stop }) (sym (append_assoc xs ys t.text))

-- the next event is one of the world's schedule
pub next_fits : (ms : Monitors) (world : World) (a b : Option (List ℕ)) (es : List Event) (n : ℕ) (e : Event) → drop n es ≡ e ∷ drop (n + 1) es → ComesTo ms world a b es n
    → Fits (length world.monitors.items) e
next_fits ms world a b es n e rest so_far =
    let fits = subst (λ (es : List Event). AllByRecursion (Fits ms.count) es) rest so_far.fits in
    subst (λ (n : ℕ). Fits n e) (sym so_far.stands.count) fits.0

pub is_world : (ms : Monitors) (world : World) (a b : Option (List ℕ)) (es : List Event) (n : ℕ) → ComesTo ms world a b es n → IsWorld world
is_world ms world a b es n so_far = (ms, so_far.next, so_far.stands)

-- one more event was done
pub comes_on : (ms : Monitors) (world new : World) (a b c : Option (List ℕ)) (es : List Event) (n number : ℕ) (e : Event) → number ≡ suc n → drop n es ≡ e ∷ drop (n + 1) es
    → ComesTo ms world a b es n
    → ((s : Scene) → RepresentsScene ms world s → Did ms (Ok tt) new b c number e (step ms s e))
    → ComesTo ms new a c es (n + 1)
comes_on ms world new a b c es n number e count rest so_far did =
    let d = did so_far.next so_far.stands in
    let m : n + 1 ≡ suc n = omega arith in
    let lines = step_lines number e d.0.1 in
    record {
      next = d.0.0;
      lines = so_far.lines ++ lines;
      stands = d.2;
      put = Appends-trans a b c so_far.lines lines so_far.put d.3;
      same =
          so_far.same ∙ ap (λ (l : List Event). after_lines so_far.lines (trace_from ms n so_far.next l)) rest
          ∙ ap (after_lines so_far.lines) (one_more ms n so_far.next e (drop (n + 1) es)
          ∙ ap (goes_on (suc n) e (λ next. trace_from ms (suc n) next (drop (n + 1) es))) d.1)
          ∙ (λ i. after_lines so_far.lines (after_lines (step_lines (sym count i) e d.0.1) (trace_from ms (sym m i) d.0.0 (drop (n + 1) es))))
          ∙ behind_behind so_far.lines lines (trace_from ms (n + 1) d.0.0 (drop (n + 1) es));
      fits = others_fit ms.count e (drop n es) (drop (n + 1) es) rest so_far.fits;
    }

-- the event stopped, and all of them with it
pub stops_at : (ms : Monitors) (s : ReplayStop) (world new : World) (a b c : Option (List ℕ)) (es : List Event) (n number : ℕ) (e : Event) → number ≡ suc n → drop n es ≡ e ∷ drop (n + 1) es
    → ComesTo ms world a b es n
    → ((t : Scene) → RepresentsScene ms world t → Did ms (Err s) new b c number e (step ms t e))
    → Writes (Err s) a c (trace_from ms 0 first_scene es)
stops_at ms s world new a b c es n number e count rest so_far did =
    let follow = λ (next : Scene). trace_from ms (suc n) next (drop (n + 1) es) in
    let d : Writes (Err s) b c (goes_on (suc n) e follow (step ms so_far.next e)) =
    subst (λ (k : ℕ). Writes (Err s) b c (goes_on k e follow (step ms so_far.next e))) count (did so_far.next so_far.stands follow) in
    let whole = so_far.same ∙ ap (after_lines so_far.lines) (ap (trace_from ms n so_far.next) rest ∙ one_more ms n so_far.next e (drop (n + 1) es)) in
    subst (Writes (Err s) a c) (sym whole) (writes_behind (Err s) a b c so_far.lines _ so_far.put d)

-- the last line, of which something was written
pub ends : (ms : Monitors) (r : Result Unit ReplayStop) (world : World) (a b c : Option (List ℕ)) (es : List Event) (n : ℕ) → drop n es ≡ [] → ComesTo ms world a b es n
    → Writes r b c (record { text = end_text n world.log; stop = None }) → Writes r a c (trace_from ms 0 first_scene es)
unfolding trace_from
ends ms r world a b c es n none so_far w =
    let last : trace_from ms n so_far.next (drop n es) ≡ record { text = end_text n world.log; stop = None } =
    ap (trace_from ms n so_far.next) none ∙ ap (λ (k : ℕ). record { text = end_text n k; stop = None }) (sym so_far.stands.log) in
    subst (Writes r a c) (sym (so_far.same ∙ ap (after_lines so_far.lines) last)) (writes_behind r a b c so_far.lines _ so_far.put w)
