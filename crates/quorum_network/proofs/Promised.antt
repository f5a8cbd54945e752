-- One log, of which all maps of a network are, now and later, and who leads.
use Rattle.law_names.proofs.Runs.{Acknowledged, AcknowledgedOnce, Acknowledgement, Agrees, AllFit, Asked, Event, IsAsked, IsKeptIn, Monitors, Safe, World, is_marked, last_of, me_of, run}
use Rattle.law_names.proofs.Table.{AllByRecursion, Contains, State, Store, epoch_of, fold, readings_of}
use Rattle.log_model.proofs.Lists.{of_all}
use Rattle.log_model.proofs.Logs.{IsPrefixOf, entry_stays, fold_stays}
use Rattle.quorum_agreement.proofs.Every.{agrees}
use Rattle.quorum_agreement.proofs.SafeWorlds.{safe}
use Rattle.quorum_model.proofs.Reached.{world_is}
use Rattle.quorum_model.specs.Kept.{LeaderHas}
use Rattle.quorum_model.specs.Safe.{OneActive}
use Rattle.quorum_network.proofs.Adding.{given, noted_as}
use Rattle.quorum_network.proofs.Assembled.{assembly}
use Rattle.quorum_network.proofs.Going.{goes_on, grown_log}
use Rattle.quorum_network.proofs.Leading.{IsNoted, noted}
use Rattle.quorum_network.proofs.Letters.{AreLetters, Letter}
use Rattle.quorum_network.proofs.Names.{AllMay, Down, IsLogOf, Leadership, Network, Process, Step, Up, acknowledgements, leaderships, led_at, map_of, may_before, network, requests}
use Rattle.quorum_network.proofs.Whole.{Stands, asked_among, facts, of_run, stands}
use Rattle.quorum_network.specs.Network.{state_of}
use Rattle.quorum_network.specs.Promises.{AgreeWith, IsKeptBy, Leads}
use Rattle.quorum_network.specs.Running.{IsOfRun}
use Rattle.quorum_walk.proofs.Lists.{all_map}
use Rattle.std.proofs.Common.{List, Option, Some, [], ap, arith, length-append, map, refl, subst, suc, sym, true, zero, ℕ, ◌++◌, ◌<◌, ◌∙◌, ◌∷◌, ◌≡◌}
use Rattle.std.proofs.lemmas.List.Elements.{Contains-append_left}
use Rattle.std.proofs.lemmas.List.{get_or_append_left}

-- ---- what a run says of its log

-- of the model's acknowledgements and of the network's
all_given : (P : Acknowledgement → Type 0) (xs : List Acknowledged) → AllByRecursion (λ (a : Acknowledged). P (given a)) xs → AllByRecursion P (map given xs)
all_given P [] h = tt
all_given P (x ∷ xs) h = (h.0, all_given P xs h.1)

noted_among : (xs : List Leadership) (a : Leadership) → Contains xs a → Contains (map noted_as xs) (a.epoch, a.rank)
noted_among [] a (k, lt, e) = absurd (omega (arith, lt))
noted_among (x ∷ xs) a (zero, lt, e) = (0, omega arith, ap noted_as e)
noted_among (x ∷ xs) a (suc k, lt, e) = let c = noted_among xs a (k, omega (arith, lt), e) in (suc c.0, omega (arith, c.1), c.2)

led_as : (xs : List Leadership) (i e : ℕ) → Contains (map noted_as xs) (e, i) → Contains xs (record { rank = i; epoch = e })
led_as [] i e (k, lt, is) = absurd (omega (arith, lt))
led_as (x ∷ xs) i e (zero, lt, is) = (0, omega arith, ap (λ (p : ℕ × ℕ). record { rank = p.1; epoch = p.0 }) is)
led_as (x ∷ xs) i e (suc k, lt, is) = let c = led_as xs i e (k, omega (arith, lt), is) in (suc c.0, omega (arith, c.1), c.2)

given_once : (xs : List Acknowledged) → AcknowledgedOnce (λ (a : Acknowledged). a.what.version) xs → AcknowledgedOnce (λ (a : Acknowledgement). a.version) (map given xs)
given_once [] h = tt
given_once (x ∷ xs) h = (all_given (λ (b : Acknowledgement). ¬ (b.version ≡ x.what.version)) xs h.0, given_once xs h.1)

module _ (ms : Monitors) (asks : List Asked) (net : Network) (es : List Event) (F : AllFit ms.count es) (I : IsOfRun ms net (run ms es)) (asked : AllByRecursion (λ a. Contains asks a) (run ms es).asked) where
  abbrev w : World
  w = run ms es

  abbrev all_acks : List Acknowledgement
  all_acks = map given w.acknowledged

  abbrev S : Safe ms es
  S = safe ms es F

  value_asked : (v : ℕ) → IsAsked ms.count w.asked w.log v → IsAsked ms.count asks w.log v
  value_asked v A = record { by = A.by; was_asked = of_all (λ a. Contains asks a) w.asked asked A.by A.was_asked; rank = A.rank; command = A.command; is = A.is; form = A.form; ops = A.ops; made = A.made; has_text = A.has_text; encodes = A.encodes }

  leader_has : (a : Acknowledgement) (i : ℕ) (lt : i < ms.count) (p : Process) → net.process i ≡ p → LeaderHas a (w.state i) (w.store i) → LeaderHas a (state_of p) (map_of p)
  leader_has a i lt (Down m) e h = tt
  leader_has a i lt (Up s) e h =
      let state = I.states i s lt e in
      let store : w.store i ≡ s.node.store.kv = sym (I.maps i lt) ∙ ap map_of e in
      subst (λ (m : Store). LeaderHas a (Some s.node.state) m) store (subst (λ (x : Option State). LeaderHas a x (w.store i)) state h)

  kept_is : (a : Acknowledged) → IsKeptIn ms.count w a → IsKeptBy ms.count net w.log (given a)
  kept_is a k = record { some = k.some; within = k.within; put = k.put; leaders = λ i lt. leader_has (given a) i lt (net.process i) refl (k.leaders i lt) }

  is_log : IsLogOf ms asks all_acks net w.log
  is_log = record {
    values = λ v lt. value_asked v ((agrees ms es F).values v lt);
    maps = λ i lt ne. subst (Agrees w.log) (sym (I.maps i lt)) ((agrees ms es F).monitors i lt (λ t. ne (subst (λ (m : Store). is_marked m ≡ true) (sym (I.maps i lt)) t)));
    kept = all_given (IsKeptBy ms.count net w.log) w.acknowledged (all_map (IsKeptIn ms.count w) (λ (a : Acknowledged). IsKeptBy ms.count net w.log (given a)) kept_is w.acknowledged S.kept.each);
    once = given_once w.acknowledged S.kept.once;
  }

-- ---- at two points of time

module _ (ms : Monitors) (asks : List Asked) (acks : List Acknowledgement) (leads : List Leadership) (net : Network) (S : Stands assembly ms asks acks leads net) where
  abbrev pub world : World
  world = run ms S.reach.events

  pub acks_are : map given world.acknowledged ≡ acks
  acks_are = ap (λ (w : World). map given w.acknowledged) (world_is ms S.w S.reach) ∙ S.given_are

  runs_so : IsOfRun ms net world
  runs_so = subst (IsOfRun ms net) (sym (world_is ms S.w S.reach)) (of_run assembly ms net S.w S.inv)

  pub asked_so : AllByRecursion (λ a. Contains asks a) world.asked
  asked_so = asked_among asks world.asked (ap (λ (w : World). w.asked) (world_is ms S.w S.reach) ∙ S.asked)

  pub stands_log : IsLogOf ms asks acks net world.log
  stands_log = subst (λ (xs : List Acknowledgement). IsLogOf ms asks xs net world.log) acks_are
      (is_log ms asks net S.reach.events S.reach.fit runs_so asked_so)

  -- some of the letters
  pub some_letters : (ls : List Letter) → ((l : Letter) → Contains ls l → Contains S.inv.ls l) → AreLetters ls
  some_letters ls among = record {
    cut = λ l c. S.inv.letters.cut l (among l c);
    numbered = λ l k c d long longer by boots seqs. S.inv.letters.numbered l k (among l c) (among k d) long longer by boots seqs;
  }

-- ---- two maps

log_prefix : (log more : List (List ℕ)) → IsPrefixOf log (log ++ more)
log_prefix log more = record { short = omega (arith, length-append log more); same = λ i h. get_or_append_left log more [] i h }

two_agree : (log more : List (List ℕ)) (a b : Store) → (¬ (is_marked a ≡ true) → Agrees log a) → (¬ (is_marked b ≡ true) → Agrees (log ++ more) b) → AgreeWith a b
two_agree log more a b A B = record {
  versions = λ v k l.
      let x = A k.unmarked in
      let y = B l.unmarked in
      let at = k.to in
      let within = x.within in
      x.records v k.from k.to ∙ ap (λ (z : List ℕ). Some z) (sym (entry_stays {log = log} {more = log ++ more} (log_prefix log more) v (omega arith))) ∙ sym (y.records v l.from l.to);
  contents = λ p q same.
      let x = A p in
      let y = B q in
      let within = x.within in
      x.folded ∙ sym (fold_stays {log = log} {more = log ++ more} (log_prefix log more) (last_of a) (omega arith)) ∙ ap (fold (log ++ more)) same ∙ sym y.folded;
}

pub maps_agree : (ms : Monitors) (later earlier : List Step) → AllMay ms (later ++ earlier) → (i j : ℕ) → i < ms.count → j < ms.count
    → AgreeWith (map_of ((network ms earlier).process i)) (map_of ((network ms (later ++ earlier)).process j))
maps_agree ms later earlier may i j lt more =
    let asks : List Asked = requests ms (later ++ earlier) in
    let acks : List Acknowledgement = acknowledgements ms (later ++ earlier) in
    let leads : List Leadership = leaderships ms (later ++ earlier) in
    let net : Network = network ms (later ++ earlier) in
    let G = goes_on assembly ms (facts ms) later earlier may in
    let B = stands assembly ms (facts ms) earlier (may_before ms later earlier may) in
    let T = stands assembly ms (facts ms) (later ++ earlier) may in
    let up = grown_log assembly ms (requests ms earlier) asks (acknowledgements ms earlier) acks (leaderships ms earlier) leads (network ms earlier) net B T G in
    let before = stands_log ms (requests ms earlier) (acknowledgements ms earlier) (leaderships ms earlier) (network ms earlier) B in
    let after = subst (IsLogOf ms asks acks net) up.is (stands_log ms asks acks leads net T) in
    two_agree (run ms B.reach.events).log up.more (map_of ((network ms earlier).process i)) (map_of (net.process j)) (λ ne. before.maps i lt ne) (λ ne. after.maps j more ne)

-- ---- leaders

module _ (ms : Monitors) (asks : List Asked) (acks : List Acknowledgement) (leads : List Leadership) (net : Network) (S : Stands assembly ms asks acks leads net) where
  noted_leads : (i e : ℕ) → i < ms.count → Leads net i e → Contains S.w.active (e, i)
  noted_leads i e lt L =
      let I = of_run assembly ms net S.w S.inv in
      let map : S.w.store i ≡ L.serving.node.store.kv = sym (I.maps i lt) ∙ ap map_of L.up in
      let state : S.w.state i ≡ Some L.serving.node.state = I.states i L.serving lt L.up in
      let here : Contains S.w.active (epoch_of (readings_of (S.w.store i)), i) = subst (IsNoted S.w.active i (S.w.store i)) state (noted ms S.w S.reach i) L.active in
      subst (λ (k : ℕ). Contains S.w.active (k, i)) (ap (λ (m : Store). epoch_of (readings_of m)) map ∙ L.epoch) here

  leads_among : (i e : ℕ) → i < ms.count → Leads net i e → Contains leads (record { rank = i; epoch = e })
  leads_among i e lt L = led_as leads i e (subst (λ (xs : List (ℕ × ℕ)). Contains xs (e, i)) S.active (noted_leads i e lt L))

  one_active : OneActive S.w
  one_active = subst OneActive (world_is ms S.w S.reach) (safe ms S.reach.events S.reach.fit).one_active

  one_leader : (a b : Leadership) → Contains leads a → Contains leads b → a.epoch ≡ b.epoch → a.rank ≡ b.rank
  one_leader a b c d e =
      let here : (x : Leadership) → Contains leads x → Contains S.w.active (x.epoch, x.rank) = λ x k. subst (λ (xs : List (ℕ × ℕ)). Contains xs (x.epoch, x.rank)) (sym S.active) (noted_among leads x k) in
      one_active a.epoch a.rank b.rank (here a c) (subst (λ (k : ℕ). Contains S.w.active (k, b.rank)) (sym e) (here b d))

pub leads_are : (ms : Monitors) (steps : List Step) → AllMay ms steps → (i e : ℕ) → i < ms.count → Leads (network ms steps) i e → Contains (leaderships ms steps) (record { rank = i; epoch = e })
leads_are ms steps may i e lt L = leads_among ms (requests ms steps) (acknowledgements ms steps) (leaderships ms steps) (network ms steps) (stands assembly ms (facts ms) steps may) i e lt L

pub one_leads : (ms : Monitors) (steps : List Step) → AllMay ms steps → (a b : Leadership) → Contains (leaderships ms steps) a → Contains (leaderships ms steps) b → a.epoch ≡ b.epoch → a.rank ≡ b.rank
one_leads ms steps may a b c d e = one_leader ms (requests ms steps) (acknowledgements ms steps) (leaderships ms steps) (network ms steps) (stands assembly ms (facts ms) steps may) a b c d e

-- who led stays among those who led
leads_stay : (ms : Monitors) (later earlier : List Step) (a : Leadership) → Contains (leaderships ms earlier) a → Contains (leaderships ms (later ++ earlier)) a
unfolding leaderships
leads_stay ms [] earlier a c = c
leads_stay ms (s ∷ later) earlier a c = Contains-append_left (leaderships ms (later ++ earlier)) (led_at (network ms (later ++ earlier)) s (me_of ms s.rank)) a (leads_stay ms later earlier a c)

pub two_lead : (ms : Monitors) (later earlier : List Step) → AllMay ms (later ++ earlier) → (i j e : ℕ) → i < ms.count → j < ms.count
    → Leads (network ms earlier) i e → Leads (network ms (later ++ earlier)) j e → i ≡ j
two_lead ms later earlier may i j e lt more L M =
    one_leads ms (later ++ earlier) may (record { rank = i; epoch = e }) (record { rank = j; epoch = e })
    (leads_stay ms later earlier (record { rank = i; epoch = e }) (leads_are ms earlier (may_before ms later earlier may) i e lt L))
    (leads_are ms (later ++ earlier) may j e more M) refl
