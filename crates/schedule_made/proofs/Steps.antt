-- One more event, or round, of those that are to come.
use Rattle.std.proofs.Common.{◌≡◌, ℕ, suc, ◌+◌, ◌-◌, ◌<◌, ◌≤◌, List, [], ◌∷◌, ◌++◌, map, take, sym, ap, ◌∙◌, arith, append_assoc}
use Rattle.std.specs.List.{range_with_len}
use Rattle.std.proofs.lemmas.List.{append-nil}
use Rattle.std.proofs.lemmas.List.FromFn.{map-range_with_len_more}
use Rattle.rand_pcg.specs.Lcg.{Lcg}
use Rattle.schedule_text.specs.declared.event.Event.{Event}
use Rattle.schedule_made.specs.Draws.{passed}
use Rattle.schedule_made.specs.Made.{deliver, deliveries, round, rounds, made_event, made_events}

pub deliveries_more : (first message at : ℕ) → first ≤ message → deliveries first (message + 1 - first) at ≡ deliveries first (message - first) at ++ deliver message at ∷ []
unfolding deliveries
deliveries_more first message at le =
    let n : message + 1 - first ≡ message - first + 1 = omega arith in
    ap (λ k. map (λ m. deliver m at) (range_with_len first k)) n
    ∙ map-range_with_len_more (λ m. deliver m at) first (message - first) message (omega arith)

pub deliveries_none : (first at : ℕ) → deliveries first (first - first) at ≡ []
unfolding deliveries
deliveries_none first at =
    let n : first - first ≡ 0 = omega arith in
    ap (λ k. map (λ m. deliver m at) (range_with_len first k)) n

pub rounds_more : (n j : ℕ) (g : Lcg) → j < n → rounds (n - j) j g ≡ round j g ++ rounds (n - (j + 1)) (j + 1) (passed 5 g)
unfolding rounds
rounds_more n j g lt =
    let left : n - j ≡ suc (n - (j + 1)) = omega arith in
    let next : suc j ≡ j + 1 = omega arith in
    ap (λ k. rounds k j g) left ∙ ap (λ k. round j g ++ rounds (n - (j + 1)) k (passed 5 g)) next

pub rounds_none : (n j : ℕ) (g : Lcg) → n ≤ j → rounds (n - j) j g ≡ []
unfolding rounds
rounds_none n j g le = let none : n - j ≡ 0 = omega arith in ap (λ k. rounds k j g) none

pub made_events_more : (n i next : ℕ) (g : Lcg) → i < n → made_events (n - i) i next g ≡ (made_event i next g).event ∷ made_events (n - (i + 1)) (i + 1) (made_event i next g).next (passed (made_event i next g).draws g)
unfolding made_events
made_events_more n i next g lt =
    let left : n - i ≡ suc (n - (i + 1)) = omega arith in
    let more : suc i ≡ i + 1 = omega arith in
    ap (λ k. made_events k i next g) left
    ∙ ap (λ k. (made_event i next g).event ∷ made_events (n - (i + 1)) k (made_event i next g).next (passed (made_event i next g).draws g)) more

pub made_events_none : (n i next : ℕ) (g : Lcg) → n ≤ i → made_events (n - i) i next g ≡ []
unfolding made_events
made_events_none n i next g le = let none : n - i ≡ 0 = omega arith in ap (λ k. made_events k i next g) none

-- ---- loops over what is to come, of which this many events count

module _ (most : ℕ) (whole before : List Event) where
  pub rounds_step : (j : ℕ) (after : List Event) (g h : Lcg) → j < most
      → take most whole ≡ take most (before ++ rounds (most - j) j g) → after ≡ before ++ round j g → h ≡ passed 5 g
      → take most whole ≡ take most (after ++ rounds (most - (j + 1)) (j + 1) h)
  rounds_step j after g h lt so_far adds passes =
      so_far
      ∙ ap (λ l. take most (before ++ l)) (rounds_more most j g lt)
      ∙ ap (take most) (sym (append_assoc before (round j g) (rounds (most - (j + 1)) (j + 1) (passed 5 g))))
      ∙ (λ i. take most (sym adds i ++ rounds (most - (j + 1)) (j + 1) (sym passes i)))

  pub rounds_end : (j : ℕ) (g : Lcg) → most ≤ j → take most whole ≡ take most (before ++ rounds (most - j) j g) → take most before ≡ take most whole
  rounds_end j g le so_far = sym (so_far ∙ ap (λ l. take most (before ++ l)) (rounds_none most j g le) ∙ ap (take most) (append-nil before))

  pub made_events_step : (n i next : ℕ) (event : Event) (after : List Event) (g h : Lcg) (later : ℕ) → i < n
      → take most whole ≡ take most (before ++ made_events (n - i) i next g)
      → event ≡ (made_event i next g).event → after ≡ before ++ event ∷ [] → h ≡ passed (made_event i next g).draws g → later ≡ (made_event i next g).next
      → take most whole ≡ take most (after ++ made_events (n - (i + 1)) (i + 1) later h)
  made_events_step n i next event after g h later lt so_far is adds passes nexts =
      so_far
      ∙ ap (λ l. take most (before ++ l)) (made_events_more n i next g lt)
      ∙ ap (take most) (sym (append_assoc before ((made_event i next g).event ∷ []) (made_events (n - (i + 1)) (i + 1) (made_event i next g).next (passed (made_event i next g).draws g))))
      ∙ (λ k. take most (sym (adds ∙ ap (λ e. before ++ e ∷ []) is) k ++ made_events (n - (i + 1)) (i + 1) (sym nexts k) (sym passes k)))

  pub made_events_end : (n i next : ℕ) (g : Lcg) → n ≤ i → take most whole ≡ take most (before ++ made_events (n - i) i next g) → take most before ≡ take most whole
  made_events_end n i next g le so_far = sym (so_far ∙ ap (λ l. take most (before ++ l)) (made_events_none n i next g le) ∙ ap (take most) (append-nil before))
