-- What clients were answered stays answered.
use Rattle.law_names.proofs.Runs.{Arrives, Down, Event, Full, Meeting, Monitors, NoMessage, Plain, Reacts, Replied, Stop, World, after_meeting, happens, in_world, meets, most_size, moved, size_of, unmoved}
use Rattle.law_names.proofs.Table.{Reaction, Session, apply}
use Rattle.quorum_stays.specs.Serving.{IsServed}
use Rattle.quorum_timed.specs.Timed.{Again, Arriving, Asking, Comes, Firing, Leads, Pace, Timed, at_time}
use Rattle.std.proofs.Common.{Bool, Err, List, Ok, Result, [], ap, nat_lt, refl, subst, sym, ℕ, ◌++◌, ◌∙◌, ◌∷◌, ◌≡◌}
use Rattle.std.proofs.lemmas.Bool.{cond_both}
use Rattle.std.proofs.lemmas.List.{append-nil, append_assoc}

-- more was replied
abbrev pub Grew : World → World → Type 0
Grew w next = (new : List Replied) × (next.replied ≡ w.replied ++ new)

pub grew_on : (a b c : World) → Grew a b → Grew b c → Grew a c
grew_on a b c x y = (x.0 ++ y.0, y.1 ∙ ap (λ (z : List Replied). z ++ y.0) x.1 ∙ append_assoc a.replied x.0 y.0)

pub served_later : (a b c : World) (i : ℕ) (session : Session) → IsServed a b i session → Grew b c → IsServed a c i session
served_later a b c i session k g = record {
  earlier = k.earlier;
  answer = k.answer;
  later = k.later ++ g.0;
  replied = g.1 ∙ ap (λ (z : List Replied). z ++ g.0) k.replied ∙ append_assoc (a.replied ++ k.earlier) (k.answer ∷ k.later) g.0;
  rank_is = k.rank_is;
  session_is = k.session_is;
  answers = k.answers;
}

pub served_earlier : (a b c : World) (i : ℕ) (session : Session) → Grew a b → IsServed b c i session → IsServed a c i session
served_earlier a b c i session g k = record {
  earlier = g.0 ++ k.earlier;
  answer = k.answer;
  later = k.later;
  replied = k.replied ∙ ap (λ (z : List Replied). (z ++ k.earlier) ++ k.answer ∷ k.later) g.1 ∙ ap (λ (z : List Replied). z ++ k.answer ∷ k.later) (append_assoc a.replied g.0 k.earlier);
  rank_is = k.rank_is;
  session_is = k.session_is;
  answers = k.answers;
}

module _ (ms : Monitors) (w : World) (p : Plain) (next : World) where
  unmoved_grew : ◌≡◌ {A = Result World Stop} (Ok (unmoved w p)) (Ok next) → Grew w next
  unfolding unmoved
  unmoved_grew e = let same : unmoved w p ≡ next = cc in ([], ap (λ (z : World). z.replied) (sym same) ∙ sym (append-nil w.replied))

  moved_grew : (i : ℕ) (r : Reaction) → ◌≡◌ {A = Result World Stop} (Ok (moved w p i r)) (Ok next) → Grew w next
  unfolding moved
  moved_grew i r e = let same : moved w p i r ≡ next = cc in (_, ap (λ (z : World). z.replied) (sym same) ∙ refl)

  meets_grew : (m : Meeting) → after_meeting w (Arrives p) m ≡ Ok next → Grew w next
  meets_grew NoMessage e = unmoved_grew e
  meets_grew Down e = unmoved_grew e
  meets_grew (Reacts i input (Err which)) e = absurd cc
  meets_grew (Reacts i input (Ok r)) e =
      cond_both (nat_lt most_size (size_of (apply r.transaction (w.store i)))) (Err (Full (size_of (apply r.transaction (w.store i))))) (Ok r) (λ (o : Result Reaction Stop). in_world (moved w p i) o ≡ Ok next → Grew w next)
      (λ _ k. absurd cc) (λ _ k. moved_grew i r k) e

  pub grew : happens ms w (Arrives p) ≡ Ok next → Grew w next
  grew e = meets_grew (meets ms w p) e

-- in a timed run
module _ (ms : Monitors) (q : List Bool) (pace : Pace) where
  happened_grew : (t next : Timed) (e : Event) (p : Plain) → e ≡ Arrives p → happens ms t.world e ≡ Ok next.world → Grew t.world next.world
  happened_grew t next e p is h = grew ms t.world p next.world (subst (λ (z : Event). happens ms t.world z ≡ Ok next.world) is h)

  pub comes_grew : (t next : Timed) (e : Event) → Comes ms q pace t next e → Grew t.world next.world
  comes_grew t next e (Arriving f i qf qi o others first is went) = happened_grew t next e _ is went.happened
  comes_grew t next e (Again f i qf qi n calls is went) = happened_grew t next e _ is went.happened
  comes_grew t next e (Firing i qi s up kind end set due is went) = happened_grew t next e _ is went.happened
  comes_grew t next e (Asking i qi session request is went) = happened_grew t next e _ is went.happened

  pub leads_grew : (more : List (ℕ × Event)) (t last : Timed) → Leads ms q pace t more last → Grew t.world last.world
  leads_grew [] t last L = ([], ap (λ (z : Timed). z.world.replied) L.1 ∙ sym (append-nil t.world.replied))
  leads_grew ((u, e) ∷ more) t last L = grew_on t.world L.1.0.world last.world (comes_grew (at_time ms q pace u t) L.1.0 e L.1.1) (leads_grew more L.1.0 last L.1.2)
